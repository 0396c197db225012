-- The scan for the next node finds the one that every other is under. Assumes nothing.
use mathlib.Core.Path.{◌≡◌, refl, sym, ap₂, ◌∙◌, subst}
use mathlib.Core.List.{List, [], ◌∷◌}
use Prim.Native.Nat.{ℕ, zero, suc, ◌+◌, ◌<◌}
use native.Mathlib.Nat.{zero-add, add-zero}
use native.Mathlib.Omega.{arith}
use lib.ListN.{get_or}
use lib.Dec.{T}
use lib.Ieee.{Float, le}
use Rattle.numbers.proofs.Tests.{of_true, of_false}
use Rattle.numbers.proofs.Choice.{decided}
use Rattle.queue.specs.Waiting.{Slot, out, waits, Best, nobody, best, better, best_from, next}
use Rattle.heap.specs.Entries.{WorkItem, Under}
use Rattle.queue.proofs.Taken.{out_waits}

-- the entry of a node at a priority
abbrev entry : ℕ → Float → WorkItem
entry v p = record { priority = p; node = v }

-- the node N, which waits at P
module _ (N : ℕ) (P : Float) where
  -- every slot of a list whose first is the node v's is under it
  abbrev AllUnder : ℕ → List Slot → Type 0
  AllUnder v slots = (i : ℕ) (p : Float) → get_or slots i out ≡ waits p → Under (entry (v + i) p) (entry N P)

  -- and so is the best so far
  abbrev BestUnder : Best → Type 0
  BestUnder nobody = Unit {0}
  BestUnder (best u q) = Under (entry u q) (entry N P)

  -- the slots after the first one
  rest_under : (v : ℕ) (s : Slot) (slots : List Slot) → AllUnder v (s ∷ slots) → AllUnder (suc v) slots
  rest_under v s slots u i p e = subst (λ (k : ℕ). Under (entry k p) (entry N P)) (omega arith) (u (suc i) p e)

  first_under : (v : ℕ) (p : Float) (slots : List Slot) → AllUnder v (waits p ∷ slots) → Under (entry v p) (entry N P)
  first_under v p slots u = subst (λ (k : ℕ). Under (entry k p) (entry N P)) (add-zero v) (u 0 p refl)

  -- N, once it is the best, stays so: what comes later has a higher node, and so a lower priority
  after : (v : ℕ) (slots : List Slot) → N < v → AllUnder v slots → best_from (best N P) v slots ≡ best N P
  unfolding best_from better
  after v [] h u = refl
  after v (out ∷ slots) h u = after (suc v) slots (omega arith) (rest_under v out slots u)
  after v (waits p ∷ slots) h u =
      decided (λ (b : Best). best_from b (suc v) slots ≡ best N P) (le P p)
      (λ t. let l = (first_under v p slots u).tie (of_true t) in absurd (omega arith))
      (λ t. after (suc v) slots (omega arith) (rest_under v (waits p) slots u))

  -- and so it is where the scan comes to its slot
  here : (v : ℕ) (p : Float) (slots : List Slot) → AllUnder v (waits p ∷ slots) → v ≡ N → p ≡ P → best_from (best v p) (suc v) slots ≡ best N P
  here v p slots u e f =
      ap₂ (λ (x : ℕ) (y : Float). best_from (best x y) (suc v) slots) e f ∙ after (suc v) slots (omega arith) (rest_under v (waits p) slots u)

  -- from a best that is under N, the scan comes to N, which stands i slots further on
  scan : (b : Best) (v i : ℕ) (slots : List Slot) → BestUnder b → AllUnder v slots → v + i ≡ N → get_or slots i out ≡ waits P → best_from b v slots ≡ best N P
  unfolding best_from better
  scan b v i [] k u e s = out_waits out P refl s
  scan b v zero (out ∷ slots) k u e s = out_waits out P refl s
  scan b v (suc i) (out ∷ slots) k u e s = scan b (suc v) i slots k (rest_under v out slots u) (omega arith) s
  scan nobody v zero (waits p ∷ slots) k u e s = here v p slots u (omega arith) (cc)
  scan (best x q) v zero (waits p ∷ slots) k u e s =
      let same : p ≡ P = cc in
      decided (λ (b : Best). best_from b (suc v) slots ≡ best N P) (le q p)
      (λ t. here v p slots u (omega arith) same)
      (λ t. absurd (of_false t (subst (λ (y : Float). T (le q y)) (sym same) k.low)))
  scan nobody v (suc i) (waits p ∷ slots) k u e s =
      scan (best v p) (suc v) i slots (first_under v p slots u) (rest_under v (waits p) slots u) (omega arith) s
  scan (best x q) v (suc i) (waits p ∷ slots) k u e s =
      decided (λ (b : Best). best_from b (suc v) slots ≡ best N P) (le q p)
      (λ t. scan (best v p) (suc v) i slots (first_under v p slots u) (rest_under v (waits p) slots u) (omega arith) s)
      (λ t. scan (best x q) (suc v) i slots k (rest_under v (waits p) slots u) (omega arith) s)

-- a node that waits, and that every other that waits is under, is next
pub next_is : (slots : List Slot) (N : ℕ) (P : Float) → get_or slots N out ≡ waits P
    → ((v : ℕ) (p : Float) → get_or slots v out ≡ waits p → Under (entry v p) (entry N P)) → next slots ≡ best N P
unfolding next
next_is slots N P s u =
    scan N P nobody 0 N slots tt (λ i p e. subst (λ (k : ℕ). Under (entry k p) (entry N P)) (sym (zero-add i)) (u i p e)) (zero-add N) s
