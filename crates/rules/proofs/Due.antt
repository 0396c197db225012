-- Whose turn it is: one who waits, while a push is left. Where nobody waits, nobody is next, and the other way round. Assumes nothing.
use Prim.Native.Nat.{ℕ, zero, suc, ◌+◌, ◌<◌}
use native.Mathlib.Nat.{zero-add, lt_of_not-le}
use native.Mathlib.Omega.{arith}
use mathlib.Core.Bool.{Bool, true, false, false≢true}
use mathlib.Core.Path.{◌≡◌, refl, sym, ap, ◌∙◌, subst}
use mathlib.Core.List.{List, [], ◌∷◌}
use borrow.Author.Tests.{ltb-true}
use lib.ListN.{length, get_or, get_or-eq_default}
use lib.Ieee.{Float}
use Rattle.numbers.proofs.Choice.{decided, either}
use Rattle.numbers.proofs.Tests.{both}
use Rattle.refusals.specs.declared.Settings.{Settings}
use Rattle.queue.specs.Waiting.{Slot, out, waits, taken, Best, nobody, best, better, best_from, next}
use Rattle.rules.proofs.Slots.{out_waits}
use Rattle.rules.specs.Rules.{State, Watch, goes_on, due}

-- what is said of the best, where there is one
abbrev Of : (ℕ → Float → Type 0) → Best → Type 0
Of Q nobody = Unit {0}
Of Q (best v p) = Q v p

-- the better of two has what both have
better_of : (Q : ℕ → Float → Type 0) (b : Best) (v : ℕ) (p : Float) → Of Q b → Q v p → Of Q (better b v p)
unfolding better
better_of Q nobody v p h k = k
better_of Q (best u q) v p h k = either (Of Q) _ k h

-- and so has the best of all that wait
best_of : (Q : ℕ → Float → Type 0) (b : Best) (u : ℕ) (slots : List Slot) → Of Q b → ((k : ℕ) (p : Float) → get_or slots k out ≡ waits p → Q (u + k) p)
    → Of Q (best_from b u slots)
unfolding best_from
best_of Q b u [] h g = h
best_of Q b u (out ∷ slots) h g = best_of Q b (suc u) slots h (λ k p e. subst (λ (x : ℕ). Q x p) (omega arith) (g (suc k) p e))
best_of Q b u (waits q ∷ slots) h g =
    best_of Q (better b u q) (suc u) slots (better_of Q b u q h (subst (λ (x : ℕ). Q x q) (omega arith) (g 0 q refl)))
    (λ k p e. subst (λ (x : ℕ). Q x p) (omega arith) (g (suc k) p e))

-- who waits has a slot
slot_inside : (slots : List Slot) (v : ℕ) (p : Float) → get_or slots v out ≡ waits p → v < length slots
slot_inside slots v p e = lt_of_not-le (λ h. out_waits (get_or slots v out) p (get_or-eq_default slots out h) e)

-- where nobody waits, nobody is found
found_none : (v : ℕ) (slots : List Slot) → taken slots ≡ 0 → best_from nobody v slots ≡ nobody
unfolding best_from taken
found_none v [] h = refl
found_none v (out ∷ slots) h = found_none (suc v) slots h
found_none v (waits p ∷ slots) h = absurd (omega arith)

-- and so nobody is next
pub next_none : (slots : List Slot) → taken slots ≡ 0 → next slots ≡ nobody
unfolding next
next_none slots h = found_none 0 slots h

-- whether somebody is found
abbrev is_somebody : Best → Bool
is_somebody nobody = false
is_somebody (best v p) = true

-- the better of two is somebody
better_found : (b : Best) (v : ℕ) (p : Float) → is_somebody (better b v p) ≡ true
unfolding better
better_found nobody v p = refl
better_found (best u q) v p = either (λ b. is_somebody b ≡ true) _ refl refl

-- where nobody is found, nobody was found before, and nobody waits
none_found : (b : Best) (u : ℕ) (slots : List Slot) → best_from b u slots ≡ nobody → (b ≡ nobody) × ((k : ℕ) → get_or slots k out ≡ out)
unfolding best_from
none_found b u [] e = (e, λ k. refl)
none_found b u (out ∷ slots) e = let z = none_found b (suc u) slots e in (z.0, all z.1)
  where
    all : ((k : ℕ) → get_or slots k out ≡ out) → (k : ℕ) → get_or (out ∷ slots) k out ≡ out
    all h zero = refl
    all h (suc k) = h k
none_found b u (waits p ∷ slots) e = absurd (false≢true (sym (ap is_somebody (none_found (better b u p) (suc u) slots e).0) ∙ better_found b u p))

-- and so, where nobody is next, nobody waits
pub nobody_waits : (slots : List Slot) → next slots ≡ nobody → (k : ℕ) → get_or slots k out ≡ out
unfolding next
nobody_waits slots e = (none_found nobody 0 slots e).1

-- ---- whose turn it is

-- v may go: a push is left, and v waits
pub record MayGo (settings : Settings) (s : State) (v : ℕ) (p : Float) : Type 0 where
  pub left : s.pushes < settings.max_pushes
  pub slot : get_or s.slots v out ≡ waits p

-- whose turn it is, may go
pub due_may_go : (settings : Settings) (watch : Watch) (s : State) (v : ℕ) (p : Float) → due settings watch s ≡ best v p → MayGo settings s v p
unfolding due goes_on next
due_may_go settings watch s v p e = subst (Of (MayGo settings s)) e all
  where
    all : Of (MayGo settings s) (due settings watch s)
    all =
        decided (Of (MayGo settings s)) _
        (λ t. best_of (MayGo settings s) nobody 0 s.slots tt
        (λ k q h. record { left = ltb-true _ _ (both _ _ t).0; slot = rw zero-add h })) (λ t. tt)

-- whose turn it is, is a node of the queue
pub due_inside : (settings : Settings) (watch : Watch) (s : State) (v : ℕ) (p : Float) → due settings watch s ≡ best v p → v < length s.slots
due_inside settings watch s v p e = slot_inside s.slots v p (due_may_go settings watch s v p e).slot
