-- Laws of the queue's slots, as queue/specs/Waiting.antt has them: none is both out and waiting, how many wait, and that an offer leaves a node that
-- waits as it is. Assumes nothing.
use Prim.Native.Nat.{ℕ, zero, suc, ◌≤◌}
use native.Mathlib.Omega.{arith}
use mathlib.Core.Bool.{Bool, true, false, false≢true}
use mathlib.Core.List.{List, [], ◌∷◌}
use mathlib.Core.Path.{◌≡◌, refl, ap}
use lib.ListN.{length, get_or, set, replicate}
use lib.Ieee.{Float, le}
use Rattle.numbers.specs.Choice.{if◌then◌otherwise◌}
use Rattle.queue.specs.Waiting.{Slot, out, waits, taken, below_threshold, reached, answer, answered, offered}
use Rattle.queue.specs.Heap.{is_waiting}

-- a slot that is out is none that waits
pub out_waits : {A : Type 0} (s : Slot) (p : Float) → s ≡ out → s ≡ waits p → A
out_waits s p a b = let z : ◌≡◌ {A = ℕ} 0 1 = cc in absurd (omega arith)

-- in a queue with nobody in it none wait
pub taken_none : (n : ℕ) → taken (replicate n out) ≡ 0
unfolding taken
taken_none zero = refl
taken_none (suc n) = taken_none n

-- no more wait than there are slots
pub taken_length : (slots : List Slot) → taken slots ≤ length slots
unfolding taken
taken_length [] = omega arith
taken_length (out ∷ slots) = let h = taken_length slots in omega arith
taken_length (waits p ∷ slots) = let h = taken_length slots in omega arith

-- one that waits no more makes one fewer
pub taken_fewer : (slots : List Slot) (v : ℕ) (p : Float) → get_or slots v out ≡ waits p → suc (taken (set slots v out)) ≡ taken slots
unfolding taken
taken_fewer [] v p e = out_waits out p refl e
taken_fewer (out ∷ slots) zero p e = out_waits out p refl e
taken_fewer (waits q ∷ slots) zero p e = refl
taken_fewer (out ∷ slots) (suc v) p e = taken_fewer slots v p e
taken_fewer (waits q ∷ slots) (suc v) p e = ap suc (taken_fewer slots v p e)

-- an offer of a node that waits changes nothing, whatever the priority
pub offered_waiting : (threshold : Float) (v : ℕ) (priority : Float) (slots : List Slot) → is_waiting (get_or slots v out) ≡ true
    → offered threshold v priority slots ≡ slots
unfolding offered answer if◌then◌otherwise◌
offered_waiting threshold v priority slots e = go (le threshold priority) (get_or slots v out) e
  where
    go : (b : Bool) (s : Slot) → is_waiting s ≡ true → answered (if b then reached s otherwise below_threshold) v priority slots ≡ slots
    go true out h = absurd (false≢true h)
    go true (waits q) h = refl
    go false s h = refl
