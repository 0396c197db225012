-- How many nodes wait, when one slot changes. Assumes nothing.
use mathlib.Core.Path.{◌≡◌, refl, ap}
use mathlib.Core.Logic.{◌⊎◌, inl, inr}
use mathlib.Core.List.{List, [], ◌∷◌}
use Prim.Native.Nat.{ℕ, zero, suc, ◌≤◌, ◌<◌, suc-le-suc, zero-le}
use native.Mathlib.Nat.{le_refl, le-suc, le_trans, le_of_suc-le-suc, not-suc-le-zero}
use native.Mathlib.Omega.{arith}
use lib.ListN.{length, get_or, set, replicate}
use lib.Ieee.{Float}
use Rattle.queue.specs.Waiting.{Slot, out, waits, taken}

-- a slot that is out is none that waits
pub out_waits : {A : Type 0} (s : Slot) (p : Float) → s ≡ out → s ≡ waits p → A
out_waits s p a b = let z : ◌≡◌ {A = ℕ} 0 1 = cc in absurd (omega arith)

-- in a queue with nobody in it none wait
pub taken_none : (n : ℕ) → taken (replicate n out) ≡ 0
unfolding taken
taken_none zero = refl
taken_none (suc n) = taken_none n

-- the node v has a slot, and is out
pub record Free (slots : List Slot) (v : ℕ) : Type 0 where
  pub inside : v < length slots
  pub empty : get_or slots v out ≡ out

-- one more waits where the slot was free, and else as many
pub taken_set : (slots : List Slot) (v : ℕ) (p : Float)
    → (Free slots v × (taken (set slots v (waits p)) ≡ suc (taken slots))) ⊎ ((Free slots v → ⊥) × (taken (set slots v (waits p)) ≡ taken slots))
unfolding taken
taken_set [] v p = inr (λ f. not-suc-le-zero f.inside, refl)
taken_set (out ∷ slots) zero p = inl (record { inside = suc-le-suc zero-le; empty = refl }, refl)
taken_set (waits q ∷ slots) zero p = inr (λ f. out_waits (waits q) q f.empty refl, refl)
taken_set (out ∷ slots) (suc v) p =
    elim (taken_set slots v p) [
      | inl r ↦ inl (record { inside = suc-le-suc r.0.inside; empty = r.0.empty }, r.1)
      | inr r ↦ inr (λ f. r.0 (record { inside = le_of_suc-le-suc f.inside; empty = f.empty }), r.1)
    ]
taken_set (waits q ∷ slots) (suc v) p =
    elim (taken_set slots v p) [
      | inl r ↦ inl (record { inside = suc-le-suc r.0.inside; empty = r.0.empty }, ap suc r.1)
      | inr r ↦ inr (λ f. r.0 (record { inside = le_of_suc-le-suc f.inside; empty = f.empty }), ap suc r.1)
    ]

-- one more waits
pub taken_more : (slots : List Slot) (v : ℕ) (p : Float) → Free slots v → taken (set slots v (waits p)) ≡ suc (taken slots)
taken_more slots v p f = elim (taken_set slots v p) [ inl r ↦ r.1 | inr r ↦ absurd (r.0 f) ]

-- no more wait than there are slots
pub taken_length : (slots : List Slot) → taken slots ≤ length slots
unfolding taken
taken_length [] = le_refl 0
taken_length (out ∷ slots) = le_trans (taken_length slots) (le-suc (length slots))
taken_length (waits p ∷ slots) = suc-le-suc (taken_length slots)
