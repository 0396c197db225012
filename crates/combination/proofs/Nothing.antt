-- What is combined to nothing: where at each node the vectors of one of the two solves have +0, and all other numbers are finite, the score is +0.
-- The idea: each product has a zero in it, and so is a zero. Assumes nothing.
use Prim.Native.Nat.{ℕ, zero, suc, ◌<◌, ◌≤◌}
use native.Mathlib.Nat.{le_of_lt}
use mathlib.Core.Logic.{◌⊎◌, inl, inr}
use mathlib.Core.List.{List}
use mathlib.Core.Path.{◌≡◌, refl, ap, ◌∙◌}
use lib.Ieee.{Float}
use Rattle.numbers.specs.Numbers.{+0, ◌⊕◌, ◌⊗◌}
use Rattle.numbers.proofs.Zeros.{Finite, Zero, plus_zero, plus_zero_or_not, times_zero, zero_times, zero_added}
use Rattle.rules.specs.Rules.{at}
use Rattle.rules.specs.Answers.{combined}

-- an estimate and a residual are +0
abbrev pub Nothing : Float → Float → Type 0
Nothing estimate residual = (estimate ≡ +0) × (residual ≡ +0)

-- or one of them is not
pub nothing_or_not : (x y : Float) → Dec (Nothing x y)
nothing_or_not x y = by (plus_zero_or_not x) (plus_zero_or_not y)
  where
    by : Dec (x ≡ +0) → Dec (y ≡ +0) → Dec (Nothing x y)
    by (yes p) (yes q) = yes (p, q)
    by (yes p) (no h) = no (λ z. h z.1)
    by (no h) d = no (λ z. h z.0)

-- the first n numbers of an estimate and of a residual are finite
pub record FiniteBelow (n : ℕ) (estimate residual : List Float) : Type 0 where
  pub estimates : (v : ℕ) → v < n → Finite (at estimate v)
  pub residuals : (v : ℕ) → v < n → Finite (at residual v)

-- three zeros added to +0
all_added : {a b c : Float} → Zero a → Zero b → Zero c → ((+0 ⊕ a) ⊕ b) ⊕ c ≡ +0
all_added {a} {b} {c} x y z = ap (λ (s : Float). (s ⊕ b) ⊕ c) (zero_added x) ∙ ap (λ (s : Float). s ⊕ c) (zero_added y) ∙ zero_added z

module _ (alpha : Float) (part : Finite alpha) (n : ℕ) (be br fe fr : List Float) (b : FiniteBelow n be br) (f : FiniteBelow n fe fr)
    (either : (v : ℕ) → v < n → Nothing (at be v) (at br v) ⊎ Nothing (at fe v) (at fr v)) where
  -- what a node adds
  node_added : (v : ℕ) → v < n → ((+0 ⊕ (at be v ⊗ at fe v)) ⊕ ((at br v ⊗ at fe v) ⊗ alpha)) ⊕ ((at be v ⊗ at fr v) ⊗ alpha) ≡ +0
  node_added v l = go (either v l)
    where
      go : Nothing (at be v) (at br v) ⊎ Nothing (at fe v) (at fr v) → ((+0 ⊕ (at be v ⊗ at fe v)) ⊕ ((at br v ⊗ at fe v) ⊗ alpha)) ⊕ ((at be v ⊗ at fr v) ⊗ alpha) ≡ +0
      go (inl z) =
          all_added (zero_times (at fe v) (plus_zero z.0) (f.estimates v l)) (zero_times alpha (zero_times (at fe v) (plus_zero z.1) (f.estimates v l)) part)
          (zero_times alpha (zero_times (at fr v) (plus_zero z.0) (f.residuals v l)) part)
      go (inr z) =
          all_added (times_zero (at be v) (b.estimates v l) (plus_zero z.0)) (zero_times alpha (times_zero (at br v) (b.residuals v l) (plus_zero z.0)) part)
          (zero_times alpha (times_zero (at be v) (b.estimates v l) (plus_zero z.1)) part)

  -- The score is +0.
  pub combined_nothing : (k : ℕ) → k ≤ n → combined alpha be br fe fr k ≡ +0
  unfolding combined
  combined_nothing zero h = refl
  combined_nothing (suc v) h = rw (combined_nothing v (le_of_lt h)) (node_added v h)
