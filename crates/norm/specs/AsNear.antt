-- When one float is as near to a square root as another, by comparing squares of whole numbers. Assumes nothing.
use Rattle.std.specs.Prelude.{Bool, true, false, ℕ, ◌+◌, ◌-◌, ◌*◌, ◌≤◌, ◌<◌, ℤ, pos, negsuc, Float}
use Rattle.std.proofs.Common.{arith, lit<}
use Rattle.std.specs.Float.{nan, inf, fin}
use Rattle.std.specs.Float.Ieee.{up, down}

-- √(n / d) is on B / D's side of the mean of A / D and B / D, or at the mean; where t is true, on the side of -B / D.
-- Twice the root is held to their sum by comparing squares, 4 n D² with (A ± B)² d. No root is below zero, so A - B may stop at 0.
abbrev pub OnSide : ℕ → ℕ → ℕ → ℕ → Bool → ℕ → Type 0
OnSide n d D A false B = (B < A → 4 * n * (D * D) ≤ (A + B) * (A + B) * d) × (A < B → (A + B) * (A + B) * d ≤ 4 * n * (D * D))
OnSide n d D A true B = 0 < A + B → 4 * n * (D * D) ≤ (A - B) * (A - B) * d

-- y is as near to √(n / d) as r is, for an n / d above zero and an r at or above zero: the root is on y's side of the mean of the two, or at the mean.
-- A NaN and an infinity are near nothing. The two numbers are over the common denominator of their powers of two.
abbrev pub AsNear : ℕ → ℕ → Float → Float → Type 0
AsNear n d nan y = ⊥
AsNear n d (inf s) y = ⊥
AsNear n d (fin true a e) y = ⊥
AsNear n d (fin false a e) nan = ⊥
AsNear n d (fin false a e) (inf t) = ⊥
AsNear n d (fin false a e) (fin t b f) = OnSide n d (down e * down f) (a * up e * down f) t (b * up f * down e)

-- ---- examples

-- 3/2 is as near to √2 as 1 is
nearer : AsNear 2 1 (fin false 1 (pos 0)) (fin false 3 (negsuc 0))
nearer = omega arith

-- 1 is not as near to √2 as 3/2 is
further : AsNear 2 1 (fin false 3 (negsuc 0)) (fin false 1 (pos 0)) → ⊥
further h = omega (arith, h.0 (lit< tt))

-- nor is -1/2
further_below_zero : AsNear 2 1 (fin false 3 (negsuc 0)) (fin true 1 (negsuc 0)) → ⊥
further_below_zero h = omega (arith, h (lit< tt))

-- r is as near as itself
itself : (n d a : ℕ) (e : ℤ) → AsNear n d (fin false a e) (fin false a e)
itself n d a e = omega arith

-- 0 and 2 are as near to 1 as each other
level : AsNear 1 1 (fin false 0 (pos 0)) (fin false 1 (pos 1)) × AsNear 1 1 (fin false 1 (pos 1)) (fin false 0 (pos 0))
level = omega arith
