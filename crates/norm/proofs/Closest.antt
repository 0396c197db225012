-- What `Root` says of a number above zero is that no other number of the format is as near to the true root.
-- `Means.antt` says it in units of 2 ^ -1074, and `AsNear` over the denominator that two floats share: a fraction in units is put over that denominator. Assumes nothing.
use mathlib.Core.Path.{◌≡◌, sym, ap, ◌∙◌, subst, subst₂}
use mathlib.Core.Bool.{true, false}
use Prim.Native.Nat.{ℕ, suc, ◌+◌, ◌*◌, ◌^◌, ◌≤◌, ◌<◌}
use native.Mathlib.Nat.{le_trans, not-le_of_lt, mul_comm, mul_assoc, mul_right_comm, mul-mul-mul_comm, mul-pos, add-mul, mul-le-mul_right, mul-lt-mul_of_pos_right, lt_of_mul-lt-mul_right, le_of_mul-le-mul_right}
use native.Mathlib.Omega.{arith}
use lib.Pow.{pow_pos}
use lib.IntN.{ℤ}
use lib.Dec.{T}
use lib.Ieee.{Float, nan, inf, fin, binary64, up, down, fits}
use lib.Ieee.Digits.{Equals, odd_val}
use lib.Ieee.Fits.{down_pos}
use Rattle.norm.specs.SquareRoot.{Nearest, Rounded, Root}
use Rattle.norm.specs.AsNear.{OnSide, AsNear}
use Rattle.norm.proofs.Squares.{square_mono}
use Rattle.norm.proofs.Means.{wide, closer_than_above, closer_than_below}
use Rattle.norm.proofs.Units.{in_units, same_units}

-- ---- fractions over D in units of 1 / U

-- they are in the order of their units
units_order : (A B R S D U : ℕ) → 0 < D → A * U ≡ R * D → B * U ≡ S * D → S < R → B < A
units_order A B R S D U D_pos i j h = lt_of_mul-lt-mul_right U (omega (arith, mul-lt-mul_of_pos_right h D_pos))

-- a square times another
square_times : (v d U : ℕ) → v * v * d * (U * U) ≡ v * U * (v * U) * d
square_times v d U = mul_right_comm (v * v) d (U * U) ∙ ap (λ (x : ℕ). x * d) (mul-mul-mul_comm v v U U)

-- v / D is w units
module _ (n d v w D U : ℕ) (D_pos : 0 < D) (e : v * U ≡ w * D) where
  -- so their squares are equal
  squares : v * v * d * (U * U) ≡ w * w * d * (D * D)
  squares = square_times v d U ∙ ap (λ (x : ℕ). x * x * d) e ∙ sym (square_times w d D)

  -- and so are those of twice the root of n / d
  roots : 4 * n * (D * D) * (U * U) ≡ 4 * (n * (U * U)) * (D * D)
  roots = mul_right_comm (4 * n) (D * D) (U * U) ∙ ap (λ (x : ℕ). x * (D * D)) (mul_assoc 4 n (U * U))

  -- twice the root is at most v / D, so it is at most w units
  at_most : 4 * n * (D * D) ≤ v * v * d → 4 * (n * (U * U)) ≤ w * w * d
  at_most h = le_of_mul-le-mul_right (subst₂ (λ (x y : ℕ). x ≤ y) roots squares (mul-le-mul_right (U * U) h)) (mul-pos D_pos D_pos)

  -- and at least
  at_least : v * v * d ≤ 4 * n * (D * D) → w * w * d ≤ 4 * (n * (U * U))
  at_least h = le_of_mul-le-mul_right (subst₂ (λ (x y : ℕ). x ≤ y) squares roots (mul-le-mul_right (U * U) h)) (mul-pos D_pos D_pos)

-- A / D is the q * 2 ^ k units that are nearest to the root
module _ (n d k q : ℕ) (d_pos : 0 < d) (U D A : ℕ) (D_pos : 0 < D) (z : Nearest (n * (U * U)) (4 ^ k * d) q) (i : A * U ≡ q * 2 ^ k * D) where
  -- what is as near has as many units
  as_near_same : (p l B : ℕ) → p < 2 ^ 53 → B * U ≡ p * 2 ^ l * D → OnSide n d D A false B → p * 2 ^ l ≡ q * 2 ^ k
  as_near_same p l B h j c =
      let R = q * 2 ^ k in
      let S = p * 2 ^ l in
      let sum : (A + B) * U ≡ (R + S) * D = omega (arith, add-mul A B U, add-mul R S D) in
      let not_less : ¬ (S < R) = λ g. not-le_of_lt (closer_than_below (n * (U * U)) d k q d_pos z p l h g) (at_most n d (A + B) (R + S) D U D_pos sum (c.0 (units_order A B R S D U D_pos i j g))) in
      let not_more : ¬ (R < S) = λ g. not-le_of_lt (closer_than_above (n * (U * U)) d k q d_pos z p l h g) (at_least n d (A + B) (R + S) D U D_pos sum (c.1 (units_order B A S R D U D_pos j i g))) in
      omega arith

  -- nothing below zero is as near, since zero would be too
  none_below_zero : (B : ℕ) → OnSide n d D A true B → ⊥
  none_below_zero B c =
      let r : 0 < q * 2 ^ k = mul-pos (omega (arith, wide (n * (U * U)) d k q d_pos z)) (pow_pos k) in
      let a : 0 < A = units_order A 0 (q * 2 ^ k) 0 D U D_pos i (omega arith) r in
      let e = as_near_same 0 0 0 (omega arith) (omega arith) (λ g. le_trans (c (omega arith)) (square_mono d (omega arith)), λ g. absurd (omega arith)) in
      omega arith

-- ---- floats

-- x / c is R units, and so is x * d over c * d
over_common : (x U R c d : ℕ) → x * U ≡ R * c → x * d * U ≡ R * (c * d)
over_common x U R c d h = mul_right_comm x d U ∙ ap (λ (y : ℕ). y * d) h ∙ mul_assoc R c d

-- a root that is a * 2 ^ e, and a number b * 2 ^ f or its negative
module _ (n d : ℕ) (d_pos : 0 < d) (a : ℕ) (e : ℤ) (z : Rounded n d (fin false a e)) (b : ℕ) (f : ℤ) where
  -- the root in units
  root_units : a * up e * 2 ^ 1074 ≡ z.q * 2 ^ z.k * down e
  root_units = subst (λ (x : Float). Equals x (z.q * 2 ^ z.k) (2 ^ 1074)) (sym z.is) (odd_val 53 false z.q z.k 1074)

  -- and over the common denominator
  root_common : a * up e * down f * 2 ^ 1074 ≡ z.q * 2 ^ z.k * (down e * down f)
  root_common = over_common (a * up e) (2 ^ 1074) (z.q * 2 ^ z.k) (down e) (down f) root_units

  -- the number is as near: it is the root
  above : T (fits binary64 (fin false a e)) → T (fits binary64 (fin false b f)) → AsNear n d (fin false a e) (fin false b f) → fin false b f ≡ fin false a e
  above g h c =
      let (p, l, small, u) = in_units (fin false b f) h in
      let j = over_common (b * up f) (2 ^ 1074) (p * 2 ^ l) (down f) (down e) u ∙ ap (λ (x : ℕ). p * 2 ^ l * x) (mul_comm (down f) (down e)) in
      let same = as_near_same n d z.k z.q d_pos (2 ^ 1074) (down e * down f) (a * up e * down f) (mul-pos (down_pos e) (down_pos f)) z.near root_common p l (b * up f * down e) small j c in
      same_units false b f a e (z.q * 2 ^ z.k) h g (u ∙ ap (λ (x : ℕ). x * down f) same) root_units

  -- its negative is not as near
  below : AsNear n d (fin false a e) (fin true b f) → ⊥
  below = none_below_zero n d z.k z.q d_pos (2 ^ 1074) (down e * down f) (a * up e * down f) (mul-pos (down_pos e) (down_pos f)) z.near root_common (b * up f * down e)

-- r is the root of x = (m + 1) * 2 ^ e: whatever of the format is as near to the true root of x as r is r itself
pub closest : (m : ℕ) (e : ℤ) (r y : Float) → Root (fin false (suc m) e) r → T (fits binary64 r) → T (fits binary64 y) → AsNear (suc m * up e) (down e) r y → y ≡ r
closest m e nan y z g h c = absurd c
closest m e (inf s) y z g h c = absurd c
closest m e (fin true a i) y z g h c = absurd c
closest m e (fin false a i) nan z g h c = absurd c
closest m e (fin false a i) (inf t) z g h c = absurd c
closest m e (fin false a i) (fin true b j) z g h c = absurd (below (suc m * up e) (down e) (down_pos e) a i z b j c)
closest m e (fin false a i) (fin false b j) z g h c = above (suc m * up e) (down e) (down_pos e) a i z b j g h c
