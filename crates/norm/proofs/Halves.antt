-- The root of s * 2 ^ 54 from that of s: with s = a² + rest, the upper half of the root is a, and the lower half is rest * 2 ^ 27 divided by 2 a, or one less.
-- The square of a * 2 ^ 27 + low is s * 2 ^ 54 + low² less what the division leaves times 2 ^ 27. Assumes nothing.
use mathlib.Core.Path.{◌≡◌}
use Prim.Native.Nat.{ℕ, ◌+◌, ◌-◌, ◌*◌, ◌/◌, ◌%◌, ◌^◌, ◌≤◌, ◌<◌}
use native.Mathlib.Nat.{mul-add, add-mul, mul_comm, mul_assoc, mul-le-mul, mul-mul-mul_comm, mod-lt, div-add-mod, div-le_of_le-mul}
use native.Mathlib.Omega.{arith}
use lib.Ieee.Positive.{first_pos}
use Rattle.norm.specs.Steps.{WholeRoot, FloorRoot}
use Rattle.norm.proofs.Squares.{square_back, square_next}

-- (a * 2 ^ 27 + q)², in products that `omega` reads
square_halves : (a q : ℕ) → (a * 2 ^ 27 + q) * (a * 2 ^ 27 + q) ≡ 2 ^ 54 * (a * a) + 2 ^ 28 * (a * q) + q * q
square_halves a q = simp (mul-add, add-mul) (omega (arith, mul-mul-mul_comm a (2 ^ 27) a (2 ^ 27), mul_comm q (a * 2 ^ 27), mul_assoc a (2 ^ 27) q, mul_comm (2 ^ 27) q, mul_assoc a q (2 ^ 27)))

module _ {s a rest : ℕ} (w : WholeRoot s a rest) (low_s : 2 ^ 52 ≤ s) (high_s : s < 2 ^ 54) where
  -- the upper half has 27 digits
  pub upper : 2 ^ 26 ≤ a
  upper =
      let h : 2 ^ 26 < a + 1 = square_back (2 ^ 26) (a + 1) (omega (arith, square_next a, w.is, w.most)) in
      omega arith

  -- what the division leaves is below the divisor
  pub left_less : rest * 2 ^ 27 % (a * 2) < a * 2
  left_less = mod-lt (rest * 2 ^ 27) (omega (arith, upper))

  -- the lower half is at most 2 ^ 27
  pub lower : rest * 2 ^ 27 / (a * 2) ≤ 2 ^ 27
  lower = div-le_of_le-mul (a * 2) (omega (arith, w.most))

  -- s * 2 ^ 54 and the square of the two halves
  square_is : let q = rest * 2 ^ 27 / (a * 2) in s * 2 ^ 54 + q * q ≡ (a * 2 ^ 27 + q) * (a * 2 ^ 27 + q) + rest * 2 ^ 27 % (a * 2) * 2 ^ 27
  square_is =
      let q = rest * 2 ^ 27 / (a * 2) in
      omega (arith, square_halves a q, w.is, div-add-mod (rest * 2 ^ 27) (a * 2), mul_assoc a 2 q, mul_comm 2 q, mul_assoc a q 2)

  -- a root is below 2 ^ 54
  below_top : (r : ℕ) → r * r ≤ s * 2 ^ 54 → r < 2 ^ 54
  below_top r h = square_back r (2 ^ 54) (omega arith)

  -- the two halves, where their square is not too high
  pub exact : let q = rest * 2 ^ 27 / (a * 2) in q * q ≤ rest * 2 ^ 27 % (a * 2) * 2 ^ 27 → FloorRoot (s * 2 ^ 54) (a * 2 ^ 27 + q)
  exact h =
      let q = rest * 2 ^ 27 / (a * 2) in
      let r = a * 2 ^ 27 + q in
      let u : r * r ≤ s * 2 ^ 54 = omega (arith, square_is) in
      record { small = below_top r u; under = u; over = omega (arith, square_is, square_next r, left_less) }

  -- one less, where it is
  pub one_less : let q = rest * 2 ^ 27 / (a * 2) in rest * 2 ^ 27 % (a * 2) * 2 ^ 27 < q * q → FloorRoot (s * 2 ^ 54) (a * 2 ^ 27 + q - 1)
  one_less h =
      let q = rest * 2 ^ 27 / (a * 2) in
      let r = a * 2 ^ 27 + q - 1 in
      let e : r + 1 ≡ a * 2 ^ 27 + q = omega (arith, upper) in
      let u : r * r ≤ s * 2 ^ 54 = omega (arith, square_is, square_next r, same_square e, upper, mul-le-mul lower lower, first_pos q q (omega arith)) in
      record { small = below_top r u; under = u; over = omega (arith, square_is, same_square e) }
    where
      same_square : {x y : ℕ} → x ≡ y → x * x ≡ y * y
      same_square h = cc
