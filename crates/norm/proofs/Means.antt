-- What `Nearest` says is that no number of the format is nearer to the root: of q * 2 ^ k units and any other p * 2 ^ l units with p < 2 ^ 53, the root is on the first's side of the mean.
-- Twice the root is held to the sum of the two by comparing squares, 4 a with (q * 2 ^ k + p * 2 ^ l)² d. Assumes nothing.
use mathlib.Core.Path.{◌≡◌, ap, ◌∙◌}
use mathlib.Core.Logic.{◌⊎◌, inl, inr}
use Prim.Native.Nat.{ℕ, ◌+◌, ◌-◌, ◌*◌, ◌^◌, ◌≤◌, ◌<◌}
use native.Mathlib.Nat.{lt_of_lt_of_le, lt_of_le_of_lt, eq-or-lt_of_le, lt_of_not-le, mul_assoc, add-mul, mul-le-mul_right, mul-lt-mul_of_pos_right, lt_of_mul-lt-mul_right}
use native.Mathlib.Decide.{dec_le}
use native.Mathlib.Omega.{arith}
use lib.Pow.{pow_mono, pow-add, pow_pos}
use Rattle.norm.specs.SquareRoot.{Nearest}
use Rattle.norm.proofs.Squares.{square_back, square_less, square_mono, square_scaled}

module _ (a d k q : ℕ) (d_pos : 0 < d) (n : Nearest a (4 ^ k * d) q) where
  -- the root is at least 2 ^ 52 * 2 ^ k
  from : 2 ^ 53 * 2 ^ k * (2 ^ 53 * 2 ^ k) * d ≤ 4 * a
  from = rw (square_scaled (2 ^ 53) k d) (omega (arith, n.from))

  -- above (q - 1/2) * 2 ^ k
  over : (2 * q - 1) * 2 ^ k * ((2 * q - 1) * 2 ^ k) * d < 4 * a
  over = rw (square_scaled (2 * q - 1) k d) n.over

  -- and below (q + 1/2) * 2 ^ k
  under : 4 * a < (2 * q + 1) * 2 ^ k * ((2 * q + 1) * 2 ^ k) * d
  under = rw (square_scaled (2 * q + 1) k d) n.under

  -- q has 53 digits
  pub wide : 2 ^ 52 ≤ q
  wide =
      let h : 2 ^ 53 * 2 ^ 53 < (2 * q + 1) * (2 * q + 1) = lt_of_mul-lt-mul_right (4 ^ k * d) (omega (arith, n.from, n.under)) in
      let i : 2 ^ 53 < 2 * q + 1 = square_back (2 ^ 53) (2 * q + 1) h in
      omega arith

  -- the number p * 2 ^ l as a multiple of 2 ^ k, or below every number of 53 digits times 2 ^ k
  finer : (p l : ℕ) → p < 2 ^ 53 → ((m : ℕ) × (p * 2 ^ l ≡ m * 2 ^ k)) ⊎ (p * 2 ^ l < 2 ^ 52 * 2 ^ k)
  finer p l h = go (dec_le k l)
    where
      go : Dec (k ≤ l) → ((m : ℕ) × (p * 2 ^ l ≡ m * 2 ^ k)) ⊎ (p * 2 ^ l < 2 ^ 52 * 2 ^ k)
      go (yes g) =
          let e : l ≡ l - k + k = omega arith in
          inl (p * 2 ^ (l - k), ap (λ (x : ℕ). p * 2 ^ x) e ∙ rw (pow-add, mul_assoc))
      go (no f) =
          let g : 2 ^ (1 + l) ≤ 2 ^ k = pow_mono {i = 1 + l} {j = k} (omega (arith, lt_of_not-le f)) in
          inr (omega (arith, pow-add 2 1 l, mul-lt-mul_of_pos_right h (pow_pos l)))

  -- multiples of 2 ^ k in order differ by 2 ^ k or more
  apart : (m m' : ℕ) → m * 2 ^ k < m' * 2 ^ k → m * 2 ^ k + 2 ^ k ≤ m' * 2 ^ k
  apart m m' h = omega (arith, add-mul m 1 (2 ^ k), mul-le-mul_right (2 ^ k) (lt_of_mul-lt-mul_right (2 ^ k) h))

  -- a larger number is further off
  pub closer_than_above : (p l : ℕ) → p < 2 ^ 53 → q * 2 ^ k < p * 2 ^ l → 4 * a < (q * 2 ^ k + p * 2 ^ l) * (q * 2 ^ k + p * 2 ^ l) * d
  closer_than_above p l h g = elim (finer p l h) [
    | inl z ↦
        let i = apart q z.0 (omega (arith, z.1)) in
        lt_of_lt_of_le under (square_mono d (omega (arith, z.1, add-mul (2 * q) 1 (2 ^ k), mul_assoc 2 q (2 ^ k))))
    | inr z ↦ let i = mul-le-mul_right (2 ^ k) wide in absurd (omega arith)
  ]

  -- a number that is smaller by 2 ^ k or more is further off
  step_below : (v : ℕ) → v + 2 ^ k ≤ q * 2 ^ k → (q * 2 ^ k + v) * (q * 2 ^ k + v) * d < 4 * a
  step_below v i =
      let w = wide in
      let e : 2 * q - 1 + 1 ≡ 2 * q = omega arith in
      lt_of_le_of_lt (square_mono d (omega (arith, add-mul (2 * q - 1) 1 (2 ^ k), ap (λ (x : ℕ). x * 2 ^ k) e, mul_assoc 2 q (2 ^ k)))) over

  -- a smaller number is further off: where q is 2 ^ 52 it may be smaller by less than 2 ^ k, and there the root is at least q * 2 ^ k
  pub closer_than_below : (p l : ℕ) → p < 2 ^ 53 → p * 2 ^ l < q * 2 ^ k → (q * 2 ^ k + p * 2 ^ l) * (q * 2 ^ k + p * 2 ^ l) * d < 4 * a
  closer_than_below p l h g = elim (finer p l h) [
    | inl z ↦ step_below (p * 2 ^ l) (omega (arith, z.1, apart z.0 q (omega (arith, z.1))))
    | inr z ↦
        elim (eq-or-lt_of_le wide) [
          | inl e ↦ lt_of_lt_of_le (mul-lt-mul_of_pos_right (square_less _ (2 ^ 53 * 2 ^ k) (omega (arith, ap (λ (x : ℕ). x * 2 ^ k) e))) d_pos) from
          | inr e ↦ step_below (p * 2 ^ l) (omega (arith, add-mul (2 ^ 52) 1 (2 ^ k), mul-le-mul_right (2 ^ k) e))
        ]
  ]
