-- Squares and powers of whole numbers, in the forms that `omega` reads. Assumes nothing.
use mathlib.Core.Path.{◌≡◌, refl, sym, ap, ◌∙◌}
use Prim.Native.Nat.{ℕ, zero, suc, ◌+◌, ◌*◌, ◌^◌, ◌≤◌, ◌<◌}
use native.Mathlib.Nat.{le_trans, lt_of_not-le, not-le_of_lt, mul_comm, mul_assoc, mul-add, add-mul, mul-le-mul, mul-le-mul_right, mul-mul-mul_comm}
use native.Mathlib.Omega.{arith}
use lib.Pow.{pow-add}

-- (2 r)² is 4 r²
pub square_twice : (r : ℕ) → r * 2 * (r * 2) ≡ 4 * (r * r)
square_twice r = mul-mul-mul_comm r 2 r 2 ∙ mul_comm (r * r) 4

-- (a + 1)² is a² + 2 a + 1
pub square_next : (a : ℕ) → (a + 1) * (a + 1) ≡ a * a + 2 * a + 1
square_next a = simp (mul-add, add-mul) (omega arith)

-- (2 r + 1)² is 4 r² + 4 r + 1
pub square_odd : (r : ℕ) → (r * 2 + 1) * (r * 2 + 1) ≡ 4 * (r * r) + 4 * r + 1
square_odd r = omega (arith, square_next (r * 2), square_twice r)

-- a number is below another if its square is
pub square_back : (a b : ℕ) → a * a < b * b → a < b
square_back a b h = lt_of_not-le (λ (g : b ≤ a). not-le_of_lt h (mul-le-mul g g))

-- one more turn takes a power of two to its double
pub next_two : (i : ℕ) → 2 ^ (i + 1) ≡ 2 ^ i * 2
next_two i = pow-add 2 i 1

-- and a power of four to its fourfold
pub next_four : (s i : ℕ) → s * 4 ^ (i + 1) ≡ s * 4 ^ i * 4
next_four s i = ap (λ (x : ℕ). s * x) (pow-add 4 i 1) ∙ sym (mul_assoc s (4 ^ i) 4)

-- a number below another has a smaller square
pub square_less : (a b : ℕ) → a < b → a * a < b * b
square_less a b h = lt_of_not-le (λ (g : b * b ≤ a * a). not-le_of_lt (omega (arith, square_next a)) (le_trans (mul-le-mul h h) g))

-- v² d is at most w² d where v is at most w
pub square_mono : (d : ℕ) {v w : ℕ} → v ≤ w → v * v * d ≤ w * w * d
square_mono d h = mul-le-mul_right d (mul-le-mul h h)

-- 4 ^ g is 2 ^ (g + g)
pub four : (g : ℕ) → 4 ^ g ≡ 2 ^ (g + g)
four zero = refl
four (suc g) =
    let e : g + 1 ≡ suc g = omega arith in
    let d : g + g + 2 ≡ suc g + suc g = omega arith in
    ap (λ (x : ℕ). 4 ^ x) (sym e) ∙ pow-add 4 g 1 ∙ ap (λ (x : ℕ). x * 4) (four g) ∙ sym (pow-add 2 (g + g) 2) ∙ ap (λ (x : ℕ). 2 ^ x) d

-- (c * 2 ^ k)² d is c² (4 ^ k d)
pub square_scaled : (c k d : ℕ) → c * 2 ^ k * (c * 2 ^ k) * d ≡ c * c * (4 ^ k * d)
square_scaled c k d = rw (mul-mul-mul_comm c (2 ^ k) c (2 ^ k), ← pow-add 2 k k, ← four k, mul_assoc (c * c) (4 ^ k) d)
