-- From the integer functions' results to a root in units of 2 ^ -1074. Assumes nothing.
use mathlib.Core.Path.{◌≡◌, refl, sym, ap, ◌∙◌, subst}
use Prim.Native.Nat.{ℕ, ◌+◌, ◌-◌, ◌*◌, ◌/◌, ◌%◌, ◌^◌, ◌≤◌, ◌<◌}
use native.Mathlib.Nat.{mul_assoc, mul_left_comm, mul-le-mul_right, mul-lt-mul_of_pos_right}
use native.Mathlib.Omega.{arith}
use lib.Pow.{pow-add, pow_pos}
use Rattle.norm.specs.SquareRoot.{Nearest}
use Rattle.norm.specs.Steps.{NearRoot, Normal, Even, Patterned}
use Rattle.norm.proofs.Squares.{four}

-- a fraction may be multiplied above and below
pub times : {a b q : ℕ} (d : ℕ) → 0 < d → Nearest a b q → Nearest (a * d) (b * d) q
times {a} {b} {q} d p h =
    record {
      from = subst (λ (x : ℕ). x ≤ a * d) (mul_assoc (2 ^ 104) b d) (mul-le-mul_right d h.from);
      to = subst (λ (x : ℕ). a * d < x) (mul_assoc (2 ^ 106) b d) (mul-lt-mul_of_pos_right h.to p);
      over = sub2 (mul_assoc ((2 * q - 1) * (2 * q - 1)) b d) (mul_assoc 4 a d) (mul-lt-mul_of_pos_right h.over p);
      under = sub2 (mul_assoc 4 a d) (mul_assoc ((2 * q + 1) * (2 * q + 1)) b d) (mul-lt-mul_of_pos_right h.under p);
    }
  where
    sub2 : {x x' y y' : ℕ} → x ≡ x' → y ≡ y' → x < y → x' < y'
    sub2 e f l = omega arith

-- the integer function's result as one of the fraction s * 2 ^ 52 / 1
pub whole : {s q : ℕ} → 2 ^ 52 ≤ s → s + 2 ≤ 2 ^ 54 → NearRoot s q → Nearest (s * 2 ^ 52) 1 q
whole l u h = record { from = omega arith; to = omega arith; over = omega arith; under = omega arith }

-- the same number in three forms: n is s * 2 ^ j, t * 4 ^ g is n * 2 ^ 64, and n in the square of the units is t * 2 ^ 52 in those of 4 ^ (g + 479)
regroup : (n t g : ℕ) → t * 4 ^ g ≡ n * 2 ^ 64 → n * 2 ^ 1074 ≡ t * 2 ^ 52 * 4 ^ (g + 479)
regroup n t g e =
    sym (mul_assoc n (2 ^ 64) (2 ^ 1010))
    ∙ ap (λ (x : ℕ). x * 2 ^ 1010) (sym e)
    ∙ go (4 ^ g) (2 ^ 52) (4 ^ 479)
    ∙ ap (λ (x : ℕ). t * 2 ^ 52 * x) (sym (pow-add 4 g 479))
  where
    go : (u E F : ℕ) → t * u * (E * F) ≡ t * E * (u * F)
    go u E F = simp (mul_assoc, mul_left_comm)

-- what `root_of` returns, by the three functions that it calls
pub pattern : {s j t g u f q : ℕ} → j < 2046 → Normal s (j + 64) t g → Even t g u f → NearRoot u q → Patterned s j ((f + 479) * 2 ^ 52 + q)
pattern {s} {j} {t} {g} {u} {f} {q} l a b h =
    let e : u * 4 ^ f ≡ s * 2 ^ j * 2 ^ 64 = b.value ∙ a.value ∙ ap (λ (x : ℕ). s * x) (pow-add 2 j 64) ∙ sym (mul_assoc s (2 ^ j) (2 ^ 64)) in
    record {
      q = q;
      k = f + 479;
      low = h.low;
      high = h.high;
      fits = omega arith;
      is = refl;
      near =
          subst (λ (x : ℕ). Nearest x (4 ^ (f + 479)) q) (sym (regroup (s * 2 ^ j) u f e))
          (subst (λ (x : ℕ). Nearest (u * 2 ^ 52 * 4 ^ (f + 479)) x q) (one_times (4 ^ (f + 479)))
          (times (4 ^ (f + 479)) (subst (λ (x : ℕ). 0 < x) (sym (four (f + 479))) (pow_pos (f + 479 + (f + 479)))) (whole b.low b.high h)));
    }
  where
    one_times : (x : ℕ) → 1 * x ≡ x
    one_times x = omega arith

-- the exponent halved, where it is even
pub halved : (s h : ℕ) → 2 ^ 52 ≤ s → s < 2 ^ 53 → h % 2 ≡ 0 → Even s h s (h / 2)
halved s h a b e =
    let d : h / 2 + h / 2 ≡ h = omega arith in
    record { low = a; high = omega arith; less = omega arith; value = ap (λ (x : ℕ). s * x) (four (h / 2) ∙ ap (λ (x : ℕ). 2 ^ x) d) }

-- the exponent halved, where it is odd: one factor of two goes into the significand
pub halved_odd : (s h : ℕ) → 2 ^ 52 ≤ s → s < 2 ^ 53 → (h % 2 ≡ 0 → ⊥) → Even s h (s * 2) (h / 2)
halved_odd s h a b e =
    let d : 1 + (h / 2 + h / 2) ≡ h = omega arith in
    record {
      low = omega arith;
      high = omega arith;
      less = omega arith;
      value = mul_assoc s 2 (4 ^ (h / 2)) ∙ ap (λ (x : ℕ). s * x) (ap (λ (x : ℕ). 2 * x) (four (h / 2)) ∙ sym (pow-add 2 1 (h / 2 + h / 2)) ∙ ap (λ (x : ℕ). 2 ^ x) d);
    }
