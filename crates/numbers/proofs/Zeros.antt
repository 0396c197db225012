-- Sums and products with zeros. 0 is rounded to a zero, so a finite number times a zero is a zero, and a zero added to +0 is +0. Assumes nothing.
use Prim.Native.Nat.compare
use Prim.Native.Nat.{ℕ, zero, suc, ◌*◌, compare}
use native.Mathlib.Nat.{mul-zero, zero-mul, zero-div, zero-mod}
use mathlib.Core.Bool.{Bool, true, false, ◌&&◌, false≢true}
use mathlib.Core.Path.{◌≡◌, refl, ap, ◌∙◌}
use lib.IntN.{pos, negsuc}
use lib.Ieee.{Float, nan, inf, fin, binary64, of_bits, le, lt, eq, add, sum, mul, unlike, up, down, round, units, odd, size, span, climb, nearest}
use Rattle.numbers.specs.Numbers.{+0, one, ◌⊕◌, ◌⊗◌}

-- a number, and neither a NaN nor an infinity
abbrev pub Finite : Float → Type 0
Finite nan = ⊥
Finite (inf s) = ⊥
Finite (fin s m e) = Unit {0}

-- +0 or -0
pub record Zero (x : Float) : Type 0 where
  pub sign : Bool
  pub is : x ≡ fin sign 0 (pos 0)

-- +0 is one
pub plus_zero : {x : Float} → x ≡ +0 → Zero x
unfolding of_bits
plus_zero e = record { sign = false; is = e }

-- a number from 0 to 1 is finite
pub part_finite : (a : Float) → le +0 a && le a one ≡ true → Finite a
unfolding le lt eq of_bits
part_finite nan h = absurd (false≢true h)
part_finite (inf true) h = absurd (false≢true h)
part_finite (inf false) h = absurd (false≢true h)
part_finite (fin s m e) h = tt

-- ---- whether a number is +0

-- a test of it
is_plus_zero : Float → Bool
is_plus_zero nan = false
is_plus_zero (inf s) = false
is_plus_zero (fin true m e) = false
is_plus_zero (fin false (suc m) e) = false
is_plus_zero (fin false zero (negsuc k)) = false
is_plus_zero (fin false zero (pos (suc k))) = false
is_plus_zero (fin false zero (pos zero)) = true

-- decides it
pub plus_zero_or_not : (x : Float) → Dec (x ≡ +0)
unfolding of_bits is_plus_zero
plus_zero_or_not nan = no (λ e. false≢true (ap is_plus_zero e))
plus_zero_or_not (inf s) = no (λ e. false≢true (ap is_plus_zero e))
plus_zero_or_not (fin true m k) = no (λ e. false≢true (ap is_plus_zero e))
plus_zero_or_not (fin false (suc m) k) = no (λ e. false≢true (ap is_plus_zero e))
plus_zero_or_not (fin false zero (negsuc k)) = no (λ e. false≢true (ap is_plus_zero e))
plus_zero_or_not (fin false zero (pos (suc k))) = no (λ e. false≢true (ap is_plus_zero e))
plus_zero_or_not (fin false zero (pos zero)) = yes refl

-- ---- rounding

-- twice a remainder of 0 moves nothing up
stays : (u : ℕ) → nearest 0 (compare 0 u) ≡ 0
stays zero = refl
stays (suc u) = rw (compare.zero-suc u)

-- 0 is rounded to a zero
round_zero : (s : Bool) (den : ℕ) → round binary64 s 0 den ≡ fin s 0 (pos 0)
unfolding round units odd size span climb
round_zero s den = rw (zero-div den, zero-div (den * 1), zero-mod (den * 1), stays (den * 1))

-- ---- products and sums

-- a finite number times a zero
pub times_zero : (x : Float) {y : Float} → Finite x → Zero y → Zero (x ⊗ y)
unfolding mul
times_zero nan h z = absurd h
times_zero (inf s) h z = absurd h
times_zero (fin s m e) h z =
    let t = unlike s z.sign in
    record {
      sign = t;
      is = ap (λ (y : Float). fin s m e ⊗ y) z.is ∙ ap (λ (a : ℕ). round binary64 t a (down e * 1)) (mul-zero (m * up e)) ∙ round_zero t (down e * 1);
    }

-- a zero times a finite number
pub zero_times : {x : Float} (y : Float) → Zero x → Finite y → Zero (x ⊗ y)
unfolding mul
zero_times nan z h = absurd h
zero_times (inf s) z h = absurd h
zero_times (fin s m e) z h =
    let t = unlike z.sign s in
    record {
      sign = t;
      is = ap (λ (x : Float). x ⊗ fin s m e) z.is ∙ ap (λ (a : ℕ). round binary64 t a (1 * down e)) (zero-mul (m * up e)) ∙ round_zero t (1 * down e);
    }

-- +0 and a zero of this sign
plus_signed : (s : Bool) → +0 ⊕ fin s 0 (pos 0) ≡ +0
unfolding add sum round units odd size span climb of_bits
plus_signed true = refl
plus_signed false = refl

-- a zero added to +0
pub zero_added : {x : Float} → Zero x → +0 ⊕ x ≡ +0
zero_added z = ap (λ (x : Float). +0 ⊕ x) z.is ∙ plus_signed z.sign
