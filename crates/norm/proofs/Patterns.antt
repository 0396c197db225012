-- What a bit pattern stands for, by ranges of patterns, and which root it has. Assumes nothing.
use mathlib.Core.Path.{◌≡◌, refl, sym, ap, ◌∙◌, subst}
use mathlib.Core.Bool.{Bool, true, false, not, cond, true≢false}
use Prim.Native.Nat.{ℕ, zero, suc, ◌+◌, ◌*◌, ◌/◌, ◌%◌, ◌^◌, ◌≤◌, ◌<◌}
use native.Mathlib.Nat.{mul-pos, mul_assoc, mul_right_comm, zero-mul, lt_irrefl, mod-eq_of_lt}
use native.Mathlib.Omega.{arith}
use lib.Dec.{T, leb, ltb, eqb}
use lib.Pow.{pow_pos}
use lib.Ieee.{Float, nan, inf, fin, binary64, up, down, odd, of_fields, of_bits, nan_bits, is_nan}
use lib.Ieee.Bits.{is_false, nan_bits_above, nan_bits_is}
use lib.Ieee.Fits.{down_pos}
use lib.Ieee.Exact.{HasValue, odd_sign}
use lib.Ieee.Positive.{num, den, den_pos, value→cross}
use borrow.Author.Tests.{ltb-false, le-ltb, lt-leb, le-leb, ne_eqb}
use Rattle.norm.specs.SquareRoot.{Root, Rounded, Nearest}
use Rattle.norm.specs.Steps.{Patterned}
use Rattle.norm.proofs.Scale.{times}

-- ---- the fields

-- a pattern by its three fields
of_bits_is : (b : ℕ) → of_bits binary64 b ≡ of_fields binary64 (leb (2 ^ 63) b) (b % 2 ^ 63 / 2 ^ 52) (b % 2 ^ 52)
unfolding of_bits
of_bits_is b = refl

-- a pattern with the sign clear
clear : (b : ℕ) → b < 2 ^ 63 → of_bits binary64 b ≡ of_fields binary64 false (b / 2 ^ 52) (b % 2 ^ 52)
clear b h =
    of_bits_is b
    ∙ ap (λ (s : Bool). of_fields binary64 s (b % 2 ^ 63 / 2 ^ 52) (b % 2 ^ 52)) (lt-leb (2 ^ 63) b h)
    ∙ ap (λ (x : ℕ). of_fields binary64 false (x / 2 ^ 52) (b % 2 ^ 52)) (mod-eq_of_lt h)

-- a field of 0
low_field : (s : Bool) (t : ℕ) → of_fields binary64 s 0 t ≡ odd 53 s t 0 1074
unfolding of_fields
low_field s t = refl

-- any other field below the infinity's
mid_field : (s : Bool) (j t : ℕ) → (suc j ≡ 2047 → ⊥) → of_fields binary64 s (suc j) t ≡ odd 53 s (2 ^ 52 + t) j 1074
unfolding of_fields
mid_field s j t h = ap (λ (b : Bool). cond b (cond (eqb t 0) (inf s) nan) (odd 53 s (2 ^ 52 + t) j 1074)) (ne_eqb (suc j) 2047 h)

-- a subnormal number's pattern
pub subnormal : (b : ℕ) → b / 2 ^ 52 ≡ 0 → of_bits binary64 b ≡ odd 53 false (b % 2 ^ 52) 0 1074
subnormal b e = clear b (omega arith) ∙ ap (λ (x : ℕ). of_fields binary64 false x (b % 2 ^ 52)) e ∙ low_field false (b % 2 ^ 52)

-- a normal number's pattern
pub normal : (b j : ℕ) → b / 2 ^ 52 ≡ suc j → b < 2047 * 2 ^ 52 → of_bits binary64 b ≡ odd 53 false (2 ^ 52 + b % 2 ^ 52) j 1074
normal b j e h = clear b (omega arith) ∙ ap (λ (x : ℕ). of_fields binary64 false x (b % 2 ^ 52)) e ∙ mid_field false j (b % 2 ^ 52) (omega arith)

-- the pattern k * 2 ^ 52 + q, whose leading digit adds one to the field
pub written : (q k : ℕ) → 2 ^ 52 ≤ q → q < 2 ^ 53 → k < 2045 → of_bits binary64 (k * 2 ^ 52 + q) ≡ odd 53 false q k 1074
written q k a b h =
    let t : 2 ^ 52 + (k * 2 ^ 52 + q) % 2 ^ 52 ≡ q = omega arith in
    normal (k * 2 ^ 52 + q) k (omega arith) (omega arith) ∙ ap (λ (x : ℕ). odd 53 false x k 1074) t

-- ---- the root of a number above zero

-- a number of size 0 is no number of a size above 0
no_size : (a e c : ℕ) → 0 < a → 0 < e → 0 * c * 2 ^ 1074 ≡ a * e → ⊥
no_size a e c p q h = lt_irrefl 0 (subst (λ (x : ℕ). 0 < x) (sym h ∙ zeros) (mul-pos p q))
  where
    zeros : 0 * c * 2 ^ 1074 ≡ 0
    zeros = ap (λ (x : ℕ). x * 2 ^ 1074) (zero-mul c)

-- the root of a number above zero is the rounded one
above_zero : (x r : Float) (a : ℕ) → HasValue x false a (2 ^ 1074) → 0 < a → Rounded (num x) (den x) r → Root x r
above_zero nan r a h p z = absurd h
above_zero (inf s) r a h p z = absurd h
above_zero (fin true m e) r a h p z = absurd (true≢false h.0)
above_zero (fin false zero e) r a h p z = absurd (no_size a (down e) (up e) p (down_pos e) h.1)
above_zero (fin false (suc m) e) r a h p z = z

-- num / den is a / 2 ^ 1074, so num * 4 ^ 1074 is a * 2 ^ 1074 * den
cross : (n d a : ℕ) → n * 2 ^ 1074 ≡ a * d → a * 2 ^ 1074 * d ≡ n * 4 ^ 1074
cross n d a h = mul_right_comm a (2 ^ 1074) d ∙ ap (λ (x : ℕ). x * 2 ^ 1074) (sym h) ∙ mul_assoc n (2 ^ 1074) (2 ^ 1074)

module _ (b : ℕ) {s j r : ℕ} (is : of_bits binary64 b ≡ odd 53 false s j 1074) (p : 0 < s) (h : Patterned s j r) where
  -- the root's pattern is below the infinity's
  pub below_top : r < 2047 * 2 ^ 52
  below_top = go r h.q h.k h.is h.high h.fits
    where
      go : (r q k : ℕ) → r ≡ k * 2 ^ 52 + q → q < 2 ^ 53 → k < 2045 → r < 2047 * 2 ^ 52
      go r q k e a c = omega arith

  -- and it is that of the root of what b stands for
  pub has_root : Root (of_bits binary64 b) (of_bits binary64 r)
  has_root =
      let x = of_bits binary64 b in
      let v : HasValue x false (s * 2 ^ j) (2 ^ 1074) = subst (λ (y : Float). HasValue y false (s * 2 ^ j) (2 ^ 1074)) (sym is) (odd_sign 53 false s j 1074) in
      above_zero x (of_bits binary64 r) (s * 2 ^ j) v (mul-pos p (pow_pos j)) (record {
        q = h.q;
        k = h.k;
        is = ap (of_bits binary64) h.is ∙ written h.q h.k h.low h.high h.fits;
        near =
            subst (λ (y : ℕ). Nearest y (4 ^ h.k * den x) h.q) (cross (num x) (den x) (s * 2 ^ j) (value→cross x (s * 2 ^ j) (2 ^ 1074) v))
            (times (den x) (den_pos x) h.near);
      })

-- ---- below zero, the infinity, and no NaN

-- a number below zero has no root
below_zero : (x : Float) (a : ℕ) → HasValue x true a (2 ^ 1074) → 0 < a → Root x nan
below_zero nan a h p = absurd h
below_zero (inf s) a h p = absurd h
below_zero (fin false m e) a h p = absurd (true≢false (sym h.0))
below_zero (fin true zero e) a h p = absurd (no_size a (down e) (up e) p (down_pos e) h.1)
below_zero (fin true (suc m) e) a h p = refl

-- an odd number below zero
odd_below : (q k : ℕ) → 0 < q → Root (odd 53 true q k 1074) nan
odd_below q k p = below_zero (odd 53 true q k 1074) (q * 2 ^ k) (odd_sign 53 true q k 1074) (mul-pos p (pow_pos k))

-- whatever is read with the sign set, but -0, has no root
signed : (x t : ℕ) → 0 < x * 2 ^ 52 + t → Root (of_fields binary64 true x t) nan
unfolding of_fields
signed zero t h = odd_below t 0 (omega arith)
signed (suc x) t h = go (eqb (suc x) 2047) (eqb t 0)
  where
    go : (a b : Bool) → Root (cond a (cond b (inf true) nan) (odd 53 true (2 ^ 52 + t) x 1074)) nan
    go true true = refl
    go true false = refl
    go false b = odd_below (2 ^ 52 + t) x (omega arith)

-- a pattern above that of -0
pub negative : (b : ℕ) → 2 ^ 63 < b → b < 2 ^ 64 → Root (of_bits binary64 b) nan
negative b l u =
    subst (λ (x : Float). Root x nan)
    (sym (of_bits_is b ∙ ap (λ (s : Bool). of_fields binary64 s (b % 2 ^ 63 / 2 ^ 52) (b % 2 ^ 52)) (le-leb (2 ^ 63) b (omega arith))))
    (signed (b % 2 ^ 63 / 2 ^ 52) (b % 2 ^ 52) (omega arith))

-- a pattern from the infinity's up that is no NaN's
pub infinite : (b : ℕ) → 2047 * 2 ^ 52 ≤ b → b ≤ 2 ^ 63 → T (not (is_nan (of_bits binary64 b))) → (b ≡ 2 ^ 63 → ⊥) → of_bits binary64 b ≡ inf false
unfolding of_bits
infinite b l u n z =
    let f : ltb (2047 * 2 ^ 52) (b % 2 ^ 63) ≡ false = sym (nan_bits_above binary64 b) ∙ nan_bits_is binary64 b ∙ is_false (is_nan (of_bits binary64 b)) n in
    let g : b % 2 ^ 63 ≤ 2047 * 2 ^ 52 = ltb-false (2047 * 2 ^ 52) (b % 2 ^ 63) f in
    let e : b ≡ 2047 * 2 ^ 52 = omega arith in
    ap (of_bits binary64) e

-- a pattern below the infinity's is no NaN's
pub no_nan-bits : (r : ℕ) → r < 2047 * 2 ^ 52 → T (not (nan_bits binary64 r))
no_nan-bits r h = subst (λ (t : Bool). T (not t)) (sym (nan_bits_above binary64 r ∙ le-ltb (2047 * 2 ^ 52) (r % 2 ^ 63) (omega arith))) tt
