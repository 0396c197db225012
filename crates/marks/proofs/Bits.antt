-- The bits of a word: each operation works on each bit apart, so that a mask changes the one bit that is meant. Assumes nothing.
use mathlib.Core.Path.{◌≡◌, refl, ap, ◌∙◌}
use mathlib.Core.Logic.{◌≢◌}
use Prim.Native.Nat.{ℕ, zero, suc, ◌+◌, ◌-◌, ◌*◌, ◌/◌, ◌%◌, ◌^◌, ◌<◌}
use native.Mathlib.Nat.{mod-lt, mod-eq_of_lt, mul-mod_left, div-eq_of_lt, div_self, zero-lt-suc, pow-suc, one-mul, not-suc-le-zero, le_of_suc-le-suc}
use native.Mathlib.Decide.{dec_lt}
use native.Mathlib.Omega.{arith}
use lib.Pow.{pow_pos, pow-lt, pow-add, shl-shr, ones_split, ones_lt, high}
use lib.Bits.{bit_and, bit_or, bit_xor, or_shr, or_mod, and_shr, and_mod, xor_shr, xor_mod, and_mask, and_comm, xor_add_and}
use Rattle.marks.specs.Marks.{bit}

-- ---- digits
pub bit_lt : (a j : ℕ) → bit a j < 2
bit_lt a j = mod-lt (a / 2 ^ j) (zero-lt-suc 1)

-- what holds of 0 and of 1 holds of each digit
pub zero_or_one : (P : ℕ → Type 0) → P 0 → P 1 → (x : ℕ) → x < 2 → P x
zero_or_one P a b zero h = a
zero_or_one P a b (suc zero) h = b
zero_or_one P a b (suc (suc x)) h = absurd (not-suc-le-zero (le_of_suc-le-suc (le_of_suc-le-suc h)))

-- ---- each operation, bit by bit
or_bit : (a b j : ℕ) → bit (bit_or a b) j ≡ bit_or (bit a j) (bit b j)
or_bit a b j = ap (λ (x : ℕ). x % 2) (or_shr a b j) ∙ or_mod (a / 2 ^ j) (b / 2 ^ j) 1

and_bit : (a b j : ℕ) → bit (bit_and a b) j ≡ bit_and (bit a j) (bit b j)
and_bit a b j = ap (λ (x : ℕ). x % 2) (and_shr a b j) ∙ and_mod (a / 2 ^ j) (b / 2 ^ j) 1

xor_bit : (a b j : ℕ) → bit (bit_xor a b) j ≡ bit_xor (bit a j) (bit b j)
xor_bit a b j = ap (λ (x : ℕ). x % 2) (xor_shr a b j) ∙ xor_mod (a / 2 ^ j) (b / 2 ^ j) 1

-- a word of which all bits are set
ones_bit : (d j : ℕ) → bit (2 ^ (suc d + j) - 1) j ≡ 1
ones_bit d j =
    ap (λ (x : ℕ). x / 2 ^ j % 2) (ones_split (suc d) j)
    ∙ ap (λ (x : ℕ). x % 2) (high (2 ^ suc d - 1) j (ones_lt j))
    ∙ ap (λ (x : ℕ). (x - 1) % 2) (pow-suc 2 d)
    ∙ odd (2 ^ d) (pow_pos d)
  where
    odd : (p : ℕ) → 0 < p → (p * 2 - 1) % 2 ≡ 1
    odd p h = omega arith

-- `!m` in words of k bits
complement : (k m : ℕ) → m < 2 ^ k → 2 ^ k - 1 - m ≡ bit_xor (2 ^ k - 1) m
complement k m h =
    let masked : bit_and (2 ^ k - 1) m ≡ m = and_comm (2 ^ k - 1) m ∙ and_mask m k ∙ mod-eq_of_lt h in
    omega (arith, masked, xor_add_and (2 ^ k - 1) m)

-- it has the other digits
not_bit : (m j : ℕ) → m < 2 ^ 64 → j < 64 → bit (2 ^ 64 - 1 - m) j ≡ 1 - bit m j
not_bit m j h l =
    ap (λ (x : ℕ). bit x j) (complement 64 m h)
    ∙ xor_bit (2 ^ 64 - 1) m j
    ∙ ap (λ (x : ℕ). bit_xor x (bit m j)) (ap (λ (x : ℕ). bit (2 ^ x - 1) j) width ∙ ones_bit (64 - suc j) j)
    ∙ zero_or_one (λ (x : ℕ). bit_xor 1 x ≡ 1 - x) refl refl (bit m j) (bit_lt m j)
  where
    width : 64 ≡ suc (64 - suc j) + j
    width = omega arith

-- ---- the one bit of `1 << k`
pub one_here : (k : ℕ) → bit (2 ^ k) k ≡ 1
one_here k = ap (λ (x : ℕ). x % 2) (div_self (pow_pos k))

one_above : (j d : ℕ) → bit (2 ^ (suc d + j)) j ≡ 0
one_above j d =
    ap (λ (x : ℕ). x / 2 ^ j % 2) (pow-add 2 (suc d) j)
    ∙ ap (λ (x : ℕ). x % 2) (shl-shr (2 ^ suc d) j)
    ∙ ap (λ (x : ℕ). x % 2) (pow-suc 2 d)
    ∙ mul-mod_left (2 ^ d) 2

pub one_elsewhere : (k j : ℕ) → j ≢ k → bit (2 ^ k) j ≡ 0
one_elsewhere k j ne = go (dec_lt j k)
  where
    go : Dec (j < k) → bit (2 ^ k) j ≡ 0
    go (yes h) =
        let e : k ≡ suc (k - suc j) + j = omega arith in
        ap (λ (x : ℕ). bit (2 ^ x) j) e ∙ one_above j (k - suc j)
    go (no h) = let l : k < j = omega arith in ap (λ (x : ℕ). x % 2) (div-eq_of_lt (pow-lt l))

-- `1 << k` shifts nothing out
shifted : (k : ℕ) → k < 64 → 1 * 2 ^ k % 2 ^ 64 ≡ 2 ^ k
shifted k h = ap (λ (x : ℕ). x % 2 ^ 64) (one-mul (2 ^ k)) ∙ mod-eq_of_lt (pow-lt h)

-- ---- the two masks: `a | (1 << k)` and `a & !(1 << k)`
pub or_mask : (a k j : ℕ) → k < 64 → bit (bit_or a (1 * 2 ^ k % 2 ^ 64)) j ≡ bit_or (bit a j) (bit (2 ^ k) j)
or_mask a k j h = ap (λ (x : ℕ). bit (bit_or a x) j) (shifted k h) ∙ or_bit a (2 ^ k) j

pub and_not_mask : (a k j : ℕ) → k < 64 → j < 64 → bit (bit_and a (2 ^ 64 - 1 - 1 * 2 ^ k % 2 ^ 64)) j ≡ bit_and (bit a j) (1 - bit (2 ^ k) j)
and_not_mask a k j h l =
    ap (λ (x : ℕ). bit (bit_and a (2 ^ 64 - 1 - x)) j) (shifted k h) ∙ and_bit a (2 ^ 64 - 1 - 2 ^ k) j
    ∙ ap (bit_and (bit a j)) (not_bit (2 ^ k) j (pow-lt h) l)
