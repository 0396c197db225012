-- Numbers as text: how long they are, and that the fewest decimal digits that hold a number are as many as `digit_count` counts. Assumes nothing.
use Prim.Native.Nat.{ℕ, zero, suc, ◌+◌, ◌-◌, ◌*◌, ◌/◌, ◌%◌, ◌^◌, ◌≤◌, ◌<◌}
use native.Mathlib.Nat.{one-le-pow, pow-le-pow_right}
use native.Mathlib.Numerals.{unary_clauses, add-one}
use native.Mathlib.Decide.{dec_lt}
use native.Mathlib.Omega.{arith, pow_step}
use mathlib.Core.Bool.{Bool, true, false}
use mathlib.Core.List.{List, [], ◌∷◌, ◌++◌}
use mathlib.Core.Path.{◌≡◌, refl, ap, ◌∙◌}
use borrow.Author.Tests.{lt-ltb, le-ltb}
use lib.Dec.{ltb}
use lib.ListN.{length, length-append}
use lib.Ieee.{Float, binary64, to_bits}
use Rattle.numbers.specs.Choice.{if◌then◌otherwise◌}
use Rattle.io.specs.Digits.{hex_digit_ascii, last_digits, IsDigitCount}
use Rattle.job_text.specs.Text.{digit_count, decimal, bits, space, Grown}

pub fewest_few : (b least most n k : ℕ) → 0 < b → least ≤ most → n < b ^ most → IsDigitCount b least n k → k ≤ most
fewest_few b least most n k p h bound f = go (dec_lt most k)
  where
    go : Dec (most < k) → k ≤ most
    go (yes more) =
        let high : b ^ (k - 1) ≤ n = f.2 (omega arith) in
        let low : b ^ most ≤ b ^ (k - 1) = pow-le-pow_right p (omega arith) in
        absurd (omega arith)
    go (no few) = omega arith

-- counted up to one more than `most`
pub fewest_digits : (most k n : ℕ) → k ≤ suc most → IsDigitCount 10 1 n k → k ≡ digit_count most n
unfolding digit_count if◌then◌otherwise◌
fewest_digits most zero n h f = absurd (omega (arith, f.0))
fewest_digits zero (suc k) n h f = omega arith
fewest_digits (suc most) (suc zero) n h f = rw (lt-ltb n 10 f.1)
fewest_digits (suc most) (suc (suc j)) n h f =
    let low : 10 ^ j * 10 ≤ n = simp unary_clauses at (f.2 (omega arith)) in
    let high : n < 10 * 10 ^ suc j = rw (pow_step 10 (suc j)) at f.1 in
    let some : 1 ≤ 10 ^ j = one-le-pow j 10 (omega arith) in
    let step : 10 ^ suc j ≡ 10 * 10 ^ j = pow_step 10 j in
    let least : 10 ^ j ≤ n / 10 = omega arith in
    rw (le-ltb n 10 (omega arith))
    (ap suc (fewest_digits most (suc j) (n / 10) (omega arith) (omega arith, omega arith, λ _. simp unary_clauses least)))

-- ---- how long a number is

length_digits : (b k n : ℕ) → length (last_digits b k n) ≡ k
length_digits b zero n = refl
length_digits b (suc k) n =
    length-append (last_digits b k (n / b)) (hex_digit_ascii (n % b) ∷ []) ∙ ap (λ (l : ℕ). l + 1) (length_digits b k (n / b)) ∙ add-one k

either_few : (b : Bool) (most k : ℕ) → k ≤ most → (if b then 1 otherwise suc k) ≤ suc most
unfolding if◌then◌otherwise◌
either_few true most k h = omega arith
either_few false most k h = omega arith

digits_few : (most n : ℕ) → digit_count most n ≤ suc most
unfolding digit_count
digits_few zero n = omega arith
digits_few (suc most) n = either_few (ltb n 10) (suc most) (digit_count most (n / 10)) (digits_few most (n / 10))

length-decimal : (n : ℕ) → length (decimal n) ≤ 20
unfolding decimal
length-decimal n = rw (length_digits 10 (digit_count 19 n) n) (digits_few 19 n)

length-bits : (x : Float) → length (bits x) ≡ 16
unfolding bits
length-bits x = length_digits 16 16 (to_bits binary64 x)

-- ---- where the next part goes, whichever number was put

module _ {at r : ℕ} {text text' : List ℕ} where
  pub behind_decimal : (n : ℕ) → Grown at (decimal n) text r text' → r ≤ at + 20
  behind_decimal n g = omega (arith, g.next, length-decimal n)

  -- with a space behind it
  pub behind_count : (n : ℕ) → Grown at (decimal n ++ space) text r text' → r ≤ at + 21
  behind_count n g = omega (arith, g.next, length-append (decimal n) space, length-decimal n)

  pub behind_bits : (x : Float) → Grown at (bits x) text r text' → r ≡ at + 16
  behind_bits x g = omega (arith, g.next, length-bits x)
