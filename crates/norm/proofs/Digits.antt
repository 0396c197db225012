-- The digit-by-digit square root on whole numbers: the next digit is 1 where 4 root + 1 goes into what is left, and then that much is taken away.
-- A loop's invariant over it: the root so far is that of the digits brought down. Assumes nothing.
use mathlib.Core.Path.{◌≡◌, refl, sym, subst}
use mathlib.Core.Bool.{Bool, true, false}
use Prim.Native.Nat.{ℕ, ◌+◌, ◌-◌, ◌*◌, ◌/◌, ◌%◌, ◌^◌, ◌≤◌, ◌<◌}
use native.Mathlib.Omega.{arith}
use lib.Dec.{leb}
use mir.Val.{bool_byte}
use borrow.Author.Tests.{leb-true, leb-false}
use Rattle.norm.specs.Steps.{WholeRoot}
use Rattle.norm.proofs.Squares.{square_twice, square_odd, next_two, next_four}

-- the digit d says whether `odd` goes into `rest`
pub data Digit (odd rest : ℕ) : ℕ → Type 0 where
  goes : odd ≤ rest → Digit odd rest 1
  stays : rest < odd → Digit odd rest 0

-- the digit that the code computes
pub digit : (odd rest : ℕ) → Digit odd rest (bool_byte (leb odd rest))
digit odd rest = go (leb odd rest) refl
  where
    go : (b : Bool) → leb odd rest ≡ b → Digit odd rest (bool_byte b)
    go true e = goes (leb-true odd rest e)
    go false e = stays (leb-false odd rest e)

-- it is 0 or 1
pub at_most_one : {odd rest d : ℕ} → Digit odd rest d → d ≤ 1
at_most_one (goes h) = omega arith
at_most_one (stays h) = omega arith

-- what is taken away is there
pub enough : {odd rest d : ℕ} → Digit odd rest d → d * odd ≤ rest
enough (goes h) = omega arith
enough (stays h) = omega arith

module _ (root rest next : ℕ) (short : next < 4) (most : rest ≤ 2 * root) where
  -- the root with one digit more, and what it leaves
  pub lengthened : {d : ℕ} → Digit (root * 4 + 1) (rest * 4 + next) d → WholeRoot (4 * (root * root + rest) + next) (root * 2 + d) (rest * 4 + next - d * (root * 4 + 1))
  lengthened (goes h) = record { is = omega (arith, square_odd root); most = omega arith }
  lengthened (stays h) = record { is = omega (arith, zero_digit root); most = omega arith }
    where
      zero_digit : (r : ℕ) → (r * 2 + 0) * (r * 2 + 0) ≡ 4 * (r * r)
      zero_digit r =
          let e : r * 2 + 0 ≡ r * 2 = omega arith in
          subst (λ (x : ℕ). x * x ≡ 4 * (r * r)) (sym e) (square_twice r)

-- After i turns: the root has i digits and is that of the upper part of s * 4 ^ i, whose lower 54 digits are `below`.
pub record BroughtDown (s i below root rest : ℕ) : Type 0 where
  pub turns : i ≤ 27
  pub digits : root < 2 ^ i
  pub tail : below < 2 ^ 54
  pub most : rest ≤ 2 * root
  pub part : (root * root + rest) * 2 ^ 54 + below ≡ s * 4 ^ i

-- a turn
pub turn : {s i below root rest root' rest' : ℕ} → BroughtDown s i below root rest → i < 27 → WholeRoot (4 * (root * root + rest) + below / 2 ^ 52) root' rest' → root' ≤ 2 * root + 1
    → BroughtDown s (i + 1) (below % 2 ^ 52 * 4) root' rest'
turn {s} {i} h l w d = record {
  turns = omega arith;
  digits = omega (arith, next_two i);
  tail = omega arith;
  most = w.most;
  part = omega (arith, next_four s i, w.is);
}
