-- The square root of a binary64, rounded to the nearest, by comparing squares of whole numbers. Assumes nothing.
use Rattle.std.specs.Prelude.{◌≡◌, refl, true, false, ℕ, zero, suc, ◌+◌, ◌-◌, ◌*◌, ◌^◌, ◌≤◌, ◌<◌, pos, negsuc, Float}
use Rattle.std.proofs.Common.{lit<, lit≤}
use Rattle.std.specs.Float.{nan, inf, fin}
use Rattle.std.specs.Float.Ieee.{up, down, odd}

-- q is the whole number nearest to √(a / b), for an a / b from 2 ^ 104 to 2 ^ 106, whose root is from 2 ^ 52 to 2 ^ 53.
-- q - 1/2 < √(a / b) < q + 1/2, squared, times 4 and times b. No number of the format has a root halfway between two others, so neither bound need allow for one.
pub record Nearest (a b q : ℕ) : Type 0 where
  pub from : 2 ^ 104 * b ≤ a
  pub to : a < 2 ^ 106 * b
  pub over : (2 * q - 1) * (2 * q - 1) * b < 4 * a
  pub under : 4 * a < (2 * q + 1) * (2 * q + 1) * b

-- r is q * 2 ^ k units of 2 ^ -1074, with k such that √(n / d) is from 2 ^ 52 to 2 ^ 53 times 2 ^ k units, and q nearest to √(n / d) in 2 ^ k units.
pub record Rounded (n d : ℕ) (r : Float) : Type 0 where
  pub q : ℕ
  pub k : ℕ
  pub is : r ≡ odd 53 false q k 1074
  pub near : Nearest (n * 4 ^ 1074) (4 ^ k * d) q

-- r is IEEE 754's square root of x: of a NaN and of whatever is below zero it is a NaN, of ±0 and of +∞ it is the same again, and of any other number it is the nearest of the format.
abbrev pub Root : Float → Float → Type 0
Root nan r = r ≡ nan
Root (inf true) r = r ≡ nan
Root (inf false) r = r ≡ inf false
Root (fin s zero e) r = r ≡ fin s zero e
Root (fin true (suc m) e) r = r ≡ nan
Root (fin false (suc m) e) r = Rounded (suc m * up e) (down e) r

-- ---- examples

-- the root of 2
two : Root (fin false 1 (pos 1)) (fin false 6369051672525773 (negsuc 51))
unfolding odd
two = record { q = 6369051672525773; k = 1022; is = refl; near = record { from = lit≤ tt; to = lit< tt; over = lit< tt; under = lit< tt } }

-- the root of 1 - 2 ^ -53, the largest number below 1, is that number again
under_one : Root (fin false (2 ^ 53 - 1) (negsuc 52)) (fin false (2 ^ 53 - 1) (negsuc 52))
unfolding odd
under_one = record { q = 2 ^ 53 - 1; k = 1021; is = refl; near = record { from = lit≤ tt; to = lit< tt; over = lit< tt; under = lit< tt } }

-- the root of -0 is -0
minus_zero : Root (fin true 0 (pos 0)) (fin true 0 (pos 0))
minus_zero = refl

-- the root of +∞
infinity : Root (inf false) (inf false)
infinity = refl

-- there is none of -1
minus_one : Root (fin true 1 (pos 0)) nan
minus_one = refl

-- and none of -∞
minus_infinity : Root (inf true) nan
minus_infinity = refl
