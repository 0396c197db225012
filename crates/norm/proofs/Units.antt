-- The finite numbers of binary64 as whole numbers of units of 2 ^ -1074: each is p * 2 ^ l units with p < 2 ^ 53, since that is what a bit pattern is read as,
-- and two with the same sign and as many units are equal, since they have the same bit pattern. Assumes nothing.
use mathlib.Core.Path.{◌≡◌, subst}
use mathlib.Core.Bool.{Bool, true, false, cond}
use Prim.Native.Nat.{ℕ, zero, suc, ◌+◌, ◌-◌, ◌*◌, ◌/◌, ◌%◌, ◌^◌, ◌<◌}
use native.Mathlib.Nat.{mul-div_cancel}
use native.Mathlib.Omega.{arith}
use lib.IntN.{ℤ}
use lib.Dec.{T, leb, eqb}
use lib.Ieee.{Float, nan, inf, fin, binary64, up, down, size, odd, fits, of_fields, of_bits, to_bits}
use lib.Ieee.Bits.{of_bits-to_bits}
use lib.Ieee.Digits.{odd_val}
use lib.Ieee.Fits.{down_pos}

-- x, if finite, is p * 2 ^ l units in size
abbrev pub InUnits : Float → Type 0
InUnits nan = Unit {0}
InUnits (inf s) = Unit {0}
InUnits (fin s m e) = (p : ℕ) × (l : ℕ) × (p < 2 ^ 53) × (m * up e * 2 ^ 1074 ≡ p * 2 ^ l * down e)

-- what `odd` makes
odd_in_units : (s : Bool) (p l : ℕ) → p < 2 ^ 53 → InUnits (odd 53 s p l 1074)
unfolding odd
odd_in_units s zero l h = (zero, l, h, odd_val 53 s zero l 1074)
odd_in_units s (suc p) l h = (suc p, l, h, odd_val 53 s (suc p) l 1074)

-- what the fields of a pattern are read as
fields_in_units : (s : Bool) (x t : ℕ) → t < 2 ^ 52 → InUnits (of_fields binary64 s x t)
unfolding of_fields
fields_in_units s zero t h = odd_in_units s t 0 (omega arith)
fields_in_units s (suc x) t h = go (eqb (suc x) 2047) (eqb t 0)
  where
    go : (a b : Bool) → InUnits (cond a (cond b (inf s) nan) (odd 53 s (2 ^ 52 + t) x 1074))
    go true true = tt
    go true false = tt
    go false b = odd_in_units s (2 ^ 52 + t) x (omega arith)

-- what a pattern is read as
bits_in_units : (b : ℕ) → InUnits (of_bits binary64 b)
unfolding of_bits
bits_in_units b = fields_in_units (leb (2 ^ 63) b) (b % 2 ^ 63 / 2 ^ 52) (b % 2 ^ 52) (omega arith)

-- whatever is of the format
pub in_units : (x : Float) → T (fits binary64 x) → InUnits x
in_units x h = subst InUnits (of_bits-to_bits binary64 x h) (bits_in_units (to_bits binary64 x))

-- the pattern of a number is told by its sign and its units
bits_by_units : (s : Bool) (m : ℕ) (e : ℤ) (n : ℕ) → m * up e * 2 ^ 1074 ≡ n * down e → to_bits binary64 (fin s m e) ≡ cond s (2 ^ 63) 0 + (size n - 53) * 2 ^ 52 + n / 2 ^ (size n - 53)
unfolding to_bits
bits_by_units s m e n h = rw (h, mul-div_cancel n (down_pos e))

-- and so is the number
pub same_units : (s : Bool) (m : ℕ) (e : ℤ) (b : ℕ) (f : ℤ) (n : ℕ) → T (fits binary64 (fin s m e)) → T (fits binary64 (fin s b f)) → m * up e * 2 ^ 1074 ≡ n * down e → b * up f * 2 ^ 1074 ≡ n * down f → fin s m e ≡ fin s b f
same_units s m e b f n g h i j = cc (of_bits-to_bits binary64 (fin s m e) g, of_bits-to_bits binary64 (fin s b f) h, bits_by_units s m e n i, bits_by_units s b f n j)
