-- A number above zero times one that is at least 1 is above zero: no such product of binary64 is rounded to zero. The least number above zero times 1 is
-- above zero, and a product grows with its factors. Assumes nothing.
use Prim.Native.Nat.{ℕ, zero, suc, ◌*◌, ◌%◌, ◌^◌, ◌<◌}
use native.Mathlib.Nat.{mul-le-mul, mul-pos}
use native.Mathlib.Omega.{arith}
use mathlib.Core.Bool.{Bool, true, false, ◌&&◌, cond}
use lib.Dec.{T, eqb, ltb, leb, leb→le, ltb→lt, lt→ltb}
use lib.IntN.{negsuc}
use lib.Ieee.{Float, nan, inf, fin, binary64, up, down, of_bits, round, units, odd, size, span, climb, mul, lt, le, eq, fits}
use lib.Ieee.Fits.{up_pos, and_l, and_r}
use lib.Ieee.Positive.{positive, above, above_of_le, cross→le, first_pos, mul_mono}
use Rattle.numbers.specs.Numbers.{+0, one, ◌⊗◌}
use Rattle.numbers.proofs.Order.{le_transitive}

-- ---- the least

-- 2 ^ -1074
least : Float
least = fin false 1 (negsuc 1073)

-- the third of four tests
third : (a b c d : Bool) → T (a && b && c && d) → T c
third a b c d t = and_r (a && b) c (and_l (a && b && c) d t)

-- of the finite numbers above zero that binary64 has, none is less
least_le : (x : Float) → T (fits binary64 x) → T (positive x) → T (le least x)
unfolding fits least
least_le nan f p = absurd p
least_le (inf s) f p = absurd p
least_le (fin true m e) f p = absurd p
least_le (fin false zero e) f p = absurd p
least_le (fin false (suc m) e) f p =
    cross→le least (fin false (suc m) e) tt p
    (mul-le-mul (mul-pos (ltb→lt 0 (suc m) p) (up_pos e))
    (leb→le (down e) (2 ^ 1074) (third (eqb (suc m % 2) 1) (ltb (suc m) (2 ^ 53)) (leb (down e) (2 ^ 1074)) (ltb (suc m * up e) (2 ^ 1024 * down e)) f)))

-- times 1 it is above zero
least_above : T (le (least ⊗ one) +0) → ⊥
unfolding least mul round units odd size span climb of_bits le lt eq
least_above t = t

-- ---- a product

-- of two finite numbers
finite_above : (x y : Float) → T (fits binary64 x) → T (positive x) → T (positive y) → T (le one y) → T (le (x ⊗ y) +0) → ⊥
unfolding least of_bits
finite_above x y f p q k z = least_above (le_transitive _ _ _ (mul_mono binary64 least x one y tt p tt q (least_le x f p) k) z)

-- with an infinity it is +infinity or a NaN, and neither is at or below zero
endless : (b : Bool) → T (le (cond b nan (inf false)) +0) → ⊥
unfolding of_bits le lt eq
endless true z = z
endless false z = z

-- of any two
any_above : (x y : Float) → T (fits binary64 x) → T (above x) → T (above y) → T (le one y) → T (le (x ⊗ y) +0) → ⊥
unfolding of_bits mul le lt eq
any_above nan y f a c k z = absurd a
any_above (inf true) y f a c k z = absurd a
any_above (fin true m e) y f a c k z = absurd a
any_above (inf false) nan f a c k z = absurd c
any_above (inf false) (inf true) f a c k z = absurd c
any_above (inf false) (inf false) f a c k z = absurd z
any_above (inf false) (fin true n d) f a c k z = absurd c
any_above (inf false) (fin false n d) f a c k z = endless (eqb n 0) z
any_above (fin false m e) nan f a c k z = absurd c
any_above (fin false m e) (inf true) f a c k z = absurd c
any_above (fin false m e) (inf false) f a c k z = endless (eqb m 0) z
any_above (fin false m e) (fin true n d) f a c k z = absurd c
any_above (fin false m e) (fin false n d) f a c k z = finite_above (fin false m e) (fin false n d) f a c k z

-- ---- by the tests that programs make

-- what is above a number is above 0
over_zero : (a m u : ℕ) → a < m * u * 1 → 0 < m
over_zero a m u h = first_pos m u (first_pos (m * u) 1 (omega arith))

above_of_lt : (x : Float) → T (lt +0 x) → T (above x)
unfolding lt of_bits
above_of_lt nan h = absurd h
above_of_lt (inf true) h = absurd h
above_of_lt (inf false) h = tt
above_of_lt (fin true m e) h = absurd h
above_of_lt (fin false m e) h = lt→ltb 0 m (over_zero _ m (up e) (ltb→lt _ _ h))

-- A binary64 above zero times a number that is at least 1 is not at or below zero.
pub product_above : (x y : Float) → T (fits binary64 x) → T (lt +0 x) → T (le one y) → T (le (x ⊗ y) +0) → ⊥
product_above x y f h k = any_above x y f (above_of_lt x h) (above_of_le one y (unfold of_bits in tt) k) k
