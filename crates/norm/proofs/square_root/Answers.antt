-- `norm::square_root` meets its contract, by ranges of its pattern (`Patterns.antt`). Assumes nothing.
use mathlib.Core.Path.{◌≡◌, refl, sym, ap, ◌∙◌, subst}
use mathlib.Core.Bool.{true, false, not}
use Prim.Native.Nat.{ℕ}
use lib.IntN.{pos}
use lib.Dec.{T}
use lib.Ieee.{Float, nan, fin, binary64, fits, is_nan, of_bits, to_bits}
use lib.Ieee.Bits.{of_bits-to_bits, to_bits-lt}
use Rattle.numbers.proofs.Order.{only_nan}
use Rattle.norm.specs.SquareRoot.{Root}
use Rattle.norm.proofs.Patterns.{negative, infinite, no_nan-bits}
use Rattle.norm.proofs.square_root.Goals.{Start}
use Rattle.norm.proofs.square_root.Goals as goal

-- what owning an `f64` tells: the format holds it
held : (c : Start) → T (fits binary64 c.args.x)
held c = subst T (sym c.well_formed.0.1) tt

-- so its pattern reads back as it
back : (c : Start) → of_bits binary64 (to_bits binary64 c.args.x) ≡ c.args.x
back c = of_bits-to_bits binary64 c.args.x (held c)

-- the pattern of +0
zero_is : of_bits binary64 0 ≡ fin false 0 (pos 0)
unfolding of_bits
zero_is = refl

-- the pattern of -0
minus-zero-is : of_bits binary64 0x8000_0000_0000_0000 ≡ fin true 0 (pos 0)
unfolding of_bits
minus-zero-is = refl

-- the constant
nan_is : nan ≡ of_bits binary64 0x7ff8_0000_0000_0000
unfolding of_bits
nan_is = refl

-- where x is y, and y is its own root, x is
itself : {x y : Float} → x ≡ y → Root y y → Root x x
itself e h = subst (λ (z : Float). Root z z) (sym e) h

-- x is what its pattern stands for
of-pattern : (c : Start) {b : ℕ} {y : Float} → to_bits binary64 c.args.x ≡ b → of_bits binary64 b ≡ y → c.args.x ≡ y
of-pattern c e h = sym (back c) ∙ ap (of_bits binary64) e ∙ h

pub returns-then-is_nan : goal.returns-then-is_nan
returns-then-is_nan c = itself (only_nan c.args.x (sym c.is_nan.ensures.value ∙ c.if-is_nan.true)) refl

pub returns-then-b-eq0 : goal.returns-then-b-eq0
returns-then-b-eq0 c = itself (of-pattern (goal.at.returns-then-b-eq0 c).Start c.if-b-eq0.true zero_is) refl

pub returns-then-b : goal.returns-then-b
returns-then-b c = itself (of-pattern (goal.at.returns-then-b c).Start c.if-b.true minus-zero-is) refl

pub returns-then-b-gt9223372036854775808 : goal.returns-then-b-gt9223372036854775808
returns-then-b-gt9223372036854775808 c = subst (λ (r : Float). Root c.args.x r) nan_is
    (subst (λ (x : Float). Root x nan) (back (goal.at.returns-then-b-gt9223372036854775808 c).Start) (negative (to_bits binary64 c.args.x) c.if-b-gt9223372036854775808.true (to_bits-lt binary64 c.args.x (held (goal.at.returns-then-b-gt9223372036854775808 c).Start))))

pub returns-then-b-ge9218868437227405312 : goal.returns-then-b-ge9218868437227405312
returns-then-b-ge9218868437227405312 c = let ok : T (not (is_nan (of_bits binary64 (to_bits binary64 c.args.x)))) = subst (λ (x : Float). T (not (is_nan x))) (sym (back (goal.at.returns-then-b-ge9218868437227405312 c).Start)) (rw (← c.is_nan.ensures.value, c.if-is_nan.false) tt) in
    itself (sym (back (goal.at.returns-then-b-ge9218868437227405312 c).Start) ∙ infinite (to_bits binary64 c.args.x) c.if-b-ge9218868437227405312.true c.if-b-gt9223372036854775808.false ok c.if-b.false) refl

pub float_from_bits-result : goal.float_from_bits-result
float_from_bits-result c = no_nan-bits c.root_bits.result c.root_bits.ensures.0

pub returns : goal.returns
returns c = subst (λ (x : Float). Root x (of_bits binary64 c.root_bits.result)) (back (goal.at.returns c).Start) c.root_bits.ensures.1
