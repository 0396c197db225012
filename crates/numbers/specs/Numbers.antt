-- Notation for IEEE 754 binary64: a value by its bit pattern, the two values that the rules name, and the operations, each rounded to nearest even. Assumes nothing.
use Rattle.std.specs.Prelude.{ℕ, Float}
use Rattle.std.specs.Float.{binary64}
use Rattle.std.specs.Float.Ieee.{of_bits, add, sub, mul, div}

infixl 60 ◌⊕◌ ◌⊖◌
infixl 70 ◌⊗◌ ◌⊘◌
-- the value of a bit pattern
abbrev pub f64 : ℕ → Float
f64 bits = of_bits binary64 bits

-- +0
abbrev pub +0 : Float
+0 = f64 0

-- 1
abbrev pub one : Float
one = f64 0x3ff0_0000_0000_0000

-- the sum
abbrev pub ◌⊕◌ : Float → Float → Float
x ⊕ y = add binary64 x y

-- the difference
abbrev pub ◌⊖◌ : Float → Float → Float
x ⊖ y = sub binary64 x y

-- the product
abbrev pub ◌⊗◌ : Float → Float → Float
x ⊗ y = mul binary64 x y

-- the quotient
abbrev pub ◌⊘◌ : Float → Float → Float
x ⊘ y = div binary64 x y
