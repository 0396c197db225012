-- `numbers::float_of` meets its contract: a pattern is a NaN's where, less its sign, it is above that of infinity (`nan_bits_above`). Assumes nothing.
use Prim.Native.Nat.{ℕ, ◌%◌, ◌<◌}
use mathlib.Core.Path.{◌≡◌, refl, sym, ◌∙◌}
use borrow.Author.Tests.{lt-ltb}
use lib.Ieee.{nan, binary64, of_bits}
use lib.Ieee.Bits.{nan_bits_is, nan_bits_above}
use Rattle.std.proofs.lemmas.Float.{not_nan_f64_bits}
use Rattle.numbers.proofs.Order.{only_nan}
use Rattle.numbers.proofs.float_of.Goals as goal

a-nan : (b : ℕ) → 0x7ff0_0000_0000_0000 < b % 0x8000_0000_0000_0000 → of_bits binary64 b ≡ nan
a-nan b h = only_nan (of_bits binary64 b) (sym (nan_bits_is binary64 b) ∙ nan_bits_above binary64 b ∙ lt-ltb 0x7ff0_0000_0000_0000 (b % 0x8000_0000_0000_0000) h)

-- the constant
nan_is : of_bits binary64 0x7ff8_0000_0000_0000 ≡ nan
unfolding of_bits
nan_is = refl

pub float_from_bits-result : goal.float_from_bits-result
float_from_bits-result c = not_nan_f64_bits c.args.bits c.if-bits-le9218868437227405312.true

pub returns : goal.returns
returns c = nan_is ∙ sym (a-nan c.args.bits c.if-bits-le9218868437227405312.false)
