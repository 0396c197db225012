-- `refusals::is_amount` meets its contract: 1 / 0 is infinity. Assumes nothing.
use mathlib.Core.Path.{refl}
use lib.Ieee.{div, of_bits}
use Rattle.refusals.proofs.is_amount.Goals as goal

pub returns : goal.returns
unfolding div of_bits
returns c = refl
