-- `refusals::usual` meets its contract. Assumes nothing.
use mathlib.Core.Path.{refl}
use Rattle.refusals.specs.Usual.{usual}
use Rattle.refusals.proofs.usual.Goals as goal

pub returns : goal.returns
unfolding usual
returns c = refl
