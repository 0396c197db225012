-- `refusals::is_wrong` meets its contract. Assumes nothing.
use mathlib.Core.Path.{ap}
use mathlib.Core.Bool.{not}
use Rattle.refusals.proofs.is_wrong.Goals as goal

pub returns : goal.returns
returns c = ap not c.is_within.ensures
