-- `refusals::check_precision` meets its contract. Assumes nothing.
use Rattle.refusals.specs.Refusals.{refuse_precision}
use Rattle.refusals.specs.Answered.{number_of}
use Rattle.refusals.proofs.check_precision.Goals as goal

pub returns : goal.returns
unfolding refuse_precision number_of
returns c = cc
