-- `refusals::check_weights` meets its contract. Assumes nothing.
use Rattle.refusals.specs.Refusals.{refuse_weights}
use Rattle.refusals.specs.Answered.{number_of}
use Rattle.refusals.proofs.check_weights.Goals as goal

pub returns : goal.returns
unfolding refuse_weights number_of
returns c = cc
