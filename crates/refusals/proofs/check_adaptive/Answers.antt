-- `refusals::check_adaptive` meets its contract. Assumes nothing.
use Rattle.refusals.specs.Refusals.{refuse_adaptive}
use Rattle.refusals.specs.Answered.{number_of}
use Rattle.refusals.proofs.check_adaptive.Goals as goal

pub returns : goal.returns
unfolding refuse_adaptive number_of
returns c = cc
