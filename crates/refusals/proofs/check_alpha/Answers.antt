-- `refusals::check_alpha` meets its contract. Assumes nothing.
use Rattle.refusals.specs.Refusals.{refuse_alpha}
use Rattle.refusals.specs.Answered.{number_of}
use Rattle.refusals.proofs.check_alpha.Goals as goal

pub returns : goal.returns
unfolding refuse_alpha number_of
returns c = cc
