-- `refusals::check_starts` meets its contract. Assumes nothing.
use Rattle.refusals.specs.Refusals.{refuse_rows}
use Rattle.refusals.specs.Answered.{number_of}
use Rattle.refusals.proofs.check_starts.Goals as goal

pub returns : goal.returns
unfolding refuse_rows number_of
returns c = cc
