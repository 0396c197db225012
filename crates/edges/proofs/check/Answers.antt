-- `edges::check` meets its contract: its lengths are those that `check_rows` is told of. Assumes nothing.
use Rattle.refusals.specs.Refusals.{refuse_lengths, lengths_differ}
use Rattle.edges.specs.Outcomes.{asked_refusal}
use Rattle.edges.proofs.check.Goals as goal

pub returns : goal.returns
unfolding asked_refusal refuse_lengths lengths_differ
returns c = c.check_rows.ensures
