-- `checked_forward_rows::check_rows` meets its contract: the tests of the lengths, and then the others. Assumes nothing.
use Rattle.refusals.specs.Refusals.{refuse_lengths, lengths_differ}
use Rattle.checked_forward_rows.proofs.check_rows.Goals as goal

pub returns : goal.returns
unfolding refuse_lengths lengths_differ
returns c = rw (c.solve_lengths_differ-differ.ensures, c.rows_lengths_differ-lists.ensures) at c.check_rows.ensures
