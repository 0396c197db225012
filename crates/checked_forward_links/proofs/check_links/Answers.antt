-- `checked_forward_links::check_links` meets its contract: the tests of the lengths, and then the others. Assumes nothing.
use Rattle.refusals.specs.Refusals.{refuse_lengths, lengths_differ}
use Rattle.checked_forward_links.proofs.check_links.Goals as goal

pub returns : goal.returns
unfolding refuse_lengths lengths_differ
returns c = rw (c.solve_lengths_differ-differ.ensures, c.links_lengths_differ-lists.ensures) at c.check_links.ensures
