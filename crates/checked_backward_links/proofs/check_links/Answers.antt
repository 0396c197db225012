-- `checked_backward_links::check_links` meets its contract: the tests of the lengths, and then the others. Assumes nothing.
use Rattle.refusals.specs.Refusals.{refuse_lengths}
use Rattle.calls.proofs.Lengths.{differ_parts}
use Rattle.checked_backward_links.proofs.check_links.Goals as goal

pub returns : goal.returns
unfolding refuse_lengths
returns c more e = rw (differ_parts _ more _ _ c.links_lengths_differ-lists.ensures e c.reverse_lengths_differ-differ.ensures c.solve_lengths_differ-differ.ensures) at c.check_links.ensures
