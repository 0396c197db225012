-- `backward_push::reversed::reverse_lengths_differ` meets its contract: the tests, one after the other. Assumes nothing.
use Rattle.refusals.specs.Refusals.{lengths_differ}
use borrow.Author.Rules.{rules}
use Rattle.backward_push.proofs.reversed.reverse_lengths_differ.Goals as goal

pub returns : goal.returns
unfolding lengths_differ
returns c = search rules
