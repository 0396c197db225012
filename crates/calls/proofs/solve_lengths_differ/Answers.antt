-- `calls::solve_lengths_differ` meets its contract: the tests, one after the other. Assumes nothing.
use Rattle.refusals.specs.Refusals.{lengths_differ}
use Rattle.calls.specs.Lent.{words}
use borrow.Author.Rules.{rules}
use Rattle.calls.proofs.solve_lengths_differ.Goals as goal

pub returns : goal.returns
unfolding lengths_differ words
returns c = search rules
