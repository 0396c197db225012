-- `combination::methods::list_if_used` meets its contract. Assumes nothing.
use Rattle.numbers.specs.Choice.{if◌then◌otherwise◌}
use Rattle.combination.proofs.methods.list_if_used.Goals as goal

pub returns-then-used : goal.returns-then-used
unfolding if◌then◌otherwise◌
returns-then-used c = rw c.if-used.true

pub returns : goal.returns
unfolding if◌then◌otherwise◌
returns c = rw c.if-used.false
