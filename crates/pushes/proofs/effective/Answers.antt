-- `pushes::effective` meets its contract. Assumes nothing.
use Rattle.numbers.specs.Choice.{if◌then◌otherwise◌}
use Rattle.rules.specs.Ways.{effective}
use Rattle.pushes.proofs.effective.Goals as goal

pub returns-then-degree : goal.returns-then-degree
unfolding effective if◌then◌otherwise◌
returns-then-degree c = rw c.if-degree.true

pub returns-else-degree : goal.returns-else-degree
unfolding effective if◌then◌otherwise◌
returns-else-degree c = rw c.if-degree.false
