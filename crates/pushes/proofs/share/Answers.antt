-- `pushes::share` meets its contract. Assumes nothing.
use Rattle.numbers.specs.Choice.{if◌then◌otherwise◌}
use Rattle.rules.specs.Ways.{transition, share_of}
use Rattle.pushes.proofs.share.Goals as goal

pub returns-then-backward : goal.returns-then-backward
unfolding share_of transition if◌then◌otherwise◌
returns-then-backward c = rw (c.if-backward.true, c.effective.ensures)

pub returns-else-backward : goal.returns-else-backward
unfolding share_of if◌then◌otherwise◌
returns-else-backward c = rw c.if-backward.false
