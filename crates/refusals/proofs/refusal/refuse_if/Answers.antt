-- `refusals::refusal::refuse_if` meets its contract. Assumes nothing.
use Rattle.refusals.specs.Refusals.{◌when◌}
use Rattle.refusals.proofs.refusal.refuse_if.Goals as goal

pub returns-then-fact : goal.returns-then-fact
unfolding ◌when◌
returns-then-fact c = rw c.if-fact.true

pub returns-else-fact : goal.returns-else-fact
unfolding ◌when◌
returns-else-fact c = rw c.if-fact.false
