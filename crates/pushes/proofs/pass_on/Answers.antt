-- `pushes::pass_on` meets its contract: a gain, and what `offer_node` does. Assumes nothing.
use Rattle.rules.specs.Rules.{gain}
use Rattle.pushes.specs.States.{state_in}
use Rattle.pushes.proofs.pass_on.Goals as goal

pub returns-clause-moved : goal.returns-clause-moved
unfolding gain state_in
returns-clause-moved c = let o = c.offer_node-frontier.ensures in record { lent = o.lent; state = o.state }
