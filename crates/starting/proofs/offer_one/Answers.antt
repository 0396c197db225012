-- `starting::offer_one` meets its contract. Assumes nothing.
use borrow.Author.Tests.{lt-ltb, le-ltb}
use Rattle.numbers.specs.Choice.{if◌then◌otherwise◌}
use Rattle.rules.specs.Rules.{each, inside}
use Rattle.starting.proofs.offer_one.Goals as goal

pub returns-then-at-degrees-clause-moved : goal.returns-then-at-degrees-clause-moved
unfolding each inside if◌then◌otherwise◌
returns-then-at-degrees-clause-moved c = let o = c.offer_node-frontier.ensures in let h = c.if-at-degrees.true in
    record { lent = o.lent; state = λ way w e k m. rw (lt-ltb _ _ h) (o.state way (w c.args.v h) e k m) }

pub returns-else-at-degrees-clause-moved : goal.returns-else-at-degrees-clause-moved
unfolding each inside if◌then◌otherwise◌
returns-else-at-degrees-clause-moved c = record { lent = c.requires; state = λ way w e k m. rw (le-ltb _ _ c.if-at-degrees.false) }
