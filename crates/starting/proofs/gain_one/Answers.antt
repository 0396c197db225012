-- `starting::gain_one` meets its contract. Assumes nothing.
use mathlib.Core.Path.{refl}
use borrow.Author.Tests.{lt-ltb, le-ltb}
use lib.ListN.{length-set}
use Rattle.numbers.specs.Choice.{if◌then◌otherwise◌}
use Rattle.rules.specs.Rules.{each, inside, gain}
use Rattle.pushes.specs.States.{state_in}
use Rattle.starting.proofs.gain_one.Goals as goal

pub returns-then-at-residual : goal.returns-then-at-residual
unfolding each inside gain if◌then◌otherwise◌ state_in
returns-then-at-residual c = record { same_length = simp length-set; state = λ n e p ps ns vs. rw (lt-ltb _ _ c.if-at-residual.true) }

pub returns-else-at-residual : goal.returns-else-at-residual
unfolding each inside if◌then◌otherwise◌
returns-else-at-residual c = record { same_length = refl; state = λ n e p ps ns vs. rw (le-ltb _ _ c.if-at-residual.false) }
