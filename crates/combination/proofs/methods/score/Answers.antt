-- `combination::methods::score` meets its contract, case by case. Assumes nothing.
use Rattle.numbers.specs.Choice.{if◌then◌otherwise◌}
use Rattle.combination.specs.Methods.{score_by}
use Rattle.combination.proofs.methods.score.Goals as goal

pub returns-then-uses-2 : goal.returns-then-uses-2
unfolding score_by if◌then◌otherwise◌
returns-then-uses-2 c = rw (c.if-uses.true, c.if-uses-2.true) c.combine.ensures

pub returns-then-uses : goal.returns-then-uses
unfolding score_by if◌then◌otherwise◌
returns-then-uses c = rw (c.if-uses.true, c.if-uses-2.false) c.score_at.ensures

pub returns-then-uses-3 : goal.returns-then-uses-3
unfolding score_by if◌then◌otherwise◌
returns-then-uses-3 c = rw (c.if-uses.false, c.if-uses-3.true) c.score_at-then-uses-3.ensures

pub returns : goal.returns
unfolding score_by if◌then◌otherwise◌
returns c = rw (c.if-uses.false, c.if-uses-3.false)
