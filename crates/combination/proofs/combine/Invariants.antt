-- `combination::combine` meets its contract. Invariant: the first v nodes are added. Assumes nothing.
use mathlib.Core.Path.{◌≡◌}
use Rattle.rules.specs.Answers.{combined}
use Rattle.combination.proofs.combine.Given as goal

abbrev pub invariant-loop-v : goal.invariant-loop-v
invariant-loop-v l = l.total ≡ combined l.alpha l.backward.estimate.now l.backward.residual.now l.forward.estimate.now l.forward.residual.now l.v
