-- `calls::extrapolate` meets its contract. Invariant: the first v numbers are written (`over`). Assumes nothing.
use mathlib.Core.Path.{◌≡◌}
use lib.ListN.{length}
use Rattle.numbers.proofs.Over.{over}
use Rattle.rules.specs.Answers.{extrapolated}
use Rattle.calls.proofs.extrapolate.Given as goal

abbrev pub invariant-loop-v : goal.invariant-loop-v
invariant-loop-v l = l.solution ≡ over l.v (extrapolated l.alpha (length l.found.estimate.now) l.found.estimate.now l.found.residual.now) l.initial.solution
