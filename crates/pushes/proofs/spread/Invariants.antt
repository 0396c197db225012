-- `pushes::spread` meets its contract. Invariant: `Spreading`. Assumes nothing.
use Rattle.pushes.proofs.Spreading.{Spreading}
use Rattle.pushes.proofs.spread.Given as goal

abbrev pub invariant-loop-i : goal.invariant-loop-i
invariant-loop-i l = Spreading l.graph l.rest l.degree l.columns l.weights l.initial.frontier l.frontier l.i
