-- `solver::run` meets its contract. Invariant: `Running`. The measure is that of the rules. Assumes nothing.
use Rattle.rules.proofs.Ends.{measure}
use Rattle.watching.specs.Watching.{watch_in}
use Rattle.pushes.specs.States.{state_of, holding_in}
use Rattle.pushes.specs.Buffers.{nodes_in}
use Rattle.solver.proofs.Running.{Running}
use Rattle.solver.proofs.run.Given as goal

abbrev pub invariant-loop-settings : goal.invariant-loop-settings
invariant-loop-settings l = Running l.settings (watch_in l.watch) l.graph l.initial.frontier l.initial.tally l.frontier l.tally

abbrev pub decreases-loop-settings : goal.decreases-loop-settings
decreases-loop-settings l = measure l.settings (state_of (nodes_in l.graph) (holding_in l.frontier l.tally))
