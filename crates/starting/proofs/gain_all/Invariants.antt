-- `starting::gain_all` meets its contract. Invariant: `Gaining`. Assumes nothing.
use Rattle.starting.proofs.Sources.{Gaining}
use Rattle.starting.proofs.gain_all.Given as goal

abbrev pub invariant-loop-v : goal.invariant-loop-v
invariant-loop-v l = Gaining l.x l.sources l.initial.residual l.residual l.v-index
