-- `starting::offer_all` meets its contract. Invariant: `Offering`. Assumes nothing.
use Rattle.starting.proofs.Sources.{Offering}
use Rattle.starting.proofs.offer_all.Given as goal

abbrev pub invariant-loop-v : goal.invariant-loop-v
invariant-loop-v l = Offering l.sources l.degrees l.initial.frontier l.frontier l.v-index
