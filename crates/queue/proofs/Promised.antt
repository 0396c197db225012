-- What is promised of a record that is lent is what is promised of it by value, at entry and exit of what the reference refers to; and what is promised of a record that is held is the same again. Each is by computation alone.
-- Assumes nothing.
use Rattle.queue.proofs.Logic.{◌≡◌, refl, Ura, SProp}
use prog.Memory.{Memory}
use prog.Routine.{Routine}
use types.Logic.{Logic}
use contract.Monad.{Fun}
use denote.Triple.Clauses.{closing}
use Rattle.queue.proofs.ThinAdapt as adapting
use Rattle.queue.proofs.ThinOffer as offering
use Rattle.queue.proofs.ThinPop as popping
use Rattle.queue.specs.contracts.push_if_threshold as push_if_threshold
use Rattle.queue.specs.contracts.pop as pop
use Rattle.queue.specs.contracts.adaptive_threshold as adaptive_threshold
use Rattle.queue.specs.contracts.lent as lent
use Rattle.queue.specs.contracts.held as held

module _ {M : Type 1} {𝓤 : Ura M} (𝓛 : Logic 𝓤) (at_mem : Memory → SProp 𝓤) (run : Routine → Fun 𝓤) where
  lent_offer : lent.offer.spec 𝓛 at_mem run ≡ closing 𝓛 offering.lent (offering.thinned 𝓤 (push_if_threshold.clauses 𝓛 at_mem run))
  lent_offer = refl

  lent_pop : lent.pop.spec 𝓛 at_mem run ≡ closing 𝓛 popping.lent (popping.thinned 𝓤 (pop.clauses 𝓛 at_mem run))
  lent_pop = refl

  lent_adapt : lent.adapt.spec 𝓛 at_mem run ≡ closing 𝓛 adapting.lent (adapting.thinned 𝓤 (adaptive_threshold.clauses 𝓛 at_mem run))
  lent_adapt = refl

  held_offer : held.offer.spec 𝓛 at_mem run ≡ push_if_threshold.spec 𝓛 at_mem run
  held_offer = refl

  held_pop : held.pop.spec 𝓛 at_mem run ≡ pop.spec 𝓛 at_mem run
  held_pop = refl

  held_adapt : held.adapt.spec 𝓛 at_mem run ≡ adaptive_threshold.spec 𝓛 at_mem run
  held_adapt = refl
