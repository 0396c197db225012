-- `queue::lent::pop` meets its contract: `ThinPop.antt`'s theorem, at what the `pop` by value promises.
-- Assumes nothing.
use contract.Running.{tables, tables_of}
use denote.Triple.Spec.{triple_of}
use denote.Triple.Table.{entered}
use Rattle.queue.proofs.ThinPop.{replaces}
use Rattle.queue.specs.contracts.pop as g
use Rattle.queue.proofs.pop.Met.{met}
use Rattle.queue.specs.contracts.lent.pop as f
use Rattle.queue.proofs.lent.pop.Statement.{statement}
use Rattle.queue.proofs.lent.pop.Code as code

pub pop_spec : {M : Type 1} → statement M
unfolding tables_of
pop_spec 𝓤 𝓛 𝓜 𝓡 wired =
    let 𝓣 = tables 𝓤 𝓛.H 𝓜 𝓡 𝓡.env in
    entered 𝓤 𝓛.H (triple_of 𝓛 f.signature (f.spec 𝓛 𝓜.mem 𝓡.returns)) 𝓣.C 𝓣.Λ f.Key.name code.function (code.unfolded 𝓤 𝓛.H 𝓜 𝓡 wired)
    (replaces 𝓛 (g.clauses 𝓛 𝓜.mem 𝓡.returns) (tables_of 𝓤 𝓛.H 𝓜 𝓣) g.Key.name (met 𝓤 𝓛 𝓜 𝓡 (code.calls-queue::pop 𝓡.env wired)))
