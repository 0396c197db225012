-- `queue::held::adapt` meets its contract: `ThinAdapt.antt`'s theorem, at what `lent::adapt` promises.
-- Assumes nothing.
use contract.Running.{tables, tables_of}
use denote.Triple.Spec.{triple_of}
use denote.Triple.Table.{entered}
use Rattle.queue.proofs.ThinAdapt.{holds}
use Rattle.queue.specs.contracts.lent.adapt as g
use Rattle.queue.proofs.lent.adapt.Met.{met}
use Rattle.queue.specs.contracts.held.adapt as f
use Rattle.queue.proofs.held.adapt.Statement.{statement}
use Rattle.queue.proofs.held.adapt.Code as code

pub adapt_spec : {M : Type 1} → statement M
unfolding tables_of
adapt_spec 𝓤 𝓛 𝓜 𝓡 wired =
    let 𝓣 = tables 𝓤 𝓛.H 𝓜 𝓡 𝓡.env in
    entered 𝓤 𝓛.H (triple_of 𝓛 f.signature (f.spec 𝓛 𝓜.mem 𝓡.returns)) 𝓣.C 𝓣.Λ f.Key.name code.function (code.unfolded 𝓤 𝓛.H 𝓜 𝓡 wired)
    (holds 𝓛 (f.clauses 𝓛 𝓜.mem 𝓡.returns) (tables_of 𝓤 𝓛.H 𝓜 𝓣) g.Key.name (met 𝓤 𝓛 𝓜 𝓡 (code.calls-queue::lent::adapt 𝓡.env wired)))
