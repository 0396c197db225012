-- `edges::edge_weight` meets its contract: refused by what the tests say, or answered by what the search finds. Assumes nothing.
use Rattle.std.proofs.Common.{refl}
use Rattle.std.proofs.lemmas.Result.{err_from_is_err_and}
use Rattle.refusals.proofs.Numbered.{above_zero}
use Rattle.edges.specs.Outcomes.{weighed_by, edge_weight}
use Rattle.edges.proofs.Answered.{tested, asked_refused, asked_done}
use Rattle.edges.proofs.edge_weight.Goals as goal

pub returns-in_err-check : goal.returns-in_err-check
unfolding edge_weight
returns-in_err-check c =
    let p = err_from_is_err_and c.from_residual.result c.from_residual.ensures.1 in
    rw (p.1, p.2) (asked_refused _ _ _ _ c.in_err-check.ensures _ weighed_by _ _ (above_zero _))

pub edge_between-requires : goal.edge_between-requires
edge_between-requires c = tested _ _ _ _ c.in_ok-check.ensures refl

pub returns : goal.returns
unfolding edge_weight
returns c = asked_done _ _ _ _ c.in_ok-check.ensures _ weighed_by _ _ refl c.edge_between.ensures
