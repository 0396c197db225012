-- `edges::has_edge` meets its contract: refused by what the tests say, or answered by what the search finds. Assumes nothing.
use Rattle.std.proofs.Common.{refl, ap, ◌≡◌, ◌∙◌, Float}
use Rattle.std.specs.Prelude.{Option, None, Some, is_some}
use Rattle.std.proofs.lemmas.Result.{err_from_is_err_and}
use Rattle.refusals.proofs.Numbered.{above_zero}
use Rattle.edges.specs.Outcomes.{found_of, found_by, has_edge}
use Rattle.edges.proofs.Answered.{tested, asked_refused, asked_done}
use Rattle.edges.proofs.has_edge.Goals as goal

-- the answer, by the link
found_is : (e : Option Float) → found_of 0 (is_some e) ≡ found_by e
unfolding found_by
found_is None = refl
found_is (Some weight) = refl

pub returns-in_err-check : goal.returns-in_err-check
unfolding has_edge
returns-in_err-check c =
    let p = err_from_is_err_and c.from_residual.result c.from_residual.ensures.1 in
    rw (p.1, p.2) (asked_refused _ _ _ _ c.in_err-check.ensures _ found_by _ _ (above_zero _))

pub edge_between-requires : goal.edge_between-requires
edge_between-requires c = tested _ _ _ _ c.in_ok-check.ensures refl

pub returns : goal.returns
unfolding has_edge
returns c = ap (found_of 0) c.is_some.ensures ∙ found_is c.edge_between.result ∙ asked_done _ _ _ _ c.in_ok-check.ensures _ found_by _ _ refl c.edge_between.ensures
