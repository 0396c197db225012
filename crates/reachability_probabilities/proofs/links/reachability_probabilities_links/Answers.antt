-- `reachability_probabilities_links` meets its contract: what `checked_links` leaves, and the answer worked out of it. Assumes nothing.
use mathlib.Core.List.{[], ◌∷◌}
use mathlib.Core.Path.{refl, sym, ◌∙◌}
use native.Mathlib.Omega.{arith}
use Rattle.std.proofs.lemmas.Result.{err_from_is_err_and}
use Rattle.refusals.proofs.Numbered.{above_zero}
use Rattle.watching.specs.Watching.{watch_in}
use Rattle.calls.proofs.Lengths.{one_besides}
use Rattle.calls.proofs.Vectors.{links_vectors}
use Rattle.backward_push.proofs.Reaching.{reach_refused, reach_done, answering_vectors, links_beside, links_sized}
use Rattle.reachability_probabilities.proofs.links.reachability_probabilities_links.Goals as goal

pub checked_links-requires : goal.checked_links-requires
checked_links-requires c = λ _. omega arith

pub returns-in_err-checked_links-clause-outcome : goal.returns-in_err-checked_links-clause-outcome
unfolding watch_in
returns-in_err-checked_links-clause-outcome c =
    let a = c.args in
    let p = err_from_is_err_and c.from_residual.result c.from_residual.ensures.1 in
    rw (p.1, p.2) (reach_refused (links_beside a.links.nodes a.solution.now a.links.from.now a.links.to.now a.links.weight.now _) a.settings a.target (c.in_err-checked_links.ensures.checks ((_, _) ∷ []) (one_besides _ _)) (above_zero _))

pub extrapolate-requires : goal.extrapolate-requires
unfolding watch_in
extrapolate-requires c = let a = c.args in
    let l = (links_sized a.links.nodes a.solution.now a.links.from.now a.links.to.now a.links.weight.now _ (c.in_ok-checked_links.ensures.checks ((_, _) ∷ []) (one_besides _ _)) refl).long in
    let e = c.checked_links.ensures.same_vectors.estimate.1 ∙ l.1.1.1.1.1.0 in
    rw (c.read.ensures.0, c.read.ensures.1) (c.checked_links.ensures.same_vectors.residual.1 ∙ l.1.1.1.1.1.1.0 ∙ sym e, l.0 ∙ sym e)

pub returns-clause-outcome : goal.returns-clause-outcome
unfolding watch_in
returns-clause-outcome c = let a = c.args in
    let h = c.in_ok-checked_links.ensures.checks ((_, _) ∷ []) (one_besides _ _) in
    let l = (links_sized a.links.nodes a.solution.now a.links.from.now a.links.to.now a.links.weight.now _ h refl).long in
    reach_done (links_beside a.links.nodes a.solution.now a.links.from.now a.links.to.now a.links.weight.now _) a.settings a.target h (links_vectors (answering_vectors a.links.nodes a.solution.now) a.links.nodes a.links.from.now a.links.to.now a.links.weight.now _) refl (c.checked_links.ensures.same_vectors.estimate.1 ∙ l.1.1.1.1.1.0) (rw (c.read.ensures.0, c.read.ensures.1) at c.extrapolate.ensures)
