-- `forward_push::extrapolation::extrapolated_solution` meets its contract: refused by what the tests say, or done as `extrapolate` says. Assumes nothing.
use Rattle.std.proofs.Common.{◌≡◌, refl, sym, ap, List, Float, length}
use Rattle.std.proofs.lemmas.Result.{err_from_is_err_and}
use Rattle.refusals.specs.Refusals.{refuse_lengths, lengths_differ}
use Rattle.refusals.specs.Calls.{outcome_of}
use Rattle.refusals.proofs.Laws.{refused_for, accepted, or_zero, sized}
use Rattle.refusals.proofs.Numbered.{stops, goes_on}
use Rattle.forward_push.specs.Outcomes.{extrapolated_refusal, extrapolating}
use Rattle.forward_push.proofs.extrapolation.extrapolated_solution.Goals as goal

-- what the tests leave: vectors of one length
passed : (estimate residual : List Float) (alpha : Float) (solution : List Float) → 0 ≡ extrapolated_refusal estimate residual alpha solution
    → (length residual ≡ length estimate) × (length solution ≡ length estimate)
unfolding extrapolated_refusal
passed estimate residual alpha solution number = let l = (sized _ _ _ _ (or_zero _ _ (sym number)).0).long in (l.0, l.1.0)

pub returns-in_err-check_sizes : goal.returns-in_err-check_sizes
unfolding extrapolating extrapolated_refusal refuse_lengths lengths_differ
returns-in_err-check_sizes c =
    let p = err_from_is_err_and c.from_residual.result c.from_residual.ensures.1 in
    rw (p.1, p.2) (refused_for _ _ _ _ _ (stops _ _ _ c.in_err-check_sizes.ensures))

pub returns-in_err-check_alpha : goal.returns-in_err-check_alpha
unfolding extrapolating extrapolated_refusal refuse_lengths lengths_differ
returns-in_err-check_alpha c =
    let p = err_from_is_err_and c.from_residual-in_err-check_alpha.result c.from_residual-in_err-check_alpha.ensures.1 in
    rw (p.1, p.2) (refused_for _ _ _ _ _ (goes_on _ _ c.in_ok-check_sizes.ensures c.in_err-check_alpha.ensures))

pub extrapolate-requires : goal.extrapolate-requires
unfolding extrapolated_refusal refuse_lengths lengths_differ
extrapolate-requires c = let a = c.args in
    passed a.found.estimate.now a.found.residual.now a.alpha a.solution.now (goes_on _ _ c.in_ok-check_sizes.ensures c.in_ok-check_alpha.ensures)

pub returns : goal.returns
unfolding extrapolating extrapolated_refusal refuse_lengths lengths_differ
returns c = accepted _ _ _ _ (goes_on _ _ c.in_ok-check_sizes.ensures c.in_ok-check_alpha.ensures) refl (ap (outcome_of 0) c.extrapolate.ensures)
