-- `combination::combine_with_forward` meets its contract: refused by what the tests say, or done as `combine` says. Assumes nothing.
use Rattle.std.proofs.Common.{◌≡◌, refl, sym, ap, List, Float, length}
use Rattle.std.proofs.lemmas.Result.{err_from_is_err_and}
use Rattle.numbers.specs.Numbers.{+0}
use Rattle.refusals.specs.Refusals.{refuse_lengths, lengths_differ}
use Rattle.refusals.specs.Calls.{Outcome, outcome_of}
use Rattle.refusals.proofs.Laws.{refused_for, accepted, or_zero, sized}
use Rattle.refusals.proofs.Numbered.{stops, goes_on}
use Rattle.calls.specs.declared.Scored.{Scored}
use Rattle.calls.specs.Lent.{scored_of}
use Rattle.combination.specs.Outcomes.{combined_refusal, combining}
use Rattle.combination.proofs.combine_with_forward.Goals as goal

-- what the tests leave: vectors of one length
passed : (be br fe fr : List Float) (alpha : Float) → 0 ≡ combined_refusal be br fe fr alpha → (length br ≡ length be) × (length fe ≡ length be) × (length fr ≡ length be)
unfolding combined_refusal
passed be br fe fr alpha number = let l = (sized _ _ _ _ (or_zero _ _ (sym number)).0).long in (l.0, l.1.0, l.1.1.0)

pub returns-in_err-check_sizes : goal.returns-in_err-check_sizes
unfolding combining combined_refusal refuse_lengths lengths_differ
returns-in_err-check_sizes c =
    let p = err_from_is_err_and c.from_residual.result c.from_residual.ensures.1 in
    rw (p.1, p.2) (ap (λ (x : Outcome Scored (Unit {0})). x.answer) (refused_for (λ k. scored_of k +0) tt _ _ _ (stops _ _ _ c.in_err-check_sizes.ensures)))

pub returns-in_err-check_alpha : goal.returns-in_err-check_alpha
unfolding combining combined_refusal refuse_lengths lengths_differ
returns-in_err-check_alpha c =
    let p = err_from_is_err_and c.from_residual-in_err-check_alpha.result c.from_residual-in_err-check_alpha.ensures.1 in
    rw (p.1, p.2)
    (ap (λ (x : Outcome Scored (Unit {0})). x.answer) (refused_for (λ k. scored_of k +0) tt _ _ _ (goes_on _ _ c.in_ok-check_sizes.ensures c.in_err-check_alpha.ensures)))

pub combine-requires : goal.combine-requires
unfolding combined_refusal refuse_lengths lengths_differ
combine-requires c = let a = c.args in
    passed a.backward.estimate.now a.backward.residual.now a.forward.estimate.now a.forward.residual.now a.alpha
    (goes_on _ _ c.in_ok-check_sizes.ensures c.in_ok-check_alpha.ensures)

pub returns : goal.returns
unfolding combining combined_refusal refuse_lengths lengths_differ
returns c = ap (λ (x : Outcome Scored (Unit {0})). x.answer)
    (accepted (λ k. scored_of k +0) tt _ _ (goes_on _ _ c.in_ok-check_sizes.ensures c.in_ok-check_alpha.ensures) refl
    (ap (λ (z : Float). outcome_of (scored_of 0 z) tt) c.combine.ensures))
