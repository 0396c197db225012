-- `checked_bidirectional_links::checked_links` meets its contract: refused by what the tests say, or done as `solve_links` says. Assumes nothing.
use Rattle.std.proofs.Common.{◌≡◌, [], arith, refl}
use Rattle.std.proofs.lemmas.Result.{err_from_is_err_and}
use Rattle.refusals.specs.Refusals.{◌or◌, refuse_settings}
use Rattle.refusals.proofs.Laws.{settings_sound}
use Rattle.refusals.proofs.Numbered.{stops, goes_on}
use Rattle.calls.specs.Slices.{rows_lent_in, given_links_in}
use Rattle.calls.specs.Outcomes.{given_links}
use Rattle.calls.proofs.Lengths.{two_besides}
use Rattle.calls.proofs.Asked.{links_asked}
use Rattle.calls.proofs.Fits.{fits}
use Rattle.bidirectional_push.specs.Lent.{both_lent_in, joining}
use Rattle.bidirectional_push.proofs.Joining.{answer_refused_for, answer_done}
use Rattle.checked_bidirectional_links.proofs.checked_links.Goals.{In_ok-check_settings-2}
use Rattle.checked_bidirectional_links.proofs.checked_links.Goals as goal

pub returns-in_err-check_links-clause-checks : goal.returns-in_err-check_links-clause-checks
unfolding given_links
returns-in_err-check_links-clause-checks c =
    let p = err_from_is_err_and c.from_residual.result c.from_residual.ensures.1 in
    rw (p.1, p.2) (answer_refused_for _ _ _ _ _ _ _ (stops _ _ _ (c.in_err-check_links.ensures _ (two_besides _ _ _))))

pub returns-in_err-check_settings-clause-checks : goal.returns-in_err-check_settings-clause-checks
unfolding given_links
returns-in_err-check_settings-clause-checks c =
    let p = err_from_is_err_and c.from_residual-in_err-check_settings.result c.from_residual-in_err-check_settings.ensures.1 in
    rw (p.1, p.2) (answer_refused_for _ _ _ _ _ _ _ (goes_on _ _ (c.in_ok-check_links.ensures _ (two_besides _ _ _)) (stops _ _ _ c.in_err-check_settings.ensures)))

pub returns-in_err-check_settings-2-clause-checks : goal.returns-in_err-check_settings-2-clause-checks
unfolding given_links
returns-in_err-check_settings-2-clause-checks c =
    let p = err_from_is_err_and c.from_residual-in_err-check_settings-2.result c.from_residual-in_err-check_settings-2.ensures.1 in
    rw (p.1, p.2)
    (answer_refused_for _ _ _ _ _ _ _ (goes_on _ _ (c.in_ok-check_links.ensures _ (two_besides _ _ _)) (goes_on _ _ c.in_ok-check_settings.ensures c.in_err-check_settings-2.ensures)))

-- no test applies
passed : (c : In_ok-check_settings-2) → let a = c.args in
    0
    ≡ (given_links_in joining a.links (rows_lent_in a.made.now (both_lent_in a.forward.now a.backward.now a.reverse.now a.workspace.now))).tests 0 or refuse_settings a.forward_settings or refuse_settings a.backward_settings
unfolding given_links
passed c = goes_on _ _ (c.in_ok-check_links.ensures _ (two_besides _ _ _)) (goes_on _ _ c.in_ok-check_settings.ensures c.in_ok-check_settings-2.ensures)

pub solve_links-requires : goal.solve_links-requires
solve_links-requires c =
    let number = passed (goal.at.solve_links-requires c).In_ok-check_settings-2 in
    let q = links_asked joining 0 _ _ _ _ _ _ number refl in
    let w = settings_sound _ _ _ number refl in
    let z = q.1 in
    let l = z.long in
    let f = fits [] _ (λ _. omega arith) (record { nodes = z.nodes; links = z.links; listed = z.listed; long = l.1.1.1.1.1.1 }) in
    (q.0 _ f.room.paired, l.1.1.0, l.1.1.1.0, l.1.1.1.1.0, l.1.1.1.1.1.0, l.0, l.1.0, f, w.0, w.1)

pub returns-clause-checks : goal.returns-clause-checks
returns-clause-checks c = answer_done _ _ _ _ _ _ (passed (goal.at.returns-clause-checks c).In_ok-check_settings-2) c.solve_links.ensures.joins
