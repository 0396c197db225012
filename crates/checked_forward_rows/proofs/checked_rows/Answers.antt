-- `checked_forward_rows::checked_rows` meets its contract: refused by what the tests say, or done as `solve_rows` says. Assumes nothing.
use Rattle.std.proofs.Common.{rules, ◌≡◌, refl}
use Rattle.std.proofs.lemmas.Result.{err_from_is_err_and}
use Rattle.refusals.specs.Refusals.{◌or◌, refuse_settings}
use Rattle.refusals.specs.Answered.{number_in}
use Rattle.refusals.proofs.Laws.{settings_sound}
use Rattle.refusals.proofs.Numbered.{stops, goes_on}
use Rattle.calls.specs.Lent.{solving}
use Rattle.calls.specs.Slices.{lent_in, given_rows_in}
use Rattle.calls.specs.Outcomes.{given_rows}
use Rattle.calls.proofs.Leaving.{call_refused_for, call_done}
use Rattle.calls.proofs.Asked.{rows_asked}
use Rattle.calls.proofs.Fits.{fits}
use Rattle.checked_forward_rows.proofs.checked_rows.Goals.{In_ok-further}
use Rattle.checked_forward_rows.proofs.checked_rows.Goals as goal

pub returns-in_err-check_rows-clause-checks : goal.returns-in_err-check_rows-clause-checks
unfolding given_rows
returns-in_err-check_rows-clause-checks c =
    let p = err_from_is_err_and c.from_residual.result c.from_residual.ensures.1 in
    rw (p.1, p.2) (call_refused_for _ (stops _ _ _ c.in_err-check_rows.ensures))

pub returns-in_err-check_settings-clause-checks : goal.returns-in_err-check_settings-clause-checks
unfolding given_rows
returns-in_err-check_settings-clause-checks c =
    let p = err_from_is_err_and c.from_residual-in_err-check_settings.result c.from_residual-in_err-check_settings.ensures.1 in
    rw (p.1, p.2) (call_refused_for _ (goes_on _ _ c.in_ok-check_rows.ensures (stops _ _ _ c.in_err-check_settings.ensures)))

pub returns-in_err-further-clause-checks : goal.returns-in_err-further-clause-checks
unfolding given_rows
returns-in_err-further-clause-checks c =
    let p = err_from_is_err_and c.from_residual-in_err-further.result c.from_residual-in_err-further.ensures.1 in
    rw (p.1, p.2) (call_refused_for _ (goes_on _ _ c.in_ok-check_rows.ensures (goes_on _ _ c.in_ok-check_settings.ensures (search rules))))

-- no test applies
passed : (c : In_ok-further) → let a = c.args in
    0
    ≡ (given_rows_in solving a.rows (lent_in a.vectors.now a.degrees.now a.workspace.now)).tests a.listed or refuse_settings a.settings or number_in a.further
unfolding given_rows
passed c = goes_on _ _ c.in_ok-check_rows.ensures (goes_on _ _ c.in_ok-check_settings.ensures (search rules))

pub solve_rows-requires : goal.solve_rows-requires
solve_rows-requires c =
    let number = passed (goal.at.solve_rows-requires c).In_ok-further in
    let q = rows_asked solving c.args.listed _ _ _ _ _ _ number refl in
    let w = settings_sound _ _ _ number refl in
    (q.0, fits _ _ c.requires q.1, w.0)

pub returns-clause-checks : goal.returns-clause-checks
returns-clause-checks c = call_done (passed (goal.at.returns-clause-checks c).In_ok-further) refl c.solve_rows.ensures.settles
