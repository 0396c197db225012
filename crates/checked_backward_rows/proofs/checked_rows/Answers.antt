-- `checked_backward_rows::checked_rows` meets its contract: refused by what the tests say, or done as `solve_rows` says. Assumes nothing.
use Rattle.std.proofs.Common.{rules, ◌≡◌, ℕ, List, false, refl}
use Rattle.std.proofs.lemmas.Result.{err_from_is_err_and}
use Rattle.refusals.specs.Refusals.{◌or◌, lengths_differ, refuse_settings}
use Rattle.refusals.specs.Answered.{number_in}
use Rattle.refusals.proofs.Laws.{settings_sound}
use Rattle.refusals.proofs.Numbered.{stops, goes_on}
use Rattle.calls.specs.Lent.{besides}
use Rattle.calls.specs.Slices.{given_rows_in}
use Rattle.calls.specs.Outcomes.{given_rows}
use Rattle.calls.proofs.Leaving.{call_refused_for, call_done}
use Rattle.calls.proofs.Asked.{rows_asked}
use Rattle.calls.proofs.Fits.{fits}
use Rattle.calls.proofs.Lengths.{failing, failing_differ, sized_behind, rows_besides}
use Rattle.backward_push.specs.Lent.{reversing}
use Rattle.backward_push.specs.Slices.{back_lent_in}
use Rattle.checked_backward_rows.proofs.checked_rows.Goals.{In_ok-further}
use Rattle.checked_backward_rows.proofs.checked_rows.Goals as goal

pub returns-in_err-check_rows-clause-checks : goal.returns-in_err-check_rows-clause-checks
unfolding given_rows
returns-in_err-check_rows-clause-checks c more e =
    let p = err_from_is_err_and c.from_residual.result c.from_residual.ensures.1 in
    rw (p.1, p.2) (call_refused_for _ (stops _ _ _ (c.in_err-check_rows.ensures more e)))

pub returns-in_err-check_settings-clause-checks : goal.returns-in_err-check_settings-clause-checks
unfolding given_rows
returns-in_err-check_settings-clause-checks c more e =
    let p = err_from_is_err_and c.from_residual-in_err-check_settings.result c.from_residual-in_err-check_settings.ensures.1 in
    rw (p.1, p.2) (call_refused_for _ (goes_on _ _ (c.in_ok-check_rows.ensures more e) (stops _ _ _ c.in_err-check_settings.ensures)))

pub returns-in_err-further-clause-checks : goal.returns-in_err-further-clause-checks
unfolding given_rows
returns-in_err-further-clause-checks c more e =
    let p = err_from_is_err_and c.from_residual-in_err-further.result c.from_residual-in_err-further.ensures.1 in
    rw (p.1, p.2) (call_refused_for _ (goes_on _ _ (c.in_ok-check_rows.ensures more e) (goes_on _ _ c.in_ok-check_settings.ensures (search rules))))

-- no test applies
passed : (c : In_ok-further) → let a = c.args in
    (more : List (ℕ × ℕ)) → a.other ≡ lengths_differ false more
    → 0
    ≡ (given_rows_in (besides more reversing) a.rows (back_lent_in a.reverse.now a.vectors.now a.workspace.now)).tests a.listed or refuse_settings a.settings or number_in a.further
unfolding given_rows
passed c more e = goes_on _ _ (c.in_ok-check_rows.ensures more e) (goes_on _ _ c.in_ok-check_settings.ensures (search rules))

pub solve_rows-requires : goal.solve_rows-requires
solve_rows-requires c =
    let a = c.args in
    let t = failing a.other in
    let number = passed (goal.at.solve_rows-requires c).In_ok-further t (failing_differ a.other) in
    let q = rows_asked (besides t reversing) a.listed _ _ _ _ _ _ number refl in
    let w = settings_sound _ _ _ number refl in
    let z = sized_behind t _ q.1 in
    let l = z.long in
    let f = fits _ _ c.requires (record { nodes = z.nodes; links = z.links; listed = z.listed; long = l.1.1.1.1 }) in (
      record {
        entries = z.links;
        rowed = q.0;
        starts_long = l.0;
        columns_long = l.1.0;
        weights_long = l.1.1.0;
        positions_long = f.room.paired;
      },
      l.1.1.1.0,
      f,
      w.0,
    )

pub returns-clause-checks : goal.returns-clause-checks
returns-clause-checks c more e = call_done (passed (goal.at.returns-clause-checks c).In_ok-further more e) refl (rows_besides reversing more _ _ _ _ _ _ _ _ _ c.solve_rows.ensures.settles)
