-- `forward_push::rows::solve_rows` meets its contract: the degrees, the solve and the clearing, by the laws of rows in a direction. Assumes nothing.
use mathlib.Core.Path.{refl}
use Rattle.watching.specs.Watching.{watch_in}
use Rattle.graph.proofs.Given.{summing_of}
use Rattle.calls.specs.Outcomes.{given_rows, ends}
use Rattle.calls.proofs.Directed.{directed_forward, rows_ready, fits_still, degrees_long, directed_left}
use Rattle.forward_push.proofs.rows.solve_rows.Goals as goal

pub sum_rows-requires : goal.sum_rows-requires
sum_rows-requires c = let p = c.requires in rw p.1.degrees_long (summing_of p.0)

pub solve_settled-counts-requires : goal.solve_settled-counts-requires
solve_settled-counts-requires c = let p = c.requires in
    let e = c.sum_rows.ensures in
    let z = directed_forward p.0 (rw p.1.degrees_long at e) refl refl in
    (rows_ready z, fits_still z p.1, p.2)

pub returns-clause-settles : goal.returns-clause-settles
unfolding given_rows ends
returns-clause-settles c = let a = c.args in
    let p = c.requires in
    let z = directed_forward p.0 (rw p.1.degrees_long at c.sum_rows.ensures) refl refl in
    record { leaves = directed_left z a.settings (watch_in a.watch) a.sources.now c.solve_settled-counts.ensures.settled (rw (degrees_long z) at (c.fill.ensures.after (λ _ e. e))) }
