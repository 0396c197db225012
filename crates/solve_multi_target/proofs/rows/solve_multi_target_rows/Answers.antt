-- `solve_multi_target_rows` meets its contract: what `checked_rows` leaves, and the norm. Assumes nothing.
use mathlib.Core.List.{[]}
use mathlib.Core.Path.{refl}
use Rattle.watching.specs.Watching.{watch_in}
use Rattle.calls.proofs.Leaving.{no_further, solve_measured}
use Rattle.calls.proofs.Vectors.{rows_vectors}
use Rattle.calls.proofs.Lengths.{none_besides}
use Rattle.backward_push.proofs.Reversing.{backward_vectors}
use Rattle.solve_multi_target.proofs.rows.solve_multi_target_rows.Goals as goal

pub checked_rows-counts-requires : goal.checked_rows-counts-requires
checked_rows-counts-requires c = λ h. h

pub returns-clause-outcome : goal.returns-clause-outcome
unfolding watch_in
returns-clause-outcome c = solve_measured (rows_vectors backward_vectors _ _ _ _ _)
    (no_further refl (c.checked_rows-counts.ensures.checks [] none_besides))
    c.measured.ensures
