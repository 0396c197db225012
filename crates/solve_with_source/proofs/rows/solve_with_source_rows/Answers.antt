-- `solve_with_source_rows` meets its contract: what `checked_rows` leaves, and the norm. Assumes nothing.
use mathlib.Core.List.{[]}
use native.Mathlib.Omega.{arith}
use Rattle.watching.specs.Watching.{watch_in}
use Rattle.calls.proofs.Leaving.{with_further, solve_measured}
use Rattle.calls.proofs.Vectors.{rows_vectors}
use Rattle.calls.proofs.Lengths.{none_besides}
use Rattle.backward_push.proofs.Reversing.{backward_vectors}
use Rattle.solve_with_source.proofs.rows.solve_with_source_rows.Goals as goal

pub checked_rows-counts-requires : goal.checked_rows-counts-requires
checked_rows-counts-requires c = λ _. omega arith

pub returns-clause-outcome : goal.returns-clause-outcome
unfolding watch_in
returns-clause-outcome c = solve_measured (rows_vectors backward_vectors _ _ _ _ _)
    (with_further c.check_precision-further.ensures (c.checked_rows-counts.ensures.checks [] none_besides))
    c.measured.ensures
