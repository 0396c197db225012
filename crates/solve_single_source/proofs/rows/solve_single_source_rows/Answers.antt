-- `solve_single_source_rows` meets its contract: what `checked_rows` leaves, and the norm. Assumes nothing.
use mathlib.Core.Path.{refl}
use native.Mathlib.Omega.{arith}
use Rattle.watching.specs.Watching.{watch_in}
use Rattle.calls.proofs.Leaving.{no_further, solve_measured}
use Rattle.calls.proofs.Vectors.{forward_vectors, rows_vectors}
use Rattle.solve_single_source.proofs.rows.solve_single_source_rows.Goals as goal

pub checked_rows-counts-requires : goal.checked_rows-counts-requires
checked_rows-counts-requires c = λ _. omega arith

pub returns-clause-outcome : goal.returns-clause-outcome
unfolding watch_in
returns-clause-outcome c =
    solve_measured (rows_vectors forward_vectors _ _ _ _ _) (no_further refl c.checked_rows-counts.ensures.checks) c.measured.ensures
