-- `query_single_entry_rows` meets its contract: what `checked_rows` leaves, and the score in it. Assumes nothing.
use mathlib.Core.Path.{refl}
use native.Mathlib.Omega.{arith}
use Rattle.watching.specs.Watching.{watch_in}
use Rattle.calls.proofs.Leaving.{no_further, query_answered}
use Rattle.calls.proofs.Vectors.{forward_vectors, rows_vectors}
use Rattle.query_single_entry.proofs.rows.query_single_entry_rows.Goals as goal

pub checked_rows-counts-requires : goal.checked_rows-counts-requires
checked_rows-counts-requires c = λ _. omega arith

pub returns-clause-outcome : goal.returns-clause-outcome
unfolding watch_in
returns-clause-outcome c = query_answered _ _ (rows_vectors forward_vectors _ _ _ _ _) (no_further refl c.checked_rows-counts.ensures.checks) c.answered.ensures
