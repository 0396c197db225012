-- `query_transition_probability_rows` meets its contract: what `checked_rows` leaves, and the score in it. Assumes nothing.
use mathlib.Core.List.{[]}
use mathlib.Core.Path.{refl}
use native.Mathlib.Omega.{arith}
use Rattle.watching.specs.Watching.{watch_in}
use Rattle.calls.proofs.Leaving.{no_further, query_answered}
use Rattle.calls.proofs.Vectors.{rows_vectors}
use Rattle.calls.proofs.Lengths.{none_besides}
use Rattle.backward_push.proofs.Reversing.{backward_vectors}
use Rattle.query_transition_probability.proofs.rows.query_transition_probability_rows.Goals as goal

pub checked_rows-counts-requires : goal.checked_rows-counts-requires
checked_rows-counts-requires c = λ _. omega arith

pub returns-clause-outcome : goal.returns-clause-outcome
unfolding watch_in
returns-clause-outcome c = query_answered _ _ (rows_vectors backward_vectors _ _ _ _ _)
    (no_further refl (c.checked_rows-counts.ensures.checks [] none_besides))
    c.answered.ensures
