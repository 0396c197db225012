-- `query_transition_probability_links` meets its contract: what `checked_links` leaves, and the score in it. Assumes nothing.
use mathlib.Core.List.{[]}
use mathlib.Core.Path.{refl}
use native.Mathlib.Omega.{arith}
use Rattle.watching.specs.Watching.{watch_in}
use Rattle.calls.proofs.Leaving.{no_further, query_answered}
use Rattle.calls.proofs.Vectors.{links_vectors}
use Rattle.calls.proofs.Lengths.{none_besides}
use Rattle.backward_push.proofs.Reversing.{backward_vectors}
use Rattle.query_transition_probability.proofs.links.query_transition_probability_links.Goals as goal

pub checked_links-counts-requires : goal.checked_links-counts-requires
checked_links-counts-requires c = λ _. omega arith

pub returns-clause-outcome : goal.returns-clause-outcome
unfolding watch_in
returns-clause-outcome c = query_answered _ _ (links_vectors backward_vectors _ _ _ _ _)
    (no_further refl (c.checked_links-counts.ensures.checks [] none_besides))
    c.answered.ensures
