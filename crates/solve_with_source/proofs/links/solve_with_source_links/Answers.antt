-- `solve_with_source_links` meets its contract: what `checked_links` leaves, and the norm. Assumes nothing.
use mathlib.Core.List.{[]}
use native.Mathlib.Omega.{arith}
use Rattle.watching.specs.Watching.{watch_in}
use Rattle.calls.proofs.Leaving.{with_further, solve_measured}
use Rattle.calls.proofs.Vectors.{links_vectors}
use Rattle.calls.proofs.Lengths.{none_besides}
use Rattle.backward_push.proofs.Reversing.{backward_vectors}
use Rattle.solve_with_source.proofs.links.solve_with_source_links.Goals as goal

pub checked_links-counts-requires : goal.checked_links-counts-requires
checked_links-counts-requires c = λ _. omega arith

pub returns-clause-outcome : goal.returns-clause-outcome
unfolding watch_in
returns-clause-outcome c = solve_measured (links_vectors backward_vectors _ _ _ _ _)
    (with_further c.check_precision-further.ensures (c.checked_links-counts.ensures.checks [] none_besides))
    c.measured.ensures
