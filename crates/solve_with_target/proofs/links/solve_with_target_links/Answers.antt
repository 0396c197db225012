-- `solve_with_target_links` meets its contract: what `checked_links` leaves, and the norm. Assumes nothing.
use native.Mathlib.Omega.{arith}
use Rattle.watching.specs.Watching.{watch_in}
use Rattle.calls.proofs.Leaving.{with_further, solve_measured}
use Rattle.calls.proofs.Vectors.{forward_vectors, links_vectors}
use Rattle.solve_with_target.proofs.links.solve_with_target_links.Goals as goal

pub checked_links-counts-requires : goal.checked_links-counts-requires
checked_links-counts-requires c = λ _. omega arith

pub returns-clause-outcome : goal.returns-clause-outcome
unfolding watch_in
returns-clause-outcome c = solve_measured (links_vectors forward_vectors _ _ _ _ _) (with_further c.check_precision-further.ensures c.checked_links-counts.ensures.checks) c.measured.ensures
