-- `solve_multi_source_links` meets its contract: what `checked_links` leaves, and the norm. Assumes nothing.
use mathlib.Core.Path.{refl}
use Rattle.watching.specs.Watching.{watch_in}
use Rattle.calls.proofs.Leaving.{no_further, solve_measured}
use Rattle.calls.proofs.Vectors.{forward_vectors, links_vectors}
use Rattle.solve_multi_source.proofs.links.solve_multi_source_links.Goals as goal

pub checked_links-counts-requires : goal.checked_links-counts-requires
checked_links-counts-requires c = λ h. h

pub returns-clause-outcome : goal.returns-clause-outcome
unfolding watch_in
returns-clause-outcome c = solve_measured (links_vectors forward_vectors _ _ _ _ _) (no_further refl c.checked_links-counts.ensures.checks) c.measured.ensures
