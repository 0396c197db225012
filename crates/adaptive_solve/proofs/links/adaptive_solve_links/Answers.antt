-- `adaptive_solve_links` meets its contract: it is `checked_links`, adaptive. Assumes nothing.
use Rattle.numbers.specs.Choice.{if◌then◌otherwise◌}
use Rattle.adaptive_solve.proofs.links.adaptive_solve_links.Goals as goal

pub returns-clause-outcome : goal.returns-clause-outcome
unfolding if◌then◌otherwise◌
returns-clause-outcome c = c.checked_links.ensures.checks.leaves
