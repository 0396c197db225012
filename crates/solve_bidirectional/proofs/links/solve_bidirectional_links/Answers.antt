-- `solve_bidirectional_links` meets its contract: it is `checked_links`, not adaptive. Assumes nothing.
use Rattle.numbers.specs.Choice.{if◌then◌otherwise◌}
use Rattle.solve_bidirectional.proofs.links.solve_bidirectional_links.Goals as goal

pub returns-clause-outcome : goal.returns-clause-outcome
unfolding if◌then◌otherwise◌
returns-clause-outcome c = c.checked_links.ensures.checks.leaves
