-- `solve_bidirectional_rows` meets its contract: it is `checked_rows`, not adaptive. Assumes nothing.
use Rattle.numbers.specs.Choice.{if◌then◌otherwise◌}
use Rattle.solve_bidirectional.proofs.rows.solve_bidirectional_rows.Goals as goal

pub returns-clause-outcome : goal.returns-clause-outcome
unfolding if◌then◌otherwise◌
returns-clause-outcome c = c.checked_rows.ensures.checks.leaves
