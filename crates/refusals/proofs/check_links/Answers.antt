-- `refusals::check_links` meets its contract: each of its tests ends it, or goes on. Assumes nothing.
use Rattle.std.proofs.Common.{rules}
use Rattle.refusals.proofs.Numbered.{stops, goes_on}
use Rattle.refusals.proofs.check_links.Goals as goal

pub returns-in_err-check_sizes : goal.returns-in_err-check_sizes
returns-in_err-check_sizes c = search (rules, stops)

pub returns : goal.returns
returns c = search (rules, goes_on)
