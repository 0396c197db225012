-- `refusals::check_sizes` meets its contract: each of its tests ends it, or goes on. Assumes nothing.
use Rattle.std.proofs.Common.{rules}
use Rattle.refusals.specs.Refusals.{refuse_nodes, refuse_links, refuse_listed}
use Rattle.refusals.specs.Answered.{number_of}
use Rattle.refusals.proofs.Numbered.{stops, goes_on}
use Rattle.refusals.proofs.check_sizes.Goals as goal

pub returns-in_err-refuse_if : goal.returns-in_err-refuse_if
unfolding refuse_nodes number_of
returns-in_err-refuse_if c = search (rules, stops)

pub returns-in_err-refuse_if-2 : goal.returns-in_err-refuse_if-2
unfolding refuse_nodes refuse_links number_of
returns-in_err-refuse_if-2 c = search (rules, stops, goes_on)

pub returns-in_err-refuse_if-3 : goal.returns-in_err-refuse_if-3
unfolding refuse_nodes refuse_links refuse_listed number_of
returns-in_err-refuse_if-3 c = search (rules, stops, goes_on)

pub returns : goal.returns
unfolding refuse_nodes refuse_links refuse_listed number_of
returns c = search (rules, goes_on)
