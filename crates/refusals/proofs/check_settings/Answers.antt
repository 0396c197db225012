-- `refusals::check_settings` meets its contract: each of its tests ends it, or goes on. Assumes nothing.
use Rattle.std.proofs.Common.{rules}
use Rattle.refusals.specs.Refusals.{refuse_settings}
use Rattle.refusals.specs.Answered.{number_of}
use Rattle.refusals.proofs.Numbered.{stops, goes_on}
use Rattle.refusals.proofs.check_settings.Goals as goal

pub returns-in_err-check_alpha : goal.returns-in_err-check_alpha
unfolding refuse_settings number_of
returns-in_err-check_alpha c = search (rules, stops)

pub returns-in_err-refuse_if : goal.returns-in_err-refuse_if
unfolding refuse_settings number_of
returns-in_err-refuse_if c = search (rules, stops, goes_on)

pub returns : goal.returns
unfolding refuse_settings number_of
returns c = search (rules, goes_on)
