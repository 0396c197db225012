-- `calls::score_at` meets its contract: the element, or +0 past the end. Assumes nothing.
use mathlib.Core.Path.{sym}
use lib.ListN.{get_or-eq_default}
use Rattle.rules.proofs.Lists.{other_default}
use Rattle.calls.proofs.score_at.Goals as goal

pub returns-then-at-estimate : goal.returns-then-at-estimate
returns-then-at-estimate c = other_default c.args.estimate.now c.args.v _ _ c.if-at-estimate.true

pub returns-else-at-estimate : goal.returns-else-at-estimate
returns-else-at-estimate c = sym (get_or-eq_default c.args.estimate.now _ c.if-at-estimate.false)
