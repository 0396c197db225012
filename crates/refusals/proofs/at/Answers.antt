-- `refusals::at` meets its contract. Assumes nothing.
use mathlib.Core.Path.{sym}
use lib.ListN.{get_or-eq_default}
use Rattle.refusals.proofs.at.Goals as goal

pub returns-else-i-a : goal.returns-else-i-a
returns-else-i-a c = sym (get_or-eq_default c.args.a.now 0 c.if-i-a.false)
