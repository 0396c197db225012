-- `norm::evened` meets its contract (`Scale.antt`). Assumes nothing.
use Rattle.norm.proofs.Scale.{halved, halved_odd}
use Rattle.norm.proofs.evened.Goals as goal

pub returns-then-h-eq0 : goal.returns-then-h-eq0
returns-then-h-eq0 c = halved c.args.s c.args.h c.requires.0 c.requires.1 c.if-h-eq0.true

pub returns-else-h-eq0 : goal.returns-else-h-eq0
returns-else-h-eq0 c = halved_odd c.args.s c.args.h c.requires.0 c.requires.1 c.if-h-eq0.false
