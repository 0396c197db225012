-- `norm::whole_root` meets its contract: each turn of its loop is one of `Digits.antt`, and the rest is arithmetic. Assumes nothing.
use Rattle.norm.proofs.Digits.{turn}
use Rattle.norm.proofs.whole_root.Goals as goal

pub loop-preserved : goal.loop-preserved
loop-preserved c = turn c.loop.invariant c.loop-test.true c.next_digit-part.ensures.0 c.next_digit-part.ensures.1
