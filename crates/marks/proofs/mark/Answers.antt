-- `marks::mark` meets its contract, by the law of one bit set. Assumes nothing.
use Rattle.marks.proofs.Marking.{mark_law}
use Rattle.marks.proofs.mark.Goals as goal

pub returns : goal.returns
returns c = mark_law c.args.words.now c.args.v c.requires
