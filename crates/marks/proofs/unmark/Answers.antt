-- `marks::unmark` meets its contract, by the law of one bit cleared. Assumes nothing.
use Rattle.marks.proofs.Marking.{unmark_law}
use Rattle.marks.proofs.unmark.Goals as goal

pub returns : goal.returns
returns c = unmark_law c.args.words.now c.args.v c.requires
