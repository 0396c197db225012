-- `marks::is_marked` meets its contract: the test is the bit that the law names. Assumes nothing.
use Rattle.marks.proofs.Marking.{test_law}
use Rattle.marks.proofs.is_marked.Goals as goal

pub returns : goal.returns
returns c = test_law c.args.words.now c.args.v
