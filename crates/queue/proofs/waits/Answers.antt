-- `queue::waits` meets its contract: the marks agree with the slots. Assumes nothing.
use mathlib.Core.Path.{◌∙◌}
use Rattle.queue.proofs.waits.Goals as goal

pub returns : goal.returns
returns c = λ size priorities nodes heap below. c.is_marked.ensures ∙ heap.marks_agree c.args.v below
