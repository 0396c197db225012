-- `job_fields::is_shaped` meets its contract: no job is so short, and else the tests are those of the definition. Assumes nothing.
use mathlib.Core.Path.{sym}
use Rattle.job_fields.specs.Shape.{shaped}
use Rattle.job_fields.proofs.Shapes.{too_short}
use Rattle.job_fields.proofs.is_shaped.Goals as goal

pub returns-then-bytes-lt56 : goal.returns-then-bytes-lt56
returns-then-bytes-lt56 c = sym (too_short c.args.bytes.now c.if-bytes-lt56.true)

pub returns : goal.returns
unfolding shaped
returns c = rw (c.word.ensures, c.has_limits.ensures, c.has_offsets.ensures, c.has_length.ensures)
