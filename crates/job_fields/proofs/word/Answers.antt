-- `job_fields::word` meets its contract: the library's sum of four bytes is that of the definition. Assumes nothing.
use native.Mathlib.Omega.{arith}
use Rattle.job_fields.specs.Fields.{number, word_at}
use Rattle.job_fields.proofs.word.Goals as goal

pub returns : goal.returns
unfolding word_at number
returns c = omega (arith, c.from_le_bytes.ensures)
