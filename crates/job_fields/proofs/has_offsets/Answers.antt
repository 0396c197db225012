-- `job_fields::has_offsets` meets its contract: the tests are those of the definition. Assumes nothing.
use Rattle.job_fields.proofs.has_offsets.Goals as goal

pub returns : goal.returns
returns c = rw (c.word-3.ensures, c.word-2.ensures, c.word.ensures, c.word-links.ensures)
