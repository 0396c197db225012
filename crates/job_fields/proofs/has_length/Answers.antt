-- `job_fields::has_length` meets its contract: the test is that of the definition. Assumes nothing.
use Rattle.job_fields.proofs.has_length.Goals as goal

pub returns : goal.returns
returns c = rw (c.word-sources.ensures, c.word-links.ensures)
