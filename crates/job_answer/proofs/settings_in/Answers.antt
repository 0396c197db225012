-- `job_answer::settings_in` meets its contract: each number, as it is read. Assumes nothing.
use Rattle.job_answer.specs.Printed.{settings_in}
use Rattle.job_answer.proofs.settings_in.Goals as goal

pub returns : goal.returns
unfolding settings_in
returns c = rw (c.float.ensures, c.float-2.ensures, c.float-3.ensures, c.word.ensures, c.word-2.ensures) at c.usual.ensures
