-- `job_answer::run` meets its contract: a wrong shape is refused, and any other job is run. Assumes nothing.
use mathlib.Core.Path.{sym, ◌∙◌}
use Rattle.refusals.specs.Answered.{number_of}
use Rattle.job_text.proofs.Growing.{grown_counts}
use Rattle.job_answer.proofs.Texts.{misshapen_writes, shaped_writes}
use Rattle.job_answer.proofs.run.Goals as goal

pub returns-then-not-is_shaped : goal.returns-then-not-is_shaped
unfolding number_of
returns-then-not-is_shaped c =
    let g = rw c.into.ensures at c.append_refused.ensures.grown in
    record { writes = misshapen_writes c.args.bytes.now (sym c.is_shaped.ensures ∙ c.if-not-is_shaped.true) g; prefix_len = grown_counts g }

pub returns : goal.returns
returns c =
    let w = c.run_shaped.ensures.written in
    record { writes = shaped_writes c.args.bytes.now (sym c.is_shaped.ensures ∙ c.if-not-is_shaped.false) w; prefix_len = grown_counts w.grown }
