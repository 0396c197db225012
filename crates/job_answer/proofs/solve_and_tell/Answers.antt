-- `job_answer::solve_and_tell` meets its contract: what the solve answers and leaves is the job's text. Assumes nothing.
use mathlib.Core.Path.{sym, ◌∙◌}
use native.Mathlib.Omega.{arith}
use Rattle.calls.specs.Slices.{lent_in, rows_lent_in}
use Rattle.job_answer.proofs.Texts.{solve_writes}
use Rattle.job_answer.proofs.solve_and_tell.Goals as goal

pub tell-requires : goal.tell-requires
tell-requires c = let q = c.requires in
    let v = c.solve_multi_source_links-answer.ensures.same_vectors in
    let e = v.estimate.1 in
    let r = v.residual.1 in
    (omega (arith, e, q.solve_long.estimate_long, q.n_bound.0), r ∙ q.solve_long.residual_long ∙ sym (e ∙ q.solve_long.estimate_long), q.n_bound.2)

pub returns : goal.returns
returns c = let a = c.args in
    let l = a.links in
    let q = c.requires in
    record {
      same = c.tell.ensures.same;
      written =
          solve_writes l.nodes l.from.now l.to.now l.weight.now a.sources.now a.settings (rows_lent_in a.made.now (lent_in a.vectors.now a.degrees.now a.workspace.now))
          q.n_bound.1 q.rows_long q.solve_long c.solve_multi_source_links-answer.ensures.outcome (rw q.n_bound.2.0 at c.tell.ensures.grown);
    }
