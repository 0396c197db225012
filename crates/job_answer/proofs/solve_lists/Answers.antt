-- `job_answer::solve_lists` meets its contract: each part that it lends has the length that is stated. Assumes nothing.
use mathlib.Core.Path.{sym}
use native.Mathlib.Omega.{arith}
use lib.Seq.{length-take-le}
use Rattle.calls.specs.Lent.{words}
use Rattle.job_answer.proofs.solve_lists.Goals as goal

pub slice_bounds-vectors-end : goal.slice_bounds-vectors-end
slice_bounds-vectors-end c = sym (length-take-le _ _ (omega arith))

pub slice_bounds-vectors-end-2 : goal.slice_bounds-vectors-end-2
slice_bounds-vectors-end-2 c = sym (length-take-le _ _ (omega arith))

pub slice_bounds-workspace-end : goal.slice_bounds-workspace-end
slice_bounds-workspace-end c = sym (length-take-le _ _ (omega arith))

pub slice_bounds-workspace-end-2 : goal.slice_bounds-workspace-end-2
slice_bounds-workspace-end-2 c = sym (length-take-le _ _ (omega arith))

pub slice_bounds-workspace-end-3 : goal.slice_bounds-workspace-end-3
slice_bounds-workspace-end-3 c = sym (length-take-le _ _ (omega arith))

pub slice_bounds-workspace-end-4 : goal.slice_bounds-workspace-end-4
slice_bounds-workspace-end-4 c = sym (length-take-le _ _ (omega arith))

pub slice_bounds-solve_and_tell-end : goal.slice_bounds-solve_and_tell-end
slice_bounds-solve_and_tell-end c = sym (length-take-le _ _ (omega arith))

pub solve_and_tell-requires : goal.solve_and_tell-requires
unfolding words
solve_and_tell-requires c = let q = c.requires in record {
  n_bound = q.n_bound;
  rows_long = q.rows_long;
  solve_long = record {
    estimate_long = length-take-le _ _ (omega arith);
    residual_long = length-take-le _ _ (omega arith);
    degrees_long = length-take-le _ _ (omega arith);
    priorities_long = length-take-le _ _ (omega arith);
    nodes_long = length-take-le _ _ (omega arith);
    queued_long = length-take-le _ _ (omega arith);
    visited_long = length-take-le _ _ (omega arith);
  };
}
