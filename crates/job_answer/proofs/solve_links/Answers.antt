-- `job_answer::solve_links` meets its contract: each part that it lends has the length that is stated. Assumes nothing.
use mathlib.Core.Path.{sym}
use native.Mathlib.Omega.{arith}
use lib.Seq.{length-take-le}
use Rattle.job_answer.proofs.solve_links.Goals as goal

pub slice_bounds-made-end : goal.slice_bounds-made-end
slice_bounds-made-end c = sym (length-take-le _ _ (omega arith))

pub slice_bounds-made-end-2 : goal.slice_bounds-made-end-2
slice_bounds-made-end-2 c = sym (length-take-le _ _ (omega arith))

pub slice_bounds-made-end-3 : goal.slice_bounds-made-end-3
slice_bounds-made-end-3 c = sym (length-take-le _ _ (omega arith))

pub solve_lists-requires : goal.solve_lists-requires
solve_lists-requires c = record { n_bound = c.requires.n_bound; rows_long = record { starts_long = length-take-le _ _ (omega arith); columns_long = length-take-le _ _ (omega arith); weights_long = length-take-le _ _ (omega arith) } }
