-- What is lent to a bidirectional or adaptive call: two pairs of vectors, and the workspace of a backward solve. Assumes nothing.
use Rattle.std.specs.Prelude.{List, ◌∷◌, length, Float}
use Rattle.calls.specs.Lent.{Lending, solve_done}
use Rattle.calls.specs.declared.lent.Vectors.{Vectors}
use Rattle.calls.specs.declared.lent.Workspace.{Workspace}
use Rattle.backward_push.specs.declared.reversed.ReverseBuffers.{ReverseBuffers}
use Rattle.backward_push.specs.Lent.{BackLent, back_lengths, back_done}
use Rattle.backward_push.specs.Slices.{back_lent_in}

-- the vectors of a forward and of a backward solve
pub record Pairs : Type 0 where
  pub forward_estimate : List Float
  pub forward_residual : List Float
  pub backward_estimate : List Float
  pub backward_residual : List Float

-- the pair of the forward solve, and what a backward solve is lent, its pair included
pub record BothLent : Type 0 where
  pub estimate : List Float
  pub residual : List Float
  pub back : BackLent

-- the same, by its parts
abbrev pub both_lent : List Float → List Float → BackLent → BothLent
both_lent e r b = record { estimate = e; residual = r; back = b }

-- of the structs of a call: the vectors of the forward and of the backward solve, and the workspace
abbrev pub both_lent_in : Vectors → Vectors → ReverseBuffers → Workspace → BothLent
both_lent_in f b r w = both_lent f.estimate.now f.residual.now (back_lent_in r b w)

-- the lending of both solves: the queue's workspace serves one after the other
abbrev pub joining : Lending Pairs BothLent
joining =
    record {
      lengths = λ n m b. (length b.estimate, n) ∷ (length b.residual, n) ∷ back_lengths n m b.back;
      done = λ n m p. both_lent p.forward_estimate p.forward_residual (back_done n m (solve_done n p.backward_estimate p.backward_residual));
    }
