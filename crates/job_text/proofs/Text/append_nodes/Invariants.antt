-- `Text::append_nodes` meets its contract. The invariant: the lines of the first v nodes are put. Assumes nothing.
use Prim.Native.Nat.{ℕ, ◌*◌}
use mathlib.Core.List.{List}
use lib.ListN.{take}
use lib.Ieee.{Float}
use Rattle.job_text.specs.Text.{node_lines}
use Rattle.job_text.specs.Growth.{GrownBy, Near}
use Rattle.job_text.specs.declared.Text.{Text}
use Rattle.job_text.proofs.Text.append_nodes.Given as goal

pub record Inv (t₀ : Text) (estimate residual : List Float) (t : Text) (v : ℕ) : Type 0 where
  pub near : Near (64 * v) t₀ t
  pub lines : GrownBy (node_lines 0 (take v estimate) (take v residual)) t₀ t

abbrev pub invariant-loop-v : goal.invariant-loop-v
invariant-loop-v l = Inv l.initial.self l.estimate l.residual l.self l.v
