-- What a solve that answers 0 leaves: its counts, its norm and its vectors are those of the state that it ends in. Assumes nothing.
use Prim.Native.Nat.{ℕ}
use mathlib.Core.Path.{◌≡◌, refl, ap, ◌∙◌}
use Rattle.refusals.specs.Calls.{Outcome, outcome_of}
use Rattle.refusals.proofs.Laws.{number_zero, left_done}
use Rattle.rules.specs.Rules.{State}
use Rattle.rules.specs.Answers.{visited_count}
use Rattle.calls.specs.declared.Solved.{Solved}
use Rattle.calls.specs.Lent.{solved_of}
use Rattle.calls.specs.Outcomes.{Given, solved_with, Solves}
use Rattle.calls.proofs.Vectors.{LeftVectors}

module _ {B : Type 0} {number : ℕ} {g : Given State B} {s : State} {x : Outcome Solved B} (z : Solves number g s x) (done : x.answer.refusal ≡ 0) where
  -- its first number is 0
  pub first_is : number ≡ 0
  unfolding solved_with
  first_is = number_zero _ _ _ (λ y. y.refusal) (λ k. refl) refl number z.leaves done

  -- it leaves its counts, its norm and its vectors
  pub done_leaves : x ≡ outcome_of (solved_of 0 s.pushes (visited_count s) z.norm) (g.after s)
  unfolding solved_with
  done_leaves = left_done _ _ _ (λ y. y.refusal) (λ k. refl) refl number z.leaves done

  module _ (w : LeftVectors g) where
    pub left_estimate : w.estimate_of x.lent ≡ s.estimate
    left_estimate = ap (λ (y : Outcome Solved B). w.estimate_of y.lent) done_leaves ∙ w.estimate_after s

    pub left_residual : w.residual_of x.lent ≡ s.residual
    left_residual = ap (λ (y : Outcome Solved B). w.residual_of y.lent) done_leaves ∙ w.residual_after s
