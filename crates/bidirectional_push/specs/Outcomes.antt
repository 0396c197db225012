-- The one outcome of each public call of the bidirectional solver. Assumes nothing.
use Rattle.std.specs.Prelude.{ℕ, Bool, List, [], ◌∷◌, replicate, Float}
use Rattle.numbers.specs.Numbers.{+0}
use Rattle.numbers.specs.Choice.{if◌then◌otherwise◌}
use Rattle.refusals.specs.Refusals.{◌or◌, refuse_settings}
use Rattle.refusals.specs.Calls.{Outcome, outcome_of, by_refusal}
use Rattle.refusals.specs.declared.Settings.{Settings}
use Rattle.rules.specs.Ways.{push_forward, push_backward}
use Rattle.rules.specs.Rules.{State, unwatched}
use Rattle.rules.specs.Answers.{Method, both, method, answer_by}
use Rattle.calls.specs.declared.Scored.{Scored}
use Rattle.calls.specs.Lent.{scored_of}
use Rattle.calls.specs.Outcomes.{Given, ends}
use Rattle.combination.specs.Methods.{uses_forward, uses_backward}
use Rattle.bidirectional_push.specs.Lent.{Pairs}

-- a vector of a pair that is used, among n nodes; one that is not is filled with +0
abbrev pub where_used : Bool → ℕ → List Float → List Float
where_used used n xs = if used then xs otherwise replicate n +0

-- the two pairs, from the backward and the forward solve
unfoldable pub pairs_by : Method → ℕ → State → State → Pairs
pairs_by m n b f =
    record {
      forward_estimate = where_used (uses_forward m) n f.estimate;
      forward_residual = where_used (uses_forward m) n f.residual;
      backward_estimate = where_used (uses_backward m) n b.estimate;
      backward_residual = where_used (uses_backward m) n b.residual;
    }

module _ {B : Type 0} (g : Given Pairs B) (source target : ℕ) (sf sb : Settings) where
  -- what a method leaves of the forward solve from the source and the backward solve from the target
  unfoldable pub joined : Method → Outcome Float B
  joined m =
      let f = ends push_forward g sf unwatched (source ∷ []) in
      let b = ends push_backward g sb unwatched (target ∷ []) in
      outcome_of (answer_by m sb.alpha g.nodes source target b f) (g.after (pairs_by m g.nodes b f))

  -- refused, where either settings record can give 6, or done by a method
  unfoldable pub by_solves : Method → Outcome Scored B
  by_solves m = by_refusal (g.tests 0 or refuse_settings sf or refuse_settings sb) (λ k. scored_of k +0) g.before (outcome_of (scored_of 0 (joined m).answer) (joined m).lent)

  -- solve_bidirectional
  abbrev pub solve_bidirectional : Outcome Scored B
  solve_bidirectional = by_solves both

  -- adaptive_solve
  abbrev pub adaptive_solve : Outcome Scored B
  adaptive_solve = by_solves (method g.nodes g.rows source target)
