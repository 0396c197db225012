-- The one outcome of each public call of the backward solver, whether it is given a list of links or rows: by its first number, and by the state that the
-- rules' solve ends in. Assumes nothing.
use Rattle.std.specs.Prelude.{ℕ, List, [], ◌∷◌, Float}
use Rattle.refusals.specs.Refusals.{◌or◌, refuse_settings}
use Rattle.refusals.specs.Calls.{Outcome, outcome_of, by_refusal}
use Rattle.refusals.specs.declared.Settings.{Settings}
use Rattle.rules.specs.Ways.{push_backward}
use Rattle.rules.specs.Rules.{State, unwatched}
use Rattle.rules.specs.Answers.{extrapolated}
use Rattle.calls.specs.declared.Solved.{Solved}
use Rattle.calls.specs.declared.Scored.{Scored}
use Rattle.calls.specs.Outcomes.{Given, ends, solves_one, solves_many, solves_watching, queries_one}
use Rattle.backward_push.specs.Lent.{Reachability, reachability_of}

module _ {B : Type 0} (g : Given State B) where
  -- solve_single_target
  abbrev pub solve_single_target : ℕ → Settings → Outcome Solved B → Type 0
  solve_single_target target s = solves_one push_backward g target s

  -- solve_multi_target
  abbrev pub solve_multi_target : List ℕ → Settings → Outcome Solved B → Type 0
  solve_multi_target targets s = solves_many push_backward g targets s

  -- solve_with_source: the source is watched
  abbrev pub solve_with_source : ℕ → ℕ → Float → Settings → Outcome Solved B → Type 0
  solve_with_source source target p s = solves_watching push_backward g target source p s

  -- query_transition_probability: the score of the source
  abbrev pub query_transition_probability : ℕ → ℕ → Settings → Outcome Scored B
  query_transition_probability source target s = queries_one push_backward g target source s

module _ {B : Type 0} (g : Given Reachability B) where
  -- reachability_probabilities: the extrapolated solution of the single-target solve
  unfoldable pub reachability_probabilities : ℕ → Settings → Outcome ℕ B
  reachability_probabilities target s =
      let e = ends push_backward g s unwatched (target ∷ []) in
      by_refusal (g.tests 0 or refuse_settings s) (λ k. k) g.before (outcome_of 0 (g.after (reachability_of (extrapolated s.alpha g.nodes e.estimate e.residual) e)))
