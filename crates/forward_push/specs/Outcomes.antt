-- The one outcome of each public call of the forward solver, whether it is given a list of links or rows: by its first number, and by the state that the
-- rules' solve ends in. Assumes nothing.
use Rattle.std.specs.Prelude.{ℕ, List, [], ◌∷◌, length, Float}
use Rattle.refusals.specs.Refusals.{◌or◌, refuse_sizes, refuse_alpha}
use Rattle.refusals.specs.Calls.{Outcome, outcome_of, by_refusal}
use Rattle.refusals.specs.declared.Settings.{Settings}
use Rattle.rules.specs.Ways.{push_forward}
use Rattle.rules.specs.Rules.{State}
use Rattle.rules.specs.Answers.{extrapolated}
use Rattle.calls.specs.declared.Solved.{Solved}
use Rattle.calls.specs.declared.Scored.{Scored}
use Rattle.calls.specs.Outcomes.{Given, solves_one, solves_many, solves_watching, queries_one}

module _ {B : Type 0} (g : Given State B) where
  -- solve_single_source
  abbrev pub solve_single_source : ℕ → Settings → Outcome Solved B → Type 0
  solve_single_source source s = solves_one push_forward g source s

  -- solve_multi_source
  abbrev pub solve_multi_source : List ℕ → Settings → Outcome Solved B → Type 0
  solve_multi_source sources s = solves_many push_forward g sources s

  -- solve_with_target: the target is watched
  abbrev pub solve_with_target : ℕ → ℕ → Float → Settings → Outcome Solved B → Type 0
  solve_with_target source target p s = solves_watching push_forward g source target p s

  -- query_single_entry: the score of the target
  abbrev pub query_single_entry : ℕ → ℕ → Settings → Outcome Scored B
  query_single_entry source target s = queries_one push_forward g source target s

-- ---- extrapolated_solution

-- its first number: the first vector's length is the node count
unfoldable pub extrapolated_refusal : List Float → List Float → Float → List Float → ℕ
extrapolated_refusal estimate residual alpha b =
    let n = length estimate in
    refuse_sizes n 0 0 ((length residual, n) ∷ (length b, n) ∷ []) or refuse_alpha alpha

-- its outcome
unfoldable pub extrapolating : List Float → List Float → Float → List Float → Outcome ℕ (List Float)
extrapolating estimate residual alpha b =
    by_refusal (extrapolated_refusal estimate residual alpha b) (λ k. k) b (outcome_of 0 (extrapolated alpha (length estimate) estimate residual))
