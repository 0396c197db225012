-- Each public call of the backward solver has one outcome: two that its promise allows for the same input are equal. Assumes nothing.
use Prim.Native.Nat.{ℕ}
use mathlib.Core.List.{List}
use mathlib.Core.Path.{◌≡◌}
use lib.Ieee.{Float}
use Rattle.refusals.specs.Calls.{Outcome}
use Rattle.refusals.specs.declared.Settings.{Settings}
use Rattle.refusals.proofs.Laws.{agree}
use Rattle.rules.specs.Ways.{push_backward}
use Rattle.rules.specs.Rules.{State}
use Rattle.calls.specs.declared.Solved.{Solved}
use Rattle.calls.specs.declared.Scored.{Scored}
use Rattle.calls.specs.Outcomes.{Given}
use Rattle.calls.proofs.OneOutcome.{one_from_one, one_from_many, one_watching, one_query}
use Rattle.backward_push.specs.Lent.{Reachability}
use Rattle.backward_push.specs.Outcomes.{solve_single_target, solve_multi_target, solve_with_source, query_transition_probability, reachability_probabilities}

-- whether it is given a list of links or rows
module _ {B : Type 0} (g : Given State B) where
  -- solve_single_target
  pub one_single_target : (target : ℕ) (s : Settings) (x y : Outcome Solved B) → solve_single_target g target s x → solve_single_target g target s y → x ≡ y
  one_single_target = one_from_one push_backward g

  -- solve_multi_target
  pub one_multi_target : (targets : List ℕ) (s : Settings) (x y : Outcome Solved B) → solve_multi_target g targets s x → solve_multi_target g targets s y → x ≡ y
  one_multi_target = one_from_many push_backward g

  -- solve_with_source
  pub one_with_source : (source target : ℕ) (p : Float) (s : Settings) (x y : Outcome Solved B) → solve_with_source g source target p s x → solve_with_source g source target p s y → x ≡ y
  one_with_source source target = one_watching push_backward g target source

  -- query_transition_probability
  pub one_transition_probability : (source target : ℕ) (s : Settings) (x y : Outcome Scored B) → x ≡ query_transition_probability g source target s
      → y ≡ query_transition_probability g source target s → x ≡ y
  one_transition_probability source target = one_query push_backward g target source

module _ {B : Type 0} (g : Given Reachability B) where
  -- reachability_probabilities
  pub one_reachability : (target : ℕ) (s : Settings) (x y : Outcome ℕ B) → x ≡ reachability_probabilities g target s → y ≡ reachability_probabilities g target s → x ≡ y
  one_reachability target s x y = agree
