-- Each public call of the forward solver has one outcome: two that its promise allows for the same input are equal. Assumes nothing.
use Prim.Native.Nat.{ℕ}
use mathlib.Core.List.{List}
use mathlib.Core.Path.{◌≡◌}
use lib.Ieee.{Float}
use Rattle.refusals.specs.Calls.{Outcome}
use Rattle.refusals.specs.declared.Settings.{Settings}
use Rattle.refusals.proofs.Laws.{agree}
use Rattle.rules.specs.Ways.{push_forward}
use Rattle.rules.specs.Rules.{State}
use Rattle.calls.specs.declared.Solved.{Solved}
use Rattle.calls.specs.declared.Scored.{Scored}
use Rattle.calls.specs.Outcomes.{Given}
use Rattle.calls.proofs.OneOutcome.{one_from_one, one_from_many, one_watching, one_query}
use Rattle.forward_push.specs.Outcomes.{solve_single_source, solve_multi_source, solve_with_target, query_single_entry, extrapolating}

-- whether it is given a list of links or rows
module _ {B : Type 0} (g : Given State B) where
  -- solve_single_source
  pub one_single_source : (source : ℕ) (s : Settings) (x y : Outcome Solved B) → solve_single_source g source s x → solve_single_source g source s y → x ≡ y
  one_single_source = one_from_one push_forward g

  -- solve_multi_source
  pub one_multi_source : (sources : List ℕ) (s : Settings) (x y : Outcome Solved B) → solve_multi_source g sources s x → solve_multi_source g sources s y → x ≡ y
  one_multi_source = one_from_many push_forward g

  -- solve_with_target
  pub one_with_target : (source target : ℕ) (p : Float) (s : Settings) (x y : Outcome Solved B) → solve_with_target g source target p s x → solve_with_target g source target p s y → x ≡ y
  one_with_target = one_watching push_forward g

  -- query_single_entry
  pub one_single_entry : (source target : ℕ) (s : Settings) (x y : Outcome Scored B) → x ≡ query_single_entry g source target s → y ≡ query_single_entry g source target s → x ≡ y
  one_single_entry = one_query push_forward g

-- extrapolated_solution
pub one_extrapolated : (estimate residual : List Float) (alpha : Float) (b : List Float) (x y : Outcome ℕ (List Float))
    → x ≡ extrapolating estimate residual alpha b → y ≡ extrapolating estimate residual alpha b → x ≡ y
one_extrapolated estimate residual alpha b x y = agree
