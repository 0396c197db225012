-- Each call that both directions have has one outcome: two that its promise allows for the same input are equal. Assumes nothing.
use Prim.Native.Nat.{ℕ}
use mathlib.Core.Bool.{Bool}
use mathlib.Core.List.{List}
use mathlib.Core.Path.{◌≡◌}
use lib.Ieee.{Float}
use Rattle.refusals.specs.Calls.{Outcome}
use Rattle.refusals.specs.declared.Settings.{Settings}
use Rattle.refusals.proofs.Laws.{agree}
use Rattle.rules.specs.Rules.{State}
use Rattle.calls.specs.declared.Solved.{Solved}
use Rattle.calls.specs.declared.Scored.{Scored}
use Rattle.calls.specs.Outcomes.{Given, solves_one, solves_many, solves_watching, queries_one}
use Rattle.calls.proofs.Leaving.{one_solve}

-- whether it is given a list of links or rows
module _ {B : Type 0} (backward : Bool) (g : Given State B) where
  -- a solve from one
  pub one_from_one : (v : ℕ) (s : Settings) (x y : Outcome Solved B) → solves_one backward g v s x → solves_one backward g v s y → x ≡ y
  one_from_one v s x y = one_solve _ g _ x y

  -- from many
  pub one_from_many : (vs : List ℕ) (s : Settings) (x y : Outcome Solved B) → solves_many backward g vs s x → solves_many backward g vs s y → x ≡ y
  one_from_many vs s x y = one_solve _ g _ x y

  -- where another is watched
  pub one_watching : (v w : ℕ) (p : Float) (s : Settings) (x y : Outcome Solved B) → solves_watching backward g v w p s x → solves_watching backward g v w p s y → x ≡ y
  one_watching v w p s x y = one_solve _ g _ x y

  -- a query
  pub one_query : (v w : ℕ) (s : Settings) (x y : Outcome Scored B) → x ≡ queries_one backward g v w s → y ≡ queries_one backward g v w s → x ≡ y
  one_query v w s x y = agree
