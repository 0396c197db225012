-- Each public call of the bidirectional solver has one outcome: two that its promise allows for the same input are equal. Assumes nothing.
use Prim.Native.Nat.{ℕ}
use mathlib.Core.Path.{◌≡◌}
use Rattle.refusals.specs.Calls.{Outcome}
use Rattle.refusals.specs.declared.Settings.{Settings}
use Rattle.refusals.proofs.Laws.{agree}
use Rattle.calls.specs.declared.Scored.{Scored}
use Rattle.calls.specs.Outcomes.{Given}
use Rattle.bidirectional_push.specs.Lent.{Pairs}
use Rattle.bidirectional_push.specs.Outcomes.{solve_bidirectional, adaptive_solve}

-- whether it is given a list of links or rows
module _ {B : Type 0} (g : Given Pairs B) (source target : ℕ) (sf sb : Settings) (x y : Outcome Scored B) where
  -- solve_bidirectional
  pub one_bidirectional : x ≡ solve_bidirectional g source target sf sb → y ≡ solve_bidirectional g source target sf sb → x ≡ y
  one_bidirectional = agree

  -- adaptive_solve
  pub one_adaptive : x ≡ adaptive_solve g source target sf sb → y ≡ adaptive_solve g source target sf sb → x ≡ y
  one_adaptive = agree
