-- `combine_with_forward` has one outcome: two that its promise allows for the same input are equal. Assumes nothing.
use mathlib.Core.List.{List}
use mathlib.Core.Path.{◌≡◌}
use lib.Ieee.{Float}
use Rattle.refusals.proofs.Laws.{agree}
use Rattle.calls.specs.declared.Scored.{Scored}
use Rattle.combination.specs.Outcomes.{combining}

pub one_combined : (be br fe fr : List Float) (alpha : Float) (x y : Scored) → x ≡ combining be br fe fr alpha → y ≡ combining be br fe fr alpha → x ≡ y
one_combined be br fe fr alpha x y = agree
