-- Each public call has one outcome: two answers that its promise allows for the same input are equal. Assumes nothing.
use Prim.Native.Nat.{ℕ}
use mathlib.Core.List.{List}
use mathlib.Core.Path.{◌≡◌}
use lib.Ieee.{Float}
use Rattle.refusals.proofs.Laws.{agree}
use Rattle.edges.specs.Outcomes.{has_edge, edge_weight}
use Rattle.edges.specs.declared.Found.{Found}
use Rattle.edges.specs.declared.Weighed.{Weighed}

-- has_edge
pub one_has_edge : (n : ℕ) (starts columns : List ℕ) (weights : List Float) (from to : ℕ) (x y : Found)
    → x ≡ has_edge n starts columns weights from to → y ≡ has_edge n starts columns weights from to → x ≡ y
one_has_edge n starts columns weights from to x y = agree

-- edge_weight
pub one_edge_weight : (n : ℕ) (starts columns : List ℕ) (weights : List Float) (from to : ℕ) (x y : Weighed)
    → x ≡ edge_weight n starts columns weights from to → y ≡ edge_weight n starts columns weights from to → x ≡ y
one_edge_weight n starts columns weights from to x y = agree
