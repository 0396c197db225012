-- `has_edge` finds a link exactly where `edge_weight` does, and the two refuse alike. Assumes nothing.
use Prim.Native.Nat.{ℕ, zero, suc}
use mathlib.Core.List.{List}
use mathlib.Core.Path.{◌≡◌, refl, sym, ap, ◌∙◌}
use mathlib.Core.Bool.{false}
use lib.Ieee.{Float}
use Rattle.std.specs.Prelude.{Option, None, Some}
use Rattle.numbers.specs.Numbers.{+0}
use Rattle.refusals.specs.Calls.{by_refusal, outcome_of}
use Rattle.edges.specs.Outcomes.{asked, found_of, found_by, has_edge, weighed_of, weighed_by, edge_weight}
use Rattle.edges.specs.declared.Found.{Found}
use Rattle.edges.specs.declared.Weighed.{Weighed}

-- an answer of `edge_weight` without its weight
unweighed : Weighed → Found
unweighed w = found_of w.refusal w.found

-- by the number and the link
unweighed_is : (k : ℕ) (e : Option Float) → (by_refusal {B = Unit {0}} k (λ j. found_of j false) tt (outcome_of (found_by e) tt)).answer
    ≡ unweighed (by_refusal {B = Unit {0}} k (λ j. weighed_of j false +0) tt (outcome_of (weighed_by e) tt)).answer
unfolding by_refusal found_by unweighed
unweighed_is zero None = refl
unweighed_is zero (Some weight) = refl
unweighed_is (suc k) e = refl

-- whatever the two calls are given
pub found_exactly : (n : ℕ) (starts columns : List ℕ) (weights : List Float) (from to : ℕ) (x : Found) (y : Weighed)
    → x ≡ has_edge n starts columns weights from to → y ≡ edge_weight n starts columns weights from to → (x.refusal ≡ y.refusal) × (x.found ≡ y.found)
unfolding has_edge edge_weight asked unweighed
found_exactly n starts columns weights from to x y p q =
    let e : x ≡ unweighed y = p ∙ unweighed_is _ _ ∙ ap unweighed (sym q) in
    (ap (λ (z : Found). z.refusal) e, ap (λ (z : Found). z.found) e)
