-- What either call answers, by the number that its tests give. Assumes nothing.
use Prim.Native.Nat.{ℕ}
use mathlib.Core.List.{List}
use mathlib.Core.Path.{◌≡◌, ap}
use lib.Ieee.{Float}
use Rattle.std.specs.Prelude.{Option}
use Rattle.refusals.specs.Calls.{Outcome, outcome_of}
use Rattle.refusals.proofs.Laws.{refused, accepted, rows_passed}
use Rattle.graph.specs.Rows.{rows_in}
use Rattle.graph.specs.Store.{Rowed}
use Rattle.graph.proofs.Given.{rowed_of}
use Rattle.edges.specs.Edges.{edge_in}
use Rattle.edges.specs.Outcomes.{asked_refusal, asked}

module _ (n : ℕ) (starts columns : List ℕ) (weights : List Float) {r : ℕ} (number : r ≡ asked_refusal n starts columns weights) where
  -- rows that are not refused can be searched
  pub tested : r ≡ 0 → Rowed n starts columns weights
  unfolding asked_refusal
  tested h =
      let p = rows_passed _ _ _ _ _ _ number h in
      rowed_of p.0.long.0 p.0.long.1.0 p.1

  module _ {A : Type 0} (refusing : ℕ → A) (done : Option Float → A) (from to : ℕ) where
    -- a call that is refused
    pub asked_refused : (r ≡ 0 → ⊥) → refusing r ≡ asked refusing done n starts columns weights from to
    unfolding asked
    asked_refused h = ap (λ (x : Outcome A (Unit {0})). x.answer) (refused refusing tt _ _ number h)

    -- one that is done
    pub asked_done : {e : Option Float} → r ≡ 0 → e ≡ edge_in from to (rows_in n starts columns weights) → done e ≡ asked refusing done n starts columns weights from to
    unfolding asked
    asked_done h g = ap (λ (x : Outcome A (Unit {0})). x.answer) (accepted refusing tt _ _ number h (ap (λ (x : Option Float). outcome_of (done x) tt) g))
