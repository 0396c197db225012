-- A node out of range has no link, at either end: such a node has no row, and no column of tested rows is one. Assumes nothing.
use Prim.Native.Nat.{ℕ, zero, suc, ◌≤◌, ◌<◌, zero-le, suc-le-suc}
use mathlib.Core.Bool.{Bool, true, false}
use mathlib.Core.List.{List, [], ◌∷◌}
use mathlib.Core.Logic.{◌⊎◌, inl, inr}
use mathlib.Core.Path.{◌≡◌, refl, sym, ap, ◌∙◌}
use native.Mathlib.Omega.{arith}
use borrow.Author.Tests.{ne_eqb, ltb-true, ltb-false}
use lib.Dec.{ltb}
use lib.ListN.{length, get_or}
use lib.Ieee.{Float}
use Rattle.std.specs.Prelude.{None}
use Rattle.numbers.specs.Numbers.{+0}
use Rattle.numbers.specs.Choice.{if◌then◌otherwise◌}
use Rattle.graph.specs.Rows.{entries_of, rows_in}
use Rattle.graph.specs.Store.{Rowed}
use Rattle.graph.proofs.Handed.{row_inside, row_made}
use Rattle.edges.specs.Edges.{first_to, edge_in}
use Rattle.edges.specs.Outcomes.{asked_refusal, weighed_of, weighed_by, edge_weight}
use Rattle.edges.specs.declared.Weighed.{Weighed}
use Rattle.edges.proofs.Answered.{tested, asked_done, asked_refused}
use Rattle.edges.proofs.Searched.{no_row, in_row}

-- no entry of a row leads past the row's nodes
none_leads_past : (n t : ℕ) (columns : List ℕ) (weights : List Float) → n ≤ t → ((k : ℕ) → k < length columns → get_or columns k 0 < n) → first_to t (entries_of columns weights) ≡ None
unfolding first_to entries_of if◌then◌otherwise◌
none_leads_past n t [] weights h inside = refl
none_leads_past n t (c ∷ columns) [] h inside = refl
none_leads_past n t (c ∷ columns) (w ∷ weights) h inside =
    let e : c < n = inside 0 (suc-le-suc zero-le) in
    rw (ne_eqb c t (λ q. omega arith)) (none_leads_past n t columns weights h (λ k l. inside (suc k) (suc-le-suc l)))

-- in tested rows
pub none_outside : {n : ℕ} {starts columns : List ℕ} {weights : List Float} → Rowed n starts columns weights → (f t : ℕ) → (n ≤ f) ⊎ (n ≤ t)
    → edge_in f t (rows_in n starts columns weights) ≡ None
none_outside z f t (inl h) = no_row z f t h
none_outside {n} {starts} {columns} {weights} z f t (inr h) = by (ltb f n) refl
  where
    by : (b : Bool) → ltb f n ≡ b → edge_in f t (rows_in n starts columns weights) ≡ None
    by true e = let l = ltb-true f n e in in_row z f t l ∙ ap (first_to t) (row_made z f l refl refl) ∙ none_leads_past n t _ _ h (row_inside z f l refl)
    by false e = no_row z f t (ltb-false f n e)

-- in a call, refused or not
pub not_found_outside : (n : ℕ) (starts columns : List ℕ) (weights : List Float) (from to : ℕ) → (n ≤ from) ⊎ (n ≤ to)
    → (edge_weight n starts columns weights from to).found ≡ false
unfolding edge_weight
not_found_outside n starts columns weights from to h = ap (λ (w : Weighed). w.found) (by (asked_refusal n starts columns weights) refl)
  where
    by : (k : ℕ) → k ≡ asked_refusal n starts columns weights → edge_weight n starts columns weights from to ≡ weighed_of k false +0
    by zero e = sym (asked_done n starts columns weights e _ weighed_by from to refl (sym (none_outside (tested n starts columns weights e refl) from to h)))
    by (suc k) e = sym (asked_refused n starts columns weights e _ weighed_by from to (λ q. omega arith))
