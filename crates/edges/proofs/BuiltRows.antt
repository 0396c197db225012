-- Rows that `from_edges` built, cut to the links that it kept, and asked for a link: no call refuses them, and the answer is the first kept link of the list with
-- those ends. Assumes nothing.
use Prim.Native.Nat.{ℕ}
use mathlib.Core.List.{List}
use mathlib.Core.Path.{◌≡◌, refl, sym, ◌∙◌, ap}
use lib.ListN.{take}
use lib.Ieee.{Float}
use Rattle.std.specs.Prelude.{Option}
use Rattle.refusals.specs.Calls.{Outcome}
use Rattle.graph.specs.Rows.{links_of}
use Rattle.graph_entries.specs.declared.Built.{Built}
use Rattle.graph_entries.specs.Outcomes.{RowsLent, from_edges}
use Rattle.graph_entries.proofs.HandedOn.{built_rows, built_pass}
use Rattle.edges.specs.Edges.{edge_in, edge_among}
use Rattle.edges.specs.Outcomes.{asked_refusal, asked, found_by, has_edge, weighed_by, edge_weight}
use Rattle.edges.proofs.Answered.{asked_done}
use Rattle.edges.proofs.Reading.{search_is_reading}

module _ (n : ℕ) (from to : List ℕ) (weight : List Float) (b : RowsLent) (x : Outcome Built RowsLent) (leaves : x ≡ from_edges n from to weight b) (answers : x.answer.refusal ≡ 0) (f t : ℕ) where
  -- either call
  built_asked : {A : Type 0} (refusing : ℕ → A) (done : Option Float → A)
      → asked refusing done n x.lent.starts (take x.answer.kept x.lent.columns) (take x.answer.kept x.lent.weights) f t ≡ done (edge_among n f t (links_of from to weight))
  unfolding asked_refusal
  built_asked refusing done =
      sym
      (asked_done n x.lent.starts (take x.answer.kept x.lent.columns) (take x.answer.kept x.lent.weights) (sym (built_pass n from to weight b x leaves answers)) refusing done f t refl
      (sym (ap (edge_in f t) (built_rows n from to weight b x leaves answers) ∙ search_is_reading n f t (links_of from to weight))))

  -- has_edge
  pub built_has_edge : has_edge n x.lent.starts (take x.answer.kept x.lent.columns) (take x.answer.kept x.lent.weights) f t ≡ found_by (edge_among n f t (links_of from to weight))
  unfolding has_edge
  built_has_edge = built_asked _ found_by

  -- edge_weight
  pub built_edge_weight : edge_weight n x.lent.starts (take x.answer.kept x.lent.columns) (take x.answer.kept x.lent.weights) f t ≡ weighed_by (edge_among n f t (links_of from to weight))
  unfolding edge_weight
  built_edge_weight = built_asked _ weighed_by
