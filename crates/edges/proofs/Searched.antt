-- Which row of tested rows is searched: that of the node, or none if the node is out of range. Assumes nothing.
use Prim.Native.Nat.{ℕ, suc, ◌≤◌, ◌<◌}
use mathlib.Core.List.{List, []}
use mathlib.Core.Path.{◌≡◌, ap}
use lib.ListN.{get_or, get_or-eq_default}
use lib.Ieee.{Float}
use Rattle.std.specs.Prelude.{None}
use Rattle.graph.specs.Rows.{row_in, rows_in}
use Rattle.graph.specs.Store.{Rowed}
use Rattle.graph.proofs.Read.{rows_long, row_at_lem}
use Rattle.edges.specs.Edges.{first_to, edge_in}

module _ {n : ℕ} {starts columns : List ℕ} {weights : List Float} (z : Rowed n starts columns weights) (f t : ℕ) where
  -- a node out of range has no row
  pub no_row : n ≤ f → edge_in f t (rows_in n starts columns weights) ≡ None
  unfolding edge_in first_to
  no_row h = rw (get_or-eq_default (rows_in n starts columns weights) [] {n = f} (rw (rows_long z) h))

  -- any other has one
  pub in_row : f < n → edge_in f t (rows_in n starts columns weights) ≡ first_to t (row_in (get_or starts f 0) (get_or starts (suc f) 0) columns weights)
  unfolding edge_in
  in_row h = ap (first_to t) (row_at_lem z f h)
