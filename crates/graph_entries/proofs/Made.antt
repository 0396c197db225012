-- What the sorts leave is what a call leaves. Assumes nothing.
use Prim.Native.Nat.{ℕ}
use mathlib.Core.Path.{◌≡◌}
use mathlib.Core.List.{List}
use lib.Ieee.{Float}
use Rattle.graph.specs.Rows.{Entry}
use Rattle.graph.specs.Store.{Compressed}
use Rattle.graph_entries.specs.Outcomes.{rows_lent, compressed_in}

-- the compressed rows and the cleared positions
pub made : {r n m : ℕ} {rows : List (List Entry)} {s c : List ℕ} {w : List Float} {p : List ℕ} → Compressed r n rows m s c w p → rows_lent s c w p ≡ compressed_in n m rows
unfolding compressed_in
made h = cc
