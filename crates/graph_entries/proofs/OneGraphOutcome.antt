-- Each public call of the graph store has one outcome: two that its promise allows for the same input are equal. Assumes nothing.
use Prim.Native.Nat.{ℕ}
use mathlib.Core.Path.{◌≡◌}
use mathlib.Core.List.{List}
use lib.Ieee.{Float}
use Rattle.refusals.specs.Calls.{Outcome}
use Rattle.refusals.proofs.Laws.{agree}
use Rattle.graph_entries.specs.declared.Built.{Built}
use Rattle.graph_entries.specs.Outcomes.{RowsLent, GraphLent, from_edges, from_matrix, transposing, row_sums}

-- from_edges
pub one_from_edges : (n : ℕ) (from to : List ℕ) (weight : List Float) (b : RowsLent) (x y : Outcome Built RowsLent) → x ≡ from_edges n from to weight b → y ≡ from_edges n from to weight b → x ≡ y
one_from_edges n from to weight b x y = agree

-- from_matrix
pub one_from_matrix : (n : ℕ) (starts columns : List ℕ) (weights : List Float) (b : GraphLent) (x y : Outcome ℕ GraphLent)
    → x ≡ from_matrix n starts columns weights b → y ≡ from_matrix n starts columns weights b → x ≡ y
one_from_matrix n starts columns weights b x y = agree

-- transpose
pub one_transpose : (n : ℕ) (starts columns : List ℕ) (weights : List Float) (b : RowsLent) (x y : Outcome ℕ RowsLent)
    → x ≡ transposing n starts columns weights b → y ≡ transposing n starts columns weights b → x ≡ y
one_transpose n starts columns weights b x y = agree

-- row_sums
pub one_row_sums : (n : ℕ) (starts columns : List ℕ) (weights b : List Float) (x y : Outcome ℕ (List Float))
    → x ≡ row_sums n starts columns weights b → y ≡ row_sums n starts columns weights b → x ≡ y
one_row_sums n starts columns weights b x y = agree
