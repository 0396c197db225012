-- The search in a row of links finds what reading every link finds: a link that joins the two nodes is an entry of the row that leads to the second, and the
-- entries stand in the order of the links. Assumes nothing.
use Prim.Native.Nat.{ℕ}
use mathlib.Core.Bool.{Bool, true, false, ◌&&◌, cond}
use mathlib.Core.List.{List, [], ◌∷◌, ◌++◌}
use mathlib.Core.Path.{◌≡◌, refl, ap, ◌∙◌}
use lib.Dec.{eqb}
use Rattle.numbers.specs.Choice.{if◌then◌otherwise◌}
use Rattle.numbers.specs.Tables.{only}
use Rattle.graph.specs.Rows.{Link, Entry, entry, kept, gives, row_of, rows_of}
use Rattle.graph.proofs.KeptRows.{rows_at}
use Rattle.edges.specs.Edges.{first_to, edge_in, joins, first, edge_among}

-- a link before others, by whether it is kept and leads out of the first node, and whether it leads to the second
one_more : (t : ℕ) (l : Link) (row : List Entry) (others : List Link) (leaves arrives : Bool) → eqb l.to t ≡ arrives → first_to t row ≡ first others
    → first_to t (cond leaves (entry l.to l.weight ∷ []) [] ++ row) ≡ first (if leaves && arrives then l ∷ others otherwise others)
unfolding first_to first if◌then◌otherwise◌
one_more t l row others false arrives e h = h
one_more t l row others true true e h = rw e
one_more t l row others true false e h = rw e h

-- in the row of f
row_reading : (n f t : ℕ) (links : List Link) → first_to t (row_of n f links) ≡ edge_among n f t links
unfolding first_to row_of gives edge_among first only joins
row_reading n f t [] = refl
row_reading n f t (l ∷ links) = one_more t l (row_of n f links) (only (joins n f t) links) (kept n l && eqb l.from f) (eqb l.to t) refl (row_reading n f t links)

-- in rows built of a list of links, for nodes in range and out of range
pub search_is_reading : (n f t : ℕ) (links : List Link) → edge_in f t (rows_of n links) ≡ edge_among n f t links
unfolding edge_in
search_is_reading n f t links = ap (first_to t) (rows_at n links f) ∙ row_reading n f t links
