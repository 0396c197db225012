-- The link between two nodes, said twice: by a search that ends at the first match in a row, and by reading every link of a list.
-- `search_is_reading` (edges/proofs/Reading.antt) proves the two equal. Assumes nothing.
use Rattle.std.specs.Prelude.{ℕ, Bool, ◌&&◌, List, [], ◌∷◌, get_or, eqb, Float, Option, None, Some}
use Rattle.numbers.specs.Choice.{if◌then◌otherwise◌}
use Rattle.numbers.specs.Tables.{only}
use Rattle.graph.specs.Rows.{Link, Entry, kept}

-- ---- in rows

-- the first entry of a row that leads to t, by its weight. A weight of zero counts as any other
unfoldable pub first_to : ℕ → List Entry → Option Float
first_to t [] = None
first_to t (x ∷ xs) = if eqb x.node t then Some x.weight otherwise first_to t xs

-- the same of the row of f; a node out of range has no row
unfoldable pub edge_in : ℕ → ℕ → List (List Entry) → Option Float
edge_in f t rows = first_to t (get_or rows f [])

-- ---- in a list of links

-- whether a link is kept and leads from f to t
unfoldable pub joins : ℕ → ℕ → ℕ → Link → Bool
joins n f t l = kept n l && eqb l.from f && eqb l.to t

-- the first of a list of links, by its weight
unfoldable pub first : List Link → Option Float
first [] = None
first (l ∷ ls) = Some l.weight

-- the first kept link from f to t: every link is read, and of those that join the two the first is taken
unfoldable pub edge_among : ℕ → ℕ → ℕ → List Link → Option Float
edge_among n f t links = first (only (joins n f t) links)
