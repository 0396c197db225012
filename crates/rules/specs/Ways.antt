-- The two directions of a push, forward along the links and backward against them: whose row is gone through, and what each entry of it gets.
-- Assumes nothing.
use Rattle.std.specs.Prelude.{ℕ, Bool, true, false, List, [], get_or, Float}
use Rattle.std.specs.Float.Ieee.{lt}
use Rattle.numbers.specs.Numbers.{one, ◌⊗◌, ◌⊘◌}
use Rattle.numbers.specs.Choice.{if◌then◌otherwise◌}
use Rattle.graph.specs.Rows.{Link, Entry, rows_of, degree, transposed}

-- ---- directions, degrees and shares

-- a direction is told by whether it is backward, as the graph's store has it: this is forward
abbrev pub push_forward : Bool
push_forward = false

-- and this is backward
abbrev pub push_backward : Bool
push_backward = true

-- e: the degree where it is above 1, else 1
unfoldable pub effective : Float → Float
effective degree = if lt one degree then degree otherwise one

-- the part of its mass that a node with this out-degree passes on by a link of this weight: the division of backward links
unfoldable pub transition : Float → Float → Float
transition weight out = weight ⊘ effective out

-- What an entry gets of the rest. Forward, the rest is multiplied by the weight first and divided by the degree of the row second. Backward, the
-- weight is divided first, by the out-degree of the entry's own node, and then the rest is multiplied by it.
unfoldable pub share_of : Bool → Float → Float → Float → Float → Float
share_of is_backward rest degree weight out = if is_backward then rest ⊗ transition weight out otherwise (rest ⊗ weight) ⊘ degree

-- ---- ways

-- what a solve goes by: the row of each node, and what an entry gets of the rest that is handed out along a row of some degree
pub record Way : Type 0 where
  pub row : ℕ → List Entry
  pub share : Float → Float → Entry → Float

-- the way of a direction, by the rows that are gone through and the nodes' out-degrees
unfoldable pub way_of : Bool → (ℕ → List Entry) → (ℕ → Float) → Way
way_of is_backward row out = record { row = row; share = λ rest degree x. share_of is_backward rest degree x.weight (out x.node) }

-- the row of v
abbrev pub row_at : List (List Entry) → ℕ → List Entry
row_at rows v = get_or rows v []

-- the way of a direction over a graph of n nodes, by its rows: backward goes through the transposed ones
unfoldable pub over : Bool → ℕ → List (List Entry) → Way
over is_backward n rows = way_of is_backward (row_at (if is_backward then transposed n rows otherwise rows)) (λ v. degree (row_at rows v))

-- the same of a list of links
abbrev pub over_links : Bool → ℕ → List Link → Way
over_links is_backward n links = over is_backward n (rows_of n links)

-- d: the degree of v, which is its out-degree forward and its in-degree backward
unfoldable pub degree_of : Way → ℕ → Float
degree_of way v = degree (way.row v)

-- e of v
abbrev pub effective_of : Way → ℕ → Float
effective_of way v = effective (degree_of way v)
