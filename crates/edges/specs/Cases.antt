-- Worked examples: a link that is listed twice, links of weight +0 and -0, one of them from a node to itself, and a link with an end out of range. Assumes nothing.
use Rattle.std.specs.Prelude.{ℕ, true, false, List, [], ◌∷◌, map, ◌≡◌, refl, Float, None, Some}
use Rattle.std.specs.Float.{nan}
use Rattle.std.specs.Float.Ieee.{of_bits, le}
use Rattle.numbers.specs.Numbers.{f64, +0, one}
use Rattle.numbers.specs.Choice.{if◌then◌otherwise◌}
use Rattle.numbers.specs.Tables.{tabulate, any, only}
use Rattle.refusals.specs.Refusals.{◌or◌, ◌when◌, lengths_differ, falls, refuse_nodes, refuse_links, refuse_listed, refuse_lengths, refuse_rows, refuse_weights}
use Rattle.refusals.specs.Calls.{by_refusal}
use Rattle.graph.specs.Rows.{Link, links_of, kept, row_in, rows_in, entries_of}
use Rattle.edges.specs.Edges.{first_to, edge_in, joins, first, edge_among}
use Rattle.edges.specs.Outcomes.{asked_refusal, asked, found_of, found_by, has_edge, weighed_of, weighed_by, edge_weight}

-- 2, 3 and -0
two : Float
two = f64 0x4000_0000_0000_0000

three : Float
three = f64 0x4008_0000_0000_0000

-0 : Float
-0 = f64 0x8000_0000_0000_0000

-- ---- reading every link

-- links from 0 to 1, from 1 to itself, from 0 to 1 again, from 2 to 0, and from 1 to 3
links : List Link
unfolding links_of
links = links_of (0 ∷ 1 ∷ 0 ∷ 2 ∷ 1 ∷ []) (1 ∷ 1 ∷ 1 ∷ 0 ∷ 3 ∷ []) (two ∷ +0 ∷ three ∷ -0 ∷ one ∷ [])

-- among three nodes: of two links the first; links of weight +0 and -0; not the other way; not to 3, which is out of range; not from 3
among_three : map (λ (p : ℕ × ℕ). edge_among 3 p.0 p.1 links) ((0, 1) ∷ (1, 1) ∷ (2, 0) ∷ (1, 0) ∷ (0, 0) ∷ (1, 3) ∷ (3, 1) ∷ [])
    ≡ Some two ∷ Some +0 ∷ Some -0 ∷ None ∷ None ∷ None ∷ None ∷ []
unfolding edge_among first only joins kept if◌then◌otherwise◌ links
among_three = refl

-- among four nodes 3 is in range, and among one no link is kept
among_others : edge_among 4 1 3 links ∷ edge_among 1 0 1 links ∷ [] ≡ Some one ∷ None ∷ []
unfolding edge_among first only joins kept if◌then◌otherwise◌ links
among_others = refl

-- ---- the calls

-- the rows of these links among three nodes
starts : List ℕ
starts = 0 ∷ 2 ∷ 3 ∷ 4 ∷ []

columns : List ℕ
columns = 1 ∷ 1 ∷ 1 ∷ 0 ∷ []

weights : List Float
weights = two ∷ three ∷ +0 ∷ -0 ∷ []

-- the weights of the same links
weighed : map (λ (p : ℕ × ℕ). edge_weight 3 starts columns weights p.0 p.1) ((0, 1) ∷ (1, 1) ∷ (2, 0) ∷ (1, 0) ∷ (1, 3) ∷ (3, 1) ∷ [])
    ≡ weighed_of 0 true two ∷ weighed_of 0 true +0 ∷ weighed_of 0 true -0 ∷ weighed_of 0 false +0 ∷ weighed_of 0 false +0 ∷ weighed_of 0 false +0 ∷ []
unfolding edge_weight asked weighed_by asked_refusal edge_in first_to rows_in row_in entries_of tabulate by_refusal refuse_nodes refuse_links refuse_listed refuse_lengths refuse_rows falls refuse_weights any lengths_differ ◌or◌ ◌when◌ if◌then◌otherwise◌ le of_bits starts columns weights two three -0
weighed = refl

-- and whether they are there
found : map (λ (p : ℕ × ℕ). has_edge 3 starts columns weights p.0 p.1) ((0, 1) ∷ (1, 1) ∷ (2, 0) ∷ (1, 0) ∷ (1, 3) ∷ (3, 1) ∷ [])
    ≡ found_of 0 true ∷ found_of 0 true ∷ found_of 0 true ∷ found_of 0 false ∷ found_of 0 false ∷ found_of 0 false ∷ []
unfolding has_edge asked found_by asked_refusal edge_in first_to rows_in row_in entries_of tabulate by_refusal refuse_nodes refuse_links refuse_listed refuse_lengths refuse_rows falls refuse_weights any lengths_differ ◌or◌ ◌when◌ if◌then◌otherwise◌ le of_bits starts columns weights two three -0
found = refl

-- The whole rows are tested, whichever row is asked for: four starts are too few for four nodes, a start falls behind the row, a column is out of range, a weight is
-- a NaN. In each the first entry of row 0 leads to 1.
refused : edge_weight 4 starts columns weights 0 1
    ∷ edge_weight 3 (0 ∷ 2 ∷ 1 ∷ 4 ∷ []) columns weights 0 1
    ∷ edge_weight 3 starts (1 ∷ 1 ∷ 1 ∷ 3 ∷ []) weights 0 1
    ∷ edge_weight 3 starts columns (two ∷ three ∷ +0 ∷ nan ∷ []) 0 1
    ∷ []
    ≡ weighed_of 3 false +0 ∷ weighed_of 4 false +0 ∷ weighed_of 4 false +0 ∷ weighed_of 5 false +0 ∷ []
unfolding edge_weight asked weighed_by asked_refusal edge_in first_to rows_in row_in entries_of tabulate by_refusal refuse_nodes refuse_links refuse_listed refuse_lengths refuse_rows falls refuse_weights any lengths_differ ◌or◌ ◌when◌ if◌then◌otherwise◌ le of_bits starts columns weights two three -0
refused = refl

-- and so for `has_edge`
refused_too : has_edge 3 starts columns (two ∷ three ∷ +0 ∷ nan ∷ []) 0 1 ≡ found_of 5 false
unfolding has_edge asked found_by asked_refusal edge_in first_to rows_in row_in entries_of tabulate by_refusal refuse_nodes refuse_links refuse_listed refuse_lengths refuse_rows falls refuse_weights any lengths_differ ◌or◌ ◌when◌ if◌then◌otherwise◌ le of_bits starts columns two three
refused_too = refl
