-- The one outcome of each public call of the graph store: the answer and what each lent buffer holds, as a function of all that goes in.
-- Assumes nothing.
use Rattle.std.specs.Prelude.{ℕ, Result, Ok, Err, ◌+◌, List, [], ◌∷◌, map, length, replicate, Float}
use Rattle.refusals.specs.Refusals.{link_tests, row_tests}
use Rattle.refusals.specs.declared.refusal.Refusal.{Refusal}
use Rattle.refusals.specs.Answered.{number_of}
use Rattle.refusals.specs.Calls.{Outcome, outcome_of, by_refusal}
use Rattle.graph.specs.Rows.{Entry, links_of, rows_of, rows_in, transposed, degree, flat, starts_of, columns_of, weights_of}
use Rattle.graph_entries.specs.declared.Built.{Built}

-- ---- what is lent

-- buffers for compressed rows, and workspace for positions
pub record RowsLent : Type 0 where
  pub starts : List ℕ
  pub columns : List ℕ
  pub weights : List Float
  pub positions : List ℕ

-- the same, by its parts
abbrev pub rows_lent : List ℕ → List ℕ → List Float → List ℕ → RowsLent
rows_lent s c w p = record { starts = s; columns = c; weights = w; positions = p }

-- buffers for compressed rows and for two lists of degrees
pub record GraphLent : Type 0 where
  pub rows : RowsLent
  pub degrees : List Float
  pub reverse_degrees : List Float

-- the same, by its parts
abbrev pub graph_lent : RowsLent → List Float → List Float → GraphLent
graph_lent r d e = record { rows = r; degrees = d; reverse_degrees = e }

-- the compressed form of n rows in buffers of m, with the workspace cleared
unfoldable pub compressed_in : ℕ → ℕ → List (List Entry) → RowsLent
compressed_in n m rows = rows_lent (starts_of rows) (columns_of m rows) (weights_of m rows) (replicate n 0)

-- the lengths that are stated for them
abbrev pub row_lengths : ℕ → ℕ → RowsLent → List (ℕ × ℕ) → List (ℕ × ℕ)
row_lengths n m b more = (length b.starts, n + 1) ∷ (length b.columns, m) ∷ (length b.weights, m) ∷ more

-- ---- from_edges

-- the answer, by its parts
abbrev pub built : ℕ → ℕ → Built
built refusal kept = record { refusal = refusal; kept = kept }

-- what the library's answer is for C: the count of the kept links, or a refusal
abbrev pub built_for : Result ℕ Refusal → Built
built_for (Ok kept) = built 0 kept
built_for (Err refusal) = built (number_of refusal) 0

-- its first number
unfoldable pub edges_refusal : ℕ → List ℕ → List ℕ → List Float → RowsLent → ℕ
edges_refusal n from to weight b =
    let m = length from in
    link_tests n m 0 ((length to, m) ∷ (length weight, m) ∷ row_lengths n m b ((length b.positions, n) ∷ [])) weight

-- its outcome: how many links are kept, and the compressed form of their rows
unfoldable pub from_edges : ℕ → List ℕ → List ℕ → List Float → RowsLent → Outcome Built RowsLent
from_edges n from to weight b =
    let rows = rows_of n (links_of from to weight) in
    by_refusal (edges_refusal n from to weight b) (λ k. built k 0) b (outcome_of (built 0 (length (flat rows))) (compressed_in n (length from) rows))

-- ---- transpose

-- its first number
unfoldable pub transpose_refusal : ℕ → List ℕ → List ℕ → List Float → RowsLent → ℕ
transpose_refusal n starts columns weights b =
    let m = length columns in
    row_tests n 0 ((length starts, n + 1) ∷ (length weights, m) ∷ row_lengths n m b ((length b.positions, n) ∷ [])) starts columns weights

-- its outcome: the compressed form of the transposed rows
unfoldable pub transposing : ℕ → List ℕ → List ℕ → List Float → RowsLent → Outcome ℕ RowsLent
transposing n starts columns weights b =
    by_refusal (transpose_refusal n starts columns weights b) (λ k. k) b (outcome_of 0 (compressed_in n (length columns) (transposed n (rows_in n starts columns weights))))

-- ---- from_matrix

-- its first number
unfoldable pub matrix_refusal : ℕ → List ℕ → List ℕ → List Float → GraphLent → ℕ
matrix_refusal n starts columns weights b =
    let m = length columns in
    row_tests n 0
    ((length starts, n + 1)
    ∷ (length weights, m)
    ∷ row_lengths n m b.rows ((length b.degrees, n) ∷ (length b.reverse_degrees, n) ∷ (length b.rows.positions, n) ∷ []))
    starts columns weights

-- its outcome: the transposed rows, the degrees of the rows and those of the transposed rows
unfoldable pub from_matrix : ℕ → List ℕ → List ℕ → List Float → GraphLent → Outcome ℕ GraphLent
from_matrix n starts columns weights b =
    let rows = rows_in n starts columns weights in
    let turned = transposed n rows in
    by_refusal (matrix_refusal n starts columns weights b) (λ k. k) b (outcome_of 0 (graph_lent (compressed_in n (length columns) turned) (map degree rows) (map degree turned)))

-- ---- row_sums

-- its first number
unfoldable pub sums_refusal : ℕ → List ℕ → List ℕ → List Float → List Float → ℕ
sums_refusal n starts columns weights b =
    row_tests n 0 ((length starts, n + 1) ∷ (length weights, length columns) ∷ (length b, n) ∷ []) starts columns weights

-- its outcome: the degree of each row
unfoldable pub row_sums : ℕ → List ℕ → List ℕ → List Float → List Float → Outcome ℕ (List Float)
row_sums n starts columns weights b =
    by_refusal (sums_refusal n starts columns weights b) (λ k. k) b (outcome_of 0 (map degree (rows_in n starts columns weights)))
