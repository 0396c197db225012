-- Inner: no public promise cites it.
-- What the functions below the public calls ensure. Assumes nothing.
use Rattle.std.specs.Prelude.{ℕ, List, ◌≡◌, length, Float}
use Rattle.graph.specs.Rows.{rows_in, transposed}
use Rattle.graph.specs.Store.{Held, degrees_in}
use Rattle.pushes.specs.Buffers.{Lists, lists_of}
use Rattle.calls.specs.declared.lent.Rows.{Rows}
use Rattle.backward_push.specs.declared.reversed.ReverseBuffers.{ReverseBuffers}

-- the buffers hold the reverse rows of lent rows, and the degrees of both
pub record Reversed (n : ℕ) (starts columns : List ℕ) (weights : List Float) (reverse_starts reverse_columns : List ℕ) (reverse_weights in_degrees out_degrees : List Float) : Type 0 where
  pub reversed : Held n (transposed n (rows_in n starts columns weights)) (length columns) reverse_starts reverse_columns reverse_weights
  pub in_degrees_are : in_degrees ≡ degrees_in n reverse_starts reverse_weights
  pub out_degrees_are : out_degrees ≡ degrees_in n starts weights

-- the same of the structs of a call
abbrev pub ReversedIn : Rows → ReverseBuffers → Type 0
ReversedIn rows r = Reversed rows.nodes rows.starts.now rows.columns.now rows.weights.now r.starts.now r.columns.now r.weights.now r.in_degrees.now r.out_degrees.now

-- what a backward solve reads
abbrev pub backward_lists : Rows → ReverseBuffers → Lists
backward_lists rows r = lists_of r.starts.now rows.columns.now r.columns.now rows.weights.now r.weights.now r.in_degrees.now r.out_degrees.now

-- and a forward solve beside it
abbrev pub forward_lists : Rows → ReverseBuffers → Lists
forward_lists rows r = lists_of rows.starts.now rows.columns.now r.columns.now rows.weights.now r.weights.now r.out_degrees.now r.out_degrees.now
