-- Inner: no public promise cites it.
-- What holds of the buffers of a solve among n nodes. Assumes nothing.
use Rattle.std.specs.Prelude.{ℕ, ◌*◌, ◌≤◌, ◌<◌, Bool, List, ◌≡◌, length, get_or, Float}
use Rattle.graph.specs.Store.{chosen, degrees_in, Rowed}
use Rattle.queue.specs.Heap.{Heap}
use Rattle.pushes.specs.declared.Frontier.{Frontier}
use Rattle.pushes.specs.declared.Graph.{Graph}
use Rattle.pushes.specs.declared.Tally.{Tally}
use Rattle.pushes.specs.States.{Holding, Pending, pending_of, holding_in}

-- the residual and the queue have a place for each node
pub record Lent (n : ℕ) (w : Pending) : Type 0 where
  pub heap : Heap w.queue.size w.priorities w.nodes w.queued
  pub wide : length w.priorities ≡ n
  pub residual_long : length w.residual ≡ n

-- the same, with a node
pub record Seated (n v : ℕ) (w : Pending) : Type 0 where
  pub lent : Lent n w
  pub below : v < n

-- a row, with a residual and a queue for its nodes
pub record Row (n : ℕ) (columns : List ℕ) (weights out_degrees : List Float) (w : Pending) : Type 0 where
  pub lent : Lent n w
  pub paired : length weights ≡ length columns
  pub out_degrees_long : length out_degrees ≡ n
  pub inside : (k : ℕ) → k < length columns → get_or columns k 0 < n

-- what a solve reads: the rows of a direction in one of two pairs of lists, their degrees, and the out-degrees
pub record Lists : Type 0 where
  pub starts : List ℕ
  pub columns : List ℕ
  pub reverse_columns : List ℕ
  pub weights : List Float
  pub reverse_weights : List Float
  pub degrees : List Float
  pub out_degrees : List Float

-- by its parts
abbrev pub lists_of : List ℕ → List ℕ → List ℕ → List Float → List Float → List Float → List Float → Lists
lists_of s c c' w w' d o = record { starts = s; columns = c; reverse_columns = c'; weights = w; reverse_weights = w'; degrees = d; out_degrees = o }

-- how many nodes a graph has
abbrev pub nodes_in : Graph → ℕ
nodes_in g = length g.degrees.now

-- what its slices hold
abbrev pub lists_in : Graph → Lists
lists_in g = lists_of g.starts.now g.columns.now g.reverse_columns.now g.weights.now g.reverse_weights.now g.degrees.now g.out_degrees.now

-- the lists of the direction
abbrev pub columns_by : Bool → Lists → List ℕ
columns_by backward l = chosen backward l.columns l.reverse_columns

abbrev pub weights_by : Bool → Lists → List Float
weights_by backward l = chosen backward l.weights l.reverse_weights

-- they hold rows, with their degrees
pub record Rows (n : ℕ) (backward : Bool) (l : Lists) : Type 0 where
  pub rowed : Rowed n l.starts (columns_by backward l) (weights_by backward l)
  pub columns_alike : length l.reverse_columns ≡ length l.columns
  pub weights_alike : length l.reverse_weights ≡ length l.weights
  pub degrees_are : l.degrees ≡ degrees_in n l.starts (weights_by backward l)
  pub out_degrees_long : length l.out_degrees ≡ n

-- all buffers of a solve between two turns
pub record Ready (n : ℕ) (backward : Bool) (l : Lists) (h : Holding) : Type 0 where
  pub rows : Rows n backward l
  pub lent : Lent n (pending_of h)
  pub estimate_long : length h.estimate ≡ n
  pub visited_room : n ≤ 64 * length h.visited

-- room for n nodes, whatever the buffers hold
pub record Room (n : ℕ) (estimate residual priorities : List Float) (nodes queued visited : List ℕ) : Type 0 where
  pub few : n ≤ 65536
  pub estimate_long : length estimate ≡ n
  pub residual_long : length residual ≡ n
  pub wide : length priorities ≡ n
  pub paired : length nodes ≡ n
  pub queued_room : n ≤ 64 * length queued
  pub visited_room : n ≤ 64 * length visited

-- ---- the same of the structs of a call

abbrev pub RowsIn : Graph → Type 0
RowsIn g = Rows (nodes_in g) g.backward (lists_in g)

abbrev pub ReadyIn : Graph → Frontier → Tally → Type 0
ReadyIn g f t = Ready (nodes_in g) g.backward (lists_in g) (holding_in f t)

abbrev pub RoomIn : ℕ → Frontier → Tally → Type 0
RoomIn n f t = Room n t.estimate.now f.residual.now f.priorities.now f.nodes.now f.queued.now t.visited.now
