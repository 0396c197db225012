-- Inner: no public promise cites it.
-- The ways that a promise speaks of: those whose rows, degrees and shares the buffers show. Assumes nothing.
use Rattle.std.specs.Prelude.{ℕ, suc, ◌<◌, Bool, List, ◌≡◌, length, get_or, Float}
use Rattle.graph.specs.Rows.{Entry, row_in}
use Rattle.rules.specs.Ways.{Way, share_of, degree_of}
use Rattle.rules.specs.Rules.{at}
use Rattle.pushes.specs.declared.Graph.{Graph}
use Rattle.pushes.specs.Buffers.{Lists, columns_by, weights_by, nodes_in, lists_in}

-- every way
abbrev pub Every : Way → Type 0
Every way = Unit {0}

-- those with this degree at v
abbrev pub Weighs : List Float → ℕ → Way → Type 0
Weighs degrees v way = at degrees v ≡ degree_of way v

-- those with all these degrees
abbrev pub Weighing : List Float → Way → Type 0
Weighing degrees way = (v : ℕ) → v < length degrees → Weighs degrees v way

-- those whose shares go by these out-degrees
abbrev pub Shares : ℕ → Bool → List Float → Way → Type 0
Shares n backward out_degrees way = (rest degree : Float) (x : Entry) → x.node < n → way.share rest degree x ≡ share_of backward rest degree x.weight (at out_degrees x.node)

-- those with these degrees and shares
pub record Along (backward : Bool) (degrees out_degrees : List Float) (way : Way) : Type 0 where
  pub weighs : Weighing degrees way
  pub shares : Shares (length degrees) backward out_degrees way

-- those with the rows of a direction, and its shares
pub record Stands (n : ℕ) (backward : Bool) (l : Lists) (way : Way) : Type 0 where
  pub rows : (v : ℕ) → v < n → way.row v ≡ row_in (get_or l.starts v 0) (get_or l.starts (suc v) 0) (columns_by backward l) (weights_by backward l)
  pub shares : Shares n backward l.out_degrees way

-- those that a graph of a call shows
abbrev pub StandsIn : Graph → Way → Type 0
StandsIn g = Stands (nodes_in g) g.backward (lists_in g)
