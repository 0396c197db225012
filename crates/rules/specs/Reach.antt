-- The words of demand 3: "can reach", by any number of kept links, none included, where a link of weight zero counts, and the links out of each node
-- are given as its row; what is the same of two solves; and what an untouched node has. Assumes nothing.
use Rattle.std.specs.Prelude.{ℕ, ◌<◌, Bool, true, false, ◌↔◌, ◌≡◌, Float}
use mathlib.Core.List.{List, Memᴰ}
use Rattle.numbers.specs.Numbers.{+0}
use Rattle.norm.specs.Norm.{Norm}
use Rattle.graph.specs.Rows.{Link, Entry, row_of}
use Rattle.rules.specs.Ways.{push_backward}
use Rattle.rules.specs.Rules.{State, at}
use Rattle.rules.specs.Answers.{visited_count}

-- u leads to a node, along the entries of rows
pub data Leads (row : ℕ → List Entry) (u : ℕ) : ℕ → Type 0 where
  stay : Leads row u u
  step : {v : ℕ} {x : Entry} → Leads row u v → Memᴰ x (row v) → Leads row u x.node

-- along the entries of rows, forward u leads to v, and backward v leads to u
abbrev pub LeadsBy : Bool → (ℕ → List Entry) → ℕ → ℕ → Type 0
LeadsBy false row u v = Leads row u v
LeadsBy true row u v = Leads row v u

-- v is connected with a node of the list that is below n: forward, that source can reach v; backward, v can reach that target
pub record Connected (is_backward : Bool) (row : ℕ → List Entry) (n : ℕ) (list : List ℕ) (v : ℕ) : Type 0 where
  pub node : ℕ
  pub listed : Memᴰ node list
  pub below : node < n
  pub leads : LeadsBy is_backward row node v

-- the kept links out of each node, in the order of the list
abbrev pub kept_links : ℕ → List Link → ℕ → List Entry
kept_links n links v = row_of n v links

-- the links out of every node that is connected are the same, in the same order; and backward the nodes that are connected are the same, too
pub record SameConnected (is_backward : Bool) (row other : ℕ → List Entry) (n : ℕ) (list : List ℕ) : Type 0 where
  pub nodes : is_backward ≡ push_backward → (v : ℕ) → Connected push_backward row n list v ↔ Connected push_backward other n list v
  pub links : (v : ℕ) → Connected is_backward row n list v → row v ≡ other v

-- two solves end with the same scores, remainders, counts and norm
pub record Alike (s t : State) : Type 0 where
  pub scores : s.estimate ≡ t.estimate
  pub remainders : s.residual ≡ t.residual
  pub pushes : s.pushes ≡ t.pushes
  pub visited : visited_count s ≡ visited_count t
  pub norms : (r q : Float) → Norm s.residual r → Norm t.residual q → r ≡ q

-- v has the score and the remainder +0
pub record Untouched (s : State) (v : ℕ) : Type 0 where
  pub score : at s.estimate v ≡ +0
  pub remainder : at s.residual v ≡ +0
