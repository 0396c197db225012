-- Demand 3 of what calls leave, said of the rows that a call is shown, whatever its form. Where a solve answers 0, a node that is not connected has score and
-- remainder +0 in the lent vectors. Where two solves answer 0, and the links that the demand names are the same, both leave the same answer and the same
-- vectors. Assumes nothing.
use Prim.Native.Nat.{ℕ, ◌<◌}
use mathlib.Core.Bool.{Bool}
use mathlib.Core.List.{List}
use mathlib.Core.Path.{◌≡◌, refl, sym, ap, ◌∙◌}
use lib.Ieee.{Float}
use Rattle.numbers.specs.Numbers.{+0}
use Rattle.refusals.specs.Calls.{Outcome}
use Rattle.refusals.specs.declared.Settings.{Settings}
use Rattle.graph.specs.Rows.{Entry, links_of, rows_in}
use Rattle.rules.specs.Ways.{row_at}
use Rattle.rules.specs.Rules.{State, Watch, at}
use Rattle.rules.specs.Reach.{Connected, SameConnected, kept_links, Alike, Untouched}
use Rattle.rules.proofs.Unreached.{rows_kept, untouched_rows, alike_rows}
use Rattle.calls.specs.declared.Solved.{Solved}
use Rattle.calls.specs.Lent.{Lending, LinksLent}
use Rattle.calls.specs.Outcomes.{Given, given_links, given_rows, ends, Solves}
use Rattle.calls.proofs.Vectors.{LeftVectors}
use Rattle.calls.proofs.Done.{first_is, done_leaves, left_estimate, left_residual}

-- ---- what a call is shown

-- n nodes, and the row of each
pub record Shows {S B : Type 0} (g : Given S B) (n : ℕ) (row : ℕ → List Entry) : Type 0 where
  pub nodes_are : g.nodes ≡ n
  pub rows_are : row_at g.rows ≡ row

module _ {S B : Type 0} (k : Lending S B) (n : ℕ) where
  -- by rows, these
  pub shows_rows : (starts columns : List ℕ) (weights : List Float) (b : B) → Shows (given_rows k n starts columns weights b) n (row_at (rows_in n starts columns weights))
  unfolding given_rows
  shows_rows starts columns weights b = record { nodes_are = refl; rows_are = refl }

  -- by a list of links, its kept ones
  pub shows_links : (from to : List ℕ) (weight : List Float) (b : LinksLent B) → Shows (given_links k n from to weight b) n (kept_links n (links_of from to weight))
  unfolding given_links
  shows_links from to weight b = record { nodes_are = refl; rows_are = rows_kept n (links_of from to weight) }

-- ---- the states that solves end in

module _ {S B : Type 0} {g : Given S B} {n : ℕ} {row : ℕ → List Entry} (shown : Shows g n row) (backward : Bool) (settings : Settings) (watch : Watch) (list : List ℕ) where
  -- a node that is not connected is untouched
  pub untouched_ends : (v : ℕ) → v < n → ¬ Connected backward row n list v → Untouched (ends backward g settings watch list) v
  unfolding ends
  untouched_ends = rw shown.nodes_are (untouched_rows backward settings watch n list g.rows shown.rows_are)

  -- with the same links where they are connected, two solves end alike
  pub alike_ends : {T C : Type 0} {h : Given T C} {other : ℕ → List Entry} → Shows h n other → SameConnected backward row other n list
      → Alike (ends backward g settings watch list) (ends backward h settings watch list)
  unfolding ends
  alike_ends {h = h} also = rw (shown.nodes_are, also.nodes_are) (alike_rows backward settings watch n list g.rows shown.rows_are h.rows also.rows_are)

-- ---- what is left

-- two calls left the same answer, and the same vectors
pub record SameLeft {B C : Type 0} {g : Given State B} {h : Given State C} (v : LeftVectors g) (w : LeftVectors h) (x : Outcome Solved B) (y : Outcome Solved C) : Type 0 where
  pub answers : x.answer ≡ y.answer
  pub scores : v.estimate_of x.lent ≡ w.estimate_of y.lent
  pub remainders : v.residual_of x.lent ≡ w.residual_of y.lent

-- solves that end alike leave the same
same_left : {B C : Type 0} {g : Given State B} {h : Given State C} (v : LeftVectors g) (w : LeftVectors h) {s t : State} {number other : ℕ} {x : Outcome Solved B} {y : Outcome Solved C}
    → Alike s t → Solves number g s x → x.answer.refusal ≡ 0 → Solves other h t y → y.answer.refusal ≡ 0 → SameLeft v w x y
same_left {B} {C} v w a p d q e =
    let i = ap (λ (z : Outcome Solved B). z.answer) (done_leaves p d) in
    let j = ap (λ (z : Outcome Solved C). z.answer) (done_leaves q e) in
    let pushes = a.pushes in
    let visited = a.visited in
    let norms = a.norms p.norm q.norm (p.is_norm (first_is p d)) (q.is_norm (first_is q e)) in
    record {
      answers = cc;
      scores = left_estimate p d v ∙ a.scores ∙ sym (left_estimate q e w);
      remainders = left_residual p d v ∙ a.remainders ∙ sym (left_residual q e w);
    }

module _ {B : Type 0} {g : Given State B} {n : ℕ} {row : ℕ → List Entry} (shown : Shows g n row) (w : LeftVectors g) (backward : Bool) (settings : Settings) (watch : Watch) (list : List ℕ) where
  -- A node that is not connected has +0 in both vectors.
  pub no_score : {number : ℕ} {x : Outcome Solved B} → Solves number g (ends backward g settings watch list) x → x.answer.refusal ≡ 0
      → (v : ℕ) → v < n → ¬ Connected backward row n list v → (at (w.estimate_of x.lent) v ≡ +0) × (at (w.residual_of x.lent) v ≡ +0)
  no_score z done v l off =
      let u = untouched_ends shown backward settings watch list v l off in
      (rw (left_estimate z done w) u.score, rw (left_residual z done w) u.remainder)

  -- Where the links are the same for every node that is connected, two calls leave the same.
  pub same_scores : {C : Type 0} {h : Given State C} {other : ℕ → List Entry} → Shows h n other → (v : LeftVectors h) → SameConnected backward row other n list
      → {number another : ℕ} {x : Outcome Solved B} {y : Outcome Solved C} → Solves number g (ends backward g settings watch list) x → x.answer.refusal ≡ 0
      → Solves another h (ends backward h settings watch list) y → y.answer.refusal ≡ 0 → SameLeft w v x y
  same_scores also v same = same_left w v (alike_ends shown backward settings watch list also same)
