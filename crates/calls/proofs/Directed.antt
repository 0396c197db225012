-- The rows of a direction, forward or backward, in lent buffers: what a solve over them asks, and what it leaves. Assumes nothing.
use Prim.Native.Nat.{ℕ, ◌<◌}
use mathlib.Core.Bool.{Bool, false}
use mathlib.Core.List.{List}
use mathlib.Core.Path.{◌≡◌, refl, sym, ap, subst, ◌∙◌}
use lib.ListN.{length, get_or, replicate}
use lib.Ieee.{Float, nan}
use Rattle.numbers.specs.Numbers.{+0}
use Rattle.numbers.specs.Choice.{if◌then◌otherwise◌}
use Rattle.refusals.specs.Calls.{outcome_of}
use Rattle.refusals.specs.declared.Settings.{Settings}
use Rattle.graph.specs.Rows.{Entry, rows_in, degree, transposed}
use Rattle.graph.specs.Store.{chosen, Rowed, degrees_in}
use Rattle.graph.proofs.Read.{length-degrees}
use Rattle.rules.specs.Ways.{over, row_at}
use Rattle.rules.specs.Rules.{Watch, solve, at}
use Rattle.pushes.specs.declared.Graph.{Graph}
use Rattle.pushes.specs.Buffers.{Lists, lists_of, Rows, nodes_in, lists_in, RowsIn}
use Rattle.pushes.specs.Meant.{Stands, StandsIn}
use Rattle.solver.proofs.Graphs.{stands_over}
use Rattle.calls.specs.Lent.{Counted}
use Rattle.calls.specs.Lent.{solve_lent, solve_done}
use Rattle.calls.specs.Promises.{Fits, SolveSettled, counted_in}
use Rattle.calls.proofs.Degrees.{degree_at}
use Rattle.calls.proofs.Leaving.{settled_left}

-- the buffers hold the rows of the direction, their degrees, and the out-degrees of the graph
pub record Directed (n : ℕ) (backward : Bool) (rows : List (List Entry)) (starts columns columns' : List ℕ) (weights weights' degrees out_degrees : List Float) : Type 0 where
  pub rowed : Rowed n starts (chosen backward columns columns') (chosen backward weights weights')
  pub columns_alike : length columns' ≡ length columns
  pub weights_alike : length weights' ≡ length weights
  pub rows_are : rows_in n starts (chosen backward columns columns') (chosen backward weights weights') ≡ (if backward then transposed n rows otherwise rows)
  pub degrees_are : degrees ≡ degrees_in n starts (chosen backward weights weights')
  pub out_degrees_long : length out_degrees ≡ n
  pub out_degrees_are : (v : ℕ) → v < n → at out_degrees v ≡ degree (row_at rows v)

-- the sums of rows are their degrees
module _ {n : ℕ} {starts columns : List ℕ} {weights out_degrees : List Float} (rowed : Rowed n starts columns weights) (sums : out_degrees ≡ degrees_in n starts weights) where
  pub sums_long : length out_degrees ≡ n
  sums_long = ap length sums ∙ length-degrees n starts weights

  pub sums_are : (v : ℕ) → v < n → at out_degrees v ≡ degree (row_at (rows_in n starts columns weights) v)
  sums_are v l = ap (λ (ds : List Float). get_or ds v nan) sums ∙ degree_at rowed v l

-- forward, the rows are those of the graph, and the degrees are the out-degrees
pub directed_forward : {n : ℕ} {starts columns columns' : List ℕ} {weights weights' out_degrees : List Float} → Rowed n starts columns weights → out_degrees ≡ degrees_in n starts weights
    → length columns' ≡ length columns → length weights' ≡ length weights
    → Directed n false (rows_in n starts columns weights) starts columns columns' weights weights' out_degrees out_degrees
unfolding chosen if◌then◌otherwise◌
directed_forward z e c w = record {
  rowed = z;
  columns_alike = c;
  weights_alike = w;
  rows_are = refl;
  degrees_are = e;
  out_degrees_long = sums_long z e;
  out_degrees_are = sums_are z e;
}

module _ {n : ℕ} {backward : Bool} {rows : List (List Entry)} {starts columns columns' : List ℕ} {weights weights' degrees out_degrees : List Float}
    (z : Directed n backward rows starts columns columns' weights weights' degrees out_degrees) where
  -- there are as many degrees as nodes
  pub degrees_long : length degrees ≡ n
  degrees_long = sums_long z.rowed z.degrees_are

  -- what the solve asks of the rows
  pub rows_ready : Rows (length degrees) backward (lists_of starts columns columns' weights weights' degrees out_degrees)
  rows_ready = rw degrees_long (record {
    rowed = z.rowed;
    columns_alike = z.columns_alike;
    weights_alike = z.weights_alike;
    degrees_are = z.degrees_are;
    out_degrees_long = z.out_degrees_long;
  })

  -- and of the room
  pub fits_still : {sources : List ℕ} {estimate residual lent priorities : List Float} {nodes queued visited : List ℕ}
      → Fits n sources (solve_lent estimate residual lent priorities nodes queued visited)
      → Fits (length degrees) sources (solve_lent estimate residual degrees priorities nodes queued visited)
  fits_still f = rw degrees_long (record { listed = f.listed; room = f.room; degrees_long = degrees_long; queued_long = f.queued_long; visited_long = f.visited_long })

  module _ (settings : Settings) (watch : Watch) (sources : List ℕ) {r : Counted} {estimate residual priorities : List Float} {nodes queued visited : List ℕ}
      (d : SolveSettled (Stands (length degrees) backward (lists_of starts columns columns' weights weights' degrees out_degrees)) (λ way. solve way settings watch (length degrees) sources) (length degrees)
      r estimate residual priorities nodes queued visited) where
    -- what it leaves, with the degrees cleared
    pub directed_left : {cleared : List Float} → cleared ≡ replicate n +0 → let s = solve (over backward n rows) settings watch n sources in
        outcome_of r (solve_lent estimate residual cleared priorities nodes queued visited) ≡ outcome_of (counted_in s) (solve_done n s.estimate s.residual)
    directed_left c =
        settled_left (rw degrees_long at d) c (over backward n rows)
        (stands_over n backward rows (lists_of starts columns columns' weights weights' degrees out_degrees) z.rowed z.rows_are z.out_degrees_are)

-- ---- the graph of a call, which holds these lists

module _ (g : Graph) {l : Lists} (e : lists_in g ≡ l) where
  pub graph_fits : {sources : List ℕ} {estimate residual priorities : List Float} {nodes queued visited : List ℕ}
      → Fits (length l.degrees) sources (solve_lent estimate residual l.degrees priorities nodes queued visited)
      → Fits (nodes_in g) sources (solve_lent estimate residual g.degrees.now priorities nodes queued visited)
  graph_fits {sources} {estimate} {residual} {priorities} {nodes} {queued} {visited} f =
      subst (λ (x : Lists). Fits (length x.degrees) sources (solve_lent estimate residual x.degrees priorities nodes queued visited)) (sym e) f

  module _ {backward : Bool} (b : g.backward ≡ backward) where
    pub graph_ready : Rows (length l.degrees) backward l → RowsIn g
    graph_ready r = subst (λ (x : Lists). Rows (length x.degrees) g.backward x) (sym e) (rw b r)

    pub graph_settled : (settings : Settings) (watch : Watch) (sources : List ℕ) {r : Counted} {estimate residual priorities : List Float} {nodes queued visited : List ℕ}
        → SolveSettled (StandsIn g) (λ way. solve way settings watch (nodes_in g) sources) (nodes_in g) r estimate residual priorities nodes queued visited
        → SolveSettled (Stands (length l.degrees) backward l) (λ way. solve way settings watch (length l.degrees) sources) (length l.degrees) r estimate residual priorities nodes queued visited
    graph_settled settings watch sources {r} {estimate} {residual} {priorities} {nodes} {queued} {visited} d =
        subst
        (λ (x : Lists).
        SolveSettled (Stands (length x.degrees) backward x) (λ way. solve way settings watch (length x.degrees) sources) (length x.degrees) r estimate residual priorities nodes queued visited)
        e (rw b at d)
