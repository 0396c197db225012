-- A backward solve, step by step: what its parts ask, and what they leave. Assumes nothing.
use Prim.Native.Nat.{ℕ, ◌+◌}
use mathlib.Core.Bool.{true}
use mathlib.Core.List.{List}
use mathlib.Core.Path.{◌≡◌, sym, ap, ◌∙◌}
use native.Mathlib.Omega.{arith}
use lib.ListN.{length, replicate}
use lib.Ieee.{Float}
use Rattle.numbers.specs.Numbers.{+0}
use Rattle.numbers.specs.Choice.{if◌then◌otherwise◌}
use Rattle.refusals.specs.Calls.{Outcome, outcome_of}
use Rattle.graph.specs.Rows.{Entry, rows_in}
use Rattle.graph.specs.Store.{chosen, Rowed, Buffers, RowBuffers, Compressed}
use Rattle.graph.proofs.Back.{held_rowed, held_rows}
use Rattle.rules.specs.Rules.{State}
use Rattle.calls.specs.Lent.{Counted}
use Rattle.calls.specs.Lent.{SolveLent, solve_done}
use Rattle.calls.specs.Promises.{counted_in}
use Rattle.calls.proofs.Vectors.{Vectors, done_estimate, done_residual}
use Rattle.calls.proofs.Directed.{Directed, sums_long, sums_are}
use Rattle.backward_push.specs.Lent.{back_lent, back_done, reversing}
use Rattle.backward_push.specs.Promises.{Reversed}

-- the rows of the direction are the reverse ones
pub directed_backward : {n : ℕ} {starts columns reverse_starts reverse_columns : List ℕ} {weights reverse_weights in_degrees out_degrees : List Float} → Rowed n starts columns weights
    → Reversed n starts columns weights reverse_starts reverse_columns reverse_weights in_degrees out_degrees → length reverse_columns ≡ length columns → length reverse_weights ≡ length columns
    → Directed n true (rows_in n starts columns weights) reverse_starts columns reverse_columns weights reverse_weights in_degrees out_degrees
unfolding chosen if◌then◌otherwise◌
directed_backward z t c w = record {
  rowed = held_rowed t.reversed;
  columns_alike = c;
  weights_alike = w ∙ sym z.paired;
  rows_are = held_rows t.reversed;
  degrees_are = t.in_degrees_are;
  out_degrees_long = sums_long z t.out_degrees_are;
  out_degrees_are = sums_are z t.out_degrees_are;
}

-- what a solve leaves, with the reverse rows and the out-degrees cleared
pub back_left : (n m : ℕ) (s : State) {r : Counted} {b : SolveLent} {reverse_starts reverse_columns : List ℕ} {reverse_weights out_degrees : List Float}
    → outcome_of r b ≡ outcome_of (counted_in s) (solve_done n s.estimate s.residual) → reverse_starts ≡ replicate (n + 1) 0 → reverse_columns ≡ replicate m 0
    → reverse_weights ≡ replicate m +0 → out_degrees ≡ replicate n +0
    → outcome_of r (back_lent reverse_starts reverse_columns reverse_weights out_degrees b) ≡ outcome_of (counted_in s) (back_done n m (solve_done n s.estimate s.residual))
unfolding back_done
back_left n m s {reverse_starts = rs} {reverse_columns = rc} {reverse_weights = rv} {out_degrees = o} d es ec ew eo =
    ap (λ (x : Outcome Counted SolveLent). outcome_of x.answer (back_lent rs rc rv o x.lent)) d ∙ rw (es, ec, ew, eo)

-- where the two vectors stand in it
module _ (n m : ℕ) (estimate residual : List Float) where
  pub back_estimate : (back_done n m (solve_done n estimate residual)).solve.estimate ≡ estimate
  unfolding back_done
  back_estimate = done_estimate n estimate residual

  pub back_residual : (back_done n m (solve_done n estimate residual)).solve.residual ≡ residual
  unfolding back_done
  back_residual = done_residual n estimate residual

-- and so in what a backward call is lent
abbrev pub backward_vectors : Vectors reversing
backward_vectors =
    record {
      estimate_of = λ b. b.solve.estimate;
      residual_of = λ b. b.solve.residual;
      estimate_done = λ s n m. back_estimate n m s.estimate s.residual;
      residual_done = λ s n m. back_residual n m s.estimate s.residual;
    }

-- rows that were made of links can be reversed, in buffers as long
pub made_turnable : {n j : ℕ} {rows : List (List Entry)} {from to starts columns nodes starts' columns' positions nodes' reverse_starts reverse_columns : List ℕ}
    {weight weights weights' reverse_weights : List Float} → Buffers n from to weight starts columns weights nodes → Compressed j n rows (length from) starts' columns' weights' positions
    → length columns' ≡ length columns → length reverse_starts ≡ n + 1 → length reverse_columns ≡ length from → length reverse_weights ≡ length from → length nodes' ≡ n
    → RowBuffers n starts' columns' weights' reverse_starts reverse_columns reverse_weights nodes'
made_turnable b h c rs rc rv p =
    let e = c ∙ b.columns_long in
    record {
      entries = omega (arith, e, b.links);
      rowed = held_rowed h.held;
      starts_long = rs;
      columns_long = rc ∙ sym e;
      weights_long = rv ∙ sym e;
      positions_long = p;
    }
