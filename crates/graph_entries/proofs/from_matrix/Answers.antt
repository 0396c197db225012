-- `graph_entries::from_matrix` meets its contract: refused by what the tests say, or done as `reverse_rows` and `sum_rows` say. Assumes nothing.
use Rattle.std.proofs.Common.{◌≡◌, ℕ, refl, ◌∙◌, List, Float, length}
use Rattle.std.proofs.lemmas.Result.{err_from_is_err_and}
use Rattle.refusals.specs.Refusals.{refuse_lengths, lengths_differ}
use Rattle.refusals.specs.Calls.{outcome_of}
use Rattle.refusals.proofs.Laws.{refused_for, accepted, rows_passed}
use Rattle.graph.specs.Store.{RowBuffers}
use Rattle.graph.proofs.Read.{degrees_are}
use Rattle.graph.proofs.Back.{held_rowed, held_degrees}
use Rattle.graph.proofs.Given.{rowed_of, summing_of}
use Rattle.graph_entries.specs.Outcomes.{RowsLent, rows_lent, graph_lent, matrix_refusal, from_matrix}
use Rattle.graph_entries.proofs.Made.{made}
use Rattle.graph_entries.proofs.from_matrix.Goals.{In_ok-check_rows}
use Rattle.graph_entries.proofs.from_matrix.Goals as goal

-- what the tests leave: rows, buffers to transpose them, and as many degrees as nodes
record Passed (n : ℕ) (starts columns : List ℕ) (weights : List Float) (b : RowsLent) (degrees reverse_degrees : List Float) : Type 0 where
  pub buffers : RowBuffers n starts columns weights b.starts b.columns b.weights b.positions
  pub degrees_long : length degrees ≡ n
  pub reverse_long : length reverse_degrees ≡ n

passed : (n : ℕ) (starts columns : List ℕ) (weights : List Float) (b : RowsLent) (degrees reverse_degrees : List Float)
    → 0 ≡ matrix_refusal n starts columns weights (graph_lent b degrees reverse_degrees) → Passed n starts columns weights b degrees reverse_degrees
unfolding matrix_refusal
passed n starts columns weights b degrees reverse_degrees number =
    let p = rows_passed _ _ _ _ _ _ number refl in
    let l = p.0.long in
    record {
      buffers =
          record {
            entries = p.0.links;
            rowed = rowed_of l.0 l.1.0 p.1;
            starts_long = l.1.1.0;
            columns_long = l.1.1.1.0;
            weights_long = l.1.1.1.1.0;
            positions_long = l.1.1.1.1.1.1.1.0;
          };
      degrees_long = l.1.1.1.1.1.0;
      reverse_long = l.1.1.1.1.1.1.0;
    }

-- the three parts of what the call leaves
whole : {r r' : RowsLent} {d d' e e' : List Float} → r ≡ r' → d ≡ d' → e ≡ e' → outcome_of {A = ℕ} 0 (graph_lent r d e) ≡ outcome_of 0 (graph_lent r' d' e')
whole p q s = cc

pub returns-in_err-check_rows : goal.returns-in_err-check_rows
unfolding from_matrix matrix_refusal refuse_lengths lengths_differ
returns-in_err-check_rows c =
    let p = err_from_is_err_and c.from_residual.result c.from_residual.ensures.1 in
    rw (p.1, p.2) (refused_for _ _ _ _ _ c.in_err-check_rows.ensures)

-- of this call
ready : (c : In_ok-check_rows) → let a = c.args in
    Passed a.n a.starts.now a.columns.now a.weights.now
    (rows_lent a.reverse_starts.now a.reverse_columns.now a.reverse_weights.now a.positions.now) a.degrees.now a.reverse_degrees.now
unfolding matrix_refusal refuse_lengths lengths_differ
ready c = passed _ _ _ _ _ _ _ c.in_ok-check_rows.ensures

pub sum_rows-requires : goal.sum_rows-requires
sum_rows-requires c = let p = ready (goal.at.sum_rows-requires c).In_ok-check_rows in rw p.degrees_long (summing_of p.buffers.rowed)

pub reverse_rows-requires : goal.reverse_rows-requires
reverse_rows-requires c = (ready (goal.at.reverse_rows-requires c).In_ok-check_rows).buffers

pub sum_rows-requires-2 : goal.sum_rows-requires-2
sum_rows-requires-2 c = let p = ready (goal.at.sum_rows-requires-2 c).In_ok-check_rows in rw p.reverse_long (summing_of (held_rowed c.reverse_rows.ensures.held))

pub returns : goal.returns
unfolding from_matrix matrix_refusal refuse_lengths lengths_differ
returns c =
    let p = ready (goal.at.returns c).In_ok-check_rows in
    let z = c.reverse_rows.ensures in
    accepted _ _ _ _ c.in_ok-check_rows.ensures refl (whole (made z)
    (c.sum_rows.ensures ∙ rw p.degrees_long (degrees_are p.buffers.rowed))
    (c.sum_rows-2.ensures ∙ rw p.reverse_long (held_degrees z.held)))
