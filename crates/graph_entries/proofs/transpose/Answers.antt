-- `graph_entries::transpose` meets its contract: refused by what the tests say, or done as `reverse_rows` says. Assumes nothing.
use Rattle.std.proofs.Common.{◌≡◌, ℕ, refl, ap, List, Float}
use Rattle.std.proofs.lemmas.Result.{err_from_is_err_and}
use Rattle.refusals.specs.Refusals.{refuse_lengths, lengths_differ}
use Rattle.refusals.specs.Calls.{outcome_of}
use Rattle.refusals.proofs.Laws.{refused_for, accepted, rows_passed}
use Rattle.graph.specs.Store.{RowBuffers}
use Rattle.graph.proofs.Given.{rowed_of}
use Rattle.graph_entries.specs.Outcomes.{RowsLent, rows_lent, transpose_refusal, transposing}
use Rattle.graph_entries.proofs.Made.{made}
use Rattle.graph_entries.proofs.transpose.Goals as goal

pub returns-in_err-check_rows : goal.returns-in_err-check_rows
unfolding transposing transpose_refusal refuse_lengths lengths_differ
returns-in_err-check_rows c =
    let p = err_from_is_err_and c.from_residual.result c.from_residual.ensures.1 in
    rw (p.1, p.2) (refused_for _ _ _ _ _ c.in_err-check_rows.ensures)

-- what the tests leave: rows, and buffers to transpose them
passed : (n : ℕ) (starts columns : List ℕ) (weights : List Float) (b : RowsLent) → 0 ≡ transpose_refusal n starts columns weights b → RowBuffers n starts columns weights b.starts b.columns b.weights b.positions
unfolding transpose_refusal
passed n starts columns weights b number =
    let p = rows_passed _ _ _ _ _ _ number refl in
    let l = p.0.long in
    record {
      entries = p.0.links;
      rowed = rowed_of l.0 l.1.0 p.1;
      starts_long = l.1.1.0;
      columns_long = l.1.1.1.0;
      weights_long = l.1.1.1.1.0;
      positions_long = l.1.1.1.1.1.0;
    }

pub reverse_rows-requires : goal.reverse_rows-requires
unfolding transpose_refusal refuse_lengths lengths_differ
reverse_rows-requires c = let a = c.args in
    passed a.n a.starts.now a.columns.now a.weights.now (rows_lent a.reverse_starts.now a.reverse_columns.now a.reverse_weights.now a.positions.now) c.in_ok-check_rows.ensures

pub returns : goal.returns
unfolding transposing transpose_refusal refuse_lengths lengths_differ
returns c = accepted _ _ _ _ c.in_ok-check_rows.ensures refl (ap (outcome_of 0) (made c.reverse_rows.ensures))
