-- `graph_entries::row_sums` meets its contract: refused by what the tests say, or done as `sum_rows` says. Assumes nothing.
use Rattle.std.proofs.Common.{◌≡◌, ℕ, refl, ap, ◌∙◌, List, Float, length}
use Rattle.std.proofs.lemmas.Result.{err_from_is_err_and}
use Rattle.refusals.specs.Refusals.{refuse_lengths, lengths_differ}
use Rattle.refusals.specs.Calls.{outcome_of}
use Rattle.refusals.proofs.Laws.{refused_for, accepted, rows_passed}
use Rattle.graph.specs.Store.{Rowed}
use Rattle.graph.proofs.Read.{degrees_are}
use Rattle.graph.proofs.Given.{rowed_of, summing_of}
use Rattle.graph_entries.specs.Outcomes.{sums_refusal, row_sums}
use Rattle.graph_entries.proofs.row_sums.Goals as goal

-- what the tests leave: rows, and as many degrees
passed : (n : ℕ) (starts columns : List ℕ) (weights degrees : List Float) → 0 ≡ sums_refusal n starts columns weights degrees → Rowed n starts columns weights × (length degrees ≡ n)
unfolding sums_refusal
passed n starts columns weights degrees number =
    let p = rows_passed _ _ _ _ _ _ number refl in
    (rowed_of p.0.long.0 p.0.long.1.0 p.1, p.0.long.1.1.0)

pub returns-in_err-check_rows : goal.returns-in_err-check_rows
unfolding row_sums sums_refusal refuse_lengths lengths_differ
returns-in_err-check_rows c =
    let p = err_from_is_err_and c.from_residual.result c.from_residual.ensures.1 in
    rw (p.1, p.2) (refused_for _ _ _ _ _ c.in_err-check_rows.ensures)

pub sum_rows-requires : goal.sum_rows-requires
unfolding sums_refusal refuse_lengths lengths_differ
sum_rows-requires c = let a = c.args in
    let p = passed a.n a.starts.now a.columns.now a.weights.now a.degrees.now c.in_ok-check_rows.ensures in rw p.1 (summing_of p.0)

pub returns : goal.returns
unfolding row_sums sums_refusal refuse_lengths lengths_differ
returns c = let a = c.args in
    let p = passed a.n a.starts.now a.columns.now a.weights.now a.degrees.now c.in_ok-check_rows.ensures in
    accepted _ _ _ _ c.in_ok-check_rows.ensures refl (ap (outcome_of 0) (c.sum_rows.ensures ∙ rw p.1 (degrees_are p.0)))
