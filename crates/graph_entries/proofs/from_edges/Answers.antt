-- `graph_entries::from_edges` meets its contract: refused by what the tests say, or done as `build_rows` says. Assumes nothing.
use Rattle.std.proofs.Common.{rules, ◌≡◌, ℕ, List, Float, length, refl, ap₂}
use Rattle.std.proofs.lemmas.Result.{err_from_is_err_and}
use Rattle.refusals.specs.Refusals.{refuse_lengths, lengths_differ}
use Rattle.refusals.specs.Calls.{outcome_of}
use Rattle.refusals.proofs.Laws.{refused_for, accepted, links_passed}
use Rattle.graph.specs.Rows.{Entry, flat}
use Rattle.graph.specs.Store.{Buffers, Compressed}
use Rattle.graph_entries.specs.Outcomes.{RowsLent, rows_lent, compressed_in, built, edges_refusal, from_edges}
use Rattle.graph_entries.proofs.Made.{made}
use Rattle.graph_entries.proofs.from_edges.Goals as goal

-- what `build_rows` ensures, as the call leaves it
done : {r n m : ℕ} {rows : List (List Entry)} {s c : List ℕ} {w : List Float} {p : List ℕ} → Compressed r n rows m s c w p
    → outcome_of (built 0 r) (rows_lent s c w p) ≡ outcome_of (built 0 (length (flat rows))) (compressed_in n m rows)
done h = ap₂ (λ (k : ℕ) (b : RowsLent). outcome_of (built 0 k) b) h.kept (made h)

pub returns-in_err-check_links : goal.returns-in_err-check_links
unfolding from_edges edges_refusal refuse_lengths lengths_differ
returns-in_err-check_links c =
    let p = err_from_is_err_and c.from_residual.result c.from_residual.ensures.1 in
    rw (p.1, p.2) (refused_for _ _ _ _ _ c.in_err-check_links.ensures)

-- what the tests leave: buffers for the rows
passed : (n : ℕ) (from to : List ℕ) (weight : List Float) (b : RowsLent) → 0 ≡ edges_refusal n from to weight b → Buffers n from to weight b.starts b.columns b.weights b.positions
unfolding edges_refusal
passed n from to weight b number = let p = links_passed _ _ _ _ _ number refl in search rules

pub build_rows-requires : goal.build_rows-requires
unfolding edges_refusal refuse_lengths lengths_differ
build_rows-requires c = let a = c.args in
    passed a.n a.from.now a.to.now a.weight.now (rows_lent a.starts.now a.columns.now a.weights.now a.positions.now) c.in_ok-check_links.ensures

pub returns : goal.returns
unfolding from_edges edges_refusal refuse_lengths lengths_differ
returns c = accepted _ _ _ _ c.in_ok-check_links.ensures refl (done c.build_rows.ensures)
