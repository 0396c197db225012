-- What `from_edges` leaves, cut to the links that it kept, can be handed on: it stands for the rows of the links, and these rows pass the tests 1 to 5.
-- Assumes nothing.
use Prim.Native.Nat.{ℕ, ◌+◌, ◌≤◌, zero-le}
use mathlib.Core.Bool.{false}
use mathlib.Core.List.{List, [], ◌∷◌}
use mathlib.Core.Path.{◌≡◌, refl, ap}
use native.Mathlib.Omega.{arith}
use lib.ListN.{length, take, length-map}
use lib.Ieee.{Float}
use Rattle.numbers.specs.Tables.{any}
use Rattle.refusals.specs.Refusals.{wrong, row_tests}
use Rattle.refusals.specs.Calls.{Outcome, outcome_of}
use Rattle.refusals.proofs.Laws.{number_zero, left_done, links_passed, links_sound}
use Rattle.refusals.proofs.Passing.{rows_pass}
use Rattle.graph.specs.Rows.{Entry, links_of, rows_of, rows_in, flat}
use Rattle.graph.specs.Store.{total, counts_of, Held}
use Rattle.graph.proofs.Back.{held_rows, held_rowed}
use Rattle.graph.proofs.Compress.{kept_is}
use Rattle.graph.proofs.Counts.{total_counts}
use Rattle.graph.proofs.Inside.{rows_inside, rows_weights}
use Rattle.graph.proofs.Links.{length-links, length-rows}
use Rattle.graph.proofs.Whole.{cut_columns, cut_weights, held_cut, whole_fine}
use Rattle.graph_entries.specs.declared.Built.{Built}
use Rattle.graph_entries.specs.Outcomes.{RowsLent, built, compressed_in, edges_refusal, from_edges}

-- the rows of the links
abbrev rows_from : ℕ → List ℕ → List ℕ → List Float → List (List Entry)
rows_from n from to weight = rows_of n (links_of from to weight)

module _ (n : ℕ) (from to : List ℕ) (weight : List Float) (b : RowsLent) (x : Outcome Built RowsLent) (leaves : x ≡ from_edges n from to weight b) (answers : x.answer.refusal ≡ 0) where
  -- the links are not refused
  passes : edges_refusal n from to weight b ≡ 0
  unfolding from_edges
  passes = number_zero (λ k. built k 0) b _ (λ (a : Built). a.refusal) (λ k. refl) refl _ leaves answers

  -- the call is done
  done : x ≡ outcome_of (built 0 (length (flat (rows_from n from to weight)))) (compressed_in n (length from) (rows_from n from to weight))
  unfolding from_edges
  done = left_done (λ k. built k 0) b _ (λ (a : Built). a.refusal) (λ k. refl) refl _ leaves answers

  -- its buffers hold the rows
  held : Held n (rows_from n from to weight) (length from) x.lent.starts x.lent.columns x.lent.weights
  unfolding compressed_in edges_refusal
  held =
      let all = links_of from to weight in
      let p = links_passed _ _ _ _ _ refl passes in
      let few : total (counts_of n all) ≤ length from = rw (length-links from to weight p.long.0 p.long.1.0) at (total_counts n all) in
      record {
        wide = length-rows n all;
        fits = omega (arith, kept_is n all (length from) few);
        inside = rows_inside n all;
        starts_are = ap (λ (y : Outcome Built RowsLent). y.lent.starts) done;
        columns_are = ap (λ (y : Outcome Built RowsLent). y.lent.columns) done;
        weights_are = ap (λ (y : Outcome Built RowsLent). y.lent.weights) done;
      }

  -- the kept links are their entries
  kept_are : x.answer.kept ≡ length (flat (rows_from n from to weight))
  kept_are = ap (λ (y : Outcome Built RowsLent). y.answer.kept) done

  -- cut to these, they hold the rows and nothing behind them
  whole : Held n (rows_from n from to weight) (length (flat (rows_from n from to weight))) x.lent.starts (take x.answer.kept x.lent.columns) (take x.answer.kept x.lent.weights)
  whole = rw kept_are (held_cut held)

  -- and stand for the rows of the links
  pub built_rows : rows_in n x.lent.starts (take x.answer.kept x.lent.columns) (take x.answer.kept x.lent.weights) ≡ rows_of n (links_of from to weight)
  built_rows = held_rows whole

  -- and pass the tests of rows
  pub built_pass : let columns = take x.answer.kept x.lent.columns in
      let weights = take x.answer.kept x.lent.weights in
      row_tests n 0 ((length x.lent.starts, n + 1) ∷ (length weights, length columns) ∷ []) x.lent.starts columns weights ≡ 0
  unfolding edges_refusal
  built_pass =
      let r = held_rowed whole in
      let p = links_passed _ _ _ _ _ refl passes in
      let sound : any wrong (take x.answer.kept x.lent.weights) ≡ false = rw (kept_are, cut_weights held) (rows_weights wrong n from to weight (links_sound _ _ _ _ _ refl passes)) in
      let as_many : length (take x.answer.kept x.lent.columns) ≡ length (flat (rows_from n from to weight)) = rw (kept_are, cut_columns held, length-map) in
      rows_pass n 0 _ x.lent.starts _ _ (record { nodes = p.nodes; links = omega (arith, held.fits, p.links); listed = zero-le; long = (r.count, (r.paired, tt)) }) (whole_fine whole) sound
