-- The statement for the stop, of each forward solve that watches nobody: with settings that it is about, if the call answers 0 and a push count below
-- max_pushes, then nothing is still due at what it leaves as the residual, by the out-degrees. Assumes nothing.
use Prim.Native.Nat.{ℕ, ◌<◌}
use mathlib.Core.List.{List, [], ◌∷◌}
use mathlib.Core.Path.{◌≡◌}
use lib.Ieee.{Float}
use Rattle.refusals.specs.Calls.{Outcome}
use Rattle.refusals.specs.declared.Settings.{Settings}
use Rattle.graph.specs.Rows.{links_of, rows_in}
use Rattle.rules.specs.Ways.{push_forward, over, over_links}
use Rattle.rules.specs.StillDue.{NothingDue, Steady}
use Rattle.calls.specs.declared.Solved.{Solved}
use Rattle.calls.specs.Lent.{SolveLent, LinksLent, solving}
use Rattle.calls.specs.Outcomes.{given_links, given_rows}
use Rattle.calls.proofs.Vectors.{forward_vectors, links_vectors, rows_vectors}
use Rattle.calls.proofs.StoppedInCalls.{nothing_left_due}
use Rattle.forward_push.specs.Outcomes.{solve_single_source, solve_multi_source}

module _ (n : ℕ) (s : Settings) (steady : Steady s) where
  -- ---- with a list of links

  module _ (from to : List ℕ) (weight : List Float) (b : LinksLent SolveLent) {x : Outcome Solved (LinksLent SolveLent)} where
    pub single_source_links_stopped : (source : ℕ) → solve_single_source (given_links solving n from to weight b) source s x → x.answer.refusal ≡ 0 → x.answer.push_count < s.max_pushes
        → NothingDue (over_links push_forward n (links_of from to weight)) s n x.lent.rest.residual
    unfolding given_links
    single_source_links_stopped source = nothing_left_due (links_vectors forward_vectors n from to weight b) push_forward s steady (source ∷ [])

    pub multi_source_links_stopped : (sources : List ℕ) → solve_multi_source (given_links solving n from to weight b) sources s x → x.answer.refusal ≡ 0 → x.answer.push_count < s.max_pushes
        → NothingDue (over_links push_forward n (links_of from to weight)) s n x.lent.rest.residual
    unfolding given_links
    multi_source_links_stopped sources = nothing_left_due (links_vectors forward_vectors n from to weight b) push_forward s steady sources

  -- ---- with rows

  module _ (starts columns : List ℕ) (weights : List Float) (b : SolveLent) {x : Outcome Solved SolveLent} where
    pub single_source_rows_stopped : (source : ℕ) → solve_single_source (given_rows solving n starts columns weights b) source s x → x.answer.refusal ≡ 0 → x.answer.push_count < s.max_pushes
        → NothingDue (over push_forward n (rows_in n starts columns weights)) s n x.lent.residual
    unfolding given_rows
    single_source_rows_stopped source = nothing_left_due (rows_vectors forward_vectors n starts columns weights b) push_forward s steady (source ∷ [])

    pub multi_source_rows_stopped : (sources : List ℕ) → solve_multi_source (given_rows solving n starts columns weights b) sources s x → x.answer.refusal ≡ 0 → x.answer.push_count < s.max_pushes
        → NothingDue (over push_forward n (rows_in n starts columns weights)) s n x.lent.residual
    unfolding given_rows
    multi_source_rows_stopped sources = nothing_left_due (rows_vectors forward_vectors n starts columns weights b) push_forward s steady sources
