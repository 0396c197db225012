-- The statement for the stop, of each backward solve that watches nobody: with settings that it is about, if the call answers 0 and a push count below
-- max_pushes, then nothing is still due at what it leaves as the residual, by the in-degrees. Assumes nothing.
use Prim.Native.Nat.{ℕ, ◌<◌}
use mathlib.Core.List.{List, [], ◌∷◌}
use mathlib.Core.Path.{◌≡◌}
use lib.Ieee.{Float}
use Rattle.refusals.specs.Calls.{Outcome}
use Rattle.refusals.specs.declared.Settings.{Settings}
use Rattle.graph.specs.Rows.{links_of, rows_in}
use Rattle.rules.specs.Ways.{push_backward, over, over_links}
use Rattle.rules.specs.StillDue.{NothingDue, Steady}
use Rattle.calls.specs.declared.Solved.{Solved}
use Rattle.calls.specs.Lent.{LinksLent}
use Rattle.calls.specs.Outcomes.{given_links, given_rows}
use Rattle.calls.proofs.Vectors.{links_vectors, rows_vectors}
use Rattle.calls.proofs.StoppedInCalls.{nothing_left_due}
use Rattle.backward_push.specs.Lent.{BackLent, reversing}
use Rattle.backward_push.specs.Outcomes.{solve_single_target, solve_multi_target}
use Rattle.backward_push.proofs.Reversing.{backward_vectors}

module _ (n : ℕ) (s : Settings) (steady : Steady s) where
  -- ---- with a list of links

  module _ (from to : List ℕ) (weight : List Float) (b : LinksLent BackLent) {x : Outcome Solved (LinksLent BackLent)} where
    pub single_target_links_stopped : (target : ℕ) → solve_single_target (given_links reversing n from to weight b) target s x → x.answer.refusal ≡ 0 → x.answer.push_count < s.max_pushes
        → NothingDue (over_links push_backward n (links_of from to weight)) s n x.lent.rest.solve.residual
    unfolding given_links
    single_target_links_stopped target = nothing_left_due (links_vectors backward_vectors n from to weight b) push_backward s steady (target ∷ [])

    pub multi_target_links_stopped : (targets : List ℕ) → solve_multi_target (given_links reversing n from to weight b) targets s x → x.answer.refusal ≡ 0 → x.answer.push_count < s.max_pushes
        → NothingDue (over_links push_backward n (links_of from to weight)) s n x.lent.rest.solve.residual
    unfolding given_links
    multi_target_links_stopped targets = nothing_left_due (links_vectors backward_vectors n from to weight b) push_backward s steady targets

  -- ---- with rows

  module _ (starts columns : List ℕ) (weights : List Float) (b : BackLent) {x : Outcome Solved BackLent} where
    pub single_target_rows_stopped : (target : ℕ) → solve_single_target (given_rows reversing n starts columns weights b) target s x → x.answer.refusal ≡ 0 → x.answer.push_count < s.max_pushes
        → NothingDue (over push_backward n (rows_in n starts columns weights)) s n x.lent.solve.residual
    unfolding given_rows
    single_target_rows_stopped target = nothing_left_due (rows_vectors backward_vectors n starts columns weights b) push_backward s steady (target ∷ [])

    pub multi_target_rows_stopped : (targets : List ℕ) → solve_multi_target (given_rows reversing n starts columns weights b) targets s x → x.answer.refusal ≡ 0 → x.answer.push_count < s.max_pushes
        → NothingDue (over push_backward n (rows_in n starts columns weights)) s n x.lent.solve.residual
    unfolding given_rows
    multi_target_rows_stopped targets = nothing_left_due (rows_vectors backward_vectors n starts columns weights b) push_backward s steady targets
