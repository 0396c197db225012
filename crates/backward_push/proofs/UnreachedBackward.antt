-- Demand 3 of `solve_multi_target`, `query_transition_probability` and `reachability_probabilities` with a list of links, in the demand's own words. The other
-- solves, which name one target or watch a node, and the calls with rows have the same from `no_score`, `same_scores`, `no_score_queried`, `same_queried`,
-- `no_solution` and `same_solution`. Assumes nothing.
use Prim.Native.Nat.{ℕ, ◌<◌}
use mathlib.Core.List.{List, [], ◌∷◌}
use mathlib.Core.Path.{◌≡◌, refl, ap, ◌∙◌}
use lib.Ieee.{Float, nan}
use Rattle.numbers.specs.Numbers.{+0}
use Rattle.numbers.proofs.Tables.{get_or-tabulate}
use Rattle.numbers.proofs.Zeros.{part_finite, plus_zero, times_zero, zero_added}
use Rattle.refusals.specs.Refusals.{◌or◌, refuse_settings}
use Rattle.refusals.specs.Calls.{Outcome}
use Rattle.refusals.specs.declared.Settings.{Settings}
use Rattle.refusals.proofs.Laws.{or_zero, alpha_within, number_zero, left_done}
use Rattle.graph.specs.Rows.{Entry, links_of}
use Rattle.rules.specs.Ways.{push_backward}
use Rattle.rules.specs.Rules.{State, unwatched, at}
use Rattle.rules.specs.Answers.{extrapolated}
use Rattle.rules.specs.Reach.{Connected, SameConnected, kept_links}
use Rattle.calls.specs.declared.Solved.{Solved}
use Rattle.calls.specs.Lent.{LinksLent}
use Rattle.calls.specs.Outcomes.{Given, given_links, given_rows, ends}
use Rattle.calls.proofs.Vectors.{rows_after, links_after, links_vectors}
use Rattle.calls.proofs.UnreachedInCalls.{Shows, shows_links, untouched_ends, alike_ends, SameLeft, no_score, same_scores}
use Rattle.calls.proofs.Queries.{no_score_queried, same_queried}
use Rattle.backward_push.specs.Lent.{BackLent, reversing, Reachability, ReachLent, reaching}
use Rattle.backward_push.specs.Outcomes.{solve_multi_target, query_transition_probability, reachability_probabilities}
use Rattle.backward_push.proofs.Reversing.{backward_vectors}

module _ (n : ℕ) (s : Settings) (from to : List ℕ) (weight : List Float) (b : LinksLent BackLent) where
  -- A node that can reach no target is left with score and remainder +0.
  pub unreaching_left : (targets : List ℕ) {x : Outcome Solved (LinksLent BackLent)} → solve_multi_target (given_links reversing n from to weight b) targets s x → x.answer.refusal ≡ 0
      → (v : ℕ) → v < n → ¬ Connected push_backward (kept_links n (links_of from to weight)) n targets v
      → (at x.lent.rest.solve.estimate v ≡ +0) × (at x.lent.rest.solve.residual v ≡ +0)
  unreaching_left targets z = no_score (shows_links reversing n from to weight b) (links_vectors backward_vectors n from to weight b) push_backward s unwatched targets z

  -- A source that cannot reach the target has the score +0, even where the query is refused.
  pub unreaching_queried : (source target : ℕ) → ¬ Connected push_backward (kept_links n (links_of from to weight)) n (target ∷ []) source
      → (query_transition_probability (given_links reversing n from to weight b) source target s).answer.score ≡ +0
  unreaching_queried source target = no_score_queried (shows_links reversing n from to weight b) push_backward s target source

  module _ (from' to' : List ℕ) (weight' : List Float) (b' : LinksLent BackLent) where
    -- Where the nodes that can reach a target are the same in two lists, and the kept links out of every one of them are the same, in the same order, both
    -- give the same counts, norm, scores and remainders.
    pub reaching_alone : (targets : List ℕ) → SameConnected push_backward (kept_links n (links_of from to weight)) (kept_links n (links_of from' to' weight')) n targets
        → {x y : Outcome Solved (LinksLent BackLent)} → solve_multi_target (given_links reversing n from to weight b) targets s x → x.answer.refusal ≡ 0
        → solve_multi_target (given_links reversing n from' to' weight' b') targets s y → y.answer.refusal ≡ 0
        → SameLeft (links_vectors backward_vectors n from to weight b) (links_vectors backward_vectors n from' to' weight' b') x y
    reaching_alone targets same p =
        same_scores (shows_links reversing n from to weight b) (links_vectors backward_vectors n from to weight b) push_backward s unwatched targets
        (shows_links reversing n from' to' weight' b') (links_vectors backward_vectors n from' to' weight' b') same p

    -- So two queries answer the same, where both answer 0, and this holds of the nodes that can reach the target.
    pub reaching_queried : (source target : ℕ) → SameConnected push_backward (kept_links n (links_of from to weight)) (kept_links n (links_of from' to' weight')) n (target ∷ [])
        → (query_transition_probability (given_links reversing n from to weight b) source target s).answer.refusal ≡ 0
        → (query_transition_probability (given_links reversing n from' to' weight' b') source target s).answer.refusal ≡ 0
        → (query_transition_probability (given_links reversing n from to weight b) source target s).answer
        ≡ (query_transition_probability (given_links reversing n from' to' weight' b') source target s).answer
    reaching_queried source target = same_queried (shows_links reversing n from to weight b) push_backward s target source (shows_links reversing n from' to' weight' b')

-- ---- reachability_probabilities

-- where the solution stands in what a call leaves
pub record LeftSolution {B : Type 0} (g : Given Reachability B) : Type 0 where
  pub solution_of : B → List Float
  pub solution_after : (r : Reachability) → solution_of (g.after r) ≡ r.solution

-- with rows
abbrev pub rows_solution : (n : ℕ) (starts columns : List ℕ) (weights : List Float) (b : ReachLent) → LeftSolution (given_rows reaching n starts columns weights b)
rows_solution n starts columns weights b =
    record { solution_of = λ x. x.solution; solution_after = λ r. rows_after reaching (λ x. x.solution) r _ (λ n m. refl) n starts columns weights b }

-- with a list of links
abbrev pub links_solution : (n : ℕ) (from to : List ℕ) (weight : List Float) (b : LinksLent ReachLent) → LeftSolution (given_links reaching n from to weight b)
links_solution n from to weight b =
    record { solution_of = λ x. x.rest.solution; solution_after = λ r. links_after reaching (λ x. x.solution) r _ (λ n m. refl) n from to weight b }

module _ {B : Type 0} {g : Given Reachability B} (w : LeftSolution g) (target : ℕ) (s : Settings) (done : (reachability_probabilities g target s).answer ≡ 0) where
  -- the state that the solve ends in
  abbrev end : State
  end = ends push_backward g s unwatched (target ∷ [])

  -- a call that answers 0 leaves its extrapolated solution
  solution_left : w.solution_of (reachability_probabilities g target s).lent ≡ extrapolated s.alpha g.nodes end.estimate end.residual
  unfolding reachability_probabilities
  solution_left = ap (λ (y : Outcome ℕ B). w.solution_of y.lent) (left_done _ _ _ (λ k. k) (λ k. refl) refl _ refl done) ∙ w.solution_after _

  -- and its settings are not refused
  settings_pass : refuse_settings s ≡ 0
  unfolding reachability_probabilities
  settings_pass = (or_zero _ _ (number_zero _ _ _ (λ k. k) (λ k. refl) refl (g.tests 0 or refuse_settings s) refl done)).1

module _ {B : Type 0} {g : Given Reachability B} {n : ℕ} {row : ℕ → List Entry} (shown : Shows g n row) (w : LeftSolution g) (target : ℕ) (s : Settings) where
  -- A node that cannot reach the target has +0 in the solution.
  pub no_solution : (reachability_probabilities g target s).answer ≡ 0 → (v : ℕ) → v < n → ¬ Connected push_backward row n (target ∷ []) v
      → at (w.solution_of (reachability_probabilities g target s).lent) v ≡ +0
  unfolding extrapolated
  no_solution done v l off =
      let u = untouched_ends shown push_backward s unwatched (target ∷ []) v l off in
      rw (solution_left w target s done, get_or-tabulate g.nodes _ v nan (rw shown.nodes_are l), u.score, u.remainder)
      (zero_added (times_zero s.alpha (part_finite s.alpha (alpha_within s (settings_pass w target s done))) (plus_zero refl)))

  -- Where the links are the same for every node that can reach the target, and these nodes are the same, two calls leave the same solution.
  pub same_solution : {C : Type 0} {h : Given Reachability C} {other : ℕ → List Entry} → Shows h n other → (v : LeftSolution h) → SameConnected push_backward row other n (target ∷ [])
      → (reachability_probabilities g target s).answer ≡ 0 → (reachability_probabilities h target s).answer ≡ 0
      → w.solution_of (reachability_probabilities g target s).lent ≡ v.solution_of (reachability_probabilities h target s).lent
  same_solution also v same d e =
      let a = alike_ends shown push_backward s unwatched (target ∷ []) also same in
      cc (solution_left w target s d, solution_left v target s e, a.scores, a.remainders)

module _ (n target : ℕ) (s : Settings) (from to : List ℕ) (weight : List Float) (b : LinksLent ReachLent) where
  -- the call
  abbrev reached : Outcome ℕ (LinksLent ReachLent)
  reached = reachability_probabilities (given_links reaching n from to weight b) target s

  -- A node that cannot reach the target has +0 in the answer.
  pub unreaching_answered : reached.answer ≡ 0 → (v : ℕ) → v < n → ¬ Connected push_backward (kept_links n (links_of from to weight)) n (target ∷ []) v → at reached.lent.rest.solution v ≡ +0
  unreaching_answered = no_solution (shows_links reaching n from to weight b) (links_solution n from to weight b) target s

-- Where the nodes that can reach the target are the same in two lists, and the kept links out of every one of them are the same, in the same order, both
-- give the same answer.
pub reaching_answered : (n target : ℕ) (s : Settings) (from to from' to' : List ℕ) (weight weight' : List Float) (b b' : LinksLent ReachLent)
    → SameConnected push_backward (kept_links n (links_of from to weight)) (kept_links n (links_of from' to' weight')) n (target ∷ [])
    → (reached n target s from to weight b).answer ≡ 0 → (reached n target s from' to' weight' b').answer ≡ 0
    → (reached n target s from to weight b).lent.rest.solution ≡ (reached n target s from' to' weight' b').lent.rest.solution
reaching_answered n target s from to from' to' weight weight' b b' =
    same_solution (shows_links reaching n from to weight b) (links_solution n from to weight b) target s
    (shows_links reaching n from' to' weight' b') (links_solution n from' to' weight' b')
