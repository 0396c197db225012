-- Demand 3 of `solve_multi_source` and `query_single_entry` with a list of links, in the demand's own words. The other solves, which name one source or watch
-- a node, and the calls with rows have the same from `no_score`, `same_scores`, `no_score_queried` and `same_queried`. Assumes nothing.
use Prim.Native.Nat.{ℕ, ◌<◌}
use mathlib.Core.List.{List, [], ◌∷◌}
use mathlib.Core.Path.{◌≡◌}
use lib.Ieee.{Float}
use Rattle.numbers.specs.Numbers.{+0}
use Rattle.refusals.specs.Calls.{Outcome}
use Rattle.refusals.specs.declared.Settings.{Settings}
use Rattle.graph.specs.Rows.{links_of}
use Rattle.rules.specs.Ways.{push_forward}
use Rattle.rules.specs.Rules.{unwatched, at}
use Rattle.rules.specs.Reach.{Connected, SameConnected, kept_links}
use Rattle.calls.specs.declared.Solved.{Solved}
use Rattle.calls.specs.Lent.{SolveLent, LinksLent, solving}
use Rattle.calls.specs.Outcomes.{given_links}
use Rattle.calls.proofs.Vectors.{forward_vectors, links_vectors}
use Rattle.calls.proofs.UnreachedInCalls.{shows_links, SameLeft, no_score, same_scores}
use Rattle.calls.proofs.Queries.{no_score_queried, same_queried}
use Rattle.forward_push.specs.Outcomes.{solve_multi_source, query_single_entry}

module _ (n : ℕ) (s : Settings) (from to : List ℕ) (weight : List Float) (b : LinksLent SolveLent) where
  -- A node that the sources cannot reach is left with score and remainder +0.
  pub unreached_left : (sources : List ℕ) {x : Outcome Solved (LinksLent SolveLent)} → solve_multi_source (given_links solving n from to weight b) sources s x → x.answer.refusal ≡ 0
      → (v : ℕ) → v < n → ¬ Connected push_forward (kept_links n (links_of from to weight)) n sources v → (at x.lent.rest.estimate v ≡ +0) × (at x.lent.rest.residual v ≡ +0)
  unreached_left sources z = no_score (shows_links solving n from to weight b) (links_vectors forward_vectors n from to weight b) push_forward s unwatched sources z

  -- A target that the source cannot reach has the score +0, even where the query is refused.
  pub unreached_queried : (source target : ℕ) → ¬ Connected push_forward (kept_links n (links_of from to weight)) n (source ∷ []) target
      → (query_single_entry (given_links solving n from to weight b) source target s).answer.score ≡ +0
  unreached_queried = no_score_queried (shows_links solving n from to weight b) push_forward s

  module _ (from' to' : List ℕ) (weight' : List Float) (b' : LinksLent SolveLent) where
    -- Where the kept links out of every node that the sources can reach are the same, in the same order, two lists give the same counts, norm, scores and
    -- remainders.
    pub reached_alone : (sources : List ℕ) → SameConnected push_forward (kept_links n (links_of from to weight)) (kept_links n (links_of from' to' weight')) n sources
        → {x y : Outcome Solved (LinksLent SolveLent)} → solve_multi_source (given_links solving n from to weight b) sources s x → x.answer.refusal ≡ 0
        → solve_multi_source (given_links solving n from' to' weight' b') sources s y → y.answer.refusal ≡ 0
        → SameLeft (links_vectors forward_vectors n from to weight b) (links_vectors forward_vectors n from' to' weight' b') x y
    reached_alone sources same p =
        same_scores (shows_links solving n from to weight b) (links_vectors forward_vectors n from to weight b) push_forward s unwatched sources
        (shows_links solving n from' to' weight' b') (links_vectors forward_vectors n from' to' weight' b') same p

    -- So two queries answer the same, where both answer 0 and the kept links out of every node that the source can reach are the same, in the same order.
    pub reached_queried : (source target : ℕ) → SameConnected push_forward (kept_links n (links_of from to weight)) (kept_links n (links_of from' to' weight')) n (source ∷ [])
        → (query_single_entry (given_links solving n from to weight b) source target s).answer.refusal ≡ 0
        → (query_single_entry (given_links solving n from' to' weight' b') source target s).answer.refusal ≡ 0
        → (query_single_entry (given_links solving n from to weight b) source target s).answer ≡ (query_single_entry (given_links solving n from' to' weight' b') source target s).answer
    reached_queried source target = same_queried (shows_links solving n from to weight b) push_forward s source target (shows_links solving n from' to' weight' b')
