-- Demand 3 of queries, of the rows that a call is shown. A query of a node that the source cannot reach, or backward that cannot reach the target, answers
-- the score +0, even where it is refused. Where two queries answer 0, and the links that the demand names are the same, both answer the same.
-- Assumes nothing.
use Prim.Native.Nat.{ℕ, zero, suc, ◌<◌}
use mathlib.Core.Bool.{Bool}
use mathlib.Core.List.{List, [], ◌∷◌}
use mathlib.Core.Path.{◌≡◌, refl, sym, ap, ◌∙◌}
use native.Mathlib.Decide.{dec_lt}
use native.Mathlib.Omega.{arith}
use lib.ListN.{length, get_or, get_or-eq_default}
use lib.Ieee.{Float, nan}
use Rattle.numbers.specs.Numbers.{+0}
use Rattle.refusals.specs.Calls.{Outcome, by_refusal}
use Rattle.refusals.specs.declared.Settings.{Settings}
use Rattle.refusals.proofs.Laws.{left_done}
use Rattle.graph.specs.Rows.{Entry}
use Rattle.rules.specs.Ways.{over}
use Rattle.rules.specs.Rules.{State, unwatched}
use Rattle.rules.specs.Answers.{score_at}
use Rattle.rules.specs.Reach.{Connected, SameConnected}
use Rattle.rules.proofs.Lists.{other_default}
use Rattle.rules.proofs.Lengths.{solve_spans}
use Rattle.calls.specs.declared.Scored.{Scored}
use Rattle.calls.specs.Lent.{scored_of}
use Rattle.calls.specs.Outcomes.{Given, ends, queried, queries_one}
use Rattle.calls.proofs.UnreachedInCalls.{Shows, untouched_ends, alike_ends}

-- ---- one query, by its first number and the state that its solve ends in

module _ {B : Type 0} (g : Given State B) (s : State) (v : ℕ) where
  -- where it answers 0, it answers the score
  queried_score : (number : ℕ) → (queried number g s v).answer.refusal ≡ 0 → (queried number g s v).answer ≡ scored_of 0 (score_at s v)
  unfolding queried
  queried_score number done = ap (λ (y : Outcome Scored B). y.answer) (left_done _ _ _ (λ y. y.refusal) (λ k. refl) refl number refl done)

  -- a score of +0 is answered, refused or not
  zero_answered : score_at s v ≡ +0 → (number : ℕ) → (queried number g s v).answer.score ≡ +0
  unfolding queried by_refusal
  zero_answered e zero = e
  zero_answered e (suc k) = refl

-- ---- what queries answer

-- the score of a node that is not connected, or not in range, is +0
pub unconnected_score : {S B : Type 0} {g : Given S B} {n : ℕ} {row : ℕ → List Entry} → Shows g n row → (backward : Bool) (settings : Settings) (v w : ℕ)
    → (w < n → ¬ Connected backward row n (v ∷ []) w) → score_at (ends backward g settings unwatched (v ∷ [])) w ≡ +0
unfolding score_at ends
unconnected_score {g = g} {n = n} shown backward settings v w off = go (dec_lt w n)
  where
    -- the scores of the solve
    scores : List Float
    scores = (ends backward g settings unwatched (v ∷ [])).estimate

    -- are as many as the nodes
    long : length scores ≡ n
    long = (solve_spans (over backward g.nodes g.rows) settings unwatched g.nodes (v ∷ [])).estimate_long ∙ shown.nodes_are

    go : Dec (w < n) → get_or scores w +0 ≡ +0
    go (yes l) = other_default scores w +0 nan (rw long l) ∙ (untouched_ends shown backward settings unwatched (v ∷ []) w l (off l)).score
    go (no h) = get_or-eq_default scores +0 (omega (arith, long))

module _ {B : Type 0} {g : Given State B} {n : ℕ} {row : ℕ → List Entry} (shown : Shows g n row) (backward : Bool) (settings : Settings) (v w : ℕ) where
  -- A query of a node that is not connected answers +0.
  pub no_score_queried : ¬ Connected backward row n (v ∷ []) w → (queries_one backward g v w settings).answer.score ≡ +0
  no_score_queried off = zero_answered g _ w (unconnected_score shown backward settings v w (λ l. off)) _

  -- Where the links are the same for every node that is connected, two queries answer the same.
  pub same_queried : {C : Type 0} {h : Given State C} {other : ℕ → List Entry} → Shows h n other → SameConnected backward row other n (v ∷ [])
      → (queries_one backward g v w settings).answer.refusal ≡ 0 → (queries_one backward h v w settings).answer.refusal ≡ 0
      → (queries_one backward g v w settings).answer ≡ (queries_one backward h v w settings).answer
  unfolding score_at
  same_queried {h = h} also same d f =
      queried_score g _ w _ d
      ∙ ap (λ (xs : List Float). scored_of 0 (get_or xs w +0)) (alike_ends shown backward settings unwatched (v ∷ []) also same).scores
      ∙ sym (queried_score h _ w _ f)
