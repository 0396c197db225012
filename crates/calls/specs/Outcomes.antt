-- The one outcome of a solve or a query, whatever is lent to it: what it is given, and what it leaves. Assumes nothing.
use Rattle.std.specs.Prelude.{ℕ, ◌+◌, Bool, List, [], ◌∷◌, ◌≡◌, length, Float}
use Rattle.numbers.specs.Numbers.{+0}
use Rattle.norm.specs.Norm.{Norm}
use Rattle.refusals.specs.Refusals.{◌or◌, refuse_settings, refuse_precision, link_tests, row_tests}
use Rattle.refusals.specs.Calls.{Outcome, outcome_of, by_refusal}
use Rattle.refusals.specs.declared.Settings.{Settings}
use Rattle.graph.specs.Rows.{Entry, links_of, rows_of, rows_in}
use Rattle.rules.specs.Ways.{over}
use Rattle.rules.specs.Rules.{State, Watch, unwatched, watched, solve}
use Rattle.rules.specs.Answers.{visited_count, score_at}
use Rattle.calls.specs.Lent.{Counted}
use Rattle.calls.specs.declared.Solved.{Solved}
use Rattle.calls.specs.declared.Scored.{Scored}
use Rattle.calls.specs.Lent.{counted_of, solved_of, scored_of, Lending, LinksLent, links_done}

-- ---- what a call is given

-- a graph of so many nodes by its rows, the first number of tests 1 to 5 by how many sources or targets are listed, what the lent buffers hold before the
-- call, and what they hold after a call that is done, by what its solves come to
pub record Given (S B : Type 0) : Type 0 where
  pub nodes : ℕ
  pub rows : List (List Entry)
  pub tests : ℕ → ℕ
  pub before : B
  pub after : S → B

-- a list of links, with a kind of lending besides the buffers for rows
unfoldable pub given_links : {S B : Type 0} → Lending S B → ℕ → List ℕ → List ℕ → List Float → LinksLent B → Given S (LinksLent B)
given_links k n from to weight b =
    let m = length from in
    record {
      nodes = n;
      rows = rows_of n (links_of from to weight);
      tests = λ listed.
          link_tests n m listed
          ((length to, m) ∷ (length weight, m) ∷ (length b.starts, n + 1) ∷ (length b.columns, m) ∷ (length b.weights, m) ∷ k.lengths n m b.rest) weight;
      before = b;
      after = λ s. links_done n m (k.done n m s);
    }

-- rows, with a kind of lending
unfoldable pub given_rows : {S B : Type 0} → Lending S B → ℕ → List ℕ → List ℕ → List Float → B → Given S B
given_rows k n starts columns weights b =
    let m = length columns in
    record {
      nodes = n;
      rows = rows_in n starts columns weights;
      tests = λ listed. row_tests n listed ((length starts, n + 1) ∷ (length weights, m) ∷ k.lengths n m b) starts columns weights;
      before = b;
      after = k.done n m;
    }

-- the state that a solve in a direction ends in
unfoldable pub ends : {S B : Type 0} → Bool → Given S B → Settings → Watch → List ℕ → State
ends backward g s watch sources = solve (over backward g.nodes g.rows) s watch g.nodes sources

-- ---- what it leaves, by its first number and the state that its solve ends in

module _ {B : Type 0} (number : ℕ) (g : Given State B) (s : State) where
  -- a solve before its norm is taken
  unfoldable pub unmeasured : Outcome Counted B
  unmeasured = by_refusal number (λ k. counted_of k 0 0) g.before (outcome_of (counted_of 0 s.pushes (visited_count s)) (g.after s))

  -- a solve with this norm of its residual
  unfoldable pub solved_with : Float → Outcome Solved B
  solved_with norm = by_refusal number (λ k. solved_of k 0 0 +0) g.before (outcome_of (solved_of 0 s.pushes (visited_count s) norm) (g.after s))

  -- a solve
  pub record Solves (x : Outcome Solved B) : Type 0 where
    pub norm : Float
    pub is_norm : number ≡ 0 → Norm s.residual norm
    pub leaves : x ≡ solved_with norm

  -- a query of the score of v
  unfoldable pub queried : ℕ → Outcome Scored B
  queried v = by_refusal number (λ k. scored_of k +0) g.before (outcome_of (scored_of 0 (score_at s v)) (g.after s))

-- ---- the calls that both directions have

module _ {B : Type 0} (backward : Bool) (g : Given State B) where
  -- a solve from one source or target, which is a list of one
  abbrev pub solves_one : ℕ → Settings → Outcome Solved B → Type 0
  solves_one v s = Solves (g.tests 0 or refuse_settings s) g (ends backward g s unwatched (v ∷ []))

  -- a solve from many
  abbrev pub solves_many : List ℕ → Settings → Outcome Solved B → Type 0
  solves_many vs s = Solves (g.tests (length vs) or refuse_settings s) g (ends backward g s unwatched vs)

  -- a solve from v, where w is watched
  abbrev pub solves_watching : ℕ → ℕ → Float → Settings → Outcome Solved B → Type 0
  solves_watching v w p s = Solves (g.tests 0 or refuse_settings s or refuse_precision p) g (ends backward g s (watched w p) (v ∷ []))

  -- a query of the score of w in a solve from v
  abbrev pub queries_one : ℕ → ℕ → Settings → Outcome Scored B
  queries_one v w s = queried (g.tests 0 or refuse_settings s) g (ends backward g s unwatched (v ∷ [])) w
