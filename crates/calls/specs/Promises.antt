-- Inner: no public promise cites it.
-- What the functions below the public calls ask and ensure. Assumes nothing.
use Rattle.std.specs.Prelude.{ℕ, ◌≤◌, Bool, List, ◌≡◌, length, get_or, replicate, Float}
use Rattle.numbers.specs.Numbers.{+0}
use Rattle.norm.specs.Norm.{Norm}
use Rattle.refusals.specs.Refusals.{◌or◌, refuse_settings}
use Rattle.refusals.specs.Calls.{Outcome, outcome_of}
use Rattle.refusals.specs.declared.Settings.{Settings}
use Rattle.rules.specs.Ways.{Way}
use Rattle.rules.specs.Rules.{State, Watch}
use Rattle.rules.specs.Answers.{visited_count}
use Rattle.pushes.specs.Buffers.{Room}
use Rattle.calls.specs.Lent.{Counted}
use Rattle.calls.specs.declared.Solved.{Solved}
use Rattle.calls.specs.declared.Scored.{Scored}
use Rattle.calls.specs.declared.lent.Vectors.{Vectors}
use Rattle.calls.specs.declared.lent.Workspace.{Workspace}
use Rattle.calls.specs.Lent.{words, counted_of, solved_of, scored_of, SolveLent}
use Rattle.calls.specs.Outcomes.{Given, ends, unmeasured}

-- there is room for a solve among n nodes from these sources
pub record Fits (n : ℕ) (sources : List ℕ) (b : SolveLent) : Type 0 where
  pub listed : length sources ≤ 65536
  pub room : Room n b.estimate b.residual b.priorities b.nodes b.queued b.visited
  pub degrees_long : length b.degrees ≡ n
  pub queued_long : length b.queued ≡ words n
  pub visited_long : length b.visited ≡ words n

-- the counts of a solve that is done and ends in a state
abbrev pub counted_in : State → Counted
counted_in s = counted_of 0 s.pushes (visited_count s)

-- the answer of a solve: its number alone, or its counts and the norm of the residual
pub record Measured (c : Counted) (residual : List Float) (r : Solved) : Type 0 where
  pub refused : (c.refusal ≡ 0 → ⊥) → r ≡ solved_of c.refusal 0 0 +0
  pub is_norm : c.refusal ≡ 0 → Norm residual r.residual_norm
  pub done : c.refusal ≡ 0 → r ≡ solved_of 0 c.push_count c.nodes_visited r.residual_norm

-- the answer of a query: its number alone, or the score of v
pub record Queried (refusal : ℕ) (estimate : List Float) (v : ℕ) (r : Scored) : Type 0 where
  pub refused : (refusal ≡ 0 → ⊥) → r ≡ scored_of refusal +0
  pub done : refusal ≡ 0 → r ≡ scored_of 0 (get_or estimate v +0)

-- the counts and the two vectors are those of the state that f gives for every way that is meant, and the workspace is all zero
pub record SolveSettled (meant : Way → Type 0) (f : Way → State) (n : ℕ) (r : Counted) (estimate residual priorities : List Float) (nodes queued visited : List ℕ) : Type 0 where
  pub counts : (way : Way) → meant way → r ≡ counted_in (f way)
  pub estimate_is : (way : Way) → meant way → estimate ≡ (f way).estimate
  pub residual_is : (way : Way) → meant way → residual ≡ (f way).residual
  pub priorities_zero : priorities ≡ replicate n +0
  pub nodes_zero : nodes ≡ replicate n 0
  pub queued_zero : queued ≡ replicate (words n) 0
  pub visited_zero : visited ≡ replicate (words n) 0

-- the same of the structs of a call
abbrev pub SettledIn : (Way → Type 0) → (Way → State) → ℕ → Counted → Vectors → Workspace → Type 0
SettledIn meant f n r v w = SolveSettled meant f n r v.estimate.now v.residual.now w.priorities.now w.nodes.now w.queued.now w.visited.now

-- a solve left the counts of the state that it ends in, and the lent buffers as they are after it
pub record Settles {B : Type 0} (backward : Bool) (g : Given State B) (s : Settings) (watch : Watch) (sources : List ℕ) (x : Outcome Counted B) : Type 0 where
  pub leaves : x ≡ outcome_of (counted_in (ends backward g s watch sources)) (g.after (ends backward g s watch sources))

-- a call was refused with its first number, `further` being that of the tests after those of the settings, or solved
pub record Checks {B : Type 0} (backward : Bool) (g : Given State B) (s : Settings) (watch : Watch) (sources : List ℕ) (listed further : ℕ) (x : Outcome Counted B) : Type 0 where
  pub leaves : x ≡ unmeasured (g.tests listed or refuse_settings s or further) g (ends backward g s watch sources)
