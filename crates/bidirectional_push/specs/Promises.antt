-- Inner: no public promise cites it.
-- What the functions below the public calls ensure. Assumes nothing.
use Rattle.std.specs.Prelude.{ℕ, Bool, ◌≡◌, Float}
use Rattle.refusals.specs.Calls.{Outcome}
use Rattle.refusals.specs.declared.Settings.{Settings}
use Rattle.rules.specs.Answers.{method}
use Rattle.calls.specs.declared.Scored.{Scored}
use Rattle.calls.specs.Outcomes.{Given}
use Rattle.combination.specs.Methods.{method_for}
use Rattle.bidirectional_push.specs.Lent.{Pairs}
use Rattle.bidirectional_push.specs.Outcomes.{joined, by_solves}

-- the solves that the method uses left the score, and the lent buffers as they are after it
pub record Joins {B : Type 0} (adaptive : Bool) (g : Given Pairs B) (source target : ℕ) (sf sb : Settings) (x : Outcome Float B) : Type 0 where
  pub leaves : x ≡ joined g source target sf sb (method_for adaptive (method g.nodes g.rows source target))

-- a call was refused with its first number, or solved so
pub record ChecksBoth {B : Type 0} (adaptive : Bool) (g : Given Pairs B) (source target : ℕ) (sf sb : Settings) (x : Outcome Scored B) : Type 0 where
  pub leaves : x ≡ by_solves g source target sf sb (method_for adaptive (method g.nodes g.rows source target))
