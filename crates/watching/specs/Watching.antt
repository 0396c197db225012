-- Inner: no public promise cites it.
-- The node that a solve watches, and the early stop by it. Assumes nothing.
use Rattle.std.specs.Prelude.{Bool, List, ◌≡◌, Float, Option, Some, None}
use Rattle.rules.specs.Rules as Rules
use Rattle.rules.specs.Rules.{State, unwatched, watched, stops}
use Rattle.watching.specs.declared.Watched.{Watched}

-- the node that is watched, as the rules have it
unfoldable pub watch_in : Option Watched → Rules.Watch
watch_in None = unwatched
watch_in (Some w) = watched w.node w.precision

-- r is the early stop in every state of these estimates and residuals
abbrev pub Stops : Rules.Watch → List Float → List Float → Bool → Type 0
Stops watch estimate residual r = (s : State) → s.estimate ≡ estimate → s.residual ≡ residual → r ≡ stops watch s
