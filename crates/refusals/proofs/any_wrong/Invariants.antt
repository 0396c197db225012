-- `refusals::any_wrong` meets its contract. Invariant: what was found, or is still to come, is what all weights have. Assumes nothing.
use Prim.Native.Nat.{◌≤◌}
use mathlib.Core.Bool.{◌||◌}
use mathlib.Core.Path.{◌≡◌}
use lib.ListN.{length, drop}
use Rattle.numbers.specs.Tables.{any}
use Rattle.refusals.specs.Refusals.{wrong}
use Rattle.refusals.proofs.any_wrong.Given as goal

abbrev pub invariant-loop-weight : goal.invariant-loop-weight
invariant-loop-weight l = (l.weight-index ≤ length l.weights) × ((l.found || any wrong (drop l.weight-index l.weights)) ≡ any wrong l.weights)
