-- `watching::is_enough` meets its contract: out of range a value reads as a NaN, and nothing is below a NaN. Assumes nothing.
use mathlib.Core.Bool.{false}
use mathlib.Core.Path.{◌≡◌, refl}
use borrow.Author.Tests.{le-ltb}
use lib.ListN.{get_or-eq_default}
use lib.Ieee.{Float, nan, inf, fin, lt}
use Rattle.rules.specs.Rules.{stops}
use Rattle.watching.proofs.is_enough.Goals as goal

-- nothing is below a NaN
below_nan : (x : Float) → lt x nan ≡ false
unfolding lt
below_nan nan = refl
below_nan (inf s) = refl
below_nan (fin s m e) = refl

pub returns-then-at-estimate : goal.returns-then-at-estimate
unfolding stops
returns-then-at-estimate c = λ s e r. rw (e, r)

pub returns-else-at-estimate : goal.returns-else-at-estimate
unfolding stops
returns-else-at-estimate c = λ s e r. rw (le-ltb _ _ c.if-at-estimate.false, e, get_or-eq_default c.args.estimate.now nan c.if-at-estimate.false, below_nan c.args.w.precision)
