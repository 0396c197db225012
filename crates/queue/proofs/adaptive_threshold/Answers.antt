-- `queue::adaptive_threshold` meets its contract: each return is the definition's case by the tests that led there. Assumes nothing.
use Prim.Native.Nat.{ℕ, ◌≤◌, ◌<◌}
use mathlib.Core.Bool.{true, false, ◌&&◌}
use mathlib.Core.Path.{◌≡◌, refl}
use borrow.Author.Tests.{lt-ltb, le-ltb}
use lib.Dec.{ltb}
use lib.Ieee.{Float, lt}
use Rattle.numbers.specs.Numbers.{◌⊗◌}
use Rattle.numbers.specs.Choice.{if◌then◌otherwise◌}
use Rattle.refusals.specs.declared.Settings.{Settings}
use Rattle.queue.specs.Waiting.{adapted}
use Rattle.queue.proofs.adaptive_threshold.Goals as goal
use Rattle.queue.proofs.adaptive_threshold.Goals.{else-size-settings-2-via-then-size-settings-2+else-threshold-settings, else-size-settings-2-via-else-size-settings-2}

-- the definition's three cases
module _ (settings : Settings) (size : ℕ) (threshold : Float) where
  raised : settings.upper_size < size → threshold ⊗ settings.raising_factor ≡ adapted settings size threshold
  unfolding adapted if◌then◌otherwise◌
  raised long = rw (lt-ltb _ _ long)

  lowered : size ≤ settings.upper_size → size < settings.lower_size → lt settings.threshold_floor threshold ≡ true → threshold ⊗ settings.lowering_factor ≡ adapted settings size threshold
  unfolding adapted if◌then◌otherwise◌
  lowered not-long short above = rw (le-ltb _ _ not-long, lt-ltb _ _ short, above)

  left : size ≤ settings.upper_size → ltb size settings.lower_size && lt settings.threshold_floor threshold ≡ false → threshold ≡ adapted settings size threshold
  unfolding adapted if◌then◌otherwise◌
  left not-long neither = rw (le-ltb _ _ not-long, neither)

pub returns-then-size-settings : goal.returns-then-size-settings
returns-then-size-settings c = (raised _ _ _ c.if-size-settings.true, refl)

pub returns-then-threshold-settings : goal.returns-then-threshold-settings
returns-then-threshold-settings c = (lowered _ _ _ c.if-size-settings.false c.if-size-settings-2.true c.if-threshold-settings.true, refl)

pub returns : goal.returns
returns c = let rest = left c.args.settings c.args.q.size c.args.q.threshold c.if-size-settings.false in
    elim c.else-size-settings-2.branch [ else-size-settings-2-via-then-size-settings-2+else-threshold-settings w ↦ (rest (rw (lt-ltb _ _ w.if-size-settings-2.true) w.if-threshold-settings.false), refl) | else-size-settings-2-via-else-size-settings-2 w ↦ (rest (rw (le-ltb _ _ w.if-size-settings-2.false)), refl) ]
