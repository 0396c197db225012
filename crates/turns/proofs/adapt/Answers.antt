-- `turns::adapt` meets its contract: each return is the definition's case by the tests that led there. Assumes nothing.
use Prim.Native.Nat.{ℕ, ◌%◌}
use mathlib.Core.Bool.{true, false, ◌&&◌}
use mathlib.Core.Path.{◌≡◌, refl, ◌∙◌}
use lib.Dec.{eqb}
use lib.Ieee.{Float}
use Rattle.numbers.specs.Choice.{if◌then◌otherwise◌}
use Rattle.refusals.specs.declared.Settings.{Settings}
use Rattle.refusals.proofs.Laws.{step_above_zero}
use Rattle.queue.specs.Waiting.{adapted}
use Rattle.rules.specs.Rules.{threshold_after}
use Rattle.turns.proofs.adapt.Goals as goal

-- the definition's two cases
module _ (settings : Settings) (pushes size : ℕ) (threshold : Float) where
  adapts : settings.adaptive_threshold && eqb (pushes % settings.adaptive_step) 0 ≡ true → adapted settings size threshold ≡ threshold_after settings pushes size threshold
  unfolding threshold_after if◌then◌otherwise◌
  adapts e = rw e

  stays : settings.adaptive_threshold && eqb (pushes % settings.adaptive_step) 0 ≡ false → threshold ≡ threshold_after settings pushes size threshold
  unfolding threshold_after if◌then◌otherwise◌
  stays e = rw e

pub nonzero_rem-pushes : goal.nonzero_rem-pushes
nonzero_rem-pushes c = step_above_zero _ c.requires

pub returns-then-settings-pushes : goal.returns-then-settings-pushes
returns-then-settings-pushes c = let a = c.args in
    record { threshold_is = c.adapt.ensures.0 ∙ adapts a.settings a.pushes a.q.size a.q.threshold c.if-settings-pushes.true; same_size = c.adapt.ensures.1 }

pub returns-else-settings-pushes : goal.returns-else-settings-pushes
returns-else-settings-pushes c = let a = c.args in
    record { threshold_is = stays a.settings a.pushes a.q.size a.q.threshold c.if-settings-pushes.false; same_size = refl }
