-- A visit by the test that it goes by: v is skipped, or pushed and counted. Assumes nothing.
use Prim.Native.Nat.{ℕ}
use mathlib.Core.Bool.{true, false}
use mathlib.Core.Path.{◌≡◌}
use lib.Ieee.{Float, lt}
use Rattle.numbers.specs.Numbers.{◌⊗◌}
use Rattle.numbers.specs.Choice.{if◌then◌otherwise◌}
use Rattle.refusals.specs.declared.Settings.{Settings}
use Rattle.rules.specs.Ways.{Way, effective, degree_of}
use Rattle.rules.specs.Rules.{State, at, counted, push, skips, visit}

module _ (way : Way) (settings : Settings) (v : ℕ) (degree e : Float) (s : State) (d : degree ≡ degree_of way v) (f : e ≡ effective degree) where
  -- v is skipped
  pub visit_skips : lt (at s.residual v) (settings.epsilon ⊗ e) ≡ true → s ≡ visit way settings v s
  unfolding visit skips if◌then◌otherwise◌
  visit_skips t = rw (← d, ← f, t)

  -- v is pushed
  pub visit_counts : lt (at s.residual v) (settings.epsilon ⊗ e) ≡ false → counted settings v (push way settings.alpha v s) ≡ visit way settings v s
  unfolding visit skips if◌then◌otherwise◌
  visit_counts t = rw (← d, ← f, t)
