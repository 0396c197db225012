-- The words of the statement for the stop: whether a push is still due at a node where a solve has stopped, and the settings that the statement is about.
-- Assumes nothing.
use Rattle.std.specs.Prelude.{ℕ, ◌<◌, Bool, true, false, ◌&&◌, ◌≡◌, List, Float}
use Rattle.std.specs.Float.{binary64}
use Rattle.std.specs.Float.Ieee.{fits, lt, le}
use Rattle.numbers.specs.Numbers.{+0, ◌⊗◌, ◌⊘◌}
use Rattle.refusals.specs.declared.Settings.{Settings}
use Rattle.rules.specs.Ways.{Way, effective_of}
use Rattle.rules.specs.Rules.{at}

-- a push is still due at v: its residual is at least epsilon × e, and its residual / e is at least the queue threshold. Nothing is at least a NaN, and a NaN
-- is at least nothing
unfoldable pub still_due : Way → Settings → List Float → ℕ → Bool
still_due way settings residual v =
    let e = effective_of way v in
    le (settings.epsilon ⊗ e) (at residual v) && le settings.queue_threshold (at residual v ⊘ e)

-- of n nodes, none has a push still due
abbrev pub NothingDue : Way → Settings → ℕ → List Float → Type 0
NothingDue way settings n residual = (v : ℕ) → v < n → still_due way settings residual v ≡ false

-- epsilon is above zero, and the threshold does not adapt. An f64 is always a binary64, which the floats of the logic need not be
pub record Steady (settings : Settings) : Type 0 where
  pub binary : fits binary64 settings.epsilon ≡ true
  pub above : lt +0 settings.epsilon ≡ true
  pub adapts_not : settings.adaptive_threshold ≡ false
