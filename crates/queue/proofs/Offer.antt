-- What an offer leaves, by its answer. Assumes nothing.
use mathlib.Core.Path.{◌≡◌}
use mathlib.Core.Bool.{true, false}
use mathlib.Core.List.{List}
use Prim.Native.Nat.{ℕ}
use lib.ListN.{get_or, set}
use lib.Ieee.{Float, le}
use Rattle.numbers.specs.Choice.{if◌then◌otherwise◌}
use Rattle.queue.specs.Waiting.{Slot, out, waits, answer, offered}

module _ (threshold : Float) (v : ℕ) (priority : Float) (slots : List Slot) where
  pub offered_below : le threshold priority ≡ false → offered threshold v priority slots ≡ slots
  unfolding offered answer if◌then◌otherwise◌
  offered_below e = simp e

  pub offered_held : (q : Float) → le threshold priority ≡ true → get_or slots v out ≡ waits q → offered threshold v priority slots ≡ slots
  unfolding offered answer if◌then◌otherwise◌
  offered_held q e s = simp (e, s)

  pub offered_free : le threshold priority ≡ true → get_or slots v out ≡ out → offered threshold v priority slots ≡ set slots v (waits priority)
  unfolding offered answer if◌then◌otherwise◌
  offered_free e s = simp (e, s)
