-- The rules that go by a test, by the way that it goes. Assumes nothing.
use Prim.Native.Nat.{ℕ}
use mathlib.Core.Bool.{true, false}
use mathlib.Core.List.{List}
use mathlib.Core.Path.{◌≡◌}
use lib.Ieee.{Float, lt, le}
use Rattle.numbers.specs.Numbers.{+0, one, ◌⊖◌, ◌⊗◌}
use Rattle.numbers.specs.Choice.{if◌then◌otherwise◌}
use Rattle.graph.specs.Rows.{Entry}
use Rattle.rules.specs.Ways.{Way, degree_of}
use Rattle.rules.specs.Rules.{State, at, each, gain, absorb, offer, pass, hand_out, push}

module _ (way : Way) (v : ℕ) (rest degree : Float) (s : State) (d : degree ≡ degree_of way v) where
  -- the rest goes through the row
  pub hand_through : (row : List Entry) → way.row v ≡ row → lt +0 degree ≡ true → each (pass way rest degree) row s ≡ hand_out way rest v s
  unfolding hand_out if◌then◌otherwise◌
  hand_through row e t = rw (← d, e, t)

  -- the rest goes back
  pub hand_back : lt +0 degree ≡ false → offer way v (gain rest v s) ≡ hand_out way rest v s
  unfolding hand_out if◌then◌otherwise◌
  hand_back t = rw (← d, t)

module _ (way : Way) (alpha : Float) (v : ℕ) (s : State) where
  -- nothing moves
  pub push_none : le (at s.residual v) +0 ≡ true → s ≡ push way alpha v s
  unfolding push if◌then◌otherwise◌
  push_none t = rw t

  -- the rest is handed out
  pub push_some : le (at s.residual v) +0 ≡ false → hand_out way ((one ⊖ alpha) ⊗ at s.residual v) v (absorb alpha v s) ≡ push way alpha v s
  unfolding push if◌then◌otherwise◌
  push_some t = rw t
