-- Inner: no public promise cites it.
-- What the functions ensure: the state after is a rule's of the state before, for every way that is meant. What a function does not touch is quantified.
-- Assumes nothing.
use Rattle.std.specs.Prelude.{ℕ, List, ◌≡◌, Float}
use Rattle.rules.specs.Ways.{Way}
use Rattle.rules.specs.Rules.{State, absorbed, cleared}
use Rattle.pushes.specs.States.{Pending, state_with}
use Rattle.pushes.specs.Buffers.{Lent}

-- the residual and the queue
pub record Moved (meant : Way → Type 0) (f : Way → State → State) (n : ℕ) (w w' : Pending) : Type 0 where
  pub lent : Lent n w'
  pub state : (way : Way) → meant way → (estimate : List Float) (pushes : ℕ) (visited : List ℕ)
      → state_with n estimate pushes visited w' ≡ f way (state_with n estimate pushes visited w)

-- the estimate, the residual and the queue
pub record Pushed (meant : Way → Type 0) (f : Way → State → State) (n : ℕ) (estimate : List Float) (w : Pending) (estimate' : List Float) (w' : Pending) : Type 0 where
  pub lent : Lent n w'
  pub state : (way : Way) → meant way → (pushes : ℕ) (visited : List ℕ) → state_with n estimate' pushes visited w' ≡ f way (state_with n estimate pushes visited w)

-- the estimate of v took its part of the residual, which is cleared
pub record Absorbed (alpha : Float) (v : ℕ) (estimate residual estimate' residual' : List Float) : Type 0 where
  pub estimate_is : estimate' ≡ absorbed alpha v estimate residual
  pub residual_is : residual' ≡ cleared v residual
