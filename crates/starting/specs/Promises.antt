-- Inner: no public promise cites it.
-- What the functions ensure: the state after is a rule's, for every way that is meant. What a function does not touch is quantified.
-- Assumes nothing.
use Rattle.std.specs.Prelude.{ℕ, List, ◌≡◌, length, Float}
use Rattle.rules.specs.Ways.{Way}
use Rattle.rules.specs.Rules.{State}
use Rattle.pushes.specs.States.{Progress, state_in, Holding, pending_of, state_of, NoneBeyond}
use Rattle.pushes.specs.Buffers.{Lent}

-- the residual alone
pub record Gained (f : State → State) (residual residual' : List Float) : Type 0 where
  pub same_length : length residual' ≡ length residual
  pub state : (n : ℕ) (estimate : List Float) (p : Progress) (priorities : List Float) (nodes visited : List ℕ)
      → state_in n estimate residual' p priorities nodes visited ≡ f (state_in n estimate residual p priorities nodes visited)

-- the whole state, by the way and by nothing that the buffers held before
pub record LeavesState (meant : Way → Type 0) (f : Way → State) (n : ℕ) (h : Holding) : Type 0 where
  pub lent : Lent n (pending_of h)
  pub state : (way : Way) → meant way → state_of n h ≡ f way
  pub beyond : NoneBeyond n h.visited
