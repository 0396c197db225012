-- Inner: no public promise cites it.
-- What the functions ensure: the state after is a rule's of the state before, for every way that is meant. What a function does not touch is quantified.
-- Assumes nothing.
use Rattle.std.specs.Prelude.{ℕ, ◌≡◌, Float}
use Rattle.refusals.specs.declared.Settings.{Settings}
use Rattle.queue.specs.Waiting.{best, next}
use Rattle.queue.specs.declared.WorkQueue.{WorkQueue}
use Rattle.rules.specs.Ways.{Way}
use Rattle.rules.specs.Rules.{State, threshold_after, turn}
use Rattle.pushes.specs.States.{Holding, pending_of, state_of, SameBeyond}
use Rattle.pushes.specs.Buffers.{Lent}

-- the whole state
pub record Visited (meant : Way → Type 0) (f : Way → State → State) (n : ℕ) (h h' : Holding) : Type 0 where
  pub lent : Lent n (pending_of h')
  pub state : (way : Way) → meant way → state_of n h' ≡ f way (state_of n h)
  pub beyond : SameBeyond n h.visited h'.visited

-- the threshold is the one after so many pushes
pub record Adapted (settings : Settings) (pushes : ℕ) (q q' : WorkQueue) : Type 0 where
  pub threshold_is : q'.threshold ≡ threshold_after settings pushes q.size q.threshold
  pub same_size : q'.size ≡ q.size

-- the node that was next left the queue and was visited
pub record Turned (meant : Way → Type 0) (settings : Settings) (n : ℕ) (h h' : Holding) : Type 0 where
  pub node : ℕ
  pub priority : Float
  pub was_next : next (state_of n h).slots ≡ best node priority
  pub after : Visited meant (λ way. turn way settings node) n h h'
