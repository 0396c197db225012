-- Inner: no public promise cites it.
-- What the functions ensure: the state after is a rule's of the state before, for every way that is meant. What a function does not touch is quantified.
-- Assumes nothing.
use Rattle.std.specs.Prelude.{ℕ, Bool, ◌&&◌, List, ◌≡◌, ltb, Float}
use Rattle.refusals.specs.declared.Settings.{Settings}
use Rattle.queue.specs.Waiting.{nobody}
use Rattle.rules.specs.Ways.{Way}
use Rattle.rules.specs.Rules.{Watch, goes_on, due, run}
use Rattle.pushes.specs.States.{Progress, state_in, Holding, pending_of, state_of, SameBeyond}
use Rattle.pushes.specs.Buffers.{Lent}

-- r is the test of the loop: the rules' own, and somebody waits
abbrev pub Continues : Settings → Watch → Progress → List Float → List Float → Bool → Type 0
Continues settings watch p estimate residual r =
    (n : ℕ) (priorities : List Float) (nodes visited : List ℕ) → r ≡ goes_on settings watch (state_in n estimate residual p priorities nodes visited) && ltb 0 p.queue.size

-- turns were taken until it was nobody's: whatever number of turns is enough, the state is the one after so many
pub record Ran (meant : Way → Type 0) (settings : Settings) (watch : Watch) (n : ℕ) (h h' : Holding) : Type 0 where
  pub lent : Lent n (pending_of h')
  pub state : (way : Way) → meant way → (turns : ℕ) → due settings watch (run way settings watch turns (state_of n h)) ≡ nobody → state_of n h' ≡ run way settings watch turns (state_of n h)
  pub beyond : SameBeyond n h.visited h'.visited
