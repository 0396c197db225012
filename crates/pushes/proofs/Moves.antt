-- The state that the buffers stand for, after an offer and after an estimate took its part. Assumes nothing.
use Prim.Native.Nat.{ℕ}
use mathlib.Core.List.{List}
use mathlib.Core.Path.{◌≡◌}
use lib.Ieee.{Float}
use Rattle.numbers.specs.Numbers.{◌⊘◌}
use Rattle.queue.specs.Waiting.{offered}
use Rattle.queue.specs.Heap.{waiting}
use Rattle.queue.specs.declared.WorkQueue.{WorkQueue}
use Rattle.rules.specs.Ways.{Way, effective, degree_of}
use Rattle.rules.specs.Rules.{at, queued, absorb, offer}
use Rattle.pushes.specs.States.{Progress, progress, state_in}
use Rattle.pushes.specs.Promises.{Absorbed}

-- v was offered
pub offer_state : (way : Way) (n v : ℕ) (degree : Float) (residual : List Float) (q q' : WorkQueue) (ps : List Float) (ns : List ℕ) (ps' : List Float)
    (ns' : List ℕ) → degree ≡ degree_of way v → q'.threshold ≡ q.threshold
    → waiting q'.size ps' ns' ≡ offered q.threshold v (at residual v ⊘ effective degree) (waiting q.size ps ns)
    → (estimate : List Float) (pushes : ℕ) (visited : List ℕ)
    → state_in n estimate residual (progress q' pushes) ps' ns' visited ≡ offer way v (state_in n estimate residual (progress q pushes) ps ns visited)
unfolding state_in offer queued
offer_state way n v degree residual q q' ps ns ps' ns' d t w estimate pushes visited = rw (← d, t, w)

-- the estimate of v took its part
pub absorb_state : (alpha : Float) (n v : ℕ) (estimate residual estimate' residual' : List Float) → Absorbed alpha v estimate residual estimate' residual'
    → (p : Progress) (ps : List Float) (ns visited : List ℕ)
    → state_in n estimate' residual' p ps ns visited ≡ absorb alpha v (state_in n estimate residual p ps ns visited)
unfolding state_in absorb
absorb_state alpha n v estimate residual estimate' residual' a p ps ns visited = rw (a.estimate_is, a.residual_is)
