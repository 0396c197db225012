-- The state that the buffers stand for, after a node left the queue and after a push was counted. Assumes nothing.
use Prim.Native.Nat.{ℕ, ◌+◌, ◌<◌}
use native.Mathlib.Numerals.{add-one}
use native.Mathlib.Omega.{arith}
use mathlib.Core.Bool.{true, false}
use mathlib.Core.List.{List}
use mathlib.Core.Path.{◌≡◌, ap, ◌∙◌}
use lib.ListN.{set}
use lib.Ieee.{Float}
use Rattle.numbers.specs.Tables.{tabulate}
use Rattle.numbers.proofs.Tables.{tabulate-set}
use Rattle.refusals.specs.declared.Settings.{Settings}
use Rattle.marks.specs.Marks.{marked, WithMark}
use Rattle.queue.specs.Waiting.{out}
use Rattle.queue.specs.Heap.{waiting, Heap}
use Rattle.queue.specs.declared.WorkQueue.{WorkQueue}
use Rattle.rules.specs.Rules.{queued, counted}
use Rattle.pushes.specs.States.{marks_in, SameBeyond, progress, state_in, Holding, holding, state_of}
use Rattle.turns.specs.Promises.{Adapted}

-- one node more is marked
marks_set : (n v : ℕ) (words words' : List ℕ) → WithMark true words words' v → v < n → marks_in n words' ≡ set (marks_in n words) v true
unfolding marks_in
marks_set n v words words' w h = tabulate-set n (marked words) (marked words') v false h w.elsewhere ∙ ap (set (tabulate n (marked words)) v) w.here

-- and none past the nodes
pub marks_beyond : (n v : ℕ) (words words' : List ℕ) → WithMark true words words' v → v < n → SameBeyond n words words'
marks_beyond n v words words' w h u l = w.elsewhere u (λ e. omega arith)

-- a push of v was counted
pub counted_state : (settings : Settings) (n v : ℕ) (h : Holding) (q : WorkQueue) (vs : List ℕ) → Heap h.p.queue.size h.priorities h.nodes h.queued
    → Adapted settings (h.p.pushes + 1) h.p.queue q → WithMark true h.visited vs v → v < n
    → state_of n (holding (progress q (h.p.pushes + 1)) h.estimate h.residual h.priorities h.nodes h.queued vs) ≡ counted settings v (state_of n h)
unfolding state_of state_in counted
counted_state settings n v h q vs y a m l = rw (marks_set n v h.visited vs m l, a.same_size, a.threshold_is, add-one, y.count)

-- v left the queue
pub queued_state : (n v : ℕ) (h : Holding) (q : WorkQueue) (ps : List Float) (ns : List ℕ) → q.threshold ≡ h.p.queue.threshold
    → waiting q.size ps ns ≡ set (state_of n h).slots v out
    → state_of n (holding (progress q h.p.pushes) h.estimate h.residual ps ns h.queued h.visited) ≡ queued (set (state_of n h).slots v out) (state_of n h)
unfolding state_of state_in queued
queued_state n v h q ps ns t w = rw (t, w)
