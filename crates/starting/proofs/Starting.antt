-- The start of a solve, as the buffers show it: cleared buffers are blank, and only where the watched node is in range do the sources gain.
-- Assumes nothing.
use Prim.Native.Nat.{ℕ}
use mathlib.Core.Bool.{true, false}
use mathlib.Core.List.{List}
use mathlib.Core.Path.{◌≡◌, ◌∙◌}
use lib.ListN.{length, replicate}
use lib.IntN.{pos}
use lib.Ieee.{Float, binary64, of_int}
use Rattle.numbers.specs.Numbers.{+0, one, ◌⊘◌}
use Rattle.numbers.specs.Choice.{if◌then◌otherwise◌}
use Rattle.numbers.proofs.Tables.{tabulate_ext, tabulate_constant}
use Rattle.refusals.specs.declared.Settings.{Settings}
use Rattle.marks.proofs.Marking.{none_marked}
use Rattle.queue.specs.Waiting.{out}
use Rattle.queue.specs.Heap.{waiting}
use Rattle.queue.specs.declared.WorkQueue.{WorkQueue}
use Rattle.rules.specs.Ways.{Way}
use Rattle.rules.specs.Rules.{Watch, each, blank, gain, offer, inside, watchable, begun, start}
use Rattle.pushes.specs.States.{marks_in, progress, state_in}

-- no node is marked
marks_none : (n words : ℕ) → marks_in n (replicate words 0) ≡ replicate n false
unfolding marks_in
marks_none n words = tabulate_ext n _ (λ _. false) (λ v h. none_marked words v) ∙ tabulate_constant n false

-- cleared buffers are blank
pub blank_state : (n : ℕ) (estimate residual : List Float) (q : WorkQueue) (ps : List Float) (ns : List ℕ) (words : ℕ) (threshold : Float)
    → estimate ≡ replicate n +0 → residual ≡ replicate n +0 → q.threshold ≡ threshold → waiting q.size ps ns ≡ replicate n out
    → state_in n estimate residual (progress q 0) ps ns (replicate words 0) ≡ blank n threshold
unfolding state_in blank
blank_state n estimate residual q ps ns words threshold e r t w = rw (e, r, t, w, marks_none n words)

module _ (way : Way) (settings : Settings) (watch : Watch) (n : ℕ) (sources : List ℕ) where
  -- the sources gain, and are offered
  pub start_some : watchable n watch ≡ true
      → each (offer way) (inside n sources) (each (gain (one ⊘ of_int binary64 (pos (length sources)))) (inside n sources) (blank n settings.queue_threshold))
      ≡ start way settings watch n sources
  unfolding start begun if◌then◌otherwise◌
  start_some t = rw t

  -- nothing happens
  pub start_none : watchable n watch ≡ false → blank n settings.queue_threshold ≡ start way settings watch n sources
  unfolding start begun each if◌then◌otherwise◌
  start_none t = rw t
