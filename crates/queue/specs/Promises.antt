-- Inner: no public promise cites it.
-- What the public functions ensure of the buffers: which queue they hold. Of the places of its entries `Heap` says that no entry goes before its
-- parent, and nothing more: any other such arrangement of the same entries is as good.
use Rattle.std.specs.Prelude.{◌≡◌, Bool, List, ℕ, ◌<◌, length, get_or, set, replicate, Float}
use Rattle.numbers.specs.Numbers.{+0}
use Rattle.queue.specs.Waiting.{Slot, out, best, next}
use Rattle.queue.specs.Heap.{Heap, waiting, is_waiting}

-- the buffers hold the queue `slots`, and are as long as those before: `room` places and `words` words of marks
pub record Holds (slots : List Slot) (room words : ℕ) (size : ℕ) (priorities : List Float) (nodes marks : List ℕ) : Type 0 where
  pub heap : Heap size priorities nodes marks
  pub same_room : length priorities ≡ room
  pub same_words : length marks ≡ words
  pub view : waiting size priorities nodes ≡ slots

-- a node was taken out of the queue `slots`: the one that was next, at its priority
pub record Removed (node : ℕ) (slots : List Slot) (room words : ℕ) (size : ℕ) (priorities : List Float) (nodes marks : List ℕ) : Type 0 where
  pub priority : Float
  pub was_next : next slots ≡ best node priority
  pub inside : node < room
  pub left : Holds (set slots node out) room words size priorities nodes marks

-- r says whether v waits, in every queue that has these marks
abbrev pub SaysWaits : List ℕ → ℕ → Bool → Type 0
SaysWaits marks v r =
    (size : ℕ) (priorities : List Float) (nodes : List ℕ) → Heap size priorities nodes marks → v < length priorities → r ≡ is_waiting (get_or (waiting size priorities nodes) v out)

-- the buffers are all zero, and as long as those before
pub record QueueCleared (room places words : ℕ) (priorities : List Float) (nodes marks : List ℕ) : Type 0 where
  pub priorities_zero : priorities ≡ replicate room +0
  pub nodes_zero : nodes ≡ replicate places 0
  pub marks_zero : marks ≡ replicate words 0
