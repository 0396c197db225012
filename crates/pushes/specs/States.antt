-- Inner: no public promise cites it.
-- What the buffers of a solve stand for: the state of the rules. Assumes nothing.
use Rattle.std.specs.Prelude.{ℕ, ◌≤◌, Bool, false, List, ◌≡◌, Float}
use Rattle.numbers.specs.Slices.{SameSlice}
use Rattle.numbers.specs.Tables.{tabulate}
use Rattle.marks.specs.Marks.{marked}
use Rattle.queue.specs.Heap.{waiting}
use Rattle.queue.specs.declared.WorkQueue.{WorkQueue}
use Rattle.rules.specs.Rules.{State}
use Rattle.pushes.specs.declared.Frontier.{Frontier}
use Rattle.pushes.specs.declared.Tally.{Tally}

-- which of n nodes are marked
unfoldable pub marks_in : ℕ → List ℕ → List Bool
marks_in n words = tabulate n (marked words)

-- past n nodes, the words have the marks that they had: none of these are a node's
abbrev pub SameBeyond : ℕ → List ℕ → List ℕ → Type 0
SameBeyond n words words' = (u : ℕ) → n ≤ u → marked words' u ≡ marked words u

-- past n nodes, nothing is marked, so that the ones of the words are the marked nodes
abbrev pub NoneBeyond : ℕ → List ℕ → Type 0
NoneBeyond n words = (u : ℕ) → n ≤ u → marked words u ≡ false

-- the record of the queue, and how many pushes were made
pub record Progress : Type 0 where
  pub queue : WorkQueue
  pub pushes : ℕ

-- by its parts
abbrev pub progress : WorkQueue → ℕ → Progress
progress queue pushes = record { queue = queue; pushes = pushes }

-- the state of n nodes: the estimate, the residual, the queue's threshold and size with the number of pushes, the queue's entries, and the visited nodes
unfoldable pub state_in : ℕ → List Float → List Float → Progress → List Float → List ℕ → List ℕ → State
state_in n estimate residual p priorities nodes visited =
    record {
      estimate = estimate;
      residual = residual;
      slots = waiting p.queue.size priorities nodes;
      threshold = p.queue.threshold;
      pushes = p.pushes;
      visited = marks_in n visited;
    }

-- ---- what a run holds

-- its progress, and what is in the lent buffers
pub record Holding : Type 0 where
  pub p : Progress
  pub estimate : List Float
  pub residual : List Float
  pub priorities : List Float
  pub nodes : List ℕ
  pub queued : List ℕ
  pub visited : List ℕ

-- by its parts
abbrev pub holding : Progress → List Float → List Float → List Float → List ℕ → List ℕ → List ℕ → Holding
holding p e r ps ns qs vs = record { p = p; estimate = e; residual = r; priorities = ps; nodes = ns; queued = qs; visited = vs }

-- the state that it stands for
unfoldable pub state_of : ℕ → Holding → State
state_of n h = state_in n h.estimate h.residual h.p h.priorities h.nodes h.visited

-- ---- the part of it that the queue goes by

-- the queue, its entries, the marks of who waits, and the residual
pub record Pending : Type 0 where
  pub queue : WorkQueue
  pub residual : List Float
  pub priorities : List Float
  pub nodes : List ℕ
  pub queued : List ℕ

-- by its parts
abbrev pub pending : WorkQueue → List Float → List Float → List ℕ → List ℕ → Pending
pending q r ps ns qs = record { queue = q; residual = r; priorities = ps; nodes = ns; queued = qs }

-- of what a run holds
abbrev pub pending_of : Holding → Pending
pending_of h = pending h.p.queue h.residual h.priorities h.nodes h.queued

-- the state that it stands for, with the rest
abbrev pub state_with : ℕ → List Float → ℕ → List ℕ → Pending → State
state_with n estimate pushes visited w = state_in n estimate w.residual (progress w.queue pushes) w.priorities w.nodes visited

-- ---- what the structs of a call hold

-- the frontier
abbrev pub pending_in : Frontier → Pending
pending_in f = pending f.queue f.residual.now f.priorities.now f.nodes.now f.queued.now

-- the frontier and the tally
abbrev pub progress_in : Frontier → Tally → Progress
progress_in f t = progress f.queue t.pushes

abbrev pub holding_in : Frontier → Tally → Holding
holding_in f t = holding (progress_in f t) t.estimate.now f.residual.now f.priorities.now f.nodes.now f.queued.now t.visited.now

-- those of the frontier are
pub record SameFrontier (f f' : Frontier) : Type 0 where
  pub residual : SameSlice f.residual f'.residual
  pub priorities : SameSlice f.priorities f'.priorities
  pub nodes : SameSlice f.nodes f'.nodes
  pub queued : SameSlice f.queued f'.queued

-- those of the tally are
pub record SameTally (t t' : Tally) : Type 0 where
  pub estimate : SameSlice t.estimate t'.estimate
  pub visited : SameSlice t.visited t'.visited
