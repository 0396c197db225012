-- The work queue as the push rules have it: for each node whether it waits and at which priority; what an offer does; which node is next; how the
-- threshold adapts. `Cases.antt` computes examples.
use Rattle.std.specs.Prelude.{◌&&◌, List, [], ◌∷◌, ℕ, suc, get_or, set, ltb, Float}
use Rattle.std.specs.Float.Ieee.{lt, le}
use Rattle.numbers.specs.Numbers.{◌⊗◌}
use Rattle.numbers.specs.Choice.{if◌then◌otherwise◌}
use Rattle.refusals.specs.declared.Settings.{Settings}

-- a node's slot: it is out of the queue, or it waits at a priority. A queue is a list of slots, one for each node
pub data Slot : Type 0 where
  out : Slot
  waits : Float → Slot

-- how many nodes wait
unfoldable pub taken : List Slot → ℕ
taken [] = 0
taken (out ∷ slots) = taken slots
taken (waits p ∷ slots) = suc (taken slots)

-- ---- an offer

-- it is answered in one of three ways
pub data Answer : Type 0 where
  entered below_threshold already_in : Answer

-- to a priority that reaches the threshold, by the node's slot
abbrev pub reached : Slot → Answer
reached out = entered
reached (waits p) = already_in

-- a priority reaches the threshold where it is at least as high, which a NaN never is
unfoldable pub answer : Float → Float → Slot → Answer
answer threshold priority slot = if le threshold priority then reached slot otherwise below_threshold

-- only an offer that enters changes a slot, so the priority of a node that waits is never refreshed
abbrev pub answered : Answer → ℕ → Float → List Slot → List Slot
answered entered v priority slots = set slots v (waits priority)
answered below_threshold v priority slots = slots
answered already_in v priority slots = slots

-- the queue after the node v is offered at a priority
unfoldable pub offered : Float → ℕ → Float → List Slot → List Slot
offered threshold v priority slots = answered (answer threshold priority (get_or slots v out)) v priority slots

-- ---- which node is next

-- nobody, or a node with its priority
pub data Best : Type 0 where
  nobody : Best
  best : ℕ → Float → Best

-- the better of one and a node with a higher number: that node, where its priority is at least as high. -0 and +0 are equally high
unfoldable pub better : Best → ℕ → Float → Best
better nobody v p = best v p
better (best u q) v p = if le q p then best v p otherwise best u q

-- the better of one and all slots, of which the first is the node v's
unfoldable pub best_from : Best → ℕ → List Slot → Best
best_from b v [] = b
best_from b v (out ∷ slots) = best_from b (suc v) slots
best_from b v (waits p ∷ slots) = best_from (better b v p) (suc v) slots

-- the node of the highest priority; of equal ones, the higher node number
unfoldable pub next : List Slot → Best
next slots = best_from nobody 0 slots

-- ---- the adaptive threshold

-- The threshold after it adapts to the size of the queue. Above the upper size it is multiplied by the raising factor; below the lower size, where it is above
-- the floor, by the lowering factor
unfoldable pub adapted : Settings → ℕ → Float → Float
adapted settings size threshold =
    if ltb settings.upper_size size then threshold ⊗ settings.raising_factor
    otherwise (if ltb size settings.lower_size && lt settings.threshold_floor threshold then threshold ⊗ settings.lowering_factor otherwise threshold)
