-- `queue::push_if_threshold` meets its contract: nothing enters (`stays_below`, `stays_held`), or the node does (`enters`). Assumes nothing.
use mathlib.Core.Path.{refl, sym, ◌∙◌}
use Prim.Native.Nat.{◌<◌}
use native.Mathlib.Omega.{arith}
use lib.ListN.{length}
use Rattle.queue.proofs.Enter.{has_room, stays_below, stays_held, enters}
use Rattle.queue.proofs.push_if_threshold.Goals.{Else-is_marked}
use Rattle.queue.proofs.push_if_threshold.Goals as goal

-- the node has no mark, so there is a place left
room : (c : Else-is_marked) → c.args.q.size < length c.args.priorities.now
room c =
    let a = c.args in
    has_room a.q.size a.priorities.now a.nodes.now a.marks.now c.requires.heap a.v c.requires.v_in_bounds (sym c.is_marked.ensures ∙ c.if-is_marked.false)

pub returns-then-is_marked : goal.returns-then-is_marked
returns-then-is_marked c = let a = c.args in record {
  threshold_value = refl;
  holds = stays_held a.q.size a.priorities.now a.nodes.now a.marks.now c.requires.heap a.v c.requires.v_in_bounds a.q.threshold a.priority
      (sym c.is_marked.ensures ∙ c.if-is_marked.true);
}

pub sift_up-requires : goal.sift_up-requires
sift_up-requires c = omega (arith, room (goal.at.sift_up-requires c).Else-is_marked, c.requires.heap.paired)

pub returns-then-priority-threshold : goal.returns-then-priority-threshold
returns-then-priority-threshold c = let a = c.args in
    let u = c.sift_up in let m = c.mark in record {
      threshold_value = refl;
      holds = enters a.q.size a.priorities.now a.nodes.now a.marks.now c.requires.heap a.v c.requires.v_in_bounds a.q.threshold a.priority
          c.if-priority-threshold.true (sym c.is_marked.ensures ∙ c.if-is_marked.false) u.new.priorities u.new.nodes m.new.words u.auto.priorities u.auto.nodes
          u.ensures m.ensures;
    }

pub returns : goal.returns
returns c = let a = c.args in
    record { threshold_value = refl; holds = stays_below a.q.size a.priorities.now a.nodes.now a.marks.now c.requires.heap a.v c.requires.v_in_bounds a.q.threshold a.priority c.if-priority-threshold.false }
