-- `queue::pop` meets its contract, by `leaves`. Assumes nothing.
use mathlib.Core.Path.{refl}
use native.Mathlib.Omega.{arith}
use Rattle.queue.proofs.Leave.{first_inside, leaves}
use Rattle.queue.proofs.pop.Goals as goal

pub unmark-requires : goal.unmark-requires
unmark-requires c = let a = c.args in
    omega (arith, first_inside a.q.size a.priorities.now a.nodes.now a.marks.now c.requires.heap c.requires.size_nonzero, c.requires.heap.room)

pub returns : goal.returns
returns c = let a = c.args in
    let u = c.sift_down in let m = c.unmark in record {
      threshold_value = refl;
      removed = leaves a.q.size a.priorities.now a.nodes.now a.marks.now c.requires.heap c.requires.size_nonzero u.new.priorities u.new.nodes m.new.words
          u.auto.priorities u.auto.nodes u.ensures m.ensures;
    }
