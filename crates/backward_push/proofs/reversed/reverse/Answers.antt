-- `backward_push::reversed::reverse` meets its contract: each part by what `graph` ensures. Assumes nothing.
use Rattle.graph.proofs.Given.{summing_of}
use Rattle.graph.proofs.Back.{held_rowed}
use Rattle.backward_push.proofs.reversed.reverse.Goals as goal

pub sum_rows-requires : goal.sum_rows-requires
sum_rows-requires c = let p = c.requires in rw p.2 (summing_of p.0.rowed)

pub reverse_rows-requires : goal.reverse_rows-requires
reverse_rows-requires c = c.requires.0

pub sum_rows-requires-2 : goal.sum_rows-requires-2
sum_rows-requires-2 c = rw c.requires.1 (summing_of (held_rowed c.reverse_rows.ensures.held))

pub returns-clause-reversed : goal.returns-clause-reversed
returns-clause-reversed c = let p = c.requires in
    record {
      reversed = c.reverse_rows.ensures.held;
      in_degrees_are = rw p.1 at c.sum_rows-2.ensures;
      out_degrees_are = rw p.2 at c.sum_rows.ensures;
    }
