-- `Text::append_nodes` meets its contract. The invariant: the lines of the first v nodes are put. Assumes nothing.
use native.Mathlib.Nat.{zero-add}
use native.Mathlib.Numerals.{add-one}
use native.Mathlib.Omega.{arith}
use mathlib.Core.Path.{refl}
use Rattle.job_text.specs.Text.{node_lines}
use Rattle.job_text.proofs.Growing.{grown_none, grown_by}
use Rattle.job_text.proofs.NodeLines.{node_lines_more}
use Rattle.job_text.proofs.Text.append_nodes.Goals as goal

pub loop-v-init : goal.loop-v-init
unfolding node_lines
loop-v-init c = record { near = omega arith; lines = record { same = refl; grown = grown_none c.args.self.now.end c.args.self.now.bytes.now } }

pub loop-v-preserved : goal.loop-v-preserved
loop-v-preserved c = let a = c.args in
    let l = c.loop-v in let n = c.append_node.ensures in
    record {
      near = omega (arith, l.invariant.near, n.1);
      lines = rw (add-one, node_lines_more 0 l.v a.estimate.now a.residual.now c.loop-v-test.true c.requires.0, zero-add) (grown_by l.invariant.lines n.0);
    }
