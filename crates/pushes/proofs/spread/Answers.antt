-- `pushes::spread` meets its contract. Invariant: `Spreading`. Assumes nothing.
use Prim.Native.Nat.{◌+◌, ◌<◌, ◌≤◌}
use mathlib.Core.Path.{sym, ap, ◌∙◌}
use lib.ListN.{length, drop, drop_of_length-le}
use Rattle.graph.specs.Rows.{entries_of}
use Rattle.rules.specs.Rules.{each, pass}
use Rattle.pushes.proofs.Slices.{frontier_then}
use Rattle.pushes.proofs.Spreading.{one_passes}
use Rattle.pushes.proofs.spread.Goals as goal

pub loop-i-preserved : goal.loop-i-preserved
loop-i-preserved c = let a = c.args in
    let l = c.loop-i in let o = c.pass_on in let h : l.i < length a.columns.now = c.loop-i-test.true in
    let b = c.requires.inside l.i h in
    record {
      lent = o.ensures.moved.lent;
      same_frontier = frontier_then l.invariant.same_frontier o.ensures.same_frontier;
      left = λ way w e k m.
          ap (each (pass way a.rest a.degree) (entries_of (drop (l.i + 1) a.columns.now) (drop (l.i + 1) a.weights.now)))
          (o.ensures.moved.state way (w.weighs _ b) e k m ∙ rw c.share-x.ensures)
          ∙ sym (one_passes a.graph.backward a.rest a.degree a.columns.now a.weights.now a.graph.degrees.now a.graph.out_degrees.now way w c.requires.paired l.i h b _)
          ∙ l.invariant.left way w e k m;
    }

pub returns-clause-moved : goal.returns-clause-moved
unfolding each entries_of
returns-clause-moved c = let l = c.loop-i in let h : length c.args.columns.now ≤ l.i = c.loop-i-test.false in
    record { lent = l.invariant.lent; state = λ way w e k m. rw (drop_of_length-le c.args.columns.now h) at (l.invariant.left way w e k m) }
