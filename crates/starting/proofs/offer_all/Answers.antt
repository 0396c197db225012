-- `starting::offer_all` meets its contract. Invariant: `Offering`. Assumes nothing.
use Prim.Native.Nat.{◌+◌, ◌<◌, ◌≤◌}
use mathlib.Core.Path.{sym, ap, ◌∙◌}
use lib.ListN.{length, drop, drop_of_length-le}
use Rattle.rules.specs.Rules.{each, inside, offer}
use Rattle.pushes.proofs.Slices.{frontier_then}
use Rattle.starting.proofs.Sources.{one_more}
use Rattle.starting.proofs.offer_all.Goals as goal

pub loop-v-preserved : goal.loop-v-preserved
loop-v-preserved c = let a = c.args in
    let l = c.loop-v in let o = c.offer_one.ensures in let h : l.v-index < length a.sources.now = c.loop-v-test.true in
    let n = length a.degrees.now in
    record {
      lent = o.moved.lent;
      same_frontier = frontier_then l.invariant.same_frontier o.same_frontier;
      left = λ way w e k m.
          ap (each (offer way) (inside n (drop (l.v-index + 1) a.sources.now))) (o.moved.state way w e k m)
          ∙ sym (one_more (offer way) n a.sources.now l.v-index h _) ∙ l.invariant.left way w e k m;
    }

pub returns-clause-moved : goal.returns-clause-moved
unfolding each inside
returns-clause-moved c = let l = c.loop-v in let h : length c.args.sources.now ≤ l.v-index = c.loop-v-test.false in
    record { lent = l.invariant.lent; state = λ way w e k m. rw (drop_of_length-le c.args.sources.now h) at (l.invariant.left way w e k m) }
