-- `starting::gain_all` meets its contract. Invariant: `Gaining`. Assumes nothing.
use Prim.Native.Nat.{◌+◌, ◌<◌, ◌≤◌}
use mathlib.Core.Path.{sym, ap, ◌∙◌}
use lib.ListN.{length, drop, drop_of_length-le}
use Rattle.rules.specs.Rules.{each, inside, gain}
use Rattle.starting.proofs.Sources.{one_more}
use Rattle.starting.proofs.gain_all.Goals as goal

pub loop-v-preserved : goal.loop-v-preserved
loop-v-preserved c = let a = c.args in
    let l = c.loop-v in let g = c.gain_one in let h : l.v-index < length a.sources.now = c.loop-v-test.true in
    let k = length a.residual.now in
    record {
      same_length = g.ensures.same_length ∙ l.invariant.same_length;
      left = λ n e p ps ns vs.
          ap (each (gain a.x) (inside k (drop (l.v-index + 1) a.sources.now))) (rw l.invariant.same_length at (g.ensures.state n e p ps ns vs))
          ∙ sym (one_more (gain a.x) k a.sources.now l.v-index h _) ∙ l.invariant.left n e p ps ns vs;
    }

pub returns : goal.returns
unfolding each inside
returns c = let l = c.loop-v in let h : length c.args.sources.now ≤ l.v-index = c.loop-v-test.false in
    record { same_length = l.invariant.same_length; state = λ n e p ps ns vs. rw (drop_of_length-le c.args.sources.now h) at (l.invariant.left n e p ps ns vs) }
