-- `pushes::push_node` meets its contract: nothing moves (`push_none`), or the estimate takes its part and the rest is handed out (`push_some`).
-- Assumes nothing.
use mathlib.Core.Path.{ap, ◌∙◌}
use lib.ListN.{length}
use Rattle.rules.specs.Rules.{hand_out}
use Rattle.pushes.specs.States.{progress, state_in}
use Rattle.pushes.proofs.Moves.{absorb_state}
use Rattle.pushes.proofs.Tested.{push_none, push_some}
use Rattle.pushes.proofs.push_node.Goals as goal

pub returns-then-mass-clause-pushed : goal.returns-then-mass-clause-pushed
unfolding state_in
returns-then-mass-clause-pushed c = record { lent = c.requires.1.lent; state = λ way st k m. push_none way c.args.alpha c.args.v _ c.if-mass.true }

pub returns-clause-pushed : goal.returns-clause-pushed
unfolding state_in
returns-clause-pushed c = let a = c.args in
    let f = a.frontier.now in
    let b = c.absorb in let o = c.hand_out.ensures.moved in record {
      lent = o.lent;
      state = λ way st k m.
          o.state way st b.new.estimate k m
          ∙ ap (hand_out way _ a.v)
          (absorb_state a.alpha (length a.graph.degrees.now) a.v a.estimate.now f.residual.now b.new.estimate b.new.residual b.ensures (progress f.queue k)
          f.priorities.now f.nodes.now m)
          ∙ push_some way a.alpha a.v _ c.if-mass.false;
    }
