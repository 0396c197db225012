-- `pushes::offer_node` meets its contract, by `offer_state`: a node that waits is left as it is whatever it is offered at (`offered_waiting`). Assumes nothing.
use mathlib.Core.Path.{refl, sym, ◌∙◌}
use Rattle.rules.proofs.Slots.{offered_waiting}
use Rattle.pushes.proofs.Moves.{offer_state}
use Rattle.pushes.proofs.offer_node.Goals as goal

pub returns-then-waits : goal.returns-then-waits
returns-then-waits c = let a = c.args in
    let l = c.requires.lent in
    let h = sym (c.waits.ensures a.q.size a.priorities.now a.nodes.now l.heap (rw l.wide c.requires.below)) ∙ c.if-waits.true in
    record {
      lent = l;
      state = λ way d.
          offer_state way _ a.v _ a.residual.now a.q a.q a.priorities.now a.nodes.now _ _ d refl (sym (offered_waiting a.q.threshold a.v _ _ h));
    }

pub returns : goal.returns
returns c = let a = c.args in
    let o = c.offer in record {
      lent = record { heap = o.ensures.holds.heap; wide = o.ensures.holds.same_room ∙ c.requires.lent.wide; residual_long = c.requires.lent.residual_long };
      state = λ way d. offer_state way _ a.v _ a.residual.now a.q o.result a.priorities.now a.nodes.now o.new.priorities o.new.nodes
          d o.ensures.threshold_value (rw c.effective.ensures at o.ensures.holds.view);
    }
