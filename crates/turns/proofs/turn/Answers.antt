-- `turns::turn` meets its contract: who is next leaves the queue (`queued_state`), and is visited. Assumes nothing.
use mathlib.Core.Path.{ap, ◌∙◌}
use Rattle.rules.specs.Rules.{visit, turn}
use Rattle.pushes.specs.States.{state_in, state_of, holding_in}
use Rattle.pushes.specs.Buffers.{nodes_in}
use Rattle.turns.proofs.Moves.{queued_state}
use Rattle.turns.proofs.turn.Goals as goal

pub returns-clause-turned : goal.returns-clause-turned
unfolding turn state_of state_in
returns-clause-turned c = let a = c.args in
    let o = c.pop-popped in let v = c.visit.ensures.visited in record {
      node = o.result.node;
      priority = o.ensures.removed.priority;
      was_next = o.ensures.removed.was_next;
      after =
          record {
            lent = v.lent;
            state = λ way st.
                v.state way st
                ∙ ap (visit way a.settings o.result.node)
                (queued_state (nodes_in a.graph) o.result.node (holding_in a.frontier.now a.tally.now) o.result.queue o.new.priorities o.new.nodes
                o.ensures.threshold_value o.ensures.removed.left.view);
            beyond = v.beyond;
          };
    }
