-- `turns::visit` meets its contract: v is skipped (`visit_skips`), or pushed and counted (`visit_counts`). Assumes nothing.
use mathlib.Core.Path.{refl, ap, ◌∙◌}
use Rattle.rules.specs.Rules.{counted}
use Rattle.pushes.specs.States.{progress, state_in, holding, state_of}
use Rattle.pushes.specs.Buffers.{nodes_in}
use Rattle.turns.proofs.Moves.{marks_beyond, counted_state}
use Rattle.pushes.proofs.Standing.{weighs}
use Rattle.turns.proofs.Visits.{visit_skips, visit_counts}
use Rattle.turns.proofs.visit.Goals as goal

pub returns-then-frontier-at-clause-visited : goal.returns-then-frontier-at-clause-visited
unfolding state_of state_in
returns-then-frontier-at-clause-visited c = let a = c.args in
    record {
      lent = c.requires.0.lent;
      state = λ way st.
          let w = weighs c.requires.0.rows way st a.v c.requires.1 in
          visit_skips way a.settings a.v _ _ _ w c.effective.ensures c.if-frontier-at.true;
      beyond = λ u l. refl;
    }

pub returns-clause-visited : goal.returns-clause-visited
unfolding state_of state_in
returns-clause-visited c = let a = c.args in
    let r = a.tally.now in let o = c.push_node.ensures.pushed in let m = c.mark in record {
      lent = let l = o.lent in record { heap = rw c.adapt-frontier.ensures.same_size l.heap; wide = l.wide; residual_long = l.residual_long };
      state = λ way st.
          let w = weighs c.requires.0.rows way st a.v c.requires.1 in
          counted_state a.settings (nodes_in a.graph) a.v (holding (progress c.push_node.new.frontier.queue r.pushes) _ _ _ _ _ r.visited.now) _ m.new.words o.lent.heap
          c.adapt-frontier.ensures m.ensures c.requires.1
          ∙ ap (counted a.settings a.v) (o.state way st r.pushes r.visited.now)
          ∙ visit_counts way a.settings a.v _ _ _ w c.effective.ensures c.if-frontier-at.false;
      beyond = marks_beyond (nodes_in a.graph) a.v r.visited.now m.new.words m.ensures c.requires.1;
    }
