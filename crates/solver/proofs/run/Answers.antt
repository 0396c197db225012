-- `solver::run` meets its contract. Invariant: `Running`. The measure is that of the rules. Assumes nothing.
use mathlib.Core.Path.{sym, ◌∙◌}
use Rattle.rules.proofs.Ends.{end_run}
use Rattle.watching.specs.Watching.{watch_in}
use Rattle.pushes.specs.States.{state_in, state_of, holding_in}
use Rattle.pushes.specs.Buffers.{nodes_in, lists_in}
use Rattle.pushes.proofs.Slices.{frontier_then, tally_then}
use Rattle.pushes.proofs.Standing.{way_in, stands}
use Rattle.solver.proofs.Running.{going, goes, halts}
use Rattle.solver.proofs.run.Goals as goal

pub turn-requires : goal.turn-requires
unfolding state_of state_in
turn-requires c = let a = c.args in
    let f = c.loop-settings.frontier in let y = c.loop-settings.tally in let g = going a.settings (watch_in a.watch) _ f.queue.size
    (sym (c.goes_on.ensures (nodes_in a.graph) f.priorities.now f.nodes.now y.visited.now) ∙ c.loop-settings-test.true) in
    (c.loop-settings.invariant.ready, g.1, g.0, c.requires.1)

pub loop-settings-smaller : goal.loop-settings-smaller
unfolding state_of state_in
loop-settings-smaller c = let a = c.args in
    let f = c.loop-settings.frontier in let y = c.loop-settings.tally in let t = c.turn.ensures.turned in let n = nodes_in a.graph in
    let l = lists_in a.graph in
    let way = way_in a.graph.backward l in
    let st = stands n a.graph.backward l in
    (goes a.settings (watch_in a.watch) (state_of n (holding_in f y)) f.queue.size
    (sym (c.goes_on.ensures n f.priorities.now f.nodes.now y.visited.now) ∙ c.loop-settings-test.true) way t.node t.priority t.was_next _
    (t.after.state way st)).1

pub loop-settings-preserved : goal.loop-settings-preserved
unfolding state_of state_in
loop-settings-preserved c = let a = c.args in
    let f = c.loop-settings.frontier in let y = c.loop-settings.tally in let i = c.loop-settings.invariant in let t = c.turn.ensures.turned in let b = c.turn.ensures.same_tally in
    let n = nodes_in a.graph in
    record {
      ready =
          record {
            rows = i.ready.rows;
            lent = t.after.lent;
            estimate_long = b.estimate.1 ∙ i.ready.estimate_long;
            visited_room = rw b.visited.1 i.ready.visited_room;
          };
      same_frontier = frontier_then i.same_frontier c.turn.ensures.same_frontier;
      same_tally = tally_then i.same_tally b;
      beyond = λ u h. t.after.beyond u h ∙ i.beyond u h;
      left = λ way st.
          (goes a.settings (watch_in a.watch) (state_of n (holding_in f y)) f.queue.size
          (sym (c.goes_on.ensures n f.priorities.now f.nodes.now y.visited.now) ∙ c.loop-settings-test.true) way t.node t.priority t.was_next _
          (t.after.state way st)).0
          ∙ i.left way st;
    }

pub returns-clause-ran : goal.returns-clause-ran
unfolding state_of state_in
returns-clause-ran c = let a = c.args in
    let f = c.loop-settings.frontier in let y = c.loop-settings.tally in let i = c.loop-settings.invariant in
    let n = nodes_in a.graph in
    record {
      lent = i.ready.lent;
      state = λ way st turns e.
          halts a.settings (watch_in a.watch) (state_of n (holding_in f y)) f.queue.size
          (sym (c.goes_on.ensures n f.priorities.now f.nodes.now y.visited.now) ∙ c.loop-settings-test.false) i.ready.lent.heap.count way
          ∙ i.left way st ∙ end_run way a.settings (watch_in a.watch) turns _ e;
      beyond = i.beyond;
    }
