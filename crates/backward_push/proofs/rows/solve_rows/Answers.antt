-- `backward_push::rows::solve_rows` meets its contract: the rows reversed, the solve and the clearing, by the laws of rows in a direction. Assumes nothing.
use mathlib.Core.Path.{◌∙◌}
use Rattle.watching.specs.Watching.{watch_in}
use Rattle.calls.specs.Outcomes.{given_rows, ends}
use Rattle.calls.proofs.Fits.{fits_nodes}
use Rattle.calls.proofs.Directed.{rows_ready, fits_still, degrees_long, directed_left, graph_ready, graph_fits, graph_settled}
use Rattle.backward_push.proofs.Reversing.{directed_backward, back_left}
use Rattle.backward_push.proofs.rows.solve_rows.Goals as goal

pub reverse-requires : goal.reverse-requires
reverse-requires c = let p = c.requires in (p.0, p.2.degrees_long, p.1)

pub solve_settled-counts-requires : goal.solve_settled-counts-requires
solve_settled-counts-requires c = let p = c.requires in
    let t = c.reverse.ensures in
    let z = directed_backward p.0.rowed t.reversed (t.same_reverse.columns.1 ∙ p.0.columns_long) (t.same_reverse.weights.1 ∙ p.0.weights_long) in
    let g = c.backward_graph-graph.ensures in
    (graph_ready c.backward_graph-graph.result g.1 g.0 (rows_ready z), graph_fits c.backward_graph-graph.result g.1 (fits_still z (fits_nodes p.2 c.reverse.auto.positions)), p.3)

pub returns-clause-settles : goal.returns-clause-settles
unfolding given_rows ends
returns-clause-settles c = let a = c.args in
    let p = c.requires in
    let t = c.reverse.ensures in
    let s = t.same_reverse in
    let g = c.backward_graph-graph.ensures in
    let z = directed_backward p.0.rowed t.reversed (s.columns.1 ∙ p.0.columns_long) (s.weights.1 ∙ p.0.weights_long) in
    let k = c.clear.ensures.cleared in
    record {
      leaves =
          back_left _ _ _ (directed_left z a.settings (watch_in a.watch) a.targets.now (graph_settled c.backward_graph-graph.result g.1 g.0 a.settings (watch_in a.watch) a.targets.now c.solve_settled-counts.ensures.settled) (rw (degrees_long z) at k.3))
          (rw (s.starts.1, p.0.starts_long) at k.0)
          (rw (s.columns.1, p.0.columns_long) at k.1)
          (rw (s.weights.1, p.0.weights_long) at k.2)
          (rw z.out_degrees_long at k.4);
    }
