-- `bidirectional_push::rows::solve_rows` meets its contract: the rows reversed, two solves, the score and the clearing, by the laws of `Joining`. Assumes nothing.
use mathlib.Core.Path.{refl, sym, ap, subst, ◌∙◌}
use lib.ListN.{length}
use Rattle.watching.specs.Watching.{watch_in}
use Rattle.rules.specs.Rules.{unwatched, at}
use Rattle.rules.specs.Answers.{method_among}
use Rattle.pushes.specs.Buffers.{Lists}
use Rattle.calls.proofs.Directed.{directed_forward, rows_ready, fits_still, degrees_long, graph_ready, graph_fits, graph_settled}
use Rattle.backward_push.proofs.Reversing.{directed_backward}
use Rattle.calls.proofs.Fits.{fits_again}
use Rattle.combination.specs.Methods.{method_for, Follows}
use Rattle.bidirectional_push.proofs.Joining.{method_is, few_listed, solve_leaves, joined_left}
use Rattle.bidirectional_push.proofs.rows.solve_rows.Goals as goal

pub reverse-requires : goal.reverse-requires
reverse-requires c = let p = c.requires in (p.0, p.4.degrees_long, p.1)

pub choose-uses-requires : goal.choose-uses-requires
choose-uses-requires c = let p = c.requires in
    let t = c.reverse.ensures.same_reverse in
    let e = c.backward_graph-inward.ensures.1 in
    ap (λ (l : Lists). length l.out_degrees) e ∙ t.out_degrees.1 ∙ p.1 ∙ sym (ap (λ (l : Lists). length l.degrees) e ∙ t.in_degrees.1 ∙ p.4.degrees_long)

pub solve_settled-requires : goal.solve_settled-requires
solve_settled-requires c = let p = c.requires in
    let t = c.reverse.ensures in
    let g = c.forward_graph-outward in
    let z = directed_forward p.0.rowed t.reversed.out_degrees_are (t.same_reverse.columns.1 ∙ p.0.columns_long) (t.same_reverse.weights.1 ∙ p.0.weights_long ∙ sym p.0.rowed.paired) in (
      graph_ready g.result g.ensures.1 g.ensures.0 (rows_ready z),
      graph_fits g.result g.ensures.1
          (fits_still z {lent = c.args.reverse.now.in_degrees.now} (fits_again p.4 (rw c.list_if_used.ensures (few_listed _ _)) p.2 p.3 p.4.degrees_long refl c.reverse.auto.positions refl refl)),
      p.5,
    )

pub solve_settled-requires-2 : goal.solve_settled-requires-2
solve_settled-requires-2 c = let p = c.requires in
    let t = c.reverse.ensures in
    let g = c.backward_graph-inward in
    let w = c.solve_settled.ensures.same_workspace in
    let z = directed_backward p.0.rowed t.reversed (t.same_reverse.columns.1 ∙ p.0.columns_long) (t.same_reverse.weights.1 ∙ p.0.weights_long) in
    let r = p.4.room in (
      graph_ready g.result g.ensures.1 g.ensures.0 (rows_ready z),
      graph_fits g.result g.ensures.1
          (fits_still z {lent = c.args.reverse.now.in_degrees.now}
          (fits_again p.4 (rw c.list_if_used-2.ensures (few_listed _ _)) r.estimate_long r.residual_long p.4.degrees_long w.priorities.1 (w.nodes.1 ∙ c.reverse.auto.positions) w.queued.1 w.visited.1)),
      p.6,
    )

pub score-requires : goal.score-requires
score-requires c = let p = c.requires in
    let f = c.solve_settled.ensures.same_vectors in
    let b = c.solve_settled-2.ensures.same_vectors in
    let e = sym (b.estimate.1 ∙ p.4.room.estimate_long) in
    rw (c.read.ensures.0, c.read.ensures.1, c.read-2.ensures.0, c.read-2.ensures.1) (b.residual.1 ∙ p.4.room.residual_long ∙ e, f.estimate.1 ∙ p.2 ∙ e, f.residual.1 ∙ p.3 ∙ e)

pub returns-clause-joins : goal.returns-clause-joins
unfolding watch_in
returns-clause-joins c = let a = c.args in
    let p = c.requires in
    let t = c.reverse.ensures in
    let s = t.same_reverse in
    let inward = c.backward_graph-inward in
    let outward = c.forward_graph-outward in
    let forward = directed_forward p.0.rowed t.reversed.out_degrees_are (s.columns.1 ∙ p.0.columns_long) (s.weights.1 ∙ p.0.weights_long ∙ sym p.0.rowed.paired) in
    let backward = directed_backward p.0.rowed t.reversed (s.columns.1 ∙ p.0.columns_long) (s.weights.1 ∙ p.0.weights_long) in
    let u = c.choose-uses.result in
    let k = c.clear.ensures.cleared in
    joined_left a.rows.nodes a.source a.target a.rows.starts.now a.rows.columns.now a.rows.weights.now _ a.forward_settings a.backward_settings a.adaptive u
    (rw (degrees_long backward, method_is p.0.rowed t.reversed a.source a.target) at
    (subst (λ (l : Lists). Follows u (method_for a.adaptive (method_among (length l.degrees) (at l.out_degrees) (at l.degrees) a.source a.target))) inward.ensures.1 c.choose-uses.ensures))
    (solve_leaves forward a.forward_settings a.source u.forward c.list_if_used.ensures (graph_settled outward.result outward.ensures.1 outward.ensures.0 a.forward_settings unwatched _ c.solve_settled.ensures.settled))
    (solve_leaves backward a.backward_settings a.target u.backward c.list_if_used-2.ensures (graph_settled inward.result inward.ensures.1 inward.ensures.0 a.backward_settings unwatched _ c.solve_settled-2.ensures.settled))
    (rw (c.read.ensures.0, c.read.ensures.1, c.read-2.ensures.0, c.read-2.ensures.1) at c.score.ensures)
    (c.solve_settled-2.ensures.same_vectors.estimate.1 ∙ p.4.room.estimate_long)
    (rw (s.starts.1, p.0.starts_long) at k.0)
    (rw (s.columns.1, p.0.columns_long) at k.1)
    (rw (s.weights.1, p.0.weights_long) at k.2)
    (rw backward.out_degrees_long at k.4)
    (rw (degrees_long backward) at k.3)
