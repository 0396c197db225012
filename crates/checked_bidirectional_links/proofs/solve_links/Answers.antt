-- `checked_bidirectional_links::solve_links` meets its contract: the rows, the solves of them and the clearing, by the laws of `Joining`. Assumes nothing.
use mathlib.Core.Path.{◌∙◌}
use Rattle.calls.proofs.Fits.{fits_nodes}
use Rattle.backward_push.proofs.Reversing.{made_turnable}
use Rattle.bidirectional_push.proofs.Joining.{links_joined}
use Rattle.checked_bidirectional_links.proofs.solve_links.Goals as goal

pub build_rows-requires : goal.build_rows-requires
build_rows-requires c = c.requires.0

pub solve_rows-score-requires : goal.solve_rows-score-requires
solve_rows-score-requires c = let p = c.requires in
    let b = c.build_rows in let f = fits_nodes p.7 b.auto.positions in
    (made_turnable p.0 b.ensures b.auto.columns p.1 p.2 p.3 f.room.paired, p.4, p.5, p.6, f, p.8, p.9)

pub returns-clause-joins : goal.returns-clause-joins
returns-clause-joins c = let a = c.args in
    let l = a.links in
    let p = c.requires.0 in
    let b = c.build_rows in links_joined l.nodes a.source a.target a.adaptive l.from.now l.to.now l.weight.now _ a.forward_settings a.backward_settings _ b.ensures
    (b.auto.columns ∙ p.columns_long)
    c.solve_rows-score.ensures.joins
    (rw (b.auto.starts, p.starts_long) at (c.fill.ensures.after (λ _ e. e)))
    (rw (b.auto.columns, p.columns_long) at (c.fill-2.ensures.after (λ _ e. e)))
    (rw (b.auto.weights, p.weights_long) at (c.fill-3.ensures.after (λ _ e. e)))
