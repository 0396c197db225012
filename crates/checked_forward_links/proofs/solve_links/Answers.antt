-- `checked_forward_links::solve_links` meets its contract: the rows, the solve of them and the clearing, by the law of lists of links. Assumes nothing.
use mathlib.Core.Path.{◌∙◌}
use Rattle.graph.proofs.Back.{held_rowed}
use Rattle.watching.specs.Watching.{watch_in}
use Rattle.rules.specs.Ways.{push_forward}
use Rattle.calls.specs.Lent.{solving}
use Rattle.calls.proofs.Fits.{fits_nodes}
use Rattle.calls.proofs.Links.{links_settle}
use Rattle.checked_forward_links.proofs.solve_links.Goals as goal

pub solve_rows-counts-requires : goal.solve_rows-counts-requires
solve_rows-counts-requires c = let p = c.requires in
    let b = c.build_rows in (held_rowed b.ensures.held, fits_nodes p.1 b.auto.positions, p.2)

pub returns-clause-settles : goal.returns-clause-settles
returns-clause-settles c = let a = c.args in
    let l = a.links in
    let p = c.requires.0 in
    let b = c.build_rows in links_settle solving push_forward l.from.now l.to.now l.weight.now _ a.settings (watch_in a.watch) a.sources.now _ b.ensures (b.auto.columns ∙ p.columns_long)
    c.solve_rows-counts.ensures.settles
    (rw (b.auto.starts, p.starts_long) at (c.fill.ensures.after (λ _ e. e)))
    (rw (b.auto.columns, p.columns_long) at (c.fill-2.ensures.after (λ _ e. e)))
    (rw (b.auto.weights, p.weights_long) at (c.fill-3.ensures.after (λ _ e. e)))
