-- `checked_backward_links::solve_links` meets its contract: the rows, the solve of them and the clearing, by the law of lists of links. Assumes nothing.
use mathlib.Core.Path.{◌∙◌}
use Rattle.rules.specs.Ways.{push_backward}
use Rattle.watching.specs.Watching.{watch_in}
use Rattle.calls.proofs.Fits.{fits_nodes}
use Rattle.calls.proofs.Links.{links_settle}
use Rattle.backward_push.specs.Lent.{reversing}
use Rattle.backward_push.proofs.Reversing.{made_turnable}
use Rattle.checked_backward_links.proofs.solve_links.Goals as goal

pub build_rows-requires : goal.build_rows-requires
build_rows-requires c = c.requires.0

pub solve_rows-counts-requires : goal.solve_rows-counts-requires
solve_rows-counts-requires c = let p = c.requires in
    let b = c.build_rows in let f = fits_nodes p.5 b.auto.positions in
    (made_turnable p.0 b.ensures b.auto.columns p.1 p.2 p.3 f.room.paired, p.4, f, p.6)

pub returns-clause-settles : goal.returns-clause-settles
returns-clause-settles c = let a = c.args in
    let l = a.links in
    let p = c.requires.0 in
    let b = c.build_rows in links_settle reversing push_backward l.from.now l.to.now l.weight.now _ a.settings (watch_in a.watch) a.targets.now _ b.ensures (b.auto.columns ∙ p.columns_long)
    c.solve_rows-counts.ensures.settles
    (rw (b.auto.starts, p.starts_long) at (c.fill.ensures.after (λ _ e. e)))
    (rw (b.auto.columns, p.columns_long) at (c.fill-2.ensures.after (λ _ e. e)))
    (rw (b.auto.weights, p.weights_long) at (c.fill-3.ensures.after (λ _ e. e)))
