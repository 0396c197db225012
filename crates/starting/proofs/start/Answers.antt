-- `starting::start` meets its contract: the blank state, and where the watched node is in range the sources' gains and offers. Assumes nothing.
use mathlib.Core.Path.{sym, ap, ◌∙◌}
use lib.ListN.{length}
use Rattle.rules.specs.Rules.{each, inside, gain, offer}
use Rattle.watching.specs.Watching.{watch_in}
use Rattle.pushes.specs.States.{progress, state_in, state_of}
use Rattle.starting.proofs.Starting.{start_some, start_none}
use Rattle.starting.proofs.start.Goals as goal

pub returns-then-is_watchable-clause-leaves : goal.returns-then-is_watchable-clause-leaves
unfolding state_of state_in
returns-then-is_watchable-clause-leaves c = let a = c.args in
    let f = c.blank.new.frontier in let b = c.blank.new.tally in let s = rw c.requires.0.wide at c.blank.ensures.leaves in
    let g = c.gain_all in let o = c.offer_all.ensures.moved in let n = length a.degrees.now in
    let sources = inside n a.sources.now in
    record {
      lent = o.lent;
      state = λ way w.
          o.state way w b.estimate.now b.pushes b.visited.now
          ∙ ap (each (offer way) sources)
          (rw s.lent.residual_long at (g.ensures.state n b.estimate.now (progress f.queue b.pushes) f.priorities.now f.nodes.now b.visited.now)
          ∙ ap (each (gain _) sources) (s.state way tt))
          ∙ start_some way a.settings (watch_in a.watch) n a.sources.now (sym c.is_watchable.ensures ∙ c.if-is_watchable.true);
      beyond = s.beyond;
    }

pub returns-else-is_watchable-clause-leaves : goal.returns-else-is_watchable-clause-leaves
returns-else-is_watchable-clause-leaves c = let a = c.args in
    let s = rw c.requires.0.wide at c.blank.ensures.leaves in record {
      lent = s.lent;
      state = λ way w.
          s.state way tt
          ∙ start_none way a.settings (watch_in a.watch) (length a.degrees.now) a.sources.now (sym c.is_watchable.ensures ∙ c.if-is_watchable.false);
      beyond = s.beyond;
    }
