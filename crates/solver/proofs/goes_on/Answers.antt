-- `solver::goes_on` meets its contract. Assumes nothing.
use mathlib.Core.Path.{refl, sym, ◌∙◌}
use borrow.Author.Tests.{lt-ltb, le-ltb}
use Rattle.rules.specs.Rules.{goes_on}
use Rattle.pushes.specs.States.{state_in, progress_in}
use Rattle.solver.proofs.goes_on.Goals as goal

pub returns-then-stopped : goal.returns-then-stopped
unfolding goes_on state_in
returns-then-stopped c = let f = c.args.frontier.now in let t = c.args.tally.now in
    λ n ps ns vs. rw (lt-ltb _ _ c.if-tally-settings.true, sym (c.stopped.ensures (state_in n t.estimate.now f.residual.now (progress_in f t) ps ns vs) refl refl) ∙ c.if-stopped.true)

pub returns-then-tally-settings : goal.returns-then-tally-settings
unfolding goes_on state_in
returns-then-tally-settings c = let f = c.args.frontier.now in let t = c.args.tally.now in
    λ n ps ns vs. rw (lt-ltb _ _ c.if-tally-settings.true, sym (c.stopped.ensures (state_in n t.estimate.now f.residual.now (progress_in f t) ps ns vs) refl refl) ∙ c.if-stopped.false)

pub returns : goal.returns
unfolding goes_on state_in
returns c = λ n ps ns vs. rw (le-ltb _ _ c.if-tally-settings.false)
