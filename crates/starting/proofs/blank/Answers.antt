-- `starting::blank` meets its contract, by `blank_state`. Assumes nothing.
use mathlib.Core.Path.{refl, ◌∙◌}
use Rattle.marks.proofs.Marking.{none_marked}
use lib.ListN.{length}
use Rattle.pushes.specs.States.{state_of}
use Rattle.starting.proofs.Starting.{blank_state}
use Rattle.starting.proofs.blank.Goals as goal

pub returns-clause-leaves : goal.returns-clause-leaves
unfolding state_of
returns-clause-leaves c = let f = c.args.frontier.now in
    let b = c.args.tally.now in
    let e = c.fill in let r = c.fill-2 in let m = c.fill-3.ensures.after (λ _ e. e) in let q = c.start-queue in record {
      lent = record { heap = q.ensures.holds.heap; wide = refl; residual_long = r.auto.self ∙ c.requires.residual_long };
      state = λ way _.
          rw m
          (blank_state (length f.priorities.now) e.new.self r.new.self q.result f.priorities.now f.nodes.now (length b.visited.now) c.args.threshold
          (rw c.requires.estimate_long at (e.ensures.after (λ _ e. e))) (rw c.requires.residual_long at (r.ensures.after (λ _ e. e))) q.ensures.threshold_value q.ensures.holds.view);
      beyond = λ u l. rw m (none_marked (length b.visited.now) u);
    }
