-- `calls::solve_settled` meets its contract: the state that the solve ends in, counted (`counts_are`), and what is cleared after it. That the lent slices
-- hold what the structs left in them is found by search. Assumes nothing.
use Prim.Native.Nat.{ℕ, ◌*◌}
use mathlib.Core.List.{List}
use mathlib.Core.Path.{◌≡◌, ap, ◌∙◌}
use lib.ListN.{length, replicate}
use Rattle.std.proofs.Common.{rules}
use Rattle.numbers.specs.Numbers.{+0}
use Rattle.marks.specs.Marks.{marked, how_many}
use Rattle.rules.specs.Rules.{State}
use Rattle.pushes.specs.States.{state_in, state_of}
use Rattle.calls.specs.Promises.{counted_in}
use Rattle.calls.proofs.Counting.{few_words, counts_are}
use Rattle.calls.proofs.solve_settled.Goals as goal

-- by way of y
onto : {A : Type 0} {x z : A} (y : A) → x ≡ y → y ≡ z → x ≡ z
onto y p q = p ∙ q

pub count-ones-requires : goal.count-ones-requires
count-ones-requires c = let f = c.requires.1 in
    few_words f.room.few f.visited_long (search rules)

pub returns-clause-settled : goal.returns-clause-settled
unfolding state_of state_in
returns-clause-settled c = let a = c.args in
    let f = c.requires.1 in
    let s = c.solve.new in
    let r = c.solve.ensures.leaves in let b = c.solve.ensures.same_tally in let z = c.clear.ensures in
    let w = a.workspace.now in
    record {
      counts = λ way st.
          counts_are _ _ _ _ _ _ _ (rw b.visited.1 f.room.visited_room) r.beyond
          (c.count-ones.ensures.1 ∙ ap (λ (vs : List ℕ). how_many (64 * length vs) (marked vs)) (search rules))
          ∙ ap counted_in (r.state way st);
      estimate_is = λ way st. onto s.tally.estimate.now (search rules) (ap (λ (end : State). end.estimate) (r.state way st));
      residual_is = λ way st. onto s.frontier.residual.now (search rules) (ap (λ (end : State). end.residual) (r.state way st));
      priorities_zero = z.priorities_zero ∙ ap (λ (k : ℕ). replicate k +0) (onto (length w.priorities.now) (search rules) f.room.wide);
      nodes_zero = z.nodes_zero ∙ ap (λ (k : ℕ). replicate k 0) (onto (length w.nodes.now) (search rules) f.room.paired);
      queued_zero = z.marks_zero ∙ ap (λ (k : ℕ). replicate k 0) (onto (length w.queued.now) (search rules) f.queued_long);
      visited_zero = c.fill.ensures.after (λ _ e. e) ∙ ap (λ (k : ℕ). replicate k 0) (onto (length w.visited.now) (search rules) f.visited_long);
    }
