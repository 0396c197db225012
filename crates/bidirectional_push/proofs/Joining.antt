-- Two solves one after the other: which are used, what each leaves, and what the call answers of it. Assumes nothing.
use Prim.Native.Nat.{ℕ, ◌+◌, ◌<◌, ◌≤◌}
use mathlib.Core.Bool.{Bool, true, false, ◌&&◌}
use mathlib.Core.List.{List, [], ◌∷◌}
use mathlib.Core.Path.{◌≡◌, refl, ap, ◌∙◌}
use native.Mathlib.Omega.{arith}
use lib.ListN.{length, replicate}
use lib.Dec.{ltb}
use lib.Ieee.{Float}
use borrow.Author.Tests.{ltb-true}
use Rattle.numbers.specs.Numbers.{+0}
use Rattle.numbers.specs.Choice.{if◌then◌otherwise◌}
use Rattle.numbers.proofs.Tests.{both as all}
use Rattle.refusals.specs.Refusals.{◌or◌, refuse_settings}
use Rattle.refusals.specs.Calls.{Outcome, outcome_of}
use Rattle.refusals.specs.declared.Settings.{Settings}
use Rattle.refusals.specs.declared.refusal.Refusal.{Refusal}
use Rattle.refusals.specs.Answered.{number_of}
use Rattle.refusals.proofs.Laws.{refused_for, accepted}
use Rattle.graph.specs.Rows.{Entry, links_of, rows_of, rows_in, degree, transposed}
use Rattle.graph.specs.Store.{Rowed, Compressed}
use Rattle.graph.proofs.Back.{held_rowed, held_rows}
use Rattle.rules.specs.Ways.{Way, push_forward, push_backward, way_of, over, row_at, degree_of}
use Rattle.rules.specs.Rules.{State, unwatched, blank, inside, watchable, begun, solve, at}
use Rattle.rules.specs.Answers.{Method, neither, backward_alone, forward_alone, both, method_among, method, score_at, answer_by}
use Rattle.rules.proofs.Starts.{solve_nothing}
use Rattle.pushes.specs.Buffers.{lists_of}
use Rattle.pushes.specs.Meant.{Stands}
use Rattle.solver.proofs.Graphs.{stands_over}
use Rattle.calls.specs.Lent.{Counted}
use Rattle.calls.specs.Lent.{scored_of, words, solve_lent, solve_done, LinksLent, links_lent}
use Rattle.calls.specs.Outcomes.{Given, given_rows, given_links, ends}
use Rattle.calls.specs.Promises.{SolveSettled}
use Rattle.calls.proofs.Directed.{Directed, degrees_long, sums_are}
use Rattle.calls.proofs.Links.{made_left}
use Rattle.backward_push.specs.Lent.{back_lent, back_done}
use Rattle.backward_push.specs.Promises.{Reversed}
use Rattle.combination.specs.declared.Uses.{Uses}
use Rattle.combination.specs.Methods.{uses_forward, uses_backward, method_for, Follows, score_by}
use Rattle.bidirectional_push.specs.Lent.{Pairs, BothLent, both_lent, joining}
use Rattle.bidirectional_push.specs.Outcomes.{where_used, pairs_by, joined, by_solves}
use Rattle.bidirectional_push.specs.Promises.{Joins, ChecksBoth}

-- ---- one solve

-- a solve that is not used starts nowhere
module _ (way : Way) (s : Settings) (n v : ℕ) where
  nowhere : solve way s unwatched n [] ≡ blank n s.queue_threshold
  unfolding begun watchable inside if◌then◌otherwise◌
  nowhere = solve_nothing way s unwatched n [] refl

  started_estimate : (used : Bool) → (solve way s unwatched n (if used then v ∷ [] otherwise [])).estimate ≡ where_used used n (solve way s unwatched n (v ∷ [])).estimate
  unfolding if◌then◌otherwise◌ blank
  started_estimate true = refl
  started_estimate false = ap (λ (z : State). z.estimate) nowhere

  started_residual : (used : Bool) → (solve way s unwatched n (if used then v ∷ [] otherwise [])).residual ≡ where_used used n (solve way s unwatched n (v ∷ [])).residual
  unfolding if◌then◌otherwise◌ blank
  started_residual true = refl
  started_residual false = ap (λ (z : State). z.residual) nowhere

-- the list that it starts from is short
pub few_listed : (used : Bool) (v : ℕ) → length (if used then v ∷ [] otherwise []) ≤ 65536
unfolding if◌then◌otherwise◌
few_listed true v = omega arith
few_listed false v = omega arith

-- what it leaves
pub record Leaves (n : ℕ) (used : Bool) (z : State) (estimate residual priorities : List Float) (nodes queued visited : List ℕ) : Type 0 where
  pub estimate_is : estimate ≡ where_used used n z.estimate
  pub residual_is : residual ≡ where_used used n z.residual
  pub priorities_zero : priorities ≡ replicate n +0
  pub nodes_zero : nodes ≡ replicate n 0
  pub queued_zero : queued ≡ replicate (words n) 0
  pub visited_zero : visited ≡ replicate (words n) 0

module _ {n : ℕ} {is_backward : Bool} {rows : List (List Entry)} {starts columns columns' : List ℕ} {weights weights' degrees out_degrees : List Float}
    (z : Directed n is_backward rows starts columns columns' weights weights' degrees out_degrees) (s : Settings) (v : ℕ) (used : Bool) where
  pub solve_leaves : {sources : List ℕ} {r : Counted} {estimate residual priorities : List Float} {nodes queued visited : List ℕ} → sources ≡ (if used then v ∷ [] otherwise [])
      → SolveSettled (Stands (length degrees) is_backward (lists_of starts columns columns' weights weights' degrees out_degrees)) (λ way. solve way s unwatched (length degrees) sources) (length degrees)
      r estimate residual priorities nodes queued visited
      → Leaves n used (solve (over is_backward n rows) s unwatched n (v ∷ [])) estimate residual priorities nodes queued visited
  solve_leaves e d =
      let h = rw (degrees_long z, e) at d in
      let way = over is_backward n rows in
      let m = stands_over n is_backward rows (lists_of starts columns columns' weights weights' degrees out_degrees) z.rowed z.rows_are z.out_degrees_are in
      record {
        estimate_is = h.estimate_is way m ∙ started_estimate way s n v used;
        residual_is = h.residual_is way m ∙ started_residual way s n v used;
        priorities_zero = h.priorities_zero;
        nodes_zero = h.nodes_zero;
        queued_zero = h.queued_zero;
        visited_zero = h.visited_zero;
      }

-- ---- which solves are used

module _ {n : ℕ} {starts columns reverse_starts reverse_columns : List ℕ} {weights reverse_weights in_degrees out_degrees : List Float} (rowed : Rowed n starts columns weights)
    (t : Reversed n starts columns weights reverse_starts reverse_columns reverse_weights in_degrees out_degrees) where
  -- the in-degrees are the sums of the rows reversed
  inward_is : (v : ℕ) → v < n → at in_degrees v ≡ degree (row_at (transposed n (rows_in n starts columns weights)) v)
  inward_is v l = sums_are (held_rowed t.reversed) t.in_degrees_are v l ∙ ap (λ (rs : List (List Entry)). degree (row_at rs v)) (held_rows t.reversed)

  -- so the method by degrees is the rules'
  pub method_is : (source target : ℕ) → method_among n (at out_degrees) (at in_degrees) source target ≡ method n (rows_in n starts columns weights) source target
  unfolding method_among method degree_of over way_of if◌then◌otherwise◌
  method_is source target = go (ltb source n && ltb target n) refl
    where
      go : (b : Bool) → (ltb source n && ltb target n) ≡ b → method_among n (at out_degrees) (at in_degrees) source target ≡ method n (rows_in n starts columns weights) source target
      go true e =
          let l = all (ltb source n) (ltb target n) e in
          rw (e, sums_are rowed t.out_degrees_are source (ltb-true source n l.0), inward_is target (ltb-true target n l.1))
      go false e = rw e

-- ---- the score

-- by the method that is followed
pub score_is : (m : Method) (u : Uses) (alpha : Float) (n source target : ℕ) (b f : State) {be br fe fr : List Float} → Follows u m
    → be ≡ where_used (uses_backward m) n b.estimate → br ≡ where_used (uses_backward m) n b.residual → fe ≡ where_used (uses_forward m) n f.estimate → fr ≡ where_used (uses_forward m) n f.residual
    → length be ≡ n → score_by u alpha source target be br fe fr ≡ answer_by m alpha n source target b f
unfolding score_by answer_by uses_forward uses_backward score_at if◌then◌otherwise◌
score_is neither u alpha n source target b f w p q r s l = rw (w.forward_is, w.backward_is)
score_is backward_alone u alpha n source target b f w p q r s l = rw (w.forward_is, w.backward_is, p)
score_is forward_alone u alpha n source target b f w p q r s l = rw (w.forward_is, w.backward_is, r)
score_is both u alpha n source target b f w p q r s l = rw (w.forward_is, w.backward_is, l, p, q, r, s)

-- ---- the whole

-- what both solves of rows leave, with the workspace cleared
pub joined_left : (n source target : ℕ) (starts columns : List ℕ) (weights : List Float) (b₀ : BothLent) (sf sb : Settings) (adaptive : Bool) (u : Uses) {r : Float}
    {fe fr be br reverse_weights out_degrees in_degrees priorities other_priorities : List Float} {reverse_starts reverse_columns nodes queued visited other_nodes other_queued other_visited : List ℕ} → Follows u (method_for adaptive (method n (rows_in n starts columns weights) source target))
    → Leaves n u.forward (solve (over push_forward n (rows_in n starts columns weights)) sf unwatched n (source ∷ [])) fe fr other_priorities other_nodes other_queued other_visited
    → Leaves n u.backward (solve (over push_backward n (rows_in n starts columns weights)) sb unwatched n (target ∷ [])) be br priorities nodes queued visited
    → r ≡ score_by u sb.alpha source target be br fe fr → length be ≡ n → reverse_starts ≡ replicate (n + 1) 0 → reverse_columns ≡ replicate (length columns) 0
    → reverse_weights ≡ replicate (length columns) +0 → out_degrees ≡ replicate n +0 → in_degrees ≡ replicate n +0
    → Joins adaptive (given_rows joining n starts columns weights b₀) source target sf sb
    (outcome_of r (both_lent fe fr (back_lent reverse_starts reverse_columns reverse_weights out_degrees (solve_lent be br in_degrees priorities nodes queued visited))))
unfolding joined pairs_by given_rows ends back_done solve_done
joined_left n source target starts columns weights b₀ sf sb adaptive u w x y e l rs rc rv o i =
    let m = method_for adaptive (method n (rows_in n starts columns weights) source target) in
    let f = solve (over push_forward n (rows_in n starts columns weights)) sf unwatched n (source ∷ []) in
    let b = solve (over push_backward n (rows_in n starts columns weights)) sb unwatched n (target ∷ []) in
    let fe = x.estimate_is ∙ ap (λ (used : Bool). where_used used n f.estimate) w.forward_is in
    let fr = x.residual_is ∙ ap (λ (used : Bool). where_used used n f.residual) w.forward_is in
    let be = y.estimate_is ∙ ap (λ (used : Bool). where_used used n b.estimate) w.backward_is in
    let br = y.residual_is ∙ ap (λ (used : Bool). where_used used n b.residual) w.backward_is in
    let s = e ∙ score_is m u sb.alpha n source target b f w be br fe fr l in
    let p = y.priorities_zero in
    let k = y.nodes_zero in
    let q = y.queued_zero in
    let v = y.visited_zero in
    record { leaves = cc }

-- and what those of a list of links leave, over the rows that are made of it
pub links_joined : {j : ℕ} (n source target : ℕ) (adaptive : Bool) (from to : List ℕ) (weight : List Float) (l : LinksLent BothLent) (sf sb : Settings)
    {starts columns positions starts' columns' : List ℕ} {weights weights' : List Float} {r : Float} (b : BothLent) {b' : BothLent}
    → Compressed j n (rows_of n (links_of from to weight)) (length from) starts columns weights positions → length columns ≡ length from
    → Joins adaptive (given_rows joining n starts columns weights b) source target sf sb (outcome_of r b')
    → starts' ≡ replicate (n + 1) 0 → columns' ≡ replicate (length from) 0 → weights' ≡ replicate (length from) +0
    → Joins adaptive (given_links joining n from to weight l) source target sf sb (outcome_of r (links_lent starts' columns' weights' b'))
unfolding joined given_rows given_links ends
links_joined n source target adaptive from to weight l sf sb b h e d s c w =
    let leaves : List (List Entry) → Outcome Float BothLent = λ rows.
    let m = method_for adaptive (method n rows source target) in
    let f = solve (over push_forward n rows) sf unwatched n (source ∷ []) in
    let t = solve (over push_backward n rows) sb unwatched n (target ∷ []) in
    outcome_of (answer_by m sb.alpha n source target t f) (joining.done n (length from) (pairs_by m n t f)) in
    record { leaves = made_left leaves h (rw e at d.leaves) s c w }

-- ---- refused or done

module _ {B : Type 0} (adaptive : Bool) (g : Given Pairs B) (source target : ℕ) (sf sb : Settings) where
  pub answer_refused_for : (e : Refusal) → number_of e ≡ g.tests 0 or refuse_settings sf or refuse_settings sb
      → ChecksBoth adaptive g source target sf sb (outcome_of (scored_of (number_of e) +0) g.before)
  unfolding by_solves
  answer_refused_for e h = record { leaves = refused_for (λ k. scored_of k +0) g.before _ e _ h }

  pub answer_done : 0 ≡ g.tests 0 or refuse_settings sf or refuse_settings sb → {x : Float} {b : B} → Joins adaptive g source target sf sb (outcome_of x b)
      → ChecksBoth adaptive g source target sf sb (outcome_of (scored_of 0 x) b)
  unfolding by_solves
  answer_done h d =
      record { leaves = accepted (λ k. scored_of k +0) g.before _ _ h refl (ap (λ (x : Outcome Float B). outcome_of (scored_of 0 x.answer) x.lent) d.leaves) }
