-- The call for reachability: its solve, refused or done, and the answer that is worked out of what the solve leaves. Assumes nothing.
use Prim.Native.Nat.{ℕ, zero, suc}
use mathlib.Core.List.{List, [], ◌∷◌}
use mathlib.Core.Path.{◌≡◌, refl, sym, ap, ◌∙◌}
use native.Mathlib.Omega.{arith}
use lib.ListN.{length}
use lib.Ieee.{Float}
use Rattle.refusals.specs.Refusals.{refuse_settings}
use Rattle.refusals.specs.Calls.{Outcome, outcome_of, by_refusal}
use Rattle.refusals.specs.declared.Settings.{Settings}
use Rattle.refusals.proofs.Laws.{Sized, number_zero, left_done}
use Rattle.rules.specs.Ways.{push_backward}
use Rattle.rules.specs.Rules.{State, unwatched}
use Rattle.rules.specs.Answers.{extrapolated}
use Rattle.calls.specs.Lent.{Counted}
use Rattle.calls.specs.Lent.{Lending, besides, LinksLent, links_lent, links_done}
use Rattle.calls.specs.Outcomes.{Given, given_rows, given_links, ends, unmeasured}
use Rattle.calls.specs.Promises.{Checks}
use Rattle.calls.proofs.Leaving.{no_further}
use Rattle.calls.proofs.Asked.{rows_asked, links_asked}
use Rattle.calls.proofs.Vectors.{Vectors, LeftVectors, besides_vectors}
use Rattle.backward_push.specs.Lent.{BackLent, back_lengths, reversing, Reachability, ReachLent, reach_lent, reaching}
use Rattle.backward_push.specs.Outcomes.{reachability_probabilities}
use Rattle.backward_push.proofs.Reversing.{backward_vectors}

module _ {B : Type 0} where
  -- a solve that is done was not refused
  done_number : (number : ℕ) (g : Given State B) (s : State) {c : Counted} {b : B} → outcome_of c b ≡ unmeasured number g s → c.refusal ≡ 0 → number ≡ 0
  unfolding unmeasured
  done_number number g s d h = number_zero _ _ _ (λ y. y.refusal) (λ k. refl) refl number d h

  -- and left the buffers as they are after it
  done_lent : (number : ℕ) (g : Given State B) (s : State) {c : Counted} {b : B} → outcome_of c b ≡ unmeasured number g s → c.refusal ≡ 0 → b ≡ g.after s
  unfolding unmeasured
  done_lent number g s d h = ap (λ (y : Outcome Counted B). y.lent) (left_done _ _ _ (λ y. y.refusal) (λ k. refl) refl number d h)

-- the call is given what its solve is given, n nodes among it, and beside what that is lent an answer x, as `wrap` has it
pub record Beside {B C : Type 0} (wrap : List Float → B → C) (x : List Float) (n : ℕ) (g : Given State B) (r : Given Reachability C) : Type 0 where
  pub given : r ≡ record { nodes = g.nodes; rows = g.rows; tests = g.tests; before = wrap x g.before; after = λ e. wrap e.solution (g.after e.state) }
  pub nodes_are : g.nodes ≡ n

module _ {B C : Type 0} (wrap : List Float → B → C) where
  -- the solve is refused: the answer is the old one
  refused_beside : (number : ℕ) (g : Given State B) (s : State) (old answer : List Float) {c : Counted} {b : B} → outcome_of c b ≡ unmeasured number g s → (c.refusal ≡ 0 → ⊥)
      → outcome_of c.refusal (wrap old b) ≡ by_refusal number (λ k. k) (wrap old g.before) (outcome_of 0 (wrap answer (g.after s)))
  unfolding unmeasured by_refusal
  refused_beside zero g s old answer d h = absurd (h (ap (λ (y : Outcome Counted B). y.answer.refusal) d))
  refused_beside (suc k) g s old answer d h = ap (λ (y : Outcome Counted B). outcome_of y.answer.refusal (wrap old y.lent)) d

  -- it is done
  done_beside : (number : ℕ) (g : Given State B) (s : State) (old answer : List Float) {new : List Float} {b : B} → number ≡ 0 → b ≡ g.after s → new ≡ answer
      → outcome_of {A = ℕ} 0 (wrap new b) ≡ by_refusal number (λ k. k) (wrap old g.before) (outcome_of 0 (wrap answer (g.after s)))
  unfolding by_refusal
  done_beside zero g s old answer h d e = rw (d, e)
  done_beside (suc k) g s old answer h d e = absurd (omega arith)

module _ {B C : Type 0} {wrap : List Float → B → C} {g : Given State B} {old : List Float} {n : ℕ} {r : Given Reachability C} (beside : Beside wrap old n g r) (s : Settings) (target : ℕ) {c : Counted} {b : B}
    (h : Checks push_backward g s unwatched (target ∷ []) 0 0 (outcome_of c b)) where
  -- the call is refused
  pub reach_refused : (c.refusal ≡ 0 → ⊥) → outcome_of c.refusal (wrap old b) ≡ reachability_probabilities r target s
  unfolding reachability_probabilities ends
  reach_refused z = rw beside.given (refused_beside wrap _ g _ old _ (no_further refl h) z)

  -- it is done: the answer is worked out of the two vectors, which stand where `w` says
  pub reach_done : (w : LeftVectors g) {new : List Float} → c.refusal ≡ 0 → length (w.estimate_of b) ≡ n
      → new ≡ extrapolated s.alpha (length (w.estimate_of b)) (w.estimate_of b) (w.residual_of b) → outcome_of 0 (wrap new b) ≡ reachability_probabilities r target s
  unfolding reachability_probabilities ends
  reach_done w z l e =
      let t = ends push_backward g s unwatched (target ∷ []) in
      let d = no_further refl h in
      let b = done_lent _ g t d z in
      rw beside.given (done_beside wrap _ g t old _ (done_number _ g t d z) b (rw (l ∙ sym beside.nodes_are, ap w.estimate_of b ∙ w.estimate_after t, ap w.residual_of b ∙ w.residual_after t) at e))

-- ---- by the form of the call

-- with a list of links the answer stands beside what is lent besides the buffers for rows
abbrev links_reach : List Float → LinksLent BackLent → LinksLent ReachLent
links_reach x l = links_lent l.starts l.columns l.weights (reach_lent x l.rest)

module _ (n : ℕ) (x : List Float) where
  -- what the solve is lent: the length of the answer is tested besides
  abbrev pub answering : Lending State BackLent
  answering = besides ((length x, n) ∷ []) reversing

  -- where its vectors stand
  abbrev pub answering_vectors : Vectors answering
  answering_vectors = besides_vectors backward_vectors ((length x, n) ∷ [])

  -- with rows
  module _ (starts columns : List ℕ) (weights : List Float) (b : BackLent) where
    pub rows_beside : Beside reach_lent x n (given_rows answering n starts columns weights b) (given_rows reaching n starts columns weights (reach_lent x b))
    unfolding given_rows
    rows_beside = record { given = refl; nodes_are = refl }

    pub rows_sized : {target : ℕ} {s : Settings} {c : Counted} {b' : BackLent} → Checks push_backward (given_rows answering n starts columns weights b) s unwatched (target ∷ []) 0 0 (outcome_of c b')
        → c.refusal ≡ 0 → Sized n (length columns) 0 ((length x, n) ∷ back_lengths n (length columns) b)
    rows_sized {s = s} h z = (rows_asked answering 0 (refuse_settings s) n starts columns weights b refl (done_number _ _ _ (no_further refl h) z)).1

  -- with a list of links
  module _ (from to : List ℕ) (weight : List Float) (b : LinksLent BackLent) where
    pub links_beside : Beside links_reach x n (given_links answering n from to weight b) (given_links reaching n from to weight (links_reach x b))
    unfolding given_links links_done
    links_beside = record { given = refl; nodes_are = refl }

    pub links_sized : {target : ℕ} {s : Settings} {c : Counted} {b' : LinksLent BackLent}
        → Checks push_backward (given_links answering n from to weight b) s unwatched (target ∷ []) 0 0 (outcome_of c b')
        → c.refusal ≡ 0 → Sized n (length from) 0 ((length x, n) ∷ back_lengths n (length from) b.rest)
    links_sized {s = s} h z = (links_asked answering 0 (refuse_settings s) n from to weight b refl (done_number _ _ _ (no_further refl h) z)).1
