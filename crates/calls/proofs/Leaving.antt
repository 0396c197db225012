-- What a public call of a solver leaves: refused or done, the one outcome that its promise names. Assumes nothing.
use Prim.Native.Nat.{ℕ, zero, suc}
use mathlib.Core.Bool.{Bool}
use mathlib.Core.List.{List}
use mathlib.Core.Path.{◌≡◌, refl, ap, ◌∙◌}
use native.Mathlib.Omega.{arith}
use lib.ListN.{get_or, replicate}
use lib.Ieee.{Float}
use Rattle.numbers.specs.Numbers.{+0}
use Rattle.norm.specs.Norm.{Norm, add_squares}
use Rattle.norm.proofs.Unique.{unique}
use Rattle.refusals.specs.Refusals.{◌or◌, refuse_settings}
use Rattle.refusals.specs.Calls.{Outcome, outcome_of, by_refusal}
use Rattle.refusals.specs.declared.Settings.{Settings}
use Rattle.refusals.specs.declared.refusal.Refusal.{Refusal}
use Rattle.refusals.specs.Answered.{number_of}
use Rattle.refusals.proofs.Laws.{refused, accepted, agree_by}
use Rattle.refusals.proofs.Numbered.{above_zero}
use Rattle.rules.specs.Ways.{Way}
use Rattle.rules.specs.Rules.{State, Watch}
use Rattle.rules.specs.Answers.{visited_count, score_at}
use Rattle.calls.specs.Lent.{Counted}
use Rattle.calls.specs.declared.Solved.{Solved}
use Rattle.calls.specs.declared.Scored.{Scored}
use Rattle.calls.specs.Lent.{counted_of, solved_of, scored_of, solve_lent, solve_done}
use Rattle.calls.specs.Outcomes.{Given, ends, unmeasured, solved_with, Solves, queried}
use Rattle.calls.specs.Promises.{Measured, Queried, SolveSettled, Settles, Checks, counted_in}
use Rattle.calls.proofs.Vectors.{LeftVectors}

-- what a settled solve leaves, with the degrees cleared
pub settled_left : {meant : Way → Type 0} {f : Way → State} {n : ℕ} {r : Counted} {estimate residual degrees priorities : List Float} {nodes queued visited : List ℕ}
    → SolveSettled meant f n r estimate residual priorities nodes queued visited → degrees ≡ replicate n +0 → (way : Way) → meant way
    → outcome_of r (solve_lent estimate residual degrees priorities nodes queued visited) ≡ outcome_of (counted_in (f way)) (solve_done n (f way).estimate (f way).residual)
unfolding solve_done
settled_left z d way m =
    let c = z.counts way m in
    let e = z.estimate_is way m in
    let r = z.residual_is way m in
    let p = z.priorities_zero in
    let k = z.nodes_zero in
    let q = z.queued_zero in
    let v = z.visited_zero in
    cc

-- a test that does not apply behind others
or_nothing : (a : ℕ) → a or 0 ≡ a
unfolding ◌or◌
or_nothing zero = refl
or_nothing (suc a) = refl

module _ {B : Type 0} {backward : Bool} {g : Given State B} {s : Settings} {watch : Watch} {sources : List ℕ} {listed further : ℕ} where
  -- a call is refused: r, the number, is not 0
  pub call_refused : {r : ℕ} → r ≡ g.tests listed or refuse_settings s or further → (r ≡ 0 → ⊥) → Checks backward g s watch sources listed further (outcome_of (counted_of r 0 0) g.before)
  unfolding unmeasured
  call_refused e h = record { leaves = refused (λ k. counted_of k 0 0) g.before _ _ e h }

  -- for e
  pub call_refused_for : (e : Refusal) → number_of e ≡ g.tests listed or refuse_settings s or further
      → Checks backward g s watch sources listed further (outcome_of (counted_of (number_of e) 0 0) g.before)
  call_refused_for e h = call_refused h (above_zero e)

  -- a call is done: the number is 0, and the solve left what it should
  pub call_done : {r : ℕ} {x : Outcome Counted B} → r ≡ g.tests listed or refuse_settings s or further → r ≡ 0 → Settles backward g s watch sources x
      → Checks backward g s watch sources listed further x
  unfolding unmeasured
  call_done e h d = record { leaves = accepted (λ k. counted_of k 0 0) g.before _ _ e h d.leaves }

  -- the further tests have the number k
  pub with_further : {k : ℕ} {x : Outcome Counted B} → further ≡ k → Checks backward g s watch sources listed further x
      → x ≡ unmeasured (g.tests listed or refuse_settings s or k) g (ends backward g s watch sources)
  with_further e d = d.leaves ∙ ap (λ (k : ℕ). unmeasured (g.tests listed or refuse_settings s or k) g (ends backward g s watch sources)) e

  -- there are none
  pub no_further : {x : Outcome Counted B} → further ≡ 0 → Checks backward g s watch sources listed further x → x ≡ unmeasured (g.tests listed or refuse_settings s) g (ends backward g s watch sources)
  no_further e d = with_further e d ∙ ap (λ (k : ℕ). unmeasured (g.tests listed or k) g (ends backward g s watch sources)) (or_nothing (refuse_settings s))

-- A solve's outcome is that before its norm was taken, with the norm of the residual that it left.
pub solve_measured : {B : Type 0} {number : ℕ} {g : Given State B} {s : State} {c : Counted} {b : B} {x : Solved} (w : LeftVectors g)
    → outcome_of c b ≡ unmeasured number g s → Measured c (w.residual_of b) x → Solves number g s (outcome_of x b)
unfolding unmeasured solved_with by_refusal
solve_measured {number = zero} {g} {s} {c} {b} {x} w d m =
    let z = ap (λ (y : Outcome Counted _). y.answer.refusal) d in
    record {
      norm = x.residual_norm;
      is_norm = λ _. rw (ap (λ (y : Outcome Counted _). w.residual_of y.lent) d ∙ w.residual_after s) at (m.is_norm z);
      leaves =
          ap (λ (y : Solved). outcome_of y b) (m.done z)
          ∙ ap (λ (y : Outcome Counted _). outcome_of (solved_of 0 y.answer.push_count y.answer.nodes_visited x.residual_norm) y.lent) d;
    }
solve_measured {number = suc k} {g} {s} {c} {b} {x} w d m =
    let z = ap (λ (y : Outcome Counted _). y.answer.refusal) d in
    record {
      norm = +0;
      is_norm = λ h. absurd (omega arith);
      leaves =
          ap (λ (y : Solved). outcome_of y b) (m.refused (λ h. absurd (omega arith)))
          ∙ ap (λ (y : Outcome Counted _). outcome_of (solved_of y.answer.refusal 0 0 +0) y.lent) d;
    }

-- A query's outcome is that of its solve, with the score that the solve left.
pub query_answered : {B : Type 0} (number : ℕ) {g : Given State B} (s : State) {v : ℕ} {c : Counted} {b : B} {x : Scored} (w : LeftVectors g)
    → outcome_of c b ≡ unmeasured number g s → Queried c.refusal (w.estimate_of b) v x → outcome_of x b ≡ queried number g s v
unfolding unmeasured queried by_refusal score_at
query_answered zero {g} s {v} {c} {b} w d m =
    let z = ap (λ (y : Outcome Counted _). y.answer.refusal) d in
    ap (λ (y : Scored). outcome_of y b) (m.done z)
    ∙ ap (λ (y : Outcome Counted _). outcome_of (scored_of 0 (get_or (w.estimate_of y.lent) v +0)) y.lent) d
    ∙ ap (λ (xs : List Float). outcome_of (scored_of 0 (get_or xs v +0)) (g.after s)) (w.estimate_after s)
query_answered (suc k) {g} s {v} {c} {b} w d m =
    let z = ap (λ (y : Outcome Counted _). y.answer.refusal) d in
    ap (λ (y : Scored). outcome_of y b) (m.refused (λ h. absurd (omega arith))) ∙ ap (λ (y : Outcome Counted _). outcome_of (scored_of y.answer.refusal +0) y.lent) d

module _ {B : Type 0} (number : ℕ) (g : Given State B) (s : State) where
  -- two outcomes that the promise of a solve allows are equal
  pub one_solve : (x y : Outcome Solved B) → Solves number g s x → Solves number g s y → x ≡ y
  unfolding solved_with
  one_solve x y p q =
      agree_by (λ k. solved_of k 0 0 +0) g.before (λ (norm : Float). outcome_of (solved_of 0 s.pushes (visited_count s) norm) (g.after s)) (Norm s.residual)
      (unique (add_squares +0 s.residual)) number p.norm q.norm p.is_norm q.is_norm p.leaves q.leaves
