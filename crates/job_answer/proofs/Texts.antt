-- The text of a solve's answer is that of the job: the lent buffers have the lengths that are stated, so that the solve's first number is the job's.
-- Assumes nothing.
use Prim.Native.Nat.{ℕ, zero, suc, ◌+◌, ◌*◌}
use mathlib.Core.Bool.{Bool, true, false}
use mathlib.Core.List.{List, [], ◌∷◌}
use mathlib.Core.Path.{◌≡◌, refl, ap, ◌∙◌}
use borrow.Author.Tests.{eq-eqb}
use native.Mathlib.Omega.{arith}
use lib.ListN.{length}
use lib.Ieee.{Float}
use Rattle.numbers.specs.Numbers.{+0}
use Rattle.refusals.specs.Refusals.{◌or◌, ◌when◌, lengths_differ, refuse_nodes, refuse_links, refuse_listed, refuse_lengths, refuse_weights, refuse_settings}
use Rattle.refusals.specs.Calls.{Outcome, outcome_of, by_refusal}
use Rattle.refusals.specs.declared.Settings.{Settings}
use Rattle.refusals.proofs.Laws.{AsStated}
use Rattle.rules.specs.Ways.{push_forward}
use Rattle.rules.specs.Rules.{State, unwatched}
use Rattle.calls.specs.declared.Solved.{Solved}
use Rattle.calls.specs.Lent.{SolveLent, LinksLent, solve_lengths, solving}
use Rattle.calls.specs.Outcomes.{Given, given_links, ends, solved_with}
use Rattle.calls.proofs.Vectors.{LeftVectors, forward_vectors, links_vectors}
use Rattle.forward_push.specs.Outcomes.{solve_multi_source}
use Rattle.job_fields.specs.Fields.{words_at, floats_at}
use Rattle.job_fields.specs.Shape.{nodes_in, links_in, sources_in, shaped}
use Rattle.job_text.specs.Text.{refused_line, Grown}
use Rattle.job_answer.specs.Printed.{settings_in, job_of, job_in, refusal, end, refused_or, done_text, prints, Writes}
use Rattle.job_answer.specs.Promises.{ListsLong, RowsLong, SolveLong, answer_text, writes}

-- a refusal
pub text_refused : (number : ℕ) (done : List ℕ) {text text' : List ℕ} {at r : ℕ} → (number ≡ 0 → ⊥) → Grown at (refused_line number) text r text' → Grown at (refused_or number done) text r text'
unfolding refused_or
text_refused zero done h g = absurd (h refl)
text_refused (suc k) done h g = g

-- the text where there is none
pub text_of : (number : ℕ) (done : List ℕ) → number ≡ 0 → refused_or number done ≡ done
unfolding refused_or
text_of zero done h = refl
text_of (suc k) done h = absurd (omega arith)

-- and what was written then
pub text_done : (number : ℕ) (done : List ℕ) {text text' : List ℕ} {at r : ℕ} → number ≡ 0 → Grown at done text r text' → Grown at (refused_or number done) text r text'
text_done number done h g = rw (text_of number done h) g

-- lengths that are as stated fail no test
stated_lengths : (ps : List (ℕ × ℕ)) → AsStated ps → lengths_differ false ps ≡ false
unfolding lengths_differ
stated_lengths [] h = refl
stated_lengths (p ∷ ps) h = rw (eq-eqb p.0 p.1 h.0) (stated_lengths ps h.1)

-- the answer's text, by the solve's first number and the state that it ends in
answer_text_lem : {B : Type 0} (number : ℕ) (g : Given State B) (s : State) (norm : Float) (w : LeftVectors g) {r : Solved} {b : B} → outcome_of r b ≡ solved_with number g s norm
    → answer_text r (w.estimate_of b) (w.residual_of b) ≡ refused_or number (done_text s norm)
unfolding solved_with by_refusal refused_or
answer_text_lem {B} zero g s norm w e =
    ap (λ (x : Outcome Solved B). answer_text x.answer (w.estimate_of x.lent) (w.residual_of x.lent)) e ∙ rw (w.estimate_after s, w.residual_after s)
answer_text_lem {B} (suc k) g s norm w e = ap (λ (x : Outcome Solved B). answer_text x.answer (w.estimate_of x.lent) (w.residual_of x.lent)) e

module _ (n : ℕ) (from to : List ℕ) (weight : List Float) (sources : List ℕ) (s : Settings) where
  -- all lengths are as stated
  all_alike : (b : LinksLent SolveLent) → ListsLong (length from) to weight → RowsLong n (length from) b.starts b.columns b.weights → SolveLong n b.rest
      → AsStated ((length to, length from) ∷ (length weight, length from) ∷ (length b.starts, n + 1) ∷ (length b.columns, length from) ∷ (length b.weights, length from) ∷ solve_lengths n b.rest)
  all_alike b l r v =
      (l.to_long, (l.weight_long, (r.starts_long, (r.columns_long, (r.weights_long, (v.estimate_long, (v.residual_long, (v.degrees_long, (v.priorities_long, (v.nodes_long, (v.queued_long, (v.visited_long, tt))))))))))))

  -- the solve's first number is the job's
  pub number_is : (b : LinksLent SolveLent) → ListsLong (length from) to weight → RowsLong n (length from) b.starts b.columns b.weights → SolveLong n b.rest
      → (given_links solving n from to weight b).tests (length sources) or refuse_settings s ≡ refusal (job_of n from to weight sources s)
  unfolding given_links refusal refuse_lengths lengths_differ
  number_is b l r v =
      ap (λ (x : ℕ). ((refuse_nodes n or refuse_links (length from) or refuse_listed (length sources) or x) or refuse_weights weight) or refuse_settings s) (ap (λ (x : Bool). 3 when x) (stated_lengths ((length to, length from) ∷ (length weight, length from) ∷ (length b.starts, n + 1) ∷ (length b.columns, length from) ∷ (length b.weights, length from) ∷ solve_lengths n b.rest) (all_alike b l r v)))

  -- and it ends in the job's state
  pub end_is : (b : LinksLent SolveLent) → ends push_forward (given_links solving n from to weight b) s unwatched sources ≡ end (job_of n from to weight sources s)
  unfolding end ends given_links
  end_is b = refl

  -- what is written of the solve's answer is the job's text
  pub solve_writes : (b : LinksLent SolveLent) → ListsLong (length from) to weight → RowsLong n (length from) b.starts b.columns b.weights → SolveLong n b.rest
      → {r : Solved} {b' : LinksLent SolveLent} → solve_multi_source (given_links solving n from to weight b) sources s (outcome_of r b')
      → {text text' : List ℕ} {k : ℕ} → Grown 0 (answer_text r b'.rest.estimate b'.rest.residual) text k text' → writes (job_of n from to weight sources s) text k text'
  unfolding end ends given_links
  solve_writes b l r v solves grown =
      let j = job_of n from to weight sources s in
      record {
        part = _;
        printed =
            record {
              norm = solves.norm;
              is_norm = λ h. solves.is_norm (number_is b l r v ∙ h);
              is_text =
                  answer_text_lem _ (given_links solving n from to weight b) (end j) solves.norm (links_vectors forward_vectors n from to weight b) solves.leaves
                  ∙ ap (λ (x : ℕ). refused_or x (done_text (end j) solves.norm)) (number_is b l r v);
            };
        grown = grown;
      }

-- ---- by the bytes

-- lists that are read from bytes, each with its own length, are the job's
pub job_read : (bytes : List ℕ) {n m₁ m₂ m₃ m₄ k : ℕ} {from to sources : List ℕ} {weight : List Float} {s : Settings}
    → n ≡ nodes_in bytes → from ≡ words_at bytes 56 16 m₁ → to ≡ words_at bytes 60 16 m₂ → weight ≡ floats_at bytes 64 16 m₃ → sources ≡ words_at bytes (56 + 16 * m₄) 4 k → s ≡ settings_in bytes
    → m₁ ≡ links_in bytes → m₂ ≡ m₁ → m₃ ≡ m₁ → m₄ ≡ m₁ → k ≡ sources_in bytes
    → job_of n from to weight sources s ≡ job_in bytes
unfolding job_in
job_read bytes hn hf ht hw hs h l₁ l₂ l₃ l₄ lk = rw (hn, hf, ht, hw, hs, h, l₄, l₃, l₂, l₁, lk) refl

module _ (bytes : List ℕ) {text text' : List ℕ} {r : ℕ} where
  -- bytes of another shape
  pub misshapen_writes : shaped bytes ≡ false → Grown 0 (refused_line 8) text r text' → Writes (prints bytes) text r text'
  unfolding ◌when◌ ◌or◌ refused_or
  misshapen_writes h g = rw h (record { part = refused_line 8; printed = record { norm = +0; is_norm = λ e. absurd (omega arith); is_text = refl }; grown = g })

  -- and of a job's
  pub shaped_writes : shaped bytes ≡ true → writes (job_in bytes) text r text' → Writes (prints bytes) text r text'
  unfolding ◌when◌ ◌or◌
  shaped_writes h w = rw h w
