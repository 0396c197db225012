-- The laws of refusal numbers and of a call's outcome: what a proof of an entry cites. Assumes nothing.
use Prim.Native.Nat.{ℕ, zero, suc, ◌<◌, ◌≤◌}
use mathlib.Core.Bool.{Bool, true, false, not, ◌||◌}
use mathlib.Core.List.{List, [], ◌∷◌}
use mathlib.Core.Path.{◌≡◌, refl, sym, ap, ◌∙◌}
use native.Mathlib.Omega.{arith}
use native.Mathlib.Nat.{not-suc-le-zero, le_of_suc-le-suc}
use lib.ListN.{length, get_or}
use lib.Ieee.{Float}
use lib.Dec.{eqb, leb, ltb}
use borrow.Author.Tests.{eqb-true, eqb-false, ltb-false, leb-false, not-false}
use Rattle.numbers.proofs.NoneOf.{none_at}
use Rattle.numbers.proofs.Tests.{neither}
use Rattle.numbers.specs.Numbers.{+0, one}
use Rattle.numbers.specs.Tables.{any}
use Rattle.refusals.specs.declared.Settings.{Settings}
use Rattle.refusals.specs.Refusals.{◌or◌, ◌when◌, within, wrong, falls, lengths_differ, refuse_nodes, refuse_links, refuse_listed, refuse_lengths, refuse_sizes, refuse_rows, refuse_weights, refuse_alpha, refuse_adaptive, refuse_settings, Sound, link_tests, row_tests}
use Rattle.refusals.specs.Calls.{Outcome, outcome_of, by_refusal}
use Rattle.refusals.specs.declared.refusal.Refusal.{Refusal}
use Rattle.refusals.specs.Answered.{number_of}
use Rattle.refusals.proofs.Numbered.{above_zero}

-- ---- the first number

-- neither applies where the whole is 0
pub or_zero : (a b : ℕ) → a or b ≡ 0 → (a ≡ 0) × (b ≡ 0)
unfolding ◌or◌
or_zero zero b h = (refl, h)
or_zero (suc a) b h = absurd (omega arith)

-- a test that does not apply
when_zero : (k : ℕ) (b : Bool) → suc k when b ≡ 0 → b ≡ false
unfolding ◌when◌
when_zero k true h = absurd (omega arith)
when_zero k false h = refl

-- ---- lengths

-- the two numbers of each pair are equal
abbrev pub AsStated : List (ℕ × ℕ) → Type 0
AsStated [] = Unit
AsStated (p ∷ ps) = (p.0 ≡ p.1) × AsStated ps

-- what is under `lengths_differ` fails where it fails
differ_false : (b : Bool) (ps : List (ℕ × ℕ)) → lengths_differ b ps ≡ false → b ≡ false
unfolding lengths_differ
differ_false b [] h = h
differ_false b (p ∷ ps) h = (neither b _ (differ_false (b || not (eqb p.0 p.1)) ps h)).0

-- all lengths are as stated
pub as_stated : (b : Bool) (ps : List (ℕ × ℕ)) → lengths_differ b ps ≡ false → AsStated ps
unfolding lengths_differ
as_stated b [] h = tt
as_stated b (p ∷ ps) h = (eqb-true _ _ (not-false _ (neither b _ (differ_false _ ps h)).1), as_stated (b || not (eqb p.0 p.1)) ps h)

-- ---- what a call has that is not refused

-- by its sizes
pub record Sized (n m s : ℕ) (ps : List (ℕ × ℕ)) : Type 0 where
  pub nodes : n ≤ 65536
  pub links : m ≤ 1048576
  pub listed : s ≤ 65536
  pub long : AsStated ps

-- from the number
pub sized : (n m s : ℕ) (ps : List (ℕ × ℕ)) → refuse_sizes n m s ps ≡ 0 → Sized n m s ps
unfolding refuse_nodes refuse_links refuse_listed refuse_lengths
sized n m s ps h =
    let a = or_zero _ _ h in
    let b = or_zero _ _ a.1 in
    let d = or_zero _ _ b.1 in
    record {
      nodes = ltb-false _ _ (when_zero 0 _ a.0);
      links = ltb-false _ _ (when_zero 1 _ b.0);
      listed = ltb-false _ _ (when_zero 1 _ d.0);
      long = as_stated false ps (when_zero 2 _ d.1);
    }

-- by its settings: alpha is a part
pub alpha_within : (s : Settings) → Sound s → within +0 one s.alpha ≡ true
unfolding refuse_settings refuse_alpha
alpha_within s h = not-false _ (when_zero 5 _ (or_zero _ _ h).0)

-- and the step
pub step_above_zero : (s : Settings) → Sound s → 0 < s.adaptive_step
unfolding refuse_settings refuse_adaptive
step_above_zero s h =
    let floor = neither _ _ (when_zero 5 _ (or_zero _ _ (or_zero _ _ h).1).1) in
    let lowering = neither _ _ floor.0 in
    let raising = neither _ _ lowering.0 in
    let above = eqb-false s.adaptive_step 0 (neither _ _ raising.0).0 in
    omega (arith, above)

-- no number is below the one before
steady : (s : List ℕ) → falls s ≡ false → (v : ℕ) → suc v < length s → get_or s v 0 ≤ get_or s (suc v) 0
unfolding falls
steady [] h v b = absurd (not-suc-le-zero {n = suc v} b)
steady (a ∷ []) h v b = absurd (not-suc-le-zero {n = v} (le_of_suc-le-suc b))
steady (a ∷ b ∷ s) h zero k = ltb-false b a (neither (ltb b a) _ h).0
steady (a ∷ b ∷ s) h (suc v) k = steady (b ∷ s) (neither (ltb b a) _ h).1 v (le_of_suc-le-suc k)

-- by its rows
pub record Fine (n : ℕ) (starts columns : List ℕ) : Type 0 where
  pub begins : get_or starts 0 0 ≡ 0
  pub rises : (v : ℕ) → suc v < length starts → get_or starts v 0 ≤ get_or starts (suc v) 0
  pub ends : get_or starts n 0 ≡ length columns
  pub inside : (i : ℕ) → i < length columns → get_or columns i 0 < n

-- from the number
pub fine : (n : ℕ) (starts columns : List ℕ) → refuse_rows n starts columns ≡ 0 → Fine n starts columns
unfolding refuse_rows
fine n starts columns h =
    let a = neither _ _ (when_zero 3 _ h) in
    let b = neither _ _ a.0 in
    let d = neither _ _ b.0 in
    record {
      begins = eqb-true _ _ (not-false _ d.0);
      rises = steady starts d.1;
      ends = eqb-true _ _ (not-false _ b.1);
      inside = λ i k. leb-false _ _ (none_at (λ v. leb n v) 0 columns a.1 i k);
    }

-- a call with a list of links
pub links_passed : (n m s : ℕ) (ps : List (ℕ × ℕ)) (ws : List Float) {r : ℕ} → r ≡ link_tests n m s ps ws → r ≡ 0 → Sized n m s ps
links_passed n m s ps ws e h = sized n m s ps (or_zero _ _ (sym e ∙ h)).0

-- none of its weights is wrong
pub links_sound : (n m s : ℕ) (ps : List (ℕ × ℕ)) (ws : List Float) {r : ℕ} → r ≡ link_tests n m s ps ws → r ≡ 0 → any wrong ws ≡ false
unfolding refuse_weights
links_sound n m s ps ws e h = when_zero 4 _ (or_zero _ _ (sym e ∙ h)).1

-- a call with rows
pub rows_passed : (n s : ℕ) (ps : List (ℕ × ℕ)) (starts columns : List ℕ) (ws : List Float) {r : ℕ}
    → r ≡ row_tests n s ps starts columns ws → r ≡ 0 → Sized n (length columns) s ps × Fine n starts columns
rows_passed n s ps starts columns ws e h =
    let a = or_zero _ _ (sym e ∙ h) in
    (sized n (length columns) s ps a.0, fine n starts columns (or_zero _ _ a.1).0)

-- a call with settings, and with tests after those
pub settings_sound : (tests : ℕ) (s : Settings) (further : ℕ) {r : ℕ} → r ≡ tests or refuse_settings s or further → r ≡ 0 → Sound s × (further ≡ 0)
settings_sound tests s further e h = or_zero _ _ (or_zero _ _ (sym e ∙ h)).1

-- ---- the outcome

module _ {A B : Type 0} (answer : ℕ → A) (lent : B) (done : Outcome A B) where
  -- r, the number, is not 0: the call is refused
  pub refused : (k : ℕ) {r : ℕ} → r ≡ k → (r ≡ 0 → ⊥) → outcome_of (answer r) lent ≡ by_refusal k answer lent done
  unfolding by_refusal
  refused zero e h = absurd (h e)
  refused (suc k) e h = rw e

  -- a call that is refused for e
  pub refused_for : (e : Refusal) (k : ℕ) → number_of e ≡ k → outcome_of (answer (number_of e)) lent ≡ by_refusal k answer lent done
  refused_for e k h = refused k h (above_zero e)

  -- it is 0: the call leaves x, as it should
  pub accepted : (k : ℕ) {r : ℕ} {x : Outcome A B} → r ≡ k → r ≡ 0 → x ≡ done → x ≡ by_refusal k answer lent done
  unfolding by_refusal
  accepted k e h g = rw (sym e ∙ h) g

  -- where an answer says its number, a refusal its own and a done call 0
  module _ (number : A → ℕ) (own : (k : ℕ) → number (answer k) ≡ k) (none_done : number done.answer ≡ 0) where
    -- a call that answers 0 has the number 0
    pub number_zero : (k : ℕ) {x : Outcome A B} → x ≡ by_refusal k answer lent done → number x.answer ≡ 0 → k ≡ 0
    unfolding by_refusal
    number_zero zero e h = refl
    number_zero (suc k) e h = sym (own (suc k)) ∙ sym (ap (λ (y : Outcome A B). number y.answer) e) ∙ h

    -- and leaves what it should
    pub left_done : (k : ℕ) {x : Outcome A B} → x ≡ by_refusal k answer lent done → number x.answer ≡ 0 → x ≡ done
    unfolding by_refusal
    left_done k e h = e ∙ ap (λ (j : ℕ). by_refusal j answer lent done) (number_zero k e h)

-- Two calls leave the same where one equation says what they leave.
pub agree : {A : Type 0} {x y z : A} → x ≡ z → y ≡ z → x ≡ y
agree p q = p ∙ sym q

-- And so where the equation leaves a part open that a relation R pins down in a call that is done, as `Root` does a norm.
pub agree_by : {A B N : Type 0} (answer : ℕ → A) (lent : B) (done : N → Outcome A B) (R : N → Type 0) → ((p q : N) → R p → R q → p ≡ q)
    → (k : ℕ) (p q : N) {x y : Outcome A B} → (k ≡ 0 → R p) → (k ≡ 0 → R q) → x ≡ by_refusal k answer lent (done p) → y ≡ by_refusal k answer lent (done q) → x ≡ y
unfolding by_refusal
agree_by answer lent done R one zero p q f g d e = d ∙ ap done (one p q (f refl) (g refl)) ∙ sym e
agree_by answer lent done R one (suc k) p q f g d e = d ∙ sym e
