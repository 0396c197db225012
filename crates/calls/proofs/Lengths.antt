-- Lengths that are tested in parts are tested as a whole, and a call in which other lengths are tested besides. Assumes nothing.
use Prim.Native.Nat.{ℕ}
use mathlib.Core.Bool.{Bool, true, false, not, ◌||◌, or_assoc, or-false}
use mathlib.Core.List.{List, [], ◌∷◌, ◌++◌}
use mathlib.Core.Path.{◌≡◌, refl, sym, ap, ◌∙◌}
use lib.Dec.{eqb}
use lib.Ieee.{Float}
use Rattle.refusals.specs.Refusals.{lengths_differ}
use Rattle.refusals.specs.Calls.{Outcome}
use Rattle.refusals.specs.declared.Settings.{Settings}
use Rattle.refusals.proofs.Laws.{AsStated, Sized}
use Rattle.rules.specs.Rules.{State, Watch}
use Rattle.calls.specs.Lent.{Counted}
use Rattle.calls.specs.Lent.{Lending, besides, LinksLent}
use Rattle.calls.specs.Outcomes.{given_rows, given_links, ends}
use Rattle.calls.specs.Promises.{Settles}

-- ---- tests in parts

-- what failed before stands beside the others
differ_beside : (a b : Bool) (ps : List (ℕ × ℕ)) → lengths_differ (a || b) ps ≡ (a || lengths_differ b ps)
unfolding lengths_differ
differ_beside a b [] = refl
differ_beside a b (p ∷ ps) = ap (λ (x : Bool). lengths_differ x ps) (or_assoc a b (not (eqb p.0 p.1))) ∙ differ_beside a (b || not (eqb p.0 p.1)) ps

-- two parts, one after the other
differ_append : (b : Bool) (ps qs : List (ℕ × ℕ)) → lengths_differ (lengths_differ b ps) qs ≡ lengths_differ b (ps ++ qs)
unfolding lengths_differ
differ_append b [] qs = refl
differ_append b (p ∷ ps) qs = differ_append (b || not (eqb p.0 p.1)) ps qs

-- the second tested by itself
differ_more : (b : Bool) (ps : List (ℕ × ℕ)) → (b || lengths_differ false ps) ≡ lengths_differ b ps
differ_more b ps = sym (differ_beside b false ps) ∙ ap (λ (x : Bool). lengths_differ x ps) (or-false b)

-- lists, what is tested besides, and two parts of the buffers
pub differ_parts : (ls more ts bs : List (ℕ × ℕ)) {l o t u : Bool} → l ≡ lengths_differ false ls → o ≡ lengths_differ false more → t ≡ lengths_differ (l || o) ts → u ≡ lengths_differ t bs
    → u ≡ lengths_differ false (ls ++ (more ++ (ts ++ bs)))
differ_parts ls more ts bs l o t u =
    u ∙ ap (λ (x : Bool). lengths_differ x bs) (t ∙ ap (λ (x : Bool). lengths_differ x ts) (rw (l, o) (differ_more (lengths_differ false ls) more)))
    ∙ differ_append (lengths_differ (lengths_differ false ls) more) ts bs
    ∙ differ_append (lengths_differ false ls) more (ts ++ bs)
    ∙ differ_append false ls (more ++ (ts ++ bs))

-- ---- other lengths besides

-- lengths whose test gives b: a promise for whatever lengths were tested besides can be used where only the answer of their test is known
pub failing : Bool → List (ℕ × ℕ)
failing true = (0, 1) ∷ []
failing false = []

pub failing_differ : (b : Bool) → b ≡ lengths_differ false (failing b)
unfolding failing lengths_differ
failing_differ true = refl
failing_differ false = refl

-- nothing is tested besides
pub none_besides : false ≡ lengths_differ false []
unfolding lengths_differ
none_besides = refl

-- one length is
pub one_besides : (k n : ℕ) → not (eqb k n) ≡ lengths_differ false ((k, n) ∷ [])
unfolding lengths_differ
one_besides k n = refl

-- two are
pub two_besides : (a b n : ℕ) → (not (eqb a n) || not (eqb b n)) ≡ lengths_differ false ((a, n) ∷ (b, n) ∷ [])
unfolding lengths_differ
two_besides a b n = refl

-- the lengths behind others are as stated
stated_behind : (ps qs : List (ℕ × ℕ)) → AsStated (ps ++ qs) → AsStated qs
stated_behind [] qs h = h
stated_behind (p ∷ ps) qs h = stated_behind ps qs h.1

pub sized_behind : {n m s : ℕ} (ps qs : List (ℕ × ℕ)) → Sized n m s (ps ++ qs) → Sized n m s qs
sized_behind ps qs z = record { nodes = z.nodes; links = z.links; listed = z.listed; long = stated_behind ps qs z.long }

-- a solve is the same, whatever lengths are tested besides
module _ {B : Type 0} (k : Lending State B) (more : List (ℕ × ℕ)) (backward : Bool) (n : ℕ) (s : Settings) (watch : Watch) (sources : List ℕ) where
  pub rows_besides : (starts columns : List ℕ) (weights : List Float) (b : B) {x : Outcome Counted B} → Settles backward (given_rows k n starts columns weights b) s watch sources x
      → Settles backward (given_rows (besides more k) n starts columns weights b) s watch sources x
  unfolding given_rows ends
  rows_besides starts columns weights b d = record { leaves = d.leaves }

  pub links_besides : (from to : List ℕ) (weight : List Float) (b : LinksLent B) {x : Outcome Counted (LinksLent B)} → Settles backward (given_links k n from to weight b) s watch sources x
      → Settles backward (given_links (besides more k) n from to weight b) s watch sources x
  unfolding given_links ends
  links_besides from to weight b d = record { leaves = d.leaves }
