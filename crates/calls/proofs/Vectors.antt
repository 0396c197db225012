-- Where the two vectors of a solve stand: in what a kind of call is lent, said once for each kind, and so in what a call leaves, with rows and with a list of
-- links. Assumes nothing.
use Prim.Native.Nat.{ℕ}
use mathlib.Core.List.{List}
use mathlib.Core.Path.{◌≡◌, refl}
use lib.Ieee.{Float}
use Rattle.rules.specs.Rules.{State}
use Rattle.calls.specs.Lent.{solve_done, Lending, besides, solving, LinksLent, links_done}
use Rattle.calls.specs.Outcomes.{Given, given_rows, given_links}

-- in what a kind of call is lent
pub record Vectors {B : Type 0} (k : Lending State B) : Type 0 where
  pub estimate_of : B → List Float
  pub residual_of : B → List Float
  pub estimate_done : (s : State) (n m : ℕ) → estimate_of (k.done n m s) ≡ s.estimate
  pub residual_done : (s : State) (n m : ℕ) → residual_of (k.done n m s) ≡ s.residual

-- in what a call leaves
pub record LeftVectors {B : Type 0} (g : Given State B) : Type 0 where
  pub estimate_of : B → List Float
  pub residual_of : B → List Float
  pub estimate_after : (s : State) → estimate_of (g.after s) ≡ s.estimate
  pub residual_after : (s : State) → residual_of (g.after s) ≡ s.residual

-- ---- by the form of the call

-- a part that is c after a call
module _ {S B C : Type 0} (k : Lending S B) (part : B → C) (s : S) (c : C) (holds : (n m : ℕ) → part (k.done n m s) ≡ c) where
  pub rows_after : (n : ℕ) (starts columns : List ℕ) (weights : List Float) (b : B) → part ((given_rows k n starts columns weights b).after s) ≡ c
  unfolding given_rows
  rows_after n starts columns weights b = holds n _

  pub links_after : (n : ℕ) (from to : List ℕ) (weight : List Float) (b : LinksLent B) → part ((given_links k n from to weight b).after s).rest ≡ c
  unfolding given_links links_done
  links_after n from to weight b = holds n _

module _ {B : Type 0} {k : Lending State B} (w : Vectors k) where
  -- with rows
  abbrev pub rows_vectors : (n : ℕ) (starts columns : List ℕ) (weights : List Float) (b : B) → LeftVectors (given_rows k n starts columns weights b)
  rows_vectors n starts columns weights b =
      record {
        estimate_of = w.estimate_of;
        residual_of = w.residual_of;
        estimate_after = λ s. rows_after k w.estimate_of s _ (w.estimate_done s) n starts columns weights b;
        residual_after = λ s. rows_after k w.residual_of s _ (w.residual_done s) n starts columns weights b;
      }

  -- with a list of links
  abbrev pub links_vectors : (n : ℕ) (from to : List ℕ) (weight : List Float) (b : LinksLent B) → LeftVectors (given_links k n from to weight b)
  links_vectors n from to weight b =
      record {
        estimate_of = λ x. w.estimate_of x.rest;
        residual_of = λ x. w.residual_of x.rest;
        estimate_after = λ s. links_after k w.estimate_of s _ (w.estimate_done s) n from to weight b;
        residual_after = λ s. links_after k w.residual_of s _ (w.residual_done s) n from to weight b;
      }

  -- where other lengths are tested besides
  abbrev pub besides_vectors : (more : List (ℕ × ℕ)) → Vectors (besides more k)
  besides_vectors more = record { estimate_of = w.estimate_of; residual_of = w.residual_of; estimate_done = w.estimate_done; residual_done = w.residual_done }

-- ---- by the kind of call

module _ (n : ℕ) (estimate residual : List Float) where
  pub done_estimate : (solve_done n estimate residual).estimate ≡ estimate
  unfolding solve_done
  done_estimate = refl

  pub done_residual : (solve_done n estimate residual).residual ≡ residual
  unfolding solve_done
  done_residual = refl

-- a forward call
abbrev pub forward_vectors : Vectors solving
forward_vectors =
    record {
      estimate_of = λ b. b.estimate;
      residual_of = λ b. b.residual;
      estimate_done = λ s n m. done_estimate n s.estimate s.residual;
      residual_done = λ s n m. done_residual n s.estimate s.residual;
    }
