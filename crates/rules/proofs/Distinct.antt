-- As many numbers below n are among a list of them as the list has distinct ones. Assumes nothing.
use Prim.Native.Nat.{ℕ, zero, suc, ◌+◌, ◌<◌}
use native.Mathlib.Omega.{arith}
use native.Mathlib.Nat.{not-suc-le-zero, zero-add}
use native.Mathlib.Decide.{ℕ_discrete}
use mathlib.Core.Bool.{Bool, true, false, ◌||◌, cond, or-true}
use mathlib.Core.Path.{◌≡◌, refl, ap, ◌∙◌}
use mathlib.Core.List.{List, [], ◌∷◌}
use borrow.Author.Tests.{eqb-true, eq-eqb, ne_eqb}
use lib.ListN.{length}
use lib.Dec.{eqb}
use Rattle.numbers.specs.Tables.{any}
use Rattle.numbers.proofs.Choice.{decided}
use Rattle.marks.specs.Marks.{how_many}
use Rattle.marks.proofs.HowMany.{how_many_same, how_many_none}
use Rattle.rules.specs.Pushed.{distinct}

-- one number more passes
how_many_more : (n v : ℕ) (test : ℕ → Bool) → v < n → test v ≡ false → how_many n (λ u. eqb u v || test u) ≡ suc (how_many n test)
unfolding how_many
how_many_more zero v test h e = absurd (not-suc-le-zero h)
how_many_more (suc n) v test h e = by (ℕ_discrete n v) (λ l. how_many_more n v test l e)
  where
    by : Dec (n ≡ v) → (v < n → how_many n (λ u. eqb u v || test u) ≡ suc (how_many n test))
        → cond (eqb n v || test n) 1 0 + how_many n (λ u. eqb u v || test u) ≡ suc (cond (test n) 1 0 + how_many n test)
    by (yes q) more =
        let o = how_many_same n (λ u. eqb u v || test u) test (λ u l. rw (ne_eqb u v (λ p. omega arith))) in
        let f : test n ≡ false = ap test q ∙ e in
        rw (eq-eqb n v q, f, o) (omega arith)
    by (no q) more = let m = more (omega arith) in rw (ne_eqb n v q, m) (omega arith)

-- a number that is among the others anyway
among_anyway : (u v : ℕ) (vs : List ℕ) → any (eqb v) vs ≡ true → (eqb u v || any (eqb u) vs) ≡ any (eqb u) vs
among_anyway u v vs e = by (eqb u v) refl
  where
    by : (b : Bool) → eqb u v ≡ b → (b || any (eqb u) vs) ≡ any (eqb u) vs
    by true q = rw (eqb-true u v q, e)
    by false q = refl

-- the count
pub distinct_count : (n : ℕ) (vs : List ℕ) → ((v : ℕ) → any (eqb v) vs ≡ true → v < n) → how_many n (λ u. any (eqb u) vs) ≡ length (distinct vs)
unfolding any distinct how_many
distinct_count n [] h = rw zero-add at (how_many_none 0 n (λ u. false) (λ u l. refl))
distinct_count n (v ∷ vs) h =
    let more = distinct_count n vs (λ u t. h u (rw t (or-true (eqb u v)))) in
    decided (λ (l : List ℕ). how_many n (λ u. any (eqb u) (v ∷ vs)) ≡ length l) (any (eqb v) vs)
    (λ e. how_many_same n _ _ (λ u l. among_anyway u v vs e) ∙ more)
    (λ e. how_many_more n v (λ u. any (eqb u) vs) (h v (rw (eq-eqb v v refl))) e ∙ ap suc more)
