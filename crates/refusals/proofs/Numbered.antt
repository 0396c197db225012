-- The number of a row of tests of which each may end it, as `?` does: the first refusal is that of the row, and where a test passes it is that of the rest.
-- Assumes nothing.
use Prim.Native.Nat.{ℕ, zero, suc, ◌≤◌}
use mathlib.Core.Path.{◌≡◌, ◌∙◌, refl, sym, ap}
use Rattle.std.proofs.Common.{List, [], ◌∷◌, get_or}
use native.Mathlib.Omega.{arith}
use Rattle.refusals.specs.declared.refusal.Refusal.{Refusal}
use Rattle.refusals.specs.declared.refusal.Refusal.TheVariants.{TooManyNodes, TooManyLinks, WrongLength, UnsoundRows, UnsoundWeight, UnsoundSettings, UnsoundPrecision, UnsoundJob, Other}
use Rattle.refusals.specs.Refusals.{◌or◌}
use Rattle.refusals.specs.Answered.{number_of}

-- no refusal has the number 0
pub above_zero : (e : Refusal) → number_of e ≡ 0 → ⊥
unfolding number_of
above_zero TooManyNodes h = omega arith
above_zero TooManyLinks h = omega arith
above_zero WrongLength h = omega arith
above_zero UnsoundRows h = omega arith
above_zero UnsoundWeight h = omega arith
above_zero UnsoundSettings h = omega arith
above_zero UnsoundPrecision h = omega arith
above_zero UnsoundJob h = omega arith
above_zero (Other own) h = omega (arith, own.behind)

-- the first test refuses
pub stops : (e : Refusal) (a b : ℕ) → number_of e ≡ a → number_of e ≡ a or b
unfolding ◌or◌
stops e zero b h = absurd (above_zero e h)
stops e (suc a) b h = h

-- the first test passes
pub goes_on : (a b : ℕ) {r : ℕ} → 0 ≡ a → r ≡ b → r ≡ a or b
unfolding ◌or◌
goes_on zero b h g = g
goes_on (suc a) b h g = absurd (omega arith)

-- the table, from 1 on: what stands at 0 is not a refusal's
table : List Refusal
table = TooManyNodes ∷ TooManyNodes ∷ TooManyLinks ∷ WrongLength ∷ UnsoundRows ∷ UnsoundWeight ∷ UnsoundSettings ∷ UnsoundPrecision ∷ UnsoundJob ∷ []

-- a number of the table has one name
one_name : (e : Refusal) → number_of e ≤ 8 → get_or table (number_of e) TooManyNodes ≡ e
unfolding number_of table
one_name TooManyNodes h = refl
one_name TooManyLinks h = refl
one_name WrongLength h = refl
one_name UnsoundRows h = refl
one_name UnsoundWeight h = refl
one_name UnsoundSettings h = refl
one_name UnsoundPrecision h = refl
one_name UnsoundJob h = refl
one_name (Other own) h = absurd (omega (arith, own.behind, h))

-- so that two refusals with one number of the table are the same
pub one_refusal : (e e' : Refusal) → number_of e ≤ 8 → number_of e ≡ number_of e' → e ≡ e'
one_refusal e e' h same = sym (one_name e h) ∙ ap (λ (k : ℕ). get_or table k TooManyNodes) same ∙ one_name e' (omega (arith, h, same))
