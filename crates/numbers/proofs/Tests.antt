-- Boolean tests as facts: `T b` says that the test b passes, and what it says of two tests that both pass, or that neither does. Assumes nothing.
use mathlib.Core.Path.{◌≡◌, refl, sym, subst}
use mathlib.Core.Logic.{◌⊎◌, inl, inr}
use mathlib.Core.Bool.{Bool, true, false, ◌&&◌, ◌||◌, true≢false}
use lib.Dec.{T}

-- a test that is known to pass or to fail
pub of_true : {b : Bool} → b ≡ true → T b
of_true e = subst T (sym e) tt

pub to_true : (b : Bool) → T b → b ≡ true
to_true true t = refl
to_true false t = absurd t

pub of_false : {b : Bool} → b ≡ false → T b → ⊥
of_false e t = subst T e t

-- `||`
pub or_cases : (a b : Bool) → T (a || b) → T a ⊎ T b
or_cases true b t = inl tt
or_cases false b t = inr t

pub or_left : (a b : Bool) → T a → T (a || b)
or_left true b t = tt
or_left false b t = absurd t

pub or_right : (a b : Bool) → T b → T (a || b)
or_right true b t = tt
or_right false b t = t

-- two tests that pass together are equal
pub same_test : (a b : Bool) → (T a → T b) → (T b → T a) → a ≡ b
same_test true true f g = refl
same_test true false f g = absurd (f tt)
same_test false true f g = absurd (g tt)
same_test false false f g = refl

-- both pass
pub both : (a b : Bool) → a && b ≡ true → (a ≡ true) × (b ≡ true)
both true b h = (refl, h)
both false b h = absurd (true≢false (sym h))

-- neither passes
pub neither : (a b : Bool) → a || b ≡ false → (a ≡ false) × (b ≡ false)
neither true b h = absurd (true≢false h)
neither false b h = (refl, h)

-- one that fails is enough for both together to fail
pub fails_right : (a b : Bool) → b ≡ false → a && b ≡ false
fails_right true b h = h
fails_right false b h = refl
