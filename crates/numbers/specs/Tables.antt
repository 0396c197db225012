-- Lists that are given by a rule, a table of a function and a list made longer; and whether one of a list is of a kind, and which are. Assumes nothing.
use Rattle.std.specs.Prelude.{ℕ, zero, suc, ◌-◌, Bool, false, ◌||◌, List, [], ◌∷◌, ◌++◌, ◌≡◌, refl, length, replicate, ltb}
use Rattle.numbers.specs.Choice.{if◌then◌otherwise◌}

-- f 0, f 1, .., f (n - 1)
unfoldable pub tabulate : {A : Type 0} → ℕ → (ℕ → A) → List A
tabulate zero f = []
tabulate (suc n) f = let h = f zero in h ∷ tabulate n (λ k. f (suc k))

-- a list, and as many z behind it as make m in all
unfoldable pub padded : {A : Type 0} → ℕ → A → List A → List A
padded m z l = l ++ replicate (m - length l) z

-- whether one of a list is of a kind; mathlib's own is shut, so that nothing computes with it
unfoldable pub any : {A : Type 0} → (A → Bool) → List A → Bool
any p [] = false
any p (x ∷ xs) = p x || any p xs

-- those of a list that are of a kind, in their order
unfoldable pub only : {A : Type 0} → (A → Bool) → List A → List A
unfolding if◌then◌otherwise◌
only p [] = []
only p (x ∷ xs) = if p x then x ∷ only p xs otherwise only p xs

-- ---- examples

-- the first three numbers
three : tabulate 3 (λ k. k) ≡ 0 ∷ 1 ∷ 2 ∷ []
unfolding tabulate
three = refl

-- two numbers, made four
four : padded {A = ℕ} 4 0 (7 ∷ 8 ∷ []) ≡ 7 ∷ 8 ∷ 0 ∷ 0 ∷ []
unfolding padded
four = refl

-- those below 4
below : only (λ k. ltb k 4) (7 ∷ 3 ∷ 5 ∷ 1 ∷ 3 ∷ []) ≡ 3 ∷ 1 ∷ 3 ∷ []
unfolding only
below = refl
