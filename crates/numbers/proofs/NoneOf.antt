-- None of a list is of a kind: at each place, of two lists together, and of a list that another was made of. Assumes nothing.
use Prim.Native.Nat.{ℕ, zero, suc, ◌<◌, zero-le, suc-le-suc}
use mathlib.Core.Bool.{Bool, false, ◌||◌}
use mathlib.Core.List.{List, [], ◌∷◌, ◌++◌, map}
use mathlib.Core.Path.{◌≡◌, refl, ap}
use native.Mathlib.Nat.{not-suc-le-zero, le_of_suc-le-suc}
use lib.ListN.{length, get_or}
use Rattle.numbers.specs.Tables.{any}
use Rattle.numbers.proofs.Tests.{neither}

module _ {A : Type 0} (p : A → Bool) where
  -- then what stands at a place is not
  pub none_at : (d : A) (xs : List A) → any p xs ≡ false → (i : ℕ) → i < length xs → p (get_or xs i d) ≡ false
  unfolding any
  none_at d [] h i b = absurd (not-suc-le-zero {n = i} b)
  none_at d (x ∷ xs) h zero b = (neither (p x) _ h).0
  none_at d (x ∷ xs) h (suc i) b = none_at d xs (neither (p x) _ h).1 i (le_of_suc-le-suc b)

  -- and so where none of the places has one
  pub none_if : (d : A) (xs : List A) → ((i : ℕ) → i < length xs → p (get_or xs i d) ≡ false) → any p xs ≡ false
  unfolding any
  none_if d [] h = refl
  none_if d (x ∷ xs) h = rw (h zero (suc-le-suc zero-le)) (none_if d xs (λ i b. h (suc i) (suc-le-suc b)))

  -- two lists, one behind the other
  pub none_append : (xs ys : List A) → any p xs ≡ false → any p ys ≡ false → any p (xs ++ ys) ≡ false
  unfolding any
  none_append [] ys h g = g
  none_append (x ∷ xs) ys h g = let k = neither (p x) _ h in rw k.0 (none_append xs ys k.1 g)

  -- a list of f of each
  pub any_map : {B : Type 0} (f : B → A) (xs : List B) → any p (map f xs) ≡ any (λ x. p (f x)) xs
  unfolding any
  any_map f [] = refl
  any_map f (x ∷ xs) = ap (λ (b : Bool). p (f x) || b) (any_map f xs)
