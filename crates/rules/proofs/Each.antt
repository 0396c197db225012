-- What holds of `each`, which does one thing for each of a list: what every step keeps it keeps, and where the steps agree so does it. Assumes nothing.
use mathlib.Core.Path.{◌≡◌, refl, ap, ◌∙◌}
use mathlib.Core.List.{List, [], ◌∷◌, Memᴰ}
use Rattle.rules.specs.Rules.{each}

module _ {A S : Type 0} where
  -- a property that each step keeps
  pub each_keeps : (P : S → Type 0) (f : A → S → S) (xs : List A) (s : S) → ((x : A) → Memᴰ x xs → (t : S) → P t → P (f x t)) → P s → P (each f xs s)
  unfolding each
  each_keeps P f [] s k h = h
  each_keeps P f (x ∷ xs) s k h = each_keeps P f xs (f x s) (λ y m. k y (Memᴰ.tail m)) (k x (Memᴰ.head refl) s h)

  -- steps that agree
  pub each_same : (f g : A → S → S) (xs : List A) (s : S) → ((x : A) → Memᴰ x xs → (t : S) → f x t ≡ g x t) → each f xs s ≡ each g xs s
  unfolding each
  each_same f g [] s e = refl
  each_same f g (x ∷ xs) s e = ap (each f xs) (e x (Memᴰ.head refl) s) ∙ each_same f g xs (g x s) (λ y m. e y (Memᴰ.tail m))
