-- What holds of a choice: by the way that its test goes, or whichever way. Assumes nothing.
use mathlib.Core.Path.{◌≡◌, refl}
use mathlib.Core.Bool.{Bool, true, false}
use Rattle.numbers.specs.Choice.{if◌then◌otherwise◌}

pub decided : {A : Type 0} (P : A → Type 0) (b : Bool) {x y : A} → (b ≡ true → P x) → (b ≡ false → P y) → P (if b then x otherwise y)
unfolding if◌then◌otherwise◌
decided P true p q = p refl
decided P false p q = q refl

pub either : {A : Type 0} (P : A → Type 0) (b : Bool) {x y : A} → P x → P y → P (if b then x otherwise y)
either P b p q = decided P b (λ e. p) (λ e. q)
