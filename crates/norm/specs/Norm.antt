-- The norm of the push rules: the square root of the squares added from left to right. Assumes nothing.
use Rattle.std.specs.Prelude.{◌≡◌, refl, List, [], ◌∷◌, true, false, pos, Float}
use Rattle.std.specs.Float.{fin}
use Rattle.std.specs.Float.Ieee.{of_bits, add, mul}
use Rattle.numbers.specs.Numbers.{+0, ◌⊕◌, ◌⊗◌}
use Rattle.norm.specs.SquareRoot.{Root}

-- acc, and then the square of each element, added one after the other, each sum and each square rounded
unfoldable pub add_squares : Float → List Float → Float
add_squares acc [] = acc
add_squares acc (v ∷ vs) = add_squares (acc ⊕ v ⊗ v) vs

-- r is the norm of vs: the root of the squares added from +0
abbrev pub Norm : List Float → Float → Type 0
Norm vs r = Root (add_squares +0 vs) r

-- ---- examples

-- 3² + (-4)² is 25
three_four : add_squares +0 (fin false 3 (pos 0) ∷ fin true 1 (pos 2) ∷ []) ≡ fin false 25 (pos 0)
unfolding add_squares add mul of_bits
three_four = refl

-- the norm of nothing is +0
nothing : Norm [] +0
unfolding add_squares of_bits
nothing = refl
