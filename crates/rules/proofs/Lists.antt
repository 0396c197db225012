-- Two laws of reading a list at a place. Assumes nothing.
use Prim.Native.Nat.{ℕ, zero, suc, ◌<◌}
use native.Mathlib.Nat.{le_of_suc-le-suc, not-suc-le-zero}
use mathlib.Core.Path.{◌≡◌, refl}
use mathlib.Core.List.{List, [], ◌∷◌}
use lib.ListN.{length, get_or, replicate}

-- a list of n times a has a everywhere, and past its end
pub all_alike : {A : Type 0} (n v : ℕ) (a : A) → get_or (replicate n a) v a ≡ a
all_alike zero v a = refl
all_alike (suc n) zero a = refl
all_alike (suc n) (suc v) a = all_alike n v a

-- below the length the default does not matter
pub other_default : {A : Type 0} (xs : List A) (v : ℕ) (d e : A) → v < length xs → get_or xs v d ≡ get_or xs v e
other_default [] v d e h = absurd (not-suc-le-zero h)
other_default (x ∷ xs) zero d e h = refl
other_default (x ∷ xs) (suc v) d e h = other_default xs v d e (le_of_suc-le-suc h)
