-- The lengths of the bit sets, computed: n/64 rounded up. Assumes nothing.
use Rattle.std.specs.Prelude.{[], ◌∷◌, map, ◌≡◌, refl}
use Rattle.calls.specs.Lent.{words}

pub words_edge : map words (0 ∷ 1 ∷ 64 ∷ 65 ∷ 65536 ∷ []) ≡ 0 ∷ 1 ∷ 1 ∷ 2 ∷ 1024 ∷ []
unfolding words
words_edge = refl
