-- The fields of a job's bytes, which are little-endian. Assumes nothing.
use Rattle.std.specs.Prelude.{ℕ, ◌+◌, ◌*◌, List, [], ◌∷◌, get_or, Float}
use Rattle.numbers.specs.Numbers.{f64}
use Rattle.numbers.specs.Tables.{tabulate}

-- the number of bytes, the lowest first
unfoldable pub number : List ℕ → ℕ
number [] = 0
number (b ∷ bs) = b + 256 * number bs

-- the u32 at a place
unfoldable pub word_at : List ℕ → ℕ → ℕ
unfolding number
word_at bytes at = number (get_or bytes at 0 ∷ get_or bytes (at + 1) 0 ∷ get_or bytes (at + 2) 0 ∷ get_or bytes (at + 3) 0 ∷ [])

-- the f64 at a place
unfoldable pub float_at : List ℕ → ℕ → Float
float_at bytes at = f64 (word_at bytes at + 0x1_0000_0000 * word_at bytes (at + 4))

-- so many u32, the first at a place, and each so many bytes behind the one before
unfoldable pub words_at : List ℕ → ℕ → ℕ → ℕ → List ℕ
unfolding tabulate
words_at bytes at step count = tabulate count (λ i. word_at bytes (at + step * i))

-- so many f64, likewise
unfoldable pub floats_at : List ℕ → ℕ → ℕ → ℕ → List Float
unfolding tabulate
floats_at bytes at step count = tabulate count (λ i. float_at bytes (at + step * i))
