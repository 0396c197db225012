-- The fields and the shape of a job, computed at the 76 bytes of case P1 and at what is wrong with one of them. Assumes nothing.
use Rattle.std.specs.Prelude.{ℕ, true, false, List, [], ◌∷◌, ◌++◌, map, ◌≡◌, refl, set, take}
use Rattle.std.specs.Float.Ieee.{of_bits}
use Rattle.numbers.specs.Numbers.{f64}
use Rattle.numbers.specs.Tables.{tabulate}
use Rattle.job_fields.specs.Fields.{number, word_at, float_at, words_at, floats_at}
use Rattle.job_fields.specs.Shape.{shaped}

-- P1: header, settings, link, source
unfoldable pub chain_job : List ℕ
chain_job =
    2 ∷ 0 ∷ 0 ∷ 0 ∷ 1 ∷ 0 ∷ 0 ∷ 0 ∷ 1 ∷ 0 ∷ 0 ∷ 0 ∷ 24 ∷ 0 ∷ 0 ∷ 0 ∷ 56 ∷ 0 ∷ 0 ∷ 0 ∷ 72 ∷ 0 ∷ 0 ∷ 0
    ∷ 0 ∷ 0 ∷ 0 ∷ 0 ∷ 0 ∷ 0 ∷ 224 ∷ 63 ∷ 0 ∷ 0 ∷ 0 ∷ 0 ∷ 0 ∷ 0 ∷ 208 ∷ 63 ∷ 0 ∷ 0 ∷ 0 ∷ 0 ∷ 0 ∷ 0 ∷ 208 ∷ 63 ∷ 10 ∷ 0 ∷ 0 ∷ 0 ∷ 0 ∷ 0 ∷ 0 ∷ 0
    ∷ 0 ∷ 0 ∷ 0 ∷ 0 ∷ 1 ∷ 0 ∷ 0 ∷ 0 ∷ 0 ∷ 0 ∷ 0 ∷ 0 ∷ 0 ∷ 0 ∷ 240 ∷ 63
    ∷ 0 ∷ 0 ∷ 0 ∷ 0 ∷ []

words : words_at chain_job 0 4 6 ≡ 2 ∷ 1 ∷ 1 ∷ 24 ∷ 56 ∷ 72 ∷ []
unfolding chain_job words_at word_at number tabulate
words = refl

floats : floats_at chain_job 24 8 3 ≡ f64 0x3fe0_0000_0000_0000 ∷ f64 0x3fd0_0000_0000_0000 ∷ f64 0x3fd0_0000_0000_0000 ∷ []
unfolding chain_job floats_at float_at word_at number tabulate of_bits
floats = refl

-- the job; a byte more, a byte less, nothing; 257 nodes; offsets 25, 57 and 73; flags 1 and 2
shapes : map shaped
    (chain_job ∷ (chain_job ++ (0 ∷ [])) ∷ take 75 chain_job ∷ [] ∷ set (set chain_job 0 1) 1 1 ∷ set chain_job 12 25 ∷ set chain_job 16 57 ∷ set chain_job 20 73 ∷ set chain_job 52 1 ∷ set chain_job 52 2 ∷ [])
    ≡ true ∷ false ∷ false ∷ false ∷ false ∷ false ∷ false ∷ false ∷ true ∷ false ∷ []
unfolding chain_job shaped word_at number
shapes = refl
