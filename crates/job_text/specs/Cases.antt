-- The text of a job, computed: case P1, a refusal, and the edges of numbers. Assumes nothing.
use Rattle.std.specs.Prelude.{[], ◌∷◌, ◌≡◌, refl}
use Rattle.std.specs.Float.{nan}
use Rattle.std.specs.Float.Ieee.{to_bits, of_bits}
use Rattle.numbers.specs.Choice.{if◌then◌otherwise◌}
use Rattle.numbers.specs.Numbers.{f64, +0}
use Rattle.job_text.specs.Text.{digit_count, decimal, bits, refused_line, done_line, node_line, node_lines}

-- 0
zero : decimal 0
    ≡ 48 ∷ []
unfolding digit_count decimal if◌then◌otherwise◌
zero = refl

-- 10
ten : decimal 10
    ≡ 49 ∷ 48 ∷ []
unfolding digit_count decimal if◌then◌otherwise◌
ten = refl

-- the greatest u64
most : decimal 18446744073709551615
    ≡ 49 ∷ 56 ∷ 52 ∷ 52 ∷ 54 ∷ 55 ∷ 52 ∷ 52 ∷ 48 ∷ 55 ∷ 51 ∷ 55 ∷ 48 ∷ 57 ∷ 53 ∷ 53 ∷ 49 ∷ 54 ∷ 49 ∷ 53 ∷ []
unfolding digit_count decimal if◌then◌otherwise◌
most = refl

-- a NaN
no_number : bits nan
    ≡ 55 ∷ 102 ∷ 102 ∷ 56 ∷ 48 ∷ 48 ∷ 48 ∷ 48 ∷ 48 ∷ 48 ∷ 48 ∷ 48 ∷ 48 ∷ 48 ∷ 48 ∷ 48 ∷ []
unfolding bits to_bits of_bits
no_number = refl

-- -0
less_zero : bits (f64 0x8000_0000_0000_0000)
    ≡ 56 ∷ 48 ∷ 48 ∷ 48 ∷ 48 ∷ 48 ∷ 48 ∷ 48 ∷ 48 ∷ 48 ∷ 48 ∷ 48 ∷ 48 ∷ 48 ∷ 48 ∷ 48 ∷ []
unfolding bits to_bits of_bits
less_zero = refl

-- a job of a wrong shape
refused_eight : refused_line 8
    ≡ 114 ∷ 101 ∷ 102 ∷ 117 ∷ 115 ∷ 101 ∷ 100 ∷ 32 ∷ 56 ∷ 10 ∷ []
unfolding digit_count decimal refused_line if◌then◌otherwise◌
refused_eight = refl

-- P1, line by line
first_line : done_line 3 2 (f64 0x3fc0_0000_0000_0000)
    ≡ 100 ∷ 111 ∷ 110 ∷ 101 ∷ 32 ∷ 51 ∷ 32 ∷ 50 ∷ 32 ∷ 51 ∷ 102 ∷ 99 ∷ 48 ∷ 48 ∷ 48 ∷ 48 ∷ 48 ∷ 48 ∷ 48 ∷ 48 ∷ 48 ∷ 48 ∷ 48 ∷ 48 ∷ 48 ∷ 10 ∷ []
unfolding digit_count decimal bits to_bits of_bits done_line if◌then◌otherwise◌
first_line = refl

two_node_lines : node_lines 0 (f64 0x3fe0_0000_0000_0000 ∷ f64 0x3fd8_0000_0000_0000 ∷ []) (+0 ∷ f64 0x3fc0_0000_0000_0000 ∷ [])
    ≡ 48 ∷ 32 ∷ 51 ∷ 102 ∷ 101 ∷ 48 ∷ 48 ∷ 48 ∷ 48 ∷ 48 ∷ 48 ∷ 48 ∷ 48 ∷ 48 ∷ 48 ∷ 48 ∷ 48 ∷ 48 ∷ 32 ∷ 48 ∷ 48 ∷ 48 ∷ 48 ∷ 48 ∷ 48 ∷ 48 ∷ 48 ∷ 48 ∷ 48 ∷ 48 ∷ 48 ∷ 48 ∷ 48 ∷ 48 ∷ 48 ∷ 10 ∷ 49 ∷ 32 ∷ 51 ∷ 102 ∷ 100 ∷ 56 ∷ 48 ∷ 48 ∷ 48 ∷ 48 ∷ 48 ∷ 48 ∷ 48 ∷ 48 ∷ 48 ∷ 48 ∷ 48 ∷ 48 ∷ 32 ∷ 51 ∷ 102 ∷ 99 ∷ 48 ∷ 48 ∷ 48 ∷ 48 ∷ 48 ∷ 48 ∷ 48 ∷ 48 ∷ 48 ∷ 48 ∷ 48 ∷ 48 ∷ 48 ∷ 10 ∷ []
unfolding digit_count decimal bits to_bits of_bits node_line node_lines if◌then◌otherwise◌
two_node_lines = refl
