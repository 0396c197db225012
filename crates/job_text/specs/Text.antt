-- The text that a job prints, in ASCII: its numbers, its lines, and what it is for a text to have grown by a part. `Cases.antt` computes examples.
use Rattle.std.specs.Prelude.{ℕ, zero, suc, ◌+◌, ◌/◌, List, [], ◌∷◌, ◌++◌, ◌≡◌, length, take, drop, ltb, Float}
use Rattle.std.specs.Float.{binary64}
use Rattle.std.specs.Float.Ieee.{to_bits}
use Rattle.io.specs.Digits.{last_digits}
use Rattle.numbers.specs.Choice.{if◌then◌otherwise◌}

-- ---- numbers

-- how many decimal digits n has, counted up to so many and one more
unfoldable pub digit_count : ℕ → ℕ → ℕ
digit_count zero n = 1
digit_count (suc most) n = if ltb n 10 then 1 otherwise suc (digit_count most (n / 10))

-- a whole number below 2 ^ 64, in decimal
unfoldable pub decimal : ℕ → List ℕ
decimal n = last_digits 10 (digit_count 19 n) n

-- a float's bits, as 16 lower-case hex digits; a NaN as 7ff8000000000000
unfoldable pub bits : Float → List ℕ
bits x = last_digits 16 16 (to_bits binary64 x)

-- ---- lines

abbrev pub space : List ℕ
space = 32 ∷ []

-- LF
abbrev pub line_end : List ℕ
line_end = 10 ∷ []

-- fields parted by one space, and the end of the line
abbrev pub line : List (List ℕ) → List ℕ
line [] = line_end
line (f ∷ []) = f ++ line_end
line (f ∷ g ∷ fs) = f ++ (space ++ line (g ∷ fs))

-- refused
abbrev pub refused_word : List ℕ
refused_word = 114 ∷ 101 ∷ 102 ∷ 117 ∷ 115 ∷ 101 ∷ 100 ∷ []

-- done
abbrev pub done_word : List ℕ
done_word = 100 ∷ 111 ∷ 110 ∷ 101 ∷ []

-- `refused` and the number
unfoldable pub refused_line : ℕ → List ℕ
refused_line number = line (refused_word ∷ decimal number ∷ [])

-- `done`, pushes, visited, norm bits
unfoldable pub done_line : ℕ → ℕ → Float → List ℕ
done_line pushes visited norm = line (done_word ∷ decimal pushes ∷ decimal visited ∷ bits norm ∷ [])

-- a node's number, estimate bits, residual bits
unfoldable pub node_line : ℕ → Float → Float → List ℕ
node_line v estimate residual = line (decimal v ∷ bits estimate ∷ bits residual ∷ [])

-- the lines of the nodes from v on
unfoldable pub node_lines : ℕ → List Float → List Float → List ℕ
node_lines v [] rs = []
node_lines v (e ∷ es) [] = []
node_lines v (e ∷ es) (r ∷ rs) = node_line v e r ++ node_lines (suc v) es rs

-- ---- a text in a buffer

-- the first `at` bytes of the text grew by a part, the next is at r, and the bytes from there on are as they were
pub record Grown (at : ℕ) (part text : List ℕ) (r : ℕ) (text' : List ℕ) : Type 0 where
  pub next : r ≡ at + length part
  pub same_room : length text' ≡ length text
  pub holds : take r text' ≡ take at text ++ part
  pub behind : drop r text' ≡ drop r text
