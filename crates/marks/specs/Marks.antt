-- A set of nodes as bits of words of 64: a node's mark is bit node mod 64 of word node div 64. What `mark` and `unmark` leave, and what `count` gives.
use Rattle.std.specs.Prelude.{◌≡◌, ◌≢◌, Bool, cond, List, [], ◌∷◌, ℕ, zero, suc, ◌+◌, ◌/◌, ◌%◌, ◌^◌, length, get_or, eqb}
use Rattle.std.specs.Int.Count.{ones}

-- the bit j of a word, as 0 or 1
abbrev pub bit : ℕ → ℕ → ℕ
bit word j = word / 2 ^ j % 2

-- whether the node v is marked
unfoldable pub marked : List ℕ → ℕ → Bool
marked words v = eqb (bit (get_or words (v / 64) 0) (v % 64)) 1

-- the words with v's mark as given: every other node is as it was
pub record WithMark (mark : Bool) (old new : List ℕ) (v : ℕ) : Type 0 where
  pub same_length : length new ≡ length old
  pub here : marked new v ≡ mark
  pub elsewhere : (u : ℕ) → u ≢ v → marked new u ≡ marked old u

-- the ones of all words
unfoldable pub all_ones : List ℕ → ℕ
all_ones [] = 0
all_ones (w ∷ ws) = ones w + all_ones ws

-- how many numbers below n pass a test
unfoldable pub how_many : ℕ → (ℕ → Bool) → ℕ
how_many zero test = 0
how_many (suc n) test = cond (test n) 1 0 + how_many n test
