-- Examples of marks, computed: in the word 5 the nodes 0 and 2 are marked. Assumes nothing.
use Rattle.std.specs.Prelude.{◌≡◌, refl, true, false, [], ◌∷◌}
use Rattle.std.specs.Int.Count.{ones}
use Rattle.marks.specs.Marks.{marked, all_ones, how_many}

-- a bit that is set, and one that is not
two_marked : marked (5 ∷ []) 2 ≡ true
unfolding marked
two_marked = refl

one_unmarked : marked (5 ∷ []) 1 ≡ false
unfolding marked
one_unmarked = refl

-- the node 64 is the first of the second word, and past the words no node is marked
second_word : marked (0 ∷ 1 ∷ []) 64 ≡ true
unfolding marked
second_word = refl

last_of_first : marked (0 ∷ 1 ∷ []) 63 ≡ false
unfolding marked
last_of_first = refl

past_the_words : marked (5 ∷ []) 64 ≡ false
unfolding marked
past_the_words = refl

-- the ones of two words
three_ones : all_ones (5 ∷ 1 ∷ []) ≡ 3
unfolding all_ones ones
three_ones = refl

-- of the first three nodes two are marked, and of the first two one
two_of_three : how_many 3 (marked (5 ∷ [])) ≡ 2
unfolding how_many marked
two_of_three = refl

one_of_two : how_many 2 (marked (5 ∷ [])) ≡ 1
unfolding how_many marked
one_of_two = refl
