-- The ones of the words, counted word by word, are as many as the nodes that are marked. Assumes nothing.
use mathlib.Core.Path.{◌≡◌, refl, sym, ap, ap₂, ◌∙◌, subst}
use mathlib.Core.Bool.{Bool, false, cond}
use mathlib.Core.List.{List, [], ◌∷◌}
use Prim.Native.Nat.{ℕ, zero, suc, ◌+◌, ◌*◌, ◌/◌, ◌%◌, ◌^◌, ◌<◌, ◌≤◌, suc-le-suc, zero-le}
use native.Mathlib.Nat.{add-zero, add-suc, zero-add, add_left_comm, mod-lt, zero-lt-suc, le_refl, le-suc, le_trans, div-one}
use native.Mathlib.Numerals.{add-one, one-add}
use native.Mathlib.Omega.{arith}
use lib.ListN.{length, get_or}
use lib.Dec.{eqb}
use lib.Pow.{shr_lt, shr-shr}
use lib.Arith.{lt-one}
use lib.Count.{ones, ones_step}
use Rattle.std.proofs.Common.{sum, map}
use Rattle.std.proofs.lemmas.List.Sums.{sum_by-cons}
use Rattle.marks.specs.Marks.{bit, marked, all_ones, how_many}
use Rattle.marks.proofs.Bits.{zero_or_one}

-- ---- word by word

-- what `count` adds up
pub all_ones_sum : (ws : List ℕ) → sum (map ones ws) ≡ all_ones ws
unfolding all_ones
all_ones_sum [] = refl
all_ones_sum (w ∷ ws) = sum_by-cons (λ x. x) (ones w) (map ones ws) ∙ ap (λ (x : ℕ). ones w + x) (all_ones_sum ws)

-- ---- node by node

-- a count in two parts
how_many_add : (a b : ℕ) (f : ℕ → Bool) → how_many (a + b) f ≡ how_many a f + how_many b (λ k. f (a + k))
unfolding how_many
how_many_add a zero f = ap (λ (n : ℕ). how_many n f) (add-zero a) ∙ sym (add-zero (how_many a f))
how_many_add a (suc b) f =
    ap (λ (n : ℕ). how_many n f) (add-suc a b) ∙ ap (λ (n : ℕ). cond (f (a + b)) 1 0 + n) (how_many_add a b f)
    ∙ add_left_comm (cond (f (a + b)) 1 0) (how_many a f) (how_many b (λ k. f (a + k)))

-- tests that agree count the same
pub how_many_same : (n : ℕ) (f g : ℕ → Bool) → ((k : ℕ) → k < n → f k ≡ g k) → how_many n f ≡ how_many n g
unfolding how_many
how_many_same zero f g h = refl
how_many_same (suc n) f g h =
    ap₂ (λ (b : Bool) (x : ℕ). cond b 1 0 + x) (h n (le_refl (suc n))) (how_many_same n f g (λ k l. h k (le_trans l (le-suc n))))

-- what passes no test from n on adds nothing to a count
pub how_many_none : (n d : ℕ) (f : ℕ → Bool) → ((u : ℕ) → n ≤ u → f u ≡ false) → how_many (n + d) f ≡ how_many n f
unfolding how_many
how_many_none n zero f h = ap (λ (k : ℕ). how_many k f) (add-zero n)
how_many_none n (suc d) f h =
    ap (λ (k : ℕ). how_many k f) (add-suc n d) ∙ ap (λ (b : Bool). cond b 1 0 + how_many (n + d) f) (h (n + d) (omega arith)) ∙ zero-add _ ∙ how_many_none n d f h

-- the ones of a word of k bits: its lowest bit, and those of the rest
word_count : (k w : ℕ) → w < 2 ^ k → ones w ≡ how_many k (λ j. eqb (bit w j) 1)
unfolding how_many
word_count zero w h = ap ones (lt-one h) ∙ (unfold ones in refl)
word_count (suc k) w h =
    ones_step w ∙ ap₂ ◌+◌ lowest (word_count k (w / 2) (shr_lt k 1 (subst (λ (x : ℕ). w < 2 ^ x) (sym (add-one k)) h)) ∙ further)
    ∙ sym (how_many_add 1 k test) ∙ ap (λ (n : ℕ). how_many n test) (one-add k)
  where
    test : ℕ → Bool
    test j = eqb (bit w j) 1

    lowest : w % 2 ≡ how_many 1 test
    lowest =
        sym (zero_or_one (λ (x : ℕ). cond (eqb x 1) 1 0 ≡ x) refl refl (w % 2) (mod-lt w (zero-lt-suc 1)))
        ∙ ap (λ (x : ℕ). cond (eqb (x % 2) 1) 1 0) (sym (div-one w)) ∙ sym (add-zero (cond (test 0) 1 0))

    further : how_many k (λ j. eqb (bit (w / 2) j) 1) ≡ how_many k (λ j. test (1 + j))
    further = how_many_same k (λ j. eqb (bit (w / 2) j) 1) (λ j. test (1 + j)) (λ j l. ap (λ (x : ℕ). eqb (x % 2) 1) (shr-shr w 1 j))

-- the marks of a list's first word
marked_first : (w : ℕ) (ws : List ℕ) (j : ℕ) → j < 64 → eqb (bit w j) 1 ≡ marked (w ∷ ws) j
unfolding marked
marked_first w ws j h =
    let d : j / 64 ≡ 0 = omega arith in
    let m : j % 64 ≡ j = omega arith in
    sym (ap₂ (λ (x y : ℕ). eqb (bit (get_or (w ∷ ws) x 0) y) 1) d m)

-- the others stand 64 nodes further on
marked_rest : (w : ℕ) (ws : List ℕ) (k : ℕ) → marked ws k ≡ marked (w ∷ ws) (64 + k)
unfolding marked
marked_rest w ws k =
    let d : (64 + k) / 64 ≡ suc (k / 64) = omega arith in
    let m : (64 + k) % 64 ≡ k % 64 = omega arith in
    sym (ap₂ (λ (x y : ℕ). eqb (bit (get_or (w ∷ ws) x 0) y) 1) d m)

-- what `count` gives, for words of 64 bits: how many of all their nodes are marked
pub all_ones_marked : (ws : List ℕ) → ((i : ℕ) → i < length ws → get_or ws i 0 < 2 ^ 64) → all_ones ws ≡ how_many (64 * length ws) (marked ws)
unfolding all_ones how_many
all_ones_marked [] f = refl
all_ones_marked (w ∷ ws) f =
    ap₂ ◌+◌
    (word_count 64 w (f 0 (suc-le-suc zero-le)) ∙ how_many_same 64 (λ j. eqb (bit w j) 1) (marked (w ∷ ws)) (marked_first w ws))
    (all_ones_marked ws (λ i h. f (suc i) (suc-le-suc h)) ∙ how_many_same (64 * length ws) (marked ws) (λ k. marked (w ∷ ws) (64 + k)) (λ k l. marked_rest w ws k))
    ∙ sym (how_many_add 64 (64 * length ws) (marked (w ∷ ws)))
    ∙ ap (λ (n : ℕ). how_many n (marked (w ∷ ws))) (one_more (length ws))
  where
    one_more : (n : ℕ) → 64 + 64 * n ≡ 64 * suc n
    one_more n = omega arith
