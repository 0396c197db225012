-- The ones of the visited words are the visited nodes of the state that the words stand for. Assumes nothing.
use Prim.Native.Nat.{ℕ, ◌+◌, ◌*◌, ◌-◌, ◌≤◌}
use mathlib.Core.Bool.{false}
use mathlib.Core.List.{List}
use mathlib.Core.Path.{◌≡◌, sym, ap, ◌∙◌}
use native.Mathlib.Omega.{arith}
use lib.ListN.{length, get_or}
use lib.Ieee.{Float}
use Rattle.numbers.proofs.Tables.{length-tabulate, get_or-tabulate}
use Rattle.marks.specs.Marks.{marked, how_many}
use Rattle.marks.proofs.HowMany.{how_many_same, how_many_none}
use Rattle.rules.specs.Answers.{visited_count}
use Rattle.pushes.specs.States.{Progress, marks_in, state_in, NoneBeyond}
use Rattle.calls.specs.Lent.{words, counted_of}
use Rattle.calls.specs.Promises.{counted_in}

-- the words of few nodes are few
pub few_words : {n k k' : ℕ} → n ≤ 65536 → k ≡ words n → k' ≡ k → k' ≤ 1048576
unfolding words
few_words h e d = omega arith

-- the marks of all words are those of the n nodes
marks_inside : (n : ℕ) (words : List ℕ) → n ≤ 64 * length words → NoneBeyond n words
    → how_many (64 * length words) (marked words) ≡ how_many (length (marks_in n words)) (λ v. get_or (marks_in n words) v false)
unfolding marks_in
marks_inside n words h none =
    ap (λ (k : ℕ). how_many k (marked words)) (split n (64 * length words) h) ∙ how_many_none n (64 * length words - n) (marked words) none
    ∙ how_many_same n (marked words) (λ v. get_or (marks_in n words) v false) (λ v l. sym (get_or-tabulate n (marked words) v false l))
    ∙ sym (ap (λ (k : ℕ). how_many k (λ v. get_or (marks_in n words) v false)) (length-tabulate n (marked words)))
  where
    split : (n k : ℕ) → n ≤ k → k ≡ n + (k - n)
    split n k l = omega arith

-- the counts of a state, from the ones of its words
pub counts_are : (n : ℕ) (estimate residual : List Float) (p : Progress) (priorities : List Float) (nodes visited : List ℕ) {ones : ℕ} → n ≤ 64 * length visited → NoneBeyond n visited
    → ones ≡ how_many (64 * length visited) (marked visited) → counted_of 0 p.pushes ones ≡ counted_in (state_in n estimate residual p priorities nodes visited)
unfolding state_in visited_count
counts_are n estimate residual p priorities nodes visited h none e = ap (λ (k : ℕ). counted_of 0 p.pushes k) (e ∙ marks_inside n visited h none)
