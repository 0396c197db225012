-- The search through a row: whether a block of columns has the node, what can be passed over, and what is found from there on. Assumes nothing.
use Prim.Native.Nat.{ℕ, zero, suc, ◌+◌, ◌*◌, ◌-◌, ◌≤◌, ◌<◌, zero-le}
use mathlib.Core.Bool.{Bool, true, false, not, cond, ◌||◌, or_assoc, or-false}
use mathlib.Core.List.{List, [], ◌∷◌}
use mathlib.Core.Path.{◌≡◌, refl, sym, ap, subst, ◌∙◌}
use native.Mathlib.Nat.{not-suc-le-zero, le_refl}
use native.Mathlib.Numerals.{one-add}
use native.Mathlib.Omega.{arith}
use borrow.Author.Tests.{ne_eqb, eqb-false, ltb-true, ltb-false, not-true}
use lib.Dec.{eqb, ltb}
use lib.ListN.{length, get_or, take, drop, length-drop}
use lib.Seq.{drop-cons, length-take-le, get_or-take, get_or-drop, drop-drop}
use lib.Ieee.{Float, nan}
use Rattle.std.specs.Prelude.{Option, None, Some, slice_get, option_map, fold}
use Rattle.std.specs.List.{prefix_len, position_or_len, position}
use Rattle.std.specs.Simd.{first_chunks}
use Rattle.std.proofs.Common.{add-zero, zero-add}
use Rattle.std.proofs.lemmas.Option.{slice_get-get_or, slice_get_past}
use Rattle.numbers.specs.Choice.{if◌then◌otherwise◌}
use Rattle.numbers.specs.Tables.{any}
use Rattle.numbers.proofs.NoneOf.{none_at}
use Rattle.graph.specs.Rows.{entries_of}
use Rattle.edges.specs.Edges.{first_to}
use Rattle.edges.specs.Passed.{Passed}

-- a fold that looks at each element, found or not
pub folds_any : {A : Type 0} (p : A → Bool) (found : Bool) (xs : List A) → fold (λ b x. b || p x) found xs ≡ (found || any p xs)
unfolding any
folds_any p found [] = sym (or-false found)
folds_any p found (x ∷ xs) = folds_any p (found || p x) xs ∙ or_assoc found (p x) (any p xs)

-- ---- what can be passed over

-- none of a block of columns is the node
abbrev pub free : ℕ → List ℕ → Bool
free t block = not (any (λ v. eqb v t) block)

-- a block of columns of which none is the node
pub block_passed : (t : ℕ) (columns : List ℕ) (k e : ℕ) → Passed t columns k → e ≤ length columns → any (λ v. eqb v t) (take (e - k) (drop k columns)) ≡ false → Passed t columns e
block_passed t columns k e p h none = record { inside = h; others = λ i l. by i l (ltb i k) refl }
  where
    by : (i : ℕ) → i < e → (b : Bool) → ltb i k ≡ b → get_or columns i 0 ≡ t → ⊥
    by i l true q = p.others i (ltb-true i k q)
    by i l false q =
        let g = ltb-false i k q in
        let j : i - k < e - k = omega arith in
        let m : i - k < length (take (e - k) (drop k columns)) = rw (length-take-le (e - k) (drop k columns) (rw length-drop (omega arith))) j in
        let w : get_or (take (e - k) (drop k columns)) (i - k) 0 ≡ get_or columns i 0 = get_or-take (e - k) (drop k columns) (i - k) 0 j ∙ get_or-drop k columns (i - k) 0 ∙ ap (λ (x : ℕ). get_or columns x 0) (omega arith) in
        eqb-false _ _ (rw w at (none_at (λ v. eqb v t) 0 (take (e - k) (drop k columns)) none (i - k) m))

-- the first blocks behind k that have no such column
blocks_passed : (t count : ℕ) (columns : List ℕ) (k : ℕ) → Passed t columns k → k + 8 * count ≤ length columns → Passed t columns (k + 8 * prefix_len (free t) (first_chunks 8 count (drop k columns)))
blocks_passed t zero columns k p h = rw add-zero p
blocks_passed t (suc count) columns k p h = by (free t (take 8 (drop k columns))) refl (λ q. blocks_passed t count columns (k + 8) q (omega arith))
  where
    by : (b : Bool) → free t (take 8 (drop k columns)) ≡ b → (Passed t columns (k + 8) → Passed t columns (k + 8 + 8 * prefix_len (free t) (first_chunks 8 count (drop (k + 8) columns))))
        → Passed t columns (k + 8 * cond b (1 + prefix_len (free t) (first_chunks 8 count (drop 8 (drop k columns)))) 0)
    by false e rest = rw add-zero p
    by true e rest =
        let n : k + 8 - k ≡ 8 = omega arith in
        let q = block_passed t columns k (k + 8) p (omega (arith, h)) (rw n (not-true _ e)) in
        let P : ℕ → Type 0 = λ j. Passed t columns j in
        subst P (rw (drop-drop 8 k columns) (omega arith)) (rest q)

-- and of the whole list
pub all_blocks_passed : (t count : ℕ) (columns : List ℕ) → 8 * count ≤ length columns → Passed t columns (8 * prefix_len (free t) (first_chunks 8 count columns))
all_blocks_passed t count columns h =
    let P : ℕ → Type 0 = λ j. Passed t columns j in
    subst P (zero-add _) (blocks_passed t count columns 0 (record { inside = zero-le; others = λ i l. absurd (not-suc-le-zero l) }) (omega arith))

-- ---- what is found

-- what a search for t finds from place k on
abbrev pub found_from : ℕ → List ℕ → List Float → ℕ → Option Float
found_from t columns weights k = first_to t (entries_of (drop k columns) (drop k weights))

-- the weight at the first column that is the node
first_is : (t : ℕ) (columns : List ℕ) (weights : List Float) → length weights ≡ length columns → first_to t (entries_of columns weights) ≡ slice_get weights (position_or_len (λ v. eqb v t) columns)
unfolding first_to entries_of if◌then◌otherwise◌
first_is t [] [] h = refl
first_is t [] (w ∷ weights) h = cc
first_is t (c ∷ columns) [] h = cc
first_is t (c ∷ columns) (w ∷ weights) h = by (eqb c t) (first_is t columns weights (omega arith))
  where
    by : (b : Bool) → first_to t (entries_of columns weights) ≡ slice_get weights (position_or_len (λ v. eqb v t) columns) → cond b (Some w) (first_to t (entries_of columns weights)) ≡ slice_get (w ∷ weights) (cond (not b) (1 + position_or_len (λ v. eqb v t) columns) 0)
    by true e = refl
    by false e = rw one-add e

-- no match at k
passed : (t : ℕ) (columns : List ℕ) (weights : List Float) → length weights ≡ length columns → (k : ℕ) → k < length columns → (get_or columns k 0 ≡ t → ⊥) → found_from t columns weights k ≡ found_from t columns weights (suc k)
unfolding first_to entries_of if◌then◌otherwise◌
passed t columns weights paired k h e = rw (drop-cons columns k 0 h, drop-cons weights k nan (rw paired h), ne_eqb _ _ e)

-- what is passed over changes nothing
pub all_passed : (t : ℕ) (columns : List ℕ) (weights : List Float) (paired : length weights ≡ length columns) (k : ℕ) → Passed t columns k
    → found_from t columns weights k ≡ found_from t columns weights 0
all_passed t columns weights paired zero p = refl
all_passed t columns weights paired (suc k) p =
    sym (passed t columns weights paired k p.inside (p.others k (le_refl _)))
    ∙ all_passed t columns weights paired k (record { inside = omega (arith, p.inside); others = λ i h. p.others i (omega arith) })

-- the search of what is left behind the columns that were passed over
abbrev pub left : ℕ → List ℕ → ℕ → Option ℕ
left t columns k = position (λ v. eqb v t) (drop k columns)

-- what it finds
pub found_at : (t : ℕ) (columns : List ℕ) (weights : List Float) → length weights ≡ length columns → (k : ℕ) → Passed t columns k → {r : Option ℕ} → r ≡ left t columns k
    → option_map (λ i. get_or weights (k + i) nan) r ≡ first_to t (entries_of columns weights)
found_at t columns weights paired k p found = ap (option_map (λ i. get_or weights (k + i) nan)) found ∙ by (ltb at (length rest)) refl ∙ sym (first_is t rest (drop k weights) same) ∙ all_passed t columns weights paired k p
  where
    rest : List ℕ
    rest = drop k columns

    at : ℕ
    at = position_or_len (λ v. eqb v t) rest

    same : length (drop k weights) ≡ length rest
    same = length-drop k weights ∙ ap (λ (n : ℕ). n - k) paired ∙ sym (length-drop k columns)

    by : (b : Bool) → ltb at (length rest) ≡ b → option_map (λ i. get_or weights (k + i) nan) (cond b (Some at) None) ≡ slice_get (drop k weights) at
    by true e = ap (λ (x : Float). Some x) (sym (get_or-drop k weights at nan)) ∙ sym (slice_get-get_or (drop k weights) at nan (rw same (ltb-true at (length rest) e)))
    by false e = sym (slice_get_past (drop k weights) at (rw same (ltb-false at (length rest) e)))
