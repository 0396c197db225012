-- What no kept link has, no entry of the rows has: so entries lead to nodes below n, and their weights are weights of the list. Assumes nothing.
use mathlib.Core.Path.{◌≡◌, refl, ◌∙◌}
use mathlib.Core.Bool.{Bool, true, false, ◌&&◌, cond}
use mathlib.Core.List.{List, [], ◌∷◌, map}
use Prim.Native.Nat.{ℕ, zero, suc, ◌<◌}
use borrow.Author.Tests.{leb-false, lt-leb}
use lib.Dec.{leb, eqb}
use lib.Ieee.{Float}
use lib.ListN.{length, get_or, length-map}
use Rattle.numbers.specs.Tables.{tabulate, any}
use Rattle.numbers.proofs.NoneOf.{none_at, none_append, any_map}
use Rattle.numbers.proofs.Tests.{neither, fails_right}
use Rattle.graph.specs.Rows.{Link, Entry, link, entry, links_of, kept, gives, row_of, rows_of, flat}
use Rattle.graph.proofs.Links.{kept_ends}

module _ (p : Entry → Bool) (n : ℕ) where
  -- whether a link is kept and gives an entry of a kind
  abbrev Gives : Link → Bool
  Gives l = kept n l && p (entry l.to l.weight)

  -- one link
  gives_free : (v : ℕ) (l : Link) → Gives l ≡ false → any p (gives n v l) ≡ false
  unfolding gives any
  gives_free v l h = by (kept n l) (eqb l.from v) (p (entry l.to l.weight)) refl h
    where
      by : (k e q : Bool) → p (entry l.to l.weight) ≡ q → (k && q) ≡ false → any p (cond (k && e) (entry l.to l.weight ∷ []) []) ≡ false
      by false e q r h = refl
      by true false q r h = refl
      by true true q r h = rw (r, h)

  -- a row
  row_free : (v : ℕ) (links : List Link) → any Gives links ≡ false → any p (row_of n v links) ≡ false
  unfolding row_of any
  row_free v [] h = refl
  row_free v (l ∷ links) h = let k = neither (Gives l) _ h in none_append p (gives n v l) (row_of n v links) (gives_free v l k.0) (row_free v links k.1)

  -- rows one after the other
  flat_free : (row : ℕ → List Entry) → ((v : ℕ) → any p (row v) ≡ false) → (count : ℕ) → any p (flat (tabulate count row)) ≡ false
  unfolding flat tabulate any
  flat_free row h zero = refl
  flat_free row h (suc count) = none_append p (row 0) (flat (tabulate count (λ v. row (suc v)))) (h 0) (flat_free (λ v. row (suc v)) (λ v. h (suc v)) count)

  -- all the rows of links
  rows_free : (links : List Link) → any Gives links ≡ false → any p (flat (rows_of n links)) ≡ false
  unfolding rows_of
  rows_free links h = flat_free (λ v. row_of n v links) (λ v. row_free v links h) n

-- no kept link leads out of range
none_past : (n : ℕ) (links : List Link) → any (λ (l : Link). kept n l && leb n l.to) links ≡ false
unfolding any
none_past n [] = refl
none_past n (l ∷ links) = rw (by (kept n l) refl) (none_past n links)
  where
    by : (b : Bool) → kept n l ≡ b → (kept n l && leb n l.to) ≡ false
    by true e = fails_right (kept n l) _ (lt-leb n l.to (kept_ends n l e).1)
    by false e = rw e

-- and so no entry
pub rows_inside : (n : ℕ) (all : List Link) (k : ℕ) → k < length (flat (rows_of n all)) → get_or (map (λ (e : Entry). e.node) (flat (rows_of n all))) k 0 < n
rows_inside n all k h =
    let node : Entry → ℕ = λ e. e.node in
    leb-false n _ (none_at (leb n) 0 (map node (flat (rows_of n all))) (any_map (leb n) node (flat (rows_of n all)) ∙ rows_free (λ e. leb n e.node) n all (none_past n all)) k (rw length-map h))

-- a link of a kind has a weight of a kind
links_free : (p : Float → Bool) (n : ℕ) (from to : List ℕ) (weight : List Float) → any p weight ≡ false
    → any (λ (l : Link). kept n l && p l.weight) (links_of from to weight) ≡ false
unfolding links_of any
links_free p n [] to weight h = refl
links_free p n (f ∷ from) [] weight h = refl
links_free p n (f ∷ from) (t ∷ to) [] h = refl
links_free p n (f ∷ from) (t ∷ to) (w ∷ weight) h =
    let k = neither (p w) _ h in
    rw (fails_right (kept n (link f t w)) (p w) k.0) (links_free p n from to weight k.1)

-- and so an entry
pub rows_weights : (p : Float → Bool) (n : ℕ) (from to : List ℕ) (weight : List Float) → any p weight ≡ false
    → any p (map (λ (e : Entry). e.weight) (flat (rows_of n (links_of from to weight)))) ≡ false
rows_weights p n from to weight h =
    any_map p (λ (e : Entry). e.weight) (flat (rows_of n (links_of from to weight)))
    ∙ rows_free (λ e. p e.weight) n (links_of from to weight) (links_free p n from to weight h)
