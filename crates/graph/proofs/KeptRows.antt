-- The row of a node holds the kept links out of it, and no others; a node that is out of range has no row. Assumes nothing.
use Prim.Native.Nat.{ℕ, ◌≤◌}
use native.Mathlib.Omega.{arith}
use native.Mathlib.Decide.{ℕ_discrete}
use mathlib.Core.Bool.{Bool, true, false, ◌&&◌, cond}
use mathlib.Core.Logic.{⊎_elim}
use mathlib.Core.Path.{◌≡◌, refl, sym, ap, ap₂, ◌∙◌, subst}
use mathlib.Core.List.Memᴰ
use mathlib.Core.List.{List, [], ◌∷◌, ◌++◌, Memᴰ}
use borrow.Author.Tests.{ltb-false, eqb-true}
use lib.Dec.{ltb, eqb}
use lib.ListN.{get_or}
use Rattle.numbers.proofs.Choice.{decided}
use Rattle.numbers.proofs.Tables.{table_at}
use Rattle.numbers.proofs.Tests.{both}
use Rattle.graph.specs.Rows.{Link, Entry, link, entry, kept, gives, row_of, rows_of}
use Rattle.graph.proofs.Links.{gives_own, gives_other, gives_none, kept_ends}

-- a node that is out of range has no row
pub row_none : (n v : ℕ) (links : List Link) → n ≤ v → row_of n v links ≡ []
unfolding row_of
row_none n v [] h = refl
row_none n v (l ∷ links) h = ap₂ (λ (a b : List Entry). a ++ b) (none (ℕ_discrete v l.from) (kept n l) refl) (row_none n v links h)
  where
    none : Dec (v ≡ l.from) → (b : Bool) → kept n l ≡ b → gives n v l ≡ []
    none (no q) b e = gives_other n v l q
    none (yes q) false e = gives_none n v l e
    none (yes q) true e = let k = (kept_ends n l e).0 in absurd (omega arith)

-- the row at v is the row of v, wherever v is
pub rows_at : (n : ℕ) (links : List Link) (v : ℕ) → get_or (rows_of n links) v [] ≡ row_of n v links
unfolding rows_of
rows_at n links v =
    table_at n _ v []
    ∙ decided (λ r. r ≡ row_of n v links) (ltb v n) (λ e. refl) (λ e. sym (row_none n v links (ltb-false v n e)))

-- an entry of the row of v is a kept link out of v
pub row_kept : (n v : ℕ) (links : List Link) (x : Entry) → Memᴰ x (row_of n v links)
    → Memᴰ (link v x.node x.weight) links × (kept n (link v x.node x.weight) ≡ true)
unfolding row_of
row_kept n v [] x m = absurd (Memᴰ.not-nil m)
row_kept n v (l ∷ links) x m =
    ⊎_elim (first (kept n l && eqb l.from v) refl) (λ k. let h = row_kept n v links x k in (Memᴰ.tail h.0, h.1)) (Memᴰ.append_cases (gives n v l) m)
  where
    first : (b : Bool) → (kept n l && eqb l.from v) ≡ b → Memᴰ x (cond b (entry l.to l.weight ∷ []) [])
        → Memᴰ (link v x.node x.weight) (l ∷ links) × (kept n (link v x.node x.weight) ≡ true)
    first true e k =
        let q = Memᴰ.eq_of_singleton k in
        let z = both (kept n l) (eqb l.from v) e in
        let f = eqb-true l.from v z.1 in
        let same : link v x.node x.weight ≡ l = λ i. record { from = sym f i; to = (q i).node; weight = (q i).weight } in
        (Memᴰ.head same, ap (kept n) same ∙ z.0)
    first false e k = absurd (Memᴰ.not-nil k)

-- and each kept link is an entry of the row of the node that it leads out of
pub kept_row : (n : ℕ) (links : List Link) (l : Link) → Memᴰ l links → kept n l ≡ true → Memᴰ (entry l.to l.weight) (row_of n l.from links)
unfolding row_of
kept_row n (k ∷ links) l (Memᴰ.head e) h =
    Memᴰ.append_left (row_of n l.from links) (subst (λ (j : Link). Memᴰ (entry l.to l.weight) (gives n l.from j)) e (rw (gives_own n l h) (Memᴰ.head refl)))
kept_row n (k ∷ links) l (Memᴰ.tail m) h = Memᴰ.append_right (gives n l.from k) (kept_row n links l m h)
kept_row n [] l x'' h = elim x'' [ ]
