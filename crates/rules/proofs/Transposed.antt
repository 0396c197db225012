-- The transposed row of t has an entry for a node where the row of that node has an entry that leads to t, so that rows which agree there have the
-- same transposed row. Assumes nothing.
use Prim.Native.Nat.{ℕ, suc, ◌+◌}
use native.Mathlib.Omega.{arith}
use mathlib.Core.Bool.{Bool, true, false, cond}
use mathlib.Core.Logic.{◌⊎◌, inl, inr, ⊎_elim}
use mathlib.Core.Path.{◌≡◌, refl, sym, ap, ap₂, ◌∙◌, subst}
use mathlib.Core.List.Memᴰ
use mathlib.Core.List.{List, [], ◌∷◌, ◌++◌, Memᴰ}
use borrow.Author.Tests.{eqb-true}
use lib.Dec.{ltb, eqb}
use Rattle.numbers.specs.Choice.{if◌then◌otherwise◌}
use Rattle.numbers.proofs.Tables.{table_at}
use Rattle.numbers.proofs.Choice.{decided}
use Rattle.graph.specs.Rows.{Entry, entry, into, into_from, transposed}
use Rattle.rules.specs.Ways.{row_at}

-- an entry of a row that leads to t
pub record To (t : ℕ) (row : List Entry) : Type 0 where
  pub link : Entry
  pub among : Memᴰ link row
  pub leads : link.node ≡ t

-- an entry of a row turned round at t is for the row's node u, and the row has an entry that leads to t
into_mem : (t u : ℕ) (row : List Entry) (y : Entry) → Memᴰ y (into t u row) → (y.node ≡ u) × To t row
unfolding into
into_mem t u [] y m = absurd (Memᴰ.not-nil m)
into_mem t u (x ∷ row) y m =
    by (eqb x.node t) refl (λ k. into_mem t u row y k) (Memᴰ.append_cases (cond (eqb x.node t) (entry u x.weight ∷ []) []) m)
  where
    by : (b : Bool) → eqb x.node t ≡ b → (Memᴰ y (into t u row) → (y.node ≡ u) × To t row)
        → Memᴰ y (cond b (entry u x.weight ∷ []) []) ⊎ Memᴰ y (into t u row) → (y.node ≡ u) × To t (x ∷ row)
    by true e more (inl k) =
        (ap (λ (z : Entry). z.node) (Memᴰ.eq_of_singleton k), record { link = x; among = Memᴰ.head refl; leads = eqb-true _ _ e })
    by false e more (inl k) = absurd (Memᴰ.not-nil k)
    by b e more (inr k) =
        let h = more k in
        (h.0, record { link = h.1.link; among = Memᴰ.tail h.1.among; leads = h.1.leads })

-- a row turned round at t is empty, or it has an entry that leads to t
into_none : (t u : ℕ) (row : List Entry) → (into t u row ≡ []) ⊎ To t row
into_none t u row = by (into t u row) refl
  where
    by : (turned : List Entry) → into t u row ≡ turned → (into t u row ≡ []) ⊎ To t row
    by [] e = inl e
    by (y ∷ ys) e = inr (into_mem t u row y (subst (λ (l : List Entry). Memᴰ y l) (sym e) (Memᴰ.head refl))).1

-- an entry of the rows from u on, turned round at t, is for a node whose row has an entry that leads to t
from_mem : (t u : ℕ) (rows : List (List Entry)) (y : Entry) → Memᴰ y (into_from t u rows) → (k : ℕ) × (y.node ≡ u + k) × To t (row_at rows k)
unfolding into_from
from_mem t u [] y m = absurd (Memᴰ.not-nil m)
from_mem t u (row ∷ rows) y m =
    ⊎_elim (λ h. let z = into_mem t u row y h in (0, omega (arith, z.0), z.1)) (λ h. let z = from_mem t (suc u) rows y h in (suc z.0, omega (arith, z.1), z.2))
    (Memᴰ.append_cases (into t u row) m)

-- the same of a transposed row
pub transposed_mem : (n t : ℕ) (rows : List (List Entry)) (y : Entry) → Memᴰ y (row_at (transposed n rows) t) → To t (row_at rows y.node)
unfolding transposed
transposed_mem n t rows y m =
    decided (λ l. Memᴰ y l → To t (row_at rows y.node)) (ltb t n)
    (λ e k. let z = from_mem t 0 rows y k in subst (λ (v : ℕ). To t (row_at rows v)) (omega (arith, z.1)) z.2)
    (λ e k. absurd (Memᴰ.not-nil k)) (rw (table_at n (λ t. into_from t 0 rows) t []) at m)

-- rows that agree turned round at t, one by one, agree when put together
from_same : (t u : ℕ) (rows others : List (List Entry)) → ((k w : ℕ) → into t w (row_at rows k) ≡ into t w (row_at others k)) → into_from t u rows ≡ into_from t u others
unfolding into_from into
from_same t u [] [] e = refl
from_same t u [] (o ∷ others) e = ap₂ (λ (a b : List Entry). a ++ b) (e 0 u) (from_same t (suc u) [] others (λ k w. e (suc k) w))
from_same t u (r ∷ rows) [] e = ap₂ (λ (a b : List Entry). a ++ b) (e 0 u) (from_same t (suc u) rows [] (λ k w. e (suc k) w))
from_same t u (r ∷ rows) (o ∷ others) e = ap₂ (λ (a b : List Entry). a ++ b) (e 0 u) (from_same t (suc u) rows others (λ k w. e (suc k) w))

-- the transposed rows of t are the same, where each row with an entry that leads to t, on either side, is the same on both
pub transposed_same : (n t : ℕ) (rows others : List (List Entry)) → ((u : ℕ) → To t (row_at rows u) ⊎ To t (row_at others u) → row_at rows u ≡ row_at others u)
    → row_at (transposed n rows) t ≡ row_at (transposed n others) t
unfolding transposed
transposed_same n t rows others e =
    table_at n _ t [] ∙ ap (λ (l : List Entry). if ltb t n then l otherwise []) (from_same t 0 rows others turned) ∙ sym (table_at n _ t [])
  where
    turned : (u w : ℕ) → into t w (row_at rows u) ≡ into t w (row_at others u)
    turned u w =
        ⊎_elim
        (λ a. ⊎_elim (λ b. a ∙ sym b) (λ h. ap (into t w) (e u (inr h))) (into_none t w (row_at others u)))
        (λ h. ap (into t w) (e u (inl h))) (into_none t w (row_at rows u))
