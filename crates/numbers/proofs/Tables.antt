-- The laws of `tabulate`. Assumes nothing.
use mathlib.Core.Path.{◌≡◌, refl, sym, ap, ap₂, ◌∙◌}
use mathlib.Core.Logic.{◌≢◌}
use mathlib.Core.List.{List, ◌∷◌, map}
use Prim.Native.Nat.{ℕ, zero, suc, ◌<◌, suc-le-suc, zero-le}
use native.Mathlib.Nat.{not-suc-le-zero, le_of_suc-le-suc}
use native.Mathlib.Decide.{ℕ_discrete}
use borrow.Author.Tests.{ltb-true, ltb-false}
use lib.Dec.{ltb}
use lib.ListN.{length, get_or, set, replicate, length-set, get_or-eq_default}
use lib.Seq.{ext_get_or, get_or-set_same, get_or-set_other}
use Rattle.numbers.specs.Choice.{if◌then◌otherwise◌}
use Rattle.numbers.specs.Tables.{tabulate}
use Rattle.numbers.proofs.Choice.{decided}

module _ {A : Type 0} where
  -- a table has n entries
  pub length-tabulate : (n : ℕ) (f : ℕ → A) → length (tabulate n f) ≡ n
  unfolding tabulate
  length-tabulate zero f = refl
  length-tabulate (suc n) f = ap suc (length-tabulate n (λ k. f (suc k)))

  -- entry v
  pub get_or-tabulate : (n : ℕ) (f : ℕ → A) (v : ℕ) (d : A) → v < n → get_or (tabulate n f) v d ≡ f v
  unfolding tabulate
  get_or-tabulate zero f v d h = absurd (not-suc-le-zero h)
  get_or-tabulate (suc n) f zero d h = refl
  get_or-tabulate (suc n) f (suc v) d h = get_or-tabulate n (λ k. f (suc k)) v d (le_of_suc-le-suc h)

  -- entry v, wherever v is
  pub table_at : (n : ℕ) (f : ℕ → A) (v : ℕ) (d : A) → get_or (tabulate n f) v d ≡ (if ltb v n then f v otherwise d)
  table_at n f v d =
      decided (λ x. get_or (tabulate n f) v d ≡ x) (ltb v n) (λ e. get_or-tabulate n f v d (ltb-true v n e))
      (λ e. get_or-eq_default (tabulate n f) d (rw length-tabulate (ltb-false v n e)))

  -- tables that agree below n
  pub tabulate_ext : (n : ℕ) (f g : ℕ → A) → ((v : ℕ) → v < n → f v ≡ g v) → tabulate n f ≡ tabulate n g
  unfolding tabulate
  tabulate_ext zero f g e = refl
  tabulate_ext (suc n) f g e =
      ap₂ (λ (x : A) (l : List A). x ∷ l) (e zero (suc-le-suc zero-le)) (tabulate_ext n (λ k. f (suc k)) (λ k. g (suc k)) (λ v h. e (suc v) (suc-le-suc h)))

  -- a table that differs from another at k alone
  pub tabulate-set : (n : ℕ) (f g : ℕ → A) (k : ℕ) (d : A) → k < n → ((v : ℕ) → v ≢ k → g v ≡ f v) → tabulate n g ≡ set (tabulate n f) k (g k)
  tabulate-set n f g k d h e =
      ext_get_or d (tabulate n g) (set (tabulate n f) k (g k)) (simp (length-set, length-tabulate)) (λ i p. at i (rw length-tabulate at p) (ℕ_discrete i k))
    where
      at : (i : ℕ) → i < n → Dec (i ≡ k) → get_or (tabulate n g) i d ≡ get_or (set (tabulate n f) k (g k)) i d
      at i p (yes q) = rw q (get_or-tabulate n g k d h ∙ sym (get_or-set_same (tabulate n f) k (g k) d (rw length-tabulate h)))
      at i p (no q) = get_or-tabulate n g i d p ∙ e i q ∙ sym (get_or-tabulate n f i d p) ∙ sym (get_or-set_other (tabulate n f) k i (g k) d q)

  -- a table of one value
  pub tabulate_constant : (n : ℕ) (a : A) → tabulate n (λ _. a) ≡ replicate n a
  unfolding tabulate
  tabulate_constant zero a = refl
  tabulate_constant (suc n) a = ap (λ (l : List A). a ∷ l) (tabulate_constant n a)

  -- `map` over a table
  pub map-tabulate : {B : Type 0} (h : A → B) (n : ℕ) (f : ℕ → A) → map h (tabulate n f) ≡ tabulate n (λ v. h (f v))
  unfolding tabulate
  map-tabulate h zero f = refl
  map-tabulate {B} h (suc n) f = ap (λ (l : List B). h (f zero) ∷ l) (map-tabulate h n (λ k. f (suc k)))
