-- Lists that a loop writes from a place on, one store a turn: after the stores up to place v the list is `over v new old`.
-- Assumes nothing.
use mathlib.Core.Path.{◌≡◌, refl, ap, ◌∙◌}
use mathlib.Core.List.{List, [], ◌∷◌, ◌++◌, append-nil}
use Prim.Native.Nat.{ℕ, zero, suc, ◌+◌, ◌≤◌, ◌<◌}
use native.Mathlib.Nat.{not-suc-le-zero, le_of_suc-le-suc}
use native.Mathlib.Numerals.{add-one}
use lib.ListN.{length, get_or, set, take, drop, drop_of_length-le}
use lib.Seq.{take_all}

module _ {A : Type 0} where
  -- the first v of `new`, and `old` behind them
  unfoldable pub over : ℕ → List A → List A → List A
  over v new old = take v new ++ drop v old

  -- one store more, at `suc v`
  over_suc : (v : ℕ) (new old : List A) (d : A) → v < length new → v < length old → set (over v new old) v (get_or new v d) ≡ over (suc v) new old
  unfolding over
  over_suc v [] old d p q = absurd (not-suc-le-zero p)
  over_suc v (x ∷ new) [] d p q = absurd (not-suc-le-zero q)
  over_suc zero (x ∷ new) (y ∷ old) d p q = refl
  over_suc (suc v) (x ∷ new) (y ∷ old) d p q = ap (λ (l : List A). x ∷ l) (over_suc v new old d (le_of_suc-le-suc p) (le_of_suc-le-suc q))

  -- nothing is written yet
  pub over_none : (new old : List A) → old ≡ over 0 new old
  unfolding over
  over_none new old = refl

  -- one store more
  pub over_more : (v : ℕ) (new old : List A) (d a : A) → v < length new → v < length old → a ≡ get_or new v d → set (over v new old) v a ≡ over (v + 1) new old
  over_more v new old d a p q e = rw (add-one, e) (over_suc v new old d p q)

  -- what is read at the place of the next store is old
  pub over_read : (v : ℕ) (new old : List A) (d : A) → v < length new → v < length old → get_or (over v new old) v d ≡ get_or old v d
  unfolding over
  over_read v [] old d p q = absurd (not-suc-le-zero p)
  over_read v (x ∷ new) [] d p q = absurd (not-suc-le-zero q)
  over_read zero (x ∷ new) (y ∷ old) d p q = refl
  over_read (suc v) (x ∷ new) (y ∷ old) d p q = over_read v new old d (le_of_suc-le-suc p) (le_of_suc-le-suc q)

  -- all is written
  pub over_all : (v : ℕ) (new old : List A) → length old ≤ v → over v new old ≡ take v new
  unfolding over
  over_all v new old h = rw (drop_of_length-le old h, append-nil)

  -- all is written, to the end of the new list
  pub over_whole : (v : ℕ) (new old : List A) → length old ≤ v → length new ≤ v → over v new old ≡ new
  over_whole v new old h k = over_all v new old h ∙ take_all v new k
