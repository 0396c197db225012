-- The marks of words of which one is changed in one bit, and of words that are all 0. Assumes nothing.
use mathlib.Core.Path.{◌≡◌, refl, sym, ap, ◌∙◌}
use mathlib.Core.Logic.{◌≢◌}
use mathlib.Core.Bool.{Bool, true, false}
use mathlib.Core.List.{List}
use Prim.Native.Nat.{ℕ, ◌-◌, ◌*◌, ◌/◌, ◌%◌, ◌^◌, ◌<◌}
use native.Mathlib.Nat.{mod-lt, zero-lt-suc, zero-div}
use native.Mathlib.Decide.{ℕ_discrete, dec_lt}
use native.Mathlib.Omega.{arith}
use lib.ListN.{length, get_or, set, length-set, replicate, length-replicate, get_or-replicate, get_or-eq_default}
use lib.Seq.{get_or-set_same, get_or-set_other}
use lib.Dec.{eqb}
use lib.Bits.{bit_and, bit_or, or_zero_r, and_zero_r, and_mask}
use Rattle.marks.specs.Marks.{bit, marked, WithMark}
use Rattle.marks.proofs.Bits.{bit_lt, zero_or_one, one_here, one_elsewhere, or_mask, and_not_mask}

-- the word of v changed in v's bit alone
changed : (mark : Bool) (ws : List ℕ) (v w : ℕ) → v / 64 < length ws → eqb (bit w (v % 64)) 1 ≡ mark
    → ((j : ℕ) → j < 64 → j ≢ v % 64 → bit w j ≡ bit (get_or ws (v / 64) 0) j) → WithMark mark ws (set ws (v / 64) w) v
unfolding marked
changed mark ws v w fits made kept =
    record {
      same_length = length-set ws (v / 64) w;
      here = ap (λ (x : ℕ). eqb (bit x (v % 64)) 1) (get_or-set_same ws (v / 64) w 0 fits) ∙ made;
      elsewhere = λ u ne. go u ne (ℕ_discrete (u / 64) (v / 64));
    }
  where
    go : (u : ℕ) → u ≢ v → Dec (u / 64 ≡ v / 64) → marked (set ws (v / 64) w) u ≡ marked ws u
    go u ne (yes e) =
        let other : u % 64 ≢ v % 64 = omega arith in
        let small : u % 64 < 64 = omega arith in
        ap (λ (x : ℕ). eqb (bit (get_or (set ws (v / 64) w) x 0) (u % 64)) 1) e
        ∙ ap (λ (x : ℕ). eqb (bit x (u % 64)) 1) (get_or-set_same ws (v / 64) w 0 fits)
        ∙ ap (λ (x : ℕ). eqb x 1) (kept (u % 64) small other)
        ∙ ap (λ (x : ℕ). eqb (bit (get_or ws x 0) (u % 64)) 1) (sym e)
    go u ne (no d) = ap (λ (x : ℕ). eqb (bit x (u % 64)) 1) (get_or-set_other ws (v / 64) (u / 64) w 0 d)

module _ (ws : List ℕ) (v : ℕ) (fits : v / 64 < length ws) where
  -- v's word and place
  abbrev word : ℕ
  word = get_or ws (v / 64) 0

  abbrev place : ℕ
  place = v % 64

  small : place < 64
  small = mod-lt v (zero-lt-suc 63)

  -- what `mark` leaves
  pub mark_law : WithMark true ws (set ws (v / 64) (bit_or word (1 * 2 ^ place % 2 ^ 64))) v
  mark_law =
      changed true ws v (bit_or word (1 * 2 ^ place % 2 ^ 64)) fits
      (ap (λ (x : ℕ). eqb x 1)
      (or_mask word place place small ∙ ap (bit_or (bit word place)) (one_here place) ∙ zero_or_one (λ (x : ℕ). bit_or x 1 ≡ 1) refl refl (bit word place) (bit_lt word place)))
      (λ j l ne. or_mask word place j small ∙ ap (bit_or (bit word j)) (one_elsewhere place j ne) ∙ or_zero_r (bit word j))

  -- what `unmark` leaves
  pub unmark_law : WithMark false ws (set ws (v / 64) (bit_and word (2 ^ 64 - 1 - 1 * 2 ^ place % 2 ^ 64))) v
  unmark_law =
      changed false ws v (bit_and word (2 ^ 64 - 1 - 1 * 2 ^ place % 2 ^ 64)) fits
      (ap (λ (x : ℕ). eqb x 1)
      (and_not_mask word place place small small ∙ ap (λ (x : ℕ). bit_and (bit word place) (1 - x)) (one_here place) ∙ and_zero_r (bit word place)))
      (λ j l ne.
      and_not_mask word place j small l ∙ ap (λ (x : ℕ). bit_and (bit word j) (1 - x)) (one_elsewhere place j ne)
      ∙ zero_or_one (λ (x : ℕ). bit_and x 1 ≡ x) refl refl (bit word j) (bit_lt word j))

-- what `is_marked` tests
pub test_law : (ws : List ℕ) (v : ℕ) → eqb (bit_and (get_or ws (v / 64) 0 / 2 ^ (v % 64)) 1) 1 ≡ marked ws v
unfolding marked
test_law ws v = ap (λ (x : ℕ). eqb x 1) (and_mask (get_or ws (v / 64) 0 / 2 ^ (v % 64)) 1)

-- words that are all 0 mark nobody
pub none_marked : (n u : ℕ) → marked (replicate n 0) u ≡ false
unfolding marked
none_marked n u =
    ap (λ (x : ℕ). eqb (bit x (u % 64)) 1) (zeros (dec_lt (u / 64) n)) ∙ ap (λ (x : ℕ). eqb (x % 2) 1) (zero-div (2 ^ (u % 64)))
  where
    zeros : Dec (u / 64 < n) → ◌≡◌ {A = ℕ} (get_or (replicate n 0) (u / 64) 0) 0
    zeros (yes h) = get_or-replicate n (u / 64) 0 0 h
    zeros (no h) = get_or-eq_default (replicate n 0) 0 (omega (arith, length-replicate {A = ℕ} n 0))
