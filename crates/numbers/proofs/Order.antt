-- The order of IEEE floats: `le` is transitive and, NaN apart, total; `lt` is its strict part, and `eq` is `le` both ways.
-- The idea: of two floats that are no NaN each comparison is that of two natural numbers, `side x y` and `side y x`. Assumes nothing.
use mathlib.Core.Path.{◌≡◌, refl, sym, ap, ap₂, ◌∙◌, subst}
use mathlib.Core.Logic.{◌⊎◌, inl, inr}
use mathlib.Core.Bool.{Bool, true, false, not, ◌&&◌, ◌||◌, cond, and-true, and-or_distrib_left, false≢true}
use Prim.Native.Nat.{ℕ, ◌+◌, ◌*◌, ◌≤◌, ◌<◌}
use native.Mathlib.Nat.{le_refl, le_trans, le_of_lt, le_of_eq, add-zero, zero-add, add_comm, mul_comm, mul_assoc, mul_left_comm, add-mul, zero-mul, mul-le-mul_right, le_of_mul-le-mul_right}
use native.Mathlib.Decide.{dec_le}
use native.Mathlib.Omega.{arith}
use lib.IntN.{ℤ}
use lib.Dec.{T, leb, ltb, eqb, ltb→lt, lt→ltb, eqb→eq, leb→le, le→leb}
use lib.Ieee.{Float, nan, inf, fin, up, down, below, level, lt, eq, le, is_nan}
use lib.Ieee.Fits.{down_pos, and_i, and_l, and_r, eq→eqb}
use borrow.Author.Tests.{le-ltb, not-true}
use Rattle.numbers.proofs.Tests.{to_true, or_cases, or_left, or_right, same_test}

-- ---- two signed magnitudes

-- what a magnitude of the sign s has above zero, and what it has below
abbrev over : Bool → ℕ → ℕ
over s a = cond s 0 a

abbrev under : Bool → ℕ → ℕ
under s a = over (not s) a

-- equal numbers pass the test
eqb_of : (a b : ℕ) → a ≡ b → T (eqb a b)
eqb_of a b e = eq→eqb e

-- `below` is a comparison of sums: each magnitude that lies below zero changes its side
below_is : (s : Bool) (a : ℕ) (t : Bool) (b : ℕ) → below s a t b ≡ ltb (over s a + under t b) (over t b + under s a)
below_is false a false b = simp add-zero
below_is false a true b = sym (le-ltb (a + b) 0 (omega arith))
below_is true a false b = rw (add_comm b a)
below_is true a true b = simp zero-add

-- an equation goes both ways
eqb_swap : (a b : ℕ) → eqb a b ≡ eqb b a
eqb_swap a b = same_test (eqb a b) (eqb b a) (λ h. eqb_of b a (sym (eqb→eq a b h))) (λ h. eqb_of a b (sym (eqb→eq b a h)))

-- two magnitudes of unlike signs are equal where both are zero
both_zero : (a b : ℕ) → (eqb a b && eqb a 0) ≡ eqb (a + b) 0
both_zero a b =
    same_test (eqb a b && eqb a 0) (eqb (a + b) 0)
    (λ h. eqb_of (a + b) 0 (omega (arith, eqb→eq a b (and_l (eqb a b) (eqb a 0) h), eqb→eq a 0 (and_r (eqb a b) (eqb a 0) h))))
    (λ h. let z = eqb→eq (a + b) 0 h in and_i (eqb a b) (eqb a 0) (eqb_of a b (omega arith)) (eqb_of a 0 (omega arith)))

-- `level` is an equation of the same sums
level_is : (s : Bool) (a : ℕ) (t : Bool) (b : ℕ) → level s a t b ≡ eqb (over s a + under t b) (over t b + under s a)
level_is false a false b = and-true (eqb a b) ∙ simp add-zero
level_is false a true b = both_zero a b
level_is true a false b = both_zero a b ∙ eqb_swap (a + b) 0 ∙ ap (eqb 0) (add_comm a b)
level_is true a true b = and-true (eqb a b) ∙ eqb_swap a b ∙ simp zero-add

-- ---- two floats

-- What x brings to its comparison with y: of two finite values, what x has above zero and y below, over one denominator.
-- An infinity stands below or above all of those.
side : Float → Float → ℕ
side nan y = 0
side (inf s) y = cond s 0 2
side (fin s m e) nan = 1
side (fin s m e) (inf t) = 1
side (fin s m e) (fin t n d) = over s (m * up e * down d) + under t (n * up d * down e)

-- neither is a NaN
abbrev numbers : Float → Float → Bool
numbers x y = not (is_nan x) && not (is_nan y)

-- each comparison is one of the sides, and fails where a NaN is
sides : (x y : Float) → (lt x y ≡ (numbers x y && ltb (side x y) (side y x))) × (eq x y ≡ (numbers x y && eqb (side x y) (side y x)))
unfolding lt eq side is_nan
sides nan y = (refl, refl)
sides (inf s) nan = (refl, refl)
sides (inf true) (inf true) = (refl, refl)
sides (inf true) (inf false) = (refl, refl)
sides (inf false) (inf true) = (refl, refl)
sides (inf false) (inf false) = (refl, refl)
sides (inf true) (fin t n d) = (refl, refl)
sides (inf false) (fin t n d) = (refl, refl)
sides (fin s m e) nan = (refl, refl)
sides (fin s m e) (inf true) = (refl, refl)
sides (fin s m e) (inf false) = (refl, refl)
sides (fin s m e) (fin t n d) =
    let a = m * up e * down d in
    let b = n * up d * down e in
    (below_is s a t b, level_is s a t b)

-- less or equal is at most
at_most : (a b : ℕ) → (ltb a b || eqb a b) ≡ leb a b
at_most a b =
    same_test (ltb a b || eqb a b) (leb a b)
    (λ h. elim (or_cases (ltb a b) (eqb a b) h) [ inl l ↦ le→leb a b (le_of_lt (ltb→lt a b l)) | inr e ↦ le→leb a b (le_of_eq (eqb→eq a b e)) ])
    (λ h. go (leb→le a b h) (dec_le b a))
  where
    go : a ≤ b → Dec (b ≤ a) → T (ltb a b || eqb a b)
    go h (yes l) = or_right (ltb a b) (eqb a b) (eqb_of a b (omega arith))
    go h (no l) = or_left (ltb a b) (eqb a b) (lt→ltb a b (omega arith))

-- so `le` is one of the sides too
le_is : (x y : Float) → le x y ≡ (numbers x y && leb (side x y) (side y x))
unfolding le
le_is x y =
    ap₂ ◌||◌ (sides x y).0 (sides x y).1 ∙ sym (and-or_distrib_left (numbers x y) (ltb (side x y) (side y x)) (eqb (side x y) (side y x)))
    ∙ ap (λ (b : Bool). numbers x y && b) (at_most (side x y) (side y x))

-- ---- `le` by the sides, and back
le_sides : (x y : Float) → T (le x y) → T (numbers x y) × (side x y ≤ side y x)
le_sides x y h =
    let t : T (numbers x y && leb (side x y) (side y x)) = subst T (le_is x y) h in
    (and_l (numbers x y) (leb (side x y) (side y x)) t, leb→le (side x y) (side y x) (and_r (numbers x y) (leb (side x y) (side y x)) t))

sides_le : (x y : Float) → T (numbers x y) → side x y ≤ side y x → T (le x y)
sides_le x y t h = subst T (sym (le_is x y)) (and_i (numbers x y) (leb (side x y) (side y x)) t (le→leb (side x y) (side y x) h))

-- ---- transitivity

-- three fractions (P - N) / D
through : (P N D P' N' D' P'' N'' D'' : ℕ) → 0 < D'
    → P * D' + N' * D ≤ P' * D + N * D' → P' * D'' + N'' * D' ≤ P'' * D' + N' * D'' → P * D'' + N'' * D ≤ P'' * D + N * D''
through P N D P' N' D' P'' N'' D'' pos h k =
    let a : P * D' * D'' + N' * D * D'' ≤ P' * D * D'' + N * D' * D'' = simp (← add-mul) (mul-le-mul_right D'' h) in
    let b : P' * D'' * D + N'' * D' * D ≤ P'' * D' * D + N' * D'' * D = simp (← add-mul) (mul-le-mul_right D k) in
    le_of_mul-le-mul_right
    (simp (add-mul, mul_assoc, mul_comm)
    (omega (arith, simp (mul_assoc, mul_comm) at a, simp (mul_assoc, mul_comm, mul_left_comm) at b)))
    pos

-- a magnitude over another denominator
over_mul : (s : Bool) (a c : ℕ) → over s (a * c) ≡ over s a * c
over_mul true a c = sym (zero-mul c)
over_mul false a c = refl

-- the side of a finite value, as what the fractions (over - under) / down bring
side_fin : (s : Bool) (m : ℕ) (e : ℤ) (t : Bool) (n : ℕ) (d : ℤ) → side (fin s m e) (fin t n d) ≡ over s (m * up e) * down d + under t (n * up d) * down e
unfolding side
side_fin s m e t n d = ap₂ ◌+◌ (over_mul s (m * up e) (down d)) (over_mul (not t) (n * up d) (down e))

-- by kinds: between an infinity and anything the sides are 0, 1 and 2
side_trans : (x y z : Float) → T (numbers x y) → T (numbers y z) → side x y ≤ side y x → side y z ≤ side z y → side x z ≤ side z x
unfolding side is_nan
side_trans nan y z t u h k = absurd t
side_trans (inf s) nan z t u h k = absurd t
side_trans (inf s) (inf t) nan _ u h k = absurd u
side_trans (inf s) (inf t) (inf r) _ _ h k = le_trans h k
side_trans (inf s) (inf t) (fin r o f) _ _ h k = le_trans h k
side_trans (inf s) (fin t n d) nan _ u h k = absurd u
side_trans (inf s) (fin t n d) (inf r) _ _ h k = le_trans h k
side_trans (inf s) (fin t n d) (fin r o f) _ _ h k = h
side_trans (fin s m e) nan z t u h k = absurd t
side_trans (fin s m e) (inf t) nan _ u h k = absurd u
side_trans (fin s m e) (inf t) (inf r) _ _ h k = le_trans h k
side_trans (fin s m e) (inf true) (fin r o f) _ _ h k = absurd (omega arith)
side_trans (fin s m e) (inf false) (fin r o f) _ _ h k = absurd (omega arith)
side_trans (fin s m e) (fin t n d) nan _ u h k = absurd u
side_trans (fin s m e) (fin t n d) (inf r) _ _ h k = k
side_trans (fin s m e) (fin t n d) (fin r o f) _ _ h k =
    rw (side_fin s m e r o f, side_fin r o f s m e)
    (through (over s (m * up e)) (under s (m * up e)) (down e) (over t (n * up d)) (under t (n * up d)) (down d) (over r (o * up f)) (under r (o * up f)) (down f)
    (down_pos d) (rw (side_fin s m e t n d, side_fin t n d s m e) at h) (rw (side_fin t n d r o f, side_fin r o f t n d) at k))

-- ---- the laws

-- what compares is a number, on either side
le-number_left : (x y : Float) → T (le x y) → is_nan x ≡ false
le-number_left x y h = not-true (is_nan x) (to_true (not (is_nan x)) (and_l (not (is_nan x)) (not (is_nan y)) (le_sides x y h).0))

pub le-number_right : (x y : Float) → T (le x y) → is_nan y ≡ false
le-number_right x y h = not-true (is_nan y) (to_true (not (is_nan y)) (and_r (not (is_nan x)) (not (is_nan y)) (le_sides x y h).0))

-- the one value that is a NaN
pub only_nan : (x : Float) → is_nan x ≡ true → x ≡ nan
unfolding is_nan
only_nan nan h = refl
only_nan (inf s) h = absurd (false≢true h)
only_nan (fin s m e) h = absurd (false≢true h)

-- two numbers
both_numbers : (x y : Float) → is_nan x ≡ false → is_nan y ≡ false → T (numbers x y)
both_numbers x y e f = rw (e, f) tt

pub le_transitive : (x y z : Float) → T (le x y) → T (le y z) → T (le x z)
le_transitive x y z h k =
    let a = le_sides x y h in
    let b = le_sides y z k in
    sides_le x z (both_numbers x z (le-number_left x y h) (le-number_right y z k)) (side_trans x y z a.0 b.0 a.1 b.1)

pub le_total : (x y : Float) → is_nan x ≡ false → is_nan y ≡ false → T (le x y) ⊎ T (le y x)
le_total x y e f = go (dec_le (side x y) (side y x))
  where
    go : Dec (side x y ≤ side y x) → T (le x y) ⊎ T (le y x)
    go (yes h) = inl (sides_le x y (both_numbers x y e f) h)
    go (no h) = inr (sides_le y x (both_numbers y x f e) (omega arith))

pub le_reflexive : (x : Float) → is_nan x ≡ false → T (le x x)
le_reflexive x e = sides_le x x (both_numbers x x e e) (le_refl (side x x))

-- `lt` is `le` that does not go back
pub lt-le : (x y : Float) → T (lt x y) → T (le x y)
unfolding le
lt-le x y h = or_left (lt x y) (eq x y) h

pub lt_not_le : (x y : Float) → T (lt x y) → T (le y x) → ⊥
lt_not_le x y h k =
    let l = ltb→lt (side x y) (side y x) (and_r (numbers x y) (ltb (side x y) (side y x)) (subst T (sides x y).0 h)) in
    let g = (le_sides y x k).1 in
    omega arith

-- `eq` is `le` both ways
pub eq-le : (x y : Float) → T (eq x y) → T (le x y)
unfolding le
eq-le x y h = or_right (lt x y) (eq x y) h

pub eq_symmetric : (x y : Float) → T (eq x y) → T (eq y x)
eq_symmetric x y h =
    let t : T (numbers x y && eqb (side x y) (side y x)) = subst T (sides x y).1 h in
    let n = (le_sides x y (eq-le x y h)).0 in
    subst T (sym (sides y x).1)
    (and_i (numbers y x) (eqb (side y x) (side x y)) (and_i (not (is_nan y)) (not (is_nan x)) (and_r (not (is_nan x)) (not (is_nan y)) n) (and_l (not (is_nan x)) (not (is_nan y)) n))
    (eqb_of (side y x) (side x y) (sym (eqb→eq (side x y) (side y x) (and_r (numbers x y) (eqb (side x y) (side y x)) t)))))

-- `le` is either of the two
pub le_cases : (x y : Float) → T (le x y) → T (lt x y) ⊎ T (eq x y)
unfolding le
le_cases x y h = or_cases (lt x y) (eq x y) h
