-- `norm::normalized` meets its contract. A turn doubles the significand and lowers the exponent by one, which leaves the product. Assumes nothing.
use mathlib.Core.Path.{◌≡◌, refl, sym, ap, ◌∙◌}
use Prim.Native.Nat.{ℕ, zero, suc, ◌+◌, ◌-◌, ◌*◌, ◌^◌, ◌≤◌, ◌<◌}
use native.Mathlib.Nat.{mul_assoc, mul-le-mul}
use native.Mathlib.Omega.{arith}
use lib.Pow.{pow-add, pow_mono}
use Rattle.norm.proofs.normalized.Invariants.{Held}
use Rattle.norm.proofs.normalized.Goals as goal

-- with no exponent left the significand is not short
more : (t g : ℕ) → 2 ^ 52 ≤ t * 2 ^ g → t < 2 ^ 52 → 1 ≤ g
more t zero h l = absurd (no t h l)
  where
    no : (t : ℕ) → 2 ^ 52 ≤ t * 2 ^ 0 → t < 2 ^ 52 → ⊥
    no t h l = omega arith
more t (suc g) h l = omega arith

-- what holds before the first turn
begin : (s h : ℕ) → 0 < s → s < 2 ^ 53 → 52 ≤ h → Held s h s h
begin s h p l e = record { some = p; high = l; less = omega arith; enough = big s h p e; value = refl }
  where
    big : (s h : ℕ) → 0 < s → 52 ≤ h → 2 ^ 52 ≤ s * 2 ^ h
    big s h p e = mul-le-mul {n₁ = 1} {n₂ = s} p (pow_mono {i = 52} {j = h} e)

-- doubling moves one factor of two
moved : (t g : ℕ) → 1 ≤ g → t * 2 * 2 ^ (g - 1) ≡ t * 2 ^ g
moved t g h =
    let e : 1 + (g - 1) ≡ g = omega arith in
    mul_assoc t 2 (2 ^ (g - 1)) ∙ ap (λ (x : ℕ). t * x) (sym (pow-add 2 1 (g - 1)) ∙ ap (λ (x : ℕ). 2 ^ x) e)

-- a turn keeps it
turn : {s h t g : ℕ} → Held s h t g → t < 2 ^ 52 → Held s h (t * 2) (g - 1)
turn {s} {h} {t} {g} i l =
    let m : 1 ≤ g = more t g i.enough l in
    let e : t * 2 * 2 ^ (g - 1) ≡ t * 2 ^ g = moved t g m in
    record { some = omega arith; high = omega arith; less = omega arith; enough = omega arith; value = e ∙ i.value }

pub loop-t-init : goal.loop-t-init
loop-t-init c = begin c.args.s c.args.h c.requires.0 c.requires.1 c.requires.2

pub overflow_mul-t : goal.overflow_mul-t
overflow_mul-t c = omega arith

pub overflow_sub-g : goal.overflow_sub-g
overflow_sub-g c = more c.loop-t.t c.loop-t.g c.loop-t.invariant.enough c.loop-t-test.true

pub loop-t-smaller : goal.loop-t-smaller
loop-t-smaller c = omega (arith, more c.loop-t.t c.loop-t.g c.loop-t.invariant.enough c.loop-t-test.true)

pub loop-t-preserved : goal.loop-t-preserved
loop-t-preserved c = turn c.loop-t.invariant c.loop-t-test.true

pub returns : goal.returns
returns c = let i = c.loop-t.invariant in
    record { low = c.loop-t-test.false; high = i.high; less = i.less; value = i.value }
