-- From the whole part of √(s * 2 ^ 54) to the number nearest to its half, √(s * 2 ^ 52): half of the whole part, rounded up. Assumes nothing.
use mathlib.Core.Path.{◌≡◌, refl, sym, subst}
use mathlib.Core.Logic.{◌⊎◌, inl, inr}
use Prim.Native.Nat.{ℕ, zero, suc, ◌+◌, ◌-◌, ◌*◌, ◌/◌, ◌%◌, ◌^◌, ◌≤◌, ◌<◌}
use native.Mathlib.Nat.{lt_of_lt_of_le}
use native.Mathlib.Omega.{arith}
use Rattle.norm.specs.Steps.{FloorRoot, NearRoot}
use Rattle.norm.proofs.Squares.{square_next, square_odd, square_back, square_less}

-- N lies strictly between the squares of 2 q - 1 and of 2 q + 1
abbrev Between : ℕ → ℕ → Type 0
Between N q = ((2 * q - 1) * (2 * q - 1) < N) × (N < (2 * q + 1) * (2 * q + 1))

-- the whole part is 2 q: the root is at least q and less than half above
from_even : (N r q : ℕ) → 2 * q ≡ r → 0 < r → r * r ≤ N → N < (r + 1) * (r + 1) → Between N q
from_even N r q e p l u =
    subst (λ (x : ℕ). ((x - 1) * (x - 1) < N) × (N < (x + 1) * (x + 1))) (sym e)
    (lt_of_lt_of_le (square_less (r - 1) r (omega arith)) l, u)

-- the whole part is 2 q - 1: the root is at most half below q, and not exactly half, since N is even
from_odd : (N r q : ℕ) → 2 * q ≡ r + 1 → N % 2 ≡ 0 → r * r ≤ N → N < (r + 1) * (r + 1) → Between N q
from_odd N r q e n l u =
    let d : 2 * q - 1 ≡ r = omega arith in
    let o : r * r < N = strict (q - 1) (omega arith) in (
      subst (λ (x : ℕ). x * x < N) (sym d) o,
      lt_of_lt_of_le u (less (r + 1) (2 * q) (sym e)),
    )
  where
    strict : (p : ℕ) → p * 2 + 1 ≡ r → r * r < N
    strict p h =
        let s : r * r ≡ 4 * (p * p) + 4 * p + 1 = subst (λ (x : ℕ). x * x ≡ 4 * (p * p) + 4 * p + 1) h (square_odd p) in
        omega arith

    less : (a b : ℕ) → a ≡ b → a * a ≤ (b + 1) * (b + 1)
    less a b h = subst (λ (x : ℕ). x * x ≤ (b + 1) * (b + 1)) (sym h) (omega (arith, square_next b))

-- twice the rounded half of r is r or r + 1
parity : (r : ℕ) → (2 * ((r + 1) / 2) ≡ r) ⊎ (2 * ((r + 1) / 2) ≡ r + 1)
parity r = go (r % 2) refl
  where
    go : (p : ℕ) → r % 2 ≡ p → (2 * ((r + 1) / 2) ≡ r) ⊎ (2 * ((r + 1) / 2) ≡ r + 1)
    go zero h = inl (omega arith)
    go (suc p) h = inr (omega arith)

-- either way N lies between the two squares
between : (N r : ℕ) → 0 < r → N % 2 ≡ 0 → r * r ≤ N → N < (r + 1) * (r + 1) → Between N ((r + 1) / 2)
between N r p n l u = elim (parity r) [
  | inl e ↦ from_even N r ((r + 1) / 2) e p l u
  | inr e ↦ from_odd N r ((r + 1) / 2) e n l u
]

-- the rounded half of the whole part is the nearest, and has 53 digits since s + 2 is at most 2 ^ 54
pub rounded : {s r : ℕ} → 2 ^ 52 ≤ s → s + 2 ≤ 2 ^ 54 → FloorRoot (s * 2 ^ 54) r → NearRoot s ((r + 1) / 2)
rounded {s} {r} a b f =
    let wide : 2 ^ 53 < r + 1 = square_back (2 ^ 53) (r + 1) (omega arith) in
    let h = between (s * 2 ^ 54) r (omega arith) (omega arith) f.under f.over in
    let q = (r + 1) / 2 in
    let top : 2 * q - 1 < 2 ^ 54 - 1 = square_back (2 * q - 1) (2 ^ 54 - 1) (omega arith) in
    record { low = omega arith; high = omega arith; over = h.0; under = h.1 }
