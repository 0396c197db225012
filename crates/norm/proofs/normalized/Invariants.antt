-- `norm::normalized` meets its contract. A turn doubles the significand and lowers the exponent by one, which leaves the product. Assumes nothing.
use mathlib.Core.Path.{◌≡◌}
use Prim.Native.Nat.{ℕ, ◌*◌, ◌^◌, ◌≤◌, ◌<◌}
use Rattle.norm.proofs.normalized.Given as goal

-- the exponent is not used up while the significand is short, and the number is what it was
pub record Held (s h t g : ℕ) : Type 0 where
  pub some : 0 < t
  pub high : t < 2 ^ 53
  pub less : g ≤ h
  pub enough : 2 ^ 52 ≤ t * 2 ^ g
  pub value : t * 2 ^ g ≡ s * 2 ^ h

abbrev pub invariant-loop-t : goal.invariant-loop-t
invariant-loop-t l = Held l.s l.h l.t l.g

abbrev pub decreases-loop-t : goal.decreases-loop-t
decreases-loop-t l = l.g
