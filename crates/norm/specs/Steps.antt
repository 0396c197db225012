-- Inner: no public promise cites it.
-- What the integer functions that work out a square root ensure of their results. Assumes nothing.
use Rattle.std.specs.Prelude.{◌≡◌, ℕ, ◌+◌, ◌-◌, ◌*◌, ◌/◌, ◌^◌, ◌≤◌, ◌<◌}
use Rattle.norm.specs.SquareRoot.{Nearest}

-- root is the whole part of √n, and rest is what its square leaves of n
pub record WholeRoot (n root rest : ℕ) : Type 0 where
  pub is : root * root + rest ≡ n
  pub most : rest ≤ 2 * root

-- root is the whole part of √n, and has at most 54 digits
pub record FloorRoot (n root : ℕ) : Type 0 where
  pub small : root < 2 ^ 54
  pub under : root * root ≤ n
  pub over : n < (root + 1) * (root + 1)

-- q has 53 digits and is nearest to √(s * 2 ^ 52)
pub record NearRoot (s q : ℕ) : Type 0 where
  pub low : 2 ^ 52 ≤ q
  pub high : q < 2 ^ 53
  pub over : (2 * q - 1) * (2 * q - 1) < s * 2 ^ 54
  pub under : s * 2 ^ 54 < (2 * q + 1) * (2 * q + 1)

-- t * 2 ^ g is s * 2 ^ h, and t has 53 digits
pub record Normal (s h t g : ℕ) : Type 0 where
  pub low : 2 ^ 52 ≤ t
  pub high : t < 2 ^ 53
  pub less : g ≤ h
  pub value : t * 2 ^ g ≡ s * 2 ^ h

-- t * 4 ^ g is s * 2 ^ h, and t has 53 or 54 digits and is at most 2 ^ 54 - 2
pub record Even (s h t g : ℕ) : Type 0 where
  pub low : 2 ^ 52 ≤ t
  pub high : t + 2 ≤ 2 ^ 54
  pub less : g ≤ h / 2
  pub value : t * 4 ^ g ≡ s * 2 ^ h

-- r is the pattern k * 2 ^ 52 + q of q * 2 ^ k units of 2 ^ -1074, the root of s * 2 ^ j units
pub record Patterned (s j r : ℕ) : Type 0 where
  pub q : ℕ
  pub k : ℕ
  pub low : 2 ^ 52 ≤ q
  pub high : q < 2 ^ 53
  pub fits : k < 2045
  pub is : r ≡ k * 2 ^ 52 + q
  pub near : Nearest (s * 2 ^ j * 2 ^ 1074) (4 ^ k) q
