-- Inner: no public promise cites it.
-- The columns that a search has passed over. Assumes nothing.
use Rattle.std.specs.Prelude.{ℕ, ◌≤◌, ◌<◌, List, ◌≡◌, length, get_or}

-- the first k columns, none of which is the node
pub record Passed (node : ℕ) (columns : List ℕ) (k : ℕ) : Type 0 where
  pub inside : k ≤ length columns
  pub others : (i : ℕ) → i < k → get_or columns i 0 ≡ node → ⊥
