-- The degrees that `graph` sums are those of the rows, node by node. Assumes nothing.
use Prim.Native.Nat.{ℕ, ◌<◌}
use mathlib.Core.List.{List}
use mathlib.Core.Path.{◌≡◌, sym, ap, ◌∙◌}
use lib.Ieee.{Float}
use Rattle.graph.specs.Rows.{rows_in, degree}
use Rattle.graph.specs.Store.{Rowed, degrees_in}
use Rattle.graph.proofs.Read.{row_at_lem, row_degree}
use Rattle.rules.specs.Ways.{row_at}
use Rattle.rules.specs.Rules.{at}

-- the degree of v
pub degree_at : {n : ℕ} {starts columns : List ℕ} {weights : List Float} → Rowed n starts columns weights → (v : ℕ) → v < n
    → at (degrees_in n starts weights) v ≡ degree (row_at (rows_in n starts columns weights) v)
degree_at h v l = row_degree h v l ∙ ap degree (sym (row_at_lem h v l))
