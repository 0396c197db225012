-- `refusals::any_past` meets its contract. Invariant: what was found, or is still to come, is what all columns have. Assumes nothing.
use Prim.Native.Nat.{◌≤◌}
use mathlib.Core.Bool.{◌||◌}
use mathlib.Core.Path.{◌≡◌}
use lib.Dec.{leb}
use lib.ListN.{length, drop}
use Rattle.numbers.specs.Tables.{any}
use Rattle.refusals.proofs.any_past.Given as goal

abbrev pub invariant-loop-column : goal.invariant-loop-column
invariant-loop-column l = (l.column-index ≤ length l.columns) × ((l.found || any (λ v. leb l.n v) (drop l.column-index l.columns)) ≡ any (λ v. leb l.n v) l.columns)
