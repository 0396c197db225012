-- `refusals::any_fall` meets its contract. Invariant: the starts fall where they were found to, or do from the one before i on. Assumes nothing.
use Prim.Native.Nat.{◌-◌}
use mathlib.Core.Bool.{◌||◌}
use mathlib.Core.Path.{◌≡◌}
use lib.ListN.{drop}
use Rattle.refusals.specs.Refusals.{falls}
use Rattle.refusals.proofs.any_fall.Given as goal

abbrev pub invariant-loop-i : goal.invariant-loop-i
invariant-loop-i l = (l.found || falls (drop (l.i - 1) l.starts)) ≡ falls l.starts
