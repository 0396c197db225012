-- `refusals::any_wrong` meets its contract. Invariant: what was found, or is still to come, is what all weights have. Assumes nothing.
use Prim.Native.Nat.{zero-le}
use mathlib.Core.Path.{refl}
use native.Mathlib.Omega.{arith}
use lib.Ieee.{nan}
use Rattle.refusals.specs.Refusals.{wrong}
use Rattle.refusals.proofs.Any.{any_next, any_end}
use Rattle.refusals.proofs.any_wrong.Goals as goal

pub loop-weight-init : goal.loop-weight-init
loop-weight-init c = (zero-le, refl)

pub loop-weight-preserved : goal.loop-weight-preserved
loop-weight-preserved c = let s = c.loop-weight in
    (omega arith, rw c.is_wrong-found.ensures (any_next wrong c.args.weights.now s.weight-index nan s.found s.invariant.1 (omega arith)))

pub returns : goal.returns
returns c = any_end wrong c.args.weights.now c.loop-weight.weight-index nan c.loop-weight.found c.loop-weight.invariant.1 (omega arith)
