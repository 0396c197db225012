-- `refusals::any_past` meets its contract. Invariant: what was found, or is still to come, is what all columns have. Assumes nothing.
use Prim.Native.Nat.{ℕ, zero-le}
use mathlib.Core.Path.{refl}
use native.Mathlib.Omega.{arith}
use lib.Dec.{leb}
use Rattle.refusals.proofs.Any.{any_next, any_end}
use Rattle.refusals.proofs.any_past.Goals as goal

pub loop-column-init : goal.loop-column-init
loop-column-init c = (zero-le, refl)

pub loop-column-preserved : goal.loop-column-preserved
loop-column-preserved c = let s = c.loop-column in
    let a = c.args in
    (omega arith, any_next (λ (v : ℕ). leb a.n v) a.columns.now s.column-index 0 s.found s.invariant.1 (omega arith))

pub returns : goal.returns
returns c = let s = c.loop-column in
    let a = c.args in
    any_end (λ (v : ℕ). leb a.n v) a.columns.now s.column-index 0 s.found s.invariant.1 (omega arith)
