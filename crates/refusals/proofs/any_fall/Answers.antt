-- `refusals::any_fall` meets its contract. Invariant: the starts fall where they were found to, or do from the one before i on. Assumes nothing.
use Prim.Native.Nat.{◌+◌, ◌-◌}
use native.Mathlib.Omega.{arith}
use Rattle.refusals.proofs.Any.{falls_next, falls_end}
use Rattle.refusals.proofs.any_fall.Goals as goal

pub loop-i-preserved : goal.loop-i-preserved
loop-i-preserved c = let s = c.loop-i in falls_next c.args.starts.now s.found s.i (s.i - 1) (s.i + 1 - 1) (omega arith) (omega arith) (omega arith) s.invariant

pub returns : goal.returns
returns c = let s = c.loop-i in falls_end c.args.starts.now s.found (s.i - 1) (omega arith) s.invariant
