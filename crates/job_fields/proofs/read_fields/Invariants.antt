-- `job_fields::read_fields` meets its contract. The invariant: the first i are written (`over`). Assumes nothing.
use Prim.Native.Nat.{◌+◌, ◌*◌}
use mathlib.Core.Path.{◌≡◌}
use lib.ListN.{length}
use Rattle.numbers.specs.Tables.{tabulate}
use Rattle.numbers.proofs.Over.{over}
use Rattle.job_fields.proofs.read_fields.Given as goal

abbrev pub invariant-loop-i : goal.invariant-loop-i
invariant-loop-i g l = l.list ≡ over l.i (tabulate (length l.initial.list) (λ i. g.F.Field.value_at l.bytes (l.at + l.step * i))) l.initial.list
