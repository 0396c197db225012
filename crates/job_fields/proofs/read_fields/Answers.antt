-- `job_fields::read_fields` meets its contract. The invariant: the first i are written (`over`). Assumes nothing.
use Prim.Native.Nat.{◌+◌, ◌*◌}
use native.Mathlib.Omega.{arith}
use mathlib.Core.Path.{sym, ◌∙◌}
use lib.ListN.{length}
use Rattle.numbers.specs.Tables.{tabulate}
use Rattle.numbers.proofs.Tables.{length-tabulate, get_or-tabulate}
use Rattle.numbers.proofs.Over.{over_none, over_more, over_whole}
use Rattle.job_fields.proofs.read_fields.Goals as goal

pub loop-i-init : goal.loop-i-init
loop-i-init g c = over_none _ _

pub loop-i-preserved : goal.loop-i-preserved
loop-i-preserved g c = let s = c.loop-i in let a = c.args in
    let n = length a.list.now in
    let all = tabulate n (λ i. g.F.Field.value_at a.bytes.now (a.at + a.step * i)) in
    rw s.invariant
    (over_more s.i all a.list.now c.read.result c.read.result (rw length-tabulate (omega arith)) (omega arith)
    (c.read.ensures ∙ sym (get_or-tabulate n (λ i. g.F.Field.value_at a.bytes.now (a.at + a.step * i)) s.i c.read.result (omega arith))))

pub returns : goal.returns
returns g c = let s = c.loop-i in let a = c.args in
    let n = length a.list.now in
    rw s.invariant (over_whole s.i (tabulate n (λ i. g.F.Field.value_at a.bytes.now (a.at + a.step * i))) a.list.now (omega arith) (rw length-tabulate (omega arith)))
