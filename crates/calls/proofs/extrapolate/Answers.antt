-- `calls::extrapolate` meets its contract. Invariant: the first v numbers are written (`over`). Assumes nothing.
use Prim.Native.Nat.{◌≤◌, ◌<◌}
use mathlib.Core.Path.{sym, ◌∙◌}
use native.Mathlib.Omega.{arith}
use lib.ListN.{length}
use lib.Ieee.{nan}
use Rattle.numbers.proofs.Tables.{length-tabulate, get_or-tabulate}
use Rattle.numbers.proofs.Over.{over_none, over_more, over_whole}
use Rattle.rules.specs.Answers.{extrapolated}
use Rattle.calls.proofs.extrapolate.Goals as goal

pub loop-v-init : goal.loop-v-init
loop-v-init c = over_none _ _

pub loop-v-preserved : goal.loop-v-preserved
unfolding extrapolated
loop-v-preserved c = let s = c.loop-v in let a = c.args in
    let h : s.v < length a.found.estimate.now = omega arith in
    rw s.invariant
    (over_more s.v (extrapolated a.alpha (length a.found.estimate.now) a.found.estimate.now a.found.residual.now) a.solution.now nan _
    (rw length-tabulate h) (rw c.requires.1 h) (sym (get_or-tabulate _ _ s.v nan h)))

pub returns : goal.returns
unfolding extrapolated
returns c = let s = c.loop-v in let a = c.args in
    let h : length a.found.estimate.now ≤ s.v = omega arith in
    s.invariant
    ∙ over_whole s.v (extrapolated a.alpha (length a.found.estimate.now) a.found.estimate.now a.found.residual.now) a.solution.now (rw c.requires.1 h) (rw length-tabulate h)
