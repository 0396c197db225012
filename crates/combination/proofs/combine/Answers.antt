-- `combination::combine` meets its contract. Invariant: the first v nodes are added. Assumes nothing.
use mathlib.Core.Path.{◌≡◌, refl}
use native.Mathlib.Numerals.{add-one}
use native.Mathlib.Omega.{arith}
use lib.ListN.{length}
use Rattle.rules.specs.Answers.{combined}
use Rattle.combination.proofs.combine.Goals as goal

pub loop-v-init : goal.loop-v-init
unfolding combined
loop-v-init c = refl

pub loop-v-preserved : goal.loop-v-preserved
unfolding combined
loop-v-preserved c = let s = c.loop-v in rw (s.invariant, add-one)

pub returns : goal.returns
returns c = let s = c.loop-v in let a = c.args in
    let e : s.v ≡ length a.backward.estimate.now = omega arith in
    rw e at s.invariant
