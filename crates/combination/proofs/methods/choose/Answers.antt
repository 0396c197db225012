-- `combination::methods::choose` meets its contract, case by case. Assumes nothing.
use mathlib.Core.Bool.{Bool, true, false, not, ◌||◌}
use mathlib.Core.Path.{refl}
use native.Mathlib.Omega.{arith}
use lib.ListN.{length}
use lib.Dec.{ltb}
use lib.Ieee.{lt}
use borrow.Author.Tests.{ltb-true}
use Rattle.numbers.specs.Numbers.{f64, ◌⊗◌}
use Rattle.numbers.specs.Choice.{if◌then◌otherwise◌}
use Rattle.numbers.proofs.Tests.{both as all}
use Rattle.rules.specs.Rules.{at}
use Rattle.rules.specs.Answers.{backward_alone, forward_alone, both, by_degrees, method_among}
use Rattle.combination.specs.Methods.{uses_forward, uses_backward, Follows}
use Rattle.combination.proofs.methods.choose.Goals as goal

-- what the two comparisons choose
by-degrees : (b f : Bool) → Follows (record { forward = not b; backward = b || not f }) (if b then backward_alone otherwise (if f then forward_alone otherwise both))
unfolding uses_forward uses_backward if◌then◌otherwise◌
by-degrees true f = record { forward_is = refl; backward_is = refl }
by-degrees false true = record { forward_is = refl; backward_is = refl }
by-degrees false false = record { forward_is = refl; backward_is = refl }

pub bounds-out_degrees-s : goal.bounds-out_degrees-s
bounds-out_degrees-s c = let a = c.args in
    let n = length a.in_degrees.now in
    let l = ltb-true a.source n (all (ltb a.source n) (ltb a.target n) c.if-s-n.true).0 in
    omega (arith, l, c.requires)

pub bounds-in_degrees-t : goal.bounds-in_degrees-t
bounds-in_degrees-t c = let a = c.args in
    let n = length a.in_degrees.now in
    ltb-true a.target n (all (ltb a.source n) (ltb a.target n) c.if-s-n.true).1

pub returns-then-s-n : goal.returns-then-s-n
unfolding method_among by_degrees if◌then◌otherwise◌
returns-then-s-n c = let a = c.args in
    let inward = at a.in_degrees.now a.target in
    let outward = at a.out_degrees.now a.source in
    let two = f64 0x4000_0000_0000_0000 in
    rw (c.if-adaptive.true, c.if-s-n.true) (by-degrees (lt (inward ⊗ two) outward) (lt (outward ⊗ two) inward))

pub returns-then-adaptive : goal.returns-then-adaptive
unfolding method_among if◌then◌otherwise◌ uses_forward uses_backward
returns-then-adaptive c = rw (c.if-adaptive.true, c.if-s-n.false) (record { forward_is = refl; backward_is = refl })

pub returns : goal.returns
unfolding if◌then◌otherwise◌ uses_forward uses_backward
returns c = rw c.if-adaptive.false (record { forward_is = refl; backward_is = refl })
