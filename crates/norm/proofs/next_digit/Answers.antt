-- `norm::next_digit` meets its contract (`Digits.antt`). Assumes nothing.
use Prim.Native.Nat.{◌+◌, ◌*◌}
use native.Mathlib.Omega.{arith}
use Rattle.norm.proofs.Digits.{digit, at_most_one, enough, lengthened}
use Rattle.norm.proofs.next_digit.Goals as goal

pub overflow_add-root : goal.overflow_add-root
overflow_add-root c = let p = c.args.p in
    omega (arith, at_most_one (digit (p.root * 4 + 1) (p.rest * 4 + c.args.next)))

pub overflow_mul-rest : goal.overflow_mul-rest
overflow_mul-rest c = let p = c.args.p in
    omega (arith, enough (digit (p.root * 4 + 1) (p.rest * 4 + c.args.next)))

pub overflow_sub-rest : goal.overflow_sub-rest
overflow_sub-rest c = let p = c.args.p in
    enough (digit (p.root * 4 + 1) (p.rest * 4 + c.args.next))

pub returns : goal.returns
returns c = let p = c.args.p in
    let next = c.args.next in
    let d = digit (p.root * 4 + 1) (p.rest * 4 + next) in
    (lengthened p.root p.rest next c.requires.0 c.requires.2 d, omega (arith, at_most_one d))
