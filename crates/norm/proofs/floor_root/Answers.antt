-- `norm::floor_root` meets its contract (`Halves.antt`). Assumes nothing.
use Prim.Native.Nat.{◌*◌, ◌/◌, ◌^◌, ◌≤◌}
use native.Mathlib.Nat.{mul-le-mul}
use native.Mathlib.Omega.{arith}
use Rattle.norm.proofs.Halves.{upper, lower, left_less, exact, one_less}
use Rattle.norm.proofs.floor_root.Goals.{After-whole_root-high}
use Rattle.norm.proofs.floor_root.Goals as goal

-- the upper half has 27 digits
high : (c : After-whole_root-high) → 2 ^ 26 ≤ c.whole_root-high.result.root
high c = upper c.whole_root-high.ensures.0 c.requires.0 c.requires.1

-- the lower one is at most 2 ^ 27
low : (c : After-whole_root-high) → c.whole_root-high.result.rest * 2 ^ 27 / (c.whole_root-high.result.root * 2) ≤ 2 ^ 27
low c = lower c.whole_root-high.ensures.0 c.requires.0 c.requires.1

pub overflow_add-root : goal.overflow_add-root
overflow_add-root c = omega (arith, low (goal.at.overflow_add-root c).After-whole_root-high)

pub overflow_mul-left-2 : goal.overflow_mul-left-2
overflow_mul-left-2 c = omega (arith, left_less c.whole_root-high.ensures.0 c.requires.0 c.requires.1)

pub overflow_mul-lower : goal.overflow_mul-lower
overflow_mul-lower c = omega (arith, mul-le-mul (low (goal.at.overflow_mul-lower c).After-whole_root-high) (low (goal.at.overflow_mul-lower c).After-whole_root-high))

pub overflow_sub-result : goal.overflow_sub-result
overflow_sub-result c = omega (arith, high (goal.at.overflow_sub-result c).After-whole_root-high)

pub returns-then-left-twice : goal.returns-then-left-twice
returns-then-left-twice c = one_less c.whole_root-high.ensures.0 c.requires.0 c.requires.1 c.if-left-twice.true

pub returns-else-left-twice : goal.returns-else-left-twice
returns-else-left-twice c = exact c.whole_root-high.ensures.0 c.requires.0 c.requires.1 c.if-left-twice.false
