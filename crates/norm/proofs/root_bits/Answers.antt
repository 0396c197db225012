-- `norm::root_bits` meets its contract (`Patterns.antt`). Assumes nothing.
use mathlib.Core.Path.{◌≡◌}
use Prim.Native.Nat.{ℕ, suc, ◌-◌, ◌/◌, ◌%◌, ◌^◌, ◌<◌}
use native.Mathlib.Omega.{arith}
use Rattle.norm.proofs.Patterns.{subnormal, normal, below_top, has_root}
use Rattle.norm.proofs.root_bits.Goals as goal

-- a field that is not 0 is one more than the field less one
stepped : (x : ℕ) → (x ≡ 0 → ⊥) → x ≡ suc (x - 1)
stepped x h = omega arith

pub returns-then-field-eq0 : goal.returns-then-field-eq0
returns-then-field-eq0 c = let b = c.args.b in
    let is = subnormal b c.if-field-eq0.true in
    let p : 0 < b % 2 ^ 52 = omega arith in
    (below_top b is p c.root_of.ensures, has_root b is p c.root_of.ensures)

pub returns-else-field-eq0 : goal.returns-else-field-eq0
returns-else-field-eq0 c = let b = c.args.b in
    let is = normal b (b / 2 ^ 52 - 1) (stepped (b / 2 ^ 52) c.if-field-eq0.false) c.requires.1 in
    (below_top b is (omega arith) c.root_of-else-field-eq0.ensures, has_root b is (omega arith) c.root_of-else-field-eq0.ensures)
