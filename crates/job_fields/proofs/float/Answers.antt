-- `job_fields::float` meets its contract: the library's sum of eight bytes is that of the two halves. Assumes nothing.
use native.Mathlib.Nat.{add_assoc}
use native.Mathlib.Omega.{arith}
use mathlib.Core.Path.{◌≡◌, ap, ◌∙◌}
use Prim.Native.Nat.{◌+◌, ◌*◌}
use Rattle.numbers.specs.Numbers.{f64}
use Rattle.job_fields.specs.Fields.{number, word_at, float_at}
use Rattle.job_fields.proofs.float.Goals as goal

pub returns : goal.returns
unfolding float_at word_at number
returns c = let a = c.args in
    let halves : c.from_le_bytes.result ≡ word_at a.bytes.now a.at + 0x1_0000_0000 * word_at a.bytes.now (a.at + 4) = simp add_assoc (omega (arith, c.from_le_bytes.ensures)) in
    c.float_of.ensures ∙ ap f64 halves
