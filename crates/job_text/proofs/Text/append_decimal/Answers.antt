-- `Text::append_decimal` meets its contract: what `io::decimal` gives is put behind the text. Assumes nothing.
use native.Mathlib.Omega.{arith}
use Rattle.job_text.specs.Text.{decimal}
use Rattle.job_text.proofs.Numerals.{fewest_few, fewest_digits}
use Rattle.job_text.proofs.Text.append_decimal.Goals as goal

pub returns : goal.returns
unfolding decimal
returns c = let d = c.decimal-k in let n = c.args.n in
    let few = fewest_few 10 1 20 n d.result (omega arith) (omega arith) (omega (arith, c.ranges.n)) d.ensures.len in
    rw (d.ensures.digits, fewest_digits 19 d.result n few d.ensures.len) at c.append.ensures
