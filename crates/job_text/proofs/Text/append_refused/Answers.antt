-- `Text::append_refused` meets its contract: the word, the number and the line end, one behind the other. Assumes nothing.
use native.Mathlib.Omega.{arith}
use Rattle.job_text.specs.Text.{refused_line}
use Rattle.job_text.proofs.Numerals.{behind_decimal}
use Rattle.job_text.proofs.Growing.{grown_by}
use Rattle.job_text.proofs.Text.append_refused.Goals as goal

pub append-requires-2 : goal.append-requires-2
append-requires-2 c = let first = c.append.ensures.grown in
    let number = c.append_decimal.ensures.grown in
    omega (arith, first.next, behind_decimal _ number, first.same_room, number.same_room, c.requires)

pub returns : goal.returns
unfolding refused_line
returns c = grown_by c.append.ensures (grown_by c.append_decimal.ensures c.append-2.ensures)
