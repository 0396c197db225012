-- `Text::append_count` meets its contract: the number and a space, one behind the other. Assumes nothing.
use native.Mathlib.Omega.{arith}
use Rattle.job_text.proofs.Numerals.{behind_decimal}
use Rattle.job_text.proofs.Growing.{grown_by}
use Rattle.job_text.proofs.Text.append_count.Goals as goal

pub append-requires : goal.append-requires
append-requires c = let number = c.append_decimal.ensures.grown in omega (arith, behind_decimal _ number, number.same_room, c.requires)

pub returns : goal.returns
returns c = grown_by c.append_decimal.ensures c.append.ensures
