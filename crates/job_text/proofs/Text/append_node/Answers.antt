-- `Text::append_node` meets its contract: its parts, one behind the other. Assumes nothing.
use native.Mathlib.Omega.{arith}
use mathlib.Core.List.{append_assoc}
use Rattle.job_text.specs.Text.{decimal, space, node_line}
use Rattle.job_text.proofs.Numerals.{behind_count, behind_bits}
use Rattle.job_text.proofs.Growing.{grown_by}
use Rattle.job_text.proofs.Text.append_node.Goals as goal

pub append_bits-requires : goal.append_bits-requires
append_bits-requires c = let number = c.append_count.ensures.grown in omega (arith, behind_count _ number, number.same_room, c.requires)

pub append-requires : goal.append-requires
append-requires c = let number = c.append_count.ensures.grown in
    let score = c.append_bits.ensures.grown in
    omega (arith, behind_count _ number, behind_bits _ score, number.same_room, score.same_room, c.requires)

pub append_bits-requires-2 : goal.append_bits-requires-2
append_bits-requires-2 c = let number = c.append_count.ensures.grown in
    let score = c.append_bits.ensures.grown in
    let gap = c.append.ensures.grown in
    omega (arith, behind_count _ number, behind_bits _ score, gap.next, number.same_room, score.same_room, gap.same_room, c.requires)

pub append-requires-2 : goal.append-requires-2
append-requires-2 c = let number = c.append_count.ensures.grown in
    let score = c.append_bits.ensures.grown in
    let gap = c.append.ensures.grown in
    let rest = c.append_bits-2.ensures.grown in
    omega (arith, behind_count _ number, behind_bits _ score, gap.next, behind_bits _ rest, number.same_room, score.same_room, gap.same_room, rest.same_room, c.requires)

pub returns : goal.returns
unfolding node_line
returns c = let a = c.args in
    let number = c.append_count.ensures in
    let score = c.append_bits.ensures in
    let gap = c.append.ensures in
    let rest = c.append_bits-2.ensures in
    let end = c.append-2.ensures in (
      rw (append_assoc (decimal a.v) space _) at (grown_by number (grown_by score (grown_by gap (grown_by rest end)))),
      omega (arith, behind_count _ number.grown, behind_bits _ score.grown, gap.grown.next, behind_bits _ rest.grown, end.grown.next),
    )
