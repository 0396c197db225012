-- `Text::append_done` meets its contract: its parts, one behind the other. Assumes nothing.
use native.Mathlib.Omega.{arith}
use mathlib.Core.List.{append_assoc}
use Rattle.job_text.specs.Text.{decimal, space, done_line}
use Rattle.job_text.proofs.Numerals.{behind_count, behind_bits}
use Rattle.job_text.proofs.Growing.{grown_by}
use Rattle.job_text.proofs.Text.append_done.Goals as goal

pub append_count-requires-2 : goal.append_count-requires-2
append_count-requires-2 c = let word = c.append.ensures.grown in
    let pushes = c.append_count.ensures.grown in
    omega (arith, word.next, behind_count _ pushes, word.same_room, pushes.same_room, c.requires)

pub append_bits-requires : goal.append_bits-requires
append_bits-requires c = let word = c.append.ensures.grown in
    let pushes = c.append_count.ensures.grown in
    let visited = c.append_count-2.ensures.grown in
    omega (arith, word.next, behind_count _ pushes, behind_count _ visited, word.same_room, pushes.same_room, visited.same_room, c.requires)

pub append-requires-2 : goal.append-requires-2
append-requires-2 c = let word = c.append.ensures.grown in
    let pushes = c.append_count.ensures.grown in
    let visited = c.append_count-2.ensures.grown in
    let norm = c.append_bits.ensures.grown in
    omega (arith, word.next, behind_count _ pushes, behind_count _ visited, behind_bits _ norm, word.same_room, pushes.same_room, visited.same_room, norm.same_room, c.requires)

pub returns : goal.returns
unfolding done_line
returns c = let a = c.args in
    let word = c.append.ensures in
    let pushed = c.append_count.ensures in
    let seen = c.append_count-2.ensures in
    let norm = c.append_bits.ensures in
    let end = c.append-2.ensures in (
      rw (append_assoc (decimal a.pushes) space _, append_assoc (decimal a.visited) space _) at (grown_by word (grown_by pushed (grown_by seen (grown_by norm end)))),
      omega (arith, word.grown.next, behind_count _ pushed.grown, behind_count _ seen.grown, behind_bits _ norm.grown, end.grown.next),
    )
