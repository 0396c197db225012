-- `job_answer::tell` meets its contract: the refusal, or the first line and the lines of all nodes. Assumes nothing.
use Rattle.std.proofs.Common.{arith, refl}
use Rattle.refusals.proofs.Numbered.{above_zero}
use Rattle.job_text.proofs.Growing.{grown_by}
use Rattle.job_answer.proofs.Texts.{text_refused, text_done}
use Rattle.job_answer.proofs.tell.Goals as goal

pub append_refused-requires : goal.append_refused-requires
append_refused-requires c = let q = c.requires.2 in omega (arith, q.0, q.1)

pub append_done-requires : goal.append_done-requires
append_done-requires c = let q = c.requires.2 in omega (arith, q.0, q.1)

pub append_nodes-requires : goal.append_nodes-requires
append_nodes-requires c = let q = c.requires in
    let done = c.append_done.ensures in
    (q.1, omega (arith, done.1, done.0.grown.same_room, q.0, q.2.0, q.2.1))

pub returns-in-Ok : goal.returns-in-Ok
returns-in-Ok c = let g = grown_by c.append_done.ensures.0 c.append_nodes.ensures in rw c.in-Ok.is (record { same = g.same; grown = text_done 0 _ refl g.grown })

pub returns-in-Err : goal.returns-in-Err
returns-in-Err c = let g = rw c.into.ensures at c.append_refused.ensures in
    rw c.in-Err.is (record { same = g.same; grown = text_refused _ _ (above_zero c.in-Err.refusal) g.grown })
