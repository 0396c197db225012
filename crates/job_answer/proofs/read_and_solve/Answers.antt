-- `job_answer::read_and_solve` meets its contract: the lists that are read are the job's. Assumes nothing.
use mathlib.Core.Path.{sym, ◌∙◌}
use native.Mathlib.Omega.{arith}
use Rattle.job_fields.specs.Fields.{words_at, floats_at}
use Rattle.job_fields.proofs.Shapes.{shape}
use Rattle.job_answer.proofs.Texts.{job_read}
use Rattle.job_answer.proofs.read_and_solve.Goals as goal

pub read_fields-requires : goal.read_fields-requires
read_fields-requires c = let q = c.requires in
    let s = shape c.args.bytes.now c.requires.bytes_value.0 in
    omega (arith, s.long, q.from_len.0)

pub read_fields-requires-2 : goal.read_fields-requires-2
read_fields-requires-2 c = let q = c.requires in
    let s = shape c.args.bytes.now c.requires.bytes_value.0 in
    omega (arith, s.long, q.bytes_value.1.to_long, q.from_len.0)

pub read_fields-requires-3 : goal.read_fields-requires-3
read_fields-requires-3 c = let q = c.requires in
    let s = shape c.args.bytes.now c.requires.bytes_value.0 in
    omega (arith, s.long, q.bytes_value.1.weight_long, q.from_len.0)

pub overflow_add-from : goal.overflow_add-from
overflow_add-from c = let s = shape c.args.bytes.now c.requires.bytes_value.0 in
    omega (arith, s.few_links, c.read_fields.auto.list, c.requires.from_len.0)

pub read_fields-requires-4 : goal.read_fields-requires-4
read_fields-requires-4 c = let q = c.requires in
    let s = shape c.args.bytes.now c.requires.bytes_value.0 in
    omega (arith, s.long, c.read_fields.auto.list, q.from_len.0, q.from_len.1)

pub word-requires : goal.word-requires
word-requires c = let s = shape c.args.bytes.now c.requires.bytes_value.0 in
    omega (arith, s.long)

pub settings_in-requires : goal.settings_in-requires
settings_in-requires c = let s = shape c.args.bytes.now c.requires.bytes_value.0 in
    omega (arith, s.long)

pub solve_links-requires : goal.solve_links-requires
solve_links-requires c = let q = c.requires in
    let s = shape c.args.bytes.now c.requires.bytes_value.0 in
    let from = c.read_fields.auto.list in
    record { n_bound = (omega (arith, c.word.ensures, s.few_nodes), record { to_long = c.read_fields-2.auto.list ∙ q.bytes_value.1.to_long ∙ sym from; weight_long = c.read_fields-3.auto.list ∙ q.bytes_value.1.weight_long ∙ sym from }, q.bytes_value.2); from_len_bound = omega (arith, from, q.from_len.0, s.few_links) }

pub returns : goal.returns
unfolding words_at floats_at
returns c = let a = c.args in
    let q = c.requires in
    rw (job_read a.bytes.now c.word.ensures c.read_fields.ensures c.read_fields-2.ensures c.read_fields-3.ensures c.read_fields-4.ensures
    c.settings_in.ensures q.from_len.0 q.bytes_value.1.to_long q.bytes_value.1.weight_long c.read_fields.auto.list q.from_len.1) at c.solve_links.ensures
