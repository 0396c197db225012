-- `job_answer::run_shaped` meets its contract: each part that it lends is as long as the header says. Assumes nothing.
use Prim.Native.Nat.{ℕ}
use mathlib.Core.Path.{refl, sym, ◌∙◌}
use native.Mathlib.Omega.{arith}
use lib.Ieee.{Float}
use lib.ListN.{replicate}
use lib.Seq.{length-take-le}
use Rattle.numbers.specs.Numbers.{+0}
use Rattle.job_fields.proofs.Shapes.{shape}
use Rattle.job_answer.proofs.run_shaped.Goals as goal

pub word-links-requires : goal.word-links-requires
word-links-requires c = let s = shape c.args.bytes.now c.requires.0 in
    omega (arith, s.long)

pub word-count-requires : goal.word-count-requires
word-count-requires c = let s = shape c.args.bytes.now c.requires.0 in
    omega (arith, s.long)

pub slice_bounds-from-end : goal.slice_bounds-from-end
slice_bounds-from-end c = omega (arith, c.word-links.ensures, (shape c.args.bytes.now c.requires.0).few_links)

pub slice_bounds-read_and_solve-end : goal.slice_bounds-read_and_solve-end
slice_bounds-read_and_solve-end c = sym (length-take-le _ _ (omega (arith, c.word-links.ensures, (shape c.args.bytes.now c.requires.0).few_links)))

pub slice_bounds-to-end : goal.slice_bounds-to-end
slice_bounds-to-end c = omega (arith, c.word-links.ensures, (shape c.args.bytes.now c.requires.0).few_links)

pub slice_bounds-read_and_solve-end-2 : goal.slice_bounds-read_and_solve-end-2
slice_bounds-read_and_solve-end-2 c = sym (length-take-le _ _ (omega (arith, c.word-links.ensures, (shape c.args.bytes.now c.requires.0).few_links)))

pub slice_bounds-weight-end : goal.slice_bounds-weight-end
slice_bounds-weight-end c = omega (arith, c.word-links.ensures, (shape c.args.bytes.now c.requires.0).few_links)

pub slice_bounds-read_and_solve-end-3 : goal.slice_bounds-read_and_solve-end-3
slice_bounds-read_and_solve-end-3 c = sym (length-take-le _ _ (omega (arith, c.word-links.ensures, (shape c.args.bytes.now c.requires.0).few_links)))

pub slice_bounds-sources-end : goal.slice_bounds-sources-end
slice_bounds-sources-end c = omega (arith, c.word-count.ensures, (shape c.args.bytes.now c.requires.0).few_sources)

pub slice_bounds-read_and_solve-end-4 : goal.slice_bounds-read_and_solve-end-4
slice_bounds-read_and_solve-end-4 c = sym (length-take-le _ _ (omega (arith, c.word-count.ensures, (shape c.args.bytes.now c.requires.0).few_sources)))

pub read_and_solve-requires : goal.read_and_solve-requires
read_and_solve-requires c = let s = shape c.args.bytes.now c.requires.0 in
    let q = c.requires in
    let links = c.word-links in let count = c.word-count in let from = length-take-le {A = ℕ} links.result (replicate 1024 0) (omega (arith, links.ensures, s.few_links)) in
    let weight = length-take-le {A = Float} links.result (replicate 1024 +0) (omega (arith, links.ensures, s.few_links)) in
    let sources = length-take-le {A = ℕ} count.result (replicate 16 0) (omega (arith, count.ensures, s.few_sources)) in record { bytes_value = (q.0, record { to_long = refl; weight_long = weight ∙ sym from }, q.1); from_len = (from ∙ links.ensures, sources ∙ count.ensures) }
