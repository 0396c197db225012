-- `edges::search::pass_over` meets its contract: of the blocks of eight columns it counts the first that have no match. Assumes nothing.
use mathlib.Core.Path.{◌≡◌, ◌∙◌}
use native.Mathlib.Omega.{arith}
use borrow.Author.Tests.{tests}
use lib.ListN.{length}
use Rattle.std.specs.List.{prefix_len}
use Rattle.std.specs.Simd.{first_chunks}
use Rattle.std.proofs.Common.{rules, ◌/◌, ℕ, ◌*◌, subst, sym}
use Rattle.std.proofs.lemmas.Iterator.{YieldsList-from_slice}
use Rattle.std.proofs.lemmas.Iterator.Consumers.{count_from_yields_List}
use Rattle.std.proofs.lemmas.Iterator.Search.{YieldsList-from_take_while}
use Rattle.std.proofs.lemmas.List.Folds.{length-prefix_len}
use Rattle.edges.specs.Passed.{Passed}
use Rattle.edges.proofs.FirstMatch.{free, all_blocks_passed}
use Rattle.edges.proofs.search.pass_over.Goals as goal

pub returns : goal.returns
returns c = let a = c.args in
    let blocks = first_chunks 8 (length a.columns.now / 8) a.columns.now in
    let e : c.count-passed.result ≡ prefix_len (free a.node) blocks =
    count_from_yields_List c.take_while.result _ c.count-passed.ensures.ran
    (YieldsList-from_take_while _ (free a.node) (YieldsList-from_slice blocks cc) c.take_while.ensures.closure c.take_while.ensures.done (λ x b q k. search (rules, tests)))
    ∙ length-prefix_len (free a.node) blocks in
    subst (λ (k : ℕ). Passed a.node a.columns.now (8 * k)) (sym e) (all_blocks_passed a.node _ a.columns.now (omega arith))
