-- `edges::search::any_is` meets its contract: a fold that looks at each column. Assumes nothing.
use mathlib.Core.Bool.{false, ◌||◌}
use mathlib.Core.Path.{◌∙◌}
use borrow.Author.Tests.{tests}
use lib.Dec.{eqb}
use Rattle.std.proofs.Common.{rules}
use Rattle.std.proofs.lemmas.Iterator.{YieldsList-from_slice}
use Rattle.std.proofs.lemmas.Iterator.Consumers.{fold_from_yields_List}
use Rattle.edges.proofs.FirstMatch.{folds_any}
use Rattle.edges.proofs.search.any_is.Goals as goal

pub returns : goal.returns
returns c = let a = c.args in
    fold_from_yields_List _ (λ b x. b || eqb x a.node) false c.fold.result c.fold.ensures.ran (YieldsList-from_slice a.columns.now cc) (λ b x d q k. search (rules, tests))
    ∙ folds_any (λ x. eqb x a.node) false a.columns.now
