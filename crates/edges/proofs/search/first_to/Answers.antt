-- `edges::search::first_to` meets its contract: the first match behind what was passed over. Assumes nothing.
use mathlib.Core.Path.{◌≡◌, sym, ◌∙◌}
use native.Mathlib.Omega.{arith}
use borrow.Author.Tests.{tests}
use lib.Dec.{eqb}
use lib.ListN.{drop, length-drop}
use Rattle.std.proofs.Common.{rules}
use Rattle.std.proofs.lemmas.List.{take_all}
use Rattle.std.proofs.lemmas.Iterator.{YieldsList-from_slice}
use Rattle.std.proofs.lemmas.Iterator.Search.{position_from_yields_List}
use Rattle.edges.proofs.FirstMatch.{left, found_at}
use Rattle.edges.proofs.search.first_to.Goals.{After-position}
use Rattle.edges.proofs.search.first_to.Goals as goal

-- the search behind what was passed over
found : (c : After-position) → c.position.result ≡ left c.args.node c.args.columns.now c.pass_over-passed.result
found c =
    position_from_yields_List (λ v. eqb v c.args.node) _ _ c.position.result c.position.ensures.ran
    (YieldsList-from_slice (drop c.pass_over-passed.result c.args.columns.now) (c.iter.ensures.rest ∙ take_all _ (drop c.pass_over-passed.result c.args.columns.now) (omega (arith, length-drop c.pass_over-passed.result c.args.columns.now)))) (λ x b q k. search (rules, tests))

pub returns-in_err-rest : goal.returns-in_err-rest
returns-in_err-rest c = c.from_residual.ensures ∙ found_at _ _ _ c.requires _ c.pass_over-passed.ensures (sym c.in_err-rest.was ∙ found (goal.at.returns-in_err-rest c).After-position)

pub returns : goal.returns
returns c = found_at _ _ _ c.requires _ c.pass_over-passed.ensures (sym c.in_ok-rest.was ∙ found (goal.at.returns c).After-position)
