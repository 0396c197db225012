-- `marks::count` meets its contract: the sum is that of the definition, and each word has 64 bits, which `all_ones_marked` asks. Assumes nothing.
use mathlib.Core.Path.{◌≡◌, ◌∙◌}
use mathlib.Core.List.{map}
use lib.Count.{ones}
use Rattle.std.proofs.Common.{sum, rules}
use Rattle.marks.proofs.HowMany.{all_ones_sum, all_ones_marked}
use Rattle.marks.proofs.count.Goals as goal

pub returns : goal.returns
returns c = let ws = c.args.words.now in
    let added : c.sum.result ≡ sum (map ones ws) = search rules in
    let counted = added ∙ all_ones_sum ws in (counted, counted ∙ all_ones_marked ws (λ k h. (c.type_inv.words k).fits))
