-- Rows in lent buffers stand for the way over them: what a caller of `solve` shows. Assumes nothing.
use Prim.Native.Nat.{ℕ, ◌<◌}
use mathlib.Core.Bool.{Bool}
use mathlib.Core.List.{List, []}
use mathlib.Core.Path.{◌≡◌, sym, ap, ◌∙◌}
use lib.ListN.{get_or}
use Rattle.numbers.specs.Choice.{if◌then◌otherwise◌}
use Rattle.graph.specs.Rows.{Entry, rows_in, degree, transposed}
use Rattle.graph.specs.Store.{Rowed}
use Rattle.graph.proofs.Read.{row_at_lem}
use Rattle.rules.specs.Ways.{share_of, way_of, row_at, over}
use Rattle.rules.specs.Rules.{at}
use Rattle.pushes.specs.Buffers.{Lists, columns_by, weights_by}
use Rattle.pushes.specs.Meant.{Stands}

-- the lists of the direction hold its rows, and the out-degrees are those of the graph
pub stands_over : (n : ℕ) (backward : Bool) (rows : List (List Entry)) (l : Lists) → Rowed n l.starts (columns_by backward l) (weights_by backward l)
    → rows_in n l.starts (columns_by backward l) (weights_by backward l) ≡ (if backward then transposed n rows otherwise rows)
    → ((v : ℕ) → v < n → at l.out_degrees v ≡ degree (row_at rows v)) → Stands n backward l (over backward n rows)
unfolding over way_of
stands_over n backward rows l h e o =
    record {
      rows = λ v k. ap (λ (rs : List (List Entry)). get_or rs v []) (sym e) ∙ row_at_lem h v k;
      shares = λ rest d x k. ap (share_of backward rest d x.weight) (sym (o x.node k));
    }
