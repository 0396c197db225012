-- `edges::search::edge_between` meets its contract: a node out of range has no row, and any other's row is searched. Assumes nothing.
use Prim.Native.Nat.{suc, ◌+◌}
use mathlib.Core.Path.{◌≡◌, sym, ap, ◌∙◌}
use native.Mathlib.Numerals.{add-one}
use native.Mathlib.Omega.{arith}
use lib.ListN.{get_or}
use lib.Seq.{slice}
use Rattle.graph.specs.Store.{chosen}
use Rattle.graph.proofs.Read.{start_inside}
use Rattle.graph.proofs.Handed.{row_paired, row_made}
use Rattle.edges.specs.Edges.{first_to}
use Rattle.edges.proofs.Searched.{no_row, in_row}
use Rattle.edges.proofs.search.edge_between.Goals.{After-neighbours-2}
use Rattle.edges.proofs.search.edge_between.Goals as goal

-- the columns and the weights that are handed out are the parts of the row
parts : (c : After-neighbours-2) → let a = c.args in
    let s = get_or a.starts.now a.from 0 in
    let e = get_or a.starts.now (a.from + 1) 0 in
    (c.neighbours.result.now ≡ slice s e a.columns.now) × (c.neighbours-2.result.now ≡ slice s e a.weights.now)
unfolding chosen
parts c =
    let s = c.start_of-start.ensures in
    let e = c.start_of-end.ensures in
    (rw (s, e) at c.neighbours.ensures, rw (s, e) at c.neighbours-2.ensures)

pub returns-then-n-from : goal.returns-then-n-from
returns-then-n-from c = sym (no_row c.requires c.args.from c.args.to (omega arith))

pub neighbours-requires : goal.neighbours-requires
neighbours-requires c = let h = c.if-n-from.false in
    let e = start_inside c.requires (suc c.args.from) h in
    rw (c.start_of-start.ensures, c.start_of-end.ensures, add-one) (c.requires.rises _ h, e, e)

pub neighbours-requires-2 : goal.neighbours-requires-2
neighbours-requires-2 c = let h = c.if-n-from.false in
    let e = start_inside c.requires (suc c.args.from) h in
    rw (c.start_of-start.ensures, c.start_of-end.ensures, add-one, c.requires.paired) (c.requires.rises _ h, e, e)

pub first_to-requires : goal.first_to-requires
first_to-requires c = row_paired c.requires c.args.from c.if-n-from.false (parts (goal.at.first_to-requires c).After-neighbours-2).0 (parts (goal.at.first_to-requires c).After-neighbours-2).1

pub returns : goal.returns
returns c = let h = c.if-n-from.false in
    let p = parts (goal.at.returns c).After-neighbours-2 in
    c.first_to.ensures ∙ ap (first_to c.args.to) (sym (row_made c.requires c.args.from h p.0 p.1)) ∙ sym (in_row c.requires c.args.from c.args.to h)
