-- `pushes::hand_out` meets its contract: the rest goes through the row (`hand_through`), or back (`hand_back`). Assumes nothing.
use mathlib.Core.Path.{◌∙◌}
use Rattle.graph.proofs.Handed.{row_paired, row_made, row_inside}
use Rattle.pushes.proofs.Standing.{columns_fit, weights_fit, weighs}
use Rattle.pushes.proofs.Tested.{hand_through, hand_back}
use Rattle.pushes.proofs.hand_out.Goals as goal

pub neighbours-row-requires : goal.neighbours-row-requires
neighbours-row-requires c = let a = c.args in
    columns_fit c.requires.0 a.v c.requires.1.below _ _ c.start_of-start.ensures c.start_of-end.ensures

pub neighbours-part-requires : goal.neighbours-part-requires
neighbours-part-requires c = let a = c.args in
    weights_fit c.requires.0 a.v c.requires.1.below _ _ c.start_of-start.ensures c.start_of-end.ensures

pub spread-requires : goal.spread-requires
spread-requires c = let a = c.args in
    let r = c.requires.0 in
    let e = rw (c.start_of-start.ensures, c.start_of-end.ensures) at c.neighbours-row.ensures in
    let f = rw (c.start_of-start.ensures, c.start_of-end.ensures) at c.neighbours-part.ensures in
    record {
      lent = c.requires.1.lent;
      paired = row_paired r.rowed a.v c.requires.1.below e f;
      out_degrees_long = r.out_degrees_long;
      inside = row_inside r.rowed a.v c.requires.1.below e;
    }

pub returns-then-degree-clause-moved : goal.returns-then-degree-clause-moved
returns-then-degree-clause-moved c = let a = c.args in
    let o = c.spread in let r = c.requires.0 in
    let h = c.requires.1.below in
    let e = rw (c.start_of-start.ensures, c.start_of-end.ensures) at c.neighbours-row.ensures in
    let f = rw (c.start_of-start.ensures, c.start_of-end.ensures) at c.neighbours-part.ensures in
    record {
      lent = o.ensures.moved.lent;
      state = λ way st x k m.
          let w = weighs r way st in
          o.ensures.moved.state way (record { weighs = w; shares = st.shares }) x k m
          ∙ hand_through way a.v a.rest _ _ (w a.v h) _ (st.rows a.v h ∙ row_made r.rowed a.v h e f) c.if-degree.true;
    }

pub returns-clause-moved : goal.returns-clause-moved
returns-clause-moved c = let a = c.args in
    let o = c.pass_on in record {
      lent = o.ensures.moved.lent;
      state = λ way st e k m.
          let w = weighs c.requires.0 way st a.v c.requires.1.below in
          o.ensures.moved.state way w e k m ∙ hand_back way a.v a.rest _ _ w c.if-degree.false;
    }
