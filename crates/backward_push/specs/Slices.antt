-- What the buffers of a backward solve hold, as its outcomes speak of them, and that their slices stay the same ones. Assumes nothing.
use Rattle.numbers.specs.Slices.{SameSlice}
use Rattle.calls.specs.declared.lent.Vectors.{Vectors}
use Rattle.calls.specs.declared.lent.Workspace.{Workspace}
use Rattle.calls.specs.Slices.{lent_in}
use Rattle.backward_push.specs.declared.reversed.ReverseBuffers.{ReverseBuffers}
use Rattle.backward_push.specs.Lent.{BackLent, back_lent}

-- what is lent to a backward solve
abbrev pub back_lent_in : ReverseBuffers → Vectors → Workspace → BackLent
back_lent_in r v w = back_lent r.starts.now r.columns.now r.weights.now r.out_degrees.now (lent_in v r.in_degrees.now w)

-- each slice is still the same one, of the same length
pub record SameReverseBuffers (r r' : ReverseBuffers) : Type 0 where
  pub starts : SameSlice r.starts r'.starts
  pub columns : SameSlice r.columns r'.columns
  pub weights : SameSlice r.weights r'.weights
  pub in_degrees : SameSlice r.in_degrees r'.in_degrees
  pub out_degrees : SameSlice r.out_degrees r'.out_degrees
