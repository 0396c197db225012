-- Rows that are given and not refused are rows that the functions on rows can go by. Assumes nothing.
use Prim.Native.Nat.{ℕ, suc, ◌+◌}
use mathlib.Core.Path.{◌≡◌}
use mathlib.Core.List.{List}
use native.Mathlib.Nat.{le_of_eq}
use native.Mathlib.Omega.{arith}
use lib.ListN.{length}
use lib.Ieee.{Float}
use Rattle.refusals.proofs.Laws.{Fine}
use Rattle.graph.specs.Store.{Rowed, Summing}
use Rattle.graph.proofs.Read.{start_inside}

-- the rows of a call with rows
pub rowed_of : {n : ℕ} {starts columns : List ℕ} {weights : List Float} → length starts ≡ n + 1 → length weights ≡ length columns → Fine n starts columns → Rowed n starts columns weights
rowed_of {n} {starts} {columns} long paired f = record {
  count = long;
  begins = f.begins;
  rises = λ v h. f.rises v (omega arith);
  ends = le_of_eq f.ends;
  paired = paired;
  inside = λ k h. f.inside k (rw f.ends at h);
}

-- rows that can be gone by can be summed
pub summing_of : {n : ℕ} {starts columns : List ℕ} {weights : List Float} → Rowed n starts columns weights → Summing n (length weights) starts
summing_of z = record { count = z.count; rises = z.rises; inside = λ v h. rw z.paired (start_inside z (suc v) h) }
