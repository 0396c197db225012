-- A row that is handed out as a part of the columns and a part of the weights. Assumes nothing.
use Prim.Native.Nat.{ℕ, suc, ◌+◌, ◌≤◌, ◌<◌}
use mathlib.Core.List.{List}
use mathlib.Core.Path.{◌≡◌}
use native.Mathlib.Numerals.{add-one}
use native.Mathlib.Omega.{arith}
use lib.ListN.{length, get_or}
use lib.Seq.{slice, length-slice, get_or-drop, get_or-take}
use lib.Ieee.{Float}
use Rattle.graph.specs.Rows.{entries_of, row_in}
use Rattle.graph.specs.Store.{Rowed}
use Rattle.graph.proofs.Read.{start_le, start_inside}

module _ {n : ℕ} {starts columns : List ℕ} {weights : List Float} (z : Rowed n starts columns weights) (v : ℕ) (h : v < n) where
  -- the parts of a row are as long
  pub row_paired : {row : List ℕ} {part : List Float} → row ≡ slice (get_or starts v 0) (get_or starts (v + 1) 0) columns
      → part ≡ slice (get_or starts v 0) (get_or starts (v + 1) 0) weights → length part ≡ length row
  row_paired e f =
      let k : get_or starts (v + 1) 0 ≤ length columns = rw add-one (start_inside z (suc v) h) in
      let l : get_or starts (v + 1) 0 ≤ length weights = rw z.paired k in
      rw (e, f, length-slice _ _ columns k, length-slice _ _ weights l)

  -- they make the row
  pub row_made : {row : List ℕ} {part : List Float} → row ≡ slice (get_or starts v 0) (get_or starts (v + 1) 0) columns
      → part ≡ slice (get_or starts v 0) (get_or starts (v + 1) 0) weights → row_in (get_or starts v 0) (get_or starts (suc v) 0) columns weights ≡ entries_of row part
  unfolding row_in
  row_made e f = rw (e, f, add-one)

  -- its nodes are nodes
  pub row_inside : {row : List ℕ} → row ≡ slice (get_or starts v 0) (get_or starts (v + 1) 0) columns → (k : ℕ) → k < length row → get_or row k 0 < n
  row_inside e k l =
      let s = get_or starts v 0 in
      let t = get_or starts (v + 1) 0 in
      let i : t ≤ get_or starts n 0 = rw add-one (start_le z (suc v) h) in
      let j : s + k < t = omega (arith, rw (e, length-slice s t columns (rw add-one (start_inside z (suc v) h))) at l) in
      rw (e, get_or-drop, get_or-take) (z.inside (s + k) (omega arith))
