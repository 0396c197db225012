-- A row handed out entry by entry, as the buffers show it. The idea: handing out the entries that are left gives what handing out all of them gave at the
-- start. Assumes nothing.
use Prim.Native.Nat.{ℕ, suc, ◌+◌, ◌<◌}
use native.Mathlib.Numerals.{add-one}
use native.Mathlib.Omega.{arith}
use mathlib.Core.Bool.{Bool}
use mathlib.Core.List.{List}
use mathlib.Core.Path.{◌≡◌, ap}
use lib.ListN.{length, get_or, drop}
use lib.Seq.{drop-cons}
use lib.Ieee.{Float, nan}
use Rattle.graph.specs.Rows.{entry, entries_of}
use Rattle.rules.specs.Ways.{Way, share_of}
use Rattle.rules.specs.Rules.{State, at, each, gain, offer, pass}
use Rattle.pushes.specs.States.{state_with, pending_in, SameFrontier}
use Rattle.pushes.specs.Buffers.{Lent}
use Rattle.pushes.specs.Meant.{Along}
use Rattle.pushes.specs.declared.Frontier.{Frontier}
use Rattle.pushes.specs.declared.Graph.{Graph}

-- what holds at the entry i
pub record Spreading (g : Graph) (rest degree : Float) (columns : List ℕ) (weights : List Float) (f₀ f : Frontier) (i : ℕ) : Type 0 where
  pub lent : Lent (length g.degrees.now) (pending_in f)
  pub same_frontier : SameFrontier f₀ f
  pub left : (way : Way) → Along g.backward g.degrees.now g.out_degrees.now way → (estimate : List Float) (pushes : ℕ) (visited : List ℕ)
      → each (pass way rest degree) (entries_of (drop i columns) (drop i weights)) (state_with (length g.degrees.now) estimate pushes visited (pending_in f))
      ≡ each (pass way rest degree) (entries_of columns weights) (state_with (length g.degrees.now) estimate pushes visited (pending_in f₀))

-- the first of the entries that are left
pub one_passes : (backward : Bool) (rest degree : Float) (columns : List ℕ) (weights degrees out_degrees : List Float) (way : Way) → Along backward degrees out_degrees way
    → length weights ≡ length columns → (i : ℕ) → i < length columns → get_or columns i 0 < length degrees → (s : State)
    → each (pass way rest degree) (entries_of (drop i columns) (drop i weights)) s
    ≡ each (pass way rest degree) (entries_of (drop (i + 1) columns) (drop (i + 1) weights))
    (offer way (get_or columns i 0) (gain (share_of backward rest degree (at weights i) (at out_degrees (get_or columns i 0))) (get_or columns i 0) s))
unfolding each pass entries_of
one_passes backward rest degree columns weights degrees out_degrees way a l i h b s =
    let k : i < length weights = omega arith in
    let v = get_or columns i 0 in
    rw (drop-cons columns i 0 h, drop-cons weights i nan k, add-one)
    (ap (λ (x : Float). each (pass way rest degree) (entries_of (drop (suc i) columns) (drop (suc i) weights)) (offer way v (gain x v s))) (a.shares rest degree (entry v (at weights i)) b))
