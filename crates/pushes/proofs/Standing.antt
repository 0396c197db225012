-- The rows that the buffers stand for: their lengths and degrees. Assumes nothing.
use Prim.Native.Nat.{ℕ, suc, ◌+◌, ◌≤◌, ◌<◌}
use native.Mathlib.Numerals.{add-one}
use native.Mathlib.Omega.{arith}
use mathlib.Core.Bool.{Bool, true, false}
use mathlib.Core.List.{List}
use mathlib.Core.Path.{◌≡◌, refl, sym, ap, ◌∙◌}
use lib.ListN.{length, get_or}
use lib.Ieee.{Float}
use Rattle.graph.specs.Rows.{degree, row_in}
use Rattle.graph.specs.Store.{chosen}
use Rattle.graph.proofs.Read.{start_inside, row_degree}
use Rattle.rules.specs.Ways.{Way, way_of, degree_of}
use Rattle.rules.specs.Rules.{at}
use Rattle.pushes.specs.Buffers.{Lists, columns_by, weights_by, Rows}
use Rattle.pushes.specs.Meant.{Weighs, Stands}

-- one of two lists that are as long
pub chosen_long : {A : Type 0} (backward : Bool) (x y : List A) → length y ≡ length x → length (chosen backward x y) ≡ length x
unfolding chosen
chosen_long true x y e = e
chosen_long false x y e = refl

module _ {n : ℕ} {backward : Bool} {l : Lists} (r : Rows n backward l) where
  module _ (v : ℕ) (h : v < n) (s e : ℕ) (p : s ≡ get_or l.starts v 0) (q : e ≡ get_or l.starts (v + 1) 0) where
    -- the row of v is a part of either of two lists that are as long as the columns
    part_fits : {A : Type 0} (x y : List A) → length y ≡ length x → length (chosen backward x y) ≡ length (columns_by backward l)
        → (s ≤ e) × (e ≤ length x) × (e ≤ length y)
    part_fits x y alike paired =
        let k : e ≤ length (columns_by backward l) = rw (q, add-one) (start_inside r.rowed (suc v) h) in
        let m : e ≤ length x = omega (arith, paired, chosen_long backward x y alike) in
        (rw (p, q, add-one) (r.rowed.rises v h), m, omega arith)

    -- of the columns
    pub columns_fit : (s ≤ e) × (e ≤ length l.columns) × (e ≤ length l.reverse_columns)
    columns_fit = part_fits l.columns l.reverse_columns r.columns_alike refl

    -- of the weights
    pub weights_fit : (s ≤ e) × (e ≤ length l.weights) × (e ≤ length l.reverse_weights)
    weights_fit = part_fits l.weights l.reverse_weights r.weights_alike r.rowed.paired

  -- a way with the rows has their degrees
  pub weighs : (way : Way) → Stands n backward l way → (v : ℕ) → v < n → Weighs l.degrees v way
  unfolding degree_of
  weighs way s v h = ap (λ (ds : List Float). at ds v) r.degrees_are ∙ row_degree r.rowed v h ∙ ap degree (sym (s.rows v h))

-- a way that the buffers stand for
pub way_in : Bool → Lists → Way
way_in backward l = way_of backward (λ v. row_in (get_or l.starts v 0) (get_or l.starts (suc v) 0) (columns_by backward l) (weights_by backward l)) (at l.out_degrees)

-- and it is one of those that are meant, so that what is promised of all of them is said of one
pub stands : (n : ℕ) (backward : Bool) (l : Lists) → Stands n backward l (way_in backward l)
unfolding way_in way_of
stands n backward l = record { rows = λ v h. refl; shares = λ rest degree x h. refl }
