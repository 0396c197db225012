-- A call that is not refused has what its solve asks, whatever is lent to it. Assumes nothing.
use Prim.Native.Nat.{ℕ}
use mathlib.Core.List.{List}
use mathlib.Core.Path.{◌≡◌, sym, ◌∙◌}
use lib.ListN.{length}
use lib.Ieee.{Float}
use Rattle.refusals.specs.Refusals.{◌or◌}
use Rattle.refusals.proofs.Laws.{or_zero, Sized, sized, fine}
use Rattle.graph.specs.Store.{Rowed, Buffers}
use Rattle.graph.proofs.Given.{rowed_of}
use Rattle.calls.specs.Lent.{Lending, LinksLent}
use Rattle.calls.specs.Outcomes.{given_rows, given_links}

module _ {S B : Type 0} (k : Lending S B) {r : ℕ} (listed rest n : ℕ) where
  -- a call with rows
  pub rows_asked : (starts columns : List ℕ) (weights : List Float) (b : B) → r ≡ (given_rows k n starts columns weights b).tests listed or rest → r ≡ 0
      → Rowed n starts columns weights × Sized n (length columns) listed (k.lengths n (length columns) b)
  unfolding given_rows
  rows_asked starts columns weights b e h =
      let t = or_zero _ _ (or_zero _ _ (sym e ∙ h)).0 in
      let z = sized _ _ _ _ t.0 in (
        rowed_of z.long.0 z.long.1.0 (fine _ _ _ (or_zero _ _ t.1).0),
        record { nodes = z.nodes; links = z.links; listed = z.listed; long = z.long.1.1 },
      )

  -- a call with a list of links, which has room for rows wherever it has positions
  pub links_asked : (from to : List ℕ) (weight : List Float) (b : LinksLent B) → r ≡ (given_links k n from to weight b).tests listed or rest → r ≡ 0
      → ((positions : List ℕ) → length positions ≡ n → Buffers n from to weight b.starts b.columns b.weights positions)
      × Sized n (length from) listed (k.lengths n (length from) b.rest)
  unfolding given_links
  links_asked from to weight b e h =
      let z = sized _ _ _ _ (or_zero _ _ (or_zero _ _ (sym e ∙ h)).0).0 in
      let l = z.long in (
        λ positions p.
            record {
              links = z.links;
              to_long = l.0;
              weight_long = l.1.0;
              starts_long = l.1.1.0;
              columns_long = l.1.1.1.0;
              weights_long = l.1.1.1.1.0;
              positions_long = p;
            },
        record { nodes = z.nodes; links = z.links; listed = z.listed; long = l.1.1.1.1.1 },
      )
