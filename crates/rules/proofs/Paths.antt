-- What is connected, in either direction: the nodes that are hold those which a solve begins at, and are closed under the rows of its way. Forward a path
-- gets a link behind it, backward one before it. Assumes nothing.
use Prim.Native.Nat.{ℕ, ◌<◌}
use mathlib.Core.Bool.{Bool, true, false}
use mathlib.Core.Logic.{⊎_elim}
use mathlib.Core.Path.{sym, subst}
use mathlib.Core.List.Memᴰ
use mathlib.Core.List.{List, [], ◌∷◌, Memᴰ}
use borrow.Author.Tests.{ltb-true}
use lib.Dec.{ltb}
use Rattle.numbers.specs.Choice.{if◌then◌otherwise◌}
use Rattle.numbers.proofs.Choice.{decided, either}
use Rattle.graph.specs.Rows.{Entry}
use Rattle.rules.specs.Ways.{push_backward, way_of, over, row_at}
use Rattle.rules.specs.Rules.{Watch, inside, begun}
use Rattle.rules.specs.Reach.{Leads, stay, step, LeadsBy, Connected}
use Rattle.rules.proofs.Keeps.{Closed}
use Rattle.rules.proofs.Transposed.{To, transposed_mem}

-- a path, and another from its end
pub leads_on : {row : ℕ → List Entry} {u v w : ℕ} → Leads row u v → Leads row v w → Leads row u w
leads_on p stay = p
leads_on p (step q m) = step (leads_on p q) m

-- those inside are listed, and below n
inside_mem : (n : ℕ) (vs : List ℕ) (v : ℕ) → Memᴰ v (inside n vs) → Memᴰ v vs × (v < n)
unfolding inside
inside_mem n [] v m = absurd (Memᴰ.not-nil m)
inside_mem n (u ∷ vs) v m =
    decided (λ l. Memᴰ v l → Memᴰ v (u ∷ vs) × (v < n)) (ltb u n)
    (λ e k. ⊎_elim (λ q. (Memᴰ.head q, subst (λ (x : ℕ). x < n) (sym q) (ltb-true u n e))) (λ j. later (inside_mem n vs v j)) (Memᴰ.cases_cons k))
    (λ e k. later (inside_mem n vs v k)) m
  where
    later : Memᴰ v vs × (v < n) → Memᴰ v (u ∷ vs) × (v < n)
    later h = (Memᴰ.tail h.0, h.1)

-- every node leads to itself
own : (is_backward : Bool) (row : ℕ → List Entry) (v : ℕ) → LeadsBy is_backward row v v
own false row v = stay
own true row v = stay

module _ (n : ℕ) (list : List ℕ) where
  -- a solve begins at nodes that are connected
  pub begun_connected : (is_backward : Bool) (watch : Watch) (row : ℕ → List Entry) (v : ℕ) → Memᴰ v (begun n watch list) → Connected is_backward row n list v
  unfolding begun
  begun_connected is_backward watch row v m =
      let h = inside_mem n list v (either (λ l. Memᴰ v l → Memᴰ v (inside n list)) _ (λ k. k) (λ k. absurd (Memᴰ.not-nil k)) m) in
      record { node = v; listed = h.0; below = h.1; leads = own is_backward row v }

  -- a node with a link to one that reaches a target reaches it
  pub connected_before : {row : ℕ → List Entry} {u t : ℕ} → To t (row u) → Connected push_backward row n list t → Connected push_backward row n list u
  connected_before {row} h r =
      record {
        node = r.node;
        listed = r.listed;
        below = r.below;
        leads = leads_on (step stay h.among) (subst (λ (v : ℕ). Leads row v r.node) (sym h.leads) r.leads);
      }

  -- and goes on to others
  pub connected_closed : (is_backward : Bool) (rows : List (List Entry)) → Closed (Connected is_backward (row_at rows) n list) (over is_backward n rows)
  unfolding over way_of if◌then◌otherwise◌
  connected_closed false rows v r x m = record { node = r.node; listed = r.listed; below = r.below; leads = step r.leads m }
  connected_closed true rows t r x m = connected_before (transposed_mem n t rows x m) r
