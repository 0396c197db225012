-- Demand 3: what no accepted segment leads to has no score. A solve is decided by the rows of the nodes that are connected, forward with a source and
-- backward with a target, and every other node is untouched. Assumes nothing.
use Prim.Native.Nat.{ℕ, ◌<◌}
use mathlib.Core.Bool.{Bool, true, false}
use mathlib.Core.Logic.{◌⊎◌, inl, inr}
use mathlib.Core.Path.{◌≡◌, refl, ap, subst, fun_ext}
use mathlib.Core.List.{List}
use Rattle.numbers.specs.Choice.{if◌then◌otherwise◌}
use Rattle.refusals.specs.declared.Settings.{Settings}
use Rattle.norm.specs.Norm.{Norm, add_squares}
use Rattle.norm.proofs.Unique.{unique}
use Rattle.graph.specs.Rows.{Link, Entry, rows_of}
use Rattle.rules.specs.Ways.{push_backward, share_of, way_of, over, over_links, row_at}
use Rattle.rules.specs.Rules.{State, Watch, solve}
use Rattle.rules.specs.Answers.{visited_count}
use Rattle.rules.specs.Reach.{Connected, kept_links, SameConnected, Alike, Untouched}
use Rattle.rules.proofs.Local.{Agree, solve_same, solve_off}
use Rattle.graph.proofs.KeptRows.{rows_at}
use Rattle.rules.proofs.Transposed.{To, transposed_same}
use Rattle.rules.proofs.Paths.{begun_connected, connected_before, connected_closed}

-- solves that end in one state are alike
one_alike : (s t : State) → s ≡ t → Alike s t
one_alike s t e =
    record {
      scores = ap (λ (s : State). s.estimate) e;
      remainders = ap (λ (s : State). s.residual) e;
      pushes = ap (λ (s : State). s.pushes) e;
      visited = ap visited_count e;
      norms = λ r q h k. unique (add_squares _ t.residual) r q (subst (λ (s : State). Norm s.residual r) e h) k;
    }

-- with the same links where they are connected, two ways agree there
agree : (is_backward : Bool) (n : ℕ) (list : List ℕ) (rows others : List (List Entry)) → SameConnected is_backward (row_at rows) (row_at others) n list
    → Agree (Connected is_backward (row_at rows) n list) (over is_backward n rows) (over is_backward n others)
unfolding over way_of share_of if◌then◌otherwise◌
agree false n list rows others same = record { rows = same.links; shares = λ rest degree x r. refl }
agree true n list rows others same =
    record { rows = λ t r. transposed_same n t rows others (entering t r); shares = λ rest degree x r. cc (same.links x.node r) }
  where
    -- a node with a link to one that reaches a target reaches it too, on either side
    entering : (t : ℕ) → Connected push_backward (row_at rows) n list t → (u : ℕ) → To t (row_at rows u) ⊎ To t (row_at others u) → row_at rows u ≡ row_at others u
    entering t r u (inl h) = same.links u (connected_before n list h r)
    entering t r u (inr h) = same.links u ((same.nodes refl u).1 (connected_before n list h ((same.nodes refl t).0 r)))

-- the rows of a list of links are its kept links
pub rows_kept : (n : ℕ) (links : List Link) → row_at (rows_of n links) ≡ kept_links n links
rows_kept n links = fun_ext (rows_at n links)

module _ (is_backward : Bool) (settings : Settings) (watch : Watch) (n : ℕ) (list : List ℕ) where
  -- ---- for any rows, and so for lent ones, which are `rows_in`: by what they show of each node

  module _ (rows : List (List Entry)) {row : ℕ → List Entry} (shown : row_at rows ≡ row) where
    -- a node that is not connected
    pub untouched_rows : (v : ℕ) → v < n → ¬ Connected is_backward row n list v → Untouched (solve (over is_backward n rows) settings watch n list) v
    untouched_rows = rw (← shown) (solve_off _ (over is_backward n rows) (connected_closed n list is_backward rows) settings watch n list (begun_connected n list is_backward watch _))

    -- the same links where they are connected
    pub alike_rows : (others : List (List Entry)) {other : ℕ → List Entry} → row_at others ≡ other → SameConnected is_backward row other n list
        → Alike (solve (over is_backward n rows) settings watch n list) (solve (over is_backward n others) settings watch n list)
    alike_rows others also =
        rw (← shown, ← also)
        (λ same. one_alike _ _ (solve_same _ (over is_backward n rows) (connected_closed n list is_backward rows) settings watch n list (begun_connected n list is_backward watch _)
        (over is_backward n others) (agree is_backward n list rows others same)))

  -- ---- for lists of links, by their kept links

  module _ (links : List Link) where
    -- A node that no source can reach, or backward that can reach no target, has score and remainder +0.
    pub untouched_links : (v : ℕ) → v < n → ¬ Connected is_backward (kept_links n links) n list v → Untouched (solve (over_links is_backward n links) settings watch n list) v
    untouched_links = untouched_rows (rows_of n links) (rows_kept n links)

    -- FORWARD. Where the kept links out of every node that the sources can reach are the same, in the same order, the two lists give the same scores,
    -- remainders, counts and norm. BACKWARD. So they do where the nodes that can reach a target are the same in both lists, and the kept links out of
    -- every one of them are the same, in the same order.
    pub alike_links : (others : List Link) → SameConnected is_backward (kept_links n links) (kept_links n others) n list
        → Alike (solve (over_links is_backward n links) settings watch n list) (solve (over_links is_backward n others) settings watch n list)
    alike_links others = alike_rows (rows_of n links) (rows_kept n links) (rows_of n others) (rows_kept n others)
