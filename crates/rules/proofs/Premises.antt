-- The premises of demand 3 can be met by lists that differ: of three nodes, two lists have the link 0→1, and one has a link 2→1 besides. Forward from 0
-- and backward from 0 they give the same, for any settings: all links lead to 1, so that 0 reaches 0 and 1 only, and only 0 reaches 0. Assumes nothing.
use Prim.Native.Nat.{ℕ, zero, suc, ◌<◌}
use native.Mathlib.Omega.{arith}
use mathlib.Core.Bool.{Bool, true, false, false≢true}
use mathlib.Core.Logic.{◌⊎◌, inl, inr, ⊎_elim}
use mathlib.Core.Path.{◌≡◌, refl, ap}
use mathlib.Core.List.Memᴰ
use mathlib.Core.List.{List, [], ◌∷◌, Memᴰ}
use lib.ListN.{length}
use Rattle.numbers.specs.Numbers.{one}
use Rattle.refusals.specs.declared.Settings.{Settings}
use Rattle.graph.specs.Rows.{Link, Entry, link, row_of}
use Rattle.rules.specs.Ways.{push_forward, push_backward, over_links}
use Rattle.rules.specs.Rules.{Watch, solve}
use Rattle.rules.specs.Reach.{Leads, stay, step, Connected, kept_links, SameConnected, Alike}
use Rattle.graph.proofs.KeptRows.{row_kept}
use Rattle.rules.proofs.Unreached.{alike_links}

-- forward, that the links are the same is all that is asked
pub same_forward : {row other : ℕ → List Entry} {n : ℕ} {sources : List ℕ} → ((v : ℕ) → Connected push_forward row n sources v → row v ≡ other v) → SameConnected push_forward row other n sources
same_forward links = record { nodes = λ e. absurd (false≢true e); links = links }

-- ---- lists that differ

-- the link 0→1
abbrev fewer : List Link
fewer = link 0 1 one ∷ []

-- the same, and 2→1
abbrev more : List Link
more = link 2 1 one ∷ fewer

-- the lists differ
differ : ¬ (fewer ≡ more)
differ e = let l = ap length e in omega arith

-- all links lead to 1
to_one : (l : Link) → Memᴰ l more → l.to ≡ 1
to_one l (Memᴰ.head e) = ap (λ (k : Link). k.to) e
to_one l (Memᴰ.tail m) = ap (λ (k : Link). k.to) (Memᴰ.eq_of_singleton m)

-- out of nodes below 2 both lists have the same
low_same : (v : ℕ) → v < 2 → kept_links 3 fewer v ≡ kept_links 3 more v
unfolding row_of
low_same zero h = refl
low_same (suc zero) h = refl
low_same (suc (suc v)) h = absurd (omega arith)

-- 0 reaches 0
own : (links : List Link) (v : ℕ) → v ≡ 0 → Connected push_backward (kept_links 3 links) 3 (0 ∷ []) v
own links v e = rw e (record { node = 0; listed = Memᴰ.head refl; below = omega arith; leads = stay })

-- of either list
module _ (links : List Link) (among : (l : Link) → Memᴰ l links → Memᴰ l more) where
  -- a path stays, or ends at 1
  ends_at_one : {u v : ℕ} → Leads (kept_links 3 links) u v → (v ≡ u) ⊎ (v ≡ 1)
  ends_at_one stay = inl refl
  ends_at_one (step {v = w} {x = x} p m) = inr (to_one (link w x.node x.weight) (among _ (row_kept 3 w links x m).0))

  -- so only 0 reaches 0
  only : (v : ℕ) → Connected push_backward (kept_links 3 links) 3 (0 ∷ []) v → v ≡ 0
  only v r = let e = Memᴰ.eq_of_singleton r.listed in ⊎_elim (λ h. omega arith) (λ h. absurd (omega arith)) (ends_at_one r.leads)

  -- and all that is connected with 0 is below 2
  low : (is_backward : Bool) (v : ℕ) → Connected is_backward (kept_links 3 links) 3 (0 ∷ []) v → v < 2
  low false v r = let e = Memᴰ.eq_of_singleton r.listed in ⊎_elim (λ h. omega arith) (λ h. omega arith) (ends_at_one r.leads)
  low true v r = omega (arith, only v r)

-- from 0, in either direction
same_pair : (is_backward : Bool) (settings : Settings) (watch : Watch)
    → Alike (solve (over_links is_backward 3 fewer) settings watch 3 (0 ∷ [])) (solve (over_links is_backward 3 more) settings watch 3 (0 ∷ []))
same_pair is_backward settings watch =
    alike_links is_backward settings watch 3 (0 ∷ []) fewer more
    (record {
      nodes = λ e v. (λ r. own more v (only fewer first v r), λ r. own fewer v (only more (λ l m. m) v r));
      links = λ v r. low_same v (low fewer first is_backward v r);
    })
  where
    first : (l : Link) → Memᴰ l fewer → Memᴰ l more
    first l = Memᴰ.tail
