-- The queue that entries fill. Where as many nodes wait as there are entries, no two entries have the same node, and so the queue does not depend on how the
-- entries are arranged. Assumes nothing.
use mathlib.Core.Path.{◌≡◌, refl, sym, ap, ap₂, ◌∙◌, subst}
use mathlib.Core.Logic.{◌⊎◌, inl, inr, ◌≢◌}
use mathlib.Core.List.{List}
use Prim.Native.Nat.{ℕ, zero, suc, ◌≤◌, ◌<◌}
use native.Mathlib.Nat.{le_refl, le_of_eq, le-suc, le_trans, not-suc-le-zero}
use native.Mathlib.Decide.{ℕ_discrete}
use native.Mathlib.Omega.{arith}
use lib.ListN.{length, get_or, set, length-set, length-replicate, get_or-replicate}
use lib.Seq.{ext_get_or, get_or-set_same, get_or-set_other}
use Rattle.queue.specs.Waiting.{Slot, out, waits, taken}
use Rattle.heap.specs.Entries.{WorkItem}
use Rattle.queue.specs.Heap.{filled}
use Rattle.heap.specs.Steps.{Among}
use Rattle.queue.proofs.Taken.{Free, out_waits, taken_none, taken_set}

module _ (n : ℕ) where
  pub length-filled : (e : ℕ → WorkItem) (size : ℕ) → length (filled n e size) ≡ n
  unfolding filled
  length-filled e zero = length-replicate n out
  length-filled e (suc s) = length-set (filled n e s) (e s).node (waits (e s).priority) ∙ length-filled e s

  -- only the first entries count
  pub filled_same : (e e' : ℕ → WorkItem) (size : ℕ) → ((k : ℕ) → k < size → e' k ≡ e k) → filled n e' size ≡ filled n e size
  unfolding filled
  filled_same e e' zero f = refl
  filled_same e e' (suc s) f =
      ap₂ (λ (a : WorkItem) (slots : List Slot). set slots a.node (waits a.priority)) (f s (le_refl (suc s)))
      (filled_same e e' s (λ k h. f k (le_trans h (le-suc s))))

  -- ---- a node's slot: one of the entries names it, or none does
  pub record Named (e : ℕ → WorkItem) (size v : ℕ) : Type 0 where
    pub place : ℕ
    pub inside : place < size
    pub names : (e place).node ≡ v
    pub slot : get_or (filled n e size) v out ≡ waits (e place).priority

  pub record Unnamed (e : ℕ → WorkItem) (size v : ℕ) : Type 0 where
    pub nobody : (k : ℕ) → k < size → (e k).node ≢ v
    pub slot : get_or (filled n e size) v out ≡ out

  pub slot_of : (e : ℕ → WorkItem) (size v : ℕ) → v < n → Named e size v ⊎ Unnamed e size v
  unfolding filled
  slot_of e zero v h = inr (record { nobody = λ k l. absurd (not-suc-le-zero l); slot = get_or-replicate n v out out h })
  slot_of e (suc s) v h = go (slot_of e s v h) (ℕ_discrete (e s).node v)
    where
      go : Named e s v ⊎ Unnamed e s v → Dec ((e s).node ≡ v) → Named e (suc s) v ⊎ Unnamed e (suc s) v
      go r (yes p) =
          inl (record {
            place = s;
            inside = le_refl (suc s);
            names = p;
            slot =
                ap (λ (u : ℕ). get_or (set (filled n e s) u (waits (e s).priority)) v out) p
                ∙ get_or-set_same (filled n e s) v (waits (e s).priority) out (subst (λ (m : ℕ). v < m) (sym (length-filled e s)) h);
          })
      go (inl r) (no d) =
          inl (record {
            place = r.place;
            inside = le_trans r.inside (le-suc s);
            names = r.names;
            slot = get_or-set_other (filled n e s) (e s).node v (waits (e s).priority) out (λ p. d (sym p)) ∙ r.slot;
          })
      go (inr r) (no d) =
          inr (record {
            nobody = λ k l. earlier k l (ℕ_discrete k s);
            slot = get_or-set_other (filled n e s) (e s).node v (waits (e s).priority) out (λ p. d (sym p)) ∙ r.slot;
          })
        where
          earlier : (k : ℕ) → k < suc s → Dec (k ≡ s) → (e k).node ≢ v
          earlier k l (yes p) x = d (ap (λ (i : ℕ). (e i).node) (sym p) ∙ x)
          earlier k l (no p) x = r.nobody k (omega arith) x

  -- ---- as many nodes wait as there are entries
  abbrev pub Full : (ℕ → WorkItem) → ℕ → Type 0
  Full e size = taken (filled n e size) ≡ size

  taken_filled : (e : ℕ → WorkItem) (size : ℕ) → taken (filled n e size) ≤ size
  unfolding filled
  taken_filled e zero = le_of_eq (taken_none n)
  taken_filled e (suc s) =
      let h = taken_filled e s in
      elim (taken_set (filled n e s) (e s).node (e s).priority) [ inl r ↦ omega arith | inr r ↦ omega arith ]

  -- the last entry's node was out, and the entries before it are as many as wait without it
  pub record Last (e : ℕ → WorkItem) (s : ℕ) : Type 0 where
    pub before : Full e s
    pub free : Free (filled n e s) (e s).node

  pub last_of : (e : ℕ → WorkItem) (s : ℕ) → Full e (suc s) → Last e s
  unfolding filled
  last_of e s full =
      let h = taken_filled e s in
      elim (taken_set (filled n e s) (e s).node (e s).priority) [ inl r ↦ record { before = omega arith; free = r.0 } | inr r ↦ absurd (omega arith) ]

  -- so each entry's node has a slot
  pub node_inside : (e : ℕ → WorkItem) (size : ℕ) → Full e size → (k : ℕ) → k < size → (e k).node < n
  node_inside e zero full k h = absurd (not-suc-le-zero h)
  node_inside e (suc s) full k h = go (last_of e s full) (ℕ_discrete k s) (λ f l. node_inside e s f k l)
    where
      go : Last e s → Dec (k ≡ s) → (Full e s → k < s → (e k).node < n) → (e k).node < n
      go l (yes p) r = rw (p, ← length-filled e s) l.free.inside
      go l (no p) r = r l.before (omega arith)

  -- and no two have the same
  pub distinct : (e : ℕ → WorkItem) (size : ℕ) → Full e size → (i j : ℕ) → i < size → j < size → (e i).node ≡ (e j).node → i ≡ j
  distinct e zero full i j hi hj p = absurd (not-suc-le-zero hi)
  distinct e (suc s) full i j hi hj p = go (last_of e s full) (ℕ_discrete i s) (ℕ_discrete j s) (λ f a b. distinct e s f i j a b p)
    where
      -- an earlier entry with the last one's node
      never : Last e s → (k : ℕ) → k < s → (e k).node ≡ (e s).node → ⊥
      never l k h q =
          elim (slot_of e s (e s).node (subst (λ (m : ℕ). (e s).node < m) (length-filled e s) l.free.inside)) [
            | inl r ↦ out_waits (get_or (filled n e s) (e s).node out) (e r.place).priority l.free.empty r.slot
            | inr r ↦ r.nobody k h q
          ]

      go : Last e s → Dec (i ≡ s) → Dec (j ≡ s) → (Full e s → i < s → j < s → i ≡ j) → i ≡ j
      go l (yes a) (yes b) r = a ∙ sym b
      go l (yes a) (no b) r = absurd (never l j (omega arith) (sym p ∙ ap (λ (k : ℕ). (e k).node) a))
      go l (no a) (yes b) r = absurd (never l i (omega arith) (p ∙ ap (λ (k : ℕ). (e k).node) b))
      go l (no a) (no b) r = r l.before (omega arith) (omega arith)

  -- each entry's node waits at the entry's priority
  pub slot_at : (e : ℕ → WorkItem) (size : ℕ) → Full e size → (k : ℕ) → k < size → get_or (filled n e size) (e k).node out ≡ waits (e k).priority
  slot_at e size full k h =
      elim (slot_of e size (e k).node (node_inside e size full k h)) [
        | inl r ↦ r.slot ∙ ap (λ (i : ℕ). waits (e i).priority) (distinct e size full r.place k r.inside h r.names)
        | inr r ↦ absurd (r.nobody k h refl)
      ]

  -- the same entries, in whatever places, fill the same queue
  pub filled_among : (e e' : ℕ → WorkItem) (size : ℕ) → Full e size → Among size e e' → Among size e' e → filled n e' size ≡ filled n e size
  filled_among e e' size full comes goes =
      ext_get_or out (filled n e' size) (filled n e size) (length-filled e' size ∙ sym (length-filled e size))
      (λ v h. let l = subst (λ (m : ℕ). v < m) (length-filled e' size) h in go v (slot_of e size v l) (slot_of e' size v l))
    where
      node_of : {a b : WorkItem} → a ≡ b → a.node ≡ b.node
      node_of p = ap (λ (a : WorkItem). a.node) p

      go : (v : ℕ) → Named e size v ⊎ Unnamed e size v → Named e' size v ⊎ Unnamed e' size v → get_or (filled n e' size) v out ≡ get_or (filled n e size) v out
      go v (inl r) (inl r') =
          let c = comes r'.place r'.inside in
          let same : c.0 ≡ r.place = distinct e size full c.0 r.place c.1 r.inside (sym (node_of c.2) ∙ r'.names ∙ sym r.names) in
          r'.slot ∙ ap (λ (a : WorkItem). waits a.priority) (c.2 ∙ ap e same) ∙ sym r.slot
      go v (inl r) (inr r') = let g = goes r.place r.inside in absurd (r'.nobody g.0 g.1 (sym (node_of g.2) ∙ r.names))
      go v (inr r) (inl r') = let c = comes r'.place r'.inside in absurd (r.nobody c.0 c.1 (sym (node_of c.2) ∙ r'.names))
      go v (inr r) (inr r') = r'.slot ∙ sym r.slot
