-- The first entry's node is next, and leaves: the heap is one shorter, and the last entry sinks from the front. Assumes nothing.
use mathlib.Core.Path.{◌≡◌, refl, sym, ap, ◌∙◌}
use mathlib.Core.Logic.{◌⊎◌, inl, inr}
use mathlib.Core.Bool.{false}
use mathlib.Core.List.{List}
use Prim.Native.Nat.{ℕ, zero, suc, ◌-◌, ◌≤◌, ◌<◌}
use native.Mathlib.Nat.{le_refl}
use native.Mathlib.Decide.{ℕ_discrete, dec_lt}
use native.Mathlib.Omega.{arith}
use lib.ListN.{length, get_or, set, get_or-eq_default}
use lib.Seq.{set-set, set-get_or}
use lib.Ieee.{Float, is_nan}
use Rattle.marks.specs.Marks.{WithMark}
use Rattle.queue.specs.Waiting.{Slot, out, waits, taken, best, next}
use Rattle.heap.specs.Entries.{WorkItem, entries, Under, parent}
use Rattle.queue.specs.Heap.{filled, waiting, Heap}
use Rattle.queue.specs.Promises.{Removed}
use Rattle.heap.specs.Steps.{put, Among, OrderedBut, Sunk}
use Rattle.heap.proofs.Under.{under_reflexive, under_transitive}
use Rattle.heap.proofs.Stores.{put_here, put_elsewhere}
use Rattle.heap.proofs.Exchanging.{Exchanged, among_exchanged, among_back, numbers_among, under_by}
use Rattle.queue.proofs.Taken.{out_waits}
use Rattle.queue.proofs.Filled.{Full, Last, last_of, node_inside, slot_of, slot_at, filled_same, filled_among}
use Rattle.queue.proofs.Settle.{waiting_length, settles}
use Rattle.queue.proofs.Best.{next_is}

module _ (size : ℕ) (ps : List Float) (ns ws : List ℕ) (H : Heap size ps ns ws) (pos : 0 < size) where
  -- the queue and the entries before, and the entry that leaves
  abbrev slots : List Slot
  slots = waiting size ps ns

  abbrev e : ℕ → WorkItem
  e = entries ps ns

  abbrev first : WorkItem
  first = e 0

  full : Full (length ps) e size
  full = unfold waiting in H.count

  pub first_inside : first.node < length ps
  first_inside = node_inside (length ps) e size full 0 pos

  -- every entry is under the first: from parent to parent, in at most n steps
  top : (n j : ℕ) → j ≤ n → j < size → Under (e j) first
  top zero j h b = under_by (ap e (zero_of h)) refl (under_reflexive first (H.numbers 0 pos))
    where
      zero_of : j ≤ 0 → j ≡ 0
      zero_of h = omega arith
  top (suc n) j h b = go (ℕ_discrete j 0) (λ l. top n (parent j) l (omega arith))
    where
      go : Dec (j ≡ 0) → (parent j ≤ n → Under (e (parent j)) first) → Under (e j) first
      go (yes z) up = under_by (ap e z) refl (under_reflexive first (H.numbers 0 pos))
      go (no z) up = under_transitive (H.ordered j (omega arith) b) (up (omega arith))

  -- so its node is next
  first_next : next slots ≡ best first.node first.priority
  unfolding waiting
  first_next = next_is slots first.node first.priority (slot_at (length ps) e size full 0 pos) (λ v p s. go v p s (dec_lt v (length ps)))
    where
      go : (v : ℕ) (p : Float) → get_or slots v out ≡ waits p → Dec (v < length ps) → Under (record { priority = p; node = v }) first
      go v p s (no h) =
          out_waits (get_or slots v out) p (get_or-eq_default slots out (omega (arith, waiting_length size ps ns))) s
      go v p s (yes h) =
          elim (slot_of (length ps) e size v h) [
            | inl r ↦
                let same : p ≡ (e r.place).priority = cc in
                under_by (λ i. record { priority = same i; node = sym r.names i }) refl (top r.place r.place (le_refl r.place) r.inside)
            | inr r ↦ out_waits (get_or slots v out) p r.slot s
          ]

  -- ---- the last entry is carried to the front, and sinks among all but the last
  abbrev m : ℕ
  m = size - 1

  abbrev front : ℕ → WorkItem
  front = put 0 (e m) e

  module _ (ps' : List Float) (ns' ws' : List ℕ) (same_ps : length ps' ≡ length ps) (same_ns : length ns' ≡ length ns)
      (d : Sunk 0 (size - 1) (put 0 (entries ps ns (size - 1)) (entries ps ns)) (entries ps' ns')) (w : WithMark false ws ws' first.node) where
    one_more : size ≡ suc m
    one_more = omega arith

    -- as if the first went to the last place: the two are exchanged
    abbrev e₁ : ℕ → WorkItem
    e₁ = put m first front

    x : Exchanged 0 m e e₁
    x = record { first = go (ℕ_discrete 0 m); second = put_here m first front; others = λ k a b. put_elsewhere m first front k b ∙ put_elsewhere 0 (e m) e k a }
      where
        go : Dec (0 ≡ m) → e₁ 0 ≡ e m
        go (yes z) = ap e₁ z ∙ put_here m first front ∙ ap e z
        go (no z) = put_elsewhere m first front 0 z ∙ put_here 0 (e m) e

    before_last : (k : ℕ) → k < m → e₁ k ≡ front k
    before_last k h = put_elsewhere m first front k (omega arith)

    comes : Among size e e₁
    comes = among_exchanged size pos (omega arith) x

    -- the exchange fills the same queue, with the first node as the last that comes in
    exchanged_fills : filled (length ps) e₁ (suc m) ≡ slots
    unfolding waiting
    exchanged_fills =
        ap (filled (length ps) e₁) (sym one_more) ∙ filled_among (length ps) e e₁ size full comes (among_back size pos (omega arith) x)

    last : Last (length ps) e₁ m
    last = last_of (length ps) e₁ m (ap taken exchanged_fills ∙ H.count ∙ one_more)

    -- the others fill the queue without it
    rest_fills : filled (length ps) e₁ m ≡ set slots first.node out
    unfolding filled
    rest_fills =
        let rest = filled (length ps) e₁ m in
        sym (set-get_or rest (e₁ m).node out) ∙ ap (set rest (e₁ m).node) last.free.empty
        ∙ sym (set-set rest (e₁ m).node (waits (e₁ m).priority) out)
        ∙ ap (λ (l : List Slot). set l (e₁ m).node out) exchanged_fills
        ∙ ap (λ (a : WorkItem). set slots a.node out) x.second

    -- and so do those that sink, which are the same before the last place
    front_fills : filled (length ps) front m ≡ set slots first.node out
    front_fills = sym (filled_same (length ps) front e₁ m before_last) ∙ rest_fills

    front_full : Full (length ps) front m
    front_full = ap taken (sym (filled_same (length ps) front e₁ m before_last)) ∙ last.before

    ordered_left : OrderedBut (λ j. (j ≡ 0) ⊎ (parent j ≡ 0)) m front 0
    ordered_left =
        record {
          numbers = λ k h. ap (λ (a : WorkItem). is_nan a.priority) (sym (before_last k h)) ∙ numbers_among size e e₁ comes H.numbers k (omega arith);
          rest = λ j a b ne.
              under_by (put_elsewhere 0 (e m) e j (omega arith)) (put_elsewhere 0 (e m) e (parent j) (λ q. ne (inr q))) (H.ordered j a (omega arith));
          past = λ j a b s z. absurd (omega arith);
        }

    pub leaves : Removed first.node slots (length ps) (length ws) (size - 1) ps' ns' ws'
    leaves =
        record {
          priority = first.priority;
          was_next = first_next;
          inside = first_inside;
          left = settles H first.node out d ordered_left front_full front_fills (omega (arith, H.fits)) same_ps same_ns w;
        }
