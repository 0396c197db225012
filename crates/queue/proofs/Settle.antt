-- Once the entries of a heap have settled, the buffers hold the queue that the entries fill. It differs from the queue before in one slot, and the marks in
-- that node's mark. Assumes nothing.
use mathlib.Core.Path.{◌≡◌, sym, ap, ◌∙◌}
use mathlib.Core.List.{List}
use Prim.Native.Nat.{ℕ, ◌≤◌, ◌<◌}
use native.Mathlib.Decide.{ℕ_discrete}
use native.Mathlib.Omega.{arith}
use lib.ListN.{length, get_or, set}
use lib.Seq.{get_or-set_same, get_or-set_other}
use lib.Ieee.{Float}
use Rattle.marks.specs.Marks.{marked, WithMark}
use Rattle.queue.specs.Waiting.{Slot, out, taken}
use Rattle.heap.specs.Entries.{WorkItem, entries}
use Rattle.queue.specs.Heap.{filled, waiting, is_waiting, Heap}
use Rattle.queue.specs.Promises.{Holds}
use Rattle.heap.specs.Steps.{OrderedBut, Settled}
use Rattle.heap.proofs.Exchanging.{numbers_among}
use Rattle.queue.proofs.Filled.{Full, length-filled, filled_among}

-- what buffers with n places mean
waiting_is : (size : ℕ) (ps : List Float) (ns : List ℕ) (n : ℕ) → length ps ≡ n → waiting size ps ns ≡ filled n (entries ps ns) size
unfolding waiting
waiting_is size ps ns n e = ap (λ (m : ℕ). filled m (entries ps ns) size) e

-- there is a slot for each place
pub waiting_length : (size : ℕ) (ps : List Float) (ns : List ℕ) → length (waiting size ps ns) ≡ length ps
unfolding waiting
waiting_length size ps ns = length-filled (length ps) (entries ps ns) size

-- the slot of v becomes s, and its mark whether s waits: the marks go on agreeing with the slots
marks_follow : (slots : List Slot) (ws ws' : List ℕ) (v : ℕ) (s : Slot) → WithMark (is_waiting s) ws ws' v
    → ((u : ℕ) → u < length slots → marked ws u ≡ is_waiting (get_or slots u out)) → (u : ℕ) → u < length slots → marked ws' u ≡ is_waiting (get_or (set slots v s) u out)
marks_follow slots ws ws' v s w agree u h = go (ℕ_discrete u v)
  where
    go : Dec (u ≡ v) → marked ws' u ≡ is_waiting (get_or (set slots v s) u out)
    go (yes p) =
        ap (marked ws') p ∙ w.here ∙ sym (ap is_waiting (ap (λ (k : ℕ). get_or (set slots v s) k out) p ∙ get_or-set_same slots v s out (omega arith)))
    go (no p) = w.elsewhere u p ∙ agree u h ∙ ap is_waiting (sym (get_or-set_other slots v u s out p))

-- the entries e₁ fill the queue with the slot of v changed, and settle in the buffers
module _ {size : ℕ} {ps : List Float} {ns ws : List ℕ} (H : Heap size ps ns ws) (v : ℕ) (s : Slot) {wrong : ℕ → Type 0} {k size' : ℕ} {e₁ : ℕ → WorkItem}
    {ps' : List Float} {ns' ws' : List ℕ} where
  pub settles : Settled wrong size' k e₁ (entries ps' ns') → OrderedBut wrong size' e₁ k → Full (length ps) e₁ size'
      → filled (length ps) e₁ size' ≡ set (waiting size ps ns) v s → size' ≤ length ps → length ps' ≡ length ps → length ns' ≡ length ns
      → WithMark (is_waiting s) ws ws' v → Holds (set (waiting size ps ns) v s) (length ps) (length ws) size' ps' ns' ws'
  settles settled order full fills fits same_ps same_ns w =
      record {
        heap =
            record {
              few = omega (arith, H.few, same_ps);
              paired = same_ns ∙ H.paired ∙ sym same_ps;
              room = omega (arith, H.room, same_ps, w.same_length);
              fits = omega (arith, same_ps);
              numbers = numbers_among size' e₁ (entries ps' ns') settled.comes order.numbers;
              ordered = settled.ordered order;
              count = ap taken same ∙ full;
              marks_agree = λ u h.
                  marks_follow (waiting size ps ns) ws ws' v s w (λ x l. H.marks_agree x (omega (arith, waiting_length size ps ns))) u (omega (arith, waiting_length size ps ns, same_ps))
                  ∙ sym (ap (λ (slots : List Slot). is_waiting (get_or slots u out)) (same ∙ fills));
            };
        same_room = same_ps;
        same_words = w.same_length;
        view = same ∙ fills;
      }
    where
      same : waiting size' ps' ns' ≡ filled (length ps) e₁ size'
      same = waiting_is size' ps' ns' (length ps) same_ps ∙ filled_among (length ps) e₁ (entries ps' ns') size' full settled.comes settled.goes
