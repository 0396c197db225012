-- An offer leaves the buffers as they are, or the node enters: it is put at the last place, and climbs. Assumes nothing.
use mathlib.Core.Path.{◌≡◌, refl, sym, ap, ap₂, ◌∙◌, subst}
use mathlib.Core.Bool.{Bool, true, false, true≢false, false≢true}
use mathlib.Core.List.{List}
use Prim.Native.Nat.{ℕ, suc, ◌+◌, ◌<◌}
use native.Mathlib.Nat.{le_refl}
use native.Mathlib.Numerals.{add-one}
use native.Mathlib.Decide.{ℕ_discrete}
use native.Mathlib.Omega.{arith}
use lib.ListN.{length, get_or, set, length-set}
use lib.Ieee.{Float, nan, le, is_nan}
use Rattle.numbers.proofs.Tests.{of_true}
use Rattle.numbers.proofs.Order.{le-number_right}
use Rattle.marks.specs.Marks.{marked, WithMark}
use Rattle.queue.specs.Waiting.{Slot, out, waits, taken, offered}
use Rattle.heap.specs.Entries.{WorkItem, entries, parent, Numbers}
use Rattle.queue.specs.Heap.{filled, waiting, is_waiting, Heap}
use Rattle.queue.specs.Promises.{Holds}
use Rattle.heap.specs.Steps.{put, OrderedBut, Climbed}
use Rattle.heap.proofs.Stores.{put_here, put_elsewhere}
use Rattle.heap.proofs.Exchanging.{under_by}
use Rattle.queue.proofs.Taken.{Free, taken_more, taken_length}
use Rattle.queue.proofs.Filled.{Full, filled_same}
use Rattle.queue.proofs.Settle.{waiting_length, settles}
use Rattle.queue.proofs.Offer.{offered_below, offered_held, offered_free}

-- a slot in which no node waits is out, and one in which a node does has its priority
not_waiting : (s : Slot) → is_waiting s ≡ false → s ≡ out
not_waiting out e = refl
not_waiting (waits p) e = absurd (true≢false e)

is_waiting_lem : (s : Slot) → is_waiting s ≡ true → (p : Float) × (s ≡ waits p)
is_waiting_lem out e = absurd (false≢true e)
is_waiting_lem (waits p) e = (p, refl)

module _ (size : ℕ) (ps : List Float) (ns ws : List ℕ) (H : Heap size ps ns ws) (v : ℕ) (hv : v < length ps) where
  -- the queue before
  abbrev slots : List Slot
  slots = waiting size ps ns

  -- a node that has no mark is out, and then there is room
  free : marked ws v ≡ false → Free slots v
  free m =
      record {
        inside = subst (λ (n : ℕ). v < n) (sym (waiting_length size ps ns)) hv;
        empty = not_waiting (get_or slots v out) (sym (H.marks_agree v hv) ∙ m);
      }

  pub has_room : marked ws v ≡ false → size < length ps
  has_room m =
      omega (arith, taken_more slots v nan (free m), taken_length (set slots v (waits nan)), length-set slots v (waits nan), waiting_length size ps ns, H.count)

  -- ---- nothing enters: the priority is below the threshold, or the node waits already
  stays : (after : List Slot) → after ≡ slots → Holds after (length ps) (length ws) size ps ns ws
  stays after e = record { heap = H; same_room = refl; same_words = refl; view = sym e }

  pub stays_below : (t p : Float) → le t p ≡ false → Holds (offered t v p slots) (length ps) (length ws) size ps ns ws
  stays_below t p below = stays (offered t v p slots) (offered_below t v p slots below)

  -- whatever the priority
  pub stays_held : (t p : Float) → marked ws v ≡ true → Holds (offered t v p slots) (length ps) (length ws) size ps ns ws
  stays_held t p m = go (le t p) refl
    where
      go : (b : Bool) → le t p ≡ b → Holds (offered t v p slots) (length ps) (length ws) size ps ns ws
      go true reach = let s = is_waiting_lem (get_or slots v out) (sym (H.marks_agree v hv) ∙ m) in stays (offered t v p slots) (offered_held t v p slots s.0 reach s.1)
      go false below = stays_below t p below

  -- ---- the node enters
  module _ (t p : Float) (reach : le t p ≡ true) (m : marked ws v ≡ false) (ps' : List Float) (ns' ws' : List ℕ) (same_ps : length ps' ≡ length ps)
      (same_ns : length ns' ≡ length ns) (c : Climbed size (put size (record { priority = p; node = v }) (entries ps ns)) (entries ps' ns')) (w : WithMark true ws ws' v) where
    -- the entries with the new one at the last place, before it climbs
    abbrev joined : ℕ → WorkItem
    joined = put size (record { priority = p; node = v }) (entries ps ns)

    joined_last : joined size ≡ record { priority = p; node = v }
    joined_last = put_here size (record { priority = p; node = v }) (entries ps ns)

    joined_old : (k : ℕ) → k < size → joined k ≡ entries ps ns k
    joined_old k h = put_elsewhere size (record { priority = p; node = v }) (entries ps ns) k (omega arith)

    -- they fill the queue with the node in it
    joined_fills : filled (length ps) joined (suc size) ≡ set slots v (waits p)
    unfolding filled waiting
    joined_fills =
        ap₂ (λ (a : WorkItem) (l : List Slot). set l a.node (waits a.priority)) joined_last (filled_same (length ps) (entries ps ns) joined size joined_old)

    joined_full : Full (length ps) joined (suc size)
    joined_full = ap taken joined_fills ∙ taken_more slots v p (free m) ∙ ap suc H.count

    joined_numbers : Numbers (suc size) joined
    joined_numbers k h = go (ℕ_discrete k size)
      where
        go : Dec (k ≡ size) → is_nan (joined k).priority ≡ false
        go (yes e) = ap (λ (i : ℕ). is_nan (joined i).priority) e ∙ ap (λ (a : WorkItem). is_nan a.priority) joined_last ∙ le-number_right t p (of_true reach)
        go (no e) = let old : k < size = omega arith in ap (λ (a : WorkItem). is_nan a.priority) (joined_old k old) ∙ H.numbers k old

    joined_ordered : OrderedBut (λ j. j ≡ size) (suc size) joined size
    joined_ordered =
        record {
          numbers = joined_numbers;
          rest = λ j a b ne. under_by (joined_old j (omega arith)) (joined_old (parent j) (omega arith)) (H.ordered j a (omega arith));
          past = λ j a b e z. absurd (omega arith);
        }

    -- and settle there
    holds : Holds (set slots v (waits p)) (length ps) (length ws) (suc size) ps' ns' ws'
    holds = settles H v (waits p) (c (suc size) (le_refl (suc size))) joined_ordered joined_full joined_fills (has_room m) same_ps same_ns w

    pub enters : Holds (offered t v p slots) (length ps) (length ws) (size + 1) ps' ns' ws'
    enters = rw (add-one size, offered_free t v p slots reach (free m).empty) holds
