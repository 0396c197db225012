-- `queue::start` meets its contract: with no entry and no mark, nobody waits. Assumes nothing.
use mathlib.Core.Path.{◌≡◌, refl, sym, ap, ◌∙◌}
use mathlib.Core.List.{List}
use Prim.Native.Nat.{ℕ, ◌*◌, ◌≤◌, zero-le}
use native.Mathlib.Nat.{not-suc-le-zero}
use native.Mathlib.Omega.{arith}
use lib.ListN.{length, get_or, replicate, length-replicate, get_or-replicate}
use lib.Ieee.{Float}
use Rattle.marks.proofs.Marking.{none_marked}
use Rattle.queue.specs.Waiting.{Slot, out}
use Rattle.queue.specs.Heap.{filled, waiting, is_waiting}
use Rattle.queue.specs.Promises.{Holds}
use Rattle.queue.proofs.Taken.{taken_none}
use Rattle.queue.proofs.start.Goals as goal

-- no entry fills no slot
nobody_waits : (ps : List Float) (ns : List ℕ) → waiting 0 ps ns ≡ replicate (length ps) out
unfolding waiting filled
nobody_waits ps ns = refl

empty : (ps : List Float) (ns ws : List ℕ) → length ps ≤ 65536 → length ns ≡ length ps → length ps ≤ 64 * length ws
    → Holds (replicate (length ps) out) (length ps) (length ws) 0 ps ns (replicate (length ws) 0)
empty ps ns ws few paired room =
    record {
      heap =
          record {
            few = few;
            paired = paired;
            room = omega (arith, length-replicate {A = ℕ} (length ws) 0);
            fits = zero-le;
            numbers = λ k h. absurd (not-suc-le-zero h);
            ordered = λ k a h. absurd (not-suc-le-zero h);
            count = rw (nobody_waits ps ns) (taken_none (length ps));
            marks_agree = λ v h.
                none_marked (length ws) v ∙ sym (ap is_waiting (ap (λ (l : List Slot). get_or l v out) (nobody_waits ps ns) ∙ get_or-replicate (length ps) v out out h));
          };
      same_room = refl;
      same_words = length-replicate (length ws) 0;
      view = nobody_waits ps ns;
    }

pub returns : goal.returns
returns c = let a = c.args in
    record { threshold_value = refl; holds = rw (c.fill.ensures.after (λ _ e. e)) (empty a.priorities.now a.nodes.now a.marks.now c.requires.priorities_len_bound.0 c.requires.priorities_len_bound.1 c.requires.priorities_len_bound_2) }
