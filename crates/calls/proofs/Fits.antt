-- Buffers of the stated lengths have room for a solve. Assumes nothing.
use Prim.Native.Nat.{ℕ, ◌*◌, ◌≤◌}
use mathlib.Core.List.{List}
use mathlib.Core.Path.{◌≡◌, refl, ◌∙◌}
use native.Mathlib.Omega.{arith}
use lib.ListN.{length}
use lib.Ieee.{Float}
use Rattle.refusals.proofs.Laws.{Sized}
use Rattle.calls.specs.Lent.{words, SolveLent, solve_lent, solve_lengths}
use Rattle.calls.specs.Promises.{Fits}

-- as many words as n nodes need are enough
words_enough : (n k : ℕ) → k ≡ words n → n ≤ 64 * k
unfolding words
words_enough n k e = omega arith

-- what is lent to a call that is not refused has room
pub fits : {n m listed : ℕ} (sources : List ℕ) (b : SolveLent) → (listed ≤ 65536 → length sources ≤ 65536) → Sized n m listed (solve_lengths n b) → Fits n sources b
fits {n} sources b few z =
    let l = z.long in
    record {
      listed = few z.listed;
      room =
          record {
            few = z.nodes;
            estimate_long = l.0;
            residual_long = l.1.0;
            wide = l.1.1.1.0;
            paired = l.1.1.1.1.0;
            queued_room = words_enough n _ l.1.1.1.1.1.0;
            visited_room = words_enough n _ l.1.1.1.1.1.1.0;
          };
      degrees_long = l.1.1.0;
      queued_long = l.1.1.1.1.1.0;
      visited_long = l.1.1.1.1.1.1.0;
    }

-- what else is lent, for other sources, has room where it is as long
pub fits_again : {n : ℕ} {sources sources' : List ℕ} {e r d p e' r' d' p' : List Float} {k q v k' q' v' : List ℕ} → Fits n sources (solve_lent e r d p k q v) → length sources' ≤ 65536
    → length e' ≡ n → length r' ≡ n → length d' ≡ n → length p' ≡ length p → length k' ≡ length k → length q' ≡ length q → length v' ≡ length v
    → Fits n sources' (solve_lent e' r' d' p' k' q' v')
fits_again f few e r d p k q v =
    let room = f.room in
    record {
      listed = few;
      room =
          record {
            few = room.few;
            estimate_long = e;
            residual_long = r;
            wide = p ∙ room.wide;
            paired = k ∙ room.paired;
            queued_room = rw q room.queued_room;
            visited_room = rw v room.visited_room;
          };
      degrees_long = d;
      queued_long = q ∙ f.queued_long;
      visited_long = v ∙ f.visited_long;
    }

-- and so where the nodes alone are others
pub fits_nodes : {n : ℕ} {sources : List ℕ} {estimate residual degrees priorities : List Float} {nodes nodes' queued visited : List ℕ}
    → Fits n sources (solve_lent estimate residual degrees priorities nodes queued visited) → length nodes' ≡ length nodes
    → Fits n sources (solve_lent estimate residual degrees priorities nodes' queued visited)
fits_nodes f e = fits_again f f.listed f.room.estimate_long f.room.residual_long f.degrees_long refl e refl refl
