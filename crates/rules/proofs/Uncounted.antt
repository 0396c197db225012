-- What a push leaves as it was until it is counted: the push count, the marks, and how many slots there are. Assumes nothing.
use Prim.Native.Nat.{ℕ}
use mathlib.Core.Path.{◌≡◌, refl}
use mathlib.Core.List.{List}
use lib.ListN.{length, set, length-set}
use lib.Ieee.{Float}
use Rattle.refusals.specs.declared.Settings.{Settings}
use Rattle.queue.specs.Waiting.{out}
use Rattle.rules.specs.Ways.{Way}
use Rattle.rules.specs.Rules.{State, Watch, blank, queued, gain, absorb, push, start}
use Rattle.rules.proofs.Keeps.{Keeps, push_keeps, start_keeps}
use Rattle.rules.proofs.Lengths.{Any}

-- t has them as s has
pub record Uncounted (s t : State) : Type 0 where
  pub pushes : t.pushes ≡ s.pushes
  pub visited : t.visited ≡ s.visited
  pub slots : length t.slots ≡ length s.slots

module _ (way : Way) where
  -- the moves keep them
  uncounted : (s : State) → Keeps Any (Uncounted s)
  unfolding queued gain absorb
  uncounted s =
      record {
        on_queued = λ w v t r h. record { pushes = h.pushes; visited = h.visited; slots = simp length-set h.slots };
        on_gain = λ x v t r h. record { pushes = h.pushes; visited = h.visited; slots = h.slots };
        on_absorb = λ a v t r h. record { pushes = h.pushes; visited = h.visited; slots = h.slots };
      }

  -- nothing has happened yet
  none : (s : State) → Uncounted s s
  none s = record { pushes = refl; visited = refl; slots = refl }

  -- one who leaves the queue and is pushed
  pub push_uncounted : (alpha : Float) (v : ℕ) (s : State) → Uncounted s (push way alpha v (queued (set s.slots v out) s))
  push_uncounted alpha v s = push_keeps way Any _ (uncounted s) (λ u r x m. tt) alpha v _ tt ((uncounted s).on_queued out v s tt (none s))

  -- the start
  pub start_uncounted : (settings : Settings) (watch : Watch) (n : ℕ) (sources : List ℕ) → Uncounted (blank n settings.queue_threshold) (start way settings watch n sources)
  start_uncounted settings watch n sources = start_keeps way Any _ (uncounted _) settings watch n sources (λ v m. tt) (none _)
