-- A run, as the buffers show it. The idea: the end of the run from here is its end from the start. Assumes nothing.
use Prim.Native.Nat.{ℕ, ◌<◌}
use native.Mathlib.Omega.{arith}
use mathlib.Core.Bool.{Bool, true, false, ◌&&◌}
use mathlib.Core.List.{List}
use mathlib.Core.Path.{◌≡◌, refl, sym, ap, ◌∙◌}
use borrow.Author.Tests.{ltb-true, ltb-false}
use lib.Dec.{ltb}
use lib.Ieee.{Float}
use Rattle.numbers.specs.Choice.{if◌then◌otherwise◌}
use Rattle.numbers.proofs.Tests.{both}
use Rattle.refusals.specs.declared.Settings.{Settings}
use Rattle.queue.specs.Waiting.{taken, nobody, best, next}
use Rattle.rules.specs.Ways.{Way}
use Rattle.rules.specs.Rules.{State, Watch, goes_on, due, turn, run, start, enough, solve}
use Rattle.rules.proofs.Due.{next_none}
use Rattle.rules.proofs.Ends.{measure, falls, end, end_stays, end_turn, solve_ends}
use Rattle.pushes.specs.States.{SameBeyond, state_of, holding_in, SameFrontier, SameTally}
use Rattle.pushes.specs.Buffers.{nodes_in, ReadyIn}
use Rattle.pushes.specs.Meant.{StandsIn}
use Rattle.pushes.specs.declared.Frontier.{Frontier}
use Rattle.pushes.specs.declared.Graph.{Graph}
use Rattle.pushes.specs.declared.Tally.{Tally}

module _ (settings : Settings) (watch : Watch) (s : State) (size : ℕ) where
  -- the run goes on
  module _ (e : goes_on settings watch s && ltb 0 size ≡ true) where
    -- a push is left, and somebody waits
    pub going : (s.pushes < settings.max_pushes) × (0 < size)
    unfolding goes_on
    going = let x = both _ _ e in (ltb-true _ _ (both _ _ x.0).0, ltb-true _ _ x.1)

    -- it is the turn of who is next
    due_next : due settings watch s ≡ next s.slots
    unfolding due if◌then◌otherwise◌
    due_next = rw (both (goes_on settings watch s) (ltb 0 size) e).0

    -- which changes nothing in where the run ends, and lowers the measure
    pub goes : (way : Way) (v : ℕ) (p : Float) → next s.slots ≡ best v p → (t : State) → t ≡ turn way settings v s
        → (end way settings watch t ≡ end way settings watch s) × (measure settings t < measure settings s)
    goes way v p n t q =
        let d = due_next ∙ n in
        rw q (sym (end_turn way settings watch s v p d), falls way settings watch s v p d)

  -- the run does not go on: it ends here
  pub halts : goes_on settings watch s && ltb 0 size ≡ false → taken s.slots ≡ size → (way : Way) → s ≡ end way settings watch s
  unfolding due if◌then◌otherwise◌
  halts e k way = sym (end_stays way settings watch s (go (goes_on settings watch s) e))
    where
      go : (b : Bool) → b && ltb 0 size ≡ false → (if b then next s.slots otherwise nobody) ≡ nobody
      go false f = refl
      go true f = let z = ltb-false 0 size f in next_none s.slots (omega arith)

-- the state t after a run from where a solve starts
pub solved : (way : Way) (settings : Settings) (watch : Watch) (n : ℕ) (sources : List ℕ) (s t : State) → s ≡ start way settings watch n sources
    → ((turns : ℕ) → due settings watch (run way settings watch turns s) ≡ nobody → t ≡ run way settings watch turns s) → t ≡ solve way settings watch n sources
unfolding solve
solved way settings watch n sources s t e f =
    f (enough settings n) (rw e (solve_ends way settings watch n sources)) ∙ ap (run way settings watch (enough settings n)) e

-- what holds between two turns
pub record Running (settings : Settings) (watch : Watch) (g : Graph) (f₀ : Frontier) (t₀ : Tally) (f : Frontier) (t : Tally) : Type 0 where
  pub ready : ReadyIn g f t
  pub same_frontier : SameFrontier f₀ f
  pub same_tally : SameTally t₀ t
  pub beyond : SameBeyond (nodes_in g) t₀.visited.now t.visited.now
  pub left : (way : Way) → StandsIn g way → end way settings watch (state_of (nodes_in g) (holding_in f t)) ≡ end way settings watch (state_of (nodes_in g) (holding_in f₀ t₀))
