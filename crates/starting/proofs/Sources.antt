-- The sources of a solve, one by one, as the buffers show it. The idea: what the sources that are left do gives what all of them did at the start.
-- Assumes nothing.
use Prim.Native.Nat.{ℕ, ◌+◌, ◌<◌}
use native.Mathlib.Numerals.{add-one}
use mathlib.Core.Bool.{Bool, true, false}
use mathlib.Core.List.{List, [], ◌∷◌}
use mathlib.Core.Path.{◌≡◌, refl}
use lib.ListN.{length, get_or, drop}
use lib.Seq.{drop-cons}
use lib.Dec.{ltb}
use lib.Ieee.{Float}
use Rattle.numbers.specs.Choice.{if◌then◌otherwise◌}
use Rattle.rules.specs.Ways.{Way}
use Rattle.rules.specs.Rules.{State, each, inside, gain, offer}
use Rattle.pushes.specs.States.{Progress, state_in, state_with, pending_in, SameFrontier}
use Rattle.pushes.specs.Buffers.{Lent}
use Rattle.pushes.specs.Meant.{Weighing}
use Rattle.pushes.specs.declared.Frontier.{Frontier}

-- the first of the sources that are left
pub one_more : (f : ℕ → State → State) (n : ℕ) (sources : List ℕ) (i : ℕ) → i < length sources → (s : State)
    → each f (inside n (drop i sources)) s ≡ each f (inside n (drop (i + 1) sources)) (each f (inside n (get_or sources i 0 ∷ [])) s)
unfolding each inside if◌then◌otherwise◌
one_more f n sources i h s = rw (add-one, drop-cons sources i 0 h) (go (get_or sources i 0) _ (ltb (get_or sources i 0) n))
  where
    go : (v : ℕ) (more : List ℕ) (b : Bool) → each f (if b then v ∷ more otherwise more) s ≡ each f more (each f (if b then v ∷ [] otherwise []) s)
    go v more true = refl
    go v more false = refl

-- what holds at the source i, while all gain
pub record Gaining (x : Float) (sources : List ℕ) (residual₀ residual : List Float) (i : ℕ) : Type 0 where
  pub same_length : length residual ≡ length residual₀
  pub left : (n : ℕ) (estimate : List Float) (p : Progress) (ps : List Float) (ns vs : List ℕ)
      → each (gain x) (inside (length residual₀) (drop i sources)) (state_in n estimate residual p ps ns vs)
      ≡ each (gain x) (inside (length residual₀) sources) (state_in n estimate residual₀ p ps ns vs)

-- what holds at the source i, while all are offered
pub record Offering (sources : List ℕ) (degrees : List Float) (f₀ f : Frontier) (i : ℕ) : Type 0 where
  pub lent : Lent (length degrees) (pending_in f)
  pub same_frontier : SameFrontier f₀ f
  pub left : (way : Way) → Weighing degrees way → (estimate : List Float) (pushes : ℕ) (vs : List ℕ)
      → each (offer way) (inside (length degrees) (drop i sources)) (state_with (length degrees) estimate pushes vs (pending_in f))
      ≡ each (offer way) (inside (length degrees) sources) (state_with (length degrees) estimate pushes vs (pending_in f₀))
