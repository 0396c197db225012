-- What each method answers and leaves, computed of two solves among two nodes whose numbers all differ. Assumes nothing.
use Rattle.std.specs.Prelude.{List, [], ◌∷◌, ◌≡◌, refl, Float}
use Rattle.std.specs.Float.Ieee.{of_bits, add, mul}
use Rattle.numbers.specs.Numbers.{f64, +0}
use Rattle.numbers.specs.Choice.{if◌then◌otherwise◌}
use Rattle.rules.specs.Rules.{State}
use Rattle.rules.specs.Answers.{Method, neither, backward_alone, forward_alone, both, score_at, combined, answer_by}
use Rattle.combination.specs.Methods.{uses_forward, uses_backward}
use Rattle.bidirectional_push.specs.Lent.{Pairs}
use Rattle.bidirectional_push.specs.Outcomes.{pairs_by}

-- a state with this estimate and residual
abbrev ended : List Float → List Float → State
ended e r = record { estimate = e; residual = r; slots = []; threshold = +0; pushes = 0; visited = [] }

-- estimate 1, 2 and residual 3, 4
abbrev front : State
front = ended (f64 0x3ff0_0000_0000_0000 ∷ f64 0x4000_0000_0000_0000 ∷ []) (f64 0x4008_0000_0000_0000 ∷ f64 0x4010_0000_0000_0000 ∷ [])

-- estimate 5, 6 and residual 7, 8
abbrev back : State
back = ended (f64 0x4014_0000_0000_0000 ∷ f64 0x4018_0000_0000_0000 ∷ []) (f64 0x401c_0000_0000_0000 ∷ f64 0x4020_0000_0000_0000 ∷ [])

-- the vectors of a pair that is not used
abbrev unused : State
unused = ended (+0 ∷ +0 ∷ []) (+0 ∷ +0 ∷ [])

-- the vectors of two states, forward and backward
abbrev pairs : State → State → Pairs
pairs f b =
    record { forward_estimate = f.estimate; forward_residual = f.residual; backward_estimate = b.estimate; backward_residual = b.residual }

-- the answer from node 0 to node 1, with the backward alpha 1/2
abbrev answered : Method → Float
answered m = answer_by m (f64 0x3fe0_0000_0000_0000) 2 0 1 back front

pub record Computed : Type 0 where
  pub of_neither : answered neither ≡ +0
  -- 5, the backward estimate at the source
  pub of_backward : answered backward_alone ≡ f64 0x4014_0000_0000_0000
  -- 2, the forward estimate at the target
  pub of_forward : answered forward_alone ≡ f64 0x4000_0000_0000_0000
  -- 5 × 1 + (7 × 1) / 2 + (5 × 3) / 2 and 6 × 2 + (8 × 2) / 2 + (6 × 4) / 2, which is 48
  pub of_both : answered both ≡ f64 0x4048_0000_0000_0000
  pub left_by_neither : pairs_by neither 2 back front ≡ pairs unused unused
  pub left_by_backward : pairs_by backward_alone 2 back front ≡ pairs unused back
  pub left_by_forward : pairs_by forward_alone 2 back front ≡ pairs front unused
  pub left_by_both : pairs_by both 2 back front ≡ pairs front back

pub computed : Computed
unfolding if◌then◌otherwise◌ uses_forward uses_backward pairs_by score_at combined answer_by of_bits add mul
computed =
    record {
      of_neither = refl;
      of_backward = refl;
      of_forward = refl;
      of_both = refl;
      left_by_neither = refl;
      left_by_backward = refl;
      left_by_forward = refl;
      left_by_both = refl;
    }
