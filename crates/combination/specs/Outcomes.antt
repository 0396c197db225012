-- The one answer of the call that combines a forward and a backward solve. Assumes nothing.
use Rattle.std.specs.Prelude.{ℕ, List, [], ◌∷◌, length, Float}
use Rattle.numbers.specs.Numbers.{+0}
use Rattle.refusals.specs.Refusals.{◌or◌, refuse_sizes, refuse_alpha}
use Rattle.refusals.specs.Calls.{outcome_of, by_refusal}
use Rattle.rules.specs.Answers.{combined}
use Rattle.calls.specs.declared.Scored.{Scored}
use Rattle.calls.specs.Lent.{scored_of}

-- its first number: the first vector's length is the node count
unfoldable pub combined_refusal : List Float → List Float → List Float → List Float → Float → ℕ
combined_refusal be br fe fr alpha =
    let n = length be in
    refuse_sizes n 0 0 ((length br, n) ∷ (length fe, n) ∷ (length fr, n) ∷ []) or refuse_alpha alpha

-- its answer
unfoldable pub combining : List Float → List Float → List Float → List Float → Float → Scored
combining be br fe fr alpha =
    (by_refusal {B = Unit {0}} (combined_refusal be br fe fr alpha) (λ k. scored_of k +0) tt (outcome_of (scored_of 0 (combined alpha be br fe fr (length be))) tt)).answer
