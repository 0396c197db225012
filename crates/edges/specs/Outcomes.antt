-- The one outcome of each public call. Nothing is lent to be written, so it is the answer alone. Assumes nothing.
use Rattle.std.specs.Prelude.{ℕ, Result, Ok, Err, ◌+◌, Bool, true, false, List, [], ◌∷◌, length, Float, Option, None, Some}
use Rattle.numbers.specs.Numbers.{+0}
use Rattle.refusals.specs.Refusals.{row_tests}
use Rattle.refusals.specs.declared.refusal.Refusal.{Refusal}
use Rattle.refusals.specs.Answered.{number_of}
use Rattle.refusals.specs.Calls.{outcome_of, by_refusal}
use Rattle.graph.specs.Rows.{rows_in}
use Rattle.edges.specs.Edges.{edge_in}
use Rattle.edges.specs.declared.Found.{Found}
use Rattle.edges.specs.declared.Weighed.{Weighed}

-- the first number of either call
unfoldable pub asked_refusal : ℕ → List ℕ → List ℕ → List Float → ℕ
asked_refusal n starts columns weights =
    row_tests n 0 ((length starts, n + 1) ∷ (length weights, length columns) ∷ []) starts columns weights

-- what either call answers: by the number if it is refused, else by the link that the rows have
unfoldable pub asked : {A : Type 0} → (ℕ → A) → (Option Float → A) → ℕ → List ℕ → List ℕ → List Float → ℕ → ℕ → A
asked refused done n starts columns weights from to =
    (by_refusal {B = Unit {0}} (asked_refusal n starts columns weights) refused tt (outcome_of (done (edge_in from to (rows_in n starts columns weights))) tt)).answer

-- ---- has_edge

-- the answer, by its parts
abbrev pub found_of : ℕ → Bool → Found
found_of refusal found = record { refusal = refusal; found = found }

-- what the library's answer is for C: whether there is a link, or a refusal
abbrev pub found_for : Result Bool Refusal → Found
found_for (Ok found) = found_of 0 found
found_for (Err refusal) = found_of (number_of refusal) false

-- by the link
unfoldable pub found_by : Option Float → Found
found_by None = found_of 0 false
found_by (Some weight) = found_of 0 true

-- its answer
unfoldable pub has_edge : ℕ → List ℕ → List ℕ → List Float → ℕ → ℕ → Found
has_edge = asked (λ k. found_of k false) found_by

-- ---- edge_weight

-- the answer, by its parts
abbrev pub weighed_of : ℕ → Bool → Float → Weighed
weighed_of refusal found weight = record { refusal = refusal; found = found; weight = weight }

-- by the link; the weight is +0 if there is none
abbrev pub weighed_by : Option Float → Weighed
weighed_by None = weighed_of 0 false +0
weighed_by (Some weight) = weighed_of 0 true weight

-- what the library's answer is for C: the weight of the link, if there is one, or a refusal
abbrev pub weighed_for : Result (Option Float) Refusal → Weighed
weighed_for (Ok edge) = weighed_by edge
weighed_for (Err refusal) = weighed_of (number_of refusal) false +0

-- its answer
unfoldable pub edge_weight : ℕ → List ℕ → List ℕ → List Float → ℕ → ℕ → Weighed
edge_weight = asked (λ k. weighed_of k false +0) weighed_by
