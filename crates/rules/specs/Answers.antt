-- What the calls answer from the states that solves end in: counts, scores of single nodes, the extrapolated vector, the one score that two solves
-- combine to, and which solves `adaptive_solve` uses. The norm is `Norm` of the residual. Assumes nothing.
use Rattle.std.specs.Prelude.{ℕ, zero, suc, false, ◌&&◌, List, length, get_or, ltb, Float}
use Rattle.std.specs.Float.Ieee.{lt}
use Rattle.numbers.specs.Numbers.{f64, +0, ◌⊕◌, ◌⊗◌}
use Rattle.numbers.specs.Choice.{if◌then◌otherwise◌}
use Rattle.numbers.specs.Tables.{tabulate}
use Rattle.marks.specs.Marks.{how_many}
use Rattle.graph.specs.Rows.{Entry}
use Rattle.rules.specs.Ways.{push_forward, push_backward, over, degree_of}
use Rattle.rules.specs.Rules.{State, at}

-- nodes_visited: how many nodes are marked
unfoldable pub visited_count : State → ℕ
visited_count s = how_many (length s.visited) (λ v. get_or s.visited v false)

-- the score of v, which is +0 where v is out of range
unfoldable pub score_at : State → ℕ → Float
score_at s v = get_or s.estimate v +0

-- estimate + alpha × residual, for each of n nodes
unfoldable pub extrapolated : Float → ℕ → List Float → List Float → List Float
extrapolated alpha n estimate residual = tabulate n (λ v. at estimate v ⊕ (alpha ⊗ at residual v))

-- From +0, per node in order: the product of the two estimates, then (backward residual × forward estimate) × alpha, then
-- (backward estimate × forward residual) × alpha.
unfoldable pub combined : Float → List Float → List Float → List Float → List Float → ℕ → Float
combined alpha be br fe fr zero = +0
combined alpha be br fe fr (suc v) =
    ((combined alpha be br fe fr v ⊕ (at be v ⊗ at fe v)) ⊕ ((at br v ⊗ at fe v) ⊗ alpha)) ⊕ ((at be v ⊗ at fr v) ⊗ alpha)

-- the same of two solves among n nodes
abbrev pub together : Float → State → State → ℕ → Float
together alpha b f n = combined alpha b.estimate b.residual f.estimate f.residual n

-- ---- adaptive_solve

-- which solves it uses
pub data Method : Type 0 where
  neither backward_alone forward_alone both : Method

-- By the source's out-degree and the target's in-degree, both raw: backward alone where out(source) > 2 × in(target), else forward alone where
-- in(target) > 2 × out(source), else both.
unfoldable pub by_degrees : Float → Float → Method
by_degrees outward inward =
    let two = f64 0x4000_0000_0000_0000 in
    if lt (inward ⊗ two) outward then backward_alone otherwise (if lt (outward ⊗ two) inward then forward_alone otherwise both)

-- by the out-degrees and in-degrees of n nodes; neither where a number is out of range
unfoldable pub method_among : ℕ → (ℕ → Float) → (ℕ → Float) → ℕ → ℕ → Method
method_among n outward inward source target = if ltb source n && ltb target n then by_degrees (outward source) (inward target) otherwise neither

-- by those that the rows of n nodes give
unfoldable pub method : ℕ → List (List Entry) → ℕ → ℕ → Method
method n rows source target = method_among n (degree_of (over push_forward n rows)) (degree_of (over push_backward n rows)) source target

-- what it answers, from the backward and the forward solve; alpha is the backward one
unfoldable pub answer_by : Method → Float → ℕ → ℕ → ℕ → State → State → Float
answer_by neither alpha n source target b f = +0
answer_by backward_alone alpha n source target b f = score_at b source
answer_by forward_alone alpha n source target b f = score_at f target
answer_by both alpha n source target b f = together alpha b f n
