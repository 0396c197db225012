-- What is lent to a backward solve besides what every solve is lent, and to a call for reachability besides that. Assumes nothing.
use Rattle.std.specs.Prelude.{ℕ, ◌+◌, List, ◌∷◌, length, replicate, Float}
use Rattle.numbers.specs.Numbers.{+0}
use Rattle.rules.specs.Rules.{State}
use Rattle.calls.specs.Lent.{Lending, SolveLent, solve_lengths, solve_done}

-- ---- a backward solve

-- workspace for reverse rows and out-degrees; the solve's own degrees are the in-degrees
pub record BackLent : Type 0 where
  pub reverse_starts : List ℕ
  pub reverse_columns : List ℕ
  pub reverse_weights : List Float
  pub out_degrees : List Float
  pub solve : SolveLent

-- the same, by its parts
abbrev pub back_lent : List ℕ → List ℕ → List Float → List Float → SolveLent → BackLent
back_lent s c w o b = record { reverse_starts = s; reverse_columns = c; reverse_weights = w; out_degrees = o; solve = b }

-- the lengths that are stated for it
abbrev pub back_lengths : ℕ → ℕ → BackLent → List (ℕ × ℕ)
back_lengths n m b =
    (length b.reverse_starts, n + 1)
    ∷ (length b.reverse_columns, m)
    ∷ (length b.reverse_weights, m)
    ∷ (length b.out_degrees, n)
    ∷ solve_lengths n b.solve

-- after solves that leave this
unfoldable pub back_done : ℕ → ℕ → SolveLent → BackLent
back_done n m b = back_lent (replicate (n + 1) 0) (replicate m 0) (replicate m +0) (replicate n +0) b

-- the lending of a backward solve
abbrev pub reversing : Lending State BackLent
reversing = record { lengths = back_lengths; done = λ n m s. back_done n m (solve_done n s.estimate s.residual) }

-- ---- reachability_probabilities

-- what its solve ends in, and the answer out of that
pub record Reachability : Type 0 where
  pub solution : List Float
  pub state : State

-- the same, by its parts
abbrev pub reachability_of : List Float → State → Reachability
reachability_of x s = record { solution = x; state = s }

-- an answer besides
pub record ReachLent : Type 0 where
  pub solution : List Float
  pub back : BackLent

-- the same, by its parts
abbrev pub reach_lent : List Float → BackLent → ReachLent
reach_lent x b = record { solution = x; back = b }

-- its lending
abbrev pub reaching : Lending Reachability ReachLent
reaching =
    record {
      lengths = λ n m b. (length b.solution, n) ∷ back_lengths n m b.back;
      done = λ n m r. reach_lent r.solution (reversing.done n m r.state);
    }
