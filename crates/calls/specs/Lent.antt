-- What a call answers, by its parts; what is lent to it, the lengths that are stated for that, and what it holds after a call that is done. Assumes nothing.
use Rattle.std.specs.Prelude.{ℕ, Result, Ok, Err, ◌+◌, ◌/◌, List, [], ◌∷◌, ◌++◌, length, replicate, Float}
use Rattle.numbers.specs.Numbers.{+0}
use Rattle.rules.specs.Rules.{State}
use Rattle.refusals.specs.declared.refusal.Refusal.{Refusal}
use Rattle.refusals.specs.Answered.{number_of}
use Rattle.calls.specs.declared.Counts.{Counts}
use Rattle.calls.specs.declared.Summary.{Summary}
use Rattle.calls.specs.declared.Solved.{Solved}
use Rattle.calls.specs.declared.Scored.{Scored}

-- n/64 rounded up
unfoldable pub words : ℕ → ℕ
words n = (n + 63) / 64

-- the answer of a solve before its norm is taken: the number of its refusal, or 0, and its counts
pub record Counted : Type 0 where
  pub refusal : ℕ
  pub push_count : ℕ
  pub nodes_visited : ℕ

-- the same, by its parts
abbrev pub counted_of : ℕ → ℕ → ℕ → Counted
counted_of refusal pushes visited = record { refusal = refusal; push_count = pushes; nodes_visited = visited }

-- the answer of a solve, by its parts
abbrev pub solved_of : ℕ → ℕ → ℕ → Float → Solved
solved_of refusal pushes visited norm = record { refusal = refusal; push_count = pushes; nodes_visited = visited; residual_norm = norm }

-- the answer of a query, by its parts
abbrev pub scored_of : ℕ → Float → Scored
scored_of refusal x = record { refusal = refusal; score = x }

-- ---- what an answer of the library comes to: a refusal's number, and 0 and +0 for the rest

-- the counts of a solve that is done
abbrev pub done_counts : Counts → Counted
done_counts c = counted_of 0 c.push_count c.nodes_visited

-- a solve before its norm is taken
abbrev pub counted_for : Result Counts Refusal → Counted
counted_for (Ok c) = done_counts c
counted_for (Err refusal) = counted_of (number_of refusal) 0 0

-- a solve
abbrev pub solved_for : Result Summary Refusal → Solved
solved_for (Ok s) = solved_of 0 s.push_count s.nodes_visited s.residual_norm
solved_for (Err refusal) = solved_of (number_of refusal) 0 0 +0

-- a query
abbrev pub scored_for : Result Float Refusal → Scored
scored_for (Ok score) = scored_of 0 score
scored_for (Err refusal) = scored_of (number_of refusal) +0

-- ---- kinds of lending

-- the lengths that are stated for n nodes and m links, and what is held after a call that is done, by what its solves come to
pub record Lending (S B : Type 0) : Type 0 where
  pub lengths : ℕ → ℕ → B → List (ℕ × ℕ)
  pub done : ℕ → ℕ → S → B

-- the same, where other lengths are tested besides
abbrev pub besides : {S B : Type 0} → List (ℕ × ℕ) → Lending S B → Lending S B
besides more k = record { lengths = λ n m b. more ++ k.lengths n m b; done = k.done }

-- ---- what every solve is lent

-- two vectors for the answer; workspace for degrees, the queue and the marks
pub record SolveLent : Type 0 where
  pub estimate : List Float
  pub residual : List Float
  pub degrees : List Float
  pub priorities : List Float
  pub nodes : List ℕ
  pub queued : List ℕ
  pub visited : List ℕ

-- the same, by its parts
abbrev pub solve_lent : List Float → List Float → List Float → List Float → List ℕ → List ℕ → List ℕ → SolveLent
solve_lent e r d p n q v = record { estimate = e; residual = r; degrees = d; priorities = p; nodes = n; queued = q; visited = v }

-- the lengths that are stated for it
abbrev pub solve_lengths : ℕ → SolveLent → List (ℕ × ℕ)
solve_lengths n b =
    (length b.estimate, n)
    ∷ (length b.residual, n)
    ∷ (length b.degrees, n)
    ∷ (length b.priorities, n)
    ∷ (length b.nodes, n)
    ∷ (length b.queued, words n)
    ∷ (length b.visited, words n)
    ∷ []

-- after solves that leave these two vectors: the answer in full, the workspace all zero
unfoldable pub solve_done : ℕ → List Float → List Float → SolveLent
solve_done n estimate residual = solve_lent estimate residual (replicate n +0) (replicate n +0) (replicate n 0) (replicate (words n) 0) (replicate (words n) 0)

-- a forward solve is lent no more
abbrev pub solving : Lending State SolveLent
solving = record { lengths = λ n m b. solve_lengths n b; done = λ n m s. solve_done n s.estimate s.residual }

-- ---- what a call with a list of links is lent

-- workspace for rows, and what else the call lends
pub record LinksLent (B : Type 0) : Type 0 where
  pub starts : List ℕ
  pub columns : List ℕ
  pub weights : List Float
  pub rest : B

-- the same, by its parts
abbrev pub links_lent : {B : Type 0} → List ℕ → List ℕ → List Float → B → LinksLent B
links_lent s c w b = record { starts = s; columns = c; weights = w; rest = b }

-- after a call with m links that is done
unfoldable pub links_done : {B : Type 0} → ℕ → ℕ → B → LinksLent B
links_done n m b = links_lent (replicate (n + 1) 0) (replicate m 0) (replicate m +0) b
