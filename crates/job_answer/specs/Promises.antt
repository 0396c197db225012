-- Inner: no public promise cites it.
-- What the functions of `job_answer` ask of what is lent to them, and what they promise of the text. Assumes nothing.
use Rattle.std.specs.Prelude.{ℕ, ◌+◌, ◌≤◌, List, ◌++◌, ◌≡◌, length, Float}
use Rattle.refusals.specs.declared.Settings.{Settings}
use Rattle.calls.specs.declared.Solved.{Solved}
use Rattle.calls.specs.declared.lent.Links.{Links}
use Rattle.calls.specs.Lent.{words, SolveLent}
use Rattle.job_text.specs.Text.{done_line, node_lines}
use Rattle.job_text.specs.declared.Text.{Text}
use Rattle.job_answer.specs.Printed.{Job, job_of, refusal, refused_or, Prints, Writes}

-- nothing is written yet, and there is room for the text of any job
abbrev pub Roomy : Text → Type 0
Roomy text = (text.end ≡ 0) × (16448 ≤ length text.bytes.now)

-- the lists of m links are as long as each other
pub record ListsLong (m : ℕ) (to : List ℕ) (weight : List Float) : Type 0 where
  pub to_long : length to ≡ m
  pub weight_long : length weight ≡ m

-- buffers for the rows of n nodes and m links have the lengths that are stated
pub record RowsLong (n m : ℕ) (starts columns : List ℕ) (weights : List Float) : Type 0 where
  pub starts_long : length starts ≡ n + 1
  pub columns_long : length columns ≡ m
  pub weights_long : length weights ≡ m

-- and so those for a solve
pub record SolveLong (n : ℕ) (b : SolveLent) : Type 0 where
  pub estimate_long : length b.estimate ≡ n
  pub residual_long : length b.residual ≡ n
  pub degrees_long : length b.degrees ≡ n
  pub priorities_long : length b.priorities ≡ n
  pub nodes_long : length b.nodes ≡ n
  pub queued_long : length b.queued ≡ words n
  pub visited_long : length b.visited ≡ words n

-- a job with a list of links
abbrev pub job_with : Links → List ℕ → Settings → Job
job_with l sources s = job_of l.nodes l.from.now l.to.now l.weight.now sources s

-- the text of an answer and two vectors
abbrev pub answer_text : Solved → List Float → List Float → List ℕ
answer_text r estimate residual = refused_or r.refusal (done_line r.push_count r.nodes_visited r.residual_norm ++ node_lines 0 estimate residual)

-- the text of a job that has its shape
abbrev pub writes : Job → List ℕ → ℕ → List ℕ → Type 0
writes j = Writes (Prints (refusal j) j)

-- and so in the buffer of a text
pub record WritesIn (j : Job) (text text' : Text) : Type 0 where
  pub same : text'.bytes.ghost_name ≡ text.bytes.ghost_name
  pub written : writes j text.bytes.now text'.end text'.bytes.now
