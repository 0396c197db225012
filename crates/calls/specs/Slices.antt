-- What the structs of lent slices hold, as the outcomes speak of it, and that their slices stay the same ones. Assumes nothing.
use Rattle.std.specs.Prelude.{ℕ, ◌+◌, List, [], ◌∷◌, length, Float}
use Rattle.numbers.specs.Slices.{SameSlice}
use Rattle.calls.specs.declared.lent.Links.{Links}
use Rattle.calls.specs.declared.lent.Rows.{Rows}
use Rattle.calls.specs.declared.lent.RowBuffers.{RowBuffers}
use Rattle.calls.specs.declared.lent.Vectors.{Vectors}
use Rattle.calls.specs.declared.lent.Workspace.{Workspace}
use Rattle.calls.specs.Lent.{SolveLent, solve_lent, Lending, LinksLent, links_lent}
use Rattle.calls.specs.Outcomes.{Given, given_links, given_rows}

-- ---- what is lent

-- to a solve: the vectors, the degrees and the workspace
abbrev pub lent_in : Vectors → List Float → Workspace → SolveLent
lent_in v degrees w = solve_lent v.estimate.now v.residual.now degrees w.priorities.now w.nodes.now w.queued.now w.visited.now

-- to a call with a list of links: the buffers for its rows, and what else
abbrev pub rows_lent_in : {B : Type 0} → RowBuffers → B → LinksLent B
rows_lent_in m b = links_lent m.starts.now m.columns.now m.weights.now b

-- ---- what a call is given

-- a list of links, with a kind of lending besides the buffers for rows
abbrev pub given_links_in : {S B : Type 0} → Lending S B → Links → LinksLent B → Given S (LinksLent B)
given_links_in k l b = given_links k l.nodes l.from.now l.to.now l.weight.now b

-- rows, with a kind of lending
abbrev pub given_rows_in : {S B : Type 0} → Lending S B → Rows → B → Given S B
given_rows_in k r b = given_rows k r.nodes r.starts.now r.columns.now r.weights.now b

-- ---- the lengths that are stated

-- for a list of links and the buffers for its rows
abbrev pub links_lengths : Links → RowBuffers → List (ℕ × ℕ)
links_lengths l b =
    let m = length l.from.now in
    (length l.to.now, m) ∷ (length l.weight.now, m) ∷ (length b.starts.now, l.nodes + 1) ∷ (length b.columns.now, m) ∷ (length b.weights.now, m) ∷ []

-- for rows
abbrev pub rows_lengths : Rows → List (ℕ × ℕ)
rows_lengths r = (length r.starts.now, r.nodes + 1) ∷ (length r.weights.now, length r.columns.now) ∷ []

-- ---- each slice of a struct is still the same one, of the same length

pub record SameRowBuffers (b b' : RowBuffers) : Type 0 where
  pub starts : SameSlice b.starts b'.starts
  pub columns : SameSlice b.columns b'.columns
  pub weights : SameSlice b.weights b'.weights

pub record SameVectors (v v' : Vectors) : Type 0 where
  pub estimate : SameSlice v.estimate v'.estimate
  pub residual : SameSlice v.residual v'.residual

pub record SameWorkspace (w w' : Workspace) : Type 0 where
  pub priorities : SameSlice w.priorities w'.priorities
  pub nodes : SameSlice w.nodes w'.nodes
  pub queued : SameSlice w.queued w'.queued
  pub visited : SameSlice w.visited w'.visited
