-- Demand 3 of what a job prints: among the lines of the nodes, that of a node which no source can reach shows score and remainder +0; and two jobs with the
-- same nodes, sources and settings, and the same kept links out of every node that the sources can reach, print the same text. Assumes nothing.
use Prim.Native.Nat.{ℕ, suc, ◌<◌}
use mathlib.Core.List.{List, ◌++◌}
use mathlib.Core.Path.{◌≡◌, sym, ◌∙◌}
use lib.ListN.{take, drop}
use lib.Ieee.{nan}
use Rattle.numbers.specs.Numbers.{+0}
use Rattle.graph.specs.Rows.{Link, links_of}
use Rattle.rules.specs.Ways.{push_forward}
use Rattle.rules.specs.Rules.{unwatched}
use Rattle.rules.specs.Reach.{Connected, SameConnected, Alike, Untouched, kept_links}
use Rattle.rules.proofs.Lengths.{Spans, solve_spans}
use Rattle.rules.proofs.Unreached.{untouched_links, alike_links}
use Rattle.job_text.specs.Text.{node_line, node_lines}
use Rattle.job_text.proofs.NodeLines.{line_at}
use Rattle.job_answer.specs.Printed.{Job, end, Prints}
use Rattle.job_answer.proofs.Texts.{text_of}

-- the links of a job
abbrev links_of_job : Job → List Link
links_of_job j = links_of j.from j.to j.weight

-- ---- a node that no source can reach

module _ (j : Job) where
  -- the lists of the state that the solve ends in have a place for each node
  end_spans : Spans j.nodes (end j)
  unfolding end
  end_spans = solve_spans _ _ _ _ _

  -- such a node is untouched
  end_untouched : (v : ℕ) → v < j.nodes → ¬ Connected push_forward (kept_links j.nodes (links_of_job j)) j.nodes j.sources v → Untouched (end j) v
  unfolding end
  end_untouched = untouched_links push_forward j.given unwatched j.nodes j.sources (links_of_job j)

  -- its line stands between those of the nodes before it and behind it
  pub unreached_line : (v : ℕ) → v < j.nodes → ¬ Connected push_forward (kept_links j.nodes (links_of_job j)) j.nodes j.sources v
      → node_lines 0 (end j).estimate (end j).residual
      ≡ node_lines 0 (take v (end j).estimate) (take v (end j).residual) ++ (node_line v +0 +0 ++ node_lines (suc v) (drop (suc v) (end j).estimate) (drop (suc v) (end j).residual))
  unreached_line v h off =
      let z = end_spans in
      let u = end_untouched v h off in
      rw (u.score, u.remainder) at (line_at v (end j).estimate (end j).residual nan (rw z.estimate_long h) (z.residual_long ∙ sym z.estimate_long))

-- ---- two jobs

module _ (j k : Job) (nodes : k.nodes ≡ j.nodes) (sources : k.sources ≡ j.sources) (settings : k.given ≡ j.given)
    (same : SameConnected push_forward (kept_links j.nodes (links_of_job j)) (kept_links j.nodes (links_of_job k)) j.nodes j.sources) where
  -- their solves end alike
  ends_alike : Alike (end j) (end k)
  unfolding end
  ends_alike = rw (nodes, sources, settings) (alike_links push_forward j.given unwatched j.nodes j.sources (links_of_job j) (links_of_job k) same)

  -- where neither is refused, their texts are the same
  pub same_text : (number other : ℕ) {x y : List ℕ} → Prints number j x → number ≡ 0 → Prints other k y → other ≡ 0 → x ≡ y
  same_text number other p e q f =
      let a = ends_alike in
      let i = p.is_text ∙ text_of number _ e in
      let j = q.is_text ∙ text_of other _ f in
      let pushes = a.pushes in
      let visited = a.visited in
      let norms = a.norms p.norm q.norm (p.is_norm e) (q.is_norm f) in
      let scores = a.scores in
      let remainders = a.remainders in
      cc
