-- The slices of a struct that one step and then another leaves the same are the same after both. Assumes nothing.
use mathlib.Core.Path.{◌∙◌}
use Rattle.pushes.specs.States.{SameFrontier, SameTally}
use Rattle.pushes.specs.declared.Frontier.{Frontier}
use Rattle.pushes.specs.declared.Tally.{Tally}

-- of a frontier
pub frontier_then : {f g h : Frontier} → SameFrontier f g → SameFrontier g h → SameFrontier f h
frontier_then a b =
    record {
      residual = (b.residual.0 ∙ a.residual.0, b.residual.1 ∙ a.residual.1);
      priorities = (b.priorities.0 ∙ a.priorities.0, b.priorities.1 ∙ a.priorities.1);
      nodes = (b.nodes.0 ∙ a.nodes.0, b.nodes.1 ∙ a.nodes.1);
      queued = (b.queued.0 ∙ a.queued.0, b.queued.1 ∙ a.queued.1);
    }

-- of a tally
pub tally_then : {t u v : Tally} → SameTally t u → SameTally u v → SameTally t v
tally_then a b = record { estimate = (b.estimate.0 ∙ a.estimate.0, b.estimate.1 ∙ a.estimate.1); visited = (b.visited.0 ∙ a.visited.0, b.visited.1 ∙ a.visited.1) }
