-- `solver::solve` meets its contract: the start, and the run from there (`solved`). Assumes nothing.
use mathlib.Core.Path.{◌∙◌}
use Rattle.watching.specs.Watching.{watch_in}
use Rattle.pushes.specs.Buffers.{nodes_in}
use Rattle.pushes.proofs.Standing.{weighs}
use Rattle.solver.proofs.Running.{solved}
use Rattle.solver.proofs.solve.Goals as goal

pub returns-clause-leaves : goal.returns-clause-leaves
returns-clause-leaves c = let a = c.args in
    let r = c.run.ensures.ran in let t = c.start.ensures.leaves in record {
      lent = r.lent;
      state = λ way st.
          solved way a.settings (watch_in a.watch) (nodes_in a.graph) a.sources.now _ _ (t.state way (weighs c.requires.0 way st))
          (r.state way st);
      beyond = λ u h. r.beyond u h ∙ t.beyond u h;
    }
