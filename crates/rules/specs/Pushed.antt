-- Which nodes a run pushes: the words in which `nodes_visited` is proved to be the number of distinct ones. Assumes nothing.
use Rattle.std.specs.Prelude.{ℕ, zero, suc, List, [], ◌∷◌, eqb}
use Rattle.numbers.specs.Choice.{if◌then◌otherwise◌}
use Rattle.numbers.specs.Tables.{any}
use Rattle.refusals.specs.declared.Settings.{Settings}
use Rattle.rules.specs.Ways.{Way}
use Rattle.rules.specs.Rules.{State, Watch, due, skips, turn, onward}

-- the nodes that a run pushes, one for each push, in order
unfoldable pub pushed : Way → Settings → Watch → ℕ → State → List ℕ
pushed way settings watch zero s = []
pushed way settings watch (suc turns) s =
    onward (due settings watch s) []
    (λ v. let more = pushed way settings watch turns (turn way settings v s) in
    if skips way settings v s then more otherwise v ∷ more)

-- each of a list once
unfoldable pub distinct : List ℕ → List ℕ
distinct [] = []
distinct (v ∷ vs) =
    let more = distinct vs in
    if any (eqb v) vs then more otherwise v ∷ more
