-- The statement for the stop, of what calls leave, in either direction and whatever their form. Where a solve that watches nobody answers 0, with a push count
-- below the most pushes, no push is still due at what it leaves in the lent residual. Assumes nothing.
use Prim.Native.Nat.{ℕ, ◌<◌}
use mathlib.Core.Bool.{Bool}
use mathlib.Core.List.{List}
use mathlib.Core.Path.{◌≡◌, ap}
use Rattle.refusals.specs.Calls.{Outcome}
use Rattle.refusals.specs.declared.Settings.{Settings}
use Rattle.rules.specs.Ways.{over}
use Rattle.rules.specs.Rules.{State, unwatched}
use Rattle.rules.specs.StillDue.{NothingDue, Steady}
use Rattle.rules.proofs.Stopped.{nothing_due}
use Rattle.calls.specs.declared.Solved.{Solved}
use Rattle.calls.specs.Outcomes.{Given, ends, Solves}
use Rattle.calls.proofs.Vectors.{LeftVectors}
use Rattle.calls.proofs.Done.{done_leaves, left_residual}

-- Nothing is still due, by the degrees of the rows that the call is given.
pub nothing_left_due : {B : Type 0} {g : Given State B} (w : LeftVectors g) (backward : Bool) (settings : Settings) → Steady settings → (list : List ℕ) {number : ℕ} {x : Outcome Solved B}
    → Solves number g (ends backward g settings unwatched list) x → x.answer.refusal ≡ 0 → x.answer.push_count < settings.max_pushes
    → NothingDue (over backward g.nodes g.rows) settings g.nodes (w.residual_of x.lent)
unfolding ends
nothing_left_due {B} {g} w backward settings steady list z done left =
    rw (left_residual z done w)
    (nothing_due (over backward g.nodes g.rows) settings steady g.nodes list (rw (ap (λ (y : Outcome Solved B). y.answer.push_count) (done_leaves z done)) at left))
