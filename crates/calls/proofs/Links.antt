-- A solve of a list of links is one of the rows that are made of it, whatever is lent besides. Assumes nothing.
use Prim.Native.Nat.{ℕ, ◌+◌}
use mathlib.Core.Bool.{Bool}
use mathlib.Core.List.{List}
use mathlib.Core.Path.{◌≡◌, ap, ◌∙◌}
use lib.ListN.{length, replicate}
use lib.Ieee.{Float}
use Rattle.numbers.specs.Numbers.{+0}
use Rattle.refusals.specs.Calls.{Outcome, outcome_of}
use Rattle.refusals.specs.declared.Settings.{Settings}
use Rattle.graph.specs.Rows.{Entry, links_of, rows_of, rows_in}
use Rattle.graph.specs.Store.{Compressed}
use Rattle.graph.proofs.Back.{held_rows}
use Rattle.rules.specs.Ways.{over}
use Rattle.rules.specs.Rules.{State, Watch, solve}
use Rattle.calls.specs.Lent.{Counted}
use Rattle.calls.specs.Lent.{Lending, LinksLent, links_lent, links_done}
use Rattle.calls.specs.Outcomes.{given_rows, given_links, ends}
use Rattle.calls.specs.Promises.{Settles, counted_in}

-- what a call with rows leaves, as a function of its rows, where they were made in lent buffers and are cleared after it
pub made_left : {A B : Type 0} {n m j : ℕ} {rows : List (List Entry)} {starts columns positions starts' columns' : List ℕ} {weights weights' : List Float} {r : A} {b : B}
    (f : List (List Entry) → Outcome A B) → Compressed j n rows m starts columns weights positions → outcome_of r b ≡ f (rows_in n starts columns weights)
    → starts' ≡ replicate (n + 1) 0 → columns' ≡ replicate m 0 → weights' ≡ replicate m +0
    → outcome_of r (links_lent starts' columns' weights' b) ≡ outcome_of (f rows).answer (links_done n m (f rows).lent)
unfolding links_done
made_left {starts' = starts'} {columns'} {weights'} f h d s c w =
    ap (λ (x : Outcome _ _). outcome_of x.answer (links_lent starts' columns' weights' x.lent)) (d ∙ ap f (held_rows h.held)) ∙ rw (s, c, w)

-- a solve of it
pub links_settle : {B : Type 0} (k : Lending State B) (backward : Bool) {n j : ℕ} (from to : List ℕ) (weight : List Float) (l : LinksLent B) (settings : Settings) (watch : Watch)
    (sources : List ℕ) {starts columns positions starts' columns' : List ℕ} {weights weights' : List Float} {r : Counted} (b : B) {b' : B}
    → Compressed j n (rows_of n (links_of from to weight)) (length from) starts columns weights positions → length columns ≡ length from
    → Settles backward (given_rows k n starts columns weights b) settings watch sources (outcome_of r b')
    → starts' ≡ replicate (n + 1) 0 → columns' ≡ replicate (length from) 0 → weights' ≡ replicate (length from) +0
    → Settles backward (given_links k n from to weight l) settings watch sources (outcome_of r (links_lent starts' columns' weights' b'))
unfolding given_rows given_links ends
links_settle k backward {n} from to weight l settings watch sources b h e d s c w =
    let f : List (List Entry) → Outcome Counted _ = λ rows. let z = solve (over backward n rows) settings watch n sources in outcome_of (counted_in z) (k.done n (length from) z) in
    record { leaves = made_left f h (rw e at d.leaves) s c w }
