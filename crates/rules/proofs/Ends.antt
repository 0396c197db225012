-- A solve ends: the turns never run out, and more of them change nothing. Each turn lowers a measure: the pushes that are left, times one more than
-- the nodes, and the nodes that wait. Assumes nothing.
use Prim.Native.Nat.{ℕ, zero, suc, ◌+◌, ◌-◌, ◌*◌, ◌≤◌, ◌<◌}
use native.Mathlib.Omega.{arith}
use native.Mathlib.Nat.{sub-zero, zero-add, suc-add}
use mathlib.Core.Path.{◌≡◌, refl, sym, ap, ◌∙◌}
use mathlib.Core.List.{List}
use lib.ListN.{length, length-set}
use lib.Ieee.{Float}
use Rattle.numbers.proofs.Choice.{either}
use Rattle.refusals.specs.declared.Settings.{Settings}
use Rattle.queue.specs.Waiting.{taken, Best, nobody, best}
use Rattle.rules.proofs.Slots.{taken_length, taken_fewer}
use Rattle.rules.specs.Ways.{Way}
use Rattle.rules.specs.Rules.{State, Watch, blank, queued, counted, due, visit, turn, onward, run, start, enough, solve}
use Rattle.rules.proofs.Onward.{onward_by, onward_both}
use Rattle.rules.proofs.Lengths.{start_spans}
use Rattle.rules.proofs.Uncounted.{Uncounted, push_uncounted, start_uncounted}
use Rattle.rules.proofs.Due.{MayGo, due_may_go}

-- ---- the measure

-- what a turn lowers
pub measure : Settings → State → ℕ
measure settings s = (settings.max_pushes - s.pushes) * suc (length s.slots) + taken s.slots

-- one fewer to multiply outweighs whatever is at most the other factor
product_falls : (k l z y : ℕ) → z ≤ l → k * suc l + z < suc k * suc l + y
product_falls k l z y h = omega arith

-- however many a push leaves waiting, its being counted makes up for them
counted_falls : (settings : Settings) (v : ℕ) (s u : State) → Uncounted s u → s.pushes < settings.max_pushes
    → measure settings (counted settings v u) < measure settings s
unfolding measure counted
counted_falls settings v s u h l =
    let k = taken_length u.slots in
    let e : settings.max_pushes - s.pushes ≡ suc (settings.max_pushes - suc s.pushes) = omega arith in
    rw (e, h.pushes, h.slots) (product_falls _ _ _ _ (rw h.slots at k))

module _ (way : Way) (settings : Settings) (watch : Watch) where
  -- a turn of one who may go lowers the measure
  turn_falls : (s : State) (v : ℕ) (p : Float) → MayGo settings s v p → measure settings (turn way settings v s) < measure settings s
  unfolding turn visit measure queued
  turn_falls s v p h =
      let e = taken_fewer s.slots v p h.slot in
      either (λ t. measure settings t < measure settings s) _ (rw length-set (omega arith))
      (counted_falls settings v s _ (push_uncounted way settings.alpha v s) h.left)

  -- the same of whose turn it is
  pub falls : (s : State) (v : ℕ) (p : Float) → due settings watch s ≡ best v p → measure settings (turn way settings v s) < measure settings s
  falls s v p e = turn_falls s v p (due_may_go settings watch s v p e)

  -- ---- a run

  -- at measure 0 it is nobody's turn
  spent : (s : State) → measure settings s ≤ 0 → due settings watch s ≡ nobody
  spent s h = go (due settings watch s) refl
    where
      go : (b : Best) → due settings watch s ≡ b → due settings watch s ≡ nobody
      go nobody e = e
      go (best v p) e = let l = falls s v p e in absurd (omega arith)

  -- with as many turns as its measure a run comes to where it is nobody's turn
  run_ends : (turns : ℕ) (s : State) → measure settings s ≤ turns → due settings watch (run way settings watch turns s) ≡ nobody
  unfolding run
  run_ends zero s h = spent s h
  run_ends (suc turns) s h =
      onward_by (λ t. due settings watch t ≡ nobody) (due settings watch s) s _ (λ e. e)
      (λ v p e. let l = falls s v p e in run_ends turns (turn way settings v s) (omega arith))

  -- where it is nobody's turn a run stays
  pub run_stays : (turns : ℕ) (s : State) → due settings watch s ≡ nobody → run way settings watch turns s ≡ s
  unfolding run onward
  run_stays zero s e = refl
  run_stays (suc turns) s e = ap (λ (b : Best). onward b s (λ v. run way settings watch turns (turn way settings v s))) e

  -- where it is somebody's, the turn is the first of the run
  run_turns : (turns : ℕ) (s : State) (v : ℕ) (p : Float) → due settings watch s ≡ best v p
      → run way settings watch (suc turns) s ≡ run way settings watch turns (turn way settings v s)
  unfolding run onward
  run_turns turns s v p e = ap (λ (b : Best). onward b s (λ v. run way settings watch turns (turn way settings v s))) e

  -- more turns change nothing
  run_more : (turns more : ℕ) (s : State) → measure settings s ≤ turns → turns ≤ more → run way settings watch more s ≡ run way settings watch turns s
  unfolding run
  run_more zero more s h l = run_stays more s (spent s h)
  run_more (suc turns) zero s h l = absurd (omega arith)
  run_more (suc turns) (suc more) s h l =
      onward_both (λ (t u : State). t ≡ u) (due settings watch s) s s _ _ (λ e. refl)
      (λ v p e. let k = falls s v p e in run_more turns more (turn way settings v s) (omega arith) (omega arith))

  -- turns in two parts
  pub run_add : (turns more : ℕ) (s : State) → run way settings watch (turns + more) s ≡ run way settings watch more (run way settings watch turns s)
  unfolding run
  run_add zero more s = rw zero-add
  run_add (suc turns) more s =
      rw suc-add
      (onward_both (λ (t u : State). t ≡ run way settings watch more u) (due settings watch s) s s _ _ (λ e. sym (run_stays more s e))
      (λ v p e. run_add turns more (turn way settings v s)))

  -- ---- where a run from a state ends, with no count of turns

  -- its end
  pub end : State → State
  end s = run way settings watch (measure settings s) s

  -- there, where it is nobody's turn
  pub end_stays : (s : State) → due settings watch s ≡ nobody → end s ≡ s
  unfolding end
  end_stays s e = run_stays (measure settings s) s e

  -- and else where a run after one turn ends
  pub end_turn : (s : State) (v : ℕ) (p : Float) → due settings watch s ≡ best v p → end s ≡ end (turn way settings v s)
  unfolding end
  end_turn s v p e =
      let l = falls s v p e in
      let k = measure settings s in
      sym (run_more k (suc k) s (omega arith) (omega arith)) ∙ run_turns k s v p e ∙ run_more (measure settings (turn way settings v s)) k _ (omega arith) (omega arith)

  -- and where any number of turns that is enough leads
  pub end_run : (turns : ℕ) (s : State) → due settings watch (run way settings watch turns s) ≡ nobody → end s ≡ run way settings watch turns s
  unfolding end
  end_run turns s e =
      let k = measure settings s in
      sym (run_more k (turns + k) s (omega arith) (omega arith)) ∙ run_add turns k s ∙ run_stays k _ e

  -- ---- a solve

  module _ (n : ℕ) (sources : List ℕ) where
    -- a solve begins with turns enough
    start_measure : measure settings (start way settings watch n sources) ≤ enough settings n
    unfolding measure enough blank
    start_measure =
        let h = start_uncounted way settings watch n sources in
        let l = taken_length (start way settings watch n sources).slots in
        let e = (start_spans way settings watch n sources).slots_long in
        rw (h.pushes, e, sub-zero) (omega (arith, rw e at l))

    -- A solve ends where it is nobody's turn: no push is left, or the early stop says so, or nobody waits.
    pub solve_ends : due settings watch (solve way settings watch n sources) ≡ nobody
    unfolding solve
    solve_ends = run_ends (enough settings n) _ start_measure

    -- With more turns it gives the same.
    pub solve_more : (turns : ℕ) → enough settings n ≤ turns → run way settings watch turns (start way settings watch n sources) ≡ solve way settings watch n sources
    unfolding solve
    solve_more turns l = run_more (enough settings n) turns _ start_measure l
