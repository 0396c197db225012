-- A solve looks only at the nodes of a set R that holds its sources and is closed under the rows: two ways that agree on R end in the same state, and
-- off R the estimate and the residual stay +0. Assumes nothing.
use Prim.Native.Nat.{ℕ, zero, suc, ◌<◌}
use native.Mathlib.Decide.{ℕ_discrete}
use mathlib.Core.Path.{◌≡◌, refl, sym, ap, ◌∙◌, subst}
use mathlib.Core.List.{List, Memᴰ}
use lib.ListN.{get_or, set}
use lib.Seq.{get_or-set_other}
use lib.Ieee.{Float, nan}
use Rattle.numbers.specs.Numbers.{+0}
use Rattle.refusals.specs.declared.Settings.{Settings}
use Rattle.graph.specs.Rows.{Entry}
use Rattle.queue.specs.Waiting.{Slot, out, waits, best}
use Rattle.rules.proofs.Slots.{out_waits}
use Rattle.rules.specs.Ways.{Way, degree_of}
use Rattle.rules.specs.Rules.{State, Watch, blank, queued, gain, absorb, counted, offer, pass, hand_out, push, due, skips, visit, turn, run, begun, start, enough, solve}
use Rattle.rules.specs.Reach.{Untouched}
use Rattle.rules.proofs.Lists.{all_alike, other_default}
use Rattle.rules.proofs.Each.{each_same}
use Rattle.rules.proofs.Onward.{onward_both}
use Rattle.rules.proofs.Keeps.{Closed, KeepsTurn, turn_keeps, run_keeps, start_keeps}
use Rattle.rules.proofs.Lengths.{solve_spans}
use Rattle.rules.proofs.Due.{due_may_go}

-- the two ways agree on R: in the rows of its nodes, and in what an entry gets that leads to one of them
pub record Agree (R : ℕ → Type 0) (a b : Way) : Type 0 where
  pub rows : (v : ℕ) → R v → a.row v ≡ b.row v
  pub shares : (rest degree : Float) (x : Entry) → R x.node → a.share rest degree x ≡ b.share rest degree x

-- ---- one turn of a node of R

module _ (R : ℕ → Type 0) (a b : Way) (g : Agree R a b) where
  -- an offer
  offer_same : (v : ℕ) (s : State) → R v → offer a v s ≡ offer b v s
  unfolding offer degree_of
  offer_same v s r = rw (g.rows v r)

  -- an entry's share
  pass_same : (rest degree : Float) (x : Entry) (s : State) → R x.node → pass a rest degree x s ≡ pass b rest degree x s
  unfolding pass
  pass_same rest degree x s r = rw (g.shares rest degree x r) (offer_same x.node _ r)

  -- what is handed out
  hand_out_same : Closed R a → (rest : Float) (v : ℕ) (s : State) → R v → hand_out a rest v s ≡ hand_out b rest v s
  unfolding hand_out degree_of
  hand_out_same c rest v s r =
      rw (
        ← (g.rows v r),
        each_same (pass a rest (degree_of a v)) (pass b rest (degree_of a v)) (a.row v) s (λ x m t. pass_same rest _ x t (c v r x m)),
        offer_same v (gain rest v s) r,
      )

  -- a push
  push_same : Closed R a → (alpha : Float) (v : ℕ) (s : State) → R v → push a alpha v s ≡ push b alpha v s
  unfolding push
  push_same c alpha v s r = rw (hand_out_same c _ v (absorb alpha v s) r)

  -- a turn
  turn_same : Closed R a → (settings : Settings) (v : ℕ) (s : State) → R v → turn a settings v s ≡ turn b settings v s
  unfolding turn visit skips degree_of
  turn_same c settings v s r = rw (push_same c settings.alpha v (queued (set s.slots v out) s) r, g.rows v r)

-- ---- what stays on R

-- off R a list of numbers has only +0
abbrev Off : (ℕ → Type 0) → List Float → Type 0
Off R xs = (v : ℕ) → ¬ R v → get_or xs v +0 ≡ +0

-- only nodes of R wait, and only there anything was added
record On (R : ℕ → Type 0) (s : State) : Type 0 where
  waiters : (v : ℕ) (p : Float) → get_or s.slots v out ≡ waits p → R v
  estimates : Off R s.estimate
  residuals : Off R s.residual

module _ (R : ℕ → Type 0) where
  -- a store at a node of R changes nothing off R
  set_off : (xs : List Float) (u : ℕ) (x : Float) → R u → Off R xs → Off R (set xs u x)
  set_off xs u x r h v off = get_or-set_other xs u v x +0 (λ e. off (subst R (sym e) r)) ∙ h v off

  -- and lets only nodes of R wait
  set_waiters : (slots : List Slot) (u : ℕ) (w : Slot) → R u → ((v : ℕ) (p : Float) → get_or slots v out ≡ waits p → R v) → (v : ℕ) (p : Float)
      → get_or (set slots u w) v out ≡ waits p → R v
  set_waiters slots u w r h v p e =
      elim (ℕ_discrete v u) [
        | yes q ↦ subst R (sym q) r
        | no q ↦ h v p (sym (get_or-set_other slots u v w out q) ∙ e)
      ]

  -- the moves stay on R
  on_turn : KeepsTurn R (On R)
  unfolding queued gain absorb counted
  on_turn =
      record {
        in_push =
            record {
              on_queued = λ w v s r h. record { waiters = set_waiters s.slots v w r h.waiters; estimates = h.estimates; residuals = h.residuals };
              on_gain = λ x v s r h. record { waiters = h.waiters; estimates = h.estimates; residuals = set_off s.residual v _ r h.residuals };
              on_absorb = λ a v s r h. record { waiters = h.waiters; estimates = set_off s.estimate v _ r h.estimates; residuals = set_off s.residual v _ r h.residuals };
            };
        on_counted = λ settings v s r h. record { waiters = h.waiters; estimates = h.estimates; residuals = h.residuals };
      }

  -- the blank state is on R
  blank_on : (n : ℕ) (threshold : Float) → On R (blank n threshold)
  unfolding blank
  blank_on n threshold =
      record { waiters = λ v p e. out_waits _ p (all_alike n v out) e; estimates = λ v off. all_alike n v +0; residuals = λ v off. all_alike n v +0 }

-- ---- a solve

module _ (R : ℕ → Type 0) (a : Way) (c : Closed R a) (settings : Settings) (watch : Watch) (n : ℕ) (sources : List ℕ) (r : (v : ℕ) → Memᴰ v (begun n watch sources) → R v) where
  -- it is only ever the turn of nodes of R
  picked : (s : State) → On R s → (v : ℕ) (p : Float) → due settings watch s ≡ best v p → R v
  picked s h v p e = h.waiters v p (due_may_go settings watch s v p e).slot

  -- the start is on R
  start_on : On R (start a settings watch n sources)
  start_on = start_keeps a R (On R) (on_turn R).in_push settings watch n sources r (blank_on R n _)

  -- and so is the end
  solve_on : On R (solve a settings watch n sources)
  unfolding solve
  solve_on = run_keeps a settings watch R (On R) (on_turn R) c picked (enough settings n) _ start_on

  -- a node that is not of R is untouched
  pub solve_off : (v : ℕ) → v < n → ¬ R v → Untouched (solve a settings watch n sources) v
  solve_off v l off =
      let s = solve a settings watch n sources in
      let z = solve_spans a settings watch n sources in
      record {
        score = other_default s.estimate v nan +0 (rw z.estimate_long l) ∙ solve_on.estimates v off;
        remainder = other_default s.residual v nan +0 (rw z.residual_long l) ∙ solve_on.residuals v off;
      }

  module _ (b : Way) (g : Agree R a b) where
    -- runs from one state go alike
    run_same : (turns : ℕ) (s : State) → On R s → run a settings watch turns s ≡ run b settings watch turns s
    unfolding run
    run_same zero s h = refl
    run_same (suc turns) s h =
        onward_both (λ (t u : State). t ≡ u) (due settings watch s) s s _ _ (λ e. refl)
        (λ v p e. let q = picked s h v p e in
        run_same turns (turn a settings v s) (turn_keeps a settings watch R (On R) (on_turn R) c v s q h)
        ∙ ap (run b settings watch turns) (turn_same R a b g c settings v s q))

    -- a way that agrees on R ends in the same state
    pub solve_same : solve a settings watch n sources ≡ solve b settings watch n sources
    unfolding solve start
    solve_same =
        run_same (enough settings n) _ start_on
        ∙ ap (run b settings watch (enough settings n)) (each_same _ _ (begun n watch sources) _ (λ v m s. offer_same R a b g v s (r v m)))
