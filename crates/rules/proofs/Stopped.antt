-- The statement for the stop. Whoever is out of the queue has no push due: it was skipped or pushed, and had less than epsilon × e left, or it was offered
-- after its last gain, and turned down by a threshold that never changes. A solve that watches nobody and stops with a push left stops because nobody waits.
-- Assumes nothing.
use Prim.Native.Nat.{ℕ, zero, suc, ◌<◌}
use native.Mathlib.Decide.{ℕ_discrete}
use mathlib.Core.Bool.{Bool, true, false}
use mathlib.Core.Logic.{◌≢◌}
use mathlib.Core.Path.{◌≡◌, refl, sym, ◌∙◌}
use mathlib.Core.List.{List, [], ◌∷◌, Memᴰ}
use borrow.Author.Tests.{lt-ltb}
use lib.Dec.{T}
use lib.ListN.{get_or, set, get_or-replicate}
use lib.Seq.{get_or-set_same, get_or-set_other}
use lib.Ieee.{Float, nan, binary64, of_bits, is_nan, lt, le}
use lib.Ieee.Bits.{of_bits-fits}
use Rattle.numbers.specs.Numbers.{f64, +0, one, ◌⊗◌, ◌⊘◌}
use Rattle.numbers.specs.Choice.{if◌then◌otherwise◌}
use Rattle.numbers.proofs.Choice.{decided, either}
use Rattle.numbers.proofs.Tests.{of_true, to_true, same_test, fails_right}
use Rattle.numbers.proofs.Order.{lt-le, lt_not_le, le_transitive, le_reflexive}
use Rattle.numbers.proofs.Above.{product_above}
use Rattle.refusals.specs.declared.Settings.{Settings}
use Rattle.graph.specs.Rows.{Entry}
use Rattle.queue.specs.Waiting.{Slot, out, waits, below_threshold, reached, answer, answered, offered}
use Rattle.rules.specs.Ways.{Way, effective, effective_of}
use Rattle.rules.specs.Rules.{at, each, State, Watch, unwatched, blank, queued, gain, absorb, threshold_after, counted, offer, pass, hand_out, push, stops, goes_on, due, skips, visit, turn, run, begun, start, enough, solve}
use Rattle.rules.specs.StillDue.{still_due, NothingDue, Steady}
use Rattle.rules.proofs.Slots.{out_waits}
use Rattle.rules.proofs.Each.{each_keeps}
use Rattle.rules.proofs.Onward.{onward_by}
use Rattle.rules.proofs.Lengths.{Spans, spans, blank_spans}
use Rattle.rules.proofs.Due.{nobody_waits}
use Rattle.rules.proofs.Ends.{solve_ends}

-- e is at least 1
effective_least : (degree : Float) → T (le one (effective degree))
unfolding effective is_nan of_bits
effective_least degree = decided (λ e. T (le one e)) _ (λ t. lt-le one degree (of_true t)) (λ t. le_reflexive one refl)

-- An epsilon that is read from 64 bits, as every f64 is, is a binary64.
pub steady_by_bits : (settings : Settings) (bits : ℕ) → settings.epsilon ≡ f64 bits → lt +0 settings.epsilon ≡ true → settings.adaptive_threshold ≡ false → Steady settings
steady_by_bits settings bits e above same = record { binary = to_true _ (rw e (of_bits-fits binary64 bits)); above = above; adapts_not = same }

module _ (way : Way) (settings : Settings) (steady : Steady settings) (n : ℕ) where
  -- ---- nodes with no push due

  -- one that has less than epsilon × e
  low_not_due : (residual : List Float) (v : ℕ) → (T (le (settings.epsilon ⊗ effective_of way v) (at residual v)) → ⊥) → still_due way settings residual v ≡ false
  unfolding still_due
  low_not_due residual v low = rw (same_test (le (settings.epsilon ⊗ effective_of way v) (at residual v)) false low (λ z. absurd z))

  -- one that has nothing
  nothing_not_due : (residual : List Float) (v : ℕ) → T (le (at residual v) +0) → still_due way settings residual v ≡ false
  nothing_not_due residual v z =
      low_not_due residual v
      (λ b. product_above settings.epsilon (effective_of way v) (of_true steady.binary) (of_true steady.above) (effective_least _) (le_transitive _ _ _ b z))

  -- one that has exactly +0
  zero_not_due : (residual : List Float) (v : ℕ) → at residual v ≡ +0 → still_due way settings residual v ≡ false
  unfolding is_nan of_bits
  zero_not_due residual v e = nothing_not_due residual v (rw e (le_reflexive +0 refl))

  -- one that the threshold turns down
  weak_not_due : (residual : List Float) (v : ℕ) → le settings.queue_threshold (at residual v ⊘ effective_of way v) ≡ false → still_due way settings residual v ≡ false
  unfolding still_due
  weak_not_due residual v = fails_right (le (settings.epsilon ⊗ effective_of way v) (at residual v)) _

  -- ---- what is kept

  -- but for some nodes, which have gained or left the queue and are yet to be offered or pushed, whoever is out of the queue has no push due
  record Calm (but : List ℕ) (s : State) : Type 0 where
    long : Spans n s
    threshold_is : s.threshold ≡ settings.queue_threshold
    calm : (v : ℕ) → v < n → ¬ Memᴰ v but → get_or s.slots v out ≡ out → still_due way settings s.residual v ≡ false

  -- more may be excepted
  wider : (u : ℕ) {but : List ℕ} {s : State} → Calm but s → Calm (u ∷ but) s
  wider u h = record { long = h.long; threshold_is = h.threshold_is; calm = λ v l off. h.calm v l (λ m. off (Memᴰ.tail m)) }

  -- two states are the same but for u
  record Apart (u : ℕ) (s t : State) : Type 0 where
    thresholds : t.threshold ≡ s.threshold
    slots_same : (v : ℕ) → v ≢ u → get_or t.slots v out ≡ get_or s.slots v out
    residual_same : (v : ℕ) → v ≢ u → at t.residual v ≡ at s.residual v

  -- a move at u, after which u is excepted no more unless it still is one of the others
  moved : (but : List ℕ) (u : ℕ) (s t : State) → Spans n t → Apart u s t
      → (¬ Memᴰ u but → u < n → get_or t.slots u out ≡ out → still_due way settings t.residual u ≡ false) → Calm (u ∷ but) s → Calm but t
  unfolding still_due
  moved but u s t long a own h =
      record {
        long = long;
        threshold_is = a.thresholds ∙ h.threshold_is;
        calm = λ v l off o.
            elim (ℕ_discrete v u) [
              | yes e ↦ rw e (own (rw e at off) (rw e at l) (rw e at o))
              | no e ↦ rw (a.residual_same v e) (h.calm v l (neither v e off) (sym (a.slots_same v e) ∙ o))
            ];
      }
    where
      neither : (v : ℕ) → v ≢ u → ¬ Memᴰ v but → ¬ Memᴰ v (u ∷ but)
      neither v e off (Memᴰ.head f) = e f
      neither v e off (Memᴰ.tail m) = off m

  -- where nothing moves
  stays : (but : List ℕ) (u : ℕ) (s : State) → (u < n → get_or s.slots u out ≡ out → still_due way settings s.residual u ≡ false) → Calm (u ∷ but) s → Calm but s
  stays but u s own h = moved but u s s h.long (record { thresholds = refl; slots_same = λ v e. refl; residual_same = λ v e. refl }) (λ off. own) h

  -- ---- the moves

  -- a gain of one that is excepted
  gain_calm : (but : List ℕ) (x : Float) (u : ℕ) (s : State) → Memᴰ u but → Calm but s → Calm but (gain x u s)
  unfolding gain
  gain_calm but x u s m h =
      moved but u s _ ((spans n).in_push.on_gain x u s tt h.long)
      (record { thresholds = refl; slots_same = λ v e. refl; residual_same = λ v e. get_or-set_other s.residual u v _ nan e })
      (λ off. absurd (off m)) (wider u h)

  -- one leaves the queue, and is excepted
  leave_calm : (u : ℕ) (s : State) → Calm [] s → Calm (u ∷ []) (queued (set s.slots u out) s)
  unfolding queued
  leave_calm u s h =
      moved (u ∷ []) u s _ ((spans n).in_push.on_queued out u s tt h.long)
      (record { thresholds = refl; slots_same = λ v e. get_or-set_other s.slots u v _ out e; residual_same = λ v e. refl })
      (λ off. absurd (off (Memᴰ.head refl))) (wider u (wider u h))

  -- one that absorbs its residual is excepted no more
  absorb_calm : (alpha : Float) (u : ℕ) (s : State) → Calm (u ∷ []) s → Calm [] (absorb alpha u s)
  unfolding absorb
  absorb_calm alpha u s h =
      moved [] u s _ ((spans n).in_push.on_absorb alpha u s tt h.long)
      (record { thresholds = refl; slots_same = λ v e. refl; residual_same = λ v e. get_or-set_other s.residual u v _ nan e })
      (λ off l o. zero_not_due _ u (get_or-set_same s.residual u +0 nan (rw h.long.residual_long l))) h

  -- nor is one that is offered: it waits, or the threshold turns it down
  offer_calm : (but : List ℕ) (u : ℕ) (s : State) → Calm (u ∷ but) s → Calm but (offer way u s)
  unfolding offer offered answer queued if◌then◌otherwise◌
  offer_calm but u s h = by (le s.threshold priority) refl (get_or s.slots u out) refl
    where
      priority : Float
      priority = at s.residual u ⊘ effective_of way u

      by : (b : Bool) → le s.threshold priority ≡ b → (slot : Slot) → get_or s.slots u out ≡ slot
          → Calm but (queued (answered (if b then reached slot otherwise below_threshold) u priority s.slots) s)
      by true e out f =
          moved but u s _ ((spans n).in_push.on_queued (waits priority) u s tt h.long)
          (record { thresholds = refl; slots_same = λ v d. get_or-set_other s.slots u v _ out d; residual_same = λ v d. refl })
          (λ off l o. out_waits _ priority o (get_or-set_same s.slots u _ out (rw h.long.slots_long l))) h
      by true e (waits q) f = stays but u s (λ l o. out_waits _ q o f) h
      by false e slot f = stays but u s (λ l o. weak_not_due _ u (rw (← h.threshold_is) e)) h

  -- ---- a push

  -- an entry's share
  pass_calm : (rest degree : Float) (x : Entry) (s : State) → Calm [] s → Calm [] (pass way rest degree x s)
  unfolding pass
  pass_calm rest degree x s h = offer_calm [] x.node _ (gain_calm _ _ x.node s (Memᴰ.head refl) (wider x.node h))

  -- what is handed out
  hand_calm : (rest : Float) (v : ℕ) (s : State) → Calm [] s → Calm [] (hand_out way rest v s)
  unfolding hand_out
  hand_calm rest v s h =
      either (Calm []) _ (each_keeps (Calm []) _ (way.row v) s (λ x m. pass_calm rest _ x) h) (offer_calm [] v _ (gain_calm _ rest v s (Memᴰ.head refl) (wider v h)))

  -- a push of one that has left the queue
  push_calm : (alpha : Float) (v : ℕ) (s : State) → Calm (v ∷ []) s → Calm [] (push way alpha v s)
  unfolding push
  push_calm alpha v s h =
      decided (Calm []) _ (λ t. stays [] v s (λ l o. nothing_not_due _ v (of_true t)) h) (λ t. hand_calm _ v _ (absorb_calm alpha v s h))

  -- ---- a run

  counted_calm : (v : ℕ) (s : State) → Calm [] s → Calm [] (counted settings v s)
  unfolding counted threshold_after if◌then◌otherwise◌
  counted_calm v s h =
      record { long = (spans n).on_counted settings v s tt h.long; threshold_is = rw steady.adapts_not h.threshold_is; calm = h.calm }

  turn_calm : (v : ℕ) (s : State) → Calm [] s → Calm [] (turn way settings v s)
  unfolding turn visit skips
  turn_calm v s h =
      let o = leave_calm v s h in
      decided (Calm []) _ (λ t. stays [] v _ (λ l e. low_not_due _ v (lt_not_le _ _ (of_true t))) o) (λ t. counted_calm v _ (push_calm settings.alpha v _ o))

  run_calm : (watch : Watch) (turns : ℕ) (s : State) → Calm [] s → Calm [] (run way settings watch turns s)
  unfolding run
  run_calm watch zero s h = h
  run_calm watch (suc turns) s h = onward_by (Calm []) (due settings watch s) s _ (λ e. h) (λ v p e. run_calm watch turns _ (turn_calm v s h))

  -- ---- the start

  -- whatever is excepted
  blank_calm : (but : List ℕ) → Calm but (blank n settings.queue_threshold)
  unfolding blank
  blank_calm but = record { long = blank_spans n _; threshold_is = refl; calm = λ v l off o. zero_not_due _ v (get_or-replicate n v +0 nan l) }

  -- each of a list is offered, and excepted no more
  offers_calm : (us : List ℕ) (s : State) → Calm us s → Calm [] (each (offer way) us s)
  unfolding each
  offers_calm [] s h = h
  offers_calm (u ∷ us) s h = offers_calm us _ (offer_calm us u s h)

  -- all gains come before the offers
  start_calm : (watch : Watch) (sources : List ℕ) → Calm [] (start way settings watch n sources)
  unfolding start
  start_calm watch sources =
      let us = begun n watch sources in
      offers_calm us _ (each_keeps (Calm us) _ us _ (λ u m s. gain_calm us _ u s m) (blank_calm us))

  -- ---- a solve

  -- A solve that watches nobody, and stops with a push left, leaves nothing due.
  pub nothing_due : (sources : List ℕ) → (solve way settings unwatched n sources).pushes < settings.max_pushes
      → NothingDue way settings n (solve way settings unwatched n sources).residual
  unfolding solve due goes_on stops if◌then◌otherwise◌
  nothing_due sources left v l =
      let s = solve way settings unwatched n sources in
      let e = solve_ends way settings unwatched n sources in
      (run_calm unwatched (enough settings n) _ (start_calm unwatched sources)).calm v l (λ m. elim m [ ]) (nobody_waits s.slots (rw (lt-ltb _ _ left) at e) v)
