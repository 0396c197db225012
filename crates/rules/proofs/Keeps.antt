-- What the rules keep: a property of states that each move at a node of R keeps is kept by every rule, where R is closed under the rows.
-- Assumes nothing.
use Prim.Native.Nat.{ℕ, zero, suc}
use mathlib.Core.Path.{◌≡◌}
use mathlib.Core.List.{List, Memᴰ}
use lib.ListN.{get_or, set}
use lib.Ieee.{Float}
use Rattle.numbers.specs.Numbers.{◌⊘◌}
use Rattle.numbers.proofs.Choice.{either}
use Rattle.refusals.specs.declared.Settings.{Settings}
use Rattle.graph.specs.Rows.{Entry}
use Rattle.queue.specs.Waiting.{Slot, out, waits, Answer, entered, below_threshold, already_in, answer, answered, offered, best}
use Rattle.rules.specs.Ways.{Way, effective_of}
use Rattle.rules.specs.Rules.{at, State, Watch, blank, queued, gain, absorb, counted, offer, pass, hand_out, push, due, visit, turn, run, begun, start}
use Rattle.rules.proofs.Each.{each_keeps}
use Rattle.rules.proofs.Onward.{onward_by}

-- R is closed under the rows: each entry of a row of one of its nodes leads to one of its nodes
abbrev pub Closed : (ℕ → Type 0) → Way → Type 0
Closed R way = (v : ℕ) → R v → (x : Entry) → Memᴰ x (way.row v) → R x.node

-- the moves of a push keep P at the nodes of R
pub record Keeps (R : ℕ → Type 0) (P : State → Type 0) : Type 0 where
  pub on_queued : (slot : Slot) (v : ℕ) (s : State) → R v → P s → P (queued (set s.slots v slot) s)
  pub on_gain : (x : Float) (v : ℕ) (s : State) → R v → P s → P (gain x v s)
  pub on_absorb : (alpha : Float) (v : ℕ) (s : State) → R v → P s → P (absorb alpha v s)

-- and so does its being counted
pub record KeepsTurn (R : ℕ → Type 0) (P : State → Type 0) : Type 0 where
  pub in_push : Keeps R P
  pub on_counted : (settings : Settings) (v : ℕ) (s : State) → R v → P s → P (counted settings v s)

module _ (way : Way) (R : ℕ → Type 0) (P : State → Type 0) (k : Keeps R P) where
  -- an offer, whatever the answer
  offer_keeps : (v : ℕ) (s : State) → R v → P s → P (offer way v s)
  unfolding offer offered queued
  offer_keeps v s r h =
      let p = at s.residual v ⊘ effective_of way v in
      by p (answer s.threshold p (get_or s.slots v out))
    where
      by : (p : Float) (a : Answer) → P (queued (answered a v p s.slots) s)
      by p entered = k.on_queued (waits p) v s r h
      by p below_threshold = h
      by p already_in = h

  -- an entry's share
  pass_keeps : (rest degree : Float) (x : Entry) (s : State) → R x.node → P s → P (pass way rest degree x s)
  unfolding pass
  pass_keeps rest degree x s r h = offer_keeps x.node _ r (k.on_gain _ x.node s r h)

  -- a push
  pub push_keeps : Closed R way → (alpha : Float) (v : ℕ) (s : State) → R v → P s → P (push way alpha v s)
  unfolding push hand_out
  push_keeps c alpha v s r h =
      let t = k.on_absorb alpha v s r h in
      either P _ h (either P _ (each_keeps P _ (way.row v) _ (λ x m s. pass_keeps _ _ x s (c v r x m)) t) (offer_keeps v _ r (k.on_gain _ v _ r t)))

  -- the start, where the blank state has P and the sources are of R
  pub start_keeps : (settings : Settings) (watch : Watch) (n : ℕ) (sources : List ℕ) → ((v : ℕ) → Memᴰ v (begun n watch sources) → R v)
      → P (blank n settings.queue_threshold) → P (start way settings watch n sources)
  unfolding start
  start_keeps settings watch n sources r h =
      each_keeps P _ (begun n watch sources) _ (λ v m s. offer_keeps v s (r v m)) (each_keeps P _ (begun n watch sources) _ (λ v m s. k.on_gain _ v s (r v m)) h)

module _ (way : Way) (settings : Settings) (watch : Watch) (R : ℕ → Type 0) (P : State → Type 0) (k : KeepsTurn R P) (c : Closed R way) where
  -- a turn of a node of R
  pub turn_keeps : (v : ℕ) (s : State) → R v → P s → P (turn way settings v s)
  unfolding turn visit
  turn_keeps v s r h =
      let t = k.in_push.on_queued out v s r h in
      either P _ t (k.on_counted settings v _ r (push_keeps way R P k.in_push c settings.alpha v _ r t))

  -- a run, where P says that it is only ever the turn of nodes of R
  module _ (picks : (s : State) → P s → (v : ℕ) (p : Float) → due settings watch s ≡ best v p → R v) where
    pub run_keeps : (turns : ℕ) (s : State) → P s → P (run way settings watch turns s)
    unfolding run
    run_keeps zero s h = h
    run_keeps (suc turns) s h =
        onward_by P (due settings watch s) s _ (λ e. h) (λ v p e. run_keeps turns (turn way settings v s) (turn_keeps v s (picks s h v p e) h))
