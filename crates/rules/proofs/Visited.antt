-- The counts of a solve: the push count is the number of its pushes, and the visited count that of the distinct nodes which they push. Assumes nothing.
use Prim.Native.Nat.{ℕ, zero, suc, ◌+◌, ◌<◌}
use native.Mathlib.Omega.{arith}
use native.Mathlib.Decide.{ℕ_discrete}
use mathlib.Core.Bool.{Bool, true, false, ◌||◌, false≢true, or-true, or-false, or_assoc}
use mathlib.Core.Path.{◌≡◌, refl, sym, ap, ◌∙◌, subst}
use mathlib.Core.List.{List, [], ◌∷◌}
use borrow.Author.Tests.{eqb-true, eq-eqb, ne_eqb}
use lib.ListN.{length, get_or, set}
use lib.Seq.{get_or-set_same, get_or-set_other}
use lib.Dec.{eqb}
use Rattle.numbers.specs.Choice.{if◌then◌otherwise◌}
use Rattle.numbers.specs.Tables.{any}
use Rattle.refusals.specs.declared.Settings.{Settings}
use Rattle.marks.proofs.HowMany.{how_many_same}
use Rattle.queue.specs.Waiting.{out}
use Rattle.rules.specs.Ways.{Way}
use Rattle.rules.specs.Rules.{State, Watch, blank, queued, counted, push, due, skips, visit, turn, run, start, enough, solve}
use Rattle.rules.specs.Answers.{visited_count}
use Rattle.rules.specs.Pushed.{pushed, distinct}
use Rattle.rules.proofs.Onward.{onward_both}
use Rattle.rules.proofs.Keeps.{turn_keeps}
use Rattle.rules.proofs.Lengths.{Any, Spans, spans, start_spans, solve_spans}
use Rattle.rules.proofs.Uncounted.{Uncounted, push_uncounted, start_uncounted}
use Rattle.rules.proofs.Due.{due_inside}
use Rattle.rules.proofs.Distinct.{distinct_count}
use Rattle.rules.proofs.Lists.{all_alike}

-- from s to t the nodes of the log were pushed
record Logged (n : ℕ) (s t : State) (log : List ℕ) : Type 0 where
  count : t.pushes ≡ s.pushes + length log
  below : (v : ℕ) → any (eqb v) log ≡ true → v < n
  marks : (v : ℕ) → get_or t.visited v false ≡ (get_or s.visited v false || any (eqb v) log)

-- a mark more
marked_more : (marks : List Bool) (v : ℕ) → v < length marks → (u : ℕ) → get_or (set marks v true) u false ≡ (get_or marks u false || eqb u v)
marked_more marks v h u = by (ℕ_discrete u v)
  where
    by : Dec (u ≡ v) → get_or (set marks v true) u false ≡ (get_or marks u false || eqb u v)
    by (yes q) = rw (eq-eqb u v q, or-true, q) (get_or-set_same marks v true false h)
    by (no q) = rw (ne_eqb u v q, or-false) (get_or-set_other marks v u true false q)

-- nothing was pushed
logged_none : (n : ℕ) (s : State) → Logged n s s []
unfolding any
logged_none n s = record { count = omega arith; below = λ v e. absurd (false≢true e); marks = λ v. sym (or-false _) }

-- a push that is counted, and what was pushed after it
logged_push : (n : ℕ) (settings : Settings) (v : ℕ) (s u t : State) (log : List ℕ) → v < n → length s.visited ≡ n → Uncounted s u → Logged n (counted settings v u) t log
    → Logged n s t (v ∷ log)
unfolding counted any
logged_push n settings v s u t log l z c h =
    record {
      count = omega (arith, h.count, c.pushes);
      below = λ w e. below w (eqb w v) refl e;
      marks = λ w. h.marks w ∙ rw (c.visited, marked_more s.visited v (rw z l) w) (or_assoc (get_or s.visited w false) (eqb w v) (any (eqb w) log));
    }
  where
    below : (w : ℕ) (b : Bool) → eqb w v ≡ b → (b || any (eqb w) log) ≡ true → w < n
    below w true q e = rw (eqb-true w v q) l
    below w false q e = h.below w e

module _ (way : Way) (settings : Settings) (watch : Watch) (n : ℕ) where
  -- one turn, and what was pushed after it
  logged_turn : (v : ℕ) (s t : State) (log : List ℕ) → v < n → length s.visited ≡ n → Logged n (turn way settings v s) t log
      → Logged n s t (if skips way settings v s then log otherwise v ∷ log)
  unfolding turn visit skips queued if◌then◌otherwise◌
  logged_turn v s t log l z = by (skips way settings v s)
    where
      by : (b : Bool) → Logged n (if b then queued (set s.slots v out) s otherwise counted settings v (push way settings.alpha v (queued (set s.slots v out) s))) t log
          → Logged n s t (if b then log otherwise v ∷ log)
      by true h = record { count = h.count; below = h.below; marks = h.marks }
      by false h = logged_push n settings v s _ t log l z (push_uncounted way settings.alpha v s) h

  -- a run
  run_logged : (turns : ℕ) (s : State) → Spans n s → Logged n s (run way settings watch turns s) (pushed way settings watch turns s)
  unfolding run pushed
  run_logged zero s z = logged_none n s
  run_logged (suc turns) s z =
      onward_both (Logged n s) (due settings watch s) s [] _ _ (λ e. logged_none n s)
      (λ v p e. logged_turn v s _ _ (subst (λ (k : ℕ). v < k) z.slots_long (due_inside settings watch s v p e)) z.visited_long
      (run_logged turns (turn way settings v s) (turn_keeps way settings watch Any (Spans n) (spans n) (λ u r x m. tt) v s tt z)))

  module _ (sources : List ℕ) where
    -- the nodes that a solve pushes
    abbrev solve_pushed : List ℕ
    solve_pushed = pushed way settings watch (enough settings n) (start way settings watch n sources)

    -- all of a solve
    solve_logged : Logged n (start way settings watch n sources) (solve way settings watch n sources) solve_pushed
    unfolding solve
    solve_logged = run_logged (enough settings n) _ (start_spans way settings watch n sources)

    -- The push count is the number of pushes.
    pub pushes_are : (solve way settings watch n sources).pushes ≡ length solve_pushed
    unfolding blank
    pushes_are = omega (arith, solve_logged.count, (start_uncounted way settings watch n sources).pushes)

    -- The visited count is the number of distinct pushed nodes.
    pub visited_are : visited_count (solve way settings watch n sources) ≡ length (distinct solve_pushed)
    unfolding visited_count blank
    visited_are =
        rw (solve_spans way settings watch n sources).visited_long
        (how_many_same n _ _ (λ v l. solve_logged.marks v ∙ ap (λ (b : Bool). b || any (eqb v) solve_pushed) (unmarked v)) ∙ distinct_count n solve_pushed solve_logged.below)
      where
        unmarked : (v : ℕ) → get_or (start way settings watch n sources).visited v false ≡ false
        unmarked v = rw (start_uncounted way settings watch n sources).visited (all_alike n v false)
