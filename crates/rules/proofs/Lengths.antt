-- The lists of a state keep a place for each node, from the start of a solve to its end. Assumes nothing.
use Prim.Native.Nat.{ℕ}
use native.Mathlib.Omega.{arith}
use mathlib.Core.Bool.{true}
use mathlib.Core.Path.{◌≡◌}
use mathlib.Core.List.{List}
use lib.ListN.{length, length-set, length-replicate}
use lib.Ieee.{Float}
use Rattle.numbers.specs.Numbers.{◌⊕◌}
use Rattle.refusals.specs.declared.Settings.{Settings}
use Rattle.rules.specs.Ways.{Way}
use Rattle.rules.specs.Rules.{at, State, Watch, blank, queued, gain, absorb, counted, start, enough, solve}
use Rattle.rules.proofs.Keeps.{KeepsTurn, start_keeps, run_keeps}

-- any node
abbrev pub Any : ℕ → Type 0
Any v = Unit {0}

-- each list has n places
pub record Spans (n : ℕ) (s : State) : Type 0 where
  pub estimate_long : length s.estimate ≡ n
  pub residual_long : length s.residual ≡ n
  pub slots_long : length s.slots ≡ n
  pub visited_long : length s.visited ≡ n

-- the moves keep the lengths
pub spans : (n : ℕ) → KeepsTurn Any (Spans n)
unfolding queued gain absorb counted
spans n =
    record {
      in_push =
          record {
            on_queued = λ slot v s r h. omega (arith, length-set s.slots v slot);
            on_gain = λ x v s r h. omega (arith, length-set s.residual v (at s.residual v ⊕ x));
            on_absorb =
                λ alpha v s r h. record {
                  estimate_long = simp length-set h.estimate_long;
                  residual_long = simp length-set h.residual_long;
                  slots_long = h.slots_long;
                  visited_long = h.visited_long;
                };
          };
      on_counted = λ settings v s r h. omega (arith, length-set s.visited v true);
    }

-- the blank state has them
pub blank_spans : (n : ℕ) (threshold : Float) → Spans n (blank n threshold)
unfolding blank
blank_spans n threshold =
    record { estimate_long = length-replicate n _; residual_long = length-replicate n _; slots_long = length-replicate n _; visited_long = length-replicate n _ }

module _ (way : Way) (settings : Settings) (watch : Watch) (n : ℕ) (sources : List ℕ) where
  -- and so the start
  pub start_spans : Spans n (start way settings watch n sources)
  start_spans = start_keeps way Any (Spans n) (spans n).in_push settings watch n sources (λ v m. tt) (blank_spans n _)

  -- and the end
  pub solve_spans : Spans n (solve way settings watch n sources)
  unfolding solve
  solve_spans = run_keeps way settings watch Any (Spans n) (spans n) (λ v r x m. tt) (λ s h v p e. tt) (enough settings n) _ start_spans
