-- How a solve starts: one source has residual 1, and a solve that begins nowhere ends with +0 vectors and counts of 0. Assumes nothing.
use Prim.Native.Nat.{ℕ, ◌<◌}
use mathlib.Core.Bool.{true}
use mathlib.Core.Path.{◌≡◌, refl}
use mathlib.Core.List.{List, [], ◌∷◌}
use borrow.Author.Tests.{lt-ltb}
use lib.ListN.{set, replicate, get_or-replicate}
use lib.IntN.{pos}
use lib.Ieee.{nan, binary64, of_bits, of_int, add, div}
use Rattle.numbers.specs.Numbers.{+0, one, ◌⊕◌, ◌⊘◌}
use Rattle.numbers.specs.Choice.{if◌then◌otherwise◌}
use Rattle.numbers.proofs.Choice.{either}
use Rattle.refusals.specs.declared.Settings.{Settings}
use Rattle.queue.specs.Waiting.{Best, nobody}
use Rattle.rules.proofs.Slots.{taken_none}
use Rattle.rules.specs.Ways.{Way}
use Rattle.rules.specs.Rules.{each, Watch, blank, queued, gain, offer, due, inside, watchable, begun, start, solve}
use Rattle.rules.proofs.Due.{next_none}
use Rattle.rules.proofs.Ends.{run_stays}

-- +0 and 1/1 are 1
whole : +0 ⊕ (one ⊘ of_int binary64 (pos 1)) ≡ one
unfolding of_bits of_int add div
whole = refl

module _ (way : Way) (settings : Settings) (watch : Watch) (n : ℕ) where
  -- one source has residual 1, and no other node has any, where the watched node, if there is one, is in range
  pub single_start : (v : ℕ) → v < n → watchable n watch ≡ true → (start way settings watch n (v ∷ [])).residual ≡ set (replicate n +0) v one
  unfolding start begun inside each offer queued gain blank if◌then◌otherwise◌
  single_start v h e = rw (e, lt-ltb v n h, get_or-replicate n v +0 nan h, whole)

  -- a solve that begins nowhere: its list is empty, or all of it is out of range, or the watched node is
  pub solve_nothing : (sources : List ℕ) → begun n watch sources ≡ [] → solve way settings watch n sources ≡ blank n settings.queue_threshold
  unfolding solve start each due blank
  solve_nothing sources e = rw e (run_stays way settings watch _ _ (either (λ (b : Best). b ≡ nobody) _ (next_none _ (taken_none n)) refl))
