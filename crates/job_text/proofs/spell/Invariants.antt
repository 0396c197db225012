-- `job_text::spell` meets its contract. The invariant: the digits that are left, and behind them what is put already, are all digits. Assumes nothing.
use mathlib.Core.List.{◌++◌}
use mathlib.Core.Path.{◌≡◌}
use lib.ListN.{length, drop}
use Rattle.io.specs.Digits.{last_digits}
use Rattle.job_text.proofs.spell.Given as goal

abbrev pub invariant-loop-i : goal.invariant-loop-i
invariant-loop-i l = last_digits 16 (length l.initial.room) l.n ≡ last_digits 16 l.i l.rest ++ drop l.i l.room
