-- The refusals by name, and the number that the answer of a call or of a test stands for. Assumes nothing.
use Rattle.std.specs.Prelude.{ℕ, Result, Ok, Err}
use Rattle.refusals.specs.declared.refusal.Refusal.{Refusal}
use Rattle.refusals.specs.declared.refusal.Refusal.TheVariants.{TooManyNodes, TooManyLinks, WrongLength, UnsoundRows, UnsoundWeight, UnsoundSettings, UnsoundPrecision, UnsoundJob, Other}

-- each refusal's number in the table, or its own
unfoldable pub number_of : Refusal → ℕ
number_of TooManyNodes = 1
number_of TooManyLinks = 2
number_of WrongLength = 3
number_of UnsoundRows = 4
number_of UnsoundWeight = 5
number_of UnsoundSettings = 6
number_of UnsoundPrecision = 7
number_of UnsoundJob = 8
number_of (Other own) = own.number

-- 0 where an answer is no refusal
abbrev pub number_in : {A : Type 0} → Result A Refusal → ℕ
number_in (Ok a) = 0
number_in (Err refusal) = number_of refusal
