-- One of two by a test. It is unfoldable, where the library's `if` is an abbreviation: a call of it stays a call, so that laws apply to it.
use Rattle.std.specs.Prelude.{Bool, true, false}

infix 1 if◌then◌otherwise◌
unfoldable pub if◌then◌otherwise◌ : {A : Type 0} → Bool → A → A → A
if true then x otherwise y = x
if false then x otherwise y = y
