-- Inner: no public promise cites it.
-- How a text in a lent buffer grows. Assumes nothing.
use Rattle.std.specs.Prelude.{ℕ, ◌+◌, ◌≤◌, List, ◌≡◌, length}
use Rattle.job_text.specs.Text.{Grown}
use Rattle.job_text.specs.declared.Text.{Text}

-- so many bytes fit behind the text
abbrev pub HasRoom : ℕ → Text → Type 0
HasRoom n t = t.end + n ≤ length t.bytes.now

-- a part was put behind the text, in the same buffer
pub record GrownBy (part : List ℕ) (t t' : Text) : Type 0 where
  pub same : t'.bytes.ghost_name ≡ t.bytes.ghost_name
  pub grown : Grown t.end part t.bytes.now t'.end t'.bytes.now

-- the text grew by so many bytes at most
abbrev pub Near : ℕ → Text → Text → Type 0
Near n t t' = t'.end ≤ t.end + n
