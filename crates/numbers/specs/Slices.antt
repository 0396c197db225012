-- That a slice in a lent struct is still the same one. Assumes nothing.
use Rattle.std.specs.Prelude.{List, ◌≡◌, length}
use Rattle.std.specs.Borrow.{MutBor}

-- a field that is a slice still is the same one, of the same length
abbrev pub SameSlice : {A : Type 0} → MutBor (List A) → MutBor (List A) → Type 0
SameSlice s s' = (s'.ghost_name ≡ s.ghost_name) × (length s'.now ≡ length s.now)
