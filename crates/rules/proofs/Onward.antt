-- What holds of `onward`, which goes on where it is somebody's turn. Assumes nothing.
use Prim.Native.Nat.{ℕ}
use mathlib.Core.Path.{◌≡◌, refl}
use lib.Ieee.{Float}
use Rattle.queue.specs.Waiting.{Best, nobody, best}
use Rattle.rules.specs.Rules.{onward}

-- what follows, by whose turn it is
pub onward_by : {A : Type 0} (P : A → Type 0) (b : Best) (end : A) (after : ℕ → A) → (b ≡ nobody → P end) → ((v : ℕ) (p : Float) → b ≡ best v p → P (after v)) → P (onward b end after)
unfolding onward
onward_by P nobody end after h k = h refl
onward_by P (best v p) end after h k = k v p refl

-- two that go on side by side
pub onward_both : {A B : Type 0} (Q : A → B → Type 0) (b : Best) (end : A) (other_end : B) (after : ℕ → A) (other : ℕ → B) → (b ≡ nobody → Q end other_end)
    → ((v : ℕ) (p : Float) → b ≡ best v p → Q (after v) (other v)) → Q (onward b end after) (onward b other_end other)
unfolding onward
onward_both Q nobody end other_end after other h k = h refl
onward_both Q (best v p) end other_end after other h k = k v p refl
