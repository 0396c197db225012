-- A job has one outcome: for the same bytes and the same buffer, two texts that the promise allows are equal, and so are two
-- lengths and two buffers. Assumes nothing.
use Prim.Native.Nat.{ℕ, zero, suc, ◌+◌}
use mathlib.Core.List.{List, ◌++◌}
use mathlib.Core.Path.{◌≡◌, refl, sym, ap, ◌∙◌}
use lib.ListN.{length, take, drop}
use lib.Ieee.{Float}
use Rattle.numbers.specs.Numbers.{+0}
use Rattle.norm.specs.Norm.{Norm, add_squares}
use Rattle.norm.proofs.Unique.{unique}
use Rattle.job_text.proofs.Growing.{grown_is}
use Rattle.job_answer.specs.Printed.{Job, end, refused_or, done_text, prints, Writes}

-- by the first number
one_by_number : (number : ℕ) (j : Job) (p q : Float) → (number ≡ 0 → Norm (end j).residual p) → (number ≡ 0 → Norm (end j).residual q)
    → refused_or number (done_text (end j) p) ≡ refused_or number (done_text (end j) q)
unfolding refused_or
one_by_number zero j p q hp hq = ap (done_text (end j)) (unique (add_squares +0 (end j).residual) p q (hp refl) (hq refl))
one_by_number (suc k) j p q hp hq = refl

pub one_text : (bytes : List ℕ) (x y : List ℕ) → prints bytes x → prints bytes y → x ≡ y
one_text bytes x y p q = p.is_text ∙ one_by_number _ _ p.norm q.norm p.is_norm q.is_norm ∙ sym q.is_text

-- what `job_answer::run` answers, and what it leaves in the buffer
pub one_run : (bytes text : List ℕ) {r r' : ℕ} {a b : List ℕ} → Writes (prints bytes) text r a → Writes (prints bytes) text r' b → (r ≡ r') × (a ≡ b)
one_run bytes text w x =
    let e = one_text bytes w.part x.part w.printed x.printed in
    (w.grown.next ∙ ap (λ (p : List ℕ). 0 + length p) e ∙ sym x.grown.next, grown_is w.grown ∙ ap (λ (p : List ℕ). take 0 text ++ p ++ drop (0 + length p) text) e ∙ sym (grown_is x.grown))
