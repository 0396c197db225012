-- A text that grows by parts: no part, one part after another, and the whole buffer by the part. Assumes nothing.
use Prim.Native.Nat.{ℕ, ◌+◌, ◌≤◌}
use native.Mathlib.Nat.{add-zero, add_assoc}
use native.Mathlib.Omega.{arith}
use mathlib.Core.List.{List, [], ◌++◌, append_assoc, append-nil}
use mathlib.Core.Path.{◌≡◌, refl, sym, ap, subst, ◌∙◌}
use lib.ListN.{length, take, drop, take-append-drop, length-take, length-append}
use lib.Seq.{length-take-le, drop-drop}
use Rattle.io.specs.Counts.{IsPrefixLen}
use Rattle.job_text.specs.Text.{Grown}
use Rattle.job_text.specs.Growth.{GrownBy}
use Rattle.job_text.specs.declared.Text.{Text}

-- no part
pub grown_none : (at : ℕ) (text : List ℕ) → Grown at [] text at text
grown_none at text = record { next = sym (add-zero at); same_room = refl; holds = sym (append-nil (take at text)); behind = refl }

-- one part, and then another
pub grown_then : {at r r' : ℕ} {first second text text' text'' : List ℕ} → Grown at first text r text' → Grown r second text' r' text''
    → Grown at (first ++ second) text r' text''
grown_then {at} {r} {r'} {first} {second} {text} {text'} a b =
    record {
      next = b.next ∙ ap (λ (k : ℕ). k + length second) a.next ∙ add_assoc at (length first) (length second) ∙ ap (λ (k : ℕ). at + k) (sym (length-append first second));
      same_room = b.same_room ∙ a.same_room;
      holds = b.holds ∙ ap (λ (s : List ℕ). s ++ second) a.holds ∙ append_assoc (take at text) first second;
      behind = b.behind ∙ subst (λ (k : ℕ). drop k text' ≡ drop k text) (sym b.next) (sym (drop-drop (length second) r text') ∙ ap (λ (s : List ℕ). drop (length second) s) a.behind ∙ drop-drop (length second) r text);
    }

-- the whole buffer, by the part
pub grown_is : {at r : ℕ} {part text text' : List ℕ} → Grown at part text r text' → text' ≡ take at text ++ part ++ drop (at + length part) text
grown_is {at} {r} {part} {text} {text'} g =
    sym (take-append-drop r text') ∙ ap (λ (s : List ℕ). s ++ drop r text') g.holds
    ∙ ap (λ (s : List ℕ). take at text ++ part ++ s) (g.behind ∙ ap (λ (k : ℕ). drop k text) g.next)

-- what was put at the start lies within the buffer
pub grown_counts : {r : ℕ} {part text text' : List ℕ} → Grown 0 part text r text' → IsPrefixLen r text'
grown_counts {r} {part} {text} {text'} g =
    let inside : r ≤ length text' = omega (arith, length-take r text', ap length g.holds, g.next) in
    (inside, sym (length-take-le r text' inside))

-- the same of a text with its end
pub grown_by : {first second : List ℕ} {t u v : Text} → GrownBy first t u → GrownBy second u v → GrownBy (first ++ second) t v
grown_by a b = record { same = b.same ∙ a.same; grown = grown_then a.grown b.grown }
