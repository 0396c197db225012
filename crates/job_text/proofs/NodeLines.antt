-- The lines of the first nodes, one node more, and the line of one node among all: those of two parts of the vectors are the
-- lines of the first part and then of the second. Assumes nothing.
use Prim.Native.Nat.{ℕ, suc, ◌+◌, ◌≤◌, ◌<◌}
use native.Mathlib.Nat.{add-zero, zero-add}
use native.Mathlib.Omega.{arith}
use mathlib.Core.List.{List, [], ◌∷◌, ◌++◌, append_assoc, append-nil}
use mathlib.Core.Path.{◌≡◌, sym, ap, ◌∙◌}
use lib.ListN.{length, get_or, take, drop}
use lib.Seq.{length-take-le, take-suc, split_at}
use lib.Ieee.{Float, nan}
use Rattle.job_text.specs.Text.{node_line, node_lines}

lines_append : (u : ℕ) (es rs es' rs' : List Float) → length rs ≡ length es → node_lines u (es ++ es') (rs ++ rs') ≡ node_lines u es rs ++ node_lines (u + length es) es' rs'
unfolding node_lines
lines_append u [] [] es' rs' l = ap (λ (w : ℕ). node_lines w es' rs') (sym (add-zero u))
lines_append u [] (r ∷ rs) es' rs' l = absurd (omega arith)
lines_append u (e ∷ es) [] es' rs' l = absurd (omega arith)
lines_append u (e ∷ es) (r ∷ rs) es' rs' l =
    ap (λ (t : List ℕ). node_line u e r ++ t) (lines_append (suc u) es rs es' rs' (omega arith) ∙ ap (λ (w : ℕ). node_lines (suc u) es rs ++ node_lines w es' rs') (omega arith))
    ∙ sym (append_assoc (node_line u e r) (node_lines (suc u) es rs) (node_lines (u + suc (length es)) es' rs'))

-- the lines of the nodes before v, and from v on
lines_from : (u v : ℕ) (es rs es' rs' : List Float) → v ≤ length es → length rs ≡ length es
    → node_lines u (take v es ++ es') (take v rs ++ rs') ≡ node_lines u (take v es) (take v rs) ++ node_lines (u + v) es' rs'
lines_from u v es rs es' rs' h l =
    lines_append u (take v es) (take v rs) es' rs' (length-take-le v rs (omega arith) ∙ sym (length-take-le v es h))
    ∙ ap (λ (w : ℕ). node_lines u (take v es) (take v rs) ++ node_lines (u + w) es' rs') (length-take-le v es h)

pub node_lines_more : (u v : ℕ) (es rs : List Float) → v < length es → length rs ≡ length es
    → node_lines u (take (suc v) es) (take (suc v) rs) ≡ node_lines u (take v es) (take v rs) ++ node_line (u + v) (get_or es v nan) (get_or rs v nan)
unfolding node_lines
node_lines_more u v es rs h l =
    rw (← take-suc es v nan h, ← take-suc rs v nan (omega arith), append-nil (node_line (u + v) (get_or es v nan) (get_or rs v nan)))
    at (lines_from u v es rs (get_or es v nan ∷ []) (get_or rs v nan ∷ []) (omega arith) l)

-- the line of v, between those before it and those behind it
pub line_at : (v : ℕ) (es rs : List Float) (d : Float) → v < length es → length rs ≡ length es
    → node_lines 0 es rs ≡ node_lines 0 (take v es) (take v rs) ++ (node_line v (get_or es v d) (get_or rs v d) ++ node_lines (suc v) (drop (suc v) es) (drop (suc v) rs))
unfolding node_lines
line_at v es rs d h l =
    ap (λ (x : List Float). node_lines 0 x rs) (split_at es v d h) ∙ ap (λ (x : List Float). node_lines 0 (take v es ++ get_or es v d ∷ drop (suc v) es) x) (split_at rs v d (omega arith))
    ∙ lines_from 0 v es rs _ _ (omega arith) l ∙ ap (λ (w : ℕ). node_lines 0 (take v es) (take v rs) ++ node_lines w (get_or es v d ∷ drop (suc v) es) (get_or rs v d ∷ drop (suc v) rs)) (zero-add v)
