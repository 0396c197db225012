-- Rows that meet every condition pass the tests 1 to 5: the other way round from `rows_passed`. Assumes nothing.
use Prim.Native.Nat.{ℕ, zero, suc, ◌<◌, ◌≤◌, zero-le, suc-le-suc}
use mathlib.Core.Bool.{false}
use mathlib.Core.List.{List, [], ◌∷◌}
use mathlib.Core.Path.{◌≡◌, refl}
use borrow.Author.Tests.{eq-eqb, le-ltb, lt-leb}
use lib.Dec.{leb}
use lib.ListN.{length, get_or}
use lib.Ieee.{Float}
use Rattle.numbers.specs.Tables.{any}
use Rattle.numbers.proofs.NoneOf.{none_if}
use Rattle.refusals.specs.Refusals.{◌or◌, ◌when◌, wrong, falls, lengths_differ, refuse_nodes, refuse_links, refuse_listed, refuse_lengths, refuse_rows, refuse_weights, row_tests}
use Rattle.refusals.proofs.Laws.{AsStated, Sized, Fine}

-- lengths that are as stated do not differ
not_differing : (ps : List (ℕ × ℕ)) → AsStated ps → lengths_differ false ps ≡ false
unfolding lengths_differ
not_differing [] h = refl
not_differing (p ∷ ps) h = rw (eq-eqb p.0 p.1 h.0) (not_differing ps h.1)

-- numbers of which none is below the one before do not fall
not_falling : (s : List ℕ) → ((v : ℕ) → suc v < length s → get_or s v 0 ≤ get_or s (suc v) 0) → falls s ≡ false
unfolding falls
not_falling [] h = refl
not_falling (a ∷ []) h = refl
not_falling (a ∷ b ∷ s) h = rw (le-ltb b a (h zero (suc-le-suc (suc-le-suc zero-le)))) (not_falling (b ∷ s) (λ v k. h (suc v) (suc-le-suc k)))

-- all the tests
pub rows_pass : (n s : ℕ) (ps : List (ℕ × ℕ)) (starts columns : List ℕ) (ws : List Float) → Sized n (length columns) s ps → Fine n starts columns → any wrong ws ≡ false
    → row_tests n s ps starts columns ws ≡ 0
unfolding ◌or◌ ◌when◌ refuse_nodes refuse_links refuse_listed refuse_lengths refuse_rows refuse_weights
rows_pass n s ps starts columns ws z f w =
    let inside : any (λ v. leb n v) columns ≡ false = none_if (λ v. leb n v) 0 columns (λ i h. lt-leb n _ (f.inside i h)) in
    rw (le-ltb _ _ z.nodes, le-ltb _ _ z.links, le-ltb _ _ z.listed, not_differing ps z.long, eq-eqb _ _ f.begins, not_falling starts f.rises, eq-eqb _ _ f.ends, inside, w)
