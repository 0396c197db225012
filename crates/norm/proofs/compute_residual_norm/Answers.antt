-- `norm::compute_residual_norm` meets its contract: the fold is the sum of the definition. Assumes nothing.
use mathlib.Core.Path.{◌≡◌, refl, ◌∙◌, subst}
use mathlib.Core.List.{List, [], ◌∷◌}
use lib.Ieee.{Float}
use Rattle.std.proofs.Common.{fold, rules}
use Rattle.numbers.specs.Numbers.{+0, ◌⊕◌, ◌⊗◌}
use Rattle.norm.specs.SquareRoot.{Root}
use Rattle.norm.specs.Norm.{add_squares}
use Rattle.norm.proofs.compute_residual_norm.Goals as goal

-- the definition is a fold
add_squares_fold : (s : Float) (vs : List Float) → fold (λ a v. a ⊕ v ⊗ v) s vs ≡ add_squares s vs
unfolding add_squares
add_squares_fold s [] = refl
add_squares_fold s (v ∷ vs) = add_squares_fold (s ⊕ v ⊗ v) vs

pub returns : goal.returns
returns c = let vs = c.args.residual.now in
    let added : c.fold-sum.result ≡ fold (λ a v. a ⊕ v ⊗ v) +0 vs = search rules in
    subst (λ (s : Float). Root s c.square_root.result) (added ∙ add_squares_fold +0 vs) c.square_root.ensures
