-- Which solves a method of `adaptive_solve` uses, the method of a call, and the score that the solves give. Assumes nothing.
use Rattle.std.specs.Prelude.{ℕ, Bool, true, false, List, ◌≡◌, length, get_or, Float}
use Rattle.numbers.specs.Numbers.{+0}
use Rattle.numbers.specs.Choice.{if◌then◌otherwise◌}
use Rattle.rules.specs.Answers.{combined, Method, neither, backward_alone, forward_alone, both}
use Rattle.combination.specs.declared.Uses.{Uses}

-- whether the forward solve is used
unfoldable pub uses_forward : Method → Bool
uses_forward neither = false
uses_forward backward_alone = false
uses_forward forward_alone = true
uses_forward both = true

-- whether the backward solve is
unfoldable pub uses_backward : Method → Bool
uses_backward neither = false
uses_backward backward_alone = true
uses_backward forward_alone = false
uses_backward both = true

-- the method of a call: the given one if the call is adaptive, where callers give the rules' `method`, and both solves if it is not
abbrev pub method_for : Bool → Method → Method
method_for adaptive m = if adaptive then m otherwise both

-- which solves a method uses
pub record Follows (u : Uses) (m : Method) : Type 0 where
  pub forward_is : u.forward ≡ uses_forward m
  pub backward_is : u.backward ≡ uses_backward m

-- The score, by which solves are used: a second form of the rules' `answer_by`. The code knows no method and no states, but two flags and four vectors, in
-- which a solve that is not used left +0. `score_is` (bidirectional_push/proofs/Joining.antt) ties it: where the flags follow a method, it is what
-- `answer_by` gives by that method.
unfoldable pub score_by : Uses → Float → ℕ → ℕ → List Float → List Float → List Float → List Float → Float
score_by u alpha source target be br fe fr =
    if u.forward then (if u.backward then combined alpha be br fe fr (length be) otherwise get_or fe target +0) otherwise (if u.backward then get_or be source +0 otherwise +0)
