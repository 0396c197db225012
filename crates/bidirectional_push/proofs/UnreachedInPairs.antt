-- Demand 3 of bidirectional and adaptive calls. In the forward pair a node that the source cannot reach has +0, and in the backward pair one that cannot reach the
-- target, whichever solves are used. Where the source cannot reach the target, and the numbers of both pairs are finite, the score is +0: no node is
-- on a way between them, so that at each node one pair has +0. Assumes nothing.
use Prim.Native.Nat.{ℕ, zero, suc, ◌<◌}
use native.Mathlib.Nat.{le_refl}
use mathlib.Core.Bool.{Bool, true, false}
use mathlib.Core.Logic.{◌⊎◌, inl, inr}
use mathlib.Core.List.Memᴰ
use mathlib.Core.List.{List, [], ◌∷◌}
use mathlib.Core.Path.{◌≡◌, refl, subst}
use lib.ListN.{get_or-replicate}
use lib.Ieee.{Float, nan}
use Rattle.numbers.specs.Numbers.{+0}
use Rattle.numbers.specs.Choice.{if◌then◌otherwise◌}
use Rattle.numbers.proofs.Zeros.{part_finite}
use Rattle.refusals.specs.Refusals.{◌or◌, refuse_settings}
use Rattle.refusals.specs.Calls.{outcome_of, by_refusal}
use Rattle.refusals.specs.declared.Settings.{Settings}
use Rattle.refusals.proofs.Laws.{or_zero, alpha_within}
use Rattle.graph.specs.Rows.{Entry, links_of}
use Rattle.rules.specs.Ways.{push_forward, push_backward}
use Rattle.rules.specs.Rules.{State, unwatched, at}
use Rattle.rules.specs.Answers.{Method, neither, backward_alone, forward_alone, both, answer_by}
use Rattle.rules.specs.Reach.{Leads, stay, Connected, kept_links}
use Rattle.rules.proofs.Paths.{leads_on}
use Rattle.calls.specs.Lent.{LinksLent, scored_of}
use Rattle.calls.specs.Outcomes.{Given, given_links, ends}
use Rattle.calls.proofs.UnreachedInCalls.{Shows, shows_links, untouched_ends}
use Rattle.calls.proofs.Queries.{unconnected_score}
use Rattle.combination.specs.Methods.{uses_forward, uses_backward}
use Rattle.combination.proofs.Nothing.{Nothing, nothing_or_not, FiniteBelow, combined_nothing}
use Rattle.bidirectional_push.specs.Lent.{Pairs, BothLent, joining}
use Rattle.bidirectional_push.specs.Outcomes.{where_used, pairs_by, joined, by_solves}

-- ---- the pairs

-- both vectors of a state have +0 at v
abbrev NothingAt : State → ℕ → Type 0
NothingAt s v = Nothing (at s.estimate v) (at s.residual v)

-- a vector of a pair, used or not, has +0 where that of its solve has
still_zero : (used : Bool) (n : ℕ) (xs : List Float) (v : ℕ) → v < n → at xs v ≡ +0 → at (where_used used n xs) v ≡ +0
unfolding if◌then◌otherwise◌
still_zero true n xs v l e = e
still_zero false n xs v l e = get_or-replicate n v +0 nan l

module _ {B : Type 0} (g : Given Pairs B) (source target : ℕ) (sf sb : Settings) where
  -- the state that the forward solve ends in
  abbrev front : State
  front = ends push_forward g sf unwatched (source ∷ [])

  -- and that of the backward solve
  abbrev back : State
  back = ends push_backward g sb unwatched (target ∷ [])

  -- the pairs of a call by a method
  abbrev pub pairs : Method → Pairs
  pairs m = pairs_by m g.nodes back front

  -- are what it leaves
  pub pairs_left : (m : Method) → (joined g source target sf sb m).lent ≡ g.after (pairs m)
  unfolding joined
  pairs_left m = refl

  module _ {n : ℕ} {row : ℕ → List Entry} (shown : Shows g n row) where
    -- a solve from u has nothing at a node that is not connected
    nothing_solved : (backward : Bool) (s : Settings) (u v : ℕ) → v < g.nodes → ¬ Connected backward row n (u ∷ []) v → NothingAt (ends backward g s unwatched (u ∷ [])) v
    nothing_solved backward s u v l off =
        let z = untouched_ends shown backward s unwatched (u ∷ []) v (rw shown.nodes_are at l) off in
        (z.score, z.remainder)

    module _ (v : ℕ) (l : v < n) where
      -- and nothing is in its pair, used or not
      nothing_used : (backward : Bool) (s : Settings) (u : ℕ) (used : Bool) → ¬ Connected backward row n (u ∷ []) v
          → let e = ends backward g s unwatched (u ∷ []) in Nothing (at (where_used used g.nodes e.estimate) v) (at (where_used used g.nodes e.residual) v)
      nothing_used backward s u used off =
          let k : v < g.nodes = rw shown.nodes_are l in
          let z = nothing_solved backward s u v k off in
          (still_zero used _ _ v k z.0, still_zero used _ _ v k z.1)

      -- the forward pair at a node that the source cannot reach
      pub unreached_pair : (m : Method) → ¬ Connected push_forward row n (source ∷ []) v → Nothing (at (pairs m).forward_estimate v) (at (pairs m).forward_residual v)
      unfolding pairs_by
      unreached_pair m = nothing_used push_forward sf source (uses_forward m)

      -- the backward pair at a node that cannot reach the target
      pub unreaching_pair : (m : Method) → ¬ Connected push_backward row n (target ∷ []) v → Nothing (at (pairs m).backward_estimate v) (at (pairs m).backward_residual v)
      unfolding pairs_by
      unreaching_pair m = nothing_used push_backward sb target (uses_backward m)

    -- ---- the score, where the source cannot reach the target

    module _ (off : ¬ Connected push_forward row n (source ∷ []) target) where
      -- no node is on a way from the one to the other
      no_way : (v : ℕ) → Connected push_forward row n (source ∷ []) v → Connected push_backward row n (target ∷ []) v → ⊥
      no_way v r q =
          let p = subst (Leads row v) (Memᴰ.eq_of_singleton q.listed) q.leads in
          off (record { node = r.node; listed = r.listed; below = r.below; leads = leads_on r.leads p })

      -- so at each node one of the solves has nothing
      either_nothing : (v : ℕ) → v < g.nodes → NothingAt back v ⊎ NothingAt front v
      either_nothing v l = go (nothing_or_not _ _) (nothing_or_not _ _)
        where
          go : Dec (NothingAt back v) → Dec (NothingAt front v) → NothingAt back v ⊎ NothingAt front v
          go (yes p) d = inl p
          go (no h) (yes q) = inr q
          go (no h) (no k) = absurd (k (nothing_solved push_forward sf source v l (λ r. h (nothing_solved push_backward sb target v l (λ q. no_way v r q)))))

      -- what a method answers
      no_answer : (m : Method) → refuse_settings sb ≡ 0 → FiniteBelow g.nodes (pairs m).backward_estimate (pairs m).backward_residual
          → FiniteBelow g.nodes (pairs m).forward_estimate (pairs m).forward_residual → (joined g source target sf sb m).answer ≡ +0
      unfolding joined answer_by pairs_by uses_forward uses_backward if◌then◌otherwise◌
      no_answer neither ok b f = refl
      no_answer backward_alone ok b f = unconnected_score shown push_backward sb target source (λ l r. no_way source (record { node = source; listed = Memᴰ.head refl; below = l; leads = stay }) r)
      no_answer forward_alone ok b f = unconnected_score shown push_forward sf source target (λ l. off)
      no_answer both ok b f = combined_nothing sb.alpha (part_finite _ (alpha_within sb ok)) g.nodes _ _ _ _ b f either_nothing g.nodes (le_refl _)

      -- The call answers +0, refused or not.
      pub no_score_joined : (m : Method) → FiniteBelow g.nodes (pairs m).backward_estimate (pairs m).backward_residual
          → FiniteBelow g.nodes (pairs m).forward_estimate (pairs m).forward_residual → (by_solves g source target sf sb m).answer.score ≡ +0
      unfolding by_solves by_refusal
      no_score_joined m b f = by (g.tests 0 or refuse_settings sf or refuse_settings sb) (λ h. (or_zero _ _ (or_zero _ _ h).1).1)
        where
          by : (k : ℕ) → (k ≡ 0 → refuse_settings sb ≡ 0)
              → (by_refusal k (λ j. scored_of j +0) g.before (outcome_of (scored_of 0 (joined g source target sf sb m).answer) (joined g source target sf sb m).lent)).answer.score ≡ +0
          by zero h = no_answer m (h refl) b f
          by (suc k) h = refl

-- with a list of links, by its kept links
module _ (n source target : ℕ) (sf sb : Settings) (from to : List ℕ) (weight : List Float) (b : LinksLent BothLent) where
  -- what the call is given
  abbrev given : Given Pairs (LinksLent BothLent)
  given = given_links joining n from to weight b

  -- A call whose source cannot reach its target answers +0.
  pub unreached_joined : (m : Method) → ¬ Connected push_forward (kept_links n (links_of from to weight)) n (source ∷ []) target
      → FiniteBelow n (pairs given source target sf sb m).backward_estimate (pairs given source target sf sb m).backward_residual
      → FiniteBelow n (pairs given source target sf sb m).forward_estimate (pairs given source target sf sb m).forward_residual
      → (by_solves given source target sf sb m).answer.score ≡ +0
  unfolding given_links
  unreached_joined m off = no_score_joined given source target sf sb (shows_links joining n from to weight b) off m
