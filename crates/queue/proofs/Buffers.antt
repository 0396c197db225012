-- The three buffers that are lent beside the queue's record: in MIR, in a signature by value (at its lifetimes 0, 1 and 2) and in one with the record lent (at 1, 2 and 3), and what a walk has of them.
-- A walk passes them on at their own lifetimes, shares and ghost names: they are given up for good, and what the callee says of their last lists, with the borrows that it hands back closed, is what the caller says of them (`gave_slice`).
-- Assumes nothing: these are definitions.
use Rattle.queue.proofs.Logic.{◌+◌, ℕ, [], ◌∷◌, List, length, binary64, Ura, named, w32, Val, Lft, Share, ftrue, flft, fbor, Item, ‵, ◌⊛◌, u32, u64, f64, RattleType, mem, MutBor, slice_val, finally, plain, Stays, gave_slice, yes}
use base.Fml.{Fml, fsep}
use types.Hole.{Holey}
use types.SemTy.{Body as Behind, Arr}
use mir.Syntax.{Ty, Lifetime, Local, Body, local as lo, value_local, ty_ref, ty_int, ty_float, erased, mut, w64, assign, place, copy, deref, field, addr_of, aggregate, seq}
use denote.Signature.{Slot, mut_slice_of}
use denote.Slice.{slice_ty}
use denote.Triple.End.{Kepts}

-- ---- in MIR
-- a `&mut [T]` in a local, and such a one made anew, with its pointer
abbrev slice : Lifetime → Ty → Local
slice ℓ τ = lo (slice_ty (ty_ref ℓ mut τ)) value_local

abbrev again : Ty → List Local → List Local
again τ ls = lo (ty_ref erased mut τ) value_local ∷ slice erased τ ∷ ls

-- the statements that make the slice in the local s anew, by the pointer in the local p, in the local after p
abbrev made : ℕ → ℕ → Ty → Body → Body
made s p τ rest = seq (assign (place p []) (addr_of (place s (field 0 ∷ deref τ ∷ [])))) (seq (assign (place (p + 1) []) (aggregate (copy (place p []) ∷ copy (place s (field 1 ∷ [])) ∷ []))) rest)

-- the three as parameters, which are the locals 2, 3 and 4; the locals that they are made anew in; and the statements, from the local p on
abbrev pub passed : ℕ → List Local → List Local
passed n ls = slice (named n) (ty_float binary64) ∷ slice (named (n + 1)) (ty_int w32) ∷ slice (named (n + 2)) (ty_int w64) ∷ ls

abbrev pub anew : List Local → List Local
anew ls = again (ty_float binary64) (again (ty_int w32) (again (ty_int w64) ls))

abbrev pub all_made : ℕ → Body → Body
all_made p rest = made 2 p (ty_float binary64) (made 3 (p + 2) (ty_int w32) (made 4 (p + 4) (ty_int w64) rest))

-- ---- in a signature
abbrev pub slots_by_value : List (Slot 3) → List (Slot 3)
slots_by_value ss = mut_slice_of (0 ∷ []) tt (plain (λ _. f64)) ∷ mut_slice_of (1 ∷ []) tt (plain (λ _. u32)) ∷ mut_slice_of (2 ∷ []) tt (plain (λ _. u64)) ∷ ss

abbrev pub slots_lent : List (Slot 4) → List (Slot 4)
slots_lent ss = mut_slice_of (1 ∷ []) tt (plain (λ _. f64)) ∷ mut_slice_of (2 ∷ []) tt (plain (λ _. u32)) ∷ mut_slice_of (3 ∷ []) tt (plain (λ _. u64)) ∷ ss

-- they are given up for good
abbrev pub gave_by_value : (ss : List (Slot 3)) (ks : Kepts ss) → Stays ss ks → Stays (slots_by_value ss) (yes, (yes, (yes, ks)))
gave_by_value ss ks rest = (gave_slice (0 ∷ []) tt (plain (λ _. f64)), (gave_slice (1 ∷ []) tt (plain (λ _. u32)), (gave_slice (2 ∷ []) tt (plain (λ _. u64)), rest)))

abbrev pub gave_lent : (ss : List (Slot 4)) (ks : Kepts ss) → Stays ss ks → Stays (slots_lent ss) (yes, (yes, (yes, ks)))
gave_lent ss ks rest = (gave_slice (1 ∷ []) tt (plain (λ _. f64)), (gave_slice (2 ∷ []) tt (plain (λ _. u32)), (gave_slice (3 ∷ []) tt (plain (λ _. u64)), rest)))

-- ---- in a walk
abbrev pub machine : {X : Type 0} → MutBor (List X) → Val
machine x = slice_val x.ref_ptr (length x.now)

abbrev pub tokens : {M : Type 1} (𝓤 : Ura M) → Lft → Lft → Lft → Share → Share → Share → Item 𝓤
tokens 𝓤 κ₁ κ₂ κ₃ q₁ q₂ q₃ = ‵ (flft κ₁ q₁) ⊛ ‵ (flft κ₂ q₂) ⊛ ‵ (flft κ₃ q₃) ⊛ ‵ ftrue

-- what is left of a buffer that is given up: its last list, and its borrow, closed
abbrev pub given_up : (R : RattleType) → Lft → MutBor (List R.Denot) → List R.Denot → Fml
given_up R κ x ws = fsep (finally R x.ghost_name ws) (fbor κ (Behind (Arr (Holey (mem R)) (length x.now)) x.ref_ptr.0 x.ref_ptr.1 x.ghost_name))
