-- The names of the program logic that the walks use, passed on, so that a walk brings them by one line. It declares nothing.
pub use Prim.Native.Nat.{ℕ, ◌+◌, ◌<◌, ◌^◌}
pub use base.Fml.{GName, Lft, Share, ftrue, flft, fobs, fbor, fat}
pub use base.Logic.{SProp, ent, sep, id⊢}
pub use denote.Builtin.{u32, u64, f64}
pub use denote.Exit.{yes}
pub use denote.Floats.{float_vals, float_Tells, float_Makes, passes}
pub use denote.Laws.{Is, shows}
pub use denote.Memory.{mem, cell_at}
pub use denote.Plain.{uint_vals, uint_Tells, uint_Makes}
pub use denote.RattleType.{owns, RattleType}
pub use denote.Ref.{MutBor, MutRef, mut_vals, mut_Tells}
pub use denote.Signature.{plain}
pub use denote.Slice.{slice_val, MutSlice, Room, finally, mut_slice_vals, mut_slice_Tells}
pub use denote.Steps.{closes, peeks, nothing, owned, only}
pub use denote.Triple.Call.{calls_at}
pub use denote.Triple.Entry.{on_entry}
pub use denote.Triple.Spec.{triple_of}
pub use denote.Triple.Statement.{Contract, Triple}
pub use denote.Triple.Walked.{Stays, stay_ref, walk_of, Goes-ref, ends_at, stay_none, gave_slice, Goes-none, Goes-gave_slice}
pub use base.Fraction.{full_share}
pub use seplogic.Ra.Ura.{Ura}
pub use lib.Dec.{T as Passes}
pub use lib.Ieee.{Float, binary64, fits}
pub use lib.ListN.{length}
pub use mathlib.Core.Bool.{true}
pub use mathlib.Core.List.{[], ◌∷◌, List}
pub use mathlib.Core.Path.{◌≡◌, refl, ap, sym, subst}
pub use mir.Syntax.{named, w32, ty_unit}
pub use mir.Val.{Val, vunit, vptr, vint, vfloat, WT, has_ty}
pub use prog.Wp.{Calls, Loops, WpFn}
pub use sound.WpLaws.{FmC, fm_of}
pub use types.Kit.{‵, raw, ◌⊛◌, ⋆, ◌$◌, ◌∵◌, !, qed, by, move, keep, drop, use1, split, join, fsplit, fsplit3, fjoin, fjoin3, feq_i, suffices, done, Item, rewrite, feq_l}
pub use types.Part.{whole, sub, look_in, agg}
pub use types.Run.{look, look_raw, init, store_raw, stop, hop, from, load, unit_lit, of_opd, and_then, no_more, assigns, land, returns, enter, alloc1, alloc0, params1, pass1, pass0, free0, fld, addr}
pub use types.SemTy.{Body}
pub use types.Tokens.{lft_new, lft_end}
