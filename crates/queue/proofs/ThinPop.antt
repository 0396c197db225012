-- A function by value, `fn g(q: S, a: &mut [f64], b: &mut [u32], c: &mut [u64]) -> R`, where R is a record of an S and a u32, the thin one over it, `fn f(q: &mut S, ..) -> u32 { let r = g(*q, a, b, c); *q = r.queue; r.node }`, and the one that holds the record in a local, `fn h(q: S, ..) -> R { let mut held = q; let node = f(&mut held, a, b, c); R { queue: held, node } }`. S and R are `Record.antt`'s.
--     thinned          a contract by value, at entry and exit of what the reference refers to
--     replaces         where g meets a contract, f meets the thinned one
--     holds            where f meets the thinned contract, h meets the one by value
-- The walks are `ThinAdapt.antt`'s, with the buffers (`Buffers.antt`) passed on.
-- Assumes `Logic`.
use types.Logic.{Logic}
use Rattle.queue.proofs.Logic.{◌≡◌, refl, sym, ap, subst, ℕ, ◌<◌, ◌^◌, [], ◌∷◌, List, Passes, length, Float, fits, Ura, full_share, named, w32, Val, WT, has_ty, vint, vptr, SProp, ent, id⊢, sep, GName, Lft, Share, fat, flft, fobs, fbor, Calls, Loops, WpFn, Item, ‵, raw, ◌⊛◌, ⋆, ◌$◌, ◌∵◌, !, qed, by, move, keep, drop, use1, split, join, fsplit, fsplit3, fjoin, fjoin3, feq_i, suffices, done, look, look_raw, init, store_raw, stop, hop, from, load, addr, fld, whole, sub, look_in, agg, rewrite, of_opd, and_then, no_more, assigns, land, returns, enter, alloc1, alloc0, params1, pass1, pass0, free0, lft_new, lft_end, Body, FmC, fm_of, RattleType, owns, Is, shows, mem, cell_at, uint_Makes, u32, u64, f64, MutBor, MutRef, mut_vals, mut_Tells, MutSlice, Room, mut_slice_vals, mut_slice_Tells, plain, only, closes, owned, peeks, nothing, Contract, Triple, calls_at, on_entry, triple_of, Stays, stay_ref, stay_none, walk_of, Goes-ref, Goes-none, Goes-gave_slice, ends_at, yes}
use mir.Syntax.{Fn, Callee, local as lo, value_local, memory_slot, ty_ref, ty_int, erased, mut, assign, place, rv_opd, copy, deref, field, addr_of, aggregate, call, seq, return}
use prog.Wp.{Tables}
use contract.Lifetimes.{Lfts}
use denote.Memory.{pointee}
use denote.Builtin.{RefMutOf}
use denote.Triple.Clauses.{Ended, Clauses, Lasts, at_exit, closing}
use denote.Triple.Entry.{Args}
use denote.Triple.Spec.{Meets}
use Rattle.queue.specs.declared.WorkQueue.{WorkQueue}
use Rattle.queue.specs.declared.Popped.{Popped}
use Rattle.queue.proofs.Buffers.{passed, anew, all_made, slots_by_value, slots_lent, gave_by_value, gave_lent, machine, tokens, given_up}
use Rattle.queue.proofs.Local.{lends_local, local_back}
use Rattle.queue.proofs.Record.{Queue, QueueSlot, queue_type, vals, spelled, tells, typed, makes, PoppedRow, PoppedSlot, popped_type, popped_vals, popped_tells, queue_in, node_in, popped_is, popped_typed, popped_makes}
use Rattle.queue.proofs.Thin.{local, slice_again, opened, told, last_slice, gone, meets_by}

-- the code of f and of h, over the key of what each calls. In f the record goes from the result by a local of its own, 13, to where the reference points
abbrev pub thin : Callee → Fn
thin k = record {
  lifetimes = 4;
  outlives = [];
  ty_params = [];
  givens = 0;
  params = 4;
  locals = lo (ty_int w32) value_local ∷ lo (ty_ref (named 0) mut (pointee Queue.written)) value_local ∷ passed 1 (lo popped_type value_local ∷ lo queue_type value_local ∷ anew (lo queue_type value_local ∷ []));
  body =
      seq (assign (place 6 []) (rv_opd (copy (place 1 (deref queue_type ∷ [])))))
      (all_made 7
      (seq (call k (copy (place 6 []) ∷ copy (place 8 []) ∷ copy (place 10 []) ∷ copy (place 12 []) ∷ []) (place 5 []))
      (seq (assign (place 13 []) (rv_opd (copy (place 5 (field 0 ∷ [])))))
      (seq (assign (place 1 (deref queue_type ∷ [])) (rv_opd (copy (place 13 []))))
      (seq (assign (place 0 []) (rv_opd (copy (place 5 (field 1 ∷ [])))))
      return)))));
}

abbrev pub holding : Callee → Fn
holding k = record {
  lifetimes = 3;
  outlives = [];
  ty_params = [];
  givens = 0;
  params = 4;
  locals = lo popped_type value_local ∷ lo queue_type value_local ∷ passed 0 (lo queue_type memory_slot ∷ lo (ty_int w32) value_local ∷ lo (ty_ref erased mut (pointee Queue.written)) value_local ∷ anew (lo queue_type value_local ∷ []));
  body =
      seq (assign (place 5 []) (rv_opd (copy (place 1 []))))
      (seq (assign (place 7 []) (addr_of (place 5 [])))
      (all_made 8
      (seq (call k (copy (place 7 []) ∷ copy (place 9 []) ∷ copy (place 11 []) ∷ copy (place 13 []) ∷ []) (place 6 []))
      (seq (assign (place 14 []) (rv_opd (copy (place 5 []))))
      (seq (assign (place 0 []) (aggregate (copy (place 14 []) ∷ copy (place 6 []) ∷ [])))
      return)))));
}

-- the two signatures
abbrev pub value : Ended
value = record { signature = record { lifetimes = 3; outlives = []; params = QueueSlot ∷ slots_by_value []; result = PoppedSlot }; kept = (yes, (yes, (yes, (yes, tt)))) }

abbrev pub lent : Ended
lent = record { signature = record { lifetimes = 4; outlives = []; params = RefMutOf (0 ∷ []) tt QueueSlot (λ κs. tt) ∷ slots_lent []; result = plain (λ κs. u32) }; kept = (yes, (yes, (yes, (yes, tt)))) }

module _ {M : Type 1} (𝓤 : Ura M) where
  abbrev pub thinned : Clauses 𝓤 value → Clauses 𝓤 lent
  thinned c κs a = record { ghost = (c κs.1 (a.0.now, a.1)).ghost; requires = (c κs.1 (a.0.now, a.1)).requires; ensures = λ g m e. (c κs.1 (a.0.now, a.1)).ensures g (record { queue = e.0.now; node = m }) (a.0.now, e.1) }

  module _ (𝓛 : Logic 𝓤) (c : Clauses 𝓤 value) where
    abbrev pub ByValue : Contract 𝓤
    ByValue = triple_of 𝓛 value.signature (closing 𝓛 value c)

    abbrev pub Thin : Contract 𝓤
    Thin = triple_of 𝓛 lent.signature (closing 𝓛 lent (thinned c))

-- what is had of the parameters at exit
abbrev stayed : Stays lent.signature.params lent.kept
stayed = (stay_ref (0 ∷ []) tt QueueSlot, gave_lent [] tt tt)

abbrev kept : Stays value.signature.params value.kept
kept = (stay_none (λ _. Queue) yes, gave_by_value [] tt tt)

module _ {M : Type 1} {𝓤 : Ura M} (𝓛 : Logic 𝓤) (c : Clauses 𝓤 value) (κ₁ κ₂ κ₃ : Lft) (q₁ q₂ q₃ : Share) (h : WorkQueue) (x₁ : MutBor (List Float)) (x₂ x₃ : MutBor (List ℕ)) where
  open 𝓛 use {H}

  abbrev κs : Lfts 3
  κs = (κ₁, (κ₂, (κ₃, tt)))

  -- what is passed beside the record, and its machine values
  abbrev beside : MutBor (List Float) × (MutBor (List ℕ) × (MutBor (List ℕ) × Unit {0}))
  beside = (x₁, (x₂, (x₃, tt)))

  abbrev at : List Val × (List Val × (List Val × Unit {0}))
  at = (machine x₁ ∷ [], (machine x₂ ∷ [], (machine x₃ ∷ [], tt)))

  module _ (g : (c κs (h, beside)).ghost) where
    -- what the contract says of the record r that came back and of the last lists, beside the buffers' tokens
    abbrev said : Popped → Lasts value κs (h, beside) → Item 𝓤
    said r zs = tokens 𝓤 κ₁ κ₂ κ₃ q₁ q₂ q₃ ⊛ raw ((c κs (h, beside)).ensures g r (at_exit value κs (h, beside) zs))

    -- ---- the thin function
    module _ (κ : Lft) (q : Share) (b o : ℕ) (γ : GName) where
      abbrev a : Args lent.signature (κ, κs)
      a = (record { ref_ptr = (b, o); ghost_name = γ; now = h }, beside)

      abbrev Post : Val → SProp 𝓤
      Post = (walk_of 𝓛 lent stayed (thinned 𝓤 c)).post (((κ, κs), (q, (q₁, (q₂, (q₃, tt)))), tt, a, (vptr b o ∷ [], at)), g)

      exits : (r : Popped) → r.node < 2 ^ 32 → (zs : Lasts value κs (h, beside)) → length zs.1.0 ≡ length x₁.now → length zs.1.1.0 ≡ length x₂.now → length zs.1.1.1.0 ≡ length x₃.now
          → ent 𝓤 (⋆ 𝓛 (‵ (fobs γ (Queue.coded.code r.queue)) ∷ ‵ (fbor κ (Body (mem Queue) b o γ)) ∷ ‵ (flft κ q) ∷ said r zs ∷ ‵ (given_up f64 κ₁ x₁ zs.1.0) ∷ ‵ (given_up u32 κ₂ x₂ zs.1.1.0) ∷ ‵ (given_up u64 κ₃ x₃ zs.1.1.1.0) ∷ [])) (Post (vint w32 r.node))
      exits r fits zs e₁ e₂ e₃ =
          qed 𝓛 (‵ (fobs γ (Queue.coded.code r.queue)) ∷ ‵ (fbor κ (Body (mem Queue) b o γ)) ∷ ‵ (flft κ q) ∷ said r zs ∷ ‵ (given_up f64 κ₁ x₁ zs.1.0) ∷ ‵ (given_up u32 κ₂ x₂ zs.1.1.0) ∷ ‵ (given_up u64 κ₃ x₃ zs.1.1.1.0) ∷ []) ∵
          suffices ! _ (ends_at 𝓛 lent stayed (thinned 𝓤 c) (((κ, κs), (q, (q₁, (q₂, (q₃, tt)))), tt, a, (vptr b o ∷ [], at)), g) (vint w32 r.node) r.node (r.queue, zs.1) (tt, (e₁, (e₂, (e₃, tt))))) $
          move ! (3 ∷ []) $ split ! $ move ! (4 ∷ 0 ∷ []) $ join ! $ move ! (2 ∷ 3 ∷ 4 ∷ 5 ∷ 6 ∷ []) $
          -- [obs; the borrow; the last lists; the tokens; what is said]
          feq_i ! (List Val) (vptr b o ∷ []) (vptr b o ∷ []) refl $ fjoin3 ! $
          nothing ! $ move ! (4 ∷ 0 ∷ []) $ fjoin ! $ move ! (3 ∷ 0 ∷ []) $ fjoin ! $ move ! (2 ∷ 0 ∷ []) $ fjoin ! $ move ! (1 ∷ 0 ∷ []) $ fjoin ! $
          owned ! u32 (Is u32) (uint_Makes 𝓛 w32) r.node _ (refl, fits) $ move ! (1 ∷ 0 ∷ []) $ join ! $ move ! (1 ∷ 0 ∷ []) $ join ! $ done !

      -- what g's triple binds outside
      abbrev to_value : (ByValue 𝓤 𝓛 c).Ghost
      to_value = ((κs, (q₁, (q₂, (q₃, tt))), tt, (h, beside), (vals h, at)), g)

      abbrev buffers : List RattleType
      buffers = MutSlice (named 1) κ₁ f64 ∷ MutSlice (named 2) κ₂ u32 ∷ MutSlice (named 3) κ₃ u64 ∷ []

      walk : (C : Calls 𝓤 H) (Λ : Loops 𝓤 H) → FmC 𝓤 H 𝓛.laws C → (k : Callee) → Triple 𝓤 (C k) (ByValue 𝓤 𝓛 c) → Room f64 (length x₁.now) → Room u32 (length x₂.now) → Room u64 (length x₃.now)
          → ent 𝓤 (sep 𝓤 (on_entry 𝓛 lent.signature (κ, κs) (q, (q₁, (q₂, (q₃, tt)))) a (vptr b o ∷ [], at)) ((c κs (h, beside)).requires g)) (WpFn 𝓤 H C Λ (thin k) (vptr b o ∷ machine x₁ ∷ machine x₂ ∷ machine x₃ ∷ []) Post)
      walk C Λ fm k known room₁ room₂ room₃ =
          qed 𝓛 (((‵ (flft κ q) ⊛ tokens 𝓤 κ₁ κ₂ κ₃ q₁ q₂ q₃) ⊛ ‵ (owns (MutRef (named 0) κ Queue ∷ buffers) a (vptr b o ∷ [], at))) ∷ raw ((c κs (h, beside)).requires g) ∷ []) ∵ split ! $ enter ! C Λ (thin k) (vptr b o ∷ machine x₁ ∷ machine x₂ ∷ machine x₃ ∷ []) _ $
          alloc1 ! (λ l₀. alloc1 ! (λ l₁. alloc1 ! (λ l₂. alloc1 ! (λ l₃. alloc1 ! (λ l₄. alloc1 ! (λ l₅. alloc1 ! (λ l₆. alloc1 ! (λ l₇. alloc1 ! (λ l₈. alloc1 ! (λ l₉. alloc1 ! (λ l₁₀. alloc1 ! (λ l₁₁. alloc1 ! (λ l₁₂. alloc1 ! (λ l₁₃. alloc0 ! $ params1 ! $
          pass1 ! (init ! 24 refl (tt, tt)) $ pass1 ! (init ! 22 refl (tt, (tt, (record { fits = room₁.0 }, tt)))) $ pass1 ! (init ! 20 refl (tt, (tt, (record { fits = room₂.0 }, tt)))) $ pass1 ! (init ! 18 refl (tt, (tt, (record { fits = room₃.0 }, tt)))) $ pass0 ! $
          move ! (29 ∷ []) $ fsplit ! $ fsplit3 ! $ drop ! $ move ! (31 ∷ []) $ split ! $ move ! (2 ∷ 3 ∷ 0 ∷ []) $ opened ! tt Queue vals tells h b o (λ was.
          -- [the record's cell; what it owns; the open borrow; obs; auth; the buffers' tokens; what the buffers own; _13; …; _1; …; room for _0; …; what g requires]
          assigns ! (of_opd ! (load ! (from ! (hop ! (look ! 31 refl) (stop !))) (look_raw ! 0 refl))) (from ! (stop !)) (init ! 21 refl (typed 𝓛 h was)) $
          slice_again ! 29 19 17 refl refl refl refl refl refl refl refl room₁.0 $
          slice_again ! 27 15 13 refl refl refl refl refl refl refl refl room₂.0 $
          slice_again ! 25 11 9 refl refl refl refl refl refl refl refl room₃.0 $
          move ! (1 ∷ 6 ∷ 5 ∷ 35 ∷ []) $ fjoin ! $ move ! (1 ∷ 0 ∷ []) $ join ! $ join ! $ use1 𝓛 (raw ((ByValue 𝓤 𝓛 c).pre to_value)) (id⊢ 𝓤 _) $
          calls_at ! fm (ByValue 𝓤 𝓛 c) known to_value (and_then ! (local ! 19 refl) (and_then ! (local ! 15 refl) (and_then ! (local ! 11 refl) (and_then ! (local ! 7 refl) (no_more !))))) (λ v.
          told ! tt value c to_value v (λ r zs. use1 𝓛 (tokens 𝓤 κ₁ κ₂ κ₃ q₁ q₂ q₃) (id⊢ 𝓤 _) $ move ! (0 ∷ 3 ∷ []) $ join ! $
          -- [the buffers' tokens and what g ensures; what the result owns; what is said of last lists; the record's cell; the open borrow; obs; auth; _13; …; _1; …; room for _0; …]
          move ! (2 ∷ []) $ fsplit ! $ drop ! $ last_slice ! (λ e₁. move ! (1 ∷ []) $ last_slice ! (λ e₂. move ! (1 ∷ []) $ last_slice ! (λ e₃.
          move ! (5 ∷ []) $ peeks ! PoppedRow (Is PoppedRow) (shows 𝓛 PoppedRow) r (v ∷ []) (λ is.
          -- [what the result owns; marks' last list; …; nodes'; priorities'; the tokens and what g ensures; the record's cell; the open borrow; obs; auth; _13; …; _1; …; room for _0; …]
          land ! (from ! (stop !)) (init ! 26 refl (popped_typed 𝓛 r is)) $
          rewrite ! 26 (λ (u : Val). ‵ (fat full_share popped_type l₅ 0 u)) (ap only (popped_tells r _ is)) refl $
          drop ! $ owned ! Queue (Is Queue) (makes 𝓛) r.queue _ (queue_in r is) $
          assigns ! (of_opd ! (load ! (from ! (fld ! refl (stop !))) (look_in ! 26 (sub ! 0 refl (whole !))))) (from ! (stop !)) (init ! 10 refl (typed 𝓛 r.queue (queue_in r is))) $
          assigns ! (of_opd ! (local ! 10 refl)) (from ! (hop ! (look ! 34 refl) (stop !))) (store_raw ! 6 refl (typed 𝓛 r.queue (queue_in r is))) $
          assigns ! (of_opd ! (load ! (from ! (fld ! refl (stop !))) (look_in ! 26 (sub ! 1 refl (whole !))))) (from ! (stop !)) (init ! 36 refl (tt, record { fits = node_in r is })) $
          move ! (6 ∷ 0 ∷ 7 ∷ 8 ∷ 9 ∷ []) $ closes ! tt Queue r.queue (vals r.queue) b o $
          returns ! (look ! 34 refl) $ move ! (34 ∷ 35 ∷ []) $ gone ! $ move ! (32 ∷ 33 ∷ []) $ gone ! $ move ! (30 ∷ 31 ∷ []) $ gone ! $ move ! (28 ∷ 29 ∷ []) $ gone ! $ move ! (26 ∷ 27 ∷ []) $ gone ! $ move ! (24 ∷ 25 ∷ []) $ gone ! $ move ! (22 ∷ 23 ∷ []) $ gone ! $ move ! (20 ∷ 21 ∷ []) $ gone ! $ move ! (18 ∷ 19 ∷ []) $ gone ! $ move ! (16 ∷ 17 ∷ []) $ gone ! $ move ! (14 ∷ 15 ∷ []) $ gone ! $ move ! (12 ∷ 13 ∷ []) $ gone ! $ move ! (10 ∷ 11 ∷ []) $ gone ! $ move ! (8 ∷ 9 ∷ []) $ gone ! $ free0 ! $
          keep ! (0 ∷ 1 ∷ 2 ∷ 7 ∷ 6 ∷ 5 ∷ 3 ∷ []) $ by ! (exits r (node_in r is) zs e₁ e₂ e₃))))))))))))))))))))))

    -- ---- the function that holds the record in a local
    abbrev HeldPost : Val → SProp 𝓤
    HeldPost = (walk_of 𝓛 value kept c).post ((κs, (q₁, (q₂, (q₃, tt))), tt, (h, beside), (spelled h ∷ [], at)), g)

    exits_held : Is Queue h (spelled h ∷ []) → (r : Popped) → Is PoppedRow r (popped_vals r) → (zs : Lasts value κs (h, beside)) → length zs.1.0 ≡ length x₁.now → length zs.1.1.0 ≡ length x₂.now → length zs.1.1.1.0 ≡ length x₃.now
        → ent 𝓤 (⋆ 𝓛 (said r zs ∷ ‵ (given_up f64 κ₁ x₁ zs.1.0) ∷ ‵ (given_up u32 κ₂ x₂ zs.1.1.0) ∷ ‵ (given_up u64 κ₃ x₃ zs.1.1.1.0) ∷ [])) (HeldPost (only (popped_vals r)))
    exits_held was r is zs e₁ e₂ e₃ =
        qed 𝓛 (said r zs ∷ ‵ (given_up f64 κ₁ x₁ zs.1.0) ∷ ‵ (given_up u32 κ₂ x₂ zs.1.1.0) ∷ ‵ (given_up u64 κ₃ x₃ zs.1.1.1.0) ∷ []) ∵
        suffices ! _ (ends_at 𝓛 value kept c ((κs, (q₁, (q₂, (q₃, tt))), tt, (h, beside), (spelled h ∷ [], at)), g) (only (popped_vals r)) r zs (tt, (e₁, (e₂, (e₃, tt))))) $
        split ! $ move ! (2 ∷ 3 ∷ 4 ∷ []) $
        -- [the last lists; the tokens; what is said]
        nothing ! $ move ! (3 ∷ 0 ∷ []) $ fjoin ! $ move ! (2 ∷ 0 ∷ []) $ fjoin ! $ move ! (1 ∷ 0 ∷ []) $ fjoin ! $ owned ! Queue (Is Queue) (makes 𝓛) h _ was $ fjoin ! $
        owned ! PoppedRow (Is PoppedRow) (popped_makes 𝓛) r _ is $ move ! (1 ∷ 0 ∷ []) $ join ! $ move ! (1 ∷ 0 ∷ []) $ join ! $ done !

    -- what f's triple binds outside: the local at block l, lent for the lifetime ν under the name γ
    abbrev ref : ℕ → GName → MutBor WorkQueue
    ref l γ = record { ref_ptr = (l, 0); ghost_name = γ; now = h }

    abbrev to_thin : ℕ → ℕ → GName → (Thin 𝓤 𝓛 c).Ghost
    to_thin l ν γ = (((ν ∷ [], κs), (full_share, (q₁, (q₂, (q₃, tt)))), tt, (ref l γ, beside), (vptr l 0 ∷ [], at)), g)

    abbrev passed_on : List RattleType
    passed_on = MutSlice (named 0) κ₁ f64 ∷ MutSlice (named 1) κ₂ u32 ∷ MutSlice (named 2) κ₃ u64 ∷ []

    walk_held : (C : Calls 𝓤 H) (Λ : Loops 𝓤 H) → FmC 𝓤 H 𝓛.laws C → (k : Callee) → Triple 𝓤 (C k) (Thin 𝓤 𝓛 c) → Is Queue h (spelled h ∷ []) → Room f64 (length x₁.now) → Room u32 (length x₂.now) → Room u64 (length x₃.now)
        → ent 𝓤 (sep 𝓤 (on_entry 𝓛 value.signature κs (q₁, (q₂, (q₃, tt))) (h, beside) (spelled h ∷ [], at)) ((c κs (h, beside)).requires g)) (WpFn 𝓤 H C Λ (holding k) (spelled h ∷ machine x₁ ∷ machine x₂ ∷ machine x₃ ∷ []) HeldPost)
    walk_held C Λ fm k known was room₁ room₂ room₃ =
        qed 𝓛 ((tokens 𝓤 κ₁ κ₂ κ₃ q₁ q₂ q₃ ⊛ ‵ (owns (Queue ∷ passed_on) (h, beside) (spelled h ∷ [], at))) ∷ raw ((c κs (h, beside)).requires g) ∷ []) ∵ split ! $ enter ! C Λ (holding k) (spelled h ∷ machine x₁ ∷ machine x₂ ∷ machine x₃ ∷ []) _ $
        alloc1 ! (λ l₀. alloc1 ! (λ l₁. alloc1 ! (λ l₂. alloc1 ! (λ l₃. alloc1 ! (λ l₄. alloc1 ! (λ l₅. alloc1 ! (λ l₆. alloc1 ! (λ l₇. alloc1 ! (λ l₈. alloc1 ! (λ l₉. alloc1 ! (λ l₁₀. alloc1 ! (λ l₁₁. alloc1 ! (λ l₁₂. alloc1 ! (λ l₁₃. alloc1 ! (λ l₁₄. alloc0 ! $ params1 ! $
        pass1 ! (init ! 26 refl (typed 𝓛 h was)) $ pass1 ! (init ! 24 refl (tt, (tt, (record { fits = room₁.0 }, tt)))) $ pass1 ! (init ! 22 refl (tt, (tt, (record { fits = room₂.0 }, tt)))) $ pass1 ! (init ! 20 refl (tt, (tt, (record { fits = room₃.0 }, tt)))) $ pass0 ! $ move ! (31 ∷ []) $ fsplit ! $
        -- [what the record owns; what the buffers own; _14; …; _1; …; room for _0; …; the buffers' tokens; what f requires]
        assigns ! (of_opd ! (local ! 28 refl)) (from ! (stop !)) (init ! 20 refl (typed 𝓛 h was)) $
        assigns ! (addr ! (from ! (stop !))) (from ! (stop !)) (init ! 16 refl (tt, tt)) $
        slice_again ! 26 14 12 refl refl refl refl refl refl refl refl room₁.0 $
        slice_again ! 24 10 8 refl refl refl refl refl refl refl refl room₂.0 $
        slice_again ! 22 6 4 refl refl refl refl refl refl refl refl room₃.0 $
        -- the local is lent for a lifetime ν of the call
        move ! (20 ∷ 0 ∷ []) $ use1 𝓛 (‵ (cell_at full_share Queue.mir (vals h) l₅ 0)) (𝓛.laws.at_raw full_share queue_type l₅ 0 (spelled h)) $ lft_new ! tt (λ ν. move ! (1 ∷ 2 ∷ []) $ lends_local ! tt Queue (named 0) (ν ∷ []) h (vals h) l₅ 0 (λ γ.
        -- [the loan; the lender's part; ν's token; what the buffers own; _14; …, with no _5; the buffers' tokens; what f requires]
        move ! (2 ∷ 33 ∷ []) $ join ! $ move ! (1 ∷ 3 ∷ 0 ∷ 33 ∷ []) $ fjoin ! $ move ! (1 ∷ 0 ∷ []) $ join ! $ join ! $ use1 𝓛 (raw ((Thin 𝓤 𝓛 c).pre (to_thin l₅ ν γ))) (id⊢ 𝓤 _) $
        calls_at ! fm (Thin 𝓤 𝓛 c) known (to_thin l₅ ν γ) (and_then ! (local ! 16 refl) (and_then ! (local ! 12 refl) (and_then ! (local ! 8 refl) (and_then ! (local ! 4 refl) (no_more !))))) (λ v.
        told ! tt lent (thinned 𝓤 c) (to_thin l₅ ν γ) v (λ m zs. use1 𝓛 (‵ (flft (ν ∷ []) full_share) ⊛ tokens 𝓤 κ₁ κ₂ κ₃ q₁ q₂ q₃) (id⊢ 𝓤 _) $ split ! $ move ! (1 ∷ 4 ∷ []) $ join ! $
        -- [the buffers' tokens and what f ensures; ν's token; the node; what is said of last values; the lender's part; _14; …, with no _5]
        move ! (3 ∷ []) $ fsplit ! $ fsplit ! $ move ! (1 ∷ []) $ drop ! $ move ! (1 ∷ []) $ last_slice ! (λ e₁. move ! (1 ∷ []) $ last_slice ! (λ e₂. move ! (1 ∷ []) $ last_slice ! (λ e₃.
        move ! (7 ∷ []) $ peeks ! u32 (Is u32) (shows 𝓛 u32) m (v ∷ []) (λ node.
        -- [the node; marks' last list; …; nodes'; priorities'; the record's last value; the tokens and what f ensures; ν's token; the lender's part; _14; …, with no _5]
        land ! (from ! (stop !)) (init ! 25 refl (subst (λ (y : Val). Passes (has_ty (ty_int w32) y) × WT y) (sym (ap only node.0)) (tt, record { fits = node.1 }))) $
        rewrite ! 25 (λ (u : Val). ‵ (fat full_share (ty_int w32) l₆ 0 u)) (ap only node.0) refl $ drop ! $
        -- the lifetime is ended, and the local comes back at that record
        move ! (6 ∷ []) $ lft_end ! tt $ move ! (0 ∷ 7 ∷ 5 ∷ []) $ local_back ! tt Queue vals tells (ν ∷ []) γ zs.0 l₅ 0 (λ is.
        use1 𝓛 (‵ (fat full_share queue_type l₅ 0 (spelled zs.0))) (𝓛.laws.raw_at full_share queue_type l₅ 0 (spelled zs.0)) $
        -- [_5; what the new record owns; marks' last list; …; nodes'; priorities'; the tokens and what f ensures; _14; …, with no _5]
        assigns ! (of_opd ! (local ! 0 refl)) (from ! (stop !)) (init ! 7 refl (typed 𝓛 zs.0 is)) $
        assigns ! (agg ! (and_then ! (local ! 7 refl) (and_then ! (local ! 23 refl) (no_more !)))) (from ! (stop !)) (init ! 34 refl (popped_typed 𝓛 (record { queue = zs.0; node = m }) (popped_is (record { queue = zs.0; node = m }) is node.1))) $
        returns ! (look ! 34 refl) $ move ! (34 ∷ 35 ∷ []) $ gone ! $ move ! (32 ∷ 33 ∷ []) $ gone ! $ move ! (30 ∷ 31 ∷ []) $ gone ! $ move ! (28 ∷ 29 ∷ []) $ gone ! $ move ! (26 ∷ 27 ∷ []) $ gone ! $ move ! (0 ∷ 25 ∷ []) $ gone ! $ move ! (22 ∷ 23 ∷ []) $ gone ! $ move ! (20 ∷ 21 ∷ []) $ gone ! $ move ! (18 ∷ 19 ∷ []) $ gone ! $ move ! (16 ∷ 17 ∷ []) $ gone ! $ move ! (14 ∷ 15 ∷ []) $ gone ! $ move ! (12 ∷ 13 ∷ []) $ gone ! $ move ! (10 ∷ 11 ∷ []) $ gone ! $ move ! (8 ∷ 9 ∷ []) $ gone ! $ move ! (6 ∷ 7 ∷ []) $ gone ! $ free0 ! $
        keep ! (5 ∷ 4 ∷ 3 ∷ 1 ∷ []) $ by ! (exits_held was (record { queue = zs.0; node = m }) (popped_is (record { queue = zs.0; node = m }) is node.1) (tt, zs.1) e₁ e₂ e₃)))))))))))))))))))))))))

module _ {M : Type 1} {𝓤 : Ura M} (𝓛 : Logic 𝓤) (c : Clauses 𝓤 value) (𝓣 : Tables 𝓤 𝓛.H) (k : Callee) where
  open 𝓛 use {H}

  pub replaces : Triple 𝓤 (𝓣.C k) (ByValue 𝓤 𝓛 c) → Meets 𝓛 lent.signature (WpFn 𝓤 H 𝓣.C 𝓣.Λ (thin k)) (closing 𝓛 lent (thinned 𝓤 c))
  replaces known =
      meets_by 𝓛 lent stayed
      (Goes-ref 𝓛 4 0 tt QueueSlot, (Goes-gave_slice 𝓛 4 1 tt (plain (λ _. f64)), (Goes-gave_slice 𝓛 4 2 tt (plain (λ _. u32)), (Goes-gave_slice 𝓛 4 3 tt (plain (λ _. u64)), tt))))
      (thinned 𝓤 c) 𝓣 (thin k)
      (λ κs. (mut_vals, (mut_slice_vals, (mut_slice_vals, (mut_slice_vals, tt)))))
      (λ κs. (mut_Tells (named 0) κs.0 Queue, (mut_slice_Tells (named 1) κs.1.0 f64, (mut_slice_Tells (named 2) κs.1.1.0 u32, (mut_slice_Tells (named 3) κs.1.1.1.0 u64, tt)))))
      (λ κs qs bounds a g are. walk 𝓛 c κs.1.0 κs.1.1.0 κs.1.1.1.0 qs.1.0 qs.1.1.0 qs.1.1.1.0 a.0.now a.1.0 a.1.1.0 a.1.1.1.0 g
      κs.0 qs.0 a.0.ref_ptr.0 a.0.ref_ptr.1 a.0.ghost_name 𝓣.C 𝓣.Λ (fm_of 𝓤 H 𝓛.laws 𝓣) k known are.1.0.0.1 are.1.1.0.0.1 are.1.1.1.0.0.1)

  pub holds : Triple 𝓤 (𝓣.C k) (Thin 𝓤 𝓛 c) → Meets 𝓛 value.signature (WpFn 𝓤 H 𝓣.C 𝓣.Λ (holding k)) (closing 𝓛 value c)
  holds known =
      meets_by 𝓛 value kept
      (Goes-none 𝓛 3 (λ _. Queue) yes (λ κs x f. refl), (Goes-gave_slice 𝓛 3 0 tt (plain (λ _. f64)), (Goes-gave_slice 𝓛 3 1 tt (plain (λ _. u32)), (Goes-gave_slice 𝓛 3 2 tt (plain (λ _. u64)), tt))))
      c 𝓣 (holding k)
      (λ κs. (vals, (mut_slice_vals, (mut_slice_vals, (mut_slice_vals, tt)))))
      (λ κs. (tells, (mut_slice_Tells (named 0) κs.0 f64, (mut_slice_Tells (named 1) κs.1.0 u32, (mut_slice_Tells (named 2) κs.1.1.0 u64, tt)))))
      (λ κs qs bounds a g are. walk_held 𝓛 c κs.0 κs.1.0 κs.1.1.0 qs.0 qs.1.0 qs.1.1.0 a.0 a.1.0 a.1.1.0 a.1.1.1.0 g
      𝓣.C 𝓣.Λ (fm_of 𝓤 H 𝓛.laws 𝓣) k known are.0 are.1.0.0.1 are.1.1.0.0.1 are.1.1.1.0.0.1)
