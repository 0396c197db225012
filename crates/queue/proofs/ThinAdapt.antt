-- A function by value, `fn g(q: S, n: T) -> S`, the thin one over it, `fn f(q: &mut S, n: T) { *q = g(*q, n); }`, and the one that holds the record in a local, `fn h(q: S, n: T) -> S { let mut held = q; f(&mut held, n); held }`. S is `Record.antt`'s, and T the settings.
--     thinned          a contract by value, at entry and exit of what the reference refers to
--     replaces         where g meets a contract, f meets the thinned one
--     holds            where f meets the thinned contract, h meets the one by value
-- The walks open the reference, or lend the local, around the one call. The clauses are carried and never read, so that each is said of any contract.
-- Assumes `Logic`.
use types.Logic.{Logic}
use Rattle.queue.proofs.Logic.{refl, sym, ap, subst, [], ◌∷◌, List, ℕ, Passes, Ura, full_share, named, ty_unit, Val, WT, has_ty, vunit, vptr, SProp, ent, id⊢, sep, GName, Lft, Share, ftrue, fat, flft, fobs, fbor, Calls, Loops, WpFn, Item, ‵, raw, ◌⊛◌, ⋆, ◌$◌, ◌∵◌, !, qed, by, move, keep, drop, use1, split, join, fsplit, fsplit3, fjoin, fjoin3, feq_i, feq_l, suffices, done, look, look_raw, init, store_raw, stop, hop, from, load, addr, unit_lit, of_opd, and_then, no_more, assigns, land, returns, enter, alloc1, alloc0, params1, pass1, pass0, free0, lft_new, lft_end, Body, FmC, fm_of, owns, Is, shows, mem, cell_at, MutBor, MutRef, mut_vals, mut_Tells, only, closes, owned, peeks, nothing, Contract, Triple, calls_at, on_entry, triple_of, Stays, stay_ref, stay_none, walk_of, Goes-ref, Goes-none, ends_at, yes, plain}
use mir.Syntax.{Fn, Callee, local as lo, value_local, memory_slot, ty_ref, erased, mut, assign, place, rv_opd, copy, deref, addr_of, call, seq, opd_unit, return}
use prog.Wp.{Tables}
use denote.Memory.{pointee}
use denote.Builtin.{RefMutOf, unit}
use denote.Triple.Clauses.{Ended, Clauses, closing}
use denote.Triple.Spec.{Meets}
use Rattle.refusals.specs.declared.Settings.{Settings}
use Rattle.queue.specs.declared.WorkQueue.{WorkQueue}
use Rattle.queue.proofs.Local.{lends_local, local_back}
use Rattle.queue.proofs.Record.{Queue, QueueSlot, queue_type, vals, spelled, tells, typed, makes, SettingsRow, SettingsSlot, settings_type, settings_vals, settings_spelled, settings_tells, settings_typed, settings_makes}
use Rattle.queue.proofs.Thin.{local, opened, told, gone, meets_by}

-- the code of f and of h, over the key of what each calls
abbrev pub thin : Callee → Fn
thin k = record {
  lifetimes = 1;
  outlives = [];
  ty_params = [];
  givens = 0;
  params = 2;
  locals = lo ty_unit value_local ∷ lo (ty_ref (named 0) mut (pointee Queue.written)) value_local ∷ lo settings_type value_local ∷ lo queue_type value_local ∷ lo queue_type value_local ∷ [];
  body =
      seq (assign (place 4 []) (rv_opd (copy (place 1 (deref queue_type ∷ [])))))
      (seq (call k (copy (place 4 []) ∷ copy (place 2 []) ∷ []) (place 3 []))
      (seq (assign (place 1 (deref queue_type ∷ [])) (rv_opd (copy (place 3 []))))
      (seq (assign (place 0 []) (rv_opd opd_unit))
      return)));
}

abbrev pub holding : Callee → Fn
holding k = record {
  lifetimes = 0;
  outlives = [];
  ty_params = [];
  givens = 0;
  params = 2;
  locals = lo queue_type value_local ∷ lo queue_type value_local ∷ lo settings_type value_local ∷ lo queue_type memory_slot ∷ lo ty_unit value_local ∷ lo (ty_ref erased mut (pointee Queue.written)) value_local ∷ [];
  body =
      seq (assign (place 3 []) (rv_opd (copy (place 1 []))))
      (seq (assign (place 5 []) (addr_of (place 3 [])))
      (seq (call k (copy (place 5 []) ∷ copy (place 2 []) ∷ []) (place 4 []))
      (seq (assign (place 0 []) (rv_opd (copy (place 3 []))))
      return)));
}

-- the two signatures
abbrev pub value : Ended
value = record { signature = record { lifetimes = 0; outlives = []; params = QueueSlot ∷ SettingsSlot ∷ []; result = QueueSlot }; kept = (yes, (yes, tt)) }

abbrev pub lent : Ended
lent = record { signature = record { lifetimes = 1; outlives = []; params = RefMutOf (0 ∷ []) tt QueueSlot (λ κs. tt) ∷ SettingsSlot ∷ []; result = plain (λ κs. unit) }; kept = (yes, (yes, tt)) }

module _ {M : Type 1} (𝓤 : Ura M) where
  abbrev pub thinned : Clauses 𝓤 value → Clauses 𝓤 lent
  thinned c κs a = record { ghost = (c tt (a.0.now, a.1)).ghost; requires = (c tt (a.0.now, a.1)).requires; ensures = λ g _ e. (c tt (a.0.now, a.1)).ensures g e.0.now (a.0.now, e.1) }

  module _ (𝓛 : Logic 𝓤) (c : Clauses 𝓤 value) where
    abbrev pub ByValue : Contract 𝓤
    ByValue = triple_of 𝓛 value.signature (closing 𝓛 value c)

    abbrev pub Thin : Contract 𝓤
    Thin = triple_of 𝓛 lent.signature (closing 𝓛 lent (thinned c))

-- ---- the thin function
abbrev stayed : Stays lent.signature.params lent.kept
stayed = (stay_ref (0 ∷ []) tt QueueSlot, (stay_none (λ _. SettingsRow) yes, tt))

module _ {M : Type 1} {𝓤 : Ura M} (𝓛 : Logic 𝓤) (c : Clauses 𝓤 value) (κ : Lft) (q : Share) (b o : ℕ) (γ : GName) (h : WorkQueue) (n : Settings) (n_is : Is SettingsRow n (settings_vals n)) (g : (c tt (h, (n, tt))).ghost) where
  open 𝓛 use {H}

  abbrev a : MutBor WorkQueue × (Settings × Unit {0})
  a = (record { ref_ptr = (b, o); ghost_name = γ; now = h }, (n, tt))

  abbrev at : List Val × (List Val × Unit {0})
  at = (vptr b o ∷ [], (settings_vals n, tt))

  abbrev Post : Val → SProp 𝓤
  Post = (walk_of 𝓛 lent stayed (thinned 𝓤 c)).post (((κ, tt), (q, tt), tt, a, at), g)

  -- what the contract says of the record r that came back
  abbrev said : WorkQueue → Item 𝓤
  said r = raw ((c tt (h, (n, tt))).ensures g r (h, (n, tt)))

  exits : (r : WorkQueue) → ent 𝓤 (⋆ 𝓛 (‵ (fobs γ (Queue.coded.code r)) ∷ ‵ (fbor κ (Body (mem Queue) b o γ)) ∷ ‵ (flft κ q) ∷ said r ∷ [])) (Post vunit)
  exits r =
      qed 𝓛 (‵ (fobs γ (Queue.coded.code r)) ∷ ‵ (fbor κ (Body (mem Queue) b o γ)) ∷ ‵ (flft κ q) ∷ said r ∷ []) ∵
      suffices ! _ (ends_at 𝓛 lent stayed (thinned 𝓤 c) (((κ, tt), (q, tt), tt, a, at), g) vunit tt (r, (tt, tt)) (tt, (tt, tt))) $ nothing ! $ move ! (3 ∷ 0 ∷ []) $ join ! $
      move ! (1 ∷ 2 ∷ []) $ feq_i ! (List Val) (vptr b o ∷ []) (vptr b o ∷ []) refl $ fjoin3 ! $ nothing ! $ owned ! SettingsRow (Is SettingsRow) (settings_makes 𝓛) n _ n_is $ fjoin ! $ move ! (1 ∷ 0 ∷ []) $ fjoin ! $ feq_i ! (List Val) (vunit ∷ []) (vunit ∷ []) refl $ move ! (1 ∷ 0 ∷ []) $ join ! $ move ! (1 ∷ 0 ∷ []) $ join ! $ done !

  -- what g's triple binds outside
  abbrev to_value : (ByValue 𝓤 𝓛 c).Ghost
  to_value = ((tt, tt, tt, (h, (n, tt)), (vals h, (settings_vals n, tt))), g)

  walk : (C : Calls 𝓤 H) (Λ : Loops 𝓤 H) → FmC 𝓤 H 𝓛.laws C → (k : Callee) → Triple 𝓤 (C k) (ByValue 𝓤 𝓛 c)
      → ent 𝓤 (sep 𝓤 (on_entry 𝓛 lent.signature (κ, tt) (q, tt) a at) ((c tt (h, (n, tt))).requires g)) (WpFn 𝓤 H C Λ (thin k) (vptr b o ∷ settings_spelled n ∷ []) Post)
  walk C Λ fm k known =
      qed 𝓛 (((‵ (flft κ q) ⊛ ‵ ftrue) ⊛ ‵ (owns (MutRef (named 0) κ Queue ∷ SettingsRow ∷ []) a at)) ∷ raw ((c tt (h, (n, tt))).requires g) ∷ []) ∵ split ! $ enter ! C Λ (thin k) (vptr b o ∷ settings_spelled n ∷ []) _ $
      alloc1 ! (λ l₀. alloc1 ! (λ l₁. alloc1 ! (λ l₂. alloc1 ! (λ l₃. alloc1 ! (λ l₄. alloc0 ! $ params1 ! $ pass1 ! (init ! 6 refl (tt, tt)) $ pass1 ! (init ! 4 refl (settings_typed 𝓛 n n_is)) $ pass0 ! $
      move ! (11 ∷ []) $ fsplit ! $ fsplit3 ! $ drop ! $ move ! (13 ∷ []) $ split ! $ move ! (2 ∷ 3 ∷ 0 ∷ []) $ opened ! tt Queue vals tells h b o (λ was.
      -- [the record's cell; what it owns; the open borrow; obs; auth; true; what the settings own; _4; …; _1; …; room for _0; …; what g requires]
      assigns ! (of_opd ! (load ! (from ! (hop ! (look ! 13 refl) (stop !))) (look_raw ! 0 refl))) (from ! (stop !)) (init ! 7 refl (typed 𝓛 h was)) $
      move ! (1 ∷ 6 ∷ 5 ∷ 17 ∷ []) $ fjoin ! $ move ! (1 ∷ 0 ∷ []) $ join ! $ join ! $ use1 𝓛 (raw ((ByValue 𝓤 𝓛 c).pre to_value)) (id⊢ 𝓤 _) $
      calls_at ! fm (ByValue 𝓤 𝓛 c) known to_value (and_then ! (local ! 5 refl) (and_then ! (local ! 9 refl) (no_more !))) (λ v. told ! tt value c to_value v (λ r _.
      move ! (0 ∷ 2 ∷ []) $ drop ! $ drop ! $ peeks ! Queue (Is Queue) (shows 𝓛 Queue) r (v ∷ []) (λ is.
      -- [what the new record owns; what g ensures; the record's cell; the open borrow; obs; auth; _4; …; _1; …; room for _0; …]
      land ! (from ! (stop !)) (init ! 8 refl (typed 𝓛 r is)) $
      assigns ! (of_opd ! (local ! 8 refl)) (from ! (hop ! (look ! 12 refl) (stop !))) (store_raw ! 2 refl (typed 𝓛 r is)) $
      assigns ! (of_opd ! (unit_lit !)) (from ! (stop !)) (init ! 14 refl (tt, tt)) $
      move ! (2 ∷ 0 ∷ 3 ∷ 4 ∷ 5 ∷ []) $ closes ! tt Queue r (v ∷ []) b o $
      returns ! (look ! 12 refl) $ move ! (12 ∷ 13 ∷ []) $ gone ! $ move ! (10 ∷ 11 ∷ []) $ gone ! $ move ! (8 ∷ 9 ∷ []) $ gone ! $ move ! (6 ∷ 7 ∷ []) $ gone ! $ move ! (4 ∷ 5 ∷ []) $ gone ! $ free0 ! $ keep ! (0 ∷ 1 ∷ 2 ∷ 3 ∷ []) $ by ! (exits r))))))))))

module _ {M : Type 1} {𝓤 : Ura M} (𝓛 : Logic 𝓤) (c : Clauses 𝓤 value) (𝓣 : Tables 𝓤 𝓛.H) (k : Callee) where
  open 𝓛 use {H}

  pub replaces : Triple 𝓤 (𝓣.C k) (ByValue 𝓤 𝓛 c) → Meets 𝓛 lent.signature (WpFn 𝓤 H 𝓣.C 𝓣.Λ (thin k)) (closing 𝓛 lent (thinned 𝓤 c))
  replaces known =
      meets_by 𝓛 lent stayed (Goes-ref 𝓛 1 0 tt QueueSlot, (Goes-none 𝓛 1 (λ _. SettingsRow) yes (λ κs x f. refl), tt)) (thinned 𝓤 c) 𝓣 (thin k) (λ κs. (mut_vals, (settings_vals, tt))) (λ κs. (mut_Tells (named 0) κs.0 Queue, (settings_tells, tt)))
      (λ κs qs bounds a g are. walk 𝓛 c κs.0 qs.0 a.0.ref_ptr.0 a.0.ref_ptr.1 a.0.ghost_name a.0.now a.1.0 are.1.0 g 𝓣.C 𝓣.Λ (fm_of 𝓤 H 𝓛.laws 𝓣) k known)

-- ---- the function that holds the record in a local
abbrev kept : Stays value.signature.params value.kept
kept = (stay_none (λ _. Queue) yes, (stay_none (λ _. SettingsRow) yes, tt))

module _ {M : Type 1} {𝓤 : Ura M} (𝓛 : Logic 𝓤) (c : Clauses 𝓤 value) (h : WorkQueue) (n : Settings) (n_is : Is SettingsRow n (settings_vals n)) (g : (c tt (h, (n, tt))).ghost) where
  open 𝓛 use {H}

  abbrev HeldPost : Val → SProp 𝓤
  HeldPost = (walk_of 𝓛 value kept c).post ((tt, tt, tt, (h, (n, tt)), (spelled h ∷ [], (settings_vals n, tt))), g)

  exits_held : Is Queue h (spelled h ∷ []) → (r : WorkQueue) → ent 𝓤 (⋆ 𝓛 (‵ (Queue.own_val r (spelled r ∷ [])) ∷ raw ((c tt (h, (n, tt))).ensures g r (h, (n, tt))) ∷ [])) (HeldPost (spelled r))
  exits_held was r =
      qed 𝓛 (‵ (Queue.own_val r (spelled r ∷ [])) ∷ raw ((c tt (h, (n, tt))).ensures g r (h, (n, tt))) ∷ []) ∵
      suffices ! _ (ends_at 𝓛 value kept c ((tt, tt, tt, (h, (n, tt)), (spelled h ∷ [], (settings_vals n, tt))), g) (spelled r) r (tt, (tt, tt)) (tt, (tt, tt))) $
      nothing ! $ owned ! SettingsRow (Is SettingsRow) (settings_makes 𝓛) n _ n_is $ fjoin ! $ owned ! Queue (Is Queue) (makes 𝓛) h _ was $ fjoin ! $ join ! $ nothing ! $ join ! $ done !

  -- what f's triple binds outside: the local at block l, lent for the lifetime ν under the name γ
  abbrev ref : ℕ → GName → MutBor WorkQueue
  ref l γ = record { ref_ptr = (l, 0); ghost_name = γ; now = h }

  abbrev to_thin : ℕ → ℕ → GName → (Thin 𝓤 𝓛 c).Ghost
  to_thin l ν γ = (((ν ∷ [], tt), (full_share, tt), tt, (ref l γ, (n, tt)), (vptr l 0 ∷ [], (settings_vals n, tt))), g)

  walk_held : (C : Calls 𝓤 H) (Λ : Loops 𝓤 H) → FmC 𝓤 H 𝓛.laws C → (k : Callee) → Triple 𝓤 (C k) (Thin 𝓤 𝓛 c) → Is Queue h (spelled h ∷ [])
      → ent 𝓤 (sep 𝓤 (on_entry 𝓛 value.signature tt tt (h, (n, tt)) (spelled h ∷ [], (settings_vals n, tt))) ((c tt (h, (n, tt))).requires g)) (WpFn 𝓤 H C Λ (holding k) (spelled h ∷ settings_spelled n ∷ []) HeldPost)
  walk_held C Λ fm k known was =
      qed 𝓛 ((‵ ftrue ⊛ ‵ (owns (Queue ∷ SettingsRow ∷ []) (h, (n, tt)) (spelled h ∷ [], (settings_vals n, tt)))) ∷ raw ((c tt (h, (n, tt))).requires g) ∷ []) ∵ split ! $ drop ! $ enter ! C Λ (holding k) (spelled h ∷ settings_spelled n ∷ []) _ $
      alloc1 ! (λ l₀. alloc1 ! (λ l₁. alloc1 ! (λ l₂. alloc1 ! (λ l₃. alloc1 ! (λ l₄. alloc1 ! (λ l₅. alloc0 ! $ params1 ! $ pass1 ! (init ! 8 refl (typed 𝓛 h was)) $ pass1 ! (init ! 6 refl (settings_typed 𝓛 n n_is)) $ pass0 ! $
      move ! (12 ∷ []) $ fsplit ! $
      -- [what the record owns; what the settings own; _5; …; _1; …; room for _0; …; what f requires]
      assigns ! (of_opd ! (local ! 10 refl)) (from ! (stop !)) (init ! 6 refl (typed 𝓛 h was)) $
      assigns ! (addr ! (from ! (stop !))) (from ! (stop !)) (init ! 2 refl (tt, tt)) $
      -- the local is lent for a lifetime ν of the call
      move ! (6 ∷ 0 ∷ []) $ use1 𝓛 (‵ (cell_at full_share Queue.mir (vals h) l₃ 0)) (𝓛.laws.at_raw full_share queue_type l₃ 0 (spelled h)) $ lft_new ! tt (λ ν. move ! (1 ∷ 2 ∷ []) $ lends_local ! tt Queue (named 0) (ν ∷ []) h (vals h) l₃ 0 (λ γ.
      -- [the loan; the lender's part; ν's token; what the settings own; _5; …, with no _3; what f requires]
      nothing ! $ move ! (3 ∷ 0 ∷ []) $ join ! $ move ! (1 ∷ 3 ∷ 0 ∷ []) $ fjoin ! $ move ! (1 ∷ 0 ∷ []) $ join ! $ move ! (0 ∷ 13 ∷ []) $ join ! $ use1 𝓛 (raw ((Thin 𝓤 𝓛 c).pre (to_thin l₃ ν γ))) (id⊢ 𝓤 _) $
      calls_at ! fm (Thin 𝓤 𝓛 c) known (to_thin l₃ ν γ) (and_then ! (local ! 2 refl) (and_then ! (local ! 7 refl) (no_more !))) (λ v. told ! tt lent (thinned 𝓤 c) (to_thin l₃ ν γ) v (λ _ zs.
      use1 𝓛 (‵ (flft (ν ∷ []) full_share) ⊛ ‵ ftrue) (id⊢ 𝓤 _) $ move ! (1 ∷ []) $ feq_l ! (λ unit. move ! (1 ∷ []) $ fsplit ! $ fsplit ! $ move ! (1 ∷ []) $ drop ! $
      -- [the record's last value; true; the token; what f ensures; the lender's part; _5; …, with no _3]
      land ! (from ! (stop !)) (init ! 7 refl (subst (λ (y : Val). Passes (has_ty ty_unit y) × WT y) (sym (ap only unit)) (tt, tt))) $
      -- the lifetime is ended, and the local comes back at that record
      move ! (2 ∷ []) $ split ! $ lft_end ! tt $ move ! (0 ∷ 5 ∷ 2 ∷ []) $ local_back ! tt Queue vals tells (ν ∷ []) γ zs.0 l₃ 0 (λ is.
      use1 𝓛 (‵ (fat full_share queue_type l₃ 0 (spelled zs.0))) (𝓛.laws.raw_at full_share queue_type l₃ 0 (spelled zs.0)) $
      -- [_3; what the new record owns; true; true; what f ensures; _5; …, with no _3]
      assigns ! (of_opd ! (local ! 0 refl)) (from ! (stop !)) (init ! 14 refl (typed 𝓛 zs.0 is)) $
      returns ! (look ! 14 refl) $ move ! (14 ∷ 15 ∷ []) $ gone ! $ move ! (12 ∷ 13 ∷ []) $ gone ! $ move ! (10 ∷ 11 ∷ []) $ gone ! $ move ! (0 ∷ 9 ∷ []) $ gone ! $ move ! (6 ∷ 7 ∷ []) $ gone ! $ move ! (4 ∷ 5 ∷ []) $ gone ! $ free0 ! $ keep ! (0 ∷ 3 ∷ []) $ by ! (exits_held was zs.0)))))))))))))

module _ {M : Type 1} {𝓤 : Ura M} (𝓛 : Logic 𝓤) (c : Clauses 𝓤 value) (𝓣 : Tables 𝓤 𝓛.H) (k : Callee) where
  open 𝓛 use {H}

  pub holds : Triple 𝓤 (𝓣.C k) (Thin 𝓤 𝓛 c) → Meets 𝓛 value.signature (WpFn 𝓤 H 𝓣.C 𝓣.Λ (holding k)) (closing 𝓛 value c)
  holds known =
      meets_by 𝓛 value kept (Goes-none 𝓛 0 (λ _. Queue) yes (λ κs x f. refl), (Goes-none 𝓛 0 (λ _. SettingsRow) yes (λ κs x f. refl), tt)) c 𝓣 (holding k) (λ κs. (vals, (settings_vals, tt))) (λ κs. (tells, (settings_tells, tt)))
      (λ κs qs bounds a g are. walk_held 𝓛 c a.0 a.1.0 are.1.0 g 𝓣.C 𝓣.Λ (fm_of 𝓤 H 𝓛.laws 𝓣) k known are.0)
