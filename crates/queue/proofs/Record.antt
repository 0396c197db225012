-- The records `WorkQueue`, `Popped` and `Settings` as the walks use them: their types, their machine values, and what is known of one.
--     Queue, vals, tells       the row of `WorkQueue`, how a record's machine values are spelled, and that its relation tells them.        spelled      the one that there is
--     typed, makes             what is related to a record has the struct's MIR type, and owns what a record owns
--     PoppedRow, popped_vals, popped_tells, popped_typed, popped_makes     the same of `Popped`
--     SettingsRow, settings_vals, settings_spelled, settings_tells, settings_typed, settings_makes     and of `Settings`
--     queue_type, popped_type, settings_type    the structs' MIR types.        QueueSlot, PoppedSlot, SettingsSlot        their places in a signature
--     queue_in, node_in        what is known of the fields of a `Popped`.        popped_is        from these what is known of it
-- `typed`, `makes` and those of `Popped` and `Settings` take `Logic`. The rest assumes nothing.
use Prim.Native.Nat.{ℕ, ◌<◌, ◌^◌}
use mathlib.Core.Path.{refl}
use mathlib.Core.List.{List, [], ◌∷◌}
use lib.Dec.{T as Passes}
use seplogic.Ra.Ura.{Ura}
use mir.Syntax.{Ty}
use mir.Val.{Val, WT, has_ty}
use types.Logic.{Logic}
use denote.RattleType.{RattleType}
use denote.Laws.{Is, Tells, Makes}
use denote.Signature.{Slot, plain}
use denote.Steps.{only}
use denote.Struct.Laws as LL
use Rattle.refusals.specs.declared.Settings.{Settings}
use Rattle.refusals.specs.contracts.Settings as S
use Rattle.refusals.proofs.Settings.TheLaws as S'
use Rattle.queue.specs.declared.WorkQueue.{WorkQueue}
use Rattle.queue.specs.declared.Popped.{Popped}
use Rattle.queue.specs.contracts.WorkQueue as T
use Rattle.queue.proofs.WorkQueue.TheLaws as T'
use Rattle.queue.specs.contracts.Popped as R
use Rattle.queue.proofs.Popped.TheLaws as R'

abbrev pub Queue : RattleType
Queue = T.the_row

abbrev pub QueueSlot : {n : ℕ} → Slot n
QueueSlot = plain (λ _. T.the_row)

abbrev pub queue_type : Ty
queue_type = T'.mir

abbrev pub vals : WorkQueue → List Val
vals = LL.vals T.the_type T'.the_laws

abbrev pub spelled : WorkQueue → Val
spelled r = only (vals r)

pub tells : Tells Queue (Is Queue) vals
tells = LL.tells T.the_type T'.the_laws

abbrev pub PoppedRow : RattleType
PoppedRow = R.the_row

abbrev pub PoppedSlot : {n : ℕ} → Slot n
PoppedSlot = plain (λ _. R.the_row)

abbrev pub popped_type : Ty
popped_type = R'.mir

abbrev pub popped_vals : Popped → List Val
popped_vals = LL.vals R.the_type R'.the_laws

pub popped_tells : Tells PoppedRow (Is PoppedRow) popped_vals
popped_tells = LL.tells R.the_type R'.the_laws

abbrev pub SettingsRow : RattleType
SettingsRow = S.the_row

abbrev pub SettingsSlot : {n : ℕ} → Slot n
SettingsSlot = plain (λ _. S.the_row)

abbrev pub settings_type : Ty
settings_type = S'.mir

abbrev pub settings_vals : Settings → List Val
settings_vals = LL.vals S.the_type S'.the_laws

abbrev pub settings_spelled : Settings → Val
settings_spelled n = only (settings_vals n)

pub settings_tells : Tells SettingsRow (Is SettingsRow) settings_vals
settings_tells = LL.tells S.the_type S'.the_laws

pub queue_in : (r : Popped) {vs : List Val} → Is PoppedRow r vs → Is Queue r.queue (vals r.queue)
queue_in r is = (LL.owed R.the_type R'.the_laws r _ is).0

pub node_in : (r : Popped) {vs : List Val} → Is PoppedRow r vs → r.node < 2 ^ 32
node_in r is = (LL.owed R.the_type R'.the_laws r _ is).1.0.1

pub popped_is : (r : Popped) → Is Queue r.queue (vals r.queue) → r.node < 2 ^ 32 → Is PoppedRow r (popped_vals r)
popped_is r queue node = LL.owes R.the_type R'.the_laws r (queue, ((refl, node), tt))

module _ {M : Type 1} {𝓤 : Ura M} (𝓛 : Logic 𝓤) where
  pub typed : (h : WorkQueue) {v : Val} → Is Queue h (v ∷ []) → Passes (has_ty queue_type v) × WT v
  typed h is = ((LL.lawful T.the_type T'.the_laws 𝓛).typed h _ is).0

  pub makes : Makes 𝓛 Queue (Is Queue)
  makes = LL.makes T.the_type T'.the_plain 𝓛

  pub popped_typed : (r : Popped) {v : Val} → Is PoppedRow r (v ∷ []) → Passes (has_ty popped_type v) × WT v
  popped_typed r is = ((LL.lawful R.the_type R'.the_laws 𝓛).typed r _ is).0

  pub popped_makes : Makes 𝓛 PoppedRow (Is PoppedRow)
  popped_makes = LL.makes R.the_type R'.the_plain 𝓛

  pub settings_typed : (n : Settings) {v : Val} → Is SettingsRow n (v ∷ []) → Passes (has_ty settings_type v) × WT v
  settings_typed n is = ((LL.lawful S.the_type S'.the_laws 𝓛).typed n _ is).0

  pub settings_makes : Makes 𝓛 SettingsRow (Is SettingsRow)
  settings_makes = LL.makes S.the_type S'.the_plain 𝓛
