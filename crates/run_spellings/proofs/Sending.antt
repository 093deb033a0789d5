-- What a step of propagation commits is spellable.
use Rattle.std.proofs.Common.{◌≡◌, ℕ, List, [], Bool, true, false, refl, sym, subst, Option, Some, None, ◌==◌}
use Rattle.std.specs.List.{AllByRecursion}
use Rattle.std.specs.Prelude.{find, option_and_then, if◌then◌else◌}
use Rattle.std.proofs.lemmas.Option.{none-some, same_Some}
use Rattle.queue_rows.specs.Rows.{find_message, slot_of, table_of}
use Rattle.queue_rows.specs.Propagating.{Parcel, Dispatch, Arriving, is_schedule_of, parcel_by, dispatch_by, dispatch_of_slot, dispatch_of, cause_of, taken_in_by, taken_in, has_seen, arriving_by, arriving}
use Rattle.queue_rows.specs.declared.tables.Tables.{Tables}
use Rattle.queue_rows.specs.declared.rows.TableRow.{TableRow}
use Rattle.queue_rows.specs.declared.rows.ScheduleRow.{ScheduleRow}
use Rattle.queue_rows.specs.declared.rows.MsgRow.{MsgRow}
use Rattle.queue_rows.specs.declared.rows.SlotRow.{SlotRow}
use Rattle.queue_rows.specs.declared.change.Change.{Change}
use Rattle.queue_rows.specs.declared.history.SlotRef.{SlotRef}
use Rattle.queue_rows.specs.declared.history.Cause.{Cause}
use Rattle.queue_rows.specs.declared.history.Arrival.TheVariants.{Seen}
use Rattle.queue_rows.specs.World.{other_db, World, database_at}
use Rattle.queue_rows.specs.Sending.{Sending, offers, arrives, confirms, next_sending}
use Rattle.run_laws.proofs.Sendings.{arrives_so, confirms_so}
use Rattle.redo_records.specs.Spellable.{HasFullData, IsFull}
use Rattle.run_spellings.specs.SpellableRun.{AreSpellable, HasSpellableRows, IsSpellableSending, IsSpellableWorld}
use Rattle.run_spellings.proofs.Changing.{confirming_spells}
use Rattle.run_spellings.proofs.Each.{each_of_found}

-- ---- what is sent

-- no cell and no property of what is sent is an empty text
record IsFullParcel (p : Parcel) : Type 0 where
  cells : AllByRecursion IsFull p.facts.cells.cells
  props : AllByRecursion (λ q. IsFull q.value) p.facts.props

-- a parcel has what its message says
parcel_full : (m : MsgRow) (s : SlotRow) (o : Option TableRow) (p : Option ScheduleRow) (d : Dispatch) → HasFullData m → dispatch_by m s o p ≡ Some d → IsFullParcel d.parcel
parcel_full m s None p d h e = absurd (none-some d e)
parcel_full m s (Some table) None d h e = absurd (none-some d e)
parcel_full m s (Some table) (Some schedule) d h e =
    let made : Dispatch = record { parcel = parcel_by m s schedule.to table; schedule = schedule } in subst (λ x. IsFullParcel x.parcel) (same_Some made d e) (record { cells = h.cells; props = h.props })

slot_full : (t : Tables) (m : MsgRow) (o : Option SlotRow) (d : Dispatch) → HasFullData m → option_and_then (dispatch_of_slot t m) o ≡ Some d → IsFullParcel d.parcel
slot_full t m None d h e = absurd (none-some d e)
slot_full t m (Some s) d h e = parcel_full m s (table_of t m.queue) (find (is_schedule_of m.queue s) t.schedules) d h e

sent_full : (t : Tables) (at : SlotRef) (o : Option MsgRow) (d : Dispatch) → HasSpellableRows t → find_message t at.id ≡ o → option_and_then (dispatch_of t at.slot) o ≡ Some d → IsFullParcel d.parcel
sent_full t at None d k f e = absurd (none-some d e)
sent_full t at (Some m) d k f e = slot_full t m (slot_of m at.slot) d (each_of_found HasFullData (λ x. x.id == at.id) t.messages m k.messages f) e

-- ---- arrivals

taken_by : (there : Tables) (at : SlotRef) (p : Parcel) (next moment : ℕ) (o : Option TableRow) → IsFullParcel p → AreSpellable (taken_in_by there at p next moment o)
taken_by there at p next moment None h = tt
taken_by there at p next moment (Some table) h = (record { cells = h.cells; props = h.props }, (tt, tt))

taken_spells : (there : Tables) (at : SlotRef) (p : Parcel) (next moment : ℕ) → IsFullParcel p → AreSpellable (taken_in there at p next moment)
unfolding taken_in
taken_spells there at p next moment h = taken_by there at p next moment (table_of there p.to) h

abbrev SpellsArrival : Arriving → Type 0
SpellsArrival a = AreSpellable a.origin × AreSpellable a.there

arrival_by : (there : Tables) (at : SlotRef) (d : Dispatch) (next moment : ℕ) (o : Option Cause) → IsFullParcel d.parcel → SpellsArrival (arriving_by there at d next moment o)
arrival_by there at d next moment (Some cause) h = ((tt, tt), tt)
arrival_by there at d next moment None h = (tt, taken_spells there at d.parcel next moment h)

abbrev seen_there : Arriving
seen_there = record { outcome = Seen; origin = []; there = [] }

arrival_if : (b : Bool) (a : Arriving) → SpellsArrival a → SpellsArrival (if b then seen_there else a)
arrival_if true a h = (tt, tt)
arrival_if false a h = h

arrival_spells : (there : Tables) (at : SlotRef) (d : Dispatch) (next moment : ℕ) → IsFullParcel d.parcel → SpellsArrival (arriving there at d next moment)
unfolding arriving
arrival_spells there at d next moment h = arrival_if (has_seen there at) (arriving_by there at d next moment (cause_of there d.parcel next)) (arrival_by there at d next moment (cause_of there d.parcel next) h)

-- ---- each step of propagation

arrives_spells : (w : World) (at : SlotRef) (a : Arriving) → IsSpellableWorld w → next_sending w ≡ Some (arrives at a) → AreSpellable a.origin × AreSpellable a.there
arrives_spells w at a k e =
    let x = arrives_so w at a e in
    let t = (database_at at.db w).tables in
    let o = other_db at.db in
    let full = sent_full t at (find_message t at.id) x.dispatched (k.rows at.db) refl x.dispatch_is in
    subst SpellsArrival (sym x.arriving_is) (arrival_spells (database_at o w).tables at x.dispatched (database_at o w).next w.moment full)

confirms_spells : (w : World) (at : SlotRef) (number : ℕ) (cs : List Change) → next_sending w ≡ Some (confirms at number cs) → AreSpellable cs
confirms_spells w at number cs e = let x = confirms_so w at number cs e in subst AreSpellable (sym x.commits) (confirming_spells (database_at at.db w).tables at x.dispatched.schedule w.moment)

pub sending_spells : (w : World) (sending : Sending) → IsSpellableWorld w → next_sending w ≡ Some sending → IsSpellableSending sending
sending_spells w (offers at to) k e = tt
sending_spells w (arrives at a) k e = arrives_spells w at a k e
sending_spells w (confirms at number cs) k e = confirms_spells w at number cs e
