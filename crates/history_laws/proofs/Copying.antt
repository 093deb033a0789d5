-- An arrival that ends with a copy puts a copy of its message in.
use Rattle.std.proofs.Common.{◌≡◌, ℕ, [], ◌∷◌, Bool, true, false, not, refl, sym, ap, subst, Option, Some, None}
use Rattle.std.specs.Prelude.{find, option_and_then, if◌then◌else◌}
use Rattle.std.proofs.lemmas.Option.{none-some}
use Rattle.queue_rows.specs.Rows.{find_table, find_queue, find_message, slot_of, table_of}
use Rattle.queue_rows.specs.Settling.{is_exception}
use Rattle.queue_rows.specs.Propagating.{Parcel, Dispatch, dispatch_by, dispatch_of_slot, dispatch_of, dispatch, is_schedule_of, cause_at_table, cause_at_queue, cause_of, copy_of, copy_slot, taken_in_by, taken_in, is_last_failure, arriving_by, has_seen, arriving}
use Rattle.queue_rows.specs.declared.tables.Tables.{Tables}
use Rattle.queue_rows.specs.declared.rows.TableRow.{TableRow}
use Rattle.queue_rows.specs.declared.rows.QueueRow.{QueueRow}
use Rattle.queue_rows.specs.declared.rows.ScheduleRow.{ScheduleRow}
use Rattle.queue_rows.specs.declared.rows.MsgRow.{MsgRow}
use Rattle.queue_rows.specs.declared.rows.SlotRow.{SlotRow}
use Rattle.queue_rows.specs.declared.change.Change.TheVariants as changes
use Rattle.queue_rows.specs.declared.history.SlotRef.{SlotRef}
use Rattle.queue_rows.specs.declared.history.Cause.{Cause}
use Rattle.queue_rows.specs.declared.history.Cause.TheVariants as causes
use Rattle.queue_rows.specs.declared.history.Arrival.TheVariants.{Copied, Seen, Failed}
use Rattle.history_laws.specs.Arrivals.{IsCopy}

-- ---- what is sent

-- it is the message's, of that slot
record IsSentFrom (o : Option MsgRow) (slot : ℕ) (d : Dispatch) : Type 0 where
  pub message : MsgRow
  pub slot_row : SlotRow
  pub message_is : o ≡ Some message
  pub slot_is : slot_of message slot ≡ Some slot_row
  pub facts : d.parcel.facts ≡ message.facts
  pub expires : d.parcel.expires ≡ slot_row.expires

sent_by : (m : MsgRow) (s : SlotRow) (slot : ℕ) (d : Dispatch) (table : Option TableRow) (schedule : Option ScheduleRow) → slot_of m slot ≡ Some s → dispatch_by m s table schedule ≡ Some d → IsSentFrom (Some m) slot d
sent_by m s slot d None schedule f e = absurd (none-some d e)
sent_by m s slot d (Some table) None f e = absurd (none-some d e)
sent_by m s slot d (Some table) (Some schedule) f e =
    let same : record { parcel = record { to = schedule.to; name = s.name; fields = table.fields; facts = m.facts; expires = s.expires }; schedule = schedule } ≡ d = (let a = e in cc) in
    record { message = m; slot_row = s; message_is = refl; slot_is = f; facts = ap (λ x. x.parcel.facts) (sym same); expires = ap (λ x. x.parcel.expires) (sym same) }

sent_of : (t : Tables) (m : MsgRow) (slot : ℕ) (d : Dispatch) (o : Option SlotRow) → slot_of m slot ≡ o → option_and_then (dispatch_of_slot t m) o ≡ Some d → IsSentFrom (Some m) slot d
sent_of t m slot d None f e = absurd (none-some d e)
sent_of t m slot d (Some s) f e = sent_by m s slot d (table_of t m.queue) (find (is_schedule_of m.queue s) t.schedules) f e

sent_from : (t : Tables) (slot : ℕ) (d : Dispatch) (o : Option MsgRow) → option_and_then (dispatch_of t slot) o ≡ Some d → IsSentFrom o slot d
sent_from t slot d None e = absurd (none-some d e)
sent_from t slot d (Some m) e = sent_of t m slot d (slot_of m slot) refl e

-- ---- where it goes

if_none : {X : Type 0} (b : Bool) (x : X) (o : Option X) → (if b then Some x else o) ≡ None → o ≡ None
if_none true x o e = absurd (none-some x (sym e))
if_none false x o e = e

table_there : (p : Parcel) (next : ℕ) (o : Option TableRow) → cause_at_table p next o ≡ None → (table : TableRow) × (o ≡ Some table)
table_there p next None e = absurd (none-some causes.NoQueue (sym e))
table_there p next (Some table) e = (table, refl)

-- the table of its queue is there, if no cause stands against it
queue_there : (there : Tables) (p : Parcel) (next : ℕ) (o : Option QueueRow) → cause_at_queue there p next o ≡ None → (table : TableRow) × (option_and_then (λ q. find_table there q.table) o ≡ Some table)
queue_there there p next None e = absurd (none-some causes.NoQueue (sym e))
queue_there there p next (Some q) e =
    let at_table = cause_at_table p next (find_table there q.table) in
    let a = if_none (is_exception q.kind) causes.WrongKind (if not q.enqueue then Some causes.EnqueueOff else at_table) e in
    table_there p next (find_table there q.table) (if_none (not q.enqueue) causes.EnqueueOff at_table a)

-- ---- the copy

module _ (t there : Tables) (at : SlotRef) (d : Dispatch) (next moment : ℕ) (e : dispatch t at ≡ Some d) (unseen : has_seen there at ≡ false) (none : cause_of there d.parcel next ≡ None) where
  table_is : (table : TableRow) × (table_of there d.parcel.to ≡ Some table)
  unfolding cause_of
  table_is = queue_there there d.parcel next (find_queue there d.parcel.to) none

  put_in : taken_in there at d.parcel next moment ≡ changes.Enqueued (copy_of table_is.0 d.parcel next there.transaction moment) ∷ changes.Seen (record { id = at.id; slot = at.slot; copy = next }) ∷ []
  unfolding taken_in
  put_in = ap (taken_in_by there at d.parcel next moment) table_is.1

  copy_is : IsCopy t there at next (taken_in there at d.parcel next moment)
  copy_is =
      let from = sent_from t at.slot d (find_message t at.id) e in
      record {
        message = from.message;
        slot = from.slot_row;
        copy = copy_of table_is.0 d.parcel next there.transaction moment;
        copied = copy_slot table_is.0 d.parcel moment;
        message_is = from.message_is;
        slot_is = from.slot_is;
        commits = put_in;
        number = refl;
        facts = from.facts;
        slots = refl;
        expiry = from.expires;
        unseen = unseen;
      }

module _ (t there : Tables) (at : SlotRef) (d : Dispatch) (next moment id : ℕ) (e : dispatch t at ≡ Some d) where
  by_cause : has_seen there at ≡ false → (o : Option Cause) → cause_of there d.parcel next ≡ o → (arriving_by there at d next moment o).outcome ≡ Copied id → IsCopy t there at id (arriving_by there at d next moment o).there
  by_cause unseen (Some cause) f k = absurd (let no : Failed cause (is_last_failure d.schedule) ≡ Copied id = k in cc)
  by_cause unseen None f k =
      let same : next ≡ id = (let a : Copied next ≡ Copied id = k in cc) in
      subst (λ n. IsCopy t there at n (taken_in there at d.parcel next moment)) same (copy_is t there at d next moment e unseen f)

  by_seen : (b : Bool) → has_seen there at ≡ b → (if b then record { outcome = Seen; origin = []; there = [] } else arriving_by there at d next moment (cause_of there d.parcel next)).outcome ≡ Copied id
      → IsCopy t there at id (if b then record { outcome = Seen; origin = []; there = [] } else arriving_by there at d next moment (cause_of there d.parcel next)).there
  by_seen true f k = absurd (let no : Seen ≡ Copied id = k in cc)
  by_seen false f k = by_cause f (cause_of there d.parcel next) refl k

  pub arriving_copies : (arriving there at d next moment).outcome ≡ Copied id → IsCopy t there at id (arriving there at d next moment).there
  unfolding arriving
  arriving_copies k = by_seen (has_seen there at) refl k
