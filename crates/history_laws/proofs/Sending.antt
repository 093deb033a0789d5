-- What is sent of valid tables is a recipient's slot, which goes to the other database.
use Rattle.std.proofs.Common.{◌≡◌, ℕ, List, Bool, true, false, not, refl, sym, ap, ◌∙◌, Option, Some, None, ◌==◌, ◌&&◌}
use Rattle.std.specs.Prelude.{find, option_and_then, is_some, nat_le, if◌then◌else◌}
use Rattle.std.specs.List.{list_all}
use Rattle.std.specs.Option.{option_map_or}
use Rattle.std.specs.Str.{bytes_eq}
use Rattle.std.proofs.lemmas.Bool.{eqb-true, and_parts, not-true, false≢true}
use Rattle.std.proofs.lemmas.Option.{none-some}
use Rattle.aq_base.specs.declared.limits.TheConstants.{MOMENT_LIMIT}
use Rattle.queue_rows.specs.Rows.{find_table, find_queue, find_message, slot_of, table_of, recipient_slots}
use Rattle.queue_rows.specs.Settling.{is_exception}
use Rattle.queue_rows.specs.Catalog.{has_subscribers}
use Rattle.queue_rows.specs.Propagating.{Dispatch, goes_to, is_schedule_of, parcel_by, dispatch_by, dispatch_of_slot, dispatch_of, dispatch}
use Rattle.queue_rows.specs.Within.{if_some, is_time, is_span}
use Rattle.queue_rows.specs.Valid.{is_valid, is_valid_schedule, has_subscribers_in, takes_subscribers, has_right_failures, is_valid_message, is_valid_message_at, is_valid_message_in, is_right_queue, has_right_cells, has_right_ids, has_right_place, has_right_lane, has_right_props, has_right_slots, has_right_recipients, has_right_names, is_right_if_moved, has_right_retries, has_allowed_retries, has_begun}
use Rattle.queue_rows.specs.declared.tables.Tables.{Tables}
use Rattle.queue_rows.specs.declared.rows.TableRow.{TableRow}
use Rattle.queue_rows.specs.declared.rows.QueueRow.{QueueRow}
use Rattle.queue_rows.specs.declared.rows.ScheduleRow.{ScheduleRow}
use Rattle.queue_rows.specs.declared.rows.MsgRow.{MsgRow}
use Rattle.queue_rows.specs.declared.rows.SlotRow.{SlotRow}
use Rattle.queue_rows.specs.declared.history.SlotRef.{SlotRef}
use Rattle.row_laws.proofs.Finding.{found_is}
use Rattle.row_laws.proofs.Slots.{slot_of-zero}
use Rattle.valid_laws.proofs.Parts.{parts_of, valid_messages, all_found, six_parts}
use Rattle.valid_laws.proofs.Cataloguing.{same_name}
use Rattle.history_laws.specs.LocalMarks.{is_remote_slot, is_remote_at}

-- the message, its slot, its table and the schedule are there, and so it is sent
pub record IsSentBy (t : Tables) (o : Option MsgRow) (slot : ℕ) (d : Dispatch) : Type 0 where
  pub message : MsgRow
  pub row : SlotRow
  pub table : TableRow
  pub schedule : ScheduleRow
  pub message_is : o ≡ Some message
  pub slot_is : slot_of message slot ≡ Some row
  pub table_is : table_of t message.queue ≡ Some table
  pub parcel_is : d.parcel ≡ parcel_by message row schedule.to table
  pub schedule_is : find (is_schedule_of message.queue row) t.schedules ≡ Some schedule

by_schedule : (t : Tables) (m : MsgRow) (s : SlotRow) (slot : ℕ) (d : Dispatch) (table : Option TableRow) (schedule : Option ScheduleRow) → slot_of m slot ≡ Some s → table_of t m.queue ≡ table → find (is_schedule_of m.queue s) t.schedules ≡ schedule → dispatch_by m s table schedule ≡ Some d → IsSentBy t (Some m) slot d
by_schedule t m s slot d None schedule f k g e = absurd (none-some d e)
by_schedule t m s slot d (Some table) None f k g e = absurd (none-some d e)
by_schedule t m s slot d (Some table) (Some schedule) f k g e =
    let same : record { parcel = parcel_by m s schedule.to table; schedule = schedule } ≡ d = (let a = e in cc) in
    record { message = m; row = s; table = table; schedule = schedule; message_is = refl; slot_is = f; table_is = k; parcel_is = ap (λ x. x.parcel) (sym same); schedule_is = g }

by_slot : (t : Tables) (m : MsgRow) (slot : ℕ) (d : Dispatch) (o : Option SlotRow) → slot_of m slot ≡ o → option_and_then (dispatch_of_slot t m) o ≡ Some d → IsSentBy t (Some m) slot d
by_slot t m slot d None f e = absurd (none-some d e)
by_slot t m slot d (Some s) f e = by_schedule t m s slot d (table_of t m.queue) (find (is_schedule_of m.queue s) t.schedules) f refl refl e

pub by_message : (t : Tables) (slot : ℕ) (d : Dispatch) (o : Option MsgRow) → option_and_then (dispatch_of t slot) o ≡ Some d → IsSentBy t o slot d
by_message t slot d None e = absurd (none-some d e)
by_message t slot d (Some m) e = by_slot t m slot d (slot_of m slot) refl e

goes_if : (to : List ℕ) (o : Option (List ℕ)) → option_map_or (λ address. bytes_eq address to) o false ≡ true → is_some o ≡ true
goes_if to None h = h
goes_if to (Some address) h = refl

unmoved_if : (m : MsgRow) (b c : Bool) → (if b then c else not c) ≡ true → c ≡ false → b ≡ false
unmoved_if m true c h e = absurd (false≢true (sym e ∙ h))
unmoved_if m false c h e = refl

-- what a valid message has of its queue and its table
pub record IsRightIn (m : MsgRow) (q : QueueRow) (table : TableRow) : Type 0 where
  pub queue : is_right_queue m q ≡ true
  pub cells : has_right_cells table m ≡ true
  pub props : has_right_props m ≡ true
  pub names : has_right_names table m ≡ true

right_in : (t : Tables) (m : MsgRow) (q : QueueRow) (table : TableRow) → is_valid_message_in t q (Some table) m ≡ true → IsRightIn m q table
right_in t m q table k =
    let p6 = and_parts (is_right_queue m q && has_right_cells table m && has_right_ids t m && has_right_place table m && has_right_lane table q m && has_right_props m && nat_le m.enq t.latest) (has_right_slots t table q m) k in
    let p5 = and_parts (is_right_queue m q && has_right_cells table m && has_right_ids t m && has_right_place table m && has_right_lane table q m && has_right_props m) (nat_le m.enq t.latest) p6.0 in
    let p4 = and_parts (is_right_queue m q && has_right_cells table m && has_right_ids t m && has_right_place table m && has_right_lane table q m) (has_right_props m) p5.0 in
    let p3 = and_parts (is_right_queue m q && has_right_cells table m && has_right_ids t m && has_right_place table m) (has_right_lane table q m) p4.0 in
    let p2 = and_parts (is_right_queue m q && has_right_cells table m && has_right_ids t m) (has_right_place table m) p3.0 in
    let p1 = and_parts (is_right_queue m q && has_right_cells table m) (has_right_ids t m) p2.0 in
    let p0 = and_parts (is_right_queue m q) (has_right_cells table m) p1.0 in
    let slots = six_parts (has_right_recipients m) (has_right_names table m) (is_right_if_moved m) (list_all has_right_retries m.slots) (list_all (has_allowed_retries q) (recipient_slots m)) (list_all (has_begun t.latest) m.slots) p6.1 in
    record { queue = p0.0; cells = p0.1; props = p4.1; names = slots.1 }

-- a message of a queue that takes subscribers is right for it, and was not moved
pub record StandsNormal (t : Tables) (m : MsgRow) : Type 0 where
  pub queue : QueueRow
  pub table : TableRow
  pub queue_is : find_queue t m.queue ≡ Some queue
  pub table_is : find_table t queue.table ≡ Some table
  pub right : IsRightIn m queue table
  pub unmoved : m.moved ≡ false
  pub many : table.multi ≡ true

module _ (t : Tables) (v : is_valid t ≡ true) where
  stands_in : (m : MsgRow) (q : QueueRow) (o : Option TableRow) → find_queue t m.queue ≡ Some q → find_table t q.table ≡ o → is_valid_message_in t q o m ≡ true → has_subscribers q o ≡ true → StandsNormal t m
  stands_in m q None f g k h = absurd (false≢true h)
  stands_in m q (Some table) f g k h =
      let r = right_in t m q table k in
      let p = and_parts table.multi (not (is_exception q.kind)) h in
      record { queue = q; table = table; queue_is = f; table_is = g; right = r; unmoved = unmoved_if m m.moved (is_exception q.kind) r.queue (not-true (is_exception q.kind) p.1); many = p.0 }

  stands_normal : (m : MsgRow) (id : ℕ) (o : Option QueueRow) → find_message t id ≡ Some m → find_queue t m.queue ≡ o → has_subscribers_in t o ≡ true → StandsNormal t m
  stands_normal m id None e f h = absurd (false≢true h)
  stands_normal m id (Some q) e f h =
      let valid : is_valid_message t m ≡ true = all_found (is_valid_message t) (λ x. x.id == id) t.messages m (valid_messages t v) e in
      stands_in m q (find_table t q.table) f refl (ap (λ o. is_valid_message_at t o m) (sym f) ∙ valid) h

  takes : (s : ScheduleRow) (p : ScheduleRow → Bool) → find p t.schedules ≡ Some s → takes_subscribers t s.queue ≡ true
  takes s p e =
      (six_parts (takes_subscribers t s.queue) (has_right_failures s) (nat_le s.start MOMENT_LIMIT) (if_some is_span s.duration) (if_some is_span s.period) (is_time s.latency) (all_found (is_valid_schedule t) p t.schedules s (parts_of t v).schedules e)).0

  remote_by : (m : MsgRow) (row : SlotRow) (slot : ℕ) (b : Bool) → (slot == 0) ≡ b → slot_of m slot ≡ Some row → m.moved ≡ false → is_some row.address ≡ true → is_remote_slot slot m ≡ true
  remote_by m row slot true e f u g = absurd (none-some row (sym (slot_of-zero m u) ∙ ap (slot_of m) (sym (eqb-true slot 0 e)) ∙ f))
  remote_by m row slot false e f u g = ap (λ b. not b && option_map_or (λ s. is_some s.address) (slot_of m slot) false) e ∙ ap (λ o. option_map_or (λ s. is_some s.address) o false) f ∙ g

  -- so the message of what is sent is
  pub sent_normal : (at : SlotRef) (d : Dispatch) → (k : IsSentBy t (find_message t at.id) at.slot d) → StandsNormal t k.message
  sent_normal at d k =
      let p = and_parts (bytes_eq k.schedule.queue k.message.queue) (goes_to k.schedule.to k.row) (found_is (is_schedule_of k.message.queue k.row) t.schedules k.schedule k.schedule_is) in
      let own : takes_subscribers t k.message.queue ≡ true = ap (takes_subscribers t) (sym (same_name k.schedule.queue k.message.queue p.0)) ∙ takes k.schedule (is_schedule_of k.message.queue k.row) k.schedule_is in
      stands_normal k.message at.id (find_queue t k.message.queue) k.message_is refl own

  remote_so : (at : SlotRef) (d : Dispatch) → IsSentBy t (find_message t at.id) at.slot d → is_remote_at t at.id at.slot ≡ true
  remote_so at d k =
      let p = and_parts (bytes_eq k.schedule.queue k.message.queue) (goes_to k.schedule.to k.row) (found_is (is_schedule_of k.message.queue k.row) t.schedules k.schedule k.schedule_is) in
      ap (λ o. option_map_or (is_remote_slot at.slot) o false) k.message_is ∙ remote_by k.message k.row at.slot (at.slot == 0) refl k.slot_is (sent_normal at d k).unmoved (goes_if k.schedule.to k.row.address p.1)

pub sent_is_remote : (t : Tables) (at : SlotRef) (d : Dispatch) → is_valid t ≡ true → dispatch t at ≡ Some d → is_remote_at t at.id at.slot ≡ true
sent_is_remote t at d v e = remote_so t v at d (by_message t at.slot d (find_message t at.id) e)
