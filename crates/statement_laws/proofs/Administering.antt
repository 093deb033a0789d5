-- What the sessions of a database hold stands behind administrative statements that are accepted.
use Rattle.std.proofs.Common.{◌≡◌, ◌≤◌, ◌+◌, ◌⊎◌, inl, inr, ℕ, zero, suc, List, [], ◌∷◌, Bool, true, false, not, length, max, refl, sym, ap, ◌∙◌, subst, arith, Option, Some, None, Result, Ok, Err, ◌==◌, ◌&&◌, ◌||◌}
use Rattle.std.specs.Prelude.{slice_get, slice_set, get_or, find, filter, filter_map, flat_map, nat_le, int_le, is_some, is_none, unwrap_or, option_and_then, if◌then◌else◌}
use Rattle.std.specs.List.{list_any, list_all, cons_option, enumerate_from}
use Rattle.std.specs.Option.{option_map_or}
use Rattle.std.specs.Str.{bytes_eq}
use Rattle.std.proofs.lemmas.Bool.{cond_both, eqb-true, eq-eqb, and_parts, and_from, or_parts, or_from, leb-true, not-true, not_from_false, false_from_ne_true, false≢true, true≢false}
use Rattle.std.proofs.lemmas.Option.{none-some}
use Rattle.aq_base.specs.declared.DbId.{DbId}
use Rattle.aq_base.specs.declared.DbId.TheVariants.{Home, Away}
use Rattle.payload_records.specs.Name.{is_name}
use Rattle.payload_records.specs.declared.TheConstants.{FIELD_LIMIT}
use Rattle.payload_records.specs.declared.kind.Field.{Field}
use Rattle.place_keys.specs.declared.sort_list.Column.{Column}
use Rattle.aq_base.specs.declared.limits.TheConstants.{MOMENT_LIMIT, SUBSCRIBER_LIMIT, RECIPIENT_LIMIT}
use Rattle.slot_marks.specs.declared.mark.Mark.{Mark}
use Rattle.rule_conditions.specs.declared.condition.Cond.{Cond}
use Rattle.queue_rows.specs.Rows.{find_message, find_table, find_queue, find_sub, find_schedule, is_sub, exception_name, slot_of, removed_first, is_same_table, is_same_queue, is_same_sub, is_same_schedule, recipient_count, recipient_slots}
use Rattle.queue_rows.specs.Tables.{after_change, after, drop_queue, drop_table, lane_of}
use Rattle.queue_rows.specs.Settling.{is_exception, is_open, settling, settled, names_of}
use Rattle.queue_rows.specs.Distinct.{are_distinct}
use Rattle.queue_rows.specs.Session.{Session, is_same_db, marks_slot}
use Rattle.queue_rows.specs.Meaning.{answers}
use Rattle.queue_rows.specs.Catalog as c
use Rattle.queue_rows.specs.Catalog.{Judged, judged, is_table_used, is_queue_used, new_queue, exception_row, started, stopped, has_subscribers, fresh_schedule, is_slot_of, dropped_slot, dropped_of, dropped_in}
use Rattle.queue_rows.specs.Conditions.{optional_condition}
use Rattle.queue_rows.specs.Recipients.{has_consumers, subscribers_of}
use Rattle.queue_rows.specs.Administration.{Affected, is_affected_at, is_marked, is_added, works_on, is_sent, is_outstanding, in_queue, of_subscriber, is_hindered, administered, administer}
use Rattle.queue_rows.specs.World.{committed_tables}
use Rattle.queue_rows.specs.Within.{is_within, is_admin_within, is_table_name, are_fields}
use Rattle.queue_rows.specs.Valid.{is_valid, is_same_message, is_same_seen, has_right_recipients, is_same_recipient}
use Rattle.queue_rows.specs.declared.tables.Tables.{Tables}
use Rattle.queue_rows.specs.declared.rows.TableRow.{TableRow}
use Rattle.queue_rows.specs.declared.rows.QueueRow.{QueueRow}
use Rattle.queue_rows.specs.declared.rows.QueueKind.{QueueKind}
use Rattle.queue_rows.specs.declared.rows.SubRow.{SubRow}
use Rattle.queue_rows.specs.declared.rows.ScheduleRow.{ScheduleRow}
use Rattle.queue_rows.specs.declared.rows.MsgRow.{MsgRow}
use Rattle.queue_rows.specs.declared.rows.SlotRow.{SlotRow}
use Rattle.queue_rows.specs.declared.session.Pending.{Pending}
use Rattle.queue_rows.specs.declared.session.Pending.TheVariants.{Add, Remove}
use Rattle.queue_rows.specs.declared.history.SlotRef.{SlotRef}
use Rattle.queue_rows.specs.declared.change.Change.{Change}
use Rattle.queue_rows.specs.declared.change.Change.TheVariants as changes
use Rattle.queue_rows.specs.declared.reply.Reply.{Reply}
use Rattle.queue_rows.specs.declared.reply.ConditionFault.{ConditionFault}
use Rattle.queue_rows.specs.declared.statement.Admin.{Admin}
use Rattle.queue_rows.specs.declared.statement.Admin.TheVariants as asks
use Rattle.queue_rows.specs.declared.statement.Statement.TheVariants as statements
use Rattle.row_laws.proofs.Finding.{found_is, filter-yes, filter-no, none_in_filter, find_filter, find_other_removed, kept}
use Rattle.row_laws.proofs.Distinctly.{single_if_distinct}
use Rattle.row_laws.proofs.Latest.{at_latest}
use Rattle.valid_laws.specs.Openness.{is_open_slot, is_open_at}
use Rattle.valid_laws.specs.Touching.{is_of_slot, puts_in, is_put_in}
use Rattle.valid_laws.specs.PendingLaws.{IsAdditionRight, IsPendingRight, depth_of}
use Rattle.valid_laws.specs.ValidLaws.{QueueGoes, TableGoes}
use Rattle.valid_laws.specs.CatalogueLaws.{TableIsNew}
use Rattle.valid_laws.proofs.Parts.{parts_of, all_found, six_parts, valid_distinct}
use Rattle.valid_laws.proofs.Placing.{find_put, find_other_put}
use Rattle.valid_laws.proofs.Extending.{IsFoundAs, seen_of}
use Rattle.valid_laws.proofs.Cataloguing as g
use Rattle.valid_laws.proofs.Cataloguing.{same_name, own_name}
use Rattle.valid_laws.proofs.Tabling.{all_gone, queue_kept}
use Rattle.valid_laws.proofs.Opened.{found_with, open_of}
use Rattle.valid_laws.proofs.Exceptions.{default_exit}
use Rattle.valid_laws.proofs.Making.{made, queue_found, one_settles}
use Rattle.valid_laws.proofs.Judging.{none_of, some_of}
use Rattle.valid_laws.proofs.Retrying.{in_normal_unmoved}
use Rattle.valid_laws.proofs.Dropping.{AreFrom, from_one, from_next, from_first, normal_of, subscriber_goes}
use Rattle.valid_laws.proofs.Framing.{any_append, any_flat, settled_none}
use Rattle.statement_laws.specs.Sessions.{is_removal_of}
use Rattle.statement_laws.specs.StandingLaws.{count_held, AreStanding, HoldsAs}
use Rattle.statement_laws.proofs.Among.{Says, says_so, Each, IsFoundIn, each_found}
use Rattle.statement_laws.proofs.Framing.{any_at, removed_marked}
use Rattle.statement_laws.proofs.Standing.{others_standing}
use Rattle.statement_laws.proofs.Stepping.{same_standing}

-- ---- tables with another catalogue

-- What sessions hold is there in other tables: their marks, the queues of their additions, and no lane has sunk.
pub record KeepsHeld (t u : Tables) (db : DbId) (moment : ℕ) (sessions : List Session) : Type 0 where
  pub new : (id : ℕ) → find_message t id ≡ None → find_message u id ≡ None
  pub marks : (i : ℕ) (s : Session) → slice_get sessions i ≡ Some s → is_same_db s.at db ≡ true → (id slot : ℕ) → list_any (marks_slot id slot) s.marks ≡ true → is_open_at t id slot ≡ true → is_open_at u id slot ≡ true
  pub adds : (i : ℕ) (s : Session) → slice_get sessions i ≡ Some s → is_same_db s.at db ≡ true → (m : MsgRow) → ((q : Pending → Bool) → q (Add m) ≡ true → list_any q s.pending ≡ true) → IsAdditionRight t moment m → (row : QueueRow) → find_queue t m.queue ≡ Some row
      → IsFoundAs t u m.queue row
  pub lanes : (name : List ℕ) (q : QueueRow) → find_queue u name ≡ Some q → (depth_of q.lowest ≡ 0) ⊎ ((old : QueueRow) × (find_queue t name ≡ Some old) × (q.lowest ≡ old.lowest))
  pub next : u.next ≡ t.next
  pub transaction : u.transaction ≡ t.transaction

module _ (t u : Tables) (db : DbId) (next moment : ℕ) (sessions : List Session) (k : AreStanding t db next moment sessions) (h : KeepsHeld t u db moment sessions) where
  addition_in : (m : MsgRow) (a : IsAdditionRight t moment m) → IsFoundAs t u m.queue a.queue → IsAdditionRight u moment m
  addition_in m a x = record {
    queue = x.row;
    table = a.table;
    new = h.new m.id a.new;
    queue_is = x.row_is;
    table_is = x.table_is ∙ a.table_is;
    normal = ap (λ q. is_exception q.kind) x.seen ∙ a.normal;
    unmoved = a.unmoved;
    typed = a.typed;
    place = a.place;
    lane = λ before. ap (λ q. int_le q.lowest (lane_of m.place)) x.seen ∙ a.lane before;
    props = a.props;
    recipients = a.recipients;
    names = a.names;
    untried = a.untried;
    entered = a.entered;
    id = a.id;
    id_within = a.id_within;
  }

  pending_in : (i : ℕ) (s : Session) → slice_get sessions i ≡ Some s → is_same_db s.at db ≡ true → (p : Pending) → ((q : Pending → Bool) → q p ≡ true → list_any q s.pending ≡ true) → IsPendingRight t moment p → IsPendingRight u moment p
  pending_in i s e f (Add m) among a = addition_in m a (h.adds i s e f m among a a.queue a.queue_is)
  pending_in i s e f (Remove id slot) among o =
      h.marks i s e f id slot (removed_marked s id slot (k.each i s e f).agree (among (is_removal_of id slot) (and_from (id == id) (slot == slot) (eq-eqb id id refl) (eq-eqb slot slot refl)))) o

  lane_by : (n : ℕ) → t.next ≤ n → (q : QueueRow) (name : List ℕ) → (depth_of q.lowest ≡ 0) ⊎ ((old : QueueRow) × (find_queue t name ≡ Some old) × (q.lowest ≡ old.lowest)) → count_held db sessions n + depth_of q.lowest ≤ n
  lane_by n le q name (inl e) = let a = k.room.groups n le in omega (arith, a, e)
  lane_by n le q name (inr x) = let a = k.room.lanes n le name x.0 x.1 in let e = ap depth_of x.2 in omega (arith, a, e)

  pub held_standing : AreStanding u db next moment sessions
  held_standing = record {
    each = λ i s e f. let x = k.each i s e f in record {
      right = λ j d lt. pending_in i s e f (get_or s.pending j d) (λ q w. any_at q s.pending j d lt w) (x.right j d lt);
      apart = x.apart;
      given = x.given;
      agree = x.agree;
      marked = λ id slot m. h.marks i s e f id slot m (x.marked id slot m);
    };
    two = k.two;
    room = record {
      lanes = λ n le name q f. let e = h.next in lane_by n (omega (arith, le, e)) q name (h.lanes name q f);
      groups = λ n le. let e = h.next in let g = h.transaction in let a = k.room.groups n (omega (arith, le, e)) in omega (arith, a, g);
    };
    up = let e = h.next in let a = k.up in omega (arith, a, e);
  }

-- ---- queues

queues_distinct : (t : Tables) → is_valid t ≡ true → are_distinct is_same_queue t.queues ≡ true
queues_distinct t v = (six_parts (are_distinct is_same_table t.tables) (are_distinct is_same_queue t.queues) (are_distinct is_same_sub t.subs) (are_distinct is_same_schedule t.schedules) (are_distinct is_same_message t.messages) (are_distinct is_same_seen t.seen) (parts_of t v).rows).1

-- no queue of a name is left where the first of it went
none_named : {A : Type 0} (queues : List QueueRow) (name other : List ℕ) (q : QueueRow) → are_distinct is_same_queue queues ≡ true → bytes_eq other name ≡ true → find (λ x. bytes_eq x.name other) (removed_first (λ x. bytes_eq x.name name) queues) ≡ Some q → A
none_named queues name other q d e f =
    let gone = all_gone is_same_queue (λ x. bytes_eq x.name name) (λ x y a b. ap (bytes_eq x.name) (same_name y.name name b) ∙ a) queues d in
    let is_it : bytes_eq q.name name ≡ true = ap (bytes_eq q.name) (sym (same_name other name e)) ∙ found_is (λ x. bytes_eq x.name other) (removed_first (λ x. bytes_eq x.name name) queues) q f in
    absurd (true≢false (sym is_it ∙ not-true (bytes_eq q.name name) (all_found (λ x. not (bytes_eq x.name name)) (λ x. bytes_eq x.name other) (removed_first (λ x. bytes_eq x.name name) queues) q gone f)))

-- ---- queues that are put

module _ (t : Tables) (db : DbId) (moment : ℕ) (sessions : List Session) (row : QueueRow) (same : (old : QueueRow) → find_queue t row.name ≡ Some old → seen_of row ≡ seen_of old) (fresh : find_queue t row.name ≡ None → depth_of row.lowest ≡ 0) where
  abbrev put : Tables
  put = after_change t (changes.PutQueue row)

  old_by : (name : List ℕ) (o : Option QueueRow) → row.name ≡ name → find_queue t row.name ≡ o → (depth_of row.lowest ≡ 0) ⊎ ((old : QueueRow) × (find_queue t name ≡ Some old) × (row.lowest ≡ old.lowest))
  old_by name None e f = inl (fresh f)
  old_by name (Some old) e f = inr (old, ap (find_queue t) (sym e) ∙ f, ap (λ q. q.lowest) (same old f))

  put_by_name : (name : List ℕ) (q : QueueRow) (b : Bool) → bytes_eq row.name name ≡ b → find_queue put name ≡ Some q → (depth_of q.lowest ≡ 0) ⊎ ((old : QueueRow) × (find_queue t name ≡ Some old) × (q.lowest ≡ old.lowest))
  put_by_name name q true e f =
      let named : row.name ≡ name = same_name row.name name e in
      let own : find_queue put name ≡ Some row = find_put is_same_queue row (λ x. bytes_eq x.name name) e (λ x d. ap (bytes_eq x.name) (sym named) ∙ d) t.queues in
      let it : row ≡ q = (let a : Some row ≡ Some q = sym own ∙ f in cc) in
      subst (λ x. (depth_of x.lowest ≡ 0) ⊎ ((old : QueueRow) × (find_queue t name ≡ Some old) × (x.lowest ≡ old.lowest))) it (old_by name (find_queue t row.name) named refl)
  put_by_name name q false e f =
      inr (q, sym (find_other_put is_same_queue row (λ x. bytes_eq x.name name) e (λ x d. ap (λ n. bytes_eq n name) (same_name x.name row.name d) ∙ e) t.queues) ∙ f, refl)

  found_by : (name : List ℕ) (q : QueueRow) (b : Bool) → bytes_eq row.name name ≡ b → find_queue t name ≡ Some q → IsFoundAs t (after_change t (changes.PutQueue row)) name q
  found_by name q true e f =
      let named : row.name ≡ name = same_name row.name name e in
      let old : seen_of row ≡ seen_of q = same q (ap (find_queue t) named ∙ f) in
      record {
        row = row;
        row_is = find_put is_same_queue row (λ x. bytes_eq x.name name) e (λ x d. ap (bytes_eq x.name) (sym named) ∙ d) t.queues;
        seen = old;
        table_is = ap (λ x. find_table t x.table) old;
      }
  found_by name q false e f = record {
    row = q;
    row_is = find_other_put is_same_queue row (λ x. bytes_eq x.name name) e (λ x d. ap (λ n. bytes_eq n name) (same_name x.name row.name d) ∙ e) t.queues ∙ f;
    seen = refl;
    table_is = refl;
  }

  pub put_keeps : KeepsHeld t (after_change t (changes.PutQueue row)) db moment sessions
  put_keeps = record {
    new = λ id h. h;
    marks = λ i s e f id slot m o. o;
    adds = λ i s e f m among a q w. found_by m.queue q (bytes_eq row.name m.queue) refl w;
    lanes = λ name q f. put_by_name name q (bytes_eq row.name name) refl f;
    next = refl;
    transaction = refl;
  }

-- ---- a queue that goes

-- of the queue no session has marked or adds a message
pub record IsClear (t : Tables) (db : DbId) (sessions : List Session) (affects : Affected) : Type 0 where
  pub marks : (i : ℕ) (s : Session) → slice_get sessions i ≡ Some s → is_same_db s.at db ≡ true → (id slot : ℕ) → list_any (marks_slot id slot) s.marks ≡ true → is_affected_at t affects id slot ≡ false
  pub adds : (i : ℕ) (s : Session) → slice_get sessions i ≡ Some s → is_same_db s.at db ≡ true → list_any (is_added affects) s.pending ≡ false

mark_clear : (t : Tables) (affects : Affected) (id slot : ℕ) (marks : List Mark) → list_any (λ mark. is_affected_at t affects mark.id mark.slot) marks ≡ false → list_any (marks_slot id slot) marks ≡ true → is_affected_at t affects id slot ≡ false
mark_clear t affects id slot [] h m = absurd (false≢true m)
mark_clear t affects id slot (mark ∷ marks) h m =
    let p = or_parts (is_affected_at t affects mark.id mark.slot) (list_any (λ x. is_affected_at t affects x.id x.slot) marks) h in
    by (marks_slot id slot mark) refl p.0 m (mark_clear t affects id slot marks p.1)
  where
    by : (b : Bool) → marks_slot id slot mark ≡ b → is_affected_at t affects mark.id mark.slot ≡ false → (b || list_any (marks_slot id slot) marks) ≡ true → (list_any (marks_slot id slot) marks ≡ true → is_affected_at t affects id slot ≡ false) → is_affected_at t affects id slot ≡ false
    by true e a w ih =
        let q = and_parts (mark.id == id) (mark.slot == slot) e in ap (λ n. is_affected_at t affects n slot) (sym (eqb-true mark.id id q.0)) ∙ ap (is_affected_at t affects mark.id) (sym (eqb-true mark.slot slot q.1)) ∙ a
    by false e a w ih = ih w

second_of : (a b : Bool) → a ≡ true → (a && b) ≡ false → b ≡ false
second_of true b e h = h
second_of false b e h = absurd (false≢true e)

clear_in : (t : Tables) (db : DbId) (affects : Affected) (sessions : List Session) (i : ℕ) (s : Session) → list_any (works_on t db affects) sessions ≡ false → slice_get sessions i ≡ Some s → works_on t db affects s ≡ false
clear_in t db affects [] i s h e = absurd (none-some s e)
clear_in t db affects (x ∷ xs) zero s h e = let same : x ≡ s = (let a : Some x ≡ Some s = e in cc) in ap (works_on t db affects) (sym same) ∙ (or_parts (works_on t db affects x) (list_any (works_on t db affects) xs) h).0
clear_in t db affects (x ∷ xs) (suc i) s h e = clear_in t db affects xs i s (or_parts (works_on t db affects x) (list_any (works_on t db affects) xs) h).1 e

pub clear_of : (t : Tables) (db : DbId) (sessions : List Session) (sent : Option SlotRef) (affects : Affected) → is_outstanding t db sessions sent affects ≡ false → IsClear t db sessions affects
clear_of t db sessions sent affects h =
    let none = (or_parts (list_any (works_on t db affects) sessions) (is_sent t db affects sent) h).0 in
    record {
      marks = λ i s e f id slot m. mark_clear t affects id slot s.marks (or_parts (list_any (is_added affects) s.pending) (is_marked t affects s) (second_of (is_same_db s.at db) (list_any (is_added affects) s.pending || is_marked t affects s) f (clear_in t db affects sessions i s none e))).1 m;
      adds = λ i s e f. (or_parts (list_any (is_added affects) s.pending) (is_marked t affects s) (second_of (is_same_db s.at db) (list_any (is_added affects) s.pending || is_marked t affects s) f (clear_in t db affects sessions i s none e))).0;
    }

-- an addition has a recipient
some_slot : (m : MsgRow) → has_right_recipients m ≡ true → m.moved ≡ false → 1 ≤ length m.slots
some_slot m h u =
    let p = and_parts (nat_le 1 (recipient_count m) && nat_le (recipient_count m) RECIPIENT_LIMIT) (are_distinct is_same_recipient (recipient_slots m)) h in
    let q = leb-true 1 (recipient_count m) (and_parts (nat_le 1 (recipient_count m)) (nat_le (recipient_count m) RECIPIENT_LIMIT) p.0).0 in
    let e : recipient_count m ≡ length m.slots = rw u refl in
    omega (arith, q, e)

any_of_some : (xs : List SlotRow) → 1 ≤ length xs → list_any (λ (x : SlotRow). true) xs ≡ true
any_of_some [] le = absurd (let no : 1 ≤ 0 = le in omega (arith, no))
any_of_some (x ∷ xs) le = refl

other_queue_by : (m : MsgRow) (name : List ℕ) (b : Bool) → bytes_eq m.queue name ≡ b → 1 ≤ length m.slots → list_any (λ slot. in_queue name m (Some slot)) m.slots ≡ false → b ≡ false
other_queue_by m name true e le h = absurd (true≢false (sym (any_of_some m.slots le) ∙ sym (same_any m.slots) ∙ h))
  where
    same_any : (xs : List SlotRow) → list_any (λ slot. in_queue name m (Some slot)) xs ≡ list_any (λ (x : SlotRow). true) xs
    same_any [] = refl
    same_any (x ∷ xs) = ap (λ b. b || list_any (λ slot. in_queue name m (Some slot)) xs) e
other_queue_by m name false e le h = refl

-- an addition to another queue than the one that is clear
adds_elsewhere : (t : Tables) (db : DbId) (moment : ℕ) (sessions : List Session) (name : List ℕ) → IsClear t db sessions (in_queue name) → (i : ℕ) (s : Session) → slice_get sessions i ≡ Some s → is_same_db s.at db ≡ true → (m : MsgRow)
    → ((q : Pending → Bool) → q (Add m) ≡ true → list_any q s.pending ≡ true) → IsAdditionRight t moment m → bytes_eq m.queue name ≡ false
adds_elsewhere t db moment sessions name clear i s e f m among a =
    let none : list_any (λ slot. in_queue name m (Some slot)) m.slots ≡ false =
    false_from_ne_true (list_any (λ slot. in_queue name m (Some slot)) m.slots) (λ yes. true≢false (sym (among (is_added (in_queue name)) yes) ∙ clear.adds i s e f)) in
    other_queue_by m name (bytes_eq m.queue name) refl (some_slot m a.recipients a.unmoved) none

module _ (t : Tables) (db : DbId) (moment : ℕ) (sessions : List Session) (name : List ℕ) (v : is_valid t ≡ true) (k : QueueGoes t name) (clear : IsClear t db sessions (in_queue name)) where
  open_kept : (id slot : ℕ) → is_affected_at t (in_queue name) id slot ≡ false → is_open_at t id slot ≡ true → is_open_at (drop_queue t name) id slot ≡ true
  open_kept id slot a o =
      let x = found_with t id (is_open_slot slot) o in
      let other : bytes_eq x.0.queue name ≡ false = sym (ap (λ y. option_map_or (λ m. in_queue name m (slot_of m slot)) y false) x.1) ∙ a in
      let stays : kept (λ m. not (bytes_eq m.queue name)) x.0 ≡ Some x.0 = rw (not_from_false (bytes_eq x.0.queue name) other) refl in
      open_of (drop_queue t name) id slot x.0
      (find_filter (λ m. m.id == id) (λ m. not (bytes_eq m.queue name)) t.messages (single_if_distinct t id (valid_distinct t v)) ∙ ap (option_and_then (kept (λ m. not (bytes_eq m.queue name)))) x.1 ∙ stays) x.2

  distinct_queues : are_distinct is_same_queue t.queues ≡ true
  distinct_queues = queues_distinct t v

  left_queue_by : (other : List ℕ) (q : QueueRow) (b : Bool) → bytes_eq other name ≡ b → find_queue (drop_queue t name) other ≡ Some q → find_queue t other ≡ Some q
  left_queue_by other q true e f = none_named t.queues name other q distinct_queues e f
  left_queue_by other q false e f =
      sym (find_other_removed (λ x. bytes_eq x.name name) (λ x. bytes_eq x.name other) (λ y h. ap (λ n. bytes_eq n other) (same_name y.name name h) ∙ g.turned other name e) t.queues) ∙ f

  pub drop_keeps : KeepsHeld t (drop_queue t name) db moment sessions
  drop_keeps = record {
    new = λ id h. none_in_filter (λ m. m.id == id) (λ m. not (bytes_eq m.queue name)) t.messages h;
    marks = λ i s e f id slot m o. open_kept id slot (clear.marks i s e f id slot m) o;
    adds = λ i s e f m among a q w. g.kept_queue t name v k m.queue q (adds_elsewhere t db moment sessions name clear i s e f m among a) w;
    lanes = λ other q f. inr (q, left_queue_by other q (bytes_eq other name) refl f, refl);
    next = refl;
    transaction = refl;
  }

-- ---- a table that goes, and a new one

module _ (t : Tables) (db : DbId) (moment : ℕ) (sessions : List Session) (name : List ℕ) (v : is_valid t ≡ true) (k : TableGoes t name) where
  -- an addition is to a normal queue
  normal_by : (m : MsgRow) (a : IsAdditionRight t moment m) (b : Bool) → bytes_eq m.queue (exception_name name) ≡ b → b ≡ false
  normal_by m a true e =
      let exit = default_exit t name k.table v k.found in
      let there : find_queue t m.queue ≡ Some exit.to = ap (find_queue t) (same_name m.queue (exception_name name) e) ∙ exit.to_is in
      let same : a.queue ≡ exit.to = (let x : Some a.queue ≡ Some exit.to = sym a.queue_is ∙ there in cc) in
      absurd (true≢false (sym exit.exception ∙ ap (λ q. is_exception q.kind) (sym same) ∙ a.normal))
  normal_by m a false e = refl

  left_queue_of : (other : List ℕ) (q : QueueRow) (b : Bool) → bytes_eq other (exception_name name) ≡ b → find_queue (drop_table t name) other ≡ Some q → find_queue t other ≡ Some q
  left_queue_of other q true e f = none_named t.queues (exception_name name) other q (queues_distinct t v) e f
  left_queue_of other q false e f =
      sym (find_other_removed (λ x. bytes_eq x.name (exception_name name)) (λ x. bytes_eq x.name other) (λ y h. ap (λ n. bytes_eq n other) (same_name y.name (exception_name name) h) ∙ g.turned other (exception_name name) e) t.queues) ∙ f

  pub table_drop_keeps : KeepsHeld t (drop_table t name) db moment sessions
  table_drop_keeps = record {
    new = λ id h. h;
    marks = λ i s e f id slot m o. o;
    adds = λ i s e f m among a q w. queue_kept t name v k m.queue q (normal_by m a (bytes_eq m.queue (exception_name name)) refl) w;
    lanes = λ other q f. inr (q, left_queue_of other q (bytes_eq other (exception_name name)) refl f, refl);
    next = refl;
    transaction = refl;
  }

module _ (t : Tables) (db : DbId) (moment : ℕ) (sessions : List Session) (row : TableRow) (v : is_valid t ≡ true) (k : TableIsNew t row) where
  made_queue_by : (name : List ℕ) (q : QueueRow) (b : Bool) → bytes_eq (exception_name row.name) name ≡ b → find_queue (made t row v k) name ≡ Some q → (depth_of q.lowest ≡ 0) ⊎ ((old : QueueRow) × (find_queue t name ≡ Some old) × (q.lowest ≡ old.lowest))
  made_queue_by name q true e f =
      let same : exception_name row.name ≡ name = same_name (exception_name row.name) name e in
      let own : find_queue (made t row v k) name ≡ Some (exception_row row.name) = find_put is_same_queue (exception_row row.name) (λ x. bytes_eq x.name name) e (λ x d. ap (bytes_eq x.name) (sym same) ∙ d) t.queues in
      let it : exception_row row.name ≡ q = (let a : Some (exception_row row.name) ≡ Some q = sym own ∙ f in cc) in
      inl (ap (λ x. depth_of x.lowest) (sym it))
  made_queue_by name q false e f =
      inr (q, sym (find_other_put is_same_queue (exception_row row.name) (λ x. bytes_eq x.name name) e (λ x d. ap (λ n. bytes_eq n name) (same_name x.name (exception_name row.name) d) ∙ e) t.queues) ∙ f, refl)

  pub made_keeps : KeepsHeld t (made t row v k) db moment sessions
  made_keeps = record {
    new = λ id h. h;
    marks = λ i s e f id slot m o. o;
    adds = λ i s e f m among a q w. queue_found t row v k m.queue q w;
    lanes = λ name q f. made_queue_by name q (bytes_eq (exception_name row.name) name) refl f;
    next = refl;
    transaction = refl;
  }

-- ---- subscribers and schedules

-- tables with the same messages, queues and tables
pub beside_keeps : (t u : Tables) (db : DbId) (moment : ℕ) (sessions : List Session) → u.messages ≡ t.messages → u.queues ≡ t.queues → u.tables ≡ t.tables → u.next ≡ t.next → u.transaction ≡ t.transaction → KeepsHeld t u db moment sessions
beside_keeps t u db moment sessions ms qs ts n tr = record {
  new = λ id h. ap (find (λ m. m.id == id)) ms ∙ h;
  marks = λ i s e f id slot m o. ap (λ xs. option_map_or (is_open_slot slot) (find (λ x. x.id == id) xs) false) ms ∙ o;
  adds = λ i s e f m among a q w. record { row = q; row_is = ap (find (λ x. bytes_eq x.name m.queue)) qs ∙ w; seen = refl; table_is = ap (find (λ x. bytes_eq x.name q.table)) ts };
  lanes = λ name q f. inr (q, sym (ap (find (λ x. bytes_eq x.name name)) qs) ∙ f, refl);
  next = n;
  transaction = tr;
}

-- ---- a subscriber that goes

-- the slots that are dropped are none that a session has marked
module _ (t : Tables) (sub : SubRow) (moment id slot : ℕ) (clear : is_affected_at t (of_subscriber sub.queue (Some sub)) id slot ≡ false) where
  dropped_by : (x : MsgRow) → find_message t x.id ≡ Some x → bytes_eq x.queue sub.queue ≡ true → (low : ℕ) (y : SlotRow) → slot_of x low ≡ Some y → (is_slot_of sub y && is_open y.state) ≡ true → (b : Bool) → ((x.id == id) && (low == slot)) ≡ b → b ≡ false
  dropped_by x f q low y s e true d =
      let p = and_parts (x.id == id) (low == slot) d in
      let there : find_message t id ≡ Some x = ap (find_message t) (sym (eqb-true x.id id p.0)) ∙ f in
      let at : slot_of x slot ≡ Some y = ap (slot_of x) (sym (eqb-true low slot p.1)) ∙ s in
      let its : is_slot_of sub y ≡ true = (and_parts (is_slot_of sub y) (is_open y.state) e).0 in
      let yes : is_affected_at t (of_subscriber sub.queue (Some sub)) id slot ≡ true =
      ap (λ o. option_map_or (λ m. of_subscriber sub.queue (Some sub) m (slot_of m slot)) o false) there ∙ ap (λ o. bytes_eq x.queue sub.queue && option_map_or (is_slot_of sub) o false) at
      ∙ and_from (bytes_eq x.queue sub.queue) (is_slot_of sub y) q its in
      absurd (true≢false (sym yes ∙ clear))
  dropped_by x f q low y s e false d = refl

  slots_step : (x : MsgRow) → find_message t x.id ≡ Some x → bytes_eq x.queue sub.queue ≡ true → (low : ℕ) (y : SlotRow) (rest : List Change) (b : Bool) → slot_of x low ≡ Some y → (is_slot_of sub y && is_open y.state) ≡ b → list_any (is_of_slot id slot) rest ≡ false
      → list_any (is_of_slot id slot) (cons_option (if b then Some (changes.Dropped x.id low moment) else None) rest) ≡ false
  slots_step x f q low y rest true s e ih = or_from ((x.id == id) && (low == slot)) (list_any (is_of_slot id slot) rest) (dropped_by x f q low y s e ((x.id == id) && (low == slot)) refl) ih
  slots_step x f q low y rest false s e ih = ih

  slots_clear : (x : MsgRow) → find_message t x.id ≡ Some x → bytes_eq x.queue sub.queue ≡ true → (xs : List SlotRow) (low : ℕ) → AreFrom x low xs → list_any (is_of_slot id slot) (filter_map (dropped_slot sub moment x.id) (enumerate_from low xs)) ≡ false
  slots_clear x f q [] low h = refl
  slots_clear x f q (y ∷ ys) low h =
      slots_step x f q low y (filter_map (dropped_slot sub moment x.id) (enumerate_from (low + 1) ys)) (is_slot_of sub y && is_open y.state) (from_first x low y ys h) refl (slots_clear x f q ys (low + 1) (from_next x low y ys h))

  messages_step : is_valid t ≡ true → find_sub t sub.queue sub.name ≡ Some sub → (x : MsgRow) (xs : List MsgRow) (b : Bool) → bytes_eq x.queue sub.queue ≡ b → find_message t x.id ≡ Some x → list_any (is_of_slot id slot) (flat_map (dropped_of sub moment) (filter (λ m. bytes_eq m.queue sub.queue) xs)) ≡ false
      → list_any (is_of_slot id slot) (flat_map (dropped_of sub moment) (filter (λ m. bytes_eq m.queue sub.queue) (x ∷ xs))) ≡ false
  messages_step v e x xs true q f ih =
      let n = normal_of t sub v e in
      let named : find_queue t x.queue ≡ Some n.queue = ap (find_queue t) (same_name x.queue sub.queue q) ∙ n.queue_is in
      let unmoved = in_normal_unmoved t x.id x n.queue v f named n.normal in
      ap (λ ys. list_any (is_of_slot id slot) (flat_map (dropped_of sub moment) ys)) (filter-yes (λ m. bytes_eq m.queue sub.queue) (λ m. bytes_eq m.queue sub.queue) x xs q)
      ∙ any_append (is_of_slot id slot) (dropped_of sub moment x) (flat_map (dropped_of sub moment) (filter (λ m. bytes_eq m.queue sub.queue) xs)) (slots_clear x f q x.slots 1 (from_one x unmoved)) ih
  messages_step v e x xs false q f ih = ap (λ ys. list_any (is_of_slot id slot) (flat_map (dropped_of sub moment) ys)) (filter-no (λ m. bytes_eq m.queue sub.queue) (λ m. bytes_eq m.queue sub.queue) x xs q) ∙ ih

  messages_clear : is_valid t ≡ true → find_sub t sub.queue sub.name ≡ Some sub → (xs : List MsgRow) → Each (IsFoundIn t.messages) xs → list_any (is_of_slot id slot) (flat_map (dropped_of sub moment) (filter (λ m. bytes_eq m.queue sub.queue) xs)) ≡ false
  messages_clear v e [] h = refl
  messages_clear v e (x ∷ xs) h = messages_step v e x xs (bytes_eq x.queue sub.queue) refl h.0 (messages_clear v e xs h.1)

  pub removal_clear : is_valid t ≡ true → find_sub t sub.queue sub.name ≡ Some sub → list_any (is_of_slot id slot) (settled t (changes.DropSub sub.queue sub.name ∷ dropped_in t sub moment)) ≡ false
  removal_clear v e =
      let cs = changes.DropSub sub.queue sub.name ∷ dropped_in t sub moment in
      any_append (is_of_slot id slot) cs (flat_map (settling t cs) (names_of cs)) (messages_clear v e t.messages (each_found t.messages (valid_distinct t v))) (settled_none (is_of_slot id slot) (λ n queue a. refl) (λ n. refl) t cs)

dropped_none : (q : Change → Bool) → ((id slot at : ℕ) → q (changes.Dropped id slot at) ≡ false) → (sub : SubRow) (moment id : ℕ) (xs : List SlotRow) (low : ℕ) → list_any q (filter_map (dropped_slot sub moment id) (enumerate_from low xs)) ≡ false
dropped_none q h sub moment id [] low = refl
dropped_none q h sub moment id (y ∷ ys) low = by (is_slot_of sub y && is_open y.state) (dropped_none q h sub moment id ys (low + 1))
  where
    by : (b : Bool) → list_any q (filter_map (dropped_slot sub moment id) (enumerate_from (low + 1) ys)) ≡ false
        → list_any q (cons_option (if b then Some (changes.Dropped id low moment) else None) (filter_map (dropped_slot sub moment id) (enumerate_from (low + 1) ys))) ≡ false
    by true k = or_from (q (changes.Dropped id low moment)) (list_any q (filter_map (dropped_slot sub moment id) (enumerate_from (low + 1) ys))) (h id low moment) k
    by false k = k

pub removal_none : (t : Tables) (sub : SubRow) (moment : ℕ) (q : Change → Bool) → ((a b : List ℕ) → q (changes.DropSub a b) ≡ false) → ((id slot at : ℕ) → q (changes.Dropped id slot at) ≡ false) → ((id : ℕ) (queue : List ℕ) (at : ℕ) → q (changes.Moved id queue at) ≡ false) → ((id : ℕ) → q (changes.Purged id) ≡ false)
    → list_any q (settled t (changes.DropSub sub.queue sub.name ∷ dropped_in t sub moment)) ≡ false
removal_none t sub moment q d h l o =
    let cs = changes.DropSub sub.queue sub.name ∷ dropped_in t sub moment in
    any_append q cs (flat_map (settling t cs) (names_of cs))
    (or_from (q (changes.DropSub sub.queue sub.name)) (list_any q (dropped_in t sub moment)) (d sub.queue sub.name) (any_flat q (dropped_of sub moment) (λ m. dropped_none q h sub moment m.id m.slots 1) (filter (λ m. bytes_eq m.queue sub.queue) t.messages)))
    (settled_none q l o t cs)

-- ---- what is judged, where nothing is outstanding

abbrev StandsJudged : Tables → DbId → ℕ → ℕ → List Session → Judged → Type 0
StandsJudged t db next moment sessions (Err reply) = Unit {0}
StandsJudged t db next moment sessions (Ok cs) = AreStanding (committed_tables t (settled t cs) moment) db next moment sessions

module _ (t : Tables) (db : DbId) (next moment : ℕ) (sessions : List Session) (v : is_valid t ≡ true) (le : t.latest ≤ moment) (top : moment ≤ MOMENT_LIMIT) (k : AreStanding t db next moment sessions) where
  stands_if : (b : Bool) (x y : Judged) → (b ≡ true → StandsJudged t db next moment sessions x) → (b ≡ false → StandsJudged t db next moment sessions y) → StandsJudged t db next moment sessions (if b then x else y)
  stands_if b x y p q = cond_both b x y (StandsJudged t db next moment sessions) p q

  -- the tables after one change of the catalogue, at their latest moment
  at_moment : (u : Tables) (latest : ℕ) → KeepsHeld t u db moment sessions → AreStanding (at_latest latest u) db next moment sessions
  at_moment u latest h =
      held_standing t (at_latest latest u) db next moment sessions k (record { new = h.new; marks = h.marks; adds = λ i s e f m among a q w. let x = h.adds i s e f m among a q w in record { row = x.row; row_is = x.row_is; seen = x.seen; table_is = x.table_is }; lanes = h.lanes; next = h.next; transaction = h.transaction })

  one_standing : (change : Change) → KeepsHeld t (after_change t change) db moment sessions → settled t (change ∷ []) ≡ change ∷ [] → AreStanding (committed_tables t (settled t (change ∷ [])) moment) db next moment sessions
  unfolding after
  one_standing change h e =
      subst (λ cs. AreStanding (committed_tables t cs moment) db next moment sessions) (sym e)
      (at_moment (after_change t change) (max (after_change t change).latest moment) h)

  own : (name : List ℕ) (q : QueueRow) → find_queue t name ≡ Some q → find_queue t q.name ≡ Some q
  own name q f = ap (find_queue t) (same_name q.name name (found_is (λ x. bytes_eq x.name name) t.queues q f)) ∙ f

  same_row : (name : List ℕ) (q old : QueueRow) → find_queue t name ≡ Some q → find_queue t name ≡ Some old → q ≡ old
  same_row name q old f h = let a : Some q ≡ Some old = sym f ∙ h in cc

  beside : (change : Change) (u : Tables) → after_change t change ≡ u → settled t (change ∷ []) ≡ change ∷ [] → u.messages ≡ t.messages → u.queues ≡ t.queues → u.tables ≡ t.tables → u.next ≡ t.next → u.transaction ≡ t.transaction
      → AreStanding (committed_tables t (settled t (change ∷ [])) moment) db next moment sessions
  beside change u e h ms qs ts n tr = one_standing change (subst (λ y. KeepsHeld t y db moment sessions) (sym e) (beside_keeps t u db moment sessions ms qs ts n tr)) h

  table_standing : (table : List ℕ) (fields : List Field) (sort : List Column) (multi grouped : Bool) → is_admin_within (asks.CreateTable table fields sort multi grouped) ≡ true → StandsJudged t db next moment sessions (judged t (asks.CreateTable table fields sort multi grouped) moment)
  unfolding judged after
  table_standing table fields sort multi grouped w =
      stands_if (is_some (find_table t table) || is_some (find_queue t (exception_name table))) _ _ (λ _. tt) (λ e.
      let row : TableRow = record { name = table; fields = fields; columns = sort; multi = multi; grouped = grouped } in
      let p = or_parts (is_some (find_table t table)) (is_some (find_queue t (exception_name table))) e in
      let few = and_parts (nat_le (length fields) FIELD_LIMIT) (list_all (λ f. is_name f.name) fields) (and_parts (is_table_name table) (are_fields fields) w).1 in
      let new : TableIsNew t row = record { no_table = none_of (find_table t table) p.0; no_queue = none_of (find_queue t (exception_name table)) p.1; few = leb-true (length fields) FIELD_LIMIT few.0 } in
      at_moment (made t row v new) (max t.latest moment) (made_keeps t db moment sessions row v new))

  table_drop_standing : (table : List ℕ) → StandsJudged t db next moment sessions (judged t (asks.DropTable table) moment)
  unfolding judged
  table_drop_standing table =
      stands_if (is_none (find_table t table)) _ _ (λ _. tt) (λ there.
      stands_if (is_table_used t table) _ _ (λ _. tt) (λ unused.
      let x = some_of (find_table t table) there in
      let goes : TableGoes t table = record { table = x.0; found = x.1; unused = unused } in
      one_standing (changes.DropTable table)
      (subst (λ u. KeepsHeld t u db moment sessions) (sym (ap (λ o. if is_some o then drop_table t table else t) x.1)) (table_drop_keeps t db moment sessions table v goes)) (one_settles t (changes.DropTable table) None refl refl)))

  queue_standing : (queue table : List ℕ) (kind : QueueKind) (max_retries retry_delay retention : ℕ) → StandsJudged t db next moment sessions (judged t (asks.CreateQueue queue table kind max_retries retry_delay retention) moment)
  unfolding judged
  queue_standing queue table kind max_retries retry_delay retention =
      stands_if (is_none (find_table t table)) _ _ (λ _. tt) (λ there.
      stands_if (is_some (find_queue t queue)) _ _ (λ _. tt) (λ new.
      let row = new_queue queue table kind max_retries retry_delay retention in
      one_standing (changes.PutQueue row) (put_keeps t db moment sessions row (λ old f. absurd (none-some old (sym (none_of (find_queue t queue) new) ∙ f))) (λ none. refl)) (one_settles t (changes.PutQueue row) None refl refl)))

  drop_standing_by : (name : List ℕ) (o : Option QueueRow) → find_queue t name ≡ o → IsClear t db sessions (in_queue name) → StandsJudged t db next moment sessions (c.drop_queue o)
  drop_standing_by name None f clear = tt
  drop_standing_by name (Some q) f clear =
      stands_if (is_queue_used q) _ _ (λ _. tt) (λ unused.
      let named : q.name ≡ name = same_name q.name name (found_is (λ x. bytes_eq x.name name) t.queues q f) in
      let goes : QueueGoes t q.name = record { queue = q; found = own name q f; further = (or_parts (q.enqueue || q.dequeue) (bytes_eq q.name (exception_name q.table)) unused).1 } in
      one_standing (changes.DropQueue q.name)
      (subst (λ u. KeepsHeld t u db moment sessions) (sym (ap (λ o. if is_some o then drop_queue t q.name else t) (own name q f)))
      (drop_keeps t db moment sessions q.name v goes (subst (λ n. IsClear t db sessions (in_queue n)) (sym named) clear))) (one_settles t (changes.DropQueue q.name) None refl refl))

  start_standing_by : (name : List ℕ) (o : Option QueueRow) (enqueue : Option Bool) (dequeue : Bool) → find_queue t name ≡ o → StandsJudged t db next moment sessions (c.start o enqueue dequeue)
  start_standing_by name None enqueue dequeue f = tt
  start_standing_by name (Some q) enqueue dequeue f =
      stands_if (is_exception q.kind && unwrap_or enqueue false) _ _ (λ _. tt) (λ right.
      one_standing (changes.PutQueue (started q enqueue dequeue))
      (put_keeps t db moment sessions (started q enqueue dequeue) (λ old h. ap seen_of (same_row q.name q old (own name q f) h)) (λ none. absurd (none-some q (sym none ∙ own name q f)))) (one_settles t (changes.PutQueue (started q enqueue dequeue)) None refl refl))

  stop_standing_by : (name : List ℕ) (o : Option QueueRow) (enqueue dequeue : Bool) → find_queue t name ≡ o → StandsJudged t db next moment sessions (c.stop o enqueue dequeue)
  stop_standing_by name None enqueue dequeue f = tt
  stop_standing_by name (Some q) enqueue dequeue f =
      one_standing (changes.PutQueue (stopped q enqueue dequeue))
      (put_keeps t db moment sessions (stopped q enqueue dequeue) (λ old h. ap seen_of (same_row q.name q old (own name q f) h)) (λ none. absurd (none-some q (sym none ∙ own name q f)))) (one_settles t (changes.PutQueue (stopped q enqueue dequeue)) None refl refl)

  put_sub_standing : (queue name : List ℕ) (address : Option (List ℕ)) (r : Result (Option Cond) ConditionFault) → StandsJudged t db next moment sessions (c.put_sub queue name address r)
  put_sub_standing queue name address (Err fault) = tt
  put_sub_standing queue name address (Ok rule) =
      let change = changes.PutSub (record { queue = queue; name = name; address = address; rule = rule }) in beside change (after_change t change) refl (one_settles t change None refl refl) refl refl refl refl refl

  add_sub_standing : (q : QueueRow) (o : Option TableRow) (name : List ℕ) (address rule : Option (List ℕ)) → StandsJudged t db next moment sessions (c.add_sub t q o name address rule)
  add_sub_standing q None name address rule = tt
  add_sub_standing q (Some table) name address rule =
      stands_if (not (has_consumers q table)) _ _ (λ _. tt) (λ _.
      stands_if (is_some (find_sub t q.name name)) _ _ (λ _. tt) (λ _.
      stands_if (nat_le SUBSCRIBER_LIMIT (length (subscribers_of t q.name))) _ _ (λ _. tt) (λ _.
      put_sub_standing q.name name address (optional_condition table.fields rule))))

  add_subscriber_standing : (o : Option QueueRow) (name : List ℕ) (address rule : Option (List ℕ)) → StandsJudged t db next moment sessions (c.add_subscriber t o name address rule)
  add_subscriber_standing None name address rule = tt
  add_subscriber_standing (Some q) name address rule = add_sub_standing q (find_table t q.table) name address rule

  remove_sub_standing : (queue name : List ℕ) (o : Option SubRow) → find_sub t queue name ≡ o → IsClear t db sessions (of_subscriber queue o) → StandsJudged t db next moment sessions (c.remove_sub t o moment)
  remove_sub_standing queue name None f clear = tt
  remove_sub_standing queue name (Some sub) f clear =
      let p = and_parts (bytes_eq sub.queue queue) (bytes_eq sub.name name) (found_is (is_sub queue name) t.subs sub f) in
      let named : sub.queue ≡ queue = same_name sub.queue queue p.0 in
      let there : find_sub t sub.queue sub.name ≡ Some sub = ap (λ n. find_sub t n sub.name) named ∙ ap (find_sub t queue) (same_name sub.name name p.1) ∙ f in
      let free : IsClear t db sessions (of_subscriber sub.queue (Some sub)) = subst (λ n. IsClear t db sessions (of_subscriber n (Some sub))) (sym named) clear in
      others_standing t db next moment sessions (settled t (changes.DropSub sub.queue sub.name ∷ dropped_in t sub moment)) le (subscriber_goes t sub moment v le top there) k
      (λ i s e h. record {
        slots = λ id slot m. removal_clear t sub moment id slot (free.marks i s e h id slot m) v there;
        ids = λ id m. removal_none t sub moment (puts_in id) (λ a b. refl) (λ n slot a. refl) (λ n q a. refl) (λ n. refl);
      }) (removal_none t sub moment is_put_in (λ a b. refl) (λ n slot a. refl) (λ n q a. refl) (λ n. refl))

  remove_subscriber_standing : (queue : List ℕ) (o : Option QueueRow) (name : List ℕ) → find_queue t queue ≡ o → IsClear t db sessions (of_subscriber queue (find_sub t queue name)) → StandsJudged t db next moment sessions (c.remove_subscriber t o name moment)
  remove_subscriber_standing queue None name f clear = tt
  remove_subscriber_standing queue (Some q) name f clear =
      let named : q.name ≡ queue = same_name q.name queue (found_is (λ x. bytes_eq x.name queue) t.queues q f) in
      stands_if (not (has_subscribers q (find_table t q.table))) _ _ (λ _. tt) (λ _.
      remove_sub_standing q.name name (find_sub t q.name name) refl (subst (λ n. IsClear t db sessions (of_subscriber n (find_sub t n name))) (sym named) clear))

  put_schedule_standing : (o : Option QueueRow) (row : ScheduleRow) → StandsJudged t db next moment sessions (c.put_schedule t o row)
  put_schedule_standing None row = tt
  put_schedule_standing (Some q) row =
      stands_if (not (has_subscribers q (find_table t q.table))) _ _ (λ _. tt) (λ _.
      stands_if (is_some (find_schedule t row.queue row.to)) _ _ (λ _. tt) (λ _.
      beside (changes.PutSchedule row) (after_change t (changes.PutSchedule row)) refl (one_settles t (changes.PutSchedule row) None refl refl) refl refl refl refl refl))

  with_schedule_standing : (change : ScheduleRow → Change) → ((s : ScheduleRow) → AreStanding (committed_tables t (settled t (change s ∷ [])) moment) db next moment sessions) → (o : Option ScheduleRow) → StandsJudged t db next moment sessions (c.with_schedule change o)
  with_schedule_standing change h None = tt
  with_schedule_standing change h (Some s) = h s

  change_schedule_standing : (queue to : List ℕ) (change : ScheduleRow → Change) → ((s : ScheduleRow) → AreStanding (committed_tables t (settled t (change s ∷ [])) moment) db next moment sessions) → StandsJudged t db next moment sessions (c.change_schedule t queue to change)
  change_schedule_standing queue to change h = stands_if (is_none (find_queue t queue)) _ _ (λ _. tt) (λ _. with_schedule_standing change h (find_schedule t queue to))

  put_scheduled : (s : ScheduleRow) → AreStanding (committed_tables t (settled t (changes.PutSchedule s ∷ [])) moment) db next moment sessions
  put_scheduled s = beside (changes.PutSchedule s) (after_change t (changes.PutSchedule s)) refl (one_settles t (changes.PutSchedule s) None refl refl) refl refl refl refl refl

  drop_scheduled : (s : ScheduleRow) → AreStanding (committed_tables t (settled t (changes.DropSchedule s.queue s.to ∷ [])) moment) db next moment sessions
  drop_scheduled s = let change = changes.DropSchedule s.queue s.to in beside change (after_change t change) refl (one_settles t change None refl refl) refl refl refl refl refl

  judged_standing : (sent : Option SlotRef) (ask : Admin) → is_within (statements.Admin ask) ≡ true → is_hindered t db sessions sent ask ≡ false → StandsJudged t db next moment sessions (judged t ask moment)
  unfolding judged is_within
  judged_standing sent (asks.CreateTable table fields sort multi grouped) w h = table_standing table fields sort multi grouped w
  judged_standing sent (asks.DropTable table) w h = table_drop_standing table
  judged_standing sent (asks.CreateQueue queue table kind max_retries retry_delay retention) w h = queue_standing queue table kind max_retries retry_delay retention
  judged_standing sent (asks.DropQueue queue) w h = drop_standing_by queue (find_queue t queue) refl (clear_of t db sessions sent (in_queue queue) h)
  judged_standing sent (asks.StartQueue queue enqueue dequeue) w h = start_standing_by queue (find_queue t queue) enqueue dequeue refl
  judged_standing sent (asks.StopQueue queue enqueue dequeue) w h = stop_standing_by queue (find_queue t queue) enqueue dequeue refl
  judged_standing sent (asks.AddSubscriber queue name address rule) w h = add_subscriber_standing (find_queue t queue) name address rule
  judged_standing sent (asks.RemoveSubscriber queue name) w h = remove_subscriber_standing queue (find_queue t queue) name refl (clear_of t db sessions sent (of_subscriber queue (find_sub t queue name)) h)
  judged_standing sent (asks.Schedule queue to start duration period latency) w h =
      put_schedule_standing (find_queue t queue) (record { queue = queue; to = to; enabled = true; start = unwrap_or start moment; duration = duration; period = period; latency = latency; failures = 0; next = 0 })
  judged_standing sent (asks.Unschedule queue to) w h = change_schedule_standing queue to (λ s. changes.DropSchedule s.queue s.to) drop_scheduled
  judged_standing sent (asks.EnableSchedule queue to) w h = change_schedule_standing queue to (λ s. changes.PutSchedule (fresh_schedule s)) (λ s. put_scheduled (fresh_schedule s))
  judged_standing sent (asks.DisableSchedule queue to) w h = change_schedule_standing queue to (λ s. changes.PutSchedule (record s { enabled = false })) (λ s. put_scheduled (record s { enabled = false }))

-- ---- an administrative statement

abbrev HoldsAdmin : Tables → DbId → ℕ → ℕ → List Session → Session → Reply → List Change → Session → Type 0
HoldsAdmin t db next moment sessions s reply cs after = AreStanding (committed_tables t cs moment) db next moment sessions × (after.pending ≡ s.pending) × (after.marks ≡ s.marks)

administered_holds : (t : Tables) (db : DbId) (next moment : ℕ) (sessions : List Session) (s : Session) → AreStanding t db next moment sessions → (hindered : Bool) (j : Judged) → (hindered ≡ false → StandsJudged t db next moment sessions j)
    → Says (HoldsAdmin t db next moment sessions s) (administered t s hindered j)
administered_holds t db next moment sessions s k hindered (Err reply) h = (k, refl, refl)
administered_holds t db next moment sessions s k true (Ok changes) h = (k, refl, refl)
administered_holds t db next moment sessions s k false (Ok changes) h = (h refl, refl, refl)

pub same_is : (a b : DbId) → is_same_db a b ≡ true → a ≡ b
same_is Home Home e = refl
same_is Home Away e = absurd (false≢true e)
same_is Away Home e = absurd (false≢true e)
same_is Away Away e = refl

administer_holds : (t : Tables) (next moment : ℕ) (sessions : List Session) (sent : Option SlotRef) (s : Session) (ask : Admin) → is_valid t ≡ true → t.latest ≤ moment → moment ≤ MOMENT_LIMIT → is_within (statements.Admin ask) ≡ true → AreStanding t s.at next moment sessions
    → Says (HoldsAdmin t s.at next moment sessions s) (administer t sessions sent s ask moment)
unfolding administer
administer_holds t next moment sessions sent s ask v le top w k =
    administered_holds t s.at next moment sessions s k (is_hindered t s.at sessions sent ask) (judged t ask moment) (λ free. judged_standing t s.at next moment sessions v le top k sent ask w free)

pub administration_keeps_standing : (t : Tables) (db : DbId) (next moment i : ℕ) (s : Session) (sessions : List Session) (sent : Option SlotRef) (ask : Admin) (reply : Reply) (cs : List Change) (after behind : Session) → is_valid t ≡ true → t.latest ≤ moment → moment ≤ MOMENT_LIMIT
    → is_within (statements.Admin ask) ≡ true → AreStanding t db next moment sessions → slice_get sessions i ≡ Some s → is_same_db s.at db ≡ true → administer t sessions sent s ask moment ≡ answers reply cs after → HoldsAs behind s after
    → AreStanding (committed_tables t cs moment) db next moment (slice_set sessions i behind)
administration_keeps_standing t db next moment i s sessions sent ask reply cs after behind v le top w k there at e held =
    let own : AreStanding t s.at next moment sessions = subst (λ d. AreStanding t d next moment sessions) (sym (same_is s.at db at)) k in
    let h = says_so (HoldsAdmin t s.at next moment sessions s) (administer t sessions sent s ask moment) reply cs after (administer_holds t next moment sessions sent s ask v le top w own) e in
    let now : AreStanding (committed_tables t cs moment) db next moment sessions = subst (λ d. AreStanding (committed_tables t cs moment) d next moment sessions) (same_is s.at db at) h.0 in
    same_standing (committed_tables t cs moment) db next moment i s behind sessions now there at held.at (held.pending ∙ h.1) (held.marks ∙ h.2)
