-- The rows of valid tables are put, kind by kind: each goes last among its like, and changes nothing else.
use Rattle.std.proofs.Common.{◌≡◌, ℕ, ◌+◌, ◌<◌, ℤ, pos, negsuc, Bool, true, false, not, max, List, [], ◌∷◌, ◌++◌, Option, Some, refl, sym, ap, ◌∙◌, subst, arith}
use Rattle.std.specs.Prelude.{◌&&◌, ◌||◌, int_le, int_lt, is_none, nat_lt, if◌then◌else◌}
use Rattle.std.specs.List.{list_all}
use Rattle.std.specs.Str.{bytes_eq}
use Rattle.std.proofs.lemmas.Bool.{false≢true, leb-true, ltb-false, ltb-true, true≢false}
use Rattle.std.proofs.lemmas.Option.{same_Some}
use Rattle.queue_rows.specs.Distinct.{are_distinct}
use Rattle.queue_rows.specs.Rows.{changed_first, find_queue, is_same_queue, is_same_schedule, is_same_sub, is_same_table}
use Rattle.queue_rows.specs.Tables.{empty_tables, is_grouped_table, lane_of, lowered, lowered_by}
use Rattle.queue_rows.specs.Valid.{has_right_lane, is_same_message, is_same_seen, is_valid, is_valid_message, is_valid_message_in}
use Rattle.queue_rows.specs.declared.change.Change.TheVariants as changes
use Rattle.queue_rows.specs.declared.rows.MsgRow.{MsgRow}
use Rattle.queue_rows.specs.declared.rows.QueueRow.{QueueRow}
use Rattle.queue_rows.specs.declared.rows.ScheduleRow.{ScheduleRow}
use Rattle.queue_rows.specs.declared.rows.SeenRow.{SeenRow}
use Rattle.queue_rows.specs.declared.rows.SubRow.{SubRow}
use Rattle.queue_rows.specs.declared.rows.TableRow.{TableRow}
use Rattle.queue_rows.specs.declared.tables.Tables.{Tables}
use Rattle.valid_laws.proofs.Exceptions.{HasHome, home_if_valid}
use Rattle.valid_laws.proofs.Parts.{and_l, and_r, parts_of, six_parts}
use Rattle.checkpoint_commit.proofs.Lists.{all_still, all_there, goes_last, has_not_arrived, is_new}
use Rattle.checkpoint_commit.proofs.Steps.{Leads}

-- ---- a queue's lowest lane

lesser : (a b : ℤ) (less : Bool) → int_lt a b ≡ less → int_le a b ≡ true → (if less then a else b) ≡ a
lesser a b true e h = refl
lesser (pos a) (pos b) false e h = let x = ltb-false a b e in let y = leb-true a b h in ap pos (let same : b ≡ a = omega arith in same)
lesser (pos a) (negsuc b) false e h = absurd (false≢true h)
lesser (negsuc a) (pos b) false e h = absurd (true≢false e)
lesser (negsuc a) (negsuc b) false e h = let x = ltb-false b a e in let y = leb-true b a h in ap negsuc (let same : b ≡ a = omega arith in same)

lowest_stays : (grouped : Bool) (place : List ℤ) (queue : QueueRow) → (grouped || int_le queue.lowest (lane_of place)) ≡ true → lowered_by grouped place queue ≡ queue
lowest_stays true place queue h = refl
lowest_stays false place queue h =
    ap (λ (n : ℤ). record queue { lowest = n }) (lesser queue.lowest (lane_of place) (int_lt queue.lowest (lane_of place)) refl h)

module _ (t : Tables) (queue : QueueRow) (table : TableRow) (m : MsgRow) (valid : is_valid_message_in t queue (Some table) m ≡ true) where
  lane_part : has_right_lane table queue m ≡ true
  lane_part = search (and_l, and_r) depth 12

  id_part : nat_lt m.id t.next ≡ true
  id_part = search (and_l, and_r) depth 12

  group_part : nat_lt m.group t.transaction ≡ true
  group_part = search (and_l, and_r) depth 12

own_queue_stays : (t : Tables) (m : MsgRow) (h : HasHome t m) → lowered t m h.queue ≡ h.queue
own_queue_stays t m h =
    ap (λ (g : Bool). lowered_by g m.place h.queue) (ap is_grouped_table h.table_is)
    ∙ lowest_stays h.table.grouped m.place h.queue (lane_part t h.queue h.table m h.valid)

queue_stays : (t : Tables) (m : MsgRow) (h : HasHome t m) (queue : QueueRow) → find_queue t m.queue ≡ Some queue → lowered t m queue ≡ queue
queue_stays t m h queue found =
    let same : h.queue ≡ queue = same_Some h.queue queue (sym h.queue_is ∙ found) in subst (λ (q : QueueRow). lowered t m q ≡ q) same (own_queue_stays t m h)

queues_stay : (t : Tables) (m : MsgRow) → HasHome t m → changed_first (λ q. bytes_eq q.name m.queue) (lowered t m) t.queues ≡ t.queues
queues_stay t m h = all_still (λ q. bytes_eq q.name m.queue) (lowered t m) t.queues (λ queue found. queue_stays t m h queue found)

-- ---- numbers

above : (a b : ℕ) → nat_lt b a ≡ true → max a (b + 1) ≡ a
above a b h = let lt : b < a = ltb-true b a h in omega arith

with_same : (t : Tables) (queues : List QueueRow) (next transaction : ℕ) → queues ≡ t.queues → next ≡ t.next → transaction ≡ t.transaction
    → record t { queues = queues; next = next; transaction = transaction } ≡ t
with_same t queues next transaction p q r =
    ap (λ (x : List QueueRow). record t { queues = x; next = next; transaction = transaction }) p
    ∙ ap (λ (n : ℕ). record t { next = n; transaction = transaction }) q
    ∙ ap (λ (n : ℕ). record t { transaction = n }) r

-- ---- distinct rows

record AreDistinct (t : Tables) : Type 0 where
  tables : are_distinct is_same_table t.tables ≡ true
  queues : are_distinct is_same_queue t.queues ≡ true
  subs : are_distinct is_same_sub t.subs ≡ true
  schedules : are_distinct is_same_schedule t.schedules ≡ true
  messages : are_distinct is_same_message t.messages ≡ true
  seen : are_distinct is_same_seen t.seen ≡ true

distinct_of : (t : Tables) → is_valid t ≡ true → AreDistinct t
distinct_of t v =
    let p = six_parts (are_distinct is_same_table t.tables) (are_distinct is_same_queue t.queues) (are_distinct is_same_sub t.subs) (are_distinct is_same_schedule t.schedules) (are_distinct is_same_message t.messages) (are_distinct is_same_seen t.seen) (parts_of t v).rows in
    record { tables = p.0; queues = p.1; subs = p.2; schedules = p.3; messages = p.4; seen = p.5 }

-- ---- each row goes last

module _ (t : Tables) where
  abbrev pub with_numbers : Tables
  with_numbers = record empty_tables { next = t.next; transaction = t.transaction; latest = t.latest }

  abbrev pub with_tables : List TableRow → Tables
  with_tables rows = record with_numbers { tables = rows }

  abbrev pub with_queues : List QueueRow → Tables
  with_queues rows = record (with_tables t.tables) { queues = rows }

  abbrev pub with_subs : List SubRow → Tables
  with_subs rows = record (with_queues t.queues) { subs = rows }

  abbrev pub with_schedules : List ScheduleRow → Tables
  with_schedules rows = record (with_subs t.subs) { schedules = rows }

  abbrev pub with_messages : List MsgRow → Tables
  with_messages rows = record (with_schedules t.schedules) { messages = rows }

  abbrev pub with_seen : List SeenRow → Tables
  with_seen rows = record (with_messages t.messages) { seen = rows }

  module _ (v : is_valid t ≡ true) where
    pub table_goes : (before : List TableRow) (row : TableRow) (behind : List TableRow) → before ++ row ∷ behind ≡ t.tables → Leads (with_tables before) (changes.PutTable row ∷ []) (with_tables (before ++ row ∷ []))
    table_goes before row behind is = record {
      names = refl;
      leads = ap with_tables (goes_last is_same_table before row behind (ap (are_distinct is_same_table) is ∙ (distinct_of t v).tables));
    }

    pub queue_goes : (before : List QueueRow) (row : QueueRow) (behind : List QueueRow) → before ++ row ∷ behind ≡ t.queues → Leads (with_queues before) (changes.PutQueue row ∷ []) (with_queues (before ++ row ∷ []))
    queue_goes before row behind is = record {
      names = refl;
      leads = ap with_queues (goes_last is_same_queue before row behind (ap (are_distinct is_same_queue) is ∙ (distinct_of t v).queues));
    }

    pub sub_goes : (before : List SubRow) (row : SubRow) (behind : List SubRow) → before ++ row ∷ behind ≡ t.subs → Leads (with_subs before) (changes.PutSub row ∷ []) (with_subs (before ++ row ∷ []))
    sub_goes before row behind is = record {
      names = refl;
      leads = ap with_subs (goes_last is_same_sub before row behind (ap (are_distinct is_same_sub) is ∙ (distinct_of t v).subs));
    }

    pub schedule_goes : (before : List ScheduleRow) (row : ScheduleRow) (behind : List ScheduleRow) → before ++ row ∷ behind ≡ t.schedules
        → Leads (with_schedules before) (changes.PutSchedule row ∷ []) (with_schedules (before ++ row ∷ []))
    schedule_goes before row behind is = record {
      names = refl;
      leads = ap with_schedules (goes_last is_same_schedule before row behind (ap (are_distinct is_same_schedule) is ∙ (distinct_of t v).schedules));
    }

    pub message_goes : (before : List MsgRow) (m : MsgRow) (behind : List MsgRow) → before ++ m ∷ behind ≡ t.messages → Leads (with_messages before) (changes.Enqueued m ∷ []) (with_messages (before ++ m ∷ []))
    message_goes before m behind is =
        let h = home_if_valid t m (all_there (is_valid_message t) before m behind (ap (list_all (is_valid_message t)) is ∙ (parts_of t v).messages)) in
        record {
          names = ap (λ (o : Option MsgRow). is_none o && true) (is_new is_same_message before m behind (ap (are_distinct is_same_message) is ∙ (distinct_of t v).messages));
          leads = with_same (with_messages (before ++ m ∷ [])) (changed_first (λ q. bytes_eq q.name m.queue) (lowered t m) t.queues) (max t.next (m.id + 1)) (max t.transaction (m.group + 1))
              (queues_stay t m h) (above t.next m.id (id_part t h.queue h.table m h.valid)) (above t.transaction m.group (group_part t h.queue h.table m h.valid));
        }

    pub arrival_goes : (before : List SeenRow) (row : SeenRow) (behind : List SeenRow) → before ++ row ∷ behind ≡ t.seen → Leads (with_seen before) (changes.Seen row ∷ []) (with_seen (before ++ row ∷ []))
    arrival_goes before row behind is = record {
      names = ap (λ (b : Bool). not b && true) (has_not_arrived before row behind (ap (are_distinct is_same_seen) is ∙ (distinct_of t v).seen));
      leads = refl;
    }
