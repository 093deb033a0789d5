-- What one local change makes of tables: where nothing goes they have grown, and each row is as it was or one that the change names;
-- and rows stay distinct.
use Rattle.std.proofs.Common.{◌≡◌, ◌≤◌, ◌+◌, ℕ, List, [], ◌∷◌, ◌++◌, Bool, true, false, not, length, max, refl, sym, ap, ◌∙◌, arith, Option, Some, None, ◌==◌, ◌&&◌, ◌||◌, ◌⊎◌, inl, inr, ℤ}
use Rattle.std.specs.Prelude.{find, filter, int_le, is_some, nat_le, option_map, if◌then◌else◌}
use Rattle.std.specs.List.{list_any, list_all}
use Rattle.std.specs.Option.{option_map_or}
use Rattle.std.specs.Str.{bytes_eq}
use Rattle.std.proofs.lemmas.Bool.{and_from, and_parts, eqb-true, leb-true, not-true, false≢true}
use Rattle.std.proofs.lemmas.Option.{none-some}
use Rattle.queue_rows.specs.Rows.{find_message, find_queue, find_table, exception_name, changed_first, is_same_table, is_same_queue, is_same_sub, is_same_schedule, with_slot}
use Rattle.queue_rows.specs.Tables.{after_change, in_state, retried, lowered, moved_to, move_some, move_in, drop_queue, drop_table}
use Rattle.queue_rows.specs.Recipients.{subscribers_of}
use Rattle.queue_rows.specs.Distinct.{are_distinct}
use Rattle.queue_rows.specs.Valid.{is_same_message, is_same_seen}
use Rattle.queue_rows.specs.Fits.{names_what_is_there}
use Rattle.queue_rows.specs.declared.tables.Tables.{Tables}
use Rattle.queue_rows.specs.declared.rows.TableRow.{TableRow}
use Rattle.queue_rows.specs.declared.rows.MsgRow.{MsgRow}
use Rattle.queue_rows.specs.declared.rows.QueueRow.{QueueRow}
use Rattle.queue_rows.specs.declared.rows.QueueKind.{QueueKind}
use Rattle.queue_rows.specs.declared.rows.QueueKind.TheVariants as kinds
use Rattle.queue_rows.specs.declared.rows.SubRow.{SubRow}
use Rattle.queue_rows.specs.declared.rows.ScheduleRow.{ScheduleRow}
use Rattle.queue_rows.specs.declared.rows.SeenRow.{SeenRow}
use Rattle.queue_rows.specs.declared.rows.SlotRow.{SlotRow}
use Rattle.queue_rows.specs.declared.rows.SlotState.TheVariants as states
use Rattle.queue_rows.specs.declared.change.Change.{Change}
use Rattle.queue_rows.specs.declared.change.Change.TheVariants as changes
use Rattle.row_laws.specs.RowLaws.{puts_new}
use Rattle.row_laws.proofs.Distinctly.{stays_distinct}
use Rattle.row_laws.proofs.Finding.{found_is, none_is}
use Rattle.row_laws.proofs.Queues.{lowered_name, lowered_seen}
use Rattle.valid_laws.proofs.Cataloguing.{same_name, own_name, alike_queues, alike_tables}
use Rattle.valid_laws.proofs.Doing.{all-append}
use Rattle.valid_laws.proofs.Framing.{lowered_le}
use Rattle.valid_laws.proofs.Lowering.{find_either}
use Rattle.valid_laws.proofs.Parts.{all_changed_first, all_removed_first}
use Rattle.valid_laws.proofs.Placing.{all_put, distinct_put, distinct_removed, distinct_filter, fewer_removed, fewer_put, fewer_filter, find_put, find_other_put}
use Rattle.fit_laws.specs.FitLaws.{is_same_kind, stands_for, is_local}
use Rattle.fit_laws.proofs.Growing.{IsLower, HasGrown, lower_self, grown_self}
use Rattle.fit_laws.proofs.Lists.{distinct_last, distinct_first}

-- what holds of both holds of either
pub if_both : (P : Tables → Type 0) (a b : Tables) → P a → P b → (c : Bool) → P (if c then a else b)
if_both P a b h g true = h
if_both P a b h g false = g

le_self : (n : ℕ) → n ≤ n
le_self n = omega arith

le_same : (a b : ℕ) → a ≡ b → a ≤ b
le_same a b e = omega arith

-- ---- tables grow

lower_by : (t u : Tables) (r : MsgRow) (name : List ℕ) (q : QueueRow) → find_queue t name ≡ Some q → (find_queue u name ≡ find_queue t name) ⊎ (find_queue u name ≡ option_map (lowered t r) (find_queue t name)) → IsLower u name q
lower_by t u r name q f (inl e) = lower_self u name q (e ∙ f)
lower_by t u r name q f (inr e) = record {
  row = lowered t r q;
  row_is = e ∙ ap (option_map (lowered t r)) f;
  table = lowered_seen (λ x. x.table) (λ x n. refl) t r q;
  kind = lowered_seen (λ x. x.kind) (λ x n. refl) t r q;
  retries = le_same q.max_retries (lowered t r q).max_retries (sym (lowered_seen (λ x. x.max_retries) (λ x n. refl) t r q));
  lowest = lowered_le t r q;
}

either : (t : Tables) (r : MsgRow) (queue name : List ℕ) → (find (λ q. bytes_eq q.name name) (changed_first (λ q. bytes_eq q.name queue) (lowered t r) t.queues) ≡ find_queue t name)
    ⊎ (find (λ q. bytes_eq q.name name) (changed_first (λ q. bytes_eq q.name queue) (lowered t r) t.queues) ≡ option_map (lowered t r) (find_queue t name))
either t r queue name = find_either (λ q. bytes_eq q.name name) (λ q. bytes_eq q.name queue) (lowered t r) (λ q. ap (λ n. bytes_eq n name) (lowered_name t r q)) t.queues

more : (a b : ℕ) → a ≤ max a b
more a b = omega arith

grown_in : (t : Tables) (m : MsgRow) (queue : List ℕ) (at : ℕ) → HasGrown t (move_in t m queue at)
grown_in t m queue at = record {
  tables = λ name r f. f;
  queues = λ name q f. lower_by t (move_in t m queue at) (moved_to queue at m) name q f (either t (moved_to queue at m) queue name);
  next = omega arith;
  transaction = omega arith;
  latest = omega arith;
}

grown_if : (t : Tables) (m : MsgRow) (queue : List ℕ) (at : ℕ) (b : Bool) → HasGrown t (if b then move_in t m queue at else t)
grown_if t m queue at true = grown_in t m queue at
grown_if t m queue at false = grown_self t

grown_moved : (t : Tables) (o : Option MsgRow) (queue : List ℕ) (at : ℕ) → HasGrown t (move_some t o queue at)
grown_moved t None queue at = grown_self t
grown_moved t (Some m) queue at = grown_if t m queue at (is_some (find_queue t queue))

grown_put : (t : Tables) (row : MsgRow) → HasGrown t (after_change t (changes.Enqueued row))
grown_put t row = record {
  tables = λ name r f. f;
  queues = λ name q f. lower_by t (after_change t (changes.Enqueued row)) row name q f (either t row row.queue name);
  next = more t.next (row.id + 1);
  transaction = more t.transaction (row.group + 1);
  latest = omega arith;
}

-- where queues, tables and numbers are as they were
grown_beside : (t u : Tables) → u.tables ≡ t.tables → u.queues ≡ t.queues → u.next ≡ t.next → u.transaction ≡ t.transaction → u.latest ≡ t.latest → HasGrown t u
grown_beside t u a b c d e = record {
  tables = λ name r f. ap (find (λ x. bytes_eq x.name name)) a ∙ f;
  queues = λ name q f. lower_self u name q (ap (find (λ r. bytes_eq r.name name)) b ∙ f);
  next = omega arith;
  transaction = omega arith;
  latest = omega arith;
}

same_kind : (a b : QueueKind) → is_same_kind a b ≡ true → a ≡ b
same_kind kinds.Normal kinds.Normal e = refl
same_kind kinds.Normal kinds.Exception e = absurd (false≢true e)
same_kind kinds.Exception kinds.Normal e = absurd (false≢true e)
same_kind kinds.Exception kinds.Exception e = refl

module _ (t : Tables) (row : QueueRow) (k : is_local t (changes.PutQueue row) ≡ true) where
  abbrev put_there : Tables
  put_there = after_change t (changes.PutQueue row)

  stood : (name : List ℕ) (q : QueueRow) (b : Bool) → bytes_eq row.name name ≡ b → find_queue t name ≡ Some q → IsLower put_there name q
  stood name q true e f =
      let same : row.name ≡ name = same_name row.name name e in
      let stands : stands_for row q ≡ true = sym (ap (λ o. option_map_or (stands_for row) o true) (ap (find_queue t) same ∙ f)) ∙ k in
      let p = and_parts (bytes_eq row.table q.table && is_same_kind row.kind q.kind && nat_le q.max_retries row.max_retries) (int_le row.lowest q.lowest) stands in
      let r = and_parts (bytes_eq row.table q.table && is_same_kind row.kind q.kind) (nat_le q.max_retries row.max_retries) p.0 in
      let s = and_parts (bytes_eq row.table q.table) (is_same_kind row.kind q.kind) r.0 in
      record {
        row = row;
        row_is = find_put is_same_queue row (λ x. bytes_eq x.name name) e (λ x g. ap (bytes_eq x.name) (sym same) ∙ g) t.queues;
        table = same_name row.table q.table s.0;
        kind = same_kind row.kind q.kind s.1;
        retries = leb-true q.max_retries row.max_retries r.1;
        lowest = p.1;
      }
  stood name q false e f =
      lower_self put_there name q
      (find_other_put is_same_queue row (λ x. bytes_eq x.name name) e (λ x g. ap (λ n. bytes_eq n name) (same_name x.name row.name g) ∙ e) t.queues ∙ f)

  grown_queue : HasGrown t put_there
  grown_queue = record {
    tables = λ name r f. f;
    queues = λ name q f. stood name q (bytes_eq row.name name) refl f;
    next = omega arith;
    transaction = omega arith;
    latest = omega arith;
  }

module _ (t : Tables) (row : TableRow) (k : is_local t (changes.PutTable row) ≡ true) where
  found_still : (name : List ℕ) (r : TableRow) (b : Bool) → bytes_eq row.name name ≡ b → find_table t name ≡ Some r → find_table (after_change t (changes.PutTable row)) name ≡ Some r
  found_still name r true e f =
      let none : find_table t row.name ≡ None = none_is (find_table t row.name) k in
      absurd (none-some r (sym none ∙ ap (find_table t) (same_name row.name name e) ∙ f))
  found_still name r false e f = find_other_put is_same_table row (λ x. bytes_eq x.name name) e (λ x g. ap (λ n. bytes_eq n name) (same_name x.name row.name g) ∙ e) t.tables ∙ f

  grown_table : HasGrown t (after_change t (changes.PutTable row))
  grown_table = record {
    tables = λ name r f. found_still name r (bytes_eq row.name name) refl f;
    queues = λ name q f. lower_self (after_change t (changes.PutTable row)) name q f;
    next = omega arith;
    transaction = omega arith;
    latest = omega arith;
  }

-- it takes no table and no queue away, and sets no numbers
abbrev pub grows : Change → Bool
grows (changes.DropTable name) = false
grows (changes.DropQueue name) = false
grows (changes.Counters next transaction latest) = false
grows _ = true

pub grown_one : (t : Tables) (c : Change) → is_local t c ≡ true → grows c ≡ true → HasGrown t (after_change t c)
grown_one t (changes.Enqueued row) k g = grown_put t row
grown_one t (changes.Moved id queue at) k g = grown_moved t (find_message t id) queue at
grown_one t (changes.PutTable row) k g = grown_table t row k
grown_one t (changes.DropTable name) k g = absurd (false≢true g)
grown_one t (changes.PutQueue row) k g = grown_queue t row k
grown_one t (changes.DropQueue name) k g = absurd (false≢true g)
grown_one t (changes.Counters next transaction latest) k g = absurd (false≢true g)
grown_one t (changes.PutSub row) k g = grown_beside t (after_change t (changes.PutSub row)) refl refl refl refl refl
grown_one t (changes.DropSub queue name) k g = grown_beside t (after_change t (changes.DropSub queue name)) refl refl refl refl refl
grown_one t (changes.PutSchedule row) k g = grown_beside t (after_change t (changes.PutSchedule row)) refl refl refl refl refl
grown_one t (changes.DropSchedule queue to) k g = grown_beside t (after_change t (changes.DropSchedule queue to)) refl refl refl refl refl
grown_one t (changes.Retried id slot retries until at) k g = grown_beside t (after_change t (changes.Retried id slot retries until at)) refl refl refl refl refl
grown_one t (changes.Ready id slot at) k g = grown_beside t (after_change t (changes.Ready id slot at)) refl refl refl refl refl
grown_one t (changes.Done id slot at) k g = grown_beside t (after_change t (changes.Done id slot at)) refl refl refl refl refl
grown_one t (changes.Expired id slot at) k g = grown_beside t (after_change t (changes.Expired id slot at)) refl refl refl refl refl
grown_one t (changes.Dropped id slot at) k g = grown_beside t (after_change t (changes.Dropped id slot at)) refl refl refl refl refl
grown_one t (changes.Purged id) k g = grown_beside t (after_change t (changes.Purged id)) refl refl refl refl refl
grown_one t (changes.Seen row) k g = grown_beside t (after_change t (changes.Seen row)) refl refl refl refl refl

-- the next id is never lower
pub next_one : (t : Tables) (c : Change) → is_local t c ≡ true → t.next ≤ (after_change t c).next
next_one t (changes.Enqueued row) k = more t.next (row.id + 1)
next_one t (changes.Moved id queue at) k = (grown_moved t (find_message t id) queue at).next
next_one t (changes.DropTable name) k = if_both (λ u. t.next ≤ u.next) (drop_table t name) t (le_self t.next) (le_self t.next) (is_some (find_table t name))
next_one t (changes.DropQueue name) k = if_both (λ u. t.next ≤ u.next) (drop_queue t name) t (le_self t.next) (le_self t.next) (is_some (find_queue t name))
next_one t (changes.Counters next transaction latest) k = absurd (false≢true k)
next_one t _ k = le_self t.next

-- ---- tables

abbrev pub marks_table : Change → TableRow → Bool
marks_table (changes.PutTable row) r = is_same_table r row
marks_table _ r = false

-- ---- messages

-- the change puts that message in, or says something of it
abbrev pub marks_message : Change → MsgRow → Bool
marks_message (changes.Enqueued row) m = m.id == row.id
marks_message (changes.Retried id slot retries until at) m = m.id == id
marks_message (changes.Ready id slot at) m = m.id == id
marks_message (changes.Done id slot at) m = m.id == id
marks_message (changes.Expired id slot at) m = m.id == id
marks_message (changes.Dropped id slot at) m = m.id == id
marks_message (changes.Moved id queue at) m = m.id == id
marks_message _ m = false

-- ---- a test of all messages

module _ (q : MsgRow → Bool) (t : Tables) where
  slots_one : (id slot : ℕ) (f : SlotRow → SlotRow) → ((m : MsgRow) → (m.id == id) ≡ true → q m ≡ true) → list_all q t.messages ≡ true → list_all q (changed_first (λ m. m.id == id) (with_slot slot f) t.messages) ≡ true
  slots_one id slot f k h = all_changed_first q (λ m. m.id == id) (with_slot slot f) t.messages h (λ y e g. k (with_slot slot f y) (found_is (λ m. m.id == id) t.messages y e))

  module _ (id : ℕ) (queue : List ℕ) (at : ℕ) (k : (m : MsgRow) → (m.id == id) ≡ true → q m ≡ true) (h : list_all q t.messages ≡ true) where
    move_if : (m : MsgRow) (b : Bool) → (m.id == id) ≡ true → list_all q (if b then move_in t m queue at else t).messages ≡ true
    move_if m true e = all_changed_first q (λ r. r.id == m.id) (moved_to queue at) t.messages h
        (λ y f g. k (moved_to queue at y) (ap (λ n. n == id) (eqb-true y.id m.id (found_is (λ r. r.id == m.id) t.messages y f)) ∙ e))
    move_if m false e = h

    move_one : (o : Option MsgRow) → find_message t id ≡ o → list_all q (move_some t o queue at).messages ≡ true
    move_one None e = h
    move_one (Some m) e = move_if m (is_some (find_queue t queue)) (found_is (λ r. r.id == id) t.messages m e)

own_id : (n : ℕ) → (n == n) ≡ true
own_id n = Rattle.std.proofs.lemmas.Bool.eq-eqb n n refl

pub messages_one : (q : MsgRow → Bool) (t : Tables) (c : Change) → grows c ≡ true → ((m : MsgRow) → marks_message c m ≡ true → q m ≡ true) → list_all q t.messages ≡ true → list_all q (after_change t c).messages ≡ true
messages_one q t (changes.Enqueued row) e k h = all-append q t.messages (row ∷ []) h (and_from (q row) true (k row (own_id row.id)) refl)
messages_one q t (changes.Retried id slot retries until at) e k h = slots_one q t id slot (retried retries until at) k h
messages_one q t (changes.Ready id slot at) e k h = slots_one q t id slot (in_state states.Ready at) k h
messages_one q t (changes.Done id slot at) e k h = slots_one q t id slot (in_state states.Processed at) k h
messages_one q t (changes.Expired id slot at) e k h = slots_one q t id slot (in_state states.Expired at) k h
messages_one q t (changes.Dropped id slot at) e k h = slots_one q t id slot (in_state states.Dropped at) k h
messages_one q t (changes.Moved id queue at) e k h = move_one q t id queue at k h (find_message t id) refl
messages_one q t (changes.Purged id) e k h = all_removed_first q (λ m. m.id == id) t.messages h
messages_one q t (changes.DropQueue name) e k h = absurd (false≢true e)
messages_one q t (changes.DropTable name) e k h = absurd (false≢true e)
messages_one q t _ e k h = h

-- ---- queues

-- the change puts that queue, or a message into it
abbrev pub marks_queue : Change → QueueRow → Bool
marks_queue (changes.Enqueued row) q = bytes_eq q.name row.queue
marks_queue (changes.Moved id queue at) q = bytes_eq q.name queue
marks_queue (changes.PutQueue row) q = is_same_queue q row
marks_queue _ q = false

module _ (q : QueueRow → Bool) (t : Tables) (queue : List ℕ) (k : (r : QueueRow) → bytes_eq r.name queue ≡ true → q r ≡ true) (h : list_all q t.queues ≡ true) where
  lower_one : (m : MsgRow) → list_all q (changed_first (λ r. bytes_eq r.name queue) (lowered t m) t.queues) ≡ true
  lower_one m = all_changed_first q (λ r. bytes_eq r.name queue) (lowered t m) t.queues h
      (λ y e g. k (lowered t m y) (ap (λ n. bytes_eq n queue) (lowered_name t m y) ∙ found_is (λ r. bytes_eq r.name queue) t.queues y e))

  lower_if : (at : ℕ) (m : MsgRow) (b : Bool) → list_all q (if b then move_in t m queue at else t).queues ≡ true
  lower_if at m true = lower_one (moved_to queue at m)
  lower_if at m false = h

  lower_some : (at : ℕ) (o : Option MsgRow) → list_all q (move_some t o queue at).queues ≡ true
  lower_some at None = h
  lower_some at (Some m) = lower_if at m (is_some (find_queue t queue))

pub queues_one : (q : QueueRow → Bool) (t : Tables) (c : Change) → grows c ≡ true → ((r : QueueRow) → marks_queue c r ≡ true → q r ≡ true) → list_all q t.queues ≡ true → list_all q (after_change t c).queues ≡ true
queues_one q t (changes.Enqueued row) e k h = lower_one q t row.queue k h row
queues_one q t (changes.Moved id queue at) e k h = lower_some q t queue k h at (find_message t id)
queues_one q t (changes.DropQueue name) e k h = absurd (false≢true e)
queues_one q t (changes.DropTable name) e k h = absurd (false≢true e)
queues_one q t (changes.PutQueue row) e k h = all_put is_same_queue row q t.queues h (k row (own_name row.name))
queues_one q t _ e k h = h

-- ---- subscribers and schedules

abbrev pub marks_sub : Change → SubRow → Bool
marks_sub (changes.PutSub row) s = is_same_sub s row
marks_sub _ s = false

abbrev pub marks_schedule : Change → ScheduleRow → Bool
marks_schedule (changes.PutSchedule row) s = is_same_schedule s row
marks_schedule _ s = false

pub own_sub : (s : SubRow) → is_same_sub s s ≡ true
own_sub s = and_from (bytes_eq s.queue s.queue) (bytes_eq s.name s.name) (own_name s.queue) (own_name s.name)

pub own_schedule : (s : ScheduleRow) → is_same_schedule s s ≡ true
own_schedule s = and_from (bytes_eq s.queue s.queue) (bytes_eq s.to s.to) (own_name s.queue) (own_name s.to)

-- what moves leaves subscribers, schedules and what was seen alone
module _ {Y : Type 0} (g : Tables → Y) (t : Tables) (queue : List ℕ) (at : ℕ) (blind : (m : MsgRow) → g (move_in t m queue at) ≡ g t) where
  beside_if : (m : MsgRow) (b : Bool) → g (if b then move_in t m queue at else t) ≡ g t
  beside_if m true = blind m
  beside_if m false = refl

  beside_moves : (o : Option MsgRow) → g (move_some t o queue at) ≡ g t
  beside_moves None = refl
  beside_moves (Some m) = beside_if m (is_some (find_queue t queue))

pub tables_one : (q : TableRow → Bool) (t : Tables) (c : Change) → grows c ≡ true → ((r : TableRow) → marks_table c r ≡ true → q r ≡ true) → list_all q t.tables ≡ true → list_all q (after_change t c).tables ≡ true
tables_one q t (changes.PutTable row) e k h = all_put is_same_table row q t.tables h (k row (own_name row.name))
tables_one q t (changes.Moved id queue at) e k h = ap (list_all q) (beside_moves (λ u. u.tables) t queue at (λ m. refl) (find_message t id)) ∙ h
tables_one q t (changes.DropQueue name) e k h = absurd (false≢true e)
tables_one q t (changes.DropTable name) e k h = absurd (false≢true e)
tables_one q t _ e k h = h

pub subs_one : (q : SubRow → Bool) (t : Tables) (c : Change) → grows c ≡ true → ((s : SubRow) → marks_sub c s ≡ true → q s ≡ true) → list_all q t.subs ≡ true → list_all q (after_change t c).subs ≡ true
subs_one q t (changes.PutSub row) e k h = all_put is_same_sub row q t.subs h (k row (own_sub row))
subs_one q t (changes.DropSub queue name) e k h = all_removed_first q (λ s. bytes_eq s.queue queue && bytes_eq s.name name) t.subs h
subs_one q t (changes.Moved id queue at) e k h = ap (list_all q) (beside_moves (λ u. u.subs) t queue at (λ m. refl) (find_message t id)) ∙ h
subs_one q t (changes.DropQueue name) e k h = absurd (false≢true e)
subs_one q t (changes.DropTable name) e k h = absurd (false≢true e)
subs_one q t _ e k h = h

pub schedules_one : (q : ScheduleRow → Bool) (t : Tables) (c : Change) → grows c ≡ true → ((s : ScheduleRow) → marks_schedule c s ≡ true → q s ≡ true) → list_all q t.schedules ≡ true → list_all q (after_change t c).schedules ≡ true
schedules_one q t (changes.PutSchedule row) e k h = all_put is_same_schedule row q t.schedules h (k row (own_schedule row))
schedules_one q t (changes.DropSchedule queue to) e k h = all_removed_first q (λ s. bytes_eq s.queue queue && bytes_eq s.to to) t.schedules h
schedules_one q t (changes.Moved id queue at) e k h = ap (list_all q) (beside_moves (λ u. u.schedules) t queue at (λ m. refl) (find_message t id)) ∙ h
schedules_one q t (changes.DropQueue name) e k h = absurd (false≢true e)
schedules_one q t (changes.DropTable name) e k h = absurd (false≢true e)
schedules_one q t _ e k h = h

-- the change puts a subscriber of that queue
abbrev pub subscribes : List ℕ → Change → Bool
subscribes queue (changes.PutSub row) = bytes_eq row.queue queue
subscribes queue _ = false

-- any other leaves it no more subscribers
pub fewer_one : (t : Tables) (c : Change) (queue : List ℕ) → is_local t c ≡ true → subscribes queue c ≡ false → length (subscribers_of (after_change t c) queue) ≤ length (subscribers_of t queue)
fewer_one t (changes.PutSub row) queue e h = fewer_put is_same_sub row (λ s. bytes_eq s.queue queue) h t.subs
fewer_one t (changes.DropSub named name) queue e h = fewer_removed (λ s. bytes_eq s.queue queue) (λ s. bytes_eq s.queue named && bytes_eq s.name name) t.subs
fewer_one t (changes.Moved id to at) queue e h =
    le_same (length (subscribers_of (after_change t (changes.Moved id to at)) queue)) (length (subscribers_of t queue))
    (ap (λ rows. length (filter (λ s. bytes_eq s.queue queue) rows)) (beside_moves (λ u. u.subs) t to at (λ m. refl) (find_message t id)))
fewer_one t (changes.DropQueue name) queue e h =
    let some = fewer_filter (λ s. not (bytes_eq s.queue name)) (λ s. bytes_eq s.queue queue) t.subs in
    if_both (λ u. length (subscribers_of u queue) ≤ length (subscribers_of t queue)) (drop_queue t name) t some (le_self (length (subscribers_of t queue))) (is_some (find_queue t name))
fewer_one t (changes.DropTable name) queue e h =
    let all = le_self (length (subscribers_of t queue)) in
    if_both (λ u. length (subscribers_of u queue) ≤ length (subscribers_of t queue)) (drop_table t name) t all all (is_some (find_table t name))
fewer_one t _ queue e h = le_self (length (subscribers_of t queue))

-- ---- what was seen

abbrev pub saw : Change → List SeenRow
saw (changes.Seen row) = row ∷ []
saw _ = []

append_none : (rows : List SeenRow) → rows ≡ rows ++ []
append_none rows = sym (Rattle.std.proofs.Common.append-nil rows)

pub seen_one : (t : Tables) (c : Change) → is_local t c ≡ true → (after_change t c).seen ≡ t.seen ++ saw c
seen_one t (changes.Seen row) e = refl
seen_one t (changes.Moved id queue at) e = beside_moves (λ u. u.seen) t queue at (λ m. refl) (find_message t id) ∙ append_none t.seen
seen_one t (changes.DropQueue name) e = if_both (λ u. u.seen ≡ t.seen ++ []) (drop_queue t name) t (append_none t.seen) (append_none t.seen) (is_some (find_queue t name))
seen_one t (changes.DropTable name) e = if_both (λ u. u.seen ≡ t.seen ++ []) (drop_table t name) t (append_none t.seen) (append_none t.seen) (is_some (find_table t name))
seen_one t _ e = append_none t.seen

-- ---- rows stay distinct

new_if_named : (t : Tables) (c : Change) → names_what_is_there t c ≡ true → puts_new t c ≡ true
new_if_named t (changes.Enqueued row) e = e
new_if_named t (changes.PutTable row) e = refl
new_if_named t _ e = refl

lowered_distinct : (t : Tables) (m : MsgRow) (queue : List ℕ) → are_distinct is_same_queue (changed_first (λ q. bytes_eq q.name queue) (lowered t m) t.queues) ≡ are_distinct is_same_queue t.queues
lowered_distinct t m queue = distinct_first is_same_queue (lowered t m) (λ x y. ap (λ n. bytes_eq n y.name) (lowered_name t m x)) (λ x y. ap (λ n. bytes_eq x.name n) (lowered_name t m y)) (λ q. bytes_eq q.name queue) t.queues

tables_distinct : (t : Tables) (c : Change) → is_local t c ≡ true → are_distinct is_same_table t.tables ≡ true → are_distinct is_same_table (after_change t c).tables ≡ true
tables_distinct t (changes.PutTable row) e d = distinct_put is_same_table row (alike_tables row) t.tables d
tables_distinct t (changes.Moved id queue at) e d = beside_moves (λ u. are_distinct is_same_table u.tables) t queue at (λ m. refl) (find_message t id) ∙ d
tables_distinct t (changes.DropQueue name) e d = if_both (λ u. are_distinct is_same_table u.tables ≡ true) (drop_queue t name) t d d (is_some (find_queue t name))
tables_distinct t (changes.DropTable name) e d =
    if_both (λ u. are_distinct is_same_table u.tables ≡ true) (drop_table t name) t (distinct_removed is_same_table (λ r. bytes_eq r.name name) t.tables d) d (is_some (find_table t name))
tables_distinct t _ e d = d

queues_distinct : (t : Tables) (c : Change) → is_local t c ≡ true → are_distinct is_same_queue t.queues ≡ true → are_distinct is_same_queue (after_change t c).queues ≡ true
queues_distinct t (changes.Enqueued row) e d = lowered_distinct t row row.queue ∙ d
queues_distinct t (changes.Moved id queue at) e d = beside_moves (λ u. are_distinct is_same_queue u.queues) t queue at (λ m. lowered_distinct t (moved_to queue at m) queue) (find_message t id) ∙ d
queues_distinct t (changes.DropQueue name) e d =
    if_both (λ u. are_distinct is_same_queue u.queues ≡ true) (drop_queue t name) t (distinct_removed is_same_queue (λ q. bytes_eq q.name name) t.queues d) d (is_some (find_queue t name))
queues_distinct t (changes.DropTable name) e d =
    if_both (λ u. are_distinct is_same_queue u.queues ≡ true) (drop_table t name) t (distinct_removed is_same_queue (λ q. bytes_eq q.name (exception_name name)) t.queues d) d (is_some (find_table t name))
queues_distinct t (changes.PutQueue row) e d = distinct_put is_same_queue row (alike_queues row) t.queues d
queues_distinct t _ e d = d

pub join_names : (a b c : List ℕ) → bytes_eq a c ≡ true → bytes_eq b c ≡ true → bytes_eq a b ≡ true
join_names a b c e g = ap (bytes_eq a) (same_name b c g) ∙ e

pub join_subs : (x y m : SubRow) → is_same_sub x m ≡ true → is_same_sub y m ≡ true → is_same_sub x y ≡ true
join_subs x y m e g =
    let p = and_parts (bytes_eq x.queue m.queue) (bytes_eq x.name m.name) e in
    let q = and_parts (bytes_eq y.queue m.queue) (bytes_eq y.name m.name) g in
    and_from (bytes_eq x.queue y.queue) (bytes_eq x.name y.name) (join_names x.queue y.queue m.queue p.0 q.0) (join_names x.name y.name m.name p.1 q.1)

pub join_schedules : (x y m : ScheduleRow) → is_same_schedule x m ≡ true → is_same_schedule y m ≡ true → is_same_schedule x y ≡ true
join_schedules x y m e g =
    let p = and_parts (bytes_eq x.queue m.queue) (bytes_eq x.to m.to) e in
    let q = and_parts (bytes_eq y.queue m.queue) (bytes_eq y.to m.to) g in
    and_from (bytes_eq x.queue y.queue) (bytes_eq x.to y.to) (join_names x.queue y.queue m.queue p.0 q.0) (join_names x.to y.to m.to p.1 q.1)

alike_subs : (row x y : SubRow) → is_same_sub x row ≡ true → is_same_sub row y ≡ is_same_sub x y
alike_subs row x y e =
    let p = and_parts (bytes_eq x.queue row.queue) (bytes_eq x.name row.name) e in
    ap (λ n. bytes_eq n y.queue && bytes_eq row.name y.name) (sym (same_name x.queue row.queue p.0)) ∙ ap (λ n. bytes_eq x.queue y.queue && bytes_eq n y.name) (sym (same_name x.name row.name p.1))

alike_schedules : (row x y : ScheduleRow) → is_same_schedule x row ≡ true → is_same_schedule row y ≡ is_same_schedule x y
alike_schedules row x y e =
    let p = and_parts (bytes_eq x.queue row.queue) (bytes_eq x.to row.to) e in
    ap (λ n. bytes_eq n y.queue && bytes_eq row.to y.to) (sym (same_name x.queue row.queue p.0)) ∙ ap (λ n. bytes_eq x.queue y.queue && bytes_eq n y.to) (sym (same_name x.to row.to p.1))

subs_distinct : (t : Tables) (c : Change) → is_local t c ≡ true → are_distinct is_same_sub t.subs ≡ true → are_distinct is_same_sub (after_change t c).subs ≡ true
subs_distinct t (changes.PutSub row) e d = distinct_put is_same_sub row (alike_subs row) t.subs d
subs_distinct t (changes.DropSub queue name) e d = distinct_removed is_same_sub (λ s. bytes_eq s.queue queue && bytes_eq s.name name) t.subs d
subs_distinct t (changes.Moved id queue at) e d = beside_moves (λ u. are_distinct is_same_sub u.subs) t queue at (λ m. refl) (find_message t id) ∙ d
subs_distinct t (changes.DropQueue name) e d =
    if_both (λ u. are_distinct is_same_sub u.subs ≡ true) (drop_queue t name) t (distinct_filter (λ s. not (bytes_eq s.queue name)) is_same_sub t.subs d) d (is_some (find_queue t name))
subs_distinct t (changes.DropTable name) e d = if_both (λ u. are_distinct is_same_sub u.subs ≡ true) (drop_table t name) t d d (is_some (find_table t name))
subs_distinct t _ e d = d

schedules_distinct : (t : Tables) (c : Change) → is_local t c ≡ true → are_distinct is_same_schedule t.schedules ≡ true → are_distinct is_same_schedule (after_change t c).schedules ≡ true
schedules_distinct t (changes.PutSchedule row) e d = distinct_put is_same_schedule row (alike_schedules row) t.schedules d
schedules_distinct t (changes.DropSchedule queue to) e d = distinct_removed is_same_schedule (λ s. bytes_eq s.queue queue && bytes_eq s.to to) t.schedules d
schedules_distinct t (changes.Moved id queue at) e d = beside_moves (λ u. are_distinct is_same_schedule u.schedules) t queue at (λ m. refl) (find_message t id) ∙ d
schedules_distinct t (changes.DropQueue name) e d =
    if_both (λ u. are_distinct is_same_schedule u.schedules ≡ true) (drop_queue t name) t (distinct_filter (λ s. not (bytes_eq s.queue name)) is_same_schedule t.schedules d) d (is_some (find_queue t name))
schedules_distinct t (changes.DropTable name) e d = if_both (λ u. are_distinct is_same_schedule u.schedules ≡ true) (drop_table t name) t d d (is_some (find_table t name))
schedules_distinct t _ e d = d

eqb_turned : (a b : ℕ) → (a == b) ≡ (b == a)
eqb_turned a b = grind arith

unseen : (row : SeenRow) (rows : List SeenRow) → list_any (is_same_seen row) rows ≡ list_any (λ s. is_same_seen s row) rows
unseen row [] = refl
unseen row (s ∷ rows) =
    ap (λ b. (b && (row.slot == s.slot)) || list_any (is_same_seen row) rows) (eqb_turned row.id s.id)
    ∙ ap (λ b. ((s.id == row.id) && b) || list_any (is_same_seen row) rows) (eqb_turned row.slot s.slot)
    ∙ ap (λ b. is_same_seen s row || b) (unseen row rows)

seen_distinct : (t : Tables) (c : Change) → is_local t c ≡ true → names_what_is_there t c ≡ true → are_distinct is_same_seen t.seen ≡ true → are_distinct is_same_seen (after_change t c).seen ≡ true
seen_distinct t (changes.Seen row) e n d = distinct_last is_same_seen t.seen row d (sym (unseen row t.seen) ∙ not-true (list_any (is_same_seen row) t.seen) n)
seen_distinct t (changes.Moved id queue at) e n d = beside_moves (λ u. are_distinct is_same_seen u.seen) t queue at (λ m. refl) (find_message t id) ∙ d
seen_distinct t (changes.DropQueue name) e n d = if_both (λ u. are_distinct is_same_seen u.seen ≡ true) (drop_queue t name) t d d (is_some (find_queue t name))
seen_distinct t (changes.DropTable name) e n d = if_both (λ u. are_distinct is_same_seen u.seen ≡ true) (drop_table t name) t d d (is_some (find_table t name))
seen_distinct t _ e n d = d

-- rows of each kind are distinct
pub record StandApart (t : Tables) : Type 0 where
  pub tables : are_distinct is_same_table t.tables ≡ true
  pub queues : are_distinct is_same_queue t.queues ≡ true
  pub subs : are_distinct is_same_sub t.subs ≡ true
  pub schedules : are_distinct is_same_schedule t.schedules ≡ true
  pub messages : are_distinct is_same_message t.messages ≡ true
  pub seen : are_distinct is_same_seen t.seen ≡ true

pub apart_one : (t : Tables) (c : Change) → is_local t c ≡ true → names_what_is_there t c ≡ true → StandApart t → StandApart (after_change t c)
apart_one t c k n d = record {
  tables = tables_distinct t c k d.tables;
  queues = queues_distinct t c k d.queues;
  subs = subs_distinct t c k d.subs;
  schedules = schedules_distinct t c k d.schedules;
  messages = stays_distinct t c d.messages (new_if_named t c n);
  seen = seen_distinct t c k n d.seen;
}
