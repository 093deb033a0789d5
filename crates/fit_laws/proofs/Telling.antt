-- What a commit names tells whether the tables after it are valid.
use Rattle.std.proofs.Common.{◌≡◌, ◌≤◌, ℕ, List, [], ◌∷◌, Bool, true, false, max, length, refl, sym, ap, ◌∙◌, arith, Option, Some, None, ◌==◌, ◌&&◌}
use Rattle.std.specs.Prelude.{find, filter, flat_map, nat_le, nat_lt}
use Rattle.std.specs.List.{list_any, list_all}
use Rattle.std.specs.Option.{option_map_or}
use Rattle.std.specs.Str.{bytes_eq}
use Rattle.std.proofs.lemmas.Bool.{and_parts, and_from, eqb-true, eq-eqb, le-leb, leb-true, false≢true}
use Rattle.std.proofs.lemmas.Option.{none-some}
use Rattle.aq_base.specs.declared.limits.TheConstants.{SUBSCRIBER_LIMIT}
use Rattle.queue_rows.specs.Rows.{find_message, find_table, find_queue, find_sub, find_schedule, table_of, is_sub, is_schedule, is_same_table, is_same_queue, is_same_sub, is_same_schedule}
use Rattle.queue_rows.specs.Tables.{after_all, after}
use Rattle.queue_rows.specs.Recipients.{subscribers_of}
use Rattle.queue_rows.specs.Within.{if_some}
use Rattle.queue_rows.specs.Distinct.{are_distinct}
use Rattle.queue_rows.specs.Valid.{is_valid, has_right_numbers, is_same_message, is_same_seen, is_valid_table, is_valid_queue, is_valid_sub, takes_subscribers, is_right_rule, is_valid_schedule, is_valid_message}
use Rattle.queue_rows.specs.Fits.{all_name_what_is_there}
use Rattle.queue_rows.specs.declared.tables.Tables.{Tables}
use Rattle.queue_rows.specs.declared.rows.TableRow.{TableRow}
use Rattle.queue_rows.specs.declared.rows.MsgRow.{MsgRow}
use Rattle.queue_rows.specs.declared.rows.QueueRow.{QueueRow}
use Rattle.queue_rows.specs.declared.rows.SubRow.{SubRow}
use Rattle.queue_rows.specs.declared.rows.ScheduleRow.{ScheduleRow}
use Rattle.queue_rows.specs.declared.change.Change.{Change}
use Rattle.queue_rows.specs.declared.change.Change.TheVariants as changes
use Rattle.row_laws.proofs.Latest.{at_latest}
use Rattle.row_laws.proofs.Finding.{find-yes, find-no, filter-no, found_is}
use Rattle.valid_laws.proofs.Cataloguing.{same_name, own_name}
use Rattle.valid_laws.proofs.Parts.{ValidParts, parts_of, valid_from, six_parts, six_from, all_found, all_weaker}
use Rattle.fit_laws.specs.FitLaws.{FitIsLocal, holds_right_message, holds_right_table, holds_right_queue, holds_right_sub, holds_right_schedule, leaves_right, leaves_all_right, are_local}
use Rattle.fit_laws.proofs.Growing.{Follows, none_goes, follows_grown, lower_self, is_right_sub, table_stays, queue_stays, sub_stays, schedule_stays, message_stays, lt_stays}
use Rattle.fit_laws.proofs.Following.{tables_next, queues_next, subs_next, schedules_next, messages_next}
use Rattle.fit_laws.proofs.Lists.{same_test, some_both, append_parts}
use Rattle.fit_laws.proofs.Stepping.{marks_message, marks_table, marks_queue, marks_sub, marks_schedule, subscribes, saw, own_sub, own_schedule, join_names, join_subs, join_schedules, StandApart}
use Rattle.fit_laws.proofs.Going.{next_all, apart_all, fewer_all, seen_all, all_right}

-- ---- a row that is named and stands is valid

module _ (u : Tables) where
  held_message : (id : ℕ) (m : MsgRow) → (m.id == id) ≡ true → holds_right_message u id ≡ true → find_message u m.id ≡ Some m → is_valid_message u m ≡ true
  held_message id m e h f = sym (ap (λ o. option_map_or (is_valid_message u) o true) f) ∙ ap (holds_right_message u) (eqb-true m.id id e) ∙ h

  held_table : (name : List ℕ) (r : TableRow) → bytes_eq r.name name ≡ true → holds_right_table u name ≡ true → find_table u r.name ≡ Some r → is_valid_table u r ≡ true
  held_table name r e h f = sym (ap (λ o. option_map_or (is_valid_table u) o true) f) ∙ ap (holds_right_table u) (same_name r.name name e) ∙ h

  held_queue : (name : List ℕ) (q : QueueRow) → bytes_eq q.name name ≡ true → holds_right_queue u name ≡ true → find_queue u q.name ≡ Some q → is_valid_queue u q ≡ true
  held_queue name q e h f = sym (ap (λ o. option_map_or (is_valid_queue u) o true) f) ∙ ap (holds_right_queue u) (same_name q.name name e) ∙ h

  held_schedule : (row s : ScheduleRow) → is_same_schedule s row ≡ true → holds_right_schedule u row.queue row.to ≡ true → find_schedule u s.queue s.to ≡ Some s → is_valid_schedule u s ≡ true
  held_schedule row s e h f =
      let p = and_parts (bytes_eq s.queue row.queue) (bytes_eq s.to row.to) e in
      sym (ap (λ o. option_map_or (is_valid_schedule u) o true) f) ∙ ap (λ n. holds_right_schedule u n s.to) (same_name s.queue row.queue p.0) ∙ ap (holds_right_schedule u row.queue) (same_name s.to row.to p.1) ∙ h

  held_sub : (row s : SubRow) → is_same_sub s row ≡ true → option_map_or (is_valid_sub u) (find_sub u row.queue row.name) true ≡ true → find_sub u s.queue s.name ≡ Some s → is_valid_sub u s ≡ true
  held_sub row s e h f =
      let p = and_parts (bytes_eq s.queue row.queue) (bytes_eq s.name row.name) e in
      sym (ap (λ o. option_map_or (is_valid_sub u) o true) f) ∙ ap (λ n. option_map_or (is_valid_sub u) (find_sub u n s.name) true) (same_name s.queue row.queue p.0)
      ∙ ap (λ n. option_map_or (is_valid_sub u) (find_sub u row.queue n) true) (same_name s.name row.name p.1) ∙ h

  message_of : (c : Change) (m : MsgRow) → leaves_right u c ≡ true → marks_message c m ≡ true → find_message u m.id ≡ Some m → is_valid_message u m ≡ true
  message_of (changes.Enqueued row) m h e f = held_message row.id m e (and_parts (holds_right_message u row.id) (holds_right_queue u row.queue) h).0 f
  message_of (changes.Retried id slot retries until at) m h e f = held_message id m e h f
  message_of (changes.Ready id slot at) m h e f = held_message id m e h f
  message_of (changes.Done id slot at) m h e f = held_message id m e h f
  message_of (changes.Expired id slot at) m h e f = held_message id m e h f
  message_of (changes.Dropped id slot at) m h e f = held_message id m e h f
  message_of (changes.Moved id queue at) m h e f = held_message id m e (and_parts (holds_right_message u id) (holds_right_queue u queue) h).0 f
  message_of _ m h e f = absurd (false≢true e)

  row_of : (c : Change) (r : TableRow) → leaves_right u c ≡ true → marks_table c r ≡ true → find_table u r.name ≡ Some r → is_valid_table u r ≡ true
  row_of (changes.PutTable row) r h e f = held_table row.name r e h f
  row_of _ r h e f = absurd (false≢true e)

  queue_of : (c : Change) (q : QueueRow) → leaves_right u c ≡ true → marks_queue c q ≡ true → find_queue u q.name ≡ Some q → is_valid_queue u q ≡ true
  queue_of (changes.Enqueued row) q h e f = held_queue row.queue q e (and_parts (holds_right_message u row.id) (holds_right_queue u row.queue) h).1 f
  queue_of (changes.Moved id queue at) q h e f = held_queue queue q e (and_parts (holds_right_message u id) (holds_right_queue u queue) h).1 f
  queue_of (changes.PutQueue row) q h e f = held_queue row.name q e h f
  queue_of _ q h e f = absurd (false≢true e)

  sub_of : (c : Change) (s : SubRow) → leaves_right u c ≡ true → marks_sub c s ≡ true → find_sub u s.queue s.name ≡ Some s → is_valid_sub u s ≡ true
  sub_of (changes.PutSub row) s h e f = held_sub row s e (and_parts (nat_le (length (subscribers_of u row.queue)) SUBSCRIBER_LIMIT) (option_map_or (is_valid_sub u) (find_sub u row.queue row.name) true) h).1 f
  sub_of _ s h e f = absurd (false≢true e)

  schedule_of : (c : Change) (s : ScheduleRow) → leaves_right u c ≡ true → marks_schedule c s ≡ true → find_schedule u s.queue s.to ≡ Some s → is_valid_schedule u s ≡ true
  schedule_of (changes.PutSchedule row) s h e f = held_schedule row s e h f
  schedule_of _ s h e f = absurd (false≢true e)

  count_of : (c : Change) (queue : List ℕ) → leaves_right u c ≡ true → subscribes queue c ≡ true → nat_le (length (subscribers_of u queue)) SUBSCRIBER_LIMIT ≡ true
  count_of (changes.PutSub row) queue h e =
      ap (λ n. nat_le (length (subscribers_of u n)) SUBSCRIBER_LIMIT) (sym (same_name row.queue queue e))
      ∙ (and_parts (nat_le (length (subscribers_of u row.queue)) SUBSCRIBER_LIMIT) (option_map_or (is_valid_sub u) (find_sub u row.queue row.name) true) h).0
  count_of _ queue h e = absurd (false≢true e)

  seen_of : (c : Change) → leaves_right u c ≡ true → list_all (λ s. nat_lt s.copy u.next) (saw c) ≡ true
  seen_of (changes.Seen row) h = and_from (nat_lt row.copy u.next) true h refl
  seen_of (changes.PutTable row) h = refl
  seen_of _ h = refl

  seen_of_all : (cs : List Change) → list_all (leaves_right u) cs ≡ true → list_all (λ s. nat_lt s.copy u.next) (flat_map saw cs) ≡ true
  seen_of_all [] h = refl
  seen_of_all (c ∷ cs) h =
      let p = and_parts (leaves_right u c) (list_all (leaves_right u) cs) h in
      Rattle.valid_laws.proofs.Doing.all-append (λ s. nat_lt s.copy u.next) (saw c) (flat_map saw cs) (seen_of c p.0) (seen_of_all cs p.1)

-- ---- from what is named to all rows

self_message : (m : MsgRow) → is_same_message m m ≡ true
self_message m = eq-eqb m.id m.id refl

join_messages : (x y m : MsgRow) → is_same_message x m ≡ true → is_same_message y m ≡ true → is_same_message x y ≡ true
join_messages x y m e g = eq-eqb x.id y.id (eqb-true x.id m.id e ∙ sym (eqb-true y.id m.id g))

self_table : (r : TableRow) → is_same_table r r ≡ true
self_table r = own_name r.name

join_tables : (x y m : TableRow) → is_same_table x m ≡ true → is_same_table y m ≡ true → is_same_table x y ≡ true
join_tables x y m e g = join_names x.name y.name m.name e g

self_queue : (q : QueueRow) → is_same_queue q q ≡ true
self_queue q = own_name q.name

join_queues : (x y m : QueueRow) → is_same_queue x m ≡ true → is_same_queue y m ≡ true → is_same_queue x y ≡ true
join_queues x y m e g = join_names x.name y.name m.name e g

-- no queue of valid tables has more subscribers than it may have
module _ (u : Tables) (w : is_valid u ≡ true) where
  none_kept_step : {X : Type 0} (p : X → Bool) (x : X) (xs : List X) (b : Bool) → p x ≡ b → find p (x ∷ xs) ≡ None → (find p xs ≡ None → filter p xs ≡ []) → filter p (x ∷ xs) ≡ []
  none_kept_step p x xs true g e ih = absurd (none-some x (sym e ∙ find-yes p x xs g))
  none_kept_step p x xs false g e ih = filter-no p p x xs g ∙ ih (sym (find-no p x xs g) ∙ e)

  none_kept : {X : Type 0} (p : X → Bool) (xs : List X) → find p xs ≡ None → filter p xs ≡ []
  none_kept p [] e = refl
  none_kept p (x ∷ xs) e = none_kept_step p x xs (p x) refl e (none_kept p xs)

  few_if : (queue : List ℕ) (o : Option SubRow) → find (λ s. bytes_eq s.queue queue) u.subs ≡ o → nat_le (length (subscribers_of u queue)) SUBSCRIBER_LIMIT ≡ true
  few_if queue None e = ap (λ ys. nat_le (length ys) SUBSCRIBER_LIMIT) (none_kept (λ s. bytes_eq s.queue queue) u.subs e)
  few_if queue (Some s) e =
      let valid = all_found (is_valid_sub u) (λ x. bytes_eq x.queue queue) u.subs s (parts_of u w).subs e in
      let p = and_parts (takes_subscribers u s.queue && nat_le (length (subscribers_of u s.queue)) SUBSCRIBER_LIMIT) (if_some (is_right_rule (table_of u s.queue)) s.rule) valid in
      let q = and_parts (takes_subscribers u s.queue) (nat_le (length (subscribers_of u s.queue)) SUBSCRIBER_LIMIT) p.0 in
      ap (λ name. nat_le (length (subscribers_of u name)) SUBSCRIBER_LIMIT) (sym (same_name s.queue queue (found_is (λ x. bytes_eq x.queue queue) u.subs s e))) ∙ q.1

  few_in : (queue : List ℕ) → nat_le (length (subscribers_of u queue)) SUBSCRIBER_LIMIT ≡ true
  few_in queue = few_if queue (find (λ s. bytes_eq s.queue queue) u.subs) refl

-- a subscriber's facts, and how many its queue has
sub_parts : (u : Tables) (s : SubRow) → is_valid_sub u s ≡ true → is_right_sub u s ≡ true
sub_parts u s h =
    let rule = if_some (is_right_rule (table_of u s.queue)) s.rule in
    let p = and_parts (takes_subscribers u s.queue && nat_le (length (subscribers_of u s.queue)) SUBSCRIBER_LIMIT) rule h in
    and_from (takes_subscribers u s.queue) rule (and_parts (takes_subscribers u s.queue) (nat_le (length (subscribers_of u s.queue)) SUBSCRIBER_LIMIT) p.0).0 p.1

sub_from : (u : Tables) (s : SubRow) → is_right_sub u s ≡ true → nat_le (length (subscribers_of u s.queue)) SUBSCRIBER_LIMIT ≡ true → is_valid_sub u s ≡ true
sub_from u s h few =
    let rule = if_some (is_right_rule (table_of u s.queue)) s.rule in
    let p = and_parts (takes_subscribers u s.queue) rule h in
    and_from (takes_subscribers u s.queue && nat_le (length (subscribers_of u s.queue)) SUBSCRIBER_LIMIT) rule
    (and_from (takes_subscribers u s.queue) (nat_le (length (subscribers_of u s.queue)) SUBSCRIBER_LIMIT) p.0 few) p.1

module _ (t : Tables) (v : is_valid t ≡ true) (cs : List Change) (k : are_local t cs ≡ true) (n : all_name_what_is_there t cs ≡ true) (latest : ℕ) (le : (after_all t cs).latest ≤ latest) where
  abbrev made : Tables
  made = after_all t cs

  abbrev then : Tables
  then = at_latest latest (after_all t cs)

  parts : ValidParts t
  parts = parts_of t v

  apart_first : StandApart t
  apart_first =
      let r = six_parts (are_distinct is_same_table t.tables) (are_distinct is_same_queue t.queues) (are_distinct is_same_sub t.subs) (are_distinct is_same_schedule t.schedules) (are_distinct is_same_message t.messages) (are_distinct is_same_seen t.seen) parts.rows in
      record { tables = r.0; queues = r.1; subs = r.2; schedules = r.3; messages = r.4; seen = r.5 }

  apart : StandApart made
  apart = apart_all cs t k n apart_first

  -- the moment of the commit comes last
  later : Follows none_goes none_goes made then
  later = follows_grown made then (record {
    tables = λ name r f. f;
    queues = λ name q f. lower_self then name q f;
    next = omega arith;
    transaction = omega arith;
    latest = le;
  })

  -- ---- what is named is right

  module _ (h : list_all (leaves_right then) cs ≡ true) where
    few_by : (queue : List ℕ) (b : Bool) → list_any (subscribes queue) cs ≡ b → nat_le (length (subscribers_of then queue)) SUBSCRIBER_LIMIT ≡ true
    few_by queue true e = let some = some_both (leaves_right then) (subscribes queue) cs h e in count_of then some.0 queue some.1 some.2
    few_by queue false e =
        let less = fewer_all cs t queue k e in
        let low = leb-true (length (subscribers_of t queue)) SUBSCRIBER_LIMIT (few_in t v queue) in
        le-leb (length (subscribers_of then queue)) SUBSCRIBER_LIMIT (omega (arith, less, low))

    sub_there : (s : SubRow) → is_right_sub made s ≡ true → is_valid_sub then s ≡ true
    sub_there s e = sub_from then s (sub_stays none_goes none_goes made then later s refl e) (few_by s.queue (list_any (subscribes s.queue) cs) refl)

    rows_right : has_right_numbers then ≡ true → ValidParts then
    rows_right numbers =
        let p = parts in
        let d = apart_first in
        let a = apart in
        record {
          rows = six_from (are_distinct is_same_table made.tables) (are_distinct is_same_queue made.queues) (are_distinct is_same_sub made.subs) (are_distinct is_same_schedule made.schedules)
              (are_distinct is_same_message made.messages) (are_distinct is_same_seen made.seen) a.tables a.queues a.subs a.schedules a.messages a.seen;
          numbers = numbers;
          tables = all_right (λ x. x.tables) is_valid_table marks_table tables_next is_same_table self_table join_tables (is_valid_table then) cs t k n d a.tables
              (λ r e. table_stays none_goes none_goes made then later r refl e) p.tables
              (λ r e f. let some = some_both (leaves_right then) (λ c. marks_table c r) cs h e in row_of then some.0 r some.1 some.2 f);
          queues = all_right (λ x. x.queues) is_valid_queue marks_queue queues_next is_same_queue self_queue join_queues (is_valid_queue then) cs t k n d a.queues
              (λ q e. queue_stays none_goes none_goes made then later q refl e) p.queues
              (λ q e f. let some = some_both (leaves_right then) (λ c. marks_queue c q) cs h e in queue_of then some.0 q some.1 some.2 f);
          subs = all_right (λ x. x.subs) is_right_sub marks_sub subs_next is_same_sub own_sub join_subs (is_valid_sub then) cs t k n d a.subs
              sub_there (all_weaker (is_valid_sub t) (is_right_sub t) (sub_parts t) t.subs p.subs)
              (λ s e f. let some = some_both (leaves_right then) (λ c. marks_sub c s) cs h e in sub_of then some.0 s some.1 some.2 f);
          schedules = all_right (λ x. x.schedules) is_valid_schedule marks_schedule schedules_next is_same_schedule own_schedule join_schedules (is_valid_schedule then) cs t k n d a.schedules
              (λ s e. schedule_stays none_goes none_goes made then later s refl e) p.schedules
              (λ s e f. let some = some_both (leaves_right then) (λ c. marks_schedule c s) cs h e in schedule_of then some.0 s some.1 some.2 f);
          messages = all_right (λ x. x.messages) is_valid_message marks_message messages_next is_same_message self_message join_messages (is_valid_message then) cs t k n d a.messages
              (λ m e. message_stays none_goes none_goes made then later m refl e) p.messages
              (λ m e f. let some = some_both (leaves_right then) (λ c. marks_message c m) cs h e in message_of then some.0 m some.1 some.2 f);
          seen = ap (list_all (λ s. nat_lt s.copy then.next)) (seen_all cs t k)
              ∙ Rattle.valid_laws.proofs.Doing.all-append (λ s. nat_lt s.copy then.next) t.seen (flat_map saw cs)
              (all_weaker (λ s. nat_lt s.copy t.next) (λ s. nat_lt s.copy then.next) (λ s e. lt_stays s.copy t.next then.next (next_all cs t k) e) t.seen p.seen) (seen_of_all then cs h);
        }

  -- ---- from valid tables to what is named

  module _ (w : is_valid then ≡ true) where
    found_right : {X : Type 0} (q : X → Bool) (p : X → Bool) (xs : List X) → list_all q xs ≡ true → (o : Option X) → find p xs ≡ o → option_map_or q o true ≡ true
    found_right q p xs h None e = refl
    found_right q p xs h (Some x) e = all_found q p xs x h e

    message_right : (id : ℕ) → holds_right_message then id ≡ true
    message_right id = found_right (is_valid_message then) (λ m. m.id == id) then.messages (parts_of then w).messages (find_message then id) refl

    table_right : (name : List ℕ) → holds_right_table then name ≡ true
    table_right name = found_right (is_valid_table then) (λ r. bytes_eq r.name name) then.tables (parts_of then w).tables (find_table then name) refl

    queue_right : (name : List ℕ) → holds_right_queue then name ≡ true
    queue_right name = found_right (is_valid_queue then) (λ r. bytes_eq r.name name) then.queues (parts_of then w).queues (find_queue then name) refl

    sub_right : (queue name : List ℕ) → holds_right_sub then queue name ≡ true
    sub_right queue name =
        and_from (nat_le (length (subscribers_of then queue)) SUBSCRIBER_LIMIT) (option_map_or (is_valid_sub then) (find_sub then queue name) true)
        (few_in then w queue)
        (found_right (is_valid_sub then) (is_sub queue name) then.subs (parts_of then w).subs (find_sub then queue name) refl)

    schedule_right : (queue to : List ℕ) → holds_right_schedule then queue to ≡ true
    schedule_right queue to = found_right (is_valid_schedule then) (is_schedule queue to) then.schedules (parts_of then w).schedules (find_schedule then queue to) refl

    change_right : (c : Change) → list_all (λ s. nat_lt s.copy then.next) (saw c) ≡ true → leaves_right then c ≡ true
    change_right (changes.Enqueued row) h = and_from (holds_right_message then row.id) (holds_right_queue then row.queue) (message_right row.id) (queue_right row.queue)
    change_right (changes.Retried id slot retries until at) h = message_right id
    change_right (changes.Ready id slot at) h = message_right id
    change_right (changes.Done id slot at) h = message_right id
    change_right (changes.Expired id slot at) h = message_right id
    change_right (changes.Dropped id slot at) h = message_right id
    change_right (changes.Moved id queue at) h = and_from (holds_right_message then id) (holds_right_queue then queue) (message_right id) (queue_right queue)
    change_right (changes.Seen row) h = (and_parts (nat_lt row.copy then.next) true h).0
    change_right (changes.PutTable row) h = table_right row.name
    change_right (changes.PutQueue row) h = queue_right row.name
    change_right (changes.PutSub row) h = sub_right row.queue row.name
    change_right (changes.PutSchedule row) h = schedule_right row.queue row.to
    change_right _ h = refl

    changes_right : (ds : List Change) → list_all (λ s. nat_lt s.copy then.next) (flat_map saw ds) ≡ true → list_all (leaves_right then) ds ≡ true
    changes_right [] h = refl
    changes_right (d ∷ ds) h =
        let p = append_parts (λ s. nat_lt s.copy then.next) (saw d) (flat_map saw ds) h in
        and_from (leaves_right then d) (list_all (leaves_right then) ds) (change_right d p.0) (changes_right ds p.1)

    named_right : list_all (leaves_right then) cs ≡ true
    named_right =
        let all = sym (ap (list_all (λ s. nat_lt s.copy then.next)) (seen_all cs t k)) ∙ (parts_of then w).seen in
        changes_right cs (append_parts (λ s. nat_lt s.copy then.next) t.seen (flat_map saw cs) all).1

  pub told : leaves_all_right then cs ≡ is_valid then
  told = same_test (leaves_all_right then cs) (is_valid then)
      (λ h. let p = and_parts (has_right_numbers then) (list_all (leaves_right then) cs) h in valid_from then (rows_right p.1 p.0))
      (λ w. and_from (has_right_numbers then) (list_all (leaves_right then) cs) (parts_of then w).numbers (named_right w))

pub fit_is_local : FitIsLocal
unfolding after
fit_is_local t commit v n k = told t v commit.changes k n (max (after_all t commit.changes).latest commit.moment) (omega arith)
