-- Changes that keep tables valid, and commits of them, which fit.
use Rattle.std.proofs.Common.{◌≡◌, ◌≤◌, ◌<◌, ◌-◌, ◌^◌, ℕ, List, [], ◌∷◌, ◌++◌, Bool, true, false, not, length, refl, sym, ap, ◌∙◌, subst, arith, Option, Some, None, ◌==◌, ◌&&◌, ◌||◌}
use Rattle.std.specs.Prelude.{nat_le, nat_lt, slice_get, is_some, is_none}
use Rattle.std.specs.List.{list_any, list_all}
use Rattle.std.specs.Option.{option_map_or}
use Rattle.std.proofs.lemmas.Bool.{eqb-true, eqb-false, and_parts, and_from, le-leb, leb-true, lt-ltb, or_left, or_right, or_parts, or_from, not-true, not_from_false, false≢true, true≢false}
use Rattle.std.proofs.lemmas.Option.{none-some, slice_get_within}
use Rattle.queue_rows.specs.Rows.{is_same_table, is_same_queue, is_same_sub, is_same_schedule, find_message, find_queue, find_table, has_slot, slot_of, slot_index, recipient_slots, recipient_count}
use Rattle.queue_rows.specs.Tables.{after_change, in_state, retried}
use Rattle.queue_rows.specs.Settling.{is_open, is_ready, is_processed}
use Rattle.valid_laws.specs.Openness.{is_open_at, is_finished}
use Rattle.queue_rows.specs.Fits.{has_slot_at, is_unmoved_at, names_what_is_there}
use Rattle.queue_rows.specs.Distinct.{are_distinct}
use Rattle.std.specs.Str.{bytes_eq}
use Rattle.aq_base.specs.declared.limits.TheConstants.{MAX_RETRIES_LIMIT}
use Rattle.queue_rows.specs.Valid.{is_valid, is_valid_queue, is_same_message, is_same_seen, has_distinct_rows, is_valid_message, is_valid_message_at, is_valid_message_in, has_right_slots, is_right_if_moved, is_right_slot_zero, has_right_retries, has_allowed_retries, has_begun, has_right_recipients, has_right_names}
use Rattle.queue_rows.specs.declared.tables.Tables.{Tables}
use Rattle.queue_rows.specs.declared.rows.MsgRow.{MsgRow}
use Rattle.queue_rows.specs.declared.rows.SlotRow.{SlotRow}
use Rattle.queue_rows.specs.declared.rows.QueueRow.{QueueRow}
use Rattle.queue_rows.specs.declared.rows.TableRow.{TableRow}
use Rattle.queue_rows.specs.declared.rows.SeenRow.{SeenRow}
use Rattle.queue_rows.specs.declared.rows.SlotState.{SlotState}
use Rattle.queue_rows.specs.declared.rows.SlotState.TheVariants as states
use Rattle.queue_rows.specs.declared.change.Change.{Change}
use Rattle.queue_rows.specs.declared.change.Change.TheVariants as changes
use Rattle.row_laws.proofs.Slots.{slot_at, has_if_some}
use Rattle.valid_laws.proofs.Opened.{open_at, IsOpenIn, found_with}
use Rattle.valid_laws.specs.ValidLaws.{MayBeChanged, Sees, Keeps}
use Rattle.valid_laws.proofs.Calming.{all_get, take_get}
use Rattle.valid_laws.proofs.Doing.{all-append}
use Rattle.valid_laws.proofs.Still.{valid_closed}
use Rattle.valid_laws.proofs.Parts.{and_l, and_r, valid_messages, all_found, parts_of, valid_from, six_parts, six_from}
use Rattle.valid_laws.proofs.Slotted.{slot_keeps_valid}
use Rattle.valid_laws.proofs.Cataloguing.{queue_put, queue_dropped}
use Rattle.valid_laws.proofs.Putting.{put_is_valid}
use Rattle.valid_laws.proofs.Tabling.{table_dropped}
use Rattle.valid_laws.proofs.Subscribing.{sub_put, sub_dropped, schedule_put, schedule_dropped}
use Rattle.valid_laws.proofs.Moving.{moved_keeps_valid}
use Rattle.valid_laws.proofs.Keeping.{purged_keeps_valid}

-- ---- what is known of an open slot in valid tables

-- the parts of its message's slots that count
pub record SlotsKnown (queue : QueueRow) (m : MsgRow) : Type 0 where
  pub if_moved : is_right_if_moved m ≡ true
  pub retries : list_all has_right_retries m.slots ≡ true
  pub allowed : list_all (has_allowed_retries queue) (recipient_slots m) ≡ true

known_of : (t : Tables) (table : TableRow) (queue : QueueRow) (m : MsgRow) → has_right_slots t table queue m ≡ true → SlotsKnown queue m
known_of t table queue m h =
    let p = six_parts (has_right_recipients m) (has_right_names table m) (is_right_if_moved m) (list_all has_right_retries m.slots) (list_all (has_allowed_retries queue) (recipient_slots m)) (list_all (has_begun t.latest) m.slots) h in
    record { if_moved = p.2; retries = p.3; allowed = p.4 }

right_slots : (t : Tables) (queue : QueueRow) (table : TableRow) (m : MsgRow) → is_valid_message_in t queue (Some table) m ≡ true → has_right_slots t table queue m ≡ true
right_slots t queue table m h = search (and_l, and_r)

known_in : (t : Tables) (queue : QueueRow) (o : Option TableRow) (m : MsgRow) → is_valid_message_in t queue o m ≡ true → SlotsKnown queue m
known_in t queue None m h = absurd (false≢true h)
known_in t queue (Some table) m h = known_of t table queue m (right_slots t queue table m h)

pub slots_known : (t : Tables) (id : ℕ) (m : MsgRow) (queue : QueueRow) → is_valid t ≡ true → find_message t id ≡ Some m → find_queue t m.queue ≡ Some queue → SlotsKnown queue m
slots_known t id m queue v e g =
    let h : is_valid_message_at t (find_queue t m.queue) m ≡ true = all_found (is_valid_message t) (λ r. r.id == id) t.messages m (valid_messages t v) e in
    known_in t queue (find_table t queue.table) m (subst (λ o. is_valid_message_at t o m ≡ true) g h)

-- of a moved message only slot 0 is open
pub open_is_zero : (t : Tables) (id slot : ℕ) (m : MsgRow) (s : SlotRow) (b : Bool) → (slot == 0) ≡ b → is_valid t ≡ true → find_message t id ≡ Some m → m.moved ≡ true → slot_of m slot ≡ Some s → is_open s.state ≡ true → slot ≡ 0
open_is_zero t id slot m s true e v f u g h = eqb-true slot 0 e
open_is_zero t id slot m s false e v f u g h = absurd (true≢false (sym h ∙ closed_there))
  where
    has : has_slot m slot ≡ true
    has = has_if_some m slot s (has_slot m slot) refl g

    le : slot ≤ recipient_count m
    le = leb-true slot (recipient_count m) (rw e at has)

    at : slice_get m.slots (slot - 1) ≡ Some s
    at = let r = slot_at m slot s g in rw e at r

    closed_there : is_open s.state ≡ false
    closed_there = let ne = eqb-false slot 0 e in not-true (is_open s.state) (all_get (λ x. not (is_open x.state)) (recipient_slots m) (slot - 1) s (valid_closed t id m v f u) (take_get m.slots (recipient_count m) (slot - 1) s (omega (arith, le, ne)) at))

zero_expiry : (o : Option SlotRow) (s : SlotRow) → is_right_slot_zero o ≡ true → o ≡ Some s → is_none s.expires ≡ true
zero_expiry None s h e = absurd (none-some s e)
zero_expiry (Some x) s h e = let same : x ≡ s = cc in ap (λ y. is_none y.expires) (sym same) ∙ (and_parts (is_ready x.state || is_processed x.state) (is_none x.expires) h).1

pub moved_zero : (m : MsgRow) → m.moved ≡ true → is_right_if_moved m ≡ true → is_right_slot_zero (slot_of m 0) ≡ true
moved_zero m u h =
    let g : (list_all (λ s. not (is_open s.state)) (recipient_slots m) && is_right_slot_zero (slot_of m 0)) ≡ true = only_right m.moved (list_all (λ s. not (is_open s.state)) (recipient_slots m) && is_right_slot_zero (slot_of m 0)) u h in
    (and_parts (list_all (λ s. not (is_open s.state)) (recipient_slots m)) (is_right_slot_zero (slot_of m 0)) g).1
  where
    only_right : (a b : Bool) → a ≡ true → (not a || b) ≡ true → b ≡ true
    only_right true b e h = h
    only_right false b e h = absurd (false≢true e)

-- ---- a slot in another state

pub unmoved_row : (t : Tables) (id : ℕ) (m : MsgRow) → is_unmoved_at t id ≡ true → find_message t id ≡ Some m → m.moved ≡ false
unmoved_row t id m h e =
    let x = found_with t id (λ r. not r.moved) h in
    let same : x.0 ≡ m = (let s : Some x.0 ≡ Some m = sym x.1 ∙ e in cc) in
    not-true m.moved (subst (λ r. not r.moved ≡ true) same x.2)

pub retried_name : (retries : ℕ) (until : Option ℕ) (at : ℕ) (s : SlotRow) → (retried retries until at s).name ≡ s.name
retried_name retries None at s = refl
retried_name retries (Some n) at s = refl

pub retried_address : (retries : ℕ) (until : Option ℕ) (at : ℕ) (s : SlotRow) → (retried retries until at s).address ≡ s.address
retried_address retries None at s = refl
retried_address retries (Some n) at s = refl

pub retried_retries : (retries : ℕ) (until : Option ℕ) (at : ℕ) (s : SlotRow) → (retried retries until at s).retries ≡ retries
retried_retries retries None at s = refl
retried_retries retries (Some n) at s = refl

retried_begun : (latest retries : ℕ) (until : Option ℕ) (at : ℕ) (s : SlotRow) → at ≤ latest → has_begun latest (retried retries until at s) ≡ true
retried_begun latest retries None at s le = le-leb at latest le
retried_begun latest retries (Some n) at s le = refl

few_retries : (queue : QueueRow) (s : SlotRow) → is_open s.state ≡ true → has_allowed_retries queue s ≡ true → nat_le s.retries queue.max_retries ≡ true
few_retries queue s w h = rw w at h

allowed_still : (state : SlotState) (at : ℕ) (m : MsgRow) (queue : QueueRow) (slot : ℕ) (s : SlotRow) → m.moved ≡ false → is_open s.state ≡ true → slot_of m slot ≡ Some s → list_all (has_allowed_retries queue) (recipient_slots m) ≡ true
    → has_allowed_retries queue (in_state state at s) ≡ true
allowed_still state at m queue slot s u w h all =
    let count : recipient_count m ≡ length m.slots = rw u refl in
    let lt : slot_index m slot < length m.slots = slice_get_within m.slots (slot_index m slot) s (slot_at m slot s h) in
    let there : slice_get (recipient_slots m) (slot_index m slot) ≡ Some s = take_get m.slots (recipient_count m) (slot_index m slot) s (omega (arith, count, lt)) (slot_at m slot s h) in
    or_right (not (is_open state)) (nat_le s.retries queue.max_retries) (few_retries queue s w (all_get (has_allowed_retries queue) (recipient_slots m) (slot_index m slot) s all there))

module _ (t : Tables) (id slot : ℕ) (v : is_valid t ≡ true) (o : is_open_at t id slot ≡ true) where
  row_of : (m : MsgRow) → find_message t id ≡ Some m → IsOpenIn m slot
  row_of m e =
      let x = open_at t id slot o in
      let same : x.message ≡ m = (let s : Some x.message ≡ Some m = sym x.found ∙ e in cc) in
      subst (λ y. IsOpenIn y slot) same x.open_there

  its_row : (m : MsgRow) (s : SlotRow) → find_message t id ≡ Some m → slot_of m slot ≡ Some s → is_open s.state ≡ true
  its_row m s e g =
      let x = row_of m e in
      let same : x.row ≡ s = (let h : Some x.row ≡ Some s = sym x.there ∙ g in cc) in
      ap (λ y. is_open y.state) (sym same) ∙ x.is_open_row

  zero_then : (m : MsgRow) → find_message t id ≡ Some m → m.moved ≡ true → slot ≡ 0
  zero_then m e u = let x = row_of m e in open_is_zero t id slot m x.row (slot == 0) refl v e u x.there x.is_open_row

  -- it becomes processed or ready, also where it is slot 0
  state_may : (state : SlotState) (at : ℕ) → at ≤ t.latest → (is_ready state || is_processed state) ≡ true → (m : MsgRow) (queue : QueueRow) → find_message t id ≡ Some m → find_queue t m.queue ≡ Some queue
      → MayBeChanged t.latest queue m slot (in_state state at)
  state_may state at le good m queue e g =
      let known = slots_known t id m queue v e g in
      record {
        name = λ s. refl;
        address = λ s. refl;
        retries = λ s h. all_get has_right_retries m.slots (slot_index m slot) s known.retries (slot_at m slot s h);
        allowed = λ u s h. allowed_still state at m queue slot s u (its_row m s e h) h known.allowed;
        begun = λ s h. or_right (Rattle.queue_rows.specs.Valid.is_waiting state) (nat_le at t.latest) (le-leb at t.latest le);
        zero = λ u. (
          zero_then m e u,
          λ s h. and_from (is_ready state || is_processed state) (is_none s.expires) good
              (zero_expiry (slot_of m 0) s (moved_zero m u known.if_moved) (ap (slot_of m) (sym (zero_then m e u)) ∙ h)),
        );
      }

  -- it becomes final, where the message was never moved
  closed_may : (state : SlotState) (at : ℕ) → at ≤ t.latest → is_open state ≡ false → is_unmoved_at t id ≡ true → (m : MsgRow) (queue : QueueRow) → find_message t id ≡ Some m → find_queue t m.queue ≡ Some queue
      → MayBeChanged t.latest queue m slot (in_state state at)
  closed_may state at le closed unmoved m queue e g =
      let known = slots_known t id m queue v e g in
      record {
        name = λ s. refl;
        address = λ s. refl;
        retries = λ s h. all_get has_right_retries m.slots (slot_index m slot) s known.retries (slot_at m slot s h);
        allowed = λ u s h. or_left (not (is_open state)) (nat_le s.retries queue.max_retries) (not_from_false (is_open state) closed);
        begun = λ s h. or_right (Rattle.queue_rows.specs.Valid.is_waiting state) (nat_le at t.latest) (le-leb at t.latest le);
        zero = λ u. absurd (true≢false (sym u ∙ unmoved_row t id m unmoved e));
      }

  -- it is retried
  retried_may : (retries : ℕ) (until : Option ℕ) (at : ℕ) → at ≤ t.latest → is_unmoved_at t id ≡ true → (m : MsgRow) (queue : QueueRow) → find_message t id ≡ Some m → find_queue t m.queue ≡ Some queue → retries ≤ queue.max_retries → retries ≤ 2 ^ 31
      → MayBeChanged t.latest queue m slot (retried retries until at)
  retried_may retries until at le unmoved m queue e g few most =
      record {
        name = λ s. retried_name retries until at s;
        address = λ s. retried_address retries until at s;
        retries = λ s h. ap (λ n. nat_le n (2 ^ 31)) (retried_retries retries until at s) ∙ le-leb retries (2 ^ 31) most;
        allowed = λ u s h. or_right (not (is_open (retried retries until at s).state)) (nat_le (retried retries until at s).retries queue.max_retries)
            (ap (λ n. nat_le n queue.max_retries) (retried_retries retries until at s) ∙ le-leb retries queue.max_retries few);
        begun = λ s h. retried_begun t.latest retries until at s le;
        zero = λ u. absurd (true≢false (sym u ∙ unmoved_row t id m unmoved e));
      }

-- ---- a seen pair

any_last : (q : SeenRow → Bool) (xs : List SeenRow) (row : SeenRow) → list_any q xs ≡ false → q row ≡ false → list_any q (xs ++ row ∷ []) ≡ false
any_last q [] row h g = rw g refl
any_last q (x ∷ xs) row h g = let p = or_parts (q x) (list_any q xs) h in or_from (q x) (list_any q (xs ++ row ∷ [])) p.0 (any_last q xs row p.1 g)

distinct_last : (xs : List SeenRow) (row : SeenRow) → are_distinct is_same_seen xs ≡ true → list_any (λ s. is_same_seen s row) xs ≡ false → are_distinct is_same_seen (xs ++ row ∷ []) ≡ true
distinct_last [] row d h = refl
distinct_last (x ∷ xs) row d h =
    let p = and_parts (not (list_any (is_same_seen x) xs)) (are_distinct is_same_seen xs) d in
    let q = or_parts (is_same_seen x row) (list_any (λ s. is_same_seen s row) xs) h in
    and_from (not (list_any (is_same_seen x) (xs ++ row ∷ []))) (are_distinct is_same_seen (xs ++ row ∷ []))
    (not_from_false (list_any (is_same_seen x) (xs ++ row ∷ [])) (any_last (is_same_seen x) xs row (not-true (list_any (is_same_seen x) xs) p.0) q.0)) (distinct_last xs row p.1 q.1)

seen_keeps_valid : (t : Tables) (row : SeenRow) → is_valid t ≡ true → Sees t row → is_valid (after_change t (changes.Seen row)) ≡ true
seen_keeps_valid t row v k =
    let p = parts_of t v in
    let u = after_change t (changes.Seen row) in
    let r = six_parts (are_distinct is_same_table t.tables) (are_distinct is_same_queue t.queues) (are_distinct is_same_sub t.subs) (are_distinct is_same_schedule t.schedules) (are_distinct is_same_message t.messages) (are_distinct is_same_seen t.seen) p.rows in
    valid_from u (record {
      rows = six_from (are_distinct is_same_table t.tables) (are_distinct is_same_queue t.queues) (are_distinct is_same_sub t.subs) (are_distinct is_same_schedule t.schedules) (are_distinct is_same_message t.messages) (are_distinct is_same_seen (t.seen ++ row ∷ []))
          r.0 r.1 r.2 r.3 r.4 (distinct_last t.seen row r.5 k.behind);
      numbers = p.numbers;
      tables = p.tables;
      queues = p.queues;
      subs = p.subs;
      schedules = p.schedules;
      messages = p.messages;
      seen = all-append (λ s. nat_lt s.copy t.next) t.seen (row ∷ []) p.seen (and_from (nat_lt row.copy t.next) true (lt-ltb row.copy t.next k.copy) refl);
    })

-- ---- the most that a queue allows

retries_part : (t : Tables) (queue : QueueRow) → is_valid_queue t queue ≡ true → nat_le queue.max_retries MAX_RETRIES_LIMIT ≡ true
retries_part t queue h = search (and_l, and_r) depth 7

-- ---- any such change

pub open_has_slot : (t : Tables) (id slot : ℕ) → is_open_at t id slot ≡ true → has_slot_at t id slot ≡ true
open_has_slot t id slot h =
    let x = open_at t id slot h in
    ap (λ o. option_map_or (λ m. has_slot m slot) o false) x.found ∙ has_if_some x.message slot x.open_there.row (has_slot x.message slot) refl x.open_there.there

pub max_retries_of : (t : Tables) (id : ℕ) (m : MsgRow) (queue : QueueRow) → is_valid t ≡ true → find_queue t m.queue ≡ Some queue → queue.max_retries ≤ MAX_RETRIES_LIMIT
max_retries_of t id m queue v e =
    let h : is_valid_queue t queue ≡ true = all_found (is_valid_queue t) (λ r. bytes_eq r.name m.queue) t.queues queue (parts_of t v).queues e in
    leb-true queue.max_retries MAX_RETRIES_LIMIT (retries_part t queue h)

retries_small : (n most : ℕ) → n ≤ most → most ≤ MAX_RETRIES_LIMIT → n ≤ 2 ^ 31
retries_small n most a b = omega arith

pub change_keeps_valid : (t : Tables) (c : Change) → is_valid t ≡ true → Keeps t c → (is_valid (after_change t c) ≡ true) × (names_what_is_there t c ≡ true)
change_keeps_valid t (changes.Done id slot at) v k = (slot_keeps_valid t id slot (in_state states.Processed at) v (state_may t id slot v k.is_open_there states.Processed at k.in_time refl), open_has_slot t id slot k.is_open_there)
change_keeps_valid t (changes.Ready id slot at) v k = (slot_keeps_valid t id slot (in_state states.Ready at) v (state_may t id slot v k.is_open_there states.Ready at k.in_time refl), open_has_slot t id slot k.is_open_there)
change_keeps_valid t (changes.Expired id slot at) v k =
    let o = k.changes_open in (slot_keeps_valid t id slot (in_state states.Expired at) v (closed_may t id slot v o.is_open_there states.Expired at o.in_time refl k.unmoved), open_has_slot t id slot o.is_open_there)
change_keeps_valid t (changes.Dropped id slot at) v k =
    let o = k.changes_open in (slot_keeps_valid t id slot (in_state states.Dropped at) v (closed_may t id slot v o.is_open_there states.Dropped at o.in_time refl k.unmoved), open_has_slot t id slot o.is_open_there)
change_keeps_valid t (changes.Retried id slot retries until at) v k =
    let u = k.changes_unmoved in let o = u.changes_open in (
      slot_keeps_valid t id slot (retried retries until at) v (λ m queue e g. retried_may t id slot v o.is_open_there retries until at o.in_time u.unmoved m queue e g (k.few m queue e g) (retries_small retries queue.max_retries (k.few m queue e g) (max_retries_of t id m queue v g))),
      open_has_slot t id slot o.is_open_there,
    )
change_keeps_valid t (changes.Enqueued row) v k = (put_is_valid t v row k, ap is_none k.new)
change_keeps_valid t (changes.Purged id) v k = (purged_keeps_valid t id v, k)
change_keeps_valid t (changes.Seen row) v k = (seen_keeps_valid t row v k, not_from_false (list_any (is_same_seen row) t.seen) k.unseen)
change_keeps_valid t (changes.Moved id queue at) v k = (
  moved_keeps_valid t id queue at v k,
  and_from (is_unmoved_at t id) (is_some (find_queue t queue)) (ap (λ o. option_map_or (λ m. not m.moved) o false) k.found ∙ (and_parts (not k.message.moved) (is_finished k.message) k.may).0) (ap is_some k.to_is),
)
change_keeps_valid t (changes.DropTable name) v k = (table_dropped t name v k, ap is_some k.found)
change_keeps_valid t (changes.PutQueue row) v k = (queue_put t row k v, refl)
change_keeps_valid t (changes.DropQueue name) v k = (queue_dropped t name v k, ap is_some k.found)
change_keeps_valid t (changes.PutSub row) v k = (sub_put t row v k, refl)
change_keeps_valid t (changes.DropSub queue name) v k = (sub_dropped t queue name v, k)
change_keeps_valid t (changes.PutSchedule row) v k = (schedule_put t row v k, refl)
change_keeps_valid t (changes.DropSchedule queue to) v k = (schedule_dropped t queue to v, k)
change_keeps_valid t (changes.PutTable row) v k = absurd k
change_keeps_valid t _ v k = absurd k
