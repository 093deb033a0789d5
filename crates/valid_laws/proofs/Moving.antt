-- A message that is moved keeps tables valid.
use Rattle.std.proofs.Common.{◌≡◌, ◌≤◌, ◌^◌, ℕ, List, [], ◌∷◌, ◌++◌, Bool, true, false, not, length, take, max, refl, sym, ap, ◌∙◌, subst, arith, Option, Some, None, ◌==◌, ◌&&◌, ◌||◌, length-append}
use Rattle.std.specs.Prelude.{find, fold, nat_le, is_some, if◌then◌else◌, pos, neg_ℤ, int_le}
use Rattle.std.specs.List.{list_any, list_all}
use Rattle.std.specs.Str.{bytes_eq}
use Rattle.std.proofs.lemmas.Bool.{and_parts, and_from, le-leb, leb-true, or_left, not-true, false≢true, true≢false}
use Rattle.queue_rows.specs.Rows.{find_message, find_queue, find_table, slot_of, recipient_slots, recipient_count}
use Rattle.queue_rows.specs.Tables.{after_change, move_some, move_in, moved_to, slot_zero, most_retries, is_grouped, is_grouped_table, lane_of}
use Rattle.queue_rows.specs.Settling.{is_open}
use Rattle.valid_laws.specs.Openness.{is_finished}
use Rattle.queue_rows.specs.Distinct.{are_distinct}
use Rattle.aq_base.specs.declared.limits.TheConstants.{RECIPIENT_LIMIT}
use Rattle.queue_rows.specs.Valid.{is_valid, is_same_message, is_valid_queue, has_right_lowest, is_valid_message, is_valid_message_at, is_valid_message_in, is_right_queue, has_right_cells, has_right_ids, has_right_place, has_right_lane, has_right_props, has_right_slots, has_right_recipients, has_right_names, is_nameless, is_same_recipient, is_right_if_moved, is_right_slot_zero, has_right_retries, has_allowed_retries, has_begun}
use Rattle.queue_rows.specs.declared.tables.Tables.{Tables}
use Rattle.queue_rows.specs.declared.rows.MsgRow.{MsgRow}
use Rattle.queue_rows.specs.declared.rows.SlotRow.{SlotRow}
use Rattle.queue_rows.specs.declared.rows.QueueRow.{QueueRow}
use Rattle.queue_rows.specs.declared.rows.TableRow.{TableRow}
use Rattle.valid_laws.specs.ValidLaws.{MovesRight}
use Rattle.queue_rows.specs.declared.change.Change.TheVariants as changes
use Rattle.row_laws.proofs.Messages.{id_found}
use Rattle.row_laws.proofs.Distinctly.{stays_distinct}
use Rattle.row_laws.proofs.Slots.{slot_of-moved_zero}
use Rattle.valid_laws.proofs.Doing.{all-append}
use Rattle.valid_laws.proofs.Exceptions.{HasHome, home_of}
use Rattle.valid_laws.proofs.Lowering.{le_trans_z, AreNumbers, IsLaneRight, IsRightIn, low, low_is_valid, own_valid, other_valid, numbers_of}
use Rattle.valid_laws.proofs.Parts.{and_l, and_r, valid_distinct, valid_messages, all_found, parts_of, six_parts, six_from, all_changed_first, all_weaker}

-- ---- the slots of a moved message

take_front : (xs : List SlotRow) (z : SlotRow) → take (length xs) (xs ++ z ∷ []) ≡ xs
take_front [] z = refl
take_front (x ∷ xs) z = ap (λ ys. x ∷ ys) (take_front xs z)

most_from : (xs : List SlotRow) (a : ℕ) → a ≤ 2 ^ 31 → list_all has_right_retries xs ≡ true → fold (λ most s. max most s.retries) a xs ≤ 2 ^ 31
most_from [] a le h = le
most_from (x ∷ xs) a le h =
    let p = and_parts (has_right_retries x) (list_all has_right_retries xs) h in
    let g : x.retries ≤ 2 ^ 31 = leb-true x.retries (2 ^ 31) p.0 in
    most_from xs (max a x.retries) (omega (arith, le, g)) p.1

none_open_all : (xs : List SlotRow) → not (list_any (λ s. is_open s.state) xs) ≡ true → list_all (λ s. not (is_open s.state)) xs ≡ true
none_open_all [] h = refl
none_open_all (x ∷ xs) h = head_closed (is_open x.state) (list_any (λ s. is_open s.state) xs) h (λ g. none_open_all xs g)
  where
    head_closed : (a b : Bool) → not (a || b) ≡ true → (not b ≡ true → list_all (λ s. not (is_open s.state)) xs ≡ true) → (not a && list_all (λ s. not (is_open s.state)) xs) ≡ true
    head_closed true b h k = absurd (false≢true h)
    head_closed false b h k = k h

closed_allowed : (queue : QueueRow) (xs : List SlotRow) → list_all (λ s. not (is_open s.state)) xs ≡ true → list_all (has_allowed_retries queue) xs ≡ true
closed_allowed queue xs h = all_weaker (λ s. not (is_open s.state)) (has_allowed_retries queue) (λ s e. or_left (not (is_open s.state)) (nat_le s.retries queue.max_retries) e) xs h

module _ (t : Tables) (table : TableRow) (from to : QueueRow) (m : MsgRow) (queue : List ℕ) (at : ℕ) (unmoved : m.moved ≡ false) (finished : is_finished m ≡ true) (in_time : at ≤ t.latest) where
  count_moved : recipient_count (moved_to queue at m) ≡ length m.slots
  count_moved = rw length-append (omega arith)

  count_before : recipient_count m ≡ length m.slots
  count_before = rw unmoved refl

  take_whole : (xs : List SlotRow) → take (length xs) xs ≡ xs
  take_whole [] = refl
  take_whole (x ∷ xs) = ap (λ ys. x ∷ ys) (take_whole xs)

  recipients_moved : recipient_slots (moved_to queue at m) ≡ m.slots
  recipients_moved = ap (λ n. take n (m.slots ++ slot_zero m.slots at ∷ [])) count_moved ∙ take_front m.slots (slot_zero m.slots at)

  recipients_before : recipient_slots m ≡ m.slots
  recipients_before = ap (λ n. take n m.slots) count_before ∙ take_whole m.slots

  closed_all : list_all (λ s. not (is_open s.state)) m.slots ≡ true
  closed_all = none_open_all m.slots finished

  names_moved : (b : Bool) → (if b then list_all (λ s. is_some s.name) (recipient_slots m) else list_all is_nameless m.slots) ≡ true
      → (if b then list_all (λ s. is_some s.name) (recipient_slots (moved_to queue at m)) else list_all is_nameless (m.slots ++ slot_zero m.slots at ∷ [])) ≡ true
  names_moved true h = ap (list_all (λ s. is_some s.name)) (recipients_moved ∙ sym recipients_before) ∙ h
  names_moved false h = all-append is_nameless m.slots (slot_zero m.slots at ∷ []) h refl

  zero_right : is_right_slot_zero (slot_of (moved_to queue at m) 0) ≡ true
  zero_right = ap is_right_slot_zero (slot_of-moved_zero queue at m)

  slots_moved : has_right_slots t table from m ≡ true → has_right_slots t table to (moved_to queue at m) ≡ true
  slots_moved h =
      let r = moved_to queue at m in
      let z = slot_zero m.slots at in
      let p = six_parts (has_right_recipients m) (has_right_names table m) (is_right_if_moved m) (list_all has_right_retries m.slots) (list_all (has_allowed_retries from) (recipient_slots m)) (list_all (has_begun t.latest) m.slots) h in
      let count : recipient_count r ≡ recipient_count m = count_moved ∙ sym count_before in
      let rows : recipient_slots r ≡ recipient_slots m = recipients_moved ∙ sym recipients_before in
      six_from (has_right_recipients r) (has_right_names table r) (is_right_if_moved r) (list_all has_right_retries r.slots) (list_all (has_allowed_retries to) (recipient_slots r)) (list_all (has_begun t.latest) r.slots)
      (ap (λ n. nat_le 1 n && nat_le n RECIPIENT_LIMIT && are_distinct is_same_recipient (recipient_slots r)) count
      ∙ ap (λ xs. nat_le 1 (recipient_count m) && nat_le (recipient_count m) RECIPIENT_LIMIT && are_distinct is_same_recipient xs) rows ∙ p.0)
      (names_moved table.multi p.1)
      (and_from (list_all (λ s. not (is_open s.state)) (recipient_slots r)) (is_right_slot_zero (slot_of r 0)) (ap (list_all (λ s. not (is_open s.state))) recipients_moved ∙ closed_all) zero_right)
      (all-append has_right_retries m.slots (z ∷ []) p.3 (and_from (has_right_retries z) true (le-leb (most_retries m.slots) (2 ^ 31) (most_from m.slots 0 (omega arith) p.3)) refl))
      (ap (list_all (has_allowed_retries to)) recipients_moved ∙ closed_allowed to m.slots closed_all)
      (all-append (has_begun t.latest) m.slots (z ∷ []) p.5 (and_from (has_begun t.latest z) true (le-leb at t.latest in_time) refl))

-- ---- the tables

module _ (t : Tables) (v : is_valid t ≡ true) (id : ℕ) (queue : List ℕ) (at : ℕ) (k : MovesRight t id queue at) where
  abbrev m : MsgRow
  m = k.message

  from_valid : is_valid_queue t k.from ≡ true
  from_valid = all_found (is_valid_queue t) (λ r. bytes_eq r.name k.message.queue) t.queues k.from (parts_of t v).queues k.from_is

  message_valid : is_valid_message_in t k.from (find_table t k.from.table) k.message ≡ true
  message_valid =
      let h : is_valid_message_at t (find_queue t k.message.queue) k.message ≡ true = all_found (is_valid_message t) (λ r. r.id == id) t.messages k.message (valid_messages t v) k.found in
      subst (λ o. is_valid_message_at t o k.message ≡ true) k.from_is h

  lowest_part : (q : QueueRow) → is_valid_queue t q ≡ true → has_right_lowest t q ≡ true
  lowest_part q h = search (and_l, and_r)

  lane_part : (table : TableRow) → is_valid_message_in t k.from (Some table) k.message ≡ true → has_right_lane table k.from k.message ≡ true
  lane_part table h = search (and_l, and_r) depth 7

  -- where the table is not grouped, the message's lane is not below the negated next id
  lane_by : (o : Option TableRow) → find_table t k.from.table ≡ o → is_valid_message_in t k.from o k.message ≡ true → is_grouped_table o ≡ false → int_le (neg_ℤ (pos t.next)) (lane_of k.message.place) ≡ true
  lane_by None e h g = absurd (false≢true h)
  lane_by (Some table) e h g =
      let low = (and_parts (int_le k.from.lowest (pos 0)) (int_le (neg_ℤ (pos t.next)) k.from.lowest) (lowest_part k.from from_valid)).1 in
      le_trans_z (neg_ℤ (pos t.next)) k.from.lowest (lane_of k.message.place) low (not_grouped table.grouped (int_le k.from.lowest (lane_of k.message.place)) g (lane_part table h))
    where
      not_grouped : (a b : Bool) → a ≡ false → (a || b) ≡ true → b ≡ true
      not_grouped true b e h = absurd (true≢false e)
      not_grouped false b e h = h

  same_grouped : is_grouped t.tables k.to ≡ is_grouped t.tables k.from
  same_grouped = ap (λ n. is_grouped_table (find_table t n)) k.table_is

  lane_right : IsLaneRight t t.next (moved_to queue at k.message) k.to
  lane_right g = lane_by (find_table t k.from.table) refl message_valid (sym same_grouped ∙ g)

  numbers_stay : AreNumbers t t.next t.transaction
  numbers_stay = numbers_of t v

  unmoved : k.message.moved ≡ false
  unmoved = not-true k.message.moved (and_parts (not k.message.moved) (is_finished k.message) k.may).0

  -- it is right in the queue to which it goes
  right_in : HasHome t k.message → IsRightIn t v (moved_to queue at k.message) queue k.to k.to_is t.next t.transaction numbers_stay lane_right (moved_to queue at k.message)
  right_in home =
      let same : home.queue ≡ k.from = (let s : Some home.queue ≡ Some k.from = sym home.queue_is ∙ k.from_is in cc) in
      let valid : is_valid_message_in t k.from (Some home.table) k.message ≡ true = subst (λ q. is_valid_message_in t q (Some home.table) k.message ≡ true) same home.valid in
      let p7 = and_parts (is_right_queue k.message k.from && has_right_cells home.table k.message && has_right_ids t k.message && has_right_place home.table k.message && has_right_lane home.table k.from k.message && has_right_props k.message && nat_le k.message.enq t.latest) (has_right_slots t home.table k.from k.message) valid in
      let p6 = and_parts (is_right_queue k.message k.from && has_right_cells home.table k.message && has_right_ids t k.message && has_right_place home.table k.message && has_right_lane home.table k.from k.message && has_right_props k.message) (nat_le k.message.enq t.latest) p7.0 in
      let p = six_parts (is_right_queue k.message k.from) (has_right_cells home.table k.message) (has_right_ids t k.message) (has_right_place home.table k.message) (has_right_lane home.table k.from k.message) (has_right_props k.message) p6.0 in
      record {
        table = home.table;
        queue_is = refl;
        table_is = ap (find_table t) (k.table_is ∙ sym (ap (λ q. q.table) same)) ∙ home.table_is;
        right_queue = k.exception;
        typed = p.1;
        ids = p.2;
        place = p.3;
        lane_is = refl;
        props = p.5;
        entered = p6.1;
        slots = slots_moved t home.table k.from k.to k.message queue at unmoved (and_parts (not k.message.moved) (is_finished k.message) k.may).1 k.in_time p7.1;
      }

  -- ---- together

  after_is : after_change t (changes.Moved id queue at) ≡ move_in t k.message queue at
  after_is = ap (λ o. move_some t o queue at) k.found ∙ ap (λ o. if is_some o then move_in t k.message queue at else t) k.to_is

  distinct_moved : are_distinct is_same_message (move_in t k.message queue at).messages ≡ true
  distinct_moved = ap (λ u. are_distinct is_same_message u.messages) (sym after_is) ∙ stays_distinct t (changes.Moved id queue at) (valid_distinct t v) refl

  abbrev moved : MsgRow
  moved = moved_to queue at k.message

  own_at : (x : MsgRow) → find (λ r. r.id == k.message.id) t.messages ≡ Some x → is_valid_message (low t v (moved_to queue at k.message) queue k.to k.to_is t.next t.transaction numbers_stay lane_right) (moved_to queue at x) ≡ true
  own_at x e =
      let same : k.message ≡ x = (let s : Some k.message ≡ Some x = sym k.found ∙ ap (find_message t) (sym (id_found t id k.message k.found)) ∙ e in cc) in
      subst (λ y. is_valid_message (low t v (moved_to queue at k.message) queue k.to k.to_is t.next t.transaction numbers_stay lane_right) (moved_to queue at y) ≡ true) same
      (own_valid t v (moved_to queue at k.message) queue k.to k.to_is t.next t.transaction numbers_stay lane_right (moved_to queue at k.message) (right_in (home_of t id k.message v k.found)))

  pub moved_is_valid : is_valid (move_in t k.message queue at) ≡ true
  moved_is_valid =
      let u = low t v (moved_to queue at k.message) queue k.to k.to_is t.next t.transaction numbers_stay lane_right in
      low_is_valid t v (moved_to queue at k.message) queue k.to k.to_is t.next t.transaction numbers_stay lane_right (move_in t k.message queue at).messages distinct_moved
      (all_changed_first (is_valid_message u) (λ x. x.id == k.message.id) (moved_to queue at) t.messages
      (all_weaker (is_valid_message t) (is_valid_message u) (other_valid t v (moved_to queue at k.message) queue k.to k.to_is t.next t.transaction numbers_stay lane_right) t.messages (valid_messages t v)) (λ x e h. own_at x e))

pub moved_keeps_valid : (t : Tables) (id : ℕ) (queue : List ℕ) (at : ℕ) → is_valid t ≡ true → MovesRight t id queue at → is_valid (after_change t (changes.Moved id queue at)) ≡ true
moved_keeps_valid t id queue at v k = ap is_valid (after_is t v id queue at k) ∙ moved_is_valid t v id queue at k
