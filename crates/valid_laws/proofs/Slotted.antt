-- A message stays valid when one of its slots is changed as it may be; and so do the tables.
use Rattle.std.proofs.Common.{◌≡◌, ◌-◌, ℕ, zero, suc, List, [], ◌∷◌, Bool, true, false, not, length, take, refl, sym, ap, ◌∙◌, Option, Some, None, ◌==◌, ◌&&◌, ◌||◌}
use Rattle.std.specs.Prelude.{nat_le, slice_get, option_map, is_some, is_none, if◌then◌else◌}
use Rattle.std.specs.List.{list_all}
use Rattle.std.proofs.lemmas.Bool.{and_parts, and_from, false≢true}
use Rattle.std.proofs.lemmas.Option.{none-some}
use Rattle.queue_rows.specs.Rows.{find_message, find_queue, find_table, changed_nth, with_slot, has_slot, slot_of, slot_index, recipient_count, recipient_slots}
use Rattle.queue_rows.specs.Tables.{changed_slot}
use Rattle.queue_rows.specs.Settling.{is_open}
use Rattle.queue_rows.specs.Session.{is_same_consumer}
use Rattle.queue_rows.specs.Distinct.{are_distinct}
use Rattle.queue_rows.specs.Valid.{is_valid, is_valid_message, is_valid_message_at, is_valid_message_in, is_right_queue, has_right_cells, has_right_ids, has_right_place, has_right_lane, has_right_props, has_right_slots, has_right_recipients, has_right_names, is_right_if_moved, is_right_slot_zero, has_right_retries, has_allowed_retries, has_begun, is_same_recipient, is_nameless}
use Rattle.aq_base.specs.declared.limits.TheConstants.{RECIPIENT_LIMIT}
use Rattle.queue_rows.specs.declared.tables.Tables.{Tables}
use Rattle.queue_rows.specs.declared.rows.MsgRow.{MsgRow}
use Rattle.queue_rows.specs.declared.rows.SlotRow.{SlotRow}
use Rattle.queue_rows.specs.declared.rows.QueueRow.{QueueRow}
use Rattle.queue_rows.specs.declared.rows.TableRow.{TableRow}
use Rattle.row_laws.proofs.Slots.{length-changed_nth, slot_of-has, slot_of-with_same, with_slot-has, with_slot-hasnt}
use Rattle.row_laws.proofs.Messages.{single_after_changed}
use Rattle.row_laws.proofs.Distinctly.{single_if_distinct, distinct_if_single}
use Rattle.valid_laws.specs.ValidLaws.{MayBeChanged}
use Rattle.valid_laws.proofs.Parts.{valid_distinct, valid_messages, six_parts, six_from, valid_with_messages, all_changed_first, all_nth, distinct_nth, take_changed, changed_past, past_take, get_of_take}

-- ---- the parts of a message's slots

three_parts : (a b c : Bool) → (a && b && c) ≡ true → (a ≡ true) × (b ≡ true) × (c ≡ true)
three_parts a b c h = let p = and_parts (a && b) c h in let q = and_parts a b p.0 in (q.0, q.1, p.1)

three_from : (a b c : Bool) → a ≡ true → b ≡ true → c ≡ true → (a && b && c) ≡ true
three_from a b c p q r = rw (p, q, r) refl

-- the message with that slot changed, where it has it
abbrev changed_slots : ℕ → (SlotRow → SlotRow) → MsgRow → MsgRow
changed_slots slot f m = record m { slots = changed_nth f (slot_index m slot) m.slots }

module _ (m : MsgRow) (slot : ℕ) (f : SlotRow → SlotRow) (has : has_slot m slot ≡ true) where
  is_slot : (s : SlotRow) → slice_get m.slots (slot_index m slot) ≡ Some s → slot_of m slot ≡ Some s
  is_slot s e = slot_of-has m slot has ∙ e

  count_same : recipient_count (changed_slots slot f m) ≡ recipient_count m
  count_same = ap (λ n. if m.moved then n - 1 else n) (length-changed_nth f m.slots (slot_index m slot))

  slots_same : recipient_slots (changed_slots slot f m) ≡ changed_nth f (slot_index m slot) (recipient_slots m)
  slots_same = ap (λ n. take n (changed_nth f (slot_index m slot) m.slots)) count_same ∙ take_changed f (recipient_count m) m.slots (slot_index m slot)

  module _ (t : Tables) (table : TableRow) (queue : QueueRow) (k : MayBeChanged t.latest queue m slot f) where
    same_left : (x y : SlotRow) → is_same_recipient (f x) y ≡ is_same_recipient x y
    same_left x y = ap (λ n. is_same_consumer n y.name && is_same_consumer (f x).address y.address) (k.name x) ∙ ap (λ a. is_same_consumer x.name y.name && is_same_consumer a y.address) (k.address x)

    same_right : (x y : SlotRow) → is_same_recipient x (f y) ≡ is_same_recipient x y
    same_right x y = ap (λ n. is_same_consumer x.name n && is_same_consumer x.address (f y).address) (k.name y) ∙ ap (λ a. is_same_consumer x.name y.name && is_same_consumer x.address a) (k.address y)

    recipients_stay : has_right_recipients m ≡ true → has_right_recipients (changed_slots slot f m) ≡ true
    recipients_stay h =
        let p = three_parts (nat_le 1 (recipient_count m)) (nat_le (recipient_count m) RECIPIENT_LIMIT) (are_distinct is_same_recipient (recipient_slots m)) h in
        let r = changed_slots slot f m in
        three_from (nat_le 1 (recipient_count r)) (nat_le (recipient_count r) RECIPIENT_LIMIT) (are_distinct is_same_recipient (recipient_slots r))
        (ap (nat_le 1) count_same ∙ p.0) (ap (λ n. nat_le n RECIPIENT_LIMIT) count_same ∙ p.1)
        (ap (are_distinct is_same_recipient) slots_same ∙ distinct_nth is_same_recipient f same_left same_right (recipient_slots m) (slot_index m slot) ∙ p.2)

    names_by : (b : Bool) → (if b then list_all (λ s. is_some s.name) (recipient_slots m) else list_all is_nameless m.slots) ≡ true
        → (if b then list_all (λ s. is_some s.name) (recipient_slots (changed_slots slot f m)) else list_all is_nameless (changed_nth f (slot_index m slot) m.slots)) ≡ true
    names_by true h =
        ap (list_all (λ s. is_some s.name)) slots_same
        ∙ all_nth (λ s. is_some s.name) f (recipient_slots m) (slot_index m slot) h (λ s e. ap is_some (k.name s) ∙ all_at (λ x. is_some x.name) (recipient_slots m) (slot_index m slot) s h e)
      where
        all_at : (q : SlotRow → Bool) (xs : List SlotRow) (i : ℕ) (s : SlotRow) → list_all q xs ≡ true → slice_get xs i ≡ Some s → q s ≡ true
        all_at q [] i s h e = absurd (none-some s e)
        all_at q (x ∷ xs) zero s h e = let same : x ≡ s = cc in ap q (sym same) ∙ (and_parts (q x) (list_all q xs) h).0
        all_at q (x ∷ xs) (suc i) s h e = all_at q xs i s (and_parts (q x) (list_all q xs) h).1 e
    names_by false h = all_nth is_nameless f m.slots (slot_index m slot) h (λ s e. nameless_stays s (all_at is_nameless m.slots (slot_index m slot) s h e))
      where
        all_at : (q : SlotRow → Bool) (xs : List SlotRow) (i : ℕ) (s : SlotRow) → list_all q xs ≡ true → slice_get xs i ≡ Some s → q s ≡ true
        all_at q [] i s h e = absurd (none-some s e)
        all_at q (x ∷ xs) zero s h e = let same : x ≡ s = cc in ap q (sym same) ∙ (and_parts (q x) (list_all q xs) h).0
        all_at q (x ∷ xs) (suc i) s h e = all_at q xs i s (and_parts (q x) (list_all q xs) h).1 e

        nameless_stays : (s : SlotRow) → is_nameless s ≡ true → is_nameless (f s) ≡ true
        nameless_stays s h = ap (λ n. is_none n && is_none (f s).address) (k.name s) ∙ ap (λ a. is_none s.name && is_none a) (k.address s) ∙ h

    names_stay : has_right_names table m ≡ true → has_right_names table (changed_slots slot f m) ≡ true
    names_stay h = names_by table.multi h

    zero_is : (o : Option SlotRow) → slot_of m 0 ≡ o → slot ≡ 0 → is_right_slot_zero o ≡ true → ((s : SlotRow) → slot_of m slot ≡ Some s → is_right_slot_zero (Some (f s)) ≡ true) → is_right_slot_zero (slot_of (changed_slots slot f m) 0) ≡ true
    zero_is None e z h g = absurd (false≢true h)
    zero_is (Some s) e z h g =
        let same : slot_of (changed_slots slot f m) 0 ≡ Some (f s) = ap (λ r. slot_of r 0) (sym (with_slot-has slot f m has)) ∙ ap (slot_of (with_slot slot f m)) (sym z) ∙ slot_of-with_same slot f m ∙ ap (option_map f) (ap (slot_of m) z ∙ e) in
        ap is_right_slot_zero same ∙ g s (ap (slot_of m) z ∙ e)

    moved_by : (b : Bool) → m.moved ≡ b → (not b || (list_all (λ s. not (is_open s.state)) (recipient_slots m) && is_right_slot_zero (slot_of m 0))) ≡ true
        → (not b || (list_all (λ s. not (is_open s.state)) (recipient_slots (changed_slots slot f m)) && is_right_slot_zero (slot_of (changed_slots slot f m) 0))) ≡ true
    moved_by false e h = refl
    moved_by true e h =
        let p = and_parts (list_all (λ s. not (is_open s.state)) (recipient_slots m)) (is_right_slot_zero (slot_of m 0)) h in
        let zero_slot = (k.zero e).0 in
        let count : recipient_count m ≡ length m.slots - 1 = rw e refl in
        let index : slot_index m slot ≡ length m.slots - 1 = ap (slot_index m) zero_slot in
        let past : slice_get (recipient_slots m) (slot_index m slot) ≡ None =
        ap (λ n. slice_get (take n m.slots) (slot_index m slot)) count ∙ ap (slice_get (take (length m.slots - 1) m.slots)) index ∙ past_take (λ s. s) (length m.slots - 1) m.slots in
        and_from (list_all (λ s. not (is_open s.state)) (recipient_slots (changed_slots slot f m))) (is_right_slot_zero (slot_of (changed_slots slot f m) 0))
        (ap (list_all (λ s. not (is_open s.state))) (slots_same ∙ changed_past f (recipient_slots m) (slot_index m slot) past) ∙ p.0)
        (zero_is (slot_of m 0) refl zero_slot p.1 (k.zero e).1)

    -- where slot 0 is changed, the recipients' slots stay
    recipients_same : m.moved ≡ true → recipient_slots (changed_slots slot f m) ≡ recipient_slots m
    recipients_same e =
        let count : recipient_count m ≡ length m.slots - 1 = rw e refl in
        let index : slot_index m slot ≡ length m.slots - 1 = ap (slot_index m) (k.zero e).0 in
        let past : slice_get (recipient_slots m) (slot_index m slot) ≡ None =
        ap (λ n. slice_get (take n m.slots) (slot_index m slot)) count ∙ ap (slice_get (take (length m.slots - 1) m.slots)) index ∙ past_take (λ s. s) (length m.slots - 1) m.slots in
        slots_same ∙ changed_past f (recipient_slots m) (slot_index m slot) past

    allowed_by : (b : Bool) → m.moved ≡ b → list_all (has_allowed_retries queue) (recipient_slots m) ≡ true → list_all (has_allowed_retries queue) (recipient_slots (changed_slots slot f m)) ≡ true
    allowed_by true e h = ap (list_all (has_allowed_retries queue)) (recipients_same e) ∙ h
    allowed_by false e h =
        ap (list_all (has_allowed_retries queue)) slots_same
        ∙ all_nth (has_allowed_retries queue) f (recipient_slots m) (slot_index m slot) h (λ s g. k.allowed e s (is_slot s (get_of_take f (recipient_count m) m.slots (slot_index m slot) s g)))

    allowed_stay : list_all (has_allowed_retries queue) (recipient_slots m) ≡ true → list_all (has_allowed_retries queue) (recipient_slots (changed_slots slot f m)) ≡ true
    allowed_stay h = allowed_by m.moved refl h

    pub slots_stay : has_right_slots t table queue m ≡ true → has_right_slots t table queue (changed_slots slot f m) ≡ true
    slots_stay h =
        let r = changed_slots slot f m in
        let p = six_parts (has_right_recipients m) (has_right_names table m) (is_right_if_moved m) (list_all has_right_retries m.slots) (list_all (has_allowed_retries queue) (recipient_slots m)) (list_all (has_begun t.latest) m.slots) h in
        six_from (has_right_recipients r) (has_right_names table r) (is_right_if_moved r) (list_all has_right_retries r.slots) (list_all (has_allowed_retries queue) (recipient_slots r)) (list_all (has_begun t.latest) r.slots)
        (recipients_stay p.0) (names_stay p.1) (moved_by m.moved refl p.2) (all_nth has_right_retries f m.slots (slot_index m slot) p.3 (λ s e. k.retries s (is_slot s e))) (allowed_stay p.4) (all_nth (has_begun t.latest) f m.slots (slot_index m slot) p.5 (λ s e. k.begun s (is_slot s e)))

-- ---- the message

pub with_last : (a b c : Bool) → (a && b) ≡ true → (b ≡ true → c ≡ true) → (a && c) ≡ true
with_last a b c h k = let p = and_parts a b h in and_from a c p.0 (k p.1)

slots_by : (t : Tables) (table : TableRow) (queue : QueueRow) (m : MsgRow) (slot : ℕ) (f : SlotRow → SlotRow) (b : Bool) → has_slot m slot ≡ b → MayBeChanged t.latest queue m slot f
    → has_right_slots t table queue m ≡ true → has_right_slots t table queue (with_slot slot f m) ≡ true
slots_by t table queue m slot f true e k h = ap (has_right_slots t table queue) (with_slot-has slot f m e) ∙ slots_stay m slot f e t table queue k h
slots_by t table queue m slot f false e k h = ap (has_right_slots t table queue) (with_slot-hasnt slot f m e) ∙ h

message_in : (t : Tables) (queue : QueueRow) (o : Option TableRow) (m : MsgRow) (slot : ℕ) (f : SlotRow → SlotRow) → MayBeChanged t.latest queue m slot f → is_valid_message_in t queue o m ≡ true → is_valid_message_in t queue o (with_slot slot f m) ≡ true
message_in t queue None m slot f k h = absurd (false≢true h)
message_in t queue (Some table) m slot f k h =
    with_last (is_right_queue m queue && has_right_cells table m && has_right_ids t m && has_right_place table m && has_right_lane table queue m && has_right_props m && nat_le m.enq t.latest)
    (has_right_slots t table queue m) (has_right_slots t table queue (with_slot slot f m)) h (slots_by t table queue m slot f (has_slot m slot) refl k)

message_at : (t : Tables) (o : Option QueueRow) (m : MsgRow) (slot : ℕ) (f : SlotRow → SlotRow) → ((queue : QueueRow) → o ≡ Some queue → MayBeChanged t.latest queue m slot f) → is_valid_message_at t o m ≡ true → is_valid_message_at t o (with_slot slot f m) ≡ true
message_at t None m slot f k h = absurd (false≢true h)
message_at t (Some queue) m slot f k h = message_in t queue (find_table t queue.table) m slot f (k queue refl) h

pub message_stays : (t : Tables) (m : MsgRow) (slot : ℕ) (f : SlotRow → SlotRow) → ((queue : QueueRow) → find_queue t m.queue ≡ Some queue → MayBeChanged t.latest queue m slot f) → is_valid_message t m ≡ true → is_valid_message t (with_slot slot f m) ≡ true
message_stays t m slot f k h = message_at t (find_queue t m.queue) m slot f k h

-- ---- the tables

pub slot_keeps_valid : (t : Tables) (id slot : ℕ) (f : SlotRow → SlotRow) → is_valid t ≡ true
    → ((m : MsgRow) (queue : QueueRow) → find_message t id ≡ Some m → find_queue t m.queue ≡ Some queue → MayBeChanged t.latest queue m slot f) → is_valid (changed_slot t id slot f) ≡ true
slot_keeps_valid t id slot f v k =
    let u = changed_slot t id slot f in
    valid_with_messages t u.messages v
    (distinct_if_single u (λ n. single_after_changed t (with_slot slot f) (λ m. refl) id n (single_if_distinct t n (valid_distinct t v))))
    (all_changed_first (is_valid_message t) (λ m. m.id == id) (with_slot slot f) t.messages (valid_messages t v) (λ m e h. message_stays t m slot f (λ queue g. k m queue e g) h))
