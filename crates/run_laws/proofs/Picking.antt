-- What is picked to be sent is as a slot that is being sent is.
use Rattle.std.proofs.Common.{◌≡◌, ℕ, List, [], ◌∷◌, Bool, true, false, not, refl, sym, ap, ◌∙◌, subst, Option, Some, None, ◌&&◌}
use Rattle.std.specs.Prelude.{find, filter, filter_map, slice_get, option_map, option_and_then, is_some, nat_le, if◌then◌else◌}
use Rattle.std.specs.List.{list_any, cons_option}
use Rattle.std.specs.Option.{option_map_or}
use Rattle.std.specs.Str.{bytes_eq}
use Rattle.std.proofs.lemmas.Bool.{and_parts, and_from, leb-true, not-true, false≢true}
use Rattle.std.proofs.lemmas.Option.{none-some}
use Rattle.aq_base.specs.declared.DbId.{DbId}
use Rattle.aq_base.specs.declared.limits.TheConstants.{MOMENT_LIMIT}
use Rattle.queue_rows.specs.Rows.{find_message, slot_of, is_same_schedule, is_same_table, is_same_queue, is_same_sub}
use Rattle.queue_rows.specs.Settling.{is_ready}
use Rattle.queue_rows.specs.Distinct.{are_distinct}
use Rattle.queue_rows.specs.Dequeueing.{least, found_or, nothing}
use Rattle.queue_rows.specs.Due.{slot_numbers}
use Rattle.queue_rows.specs.Propagating.{is_open_at, lasts, has_sent_since, goes_to, can_send, can_send_slot, first_to_send, can_send_of, slot_to_send, pick_by, pick, is_schedule_of}
use Rattle.queue_rows.specs.Within.{if_some, is_time, is_span}
use Rattle.queue_rows.specs.Valid.{is_valid, is_same_message, is_same_seen, is_valid_schedule, takes_subscribers, has_right_failures}
use Rattle.queue_rows.specs.declared.tables.Tables.{Tables}
use Rattle.queue_rows.specs.declared.rows.MsgRow.{MsgRow}
use Rattle.queue_rows.specs.declared.rows.SlotRow.{SlotRow}
use Rattle.queue_rows.specs.declared.rows.ScheduleRow.{ScheduleRow}
use Rattle.queue_rows.specs.declared.history.SlotRef.{SlotRef}
use Rattle.queue_rows.specs.declared.statement.Mode.TheVariants.{Remove}
use Rattle.queue_rows.specs.declared.statement.Navigation.TheVariants.{First}
use Rattle.row_laws.proofs.Finding.{found_is, find-yes, find-no}
use Rattle.valid_laws.proofs.Parts.{parts_of, all_found, six_parts, valid_distinct}
use Rattle.valid_laws.proofs.Cataloguing.{same_name, own_name}
use Rattle.statement_laws.proofs.Among.{Each, each_both, each_not, each_filtered, IsFoundIn, each_found}
use Rattle.statement_laws.proofs.Taking.{Chooses, choice_chooses}
use Rattle.run_laws.specs.ValidRun.{IsBeingSent}
use Rattle.run_laws.proofs.Hindering.{find_agree, same_schedules}

-- ---- schedules are found by their queues and destinations

abbrev IsFoundAmong : List ScheduleRow → ScheduleRow → Type 0
IsFoundAmong xs s = find (λ r. is_same_schedule r s) xs ≡ Some s

same_self : (s : ScheduleRow) → is_same_schedule s s ≡ true
same_self s = and_from (bytes_eq s.queue s.queue) (bytes_eq s.to s.to) (own_name s.queue) (own_name s.to)

schedules_found : (xs : List ScheduleRow) → are_distinct is_same_schedule xs ≡ true → Each (IsFoundAmong xs) xs
schedules_found [] h = tt
schedules_found (x ∷ xs) h =
    let parts = and_parts (not (list_any (is_same_schedule x) xs)) (are_distinct is_same_schedule xs) h in (
      find-yes (λ r. is_same_schedule r x) x xs (same_self x),
      each_both (λ y. is_same_schedule x y ≡ false) (IsFoundAmong xs) (IsFoundAmong (x ∷ xs)) (λ y d k. find-no (λ r. is_same_schedule r y) x xs d ∙ k) xs
          (each_not (is_same_schedule x) xs (not-true (list_any (is_same_schedule x) xs) parts.0)) (schedules_found xs parts.1),
    )

-- the first that gives something is one of them
first_given : {X Y : Type 0} (Q : X → Type 0) (f : X → Option Y) (xs : List X) (y : Y) → Each Q xs → slice_get (filter_map f xs) 0 ≡ Some y → (x : X) × Q x × (f x ≡ Some y)
first_given Q f [] y h e = absurd (none-some y e)
first_given {X} {Y} Q f (x ∷ xs) y h e = by (f x) refl (first_given Q f xs y h.1) e
  where
    by : (o : Option Y) → f x ≡ o → (slice_get (filter_map f xs) 0 ≡ Some y → (z : X) × Q z × (f z ≡ Some y)) → slice_get (cons_option o (filter_map f xs)) 0 ≡ Some y → (z : X) × Q z × (f z ≡ Some y)
    by None g ih k = ih k
    by (Some z) g ih k = (x, h.0, g ∙ k)

-- ---- what a schedule picks

record Picks (t : Tables) (moment : ℕ) (s : ScheduleRow) (id slot : ℕ) : Type 0 where
  message : MsgRow
  found_there : find_message t message.id ≡ Some message
  of_queue : bytes_eq message.queue s.queue ≡ true
  number : message.id ≡ id
  can : can_send_slot s moment message slot ≡ true
  enabled : s.enabled ≡ true

abbrev IsSendable : Tables → ℕ → ScheduleRow → MsgRow → Type 0
IsSendable t moment s m = (can_send_of s moment m ≡ true) × IsFoundIn t.messages m

sendable : (t : Tables) (moment : ℕ) (s : ScheduleRow) → is_valid t ≡ true → Each (IsSendable t moment s) (filter (can_send_of s moment) t.messages)
sendable t moment s v = each_filtered (IsFoundIn t.messages) (can_send_of s moment) t.messages (each_found t.messages (valid_distinct t v))

enabled_if_open : (moment : ℕ) (s : ScheduleRow) → is_open_at moment s ≡ true → s.enabled ≡ true
enabled_if_open moment s h =
    let a = and_parts (s.enabled && nat_le s.start moment && nat_le s.next moment) (lasts s moment) h in
    let b = and_parts (s.enabled && nat_le s.start moment) (nat_le s.next moment) a.0 in
    (and_parts s.enabled (nat_le s.start moment) b.0).0

picks_slot : (t : Tables) (moment : ℕ) (s : ScheduleRow) (id slot : ℕ) (m : MsgRow) (o : Option ℕ) → first_to_send s moment m ≡ o → IsSendable t moment s m → s.enabled ≡ true → option_map {U = ℕ × ℕ} (λ a. (m.id, a)) o ≡ Some (id, slot) → Picks t moment s id slot
picks_slot t moment s id slot m None f h on e = absurd (none-some (id, slot) e)
picks_slot t moment s id slot m (Some a) f h on e =
    let here : ℕ × ℕ = (m.id, a) in
    let wanted : ℕ × ℕ = (id, slot) in
    let pair : here ≡ wanted = (let k : Some here ≡ Some wanted = e in cc) in
    record {
      message = m;
      found_there = h.1;
      of_queue = (and_parts (bytes_eq m.queue s.queue) (is_some (first_to_send s moment m)) h.0).0;
      number = ap (λ p. p.0) pair;
      can = ap (can_send_slot s moment m) (sym (ap (λ p. p.1) pair)) ∙ found_is (can_send_slot s moment m) (slot_numbers m) a f;
      enabled = on;
    }

picks_message : (t : Tables) (moment : ℕ) (s : ScheduleRow) (id slot : ℕ) (o : Option MsgRow) → is_valid t ≡ true → s.enabled ≡ true → least (filter (can_send_of s moment) t.messages) ≡ o → option_and_then (slot_to_send s moment) o ≡ Some (id, slot) → Picks t moment s id slot
picks_message t moment s id slot None v on f e = absurd (none-some (id, slot) e)
picks_message t moment s id slot (Some m) v on f e =
    let ms = filter (can_send_of s moment) t.messages in
    let chosen = choice_chooses (IsSendable t moment s) First None false Remove ms (sendable t moment s v) in
    let h : IsSendable t moment s m = subst (λ o. Chooses (IsSendable t moment s) (found_or nothing o)) f chosen in
    picks_slot t moment s id slot m (first_to_send s moment m) refl h on e

picks_if : (t : Tables) (moment : ℕ) (s : ScheduleRow) (id slot : ℕ) (b : Bool) → is_valid t ≡ true → is_open_at moment s ≡ b → (if b then option_and_then (slot_to_send s moment) (least (filter (can_send_of s moment) t.messages)) else None) ≡ Some (id, slot) → Picks t moment s id slot
picks_if t moment s id slot true v f e = picks_message t moment s id slot (least (filter (can_send_of s moment) t.messages)) v (enabled_if_open moment s f) refl e
picks_if t moment s id slot false v f e = absurd (none-some (id, slot) e)

-- ---- it is as what is being sent

by_row : (t : Tables) (moment : ℕ) (s : ScheduleRow) (at : SlotRef) → is_valid t ≡ true → IsFoundAmong t.schedules s → (p : Picks t moment s at.id at.slot) → (o : Option SlotRow) → slot_of p.message at.slot ≡ o → option_map_or (can_send s moment) o false ≡ true → IsBeingSent t at
by_row t moment s at v f p None g h = absurd (false≢true h)
by_row t moment s at v f p (Some row) g h =
    let a = and_parts (is_ready row.state && goes_to s.to row) (has_sent_since s row.at moment) h in
    let b = and_parts (is_ready row.state) (goes_to s.to row) a.0 in
    let own : is_schedule_of p.message.queue row s ≡ true = and_from (bytes_eq s.queue p.message.queue) (goes_to s.to row) (ap (bytes_eq s.queue) (same_name p.message.queue s.queue p.of_queue) ∙ own_name s.queue) b.1 in
    let valid : is_valid_schedule t s ≡ true = all_found (is_valid_schedule t) (λ r. is_same_schedule r s) t.schedules s (parts_of t v).schedules f in
    let six = six_parts (takes_subscribers t s.queue) (has_right_failures s) (nat_le s.start MOMENT_LIMIT) (if_some is_span s.duration) (if_some is_span s.period) (is_time s.latency) valid in
    record {
      message = p.message;
      slot = row;
      schedule = s;
      message_is = ap (find_message t) (sym p.number) ∙ p.found_there;
      slot_is = g;
      ready = b.0;
      remote = goes_if row.address b.1;
      schedule_is = find_agree (is_schedule_of p.message.queue row) (λ r. is_same_schedule r s) (λ z k. same_schedules p.message.queue row z s k own) (λ z k. its z own k) t.schedules ∙ f;
      few = leb-true s.failures 15 (ap (λ x. nat_le s.failures (if x then 15 else 16)) (sym p.enabled) ∙ six.1);
    }
  where
    goes_if : (o : Option (List ℕ)) → option_map_or (λ address. bytes_eq address s.to) o false ≡ true → is_some o ≡ true
    goes_if None k = k
    goes_if (Some address) k = refl

    its : (z : ScheduleRow) → is_schedule_of p.message.queue row s ≡ true → is_same_schedule z s ≡ true → is_schedule_of p.message.queue row z ≡ true
    its z own k =
        let q = and_parts (bytes_eq z.queue s.queue) (bytes_eq z.to s.to) k in
        ap (λ n. bytes_eq n p.message.queue && goes_to z.to row) (same_name z.queue s.queue q.0) ∙ ap (λ n. bytes_eq s.queue p.message.queue && goes_to n row) (same_name z.to s.to q.1) ∙ own

pub picked_sent : (t : Tables) (moment : ℕ) (db : DbId) (id slot : ℕ) → is_valid t ≡ true → pick t moment ≡ Some (id, slot) → IsBeingSent t (record { db = db; id = id; slot = slot })
unfolding pick
picked_sent t moment db id slot v e =
    let rows = six_parts (are_distinct is_same_table t.tables) (are_distinct is_same_queue t.queues) (are_distinct is_same_sub t.subs) (are_distinct is_same_schedule t.schedules) (are_distinct is_same_message t.messages) (are_distinct is_same_seen t.seen) (parts_of t v).rows in
    let x = first_given (IsFoundAmong t.schedules) (pick_by t moment) t.schedules (id, slot) (schedules_found t.schedules rows.3) e in
    let p = picks_if t moment x.0 id slot (is_open_at moment x.0) v refl x.2 in
    by_row t moment x.0 (record { db = db; id = id; slot = slot }) v x.1 p (slot_of p.message slot) refl p.can
