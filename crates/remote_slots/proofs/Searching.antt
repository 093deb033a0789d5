-- The first row that leads to a message of which the schedule can send a slot is that of the message with the least place.
use Rattle.std.proofs.Common.{◌≡◌, ℕ, ◌<◌, Bool, true, false, cond, List, [], ◌∷◌, filter, Option, Some, None, refl, sym, ap, ◌∙◌, ◌&&◌, zero, suc}
use Rattle.std.proofs.lemmas.Bool.{and_from, and_parts, false≢true, or_left, or_right}
use Rattle.std.proofs.lemmas.Option.{none-some}
use Rattle.std.specs.Prelude.{find, is_some, option_and_then, slice_get}
use Rattle.std.specs.List.{AllByRecursion, list_any}
use Rattle.std.specs.Option.{option_map_or}
use Rattle.std.specs.Ordering.{is_lt}
use Rattle.std.specs.Str.{bytes_eq}
use Rattle.place_keys.specs.Place.{stands_before}
use Rattle.queue_rows.specs.Dequeueing.{least}
use Rattle.queue_rows.specs.Due.{slot_numbers}
use Rattle.queue_rows.specs.Propagating.{can_send, can_send_of, can_send_slot, first_to_send, goes_to, has_sent_since}
use Rattle.queue_rows.specs.Rows.{slot_index, slot_of}
use Rattle.queue_rows.specs.Settling.{is_ready}
use Rattle.queue_rows.specs.declared.rows.MsgRow.{MsgRow}
use Rattle.queue_rows.specs.declared.rows.ScheduleRow.{ScheduleRow}
use Rattle.queue_rows.specs.declared.rows.SlotRow.{SlotRow}
use Rattle.row_laws.proofs.Finding.{found_is, some_is}
use Rattle.row_laws.proofs.Slots.{slot_at}
use Rattle.choice_laws.specs.Choosing.{first_passing}
use Rattle.choice_laws.specs.Entries.{Entry, Row, AreRising, message_at, messages_of, row_cmp, row_of, with_row}
use Rattle.choice_laws.proofs.Nearest.{least_first, nearest_of}
use Rattle.choice_laws.proofs.Orders.{less_by_place, row_cmp_total}
use Rattle.choice_laws.proofs.Putting.{HoldsOf, all_found, all_weaker, earlier_of, find_put}
use Rattle.choice_laws.proofs.Standing.{AreFound, HasMessage, are_found}
use Rattle.remote_slots.specs.Remote.{is_ready_to, rows_to, stands_to}
use Rattle.remote_slots.specs.Searched.{sent_first}
use Rattle.remote_slots.proofs.Turned.{above, each, rise}

-- ---- a message of which a slot can be sent stands for the schedule's queue and destination

any_at : {X : Type 0} (q : X → Bool) (xs : List X) (i : ℕ) (x : X) → slice_get xs i ≡ Some x → q x ≡ true → list_any q xs ≡ true
any_at q [] i x e h = absurd (none-some x e)
any_at q (y ∷ ys) zero x e h = let same : y ≡ x = cc in or_left (q y) (list_any q ys) (ap q same ∙ h)
any_at q (y ∷ ys) (suc i) x e h = or_right (q y) (list_any q ys) (any_at q ys i x e h)

module _ (schedule : ScheduleRow) (moment : ℕ) where
  ready_to : (s : SlotRow) → can_send schedule moment s ≡ true → is_ready_to schedule.to s ≡ true
  ready_to s e =
      let parts = and_parts (is_ready s.state && goes_to schedule.to s) (has_sent_since schedule s.at moment) e in
      let first = and_parts (is_ready s.state) (goes_to schedule.to s) parts.0 in
      and_from (goes_to schedule.to s) (is_ready s.state) first.1 first.0

  slot_ready : (m : MsgRow) (slot : ℕ) (o : Option SlotRow) → slot_of m slot ≡ o → option_map_or (can_send schedule moment) o false ≡ true
      → list_any (is_ready_to schedule.to) m.slots ≡ true
  slot_ready m slot None is e = absurd (false≢true e)
  slot_ready m slot (Some s) is e = any_at (is_ready_to schedule.to) m.slots (slot_index m slot) s (slot_at m slot s is) (ready_to s e)

  pub stands_where_sent : (m : MsgRow) → can_send_of schedule moment m ≡ true → stands_to schedule.queue schedule.to m ≡ true
  stands_where_sent m e =
      let parts = and_parts (bytes_eq m.queue schedule.queue) (is_some (first_to_send schedule moment m)) e in
      let first = some_is (first_to_send schedule moment m) parts.1 in
      let can = found_is (can_send_slot schedule moment m) (slot_numbers m) first.0 first.1 in
      and_from (bytes_eq m.queue schedule.queue) (list_any (is_ready_to schedule.to) m.slots) parts.0 (slot_ready m first.0 (slot_of m first.0) refl can)

-- ---- messages by their stamps

module _ (look : ℕ → Option MsgRow) where
  -- the message of the row passes
  abbrev Passes : (MsgRow → Bool) → Row → Bool
  Passes p r = option_map_or p (look r.stamp) false

  abbrev message_of : Option Row → Option MsgRow
  message_of f = option_and_then (λ r. look r.stamp) f

  -- of the first entry and a row behind it the one that stands first has the nearer message
  nearest_seen : (e : Entry) → look e.stamp ≡ Some e.message → (f : Option Row) → HoldsOf (λ r. e.stamp < r.stamp) f → HoldsOf (HasMessage look) f
      → message_of (earlier_of row_cmp (row_of e) f) ≡ nearest_of e.message (message_of f)
  nearest_seen e is None later has = is
  nearest_seen e is (Some y) later has =
      let m = has.message in
      let same : is_lt (row_cmp y (row_of e)) ≡ stands_before m.place e.message.place = less_by_place y (row_of e) later ∙ ap (λ place. stands_before place e.message.place) (sym has.place) in
      ap (λ b. message_of (cond b (Some y) (Some (row_of e)))) same ∙ by_place (stands_before m.place e.message.place) ∙ ap (nearest_of e.message) (sym has.is)
    where
      by_place : (b : Bool) → message_of (cond b (Some y) (Some (row_of e))) ≡ cond b (Some has.message) (Some e.message)
      by_place true = has.is
      by_place false = is

  module _ (p : MsgRow → Bool) (queue to : List ℕ) (all_in : (m : MsgRow) → p m ≡ true → stands_to queue to m ≡ true) where
    rows_have : (es : List Entry) → AreFound look es → AllByRecursion (HasMessage look) (rows_to queue to es)
    rows_have es found =
        each queue to (HasMessage look) es
        (all_weaker (λ e. look e.stamp ≡ Some e.message) (λ e. HasMessage look (row_of e)) (λ e is. record { message = e.message; is = is; place = refl }) es found)

    found_step : (e : Entry) (es : List Entry) → look e.stamp ≡ Some e.message → AreRising (e ∷ es) → AreFound look es
        → message_of (find (Passes p) (rows_to queue to es)) ≡ least (filter p (messages_of es))
        → (b s : Bool) → p e.message ≡ b → stands_to queue to e.message ≡ s → (b ≡ true → s ≡ true)
        → message_of (find (Passes p) (rows_to queue to (e ∷ es))) ≡ least (filter p (messages_of (e ∷ es)))
    found_step e es is rising found ih true true h g both =
        let rows = rows_to queue to es in
        let kept = filter p (messages_of es) in
        let here : Passes p (row_of e) ≡ true = ap (λ o. option_map_or p o false) is ∙ h in
        let first = find (Passes p) rows in
        ap (λ t. message_of (find (Passes p) (with_row t (row_of e) rows))) g
        ∙ ap message_of (find_put row_cmp_total (Passes p) (row_of e) rows (rise queue to es rising.1) ∙ ap (λ t. cond t (earlier_of row_cmp (row_of e) first) first) here)
        ∙ nearest_seen e is first (all_found (λ r. e.stamp < r.stamp) (Passes p) rows (above queue to e.stamp es rising.0)) (all_found (HasMessage look) (Passes p) rows (rows_have es found))
        ∙ ap (nearest_of e.message) ih ∙ sym (ap (λ t. least (cond t (e.message ∷ kept) kept)) h ∙ least_first e.message kept)
    found_step e es is rising found ih true false h g both = absurd (false≢true (both refl))
    found_step e es is rising found ih false true h g both =
        let rows = rows_to queue to es in
        let kept = filter p (messages_of es) in
        let here : Passes p (row_of e) ≡ false = ap (λ o. option_map_or p o false) is ∙ h in
        let first = find (Passes p) rows in
        ap (λ t. message_of (find (Passes p) (with_row t (row_of e) rows))) g
        ∙ ap message_of (find_put row_cmp_total (Passes p) (row_of e) rows (rise queue to es rising.1) ∙ ap (λ t. cond t (earlier_of row_cmp (row_of e) first) first) here)
        ∙ ih ∙ sym (ap (λ t. least (cond t (e.message ∷ kept) kept)) h)
    found_step e es is rising found ih false false h g both =
        let rows = rows_to queue to es in
        let kept = filter p (messages_of es) in
        ap (λ t. message_of (find (Passes p) (with_row t (row_of e) rows))) g ∙ ih ∙ sym (ap (λ t. least (cond t (e.message ∷ kept) kept)) h)

    found_is_least : (es : List Entry) → AreRising es → AreFound look es → message_of (find (Passes p) (rows_to queue to es)) ≡ least (filter p (messages_of es))
    found_is_least [] rising found = refl
    found_is_least (e ∷ es) rising found =
        found_step e es found.0 rising found.1 (found_is_least es rising.1 found.1) (p e.message) (stands_to queue to e.message) refl refl (all_in e.message)

pub first_is_sent : (schedule : ScheduleRow) (moment : ℕ) (entries : List Entry) → AreRising entries
    → first_passing entries (can_send_of schedule moment) (rows_to schedule.queue schedule.to entries) ≡ sent_first schedule moment (messages_of entries)
first_is_sent schedule moment entries rising =
    found_is_least (message_at entries) (can_send_of schedule moment) schedule.queue schedule.to (stands_where_sent schedule moment) entries rising (are_found entries rising)
