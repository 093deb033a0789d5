-- What one change leaves of rows that it does not name: open slots, finished messages, queues, and room for what is held.
use Rattle.std.proofs.Common.{◌⊎◌, inl, inr, ◌≡◌, ◌≤◌, ◌<◌, ◌+◌, ◌-◌, ℕ, zero, suc, List, [], ◌∷◌, ◌++◌, Bool, true, false, not, max, length, take, refl, sym, ap, ◌∙◌, subst, arith, Option, Some, None, ◌==◌, ◌&&◌, ◌||◌, ℤ}
use Rattle.std.specs.Prelude.{find, flat_map, slice_get, option_map, option_and_then, is_some, is_none, int_le, int_lt, if◌then◌else◌}
use Rattle.std.specs.List.{list_any, list_all}
use Rattle.std.specs.Option.{option_map_or}
use Rattle.std.specs.Str.{bytes_eq}
use Rattle.std.proofs.lemmas.Bool.{eqb-true, eqb-false, ltb-true, and_parts, and_from, or_right, or_parts, or_from, not-true, not_from_false, false≢true, true≢false}
use Rattle.std.proofs.lemmas.Option.{none-some}
use Rattle.queue_rows.specs.Rows.{find_message, find_queue, find_table, changed_first, recipient_slots, recipient_count, slot_of}
use Rattle.queue_rows.specs.Tables.{after_change, in_state, retried, lowered, is_grouped, is_grouped_table, min_int, lane_of, moved_to, move_some, move_in}
use Rattle.queue_rows.specs.Settling.{is_open, is_gone, is_slot_processed, is_handled, is_lost, is_kept_by_none, exception_queue_of, settling_of, settling, names_of, last_moment, message_after, left_by, if_it}
use Rattle.queue_rows.specs.Valid.{is_valid, is_valid_message_in, has_right_lane}
use Rattle.queue_rows.specs.declared.tables.Tables.{Tables}
use Rattle.queue_rows.specs.declared.rows.MsgRow.{MsgRow}
use Rattle.queue_rows.specs.declared.rows.SlotRow.{SlotRow}
use Rattle.queue_rows.specs.declared.rows.SlotState.TheVariants as states
use Rattle.queue_rows.specs.declared.rows.QueueRow.{QueueRow}
use Rattle.queue_rows.specs.declared.rows.TableRow.{TableRow}
use Rattle.queue_rows.specs.declared.change.Change.{Change}
use Rattle.queue_rows.specs.declared.change.Change.TheVariants as changes
use Rattle.row_laws.specs.RowLaws.{leaves_to_settling}
use Rattle.row_laws.proofs.Finding.{find_changed, find_other_changed}
use Rattle.row_laws.proofs.Messages.{id_found, finds_left}
use Rattle.row_laws.proofs.Distinctly.{single_if_distinct}
use Rattle.row_laws.proofs.Queues.{lowered_name, lowered_seen, tables_same_all}
use Rattle.valid_laws.specs.Openness.{is_open_slot, is_open_at, is_finished, is_finished_at, may_move}
use Rattle.valid_laws.specs.Touching.{is_of_slot, puts_in, is_put_in, puts_below, takes_off, closes, is_proper}
use Rattle.valid_laws.specs.PendingLaws.{depth_of, HasRoom}
use Rattle.valid_laws.specs.ValidLaws.{Keeps, keeps_queues, MovesRight}
use Rattle.valid_laws.proofs.Parts.{and_l, and_r, valid_distinct}
use Rattle.valid_laws.proofs.Opened.{open_of, open_stays, found_with, finished_closed, finished_apart, finished_of, finished_stays}
use Rattle.valid_laws.proofs.Calming.{HasClosedRecipients, gone_closed, zero_closed}
use Rattle.valid_laws.proofs.Cataloguing.{same_name}
use Rattle.valid_laws.proofs.Completing.{depth_le, depth_min}
use Rattle.valid_laws.proofs.Exceptions.{home_of}
use Rattle.valid_laws.proofs.Lowering.{le_refl_z, min_left, find_either}

-- ---- lists

pub any_append : {X : Type 0} (p : X → Bool) (xs ys : List X) → list_any p xs ≡ false → list_any p ys ≡ false → list_any p (xs ++ ys) ≡ false
any_append p [] ys h k = k
any_append p (x ∷ xs) ys h k = let q = or_parts (p x) (list_any p xs) h in or_from (p x) (list_any p (xs ++ ys)) q.0 (any_append p xs ys q.1 k)

pub any_flat : {X Y : Type 0} (p : Y → Bool) (F : X → List Y) → ((x : X) → list_any p (F x) ≡ false) → (xs : List X) → list_any p (flat_map F xs) ≡ false
any_flat p F h [] = refl
any_flat p F h (x ∷ xs) = any_append p (F x) (flat_map F xs) (h x) (any_flat p F h xs)

-- what is settled moves messages and takes them away, and does nothing else
module _ (q : Change → Bool) where
  settling_none : ((id : ℕ) (queue : List ℕ) (at : ℕ) → q (changes.Moved id queue at) ≡ false) → ((id : ℕ) → q (changes.Purged id) ≡ false) → (t : Tables) (at : ℕ) (o : Option MsgRow) → list_any q (settling_of t at o) ≡ false
  settling_none h k t at None = refl
  settling_none h k t at (Some r) = by (is_lost r) (is_handled r && is_kept_by_none t r)
    where
      by : (b c : Bool) → list_any q (if b then changes.Moved r.id (exception_queue_of t r) at ∷ [] else (if c then changes.Purged r.id ∷ [] else [])) ≡ false
      by true c = or_from (q (changes.Moved r.id (exception_queue_of t r) at)) false (h r.id (exception_queue_of t r) at) refl
      by false true = or_from (q (changes.Purged r.id)) false (k r.id) refl
      by false false = refl

  pub settled_none : ((id : ℕ) (queue : List ℕ) (at : ℕ) → q (changes.Moved id queue at) ≡ false) → ((id : ℕ) → q (changes.Purged id) ≡ false) → (t : Tables) (cs : List Change) → list_any q (flat_map (settling t cs) (names_of cs)) ≡ false
  settled_none h k t cs = any_flat q (settling t cs) (λ id. settling_none h k t (last_moment cs id) (message_after t cs id)) (names_of cs)

-- what puts nothing in puts nothing in at any number
pub below_if_none : (n : ℕ) (cs : List Change) → list_any is_put_in cs ≡ false → list_all (puts_below n) cs ≡ true
below_if_none n [] h = refl
below_if_none n (c ∷ cs) h = let p = or_parts (is_put_in c) (list_any is_put_in cs) h in and_from (puts_below n c) (list_all (puts_below n) cs) (below_one n c p.0) (below_if_none n cs p.1)
  where
    below_one : (n : ℕ) (c : Change) → is_put_in c ≡ false → puts_below n c ≡ true
    below_one n (changes.Enqueued row) e = absurd (true≢false e)
    below_one n (changes.PutTable row) e = refl
    below_one n _ e = refl

-- ---- lowest lanes

lowered_le_by : (q : QueueRow) (lane : ℤ) (b : Bool) → int_le (if b then q else record q { lowest = min_int q.lowest lane }).lowest q.lowest ≡ true
lowered_le_by q lane true = le_refl_z q.lowest
lowered_le_by q lane false = min_left q.lowest lane (int_lt q.lowest lane) refl

pub lowered_le : (u : Tables) (r : MsgRow) (q : QueueRow) → int_le (lowered u r q).lowest q.lowest ≡ true
lowered_le u r q = lowered_le_by q (lane_of r.place) (is_grouped u.tables q)

lowered_depth_by : (q : QueueRow) (lane : ℤ) (b : Bool) → depth_of (if b then q else record q { lowest = min_int q.lowest lane }).lowest ≤ max (depth_of q.lowest) (depth_of lane)
lowered_depth_by q lane true = omega arith
lowered_depth_by q lane false = depth_min q.lowest lane

pub lowered_depth : (u : Tables) (r : MsgRow) (q : QueueRow) → depth_of (lowered u r q).lowest ≤ max (depth_of q.lowest) (depth_of (lane_of r.place))
lowered_depth u r q = lowered_depth_by q (lane_of r.place) (is_grouped u.tables q)

-- ---- messages that all have taken

all_but_last : (q : SlotRow → Bool) (xs : List SlotRow) (n : ℕ) → length xs ≡ suc n → list_all q (take n xs) ≡ true → ((s : SlotRow) → slice_get xs n ≡ Some s → q s ≡ true) → list_all q xs ≡ true
all_but_last q [] n e h k = refl
all_but_last q (x ∷ []) zero e h k = and_from (q x) true (k x refl) refl
all_but_last q (x ∷ y ∷ ys) zero e h k = absurd (let same : suc (suc (length ys)) ≡ 1 = e in omega (arith, same))
all_but_last q (x ∷ xs) (suc n) e h k =
    let p = and_parts (q x) (list_all q (take n xs)) h in
    let same : suc (length xs) ≡ suc (suc n) = e in
    and_from (q x) (list_all q xs) p.0 (all_but_last q xs n (omega (arith, same)) p.1 k)

none_open : (xs : List SlotRow) → list_all (λ s. not (is_open s.state)) xs ≡ true → list_any (λ s. is_open s.state) xs ≡ false
none_open [] h = refl
none_open (x ∷ xs) h =
    let p = and_parts (not (is_open x.state)) (list_all (λ s. not (is_open s.state)) xs) h in or_from (is_open x.state) (list_any (λ s. is_open s.state) xs) (not-true (is_open x.state) p.0) (none_open xs p.1)

all_gone : (xs : List SlotRow) → list_all (λ s. is_gone s.state) xs ≡ true → list_all (λ s. not (is_open s.state)) xs ≡ true
all_gone [] h = refl
all_gone (x ∷ xs) h =
    let p = and_parts (is_gone x.state) (list_all (λ s. is_gone s.state) xs) h in
    and_from (not (is_open x.state)) (list_all (λ s. not (is_open s.state)) xs) (not_from_false (is_open x.state) (gone_closed x.state p.0)) (all_gone xs p.1)

-- slot 0 of a moved message is its last
moved_closed : (m : MsgRow) (n : ℕ) → length m.slots ≡ n → m.moved ≡ true → list_all (λ s. not (is_open s.state)) (recipient_slots m) ≡ true → is_slot_processed m 0 ≡ true → list_all (λ s. not (is_open s.state)) m.slots ≡ true
moved_closed m zero l u h p = no_slots m.slots l
  where
    no_slots : (xs : List SlotRow) → length xs ≡ 0 → list_all (λ s. not (is_open s.state)) xs ≡ true
    no_slots [] e = refl
    no_slots (x ∷ xs) e = absurd (let same : suc (length xs) ≡ 0 = e in omega (arith, same))
moved_closed m (suc n) l u h p =
    let count : recipient_count m ≡ n = rw u (omega (arith, l)) in
    let at : length m.slots - 1 ≡ n = omega (arith, l) in
    let zero_is : slot_of m 0 ≡ slice_get m.slots n = rw u (ap (slice_get m.slots) at) in
    all_but_last (λ s. not (is_open s.state)) m.slots n l (ap (λ k. list_all (λ s. not (is_open s.state)) (take k m.slots)) (sym count) ∙ h)
    (λ s e. not_from_false (is_open s.state) (zero_closed (slot_of m 0) s p (zero_is ∙ e)))

finished_by : (m : MsgRow) (b : Bool) → m.moved ≡ b → HasClosedRecipients m → (if b then is_slot_processed m 0 else list_all (λ s. is_gone s.state) m.slots) ≡ true → list_all (λ s. not (is_open s.state)) m.slots ≡ true
finished_by m true u k h = moved_closed m (length m.slots) refl u (k u) h
finished_by m false u k h = all_gone m.slots h

pub handled_finished : (m : MsgRow) → HasClosedRecipients m → is_handled m ≡ true → is_finished m ≡ true
handled_finished m k h = not_from_false (list_any (λ s. is_open s.state) m.slots) (none_open m.slots (finished_by m m.moved refl k h))

-- ---- what settling tells

pub other_id : (t : Tables) (named id : ℕ) (m : MsgRow) (b : Bool) → (named == id) ≡ b → find_message t named ≡ None → find_message t id ≡ Some m → not (named == id) ≡ true
other_id t named id m true e h f = absurd (none-some m (sym (ap (find_message t) (sym (eqb-true named id e)) ∙ h) ∙ f))
other_id t named id m false e h f = not_from_false (named == id) e

-- of a message that is there
pub leaves_there : (t : Tables) (c : Change) (id : ℕ) (m : MsgRow) → Keeps t c → keeps_queues c ≡ true → find_message t id ≡ Some m → leaves_to_settling id t c ≡ true
leaves_there t (changes.Enqueued row) id m k e f = other_id t row.id id m (row.id == id) refl k.new f
leaves_there t (changes.Moved named queue at) id m k e f = or_right (not (named == id)) (is_some (find_queue t queue)) (ap is_some k.to_is)
leaves_there t (changes.DropQueue name) id m k e f = absurd (false≢true e)
leaves_there t (changes.PutTable row) id m k e f = refl
leaves_there t _ id m k e f = refl

-- and of one that it does not put in
leaves_new : (t : Tables) (c : Change) (id : ℕ) → Keeps t c → keeps_queues c ≡ true → puts_in id c ≡ false → leaves_to_settling id t c ≡ true
leaves_new t (changes.Enqueued row) id k e p = not_from_false (row.id == id) p
leaves_new t (changes.Moved named queue at) id k e p = or_right (not (named == id)) (is_some (find_queue t queue)) (ap is_some k.to_is)
leaves_new t (changes.DropQueue name) id k e p = absurd (false≢true e)
leaves_new t (changes.PutTable row) id k e p = refl
leaves_new t _ id k e p = refl

module _ (t : Tables) (c : Change) (v : is_valid t ≡ true) (k : Keeps t c) (q : keeps_queues c ≡ true) where
  -- a message that is not there, and is not put in, is not there
  pub new_one : (id : ℕ) → find_message t id ≡ None → puts_in id c ≡ false → find_message (after_change t c) id ≡ None
  new_one id h p = finds_left t c id (single_if_distinct t id (valid_distinct t v)) (leaves_new t c id k q p) ∙ ap (option_and_then (λ m. left_by m c)) h

  left_of : (id : ℕ) (m : MsgRow) → find_message t id ≡ Some m → left_by m c ≡ Some m → find_message (after_change t c) id ≡ Some m
  left_of id m f l = finds_left t c id (single_if_distinct t id (valid_distinct t v)) (leaves_there t c id m k q f) ∙ ap (option_and_then (λ x. left_by x c)) f ∙ l

  -- a message of which it says nothing is as it was
  pub open_as_before : (id slot : ℕ) → ((m : MsgRow) → find_message t id ≡ Some m → is_open_slot slot m ≡ true → left_by m c ≡ Some m) → is_open_at t id slot ≡ true → is_open_at (after_change t c) id slot ≡ true
  open_as_before id slot l h =
      let x = found_with t id (is_open_slot slot) h in open_of (after_change t c) id slot x.0 (left_of id x.0 x.1 (l x.0 x.1 x.2)) x.2

  pub finished_as_before : (id : ℕ) → ((m : MsgRow) → find_message t id ≡ Some m → is_finished m ≡ true → left_by m c ≡ Some m) → is_finished_at t id ≡ true → is_finished_at (after_change t c) id ≡ true
  finished_as_before id l h =
      let x = found_with t id is_finished h in finished_of (after_change t c) id x.0 (left_of id x.0 x.1 (l x.0 x.1 x.2)) x.2

-- ---- one change: open slots

other_row : (m : MsgRow) (named : ℕ) (o : Option MsgRow) (b : Bool) → (m.id == named) ≡ b → b ≡ false → if_it m named o ≡ Some m
other_row m named o true e h = absurd (true≢false h)
other_row m named o false e h = rw e refl

-- a finished message is not the one with the open slot
row_apart : (t : Tables) (named id slot : ℕ) (m : MsgRow) (b : Bool) → (m.id == named) ≡ b → is_finished_at t named ≡ true → find_message t id ≡ Some m → is_open_slot slot m ≡ true → b ≡ false
row_apart t named id slot m true e h f o =
    let there : find_message t named ≡ Some m = ap (find_message t) (sym (eqb-true m.id named e) ∙ id_found t id m f) ∙ f in
    finished_closed m slot (sym (ap (λ x. option_map_or is_finished x false) there) ∙ h) o
row_apart t named id slot m false e h f o = refl

moves_finished : (t : Tables) (id : ℕ) (queue : List ℕ) (at : ℕ) → MovesRight t id queue at → is_finished_at t id ≡ true
moves_finished t id queue at k = finished_of t id k.message k.found (and_parts (not k.message.moved) (is_finished k.message) k.may).1

pub spares_one : (t : Tables) (c : Change) → is_valid t ≡ true → Keeps t c → keeps_queues c ≡ true → closes t c ≡ true → (id slot : ℕ) → is_of_slot id slot c ≡ false → is_open_at t id slot ≡ true → is_open_at (after_change t c) id slot ≡ true
spares_one t (changes.Retried named a retries until at) v k q cl id slot d h = open_stays (retried retries until at) t named a id slot d h
spares_one t (changes.Ready named a at) v k q cl id slot d h = open_stays (in_state states.Ready at) t named a id slot d h
spares_one t (changes.Done named a at) v k q cl id slot d h = open_stays (in_state states.Processed at) t named a id slot d h
spares_one t (changes.Expired named a at) v k q cl id slot d h = open_stays (in_state states.Expired at) t named a id slot d h
spares_one t (changes.Dropped named a at) v k q cl id slot d h = open_stays (in_state states.Dropped at) t named a id slot d h
spares_one t (changes.Moved named queue at) v k q cl id slot d h =
    open_as_before t (changes.Moved named queue at) v k q id slot (λ m f o. other_row m named (Some (moved_to queue at m)) (m.id == named) refl (row_apart t named id slot m (m.id == named) refl (moves_finished t named queue at k) f o)) h
spares_one t (changes.Purged named) v k q cl id slot d h =
    open_as_before t (changes.Purged named) v k q id slot (λ m f o. other_row m named None (m.id == named) refl (row_apart t named id slot m (m.id == named) refl cl f o)) h
spares_one t (changes.Enqueued row) v k q cl id slot d h = open_as_before t (changes.Enqueued row) v k q id slot (λ m f o. refl) h
spares_one t (changes.Seen row) v k q cl id slot d h = h
spares_one t (changes.PutSub row) v k q cl id slot d h = h
spares_one t (changes.DropSub queue name) v k q cl id slot d h = h
spares_one t (changes.PutSchedule row) v k q cl id slot d h = h
spares_one t (changes.DropSchedule queue to) v k q cl id slot d h = h
spares_one t _ v k q cl id slot d h = absurd (false≢true q)

-- ---- one change: finished messages

named_apart : (m : MsgRow) (named id : ℕ) (b : Bool) → (m.id == named) ≡ b → (named == id) ≡ false → m.id ≡ id → b ≡ false
named_apart m named id true e d i = absurd (eqb-false named id d (sym (eqb-true m.id named e) ∙ i))
named_apart m named id false e d i = refl

pub rests_one : (t : Tables) (c : Change) → is_valid t ≡ true → Keeps t c → keeps_queues c ≡ true → (id : ℕ) → takes_off id c ≡ false → is_finished_at t id ≡ true → is_finished_at (after_change t c) id ≡ true
rests_one t (changes.Retried named a retries until at) v k q id d h = finished_stays (retried retries until at) t named a id (finished_apart t id named a h k.changes_unmoved.changes_open.is_open_there) h
rests_one t (changes.Ready named a at) v k q id d h = finished_stays (in_state states.Ready at) t named a id (finished_apart t id named a h k.is_open_there) h
rests_one t (changes.Done named a at) v k q id d h = finished_stays (in_state states.Processed at) t named a id (finished_apart t id named a h k.is_open_there) h
rests_one t (changes.Expired named a at) v k q id d h = finished_stays (in_state states.Expired at) t named a id (finished_apart t id named a h k.changes_open.is_open_there) h
rests_one t (changes.Dropped named a at) v k q id d h = finished_stays (in_state states.Dropped at) t named a id (finished_apart t id named a h k.changes_open.is_open_there) h
rests_one t (changes.Moved named queue at) v k q id d h =
    finished_as_before t (changes.Moved named queue at) v k q id (λ m f o. other_row m named (Some (moved_to queue at m)) (m.id == named) refl (named_apart m named id (m.id == named) refl d (id_found t id m f))) h
rests_one t (changes.Purged named) v k q id d h =
    finished_as_before t (changes.Purged named) v k q id (λ m f o. other_row m named None (m.id == named) refl (named_apart m named id (m.id == named) refl d (id_found t id m f))) h
rests_one t (changes.Enqueued row) v k q id d h = finished_as_before t (changes.Enqueued row) v k q id (λ m f o. refl) h
rests_one t (changes.Seen row) v k q id d h = h
rests_one t (changes.PutSub row) v k q id d h = h
rests_one t (changes.DropSub queue name) v k q id d h = h
rests_one t (changes.PutSchedule row) v k q id d h = h
rests_one t (changes.DropSchedule queue to) v k q id d h = h
rests_one t _ v k q id d h = absurd (false≢true q)

-- ---- one change: proper

pub proper_one : (t : Tables) (c : Change) → Keeps t c → keeps_queues c ≡ true → closes t c ≡ true → is_proper t c ≡ true
proper_one t (changes.Retried named a retries until at) k q cl = k.changes_unmoved.changes_open.is_open_there
proper_one t (changes.Ready named a at) k q cl = k.is_open_there
proper_one t (changes.Done named a at) k q cl = k.is_open_there
proper_one t (changes.Expired named a at) k q cl = k.changes_open.is_open_there
proper_one t (changes.Dropped named a at) k q cl = k.changes_open.is_open_there
proper_one t (changes.Moved named queue at) k q cl =
    and_from (option_map_or may_move (find_message t named) false) (is_some (find_queue t queue)) (ap (λ o. option_map_or may_move o false) k.found ∙ k.may) (ap is_some k.to_is)
proper_one t (changes.Purged named) k q cl = cl
proper_one t (changes.Enqueued row) k q cl = and_from (is_none (find_message t row.id)) (not row.moved) (ap is_none k.new) (not_from_false row.moved k.unmoved)
proper_one t (changes.Seen row) k q cl = refl
proper_one t (changes.PutSub row) k q cl = refl
proper_one t (changes.DropSub queue name) k q cl = refl
proper_one t (changes.PutSchedule row) k q cl = refl
proper_one t (changes.DropSchedule queue to) k q cl = refl
proper_one t _ k q cl = absurd (false≢true q)

-- ---- one change: queues and tables

-- the queue is there, with its table and kind, and its lowest lane is no greater
pub record IsLowered (u : Tables) (name : List ℕ) (q : QueueRow) : Type 0 where
  pub row : QueueRow
  pub row_is : find_queue u name ≡ Some row
  pub table : row.table ≡ q.table
  pub kind : row.kind ≡ q.kind
  pub lowest : int_le row.lowest q.lowest ≡ true

pub lowered_self : (u : Tables) (name : List ℕ) (q : QueueRow) → find_queue u name ≡ Some q → IsLowered u name q
lowered_self u name q f = record { row = q; row_is = f; table = refl; kind = refl; lowest = le_refl_z q.lowest }

lowered_by : (t u : Tables) (r : MsgRow) (name : List ℕ) (q : QueueRow) → find_queue t name ≡ Some q → (find_queue u name ≡ find_queue t name) ⊎ (find_queue u name ≡ option_map (lowered t r) (find_queue t name)) → IsLowered u name q
lowered_by t u r name q f (inl e) = lowered_self u name q (e ∙ f)
lowered_by t u r name q f (inr e) = record {
  row = lowered t r q;
  row_is = e ∙ ap (option_map (lowered t r)) f;
  table = lowered_seen (λ x. x.table) (λ x n. refl) t r q;
  kind = lowered_seen (λ x. x.kind) (λ x n. refl) t r q;
  lowest = lowered_le t r q;
}

either_of : (t : Tables) (r : MsgRow) (queue name : List ℕ) (u : Tables) → u.queues ≡ changed_first (λ q. bytes_eq q.name queue) (lowered t r) t.queues
    → (find_queue u name ≡ find_queue t name) ⊎ (find_queue u name ≡ option_map (lowered t r) (find_queue t name))
either_of t r queue name u e =
    let own = find_either (λ q. bytes_eq q.name name) (λ q. bytes_eq q.name queue) (lowered t r) (λ q. ap (λ n. bytes_eq n name) (lowered_name t r q)) t.queues in
    subst (λ qs. (find (λ q. bytes_eq q.name name) qs ≡ find_queue t name) ⊎ (find (λ q. bytes_eq q.name name) qs ≡ option_map (lowered t r) (find_queue t name))) (sym e) own

-- a message that is moved lowers its new queue
moved_queues : (t : Tables) (named : ℕ) (queue : List ℕ) (at : ℕ) (k : MovesRight t named queue at) → (after_change t (changes.Moved named queue at)).queues ≡ changed_first (λ q. bytes_eq q.name queue) (lowered t (moved_to queue at k.message)) t.queues
moved_queues t named queue at k =
    ap (λ o. (move_some t o queue at).queues) k.found ∙ ap (λ o. (if is_some o then move_in t k.message queue at else t).queues) k.to_is

pub lower_one : (t : Tables) (c : Change) → Keeps t c → keeps_queues c ≡ true → (name : List ℕ) (q : QueueRow) → find_queue t name ≡ Some q → IsLowered (after_change t c) name q
lower_one t (changes.Moved named queue at) k e name q f =
    lowered_by t (after_change t (changes.Moved named queue at)) (moved_to queue at k.message) name q f (either_of t (moved_to queue at k.message) queue name (after_change t (changes.Moved named queue at)) (moved_queues t named queue at k))
lower_one t (changes.Enqueued row) k e name q f = lowered_by t (after_change t (changes.Enqueued row)) row name q f (either_of t row row.queue name (after_change t (changes.Enqueued row)) refl)
lower_one t (changes.Retried named a retries until at) k e name q f = lowered_self (after_change t (changes.Retried named a retries until at)) name q f
lower_one t (changes.Ready named a at) k e name q f = lowered_self (after_change t (changes.Ready named a at)) name q f
lower_one t (changes.Done named a at) k e name q f = lowered_self (after_change t (changes.Done named a at)) name q f
lower_one t (changes.Expired named a at) k e name q f = lowered_self (after_change t (changes.Expired named a at)) name q f
lower_one t (changes.Dropped named a at) k e name q f = lowered_self (after_change t (changes.Dropped named a at)) name q f
lower_one t (changes.Purged named) k e name q f = lowered_self (after_change t (changes.Purged named)) name q f
lower_one t (changes.Seen row) k e name q f = lowered_self (after_change t (changes.Seen row)) name q f
lower_one t (changes.PutSub row) k e name q f = lowered_self (after_change t (changes.PutSub row)) name q f
lower_one t (changes.DropSub queue sub) k e name q f = lowered_self (after_change t (changes.DropSub queue sub)) name q f
lower_one t (changes.PutSchedule row) k e name q f = lowered_self (after_change t (changes.PutSchedule row)) name q f
lower_one t (changes.DropSchedule queue to) k e name q f = lowered_self (after_change t (changes.DropSchedule queue to)) name q f
lower_one t _ k e name q f = absurd (false≢true e)

pub tables_one : (t : Tables) (c : Change) → keeps_queues c ≡ true → (after_change t c).tables ≡ t.tables
tables_one t (changes.Moved named queue at) e = tables_same_all (changes.Moved named queue at ∷ []) t refl
tables_one t (changes.Enqueued row) e = refl
tables_one t (changes.Retried named a retries until at) e = refl
tables_one t (changes.Ready named a at) e = refl
tables_one t (changes.Done named a at) e = refl
tables_one t (changes.Expired named a at) e = refl
tables_one t (changes.Dropped named a at) e = refl
tables_one t (changes.Purged named) e = refl
tables_one t (changes.Seen row) e = refl
tables_one t (changes.PutSub row) e = refl
tables_one t (changes.DropSub queue sub) e = refl
tables_one t (changes.PutSchedule row) e = refl
tables_one t (changes.DropSchedule queue to) e = refl
tables_one t _ e = absurd (false≢true e)

-- the next id of tables stays at most a number where what is put in is below it
pub next_one : (t : Tables) (c : Change) → Keeps t c → keeps_queues c ≡ true → (n : ℕ) → t.next ≤ n → puts_below n c ≡ true → (after_change t c).next ≤ n
next_one t (changes.Moved named queue at) k e n le p =
    let same : (after_change t (changes.Moved named queue at)).next ≡ t.next = ap (λ o. (move_some t o queue at).next) k.found ∙ ap (λ o. (if is_some o then move_in t k.message queue at else t).next) k.to_is in
    omega (arith, le, same)
next_one t (changes.Enqueued row) k e n le p = let lt = ltb-true row.id n p in omega (arith, le, lt)
next_one t (changes.Retried named a retries until at) k e n le p = le
next_one t (changes.Ready named a at) k e n le p = le
next_one t (changes.Done named a at) k e n le p = le
next_one t (changes.Expired named a at) k e n le p = le
next_one t (changes.Dropped named a at) k e n le p = le
next_one t (changes.Purged named) k e n le p = le
next_one t (changes.Seen row) k e n le p = le
next_one t (changes.PutSub row) k e n le p = le
next_one t (changes.DropSub queue sub) k e n le p = le
next_one t (changes.PutSchedule row) k e n le p = le
next_one t (changes.DropSchedule queue to) k e n le p = le
next_one t _ k e n le p = absurd (false≢true e)

-- ---- one change: room

lane_part : (t : Tables) (queue : QueueRow) (table : TableRow) (m : MsgRow) → is_valid_message_in t queue (Some table) m ≡ true → has_right_lane table queue m ≡ true
lane_part t queue table m h = search (and_l, and_r) depth 7

not_grouped : (a b : Bool) → a ≡ false → (a || b) ≡ true → b ≡ true
not_grouped true b e h = absurd (true≢false e)
not_grouped false b e h = h

module _ (t : Tables) (held : ℕ → ℕ) (r : HasRoom t held) (v : is_valid t ≡ true) (named : ℕ) (queue : List ℕ) (at : ℕ) (k : MovesRight t named queue at) where
  abbrev moved : MsgRow
  moved = moved_to queue at k.message

  -- where its table is not grouped, the message's lane is none below the lowest of the queue in which it stood
  lane_within : is_grouped t.tables k.to ≡ false → depth_of (lane_of k.message.place) ≤ depth_of k.from.lowest
  lane_within g =
      let home = home_of t named k.message v k.found in
      let same : home.queue ≡ k.from = (let a : Some home.queue ≡ Some k.from = sym home.queue_is ∙ k.from_is in cc) in
      let grouped : home.table.grouped ≡ false = sym (ap is_grouped_table (ap (find_table t) (k.table_is ∙ sym (ap (λ q. q.table) same)) ∙ home.table_is)) ∙ g in
      let le : int_le home.queue.lowest (lane_of k.message.place) ≡ true = not_grouped home.table.grouped (int_le home.queue.lowest (lane_of k.message.place)) grouped (lane_part t home.queue home.table k.message home.valid) in
      subst (λ q. depth_of (lane_of k.message.place) ≤ depth_of q.lowest) same (depth_le home.queue.lowest (lane_of k.message.place) le)

  to_depth_by : (b : Bool) → is_grouped t.tables k.to ≡ b → depth_of (if b then k.to else record k.to { lowest = min_int k.to.lowest (lane_of k.message.place) }).lowest ≤ max (depth_of k.to.lowest) (depth_of k.from.lowest)
  to_depth_by true e = omega arith
  to_depth_by false e = let a = depth_min k.to.lowest (lane_of k.message.place) in let b = lane_within e in omega (arith, a, b)

  to_depth : depth_of (lowered t moved k.to).lowest ≤ max (depth_of k.to.lowest) (depth_of k.from.lowest)
  to_depth = to_depth_by (is_grouped t.tables k.to) refl

  abbrev gone : Tables
  gone = after_change t (changes.Moved named queue at)

  lane_by : (n : ℕ) → t.next ≤ n → (name : List ℕ) (q : QueueRow) (b : Bool) → bytes_eq queue name ≡ b → find_queue gone name ≡ Some q → held n + depth_of q.lowest ≤ n
  lane_by n le name q true e f =
      let found : find_queue gone queue ≡ Some (lowered t moved k.to) =
      ap (find (λ x. bytes_eq x.name queue)) (moved_queues t named queue at k)
      ∙ find_changed (λ x. bytes_eq x.name queue) (lowered t moved) (λ x. ap (λ n. bytes_eq n queue) (lowered_name t moved x)) t.queues ∙ ap (option_map (lowered t moved)) k.to_is in
      let same : lowered t moved k.to ≡ q = (let a : Some (lowered t moved k.to) ≡ Some q = sym found ∙ ap (find_queue gone) (same_name queue name e) ∙ f in cc) in
      let a = r.lanes n le queue k.to k.to_is in
      let b = r.lanes n le k.message.queue k.from k.from_is in
      let c = to_depth in
      subst (λ x. held n + depth_of x.lowest ≤ n) same (omega (arith, a, b, c))
  lane_by n le name q false e f =
      r.lanes n le name q
      (sym (find_other_changed (λ x. bytes_eq x.name queue) (lowered t moved) (λ x. bytes_eq x.name name) (λ x. ap (λ n. bytes_eq n name) (lowered_name t moved x)) (λ x g. ap (λ n. bytes_eq n name) (same_name x.name queue g) ∙ e) t.queues)
      ∙ sym (ap (find (λ x. bytes_eq x.name name)) (moved_queues t named queue at k)) ∙ f)

  numbers_same : (gone.next ≡ t.next) × (gone.transaction ≡ t.transaction)
  numbers_same = (
    ap (λ o. (move_some t o queue at).next) k.found ∙ ap (λ o. (if is_some o then move_in t k.message queue at else t).next) k.to_is,
    ap (λ o. (move_some t o queue at).transaction) k.found ∙ ap (λ o. (if is_some o then move_in t k.message queue at else t).transaction) k.to_is,
  )

  room_moved : HasRoom gone held
  room_moved = record {
    lanes = λ n le name q f. lane_by n (let e = numbers_same.0 in omega (arith, le, e)) name q (bytes_eq queue name) refl f;
    groups = λ n le. let e = numbers_same.0 in let g = numbers_same.1 in let x = r.groups n (omega (arith, le, e)) in omega (arith, x, g);
  }

pub room_one : (t : Tables) (c : Change) → is_valid t ≡ true → Keeps t c → keeps_queues c ≡ true → is_put_in c ≡ false → (held : ℕ → ℕ) → HasRoom t held → HasRoom (after_change t c) held
room_one t (changes.Moved named queue at) v k e p held r = room_moved t held r v named queue at k
room_one t (changes.Enqueued row) v k e p held r = absurd (true≢false p)
room_one t (changes.Retried named a retries until at) v k e p held r = record { lanes = r.lanes; groups = r.groups }
room_one t (changes.Ready named a at) v k e p held r = record { lanes = r.lanes; groups = r.groups }
room_one t (changes.Done named a at) v k e p held r = record { lanes = r.lanes; groups = r.groups }
room_one t (changes.Expired named a at) v k e p held r = record { lanes = r.lanes; groups = r.groups }
room_one t (changes.Dropped named a at) v k e p held r = record { lanes = r.lanes; groups = r.groups }
room_one t (changes.Purged named) v k e p held r = record { lanes = r.lanes; groups = r.groups }
room_one t (changes.Seen row) v k e p held r = record { lanes = r.lanes; groups = r.groups }
room_one t (changes.PutSub row) v k e p held r = record { lanes = r.lanes; groups = r.groups }
room_one t (changes.DropSub queue sub) v k e p held r = record { lanes = r.lanes; groups = r.groups }
room_one t (changes.PutSchedule row) v k e p held r = record { lanes = r.lanes; groups = r.groups }
room_one t (changes.DropSchedule queue to) v k e p held r = record { lanes = r.lanes; groups = r.groups }
room_one t _ v k e p held r = absurd (false≢true e)

-- ---- room, where a message is put in

pub room_less : (t : Tables) (held less : ℕ → ℕ) → ((n : ℕ) → less n ≤ held n) → HasRoom t held → HasRoom t less
room_less t held less k r = record {
  lanes = λ n le name q f. let a = r.lanes n le name q f in let b = k n in omega (arith, a, b);
  groups = λ n le. let a = r.groups n le in let b = k n in omega (arith, a, b);
}

-- a message that takes one of those that are held: its lane is at most one below its queue's lowest, and its group not behind the next one
module _ (t : Tables) (row : MsgRow) (queue : QueueRow) (queue_is : find_queue t row.queue ≡ Some queue) (deep : depth_of (lane_of row.place) ≤ depth_of queue.lowest + 1) (begun : row.group ≤ t.transaction)
    (held less : ℕ → ℕ) (one : (n : ℕ) → t.next ≤ n → row.id < n → less n + 1 ≤ held n) (r : HasRoom t held) where
  abbrev then_put : Tables
  then_put = after_change t (changes.Enqueued row)

  own_depth : depth_of (lowered t row queue).lowest ≤ depth_of queue.lowest + 1
  own_depth = let a = lowered_depth t row queue in omega (arith, a, deep)

  put_lane : (n : ℕ) → t.next ≤ n → row.id < n → (name : List ℕ) (q : QueueRow) (b : Bool) → bytes_eq row.queue name ≡ b → find_queue then_put name ≡ Some q → less n + depth_of q.lowest ≤ n
  put_lane n le lt name q true e f =
      let found : find_queue then_put row.queue ≡ Some (lowered t row queue) =
      find_changed (λ x. bytes_eq x.name row.queue) (lowered t row) (λ x. ap (λ k. bytes_eq k row.queue) (lowered_name t row x)) t.queues ∙ ap (option_map (lowered t row)) queue_is in
      let same : lowered t row queue ≡ q = (let a : Some (lowered t row queue) ≡ Some q = sym found ∙ ap (find_queue then_put) (same_name row.queue name e) ∙ f in cc) in
      let a = r.lanes n le row.queue queue queue_is in
      let b = own_depth in
      let c = one n le lt in
      subst (λ x. less n + depth_of x.lowest ≤ n) same (omega (arith, a, b, c))
  put_lane n le lt name q false e f =
      let there : find_queue t name ≡ Some q =
      sym (find_other_changed (λ x. bytes_eq x.name row.queue) (lowered t row) (λ x. bytes_eq x.name name) (λ x. ap (λ k. bytes_eq k name) (lowered_name t row x)) (λ x g. ap (λ k. bytes_eq k name) (same_name x.name row.queue g) ∙ e) t.queues) ∙ f in
      let a = r.lanes n le name q there in
      let c = one n le lt in
      omega (arith, a, c)

  pub room_put : HasRoom then_put less
  room_put = record {
    lanes = λ n le name q f. let up : max t.next (row.id + 1) ≤ n = le in put_lane n (omega (arith, up)) (omega (arith, up)) name q (bytes_eq row.queue name) refl f;
    groups = λ n le. let up : max t.next (row.id + 1) ≤ n = le in let a = r.groups n (omega (arith, up)) in let c = one n (omega (arith, up)) (omega (arith, up)) in omega (arith, a, c, begun);
  }
