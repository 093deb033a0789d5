-- What valid tables say of lanes, groups and times.
use Rattle.std.proofs.Common.{◌≡◌, ◌≤◌, ◌<◌, ◌^◌, ℕ, ℤ, List, [], ◌∷◌, Bool, true, false, not, refl, sym, ap, ◌∙◌, arith, Option, ◌==◌, Some, None, All, IfSome, ◌&&◌, ◌||◌}
use Rattle.std.specs.Prelude.{pos, negsuc, neg_ℤ, int_le, is_some, option_and_then, if◌then◌else◌}
use Rattle.std.specs.List.{list_any, list_all}
use Rattle.std.specs.Str.{bytes_eq}
use Rattle.std.specs.Cmp.Lexicographic.{bytes_decides}
use Rattle.std.proofs.lemmas.Int.{ints}
use Rattle.std.proofs.lemmas.Bool.{and_parts, false≢true}
use Rattle.std.proofs.lemmas.List.Elements.{All-nil, All-cons}
use Rattle.std.proofs.lemmas.Option.{none-some}
use Rattle.aq_base.specs.declared.DbId.{DbId}
use Rattle.payload_records.specs.declared.record.Record.{Record}
use Rattle.place_keys.specs.Place.{put_before}
use Rattle.queue_rows.specs.Rows.{find_table, find_queue, find_message, table_of}
use Rattle.queue_rows.specs.Tables.{lane_of}
use Rattle.queue_rows.specs.Settling.{is_open}
use Rattle.queue_rows.specs.Session.{is_same_db}
use Rattle.queue_rows.specs.Enqueueing as q
use Rattle.queue_rows.specs.Within.{is_within}
use Rattle.queue_rows.specs.Valid.{is_valid, is_valid_queue, is_valid_message, is_valid_message_at, is_valid_message_in, has_right_lane, has_right_lowest}
use Rattle.queue_rows.specs.declared.tables.Tables.{Tables}
use Rattle.queue_rows.specs.declared.rows.TableRow.{TableRow}
use Rattle.queue_rows.specs.declared.rows.QueueRow.{QueueRow}
use Rattle.queue_rows.specs.declared.rows.MsgRow.{MsgRow}
use Rattle.queue_rows.specs.declared.session.Agent.{Agent}
use Rattle.queue_rows.specs.declared.statement.Enqueue.{Enqueue}
use Rattle.queue_rows.specs.declared.statement.MsgId.{MsgId}
use Rattle.queue_rows.specs.declared.statement.Statement.TheVariants as statements
use Rattle.valid_laws.specs.PendingLaws.{depth_of}
use Rattle.valid_laws.proofs.Parts.{and_l, and_r, all_found, parts_of, valid_messages}
use Rattle.valid_laws.proofs.Lowering.{numbers_of, le_trans_z}
use Rattle.valid_laws.proofs.Completing.{depth_known}
use Rattle.sessions.specs.Numbers.{IsAbove, IsLowest, IsAddable}
use Rattle.enqueue_ops.specs.Asked.{HasTimes}

-- ---- lanes

all_of : {X : Type 0} (p : X → Bool) (P : X → Type 0) → ((x : X) → p x ≡ true → P x) → (xs : List X) → list_all p xs ≡ true → All P xs
all_of p P f [] h = All-nil P
all_of p P f (x ∷ xs) h = let parts = and_parts (p x) (list_all p xs) h in All-cons P x xs (f x parts.0) (all_of p P f xs parts.1)

above_by : (n : ℕ) (z : ℤ) → depth_of z ≤ n → IsAbove n z
above_by n (pos k) h = omega (arith, ints)
above_by n (negsuc k) h = omega (arith, ints)

-- no lane of valid tables is further down than ids go
above_in : (t : Tables) (z : ℤ) → is_valid t ≡ true → int_le (neg_ℤ (pos t.next)) z ≡ true → IsAbove (2 ^ 62) z
above_in t z v h = let d = depth_known t.next z h in let n : t.next ≤ 2 ^ 61 = (numbers_of t v).within in above_by (2 ^ 62) z (omega (arith, d, n))

lowest_part : (t : Tables) (queue : QueueRow) → is_valid_queue t queue ≡ true → has_right_lowest t queue ≡ true
lowest_part t queue h = search (and_l, and_r)

lowest_in : (t : Tables) (queue : QueueRow) → is_valid_queue t queue ≡ true → int_le (neg_ℤ (pos t.next)) queue.lowest ≡ true
lowest_in t queue h = (and_parts (int_le queue.lowest (pos 0)) (int_le (neg_ℤ (pos t.next)) queue.lowest) (lowest_part t queue h)).1

pub lowest_known : (t : Tables) → is_valid t ≡ true → All (IsLowest (2 ^ 62)) t.queues
lowest_known t v = all_of (is_valid_queue t) (IsLowest (2 ^ 62)) (λ queue h. above_in t queue.lowest v (lowest_in t queue h)) t.queues (parts_of t v).queues

pub group_known : (t : Tables) → is_valid t ≡ true → t.transaction < 2 ^ 62
group_known t v = let n : t.next ≤ 2 ^ 61 = (numbers_of t v).within in let g = (numbers_of t v).below in omega (arith, n, g)

-- ---- the message before which another is to stand

abbrev pub IsLaneAbove : MsgRow → Type 0
IsLaneAbove m = IsAbove (2 ^ 62) (lane_of m.place)

lane_part : (t : Tables) (queue : QueueRow) (table : TableRow) (m : MsgRow) → is_valid_message_in t queue (Some table) m ≡ true → has_right_lane table queue m ≡ true
lane_part t queue table m h = search (and_l, and_r) depth 9

ungrouped_lane : (grouped b : Bool) → grouped ≡ false → (grouped || b) ≡ true → b ≡ true
ungrouped_lane true b e h = absurd (false≢true (sym e))
ungrouped_lane false b e h = h

module _ (t : Tables) (v : is_valid t ≡ true) (name : List ℕ) (queue : QueueRow) (table : TableRow) (queue_is : find_queue t name ≡ Some queue) (table_is : find_table t queue.table ≡ Some table) (single : table.grouped ≡ false) where
  lane_known : (m : MsgRow) → is_valid_message_in t queue (Some table) m ≡ true → IsLaneAbove m
  lane_known m h =
      let least : int_le queue.lowest (lane_of m.place) ≡ true = ungrouped_lane table.grouped (int_le queue.lowest (lane_of m.place)) single (lane_part t queue table m h) in
      let low = lowest_in t queue (all_found (is_valid_queue t) (λ r. bytes_eq r.name name) t.queues queue (parts_of t v).queues queue_is) in
      above_in t (lane_of m.place) v (le_trans_z (neg_ℤ (pos t.next)) queue.lowest (lane_of m.place) low least)

  standing_known : (id : ℕ) (m : MsgRow) → find_message t id ≡ Some m → bytes_eq m.queue name ≡ true → IsLaneAbove m
  standing_known id m e h =
      let valid : is_valid_message t m ≡ true = all_found (is_valid_message t) (λ r. r.id == id) t.messages m (valid_messages t v) e in
      let there : find_queue t m.queue ≡ Some queue = ap (find_queue t) ((bytes_decides m.queue name).0 h) ∙ queue_is in
      let at : is_valid_message_at t (Some queue) m ≡ true = sym (ap (λ o. is_valid_message_at t o m) there) ∙ valid in
      lane_known m (sym (ap (λ o. is_valid_message_in t queue o m) table_is) ∙ at)

  relative_if_known : (id : ℕ) (m : MsgRow) (b : Bool) → q.is_relative name m ≡ b → find_message t id ≡ Some m → IfSome (if b then Some m else None) IsLaneAbove
  relative_if_known id m true g e =
      let p = and_parts (bytes_eq m.queue name && not m.moved) (list_any (λ s. is_open s.state) m.slots) g in
      standing_known id m e (and_parts (bytes_eq m.queue name) (not m.moved) p.0).0
  relative_if_known id m false g e = tt

  relative_found_known : (id : ℕ) (o : Option MsgRow) → find_message t id ≡ o → IfSome (option_and_then (q.relative_if name) o) IsLaneAbove
  relative_found_known id None e = tt
  relative_found_known id (Some m) e = relative_if_known id m (q.is_relative name m) refl e

  relative_named_known : (id : MsgId) (b : Bool) → IfSome (option_and_then (q.relative_if name) (if b then find_message t id.number else None)) IsLaneAbove
  relative_named_known id true = relative_found_known id.number (find_message t id.number) refl
  relative_named_known id false = tt

  relative_at_known : (db : DbId) (o : Option MsgId) → IfSome (option_and_then (q.relative_named t db name) o) IsLaneAbove
  relative_at_known db None = tt
  relative_at_known db (Some id) = relative_named_known id (is_same_db id.db db)

relative_in_known : (t : Tables) (db : DbId) (ask : Enqueue) (table : TableRow) (o : Option QueueRow) → is_valid t ≡ true → find_queue t ask.queue ≡ o → option_and_then (λ r. find_table t r.table) o ≡ Some table → table.grouped ≡ false → IfSome (q.relative_of t db ask) IsLaneAbove
relative_in_known t db ask table None v e h single = absurd (none-some table h)
relative_in_known t db ask table (Some queue) v e h single = relative_at_known t v ask.queue queue table e h single db ask.before

single_if : (grouped before top : Bool) → (grouped && (before || top)) ≡ false → before ≡ true → grouped ≡ false
single_if true true top h e = h
single_if true false top h e = absurd (false≢true e)
single_if false before top h e = refl

relative_by : (t : Tables) (db : DbId) (ask : Enqueue) (table : TableRow) (o : Option MsgId) → ask.before ≡ o → is_valid t ≡ true → table_of t ask.queue ≡ Some table → (table.grouped && (is_some ask.before || ask.top)) ≡ false → IfSome (q.relative_of t db ask) IsLaneAbove
relative_by t db ask table None e v h u = rw e tt
relative_by t db ask table (Some id) e v h u = relative_in_known t db ask table (find_queue t ask.queue) v refl h (single_if table.grouped (is_some ask.before) ask.top u (ap is_some e))

-- where it may be stood before, since places of groups can not be
pub relative_known : (t : Tables) (db : DbId) (ask : Enqueue) (table : TableRow) → is_valid t ≡ true → table_of t ask.queue ≡ Some table → (table.grouped && (is_some ask.before || ask.top)) ≡ false → IfSome (q.relative_of t db ask) IsLaneAbove
relative_known t db ask table v h u = relative_by t db ask table ask.before refl v h u

-- ---- the message that is added

before_above : (n id : ℕ) (place : List ℤ) → IsAbove n (lane_of place) → IsAbove n (lane_of (put_before place (pos id)))
before_above n id [] h = above_by n (pos id) (omega arith)
before_above n id (z ∷ place) h = h

own_above : (top : Bool) → IsAbove (2 ^ 62) (if top then negsuc 0 else pos 0)
own_above true = above_by (2 ^ 62) (negsuc 0) (omega arith)
own_above false = above_by (2 ^ 62) (pos 0) (omega arith)

place_above : (table : TableRow) (ask : Enqueue) (relative : Option MsgRow) (id moment : ℕ) → IfSome relative IsLaneAbove → IsAbove (2 ^ 62) (lane_of (q.place_until_commit table ask relative id moment))
place_above table ask None id moment h = own_above ask.top
place_above table ask (Some m) id moment h = before_above (2 ^ 62) id m.place h

pub addition_known : (table : TableRow) (ask : Enqueue) (cells : Record) (agents : List Agent) (relative : Option MsgRow) (id moment : ℕ) → id < 2 ^ 62 → moment ≤ 2 ^ 62 → IfSome relative IsLaneAbove → IsAddable (q.addition table ask cells agents relative id moment)
addition_known table ask cells agents relative id moment low late h = record { id = low; enqueued = late; lane = place_above table ask relative id moment h }

-- ---- times

pub times_known : (ask : Enqueue) → is_within (statements.Enqueue ask) ≡ true → HasTimes ask
unfolding is_within
times_known ask h = record { delay = search (and_l, and_r) depth 12; expiration = search (and_l, and_r) depth 12 }
