-- Tables in which a queue's lowest lane follows a message, and whose numbers may have grown: what was valid stays so.
use Rattle.std.proofs.Common.{◌⊎◌, inl, inr, ◌≡◌, ◌≤◌, ℕ, zero, suc, List, [], ◌∷◌, Bool, true, false, not, length, refl, sym, ap, ◌∙◌, subst, arith, Option, Some, None, ◌&&◌, ◌||◌, ℤ}
use Rattle.std.specs.Prelude.{find, nat_le, nat_lt, option_map, option_and_then, is_some, if◌then◌else◌, pos, negsuc, neg_ℤ, int_le, int_lt}
use Rattle.std.specs.List.{list_any, list_all}
use Rattle.std.specs.Option.{option_map_or}
use Rattle.std.specs.Str.{bytes_eq}
use Rattle.std.proofs.lemmas.Bool.{and_parts, and_from, le-leb, leb-true, lt-ltb, ltb-true, ltb-false, or_left, or_right, or_cases, false≢true, true≢false}
use Rattle.queue_rows.specs.Rows.{is_same_table, is_same_queue, is_same_sub, is_same_schedule, find_queue, find_table, table_of, exception_name, changed_first}
use Rattle.queue_rows.specs.Tables.{lowered, is_grouped, is_grouped_table, min_int, lane_of}
use Rattle.queue_rows.specs.Settling.{is_exception}
use Rattle.queue_rows.specs.Catalog.{has_subscribers}
use Rattle.queue_rows.specs.Recipients.{subscribers_of}
use Rattle.queue_rows.specs.Within.{if_some, is_span, is_time}
use Rattle.queue_rows.specs.Distinct.{are_distinct}
use Rattle.aq_base.specs.declared.limits.TheConstants.{MAX_RETRIES_LIMIT, MOMENT_LIMIT, NEXT_LIMIT, SUBSCRIBER_LIMIT}
use Rattle.payload_records.specs.declared.TheConstants.{FIELD_LIMIT}
use Rattle.queue_rows.specs.Valid.{is_valid, is_same_message, is_same_seen, has_right_numbers, is_valid_table, is_default_exception, is_valid_queue, has_right_lowest, is_valid_sub, is_right_rule, is_valid_schedule, has_right_failures, takes_subscribers, has_subscribers_in, is_valid_message, is_valid_message_at, is_valid_message_in, is_right_queue, has_right_cells, has_right_ids, has_right_place, has_right_lane, has_right_props, has_right_slots}
use Rattle.queue_rows.specs.declared.tables.Tables.{Tables}
use Rattle.queue_rows.specs.declared.rows.MsgRow.{MsgRow}
use Rattle.queue_rows.specs.declared.rows.QueueRow.{QueueRow}
use Rattle.queue_rows.specs.declared.rows.TableRow.{TableRow}
use Rattle.queue_rows.specs.declared.rows.SubRow.{SubRow}
use Rattle.queue_rows.specs.declared.rows.ScheduleRow.{ScheduleRow}
use Rattle.row_laws.proofs.Firsts.{changed_first-yes, changed_first-no}
use Rattle.row_laws.proofs.Finding.{find-yes, find-no, find_changed}
use Rattle.row_laws.proofs.Queues.{lowered_name, lowered_seen, find_seen}
use Rattle.valid_laws.proofs.Parts.{and_l, and_r, all_found, parts_of, valid_from, six_parts, six_from, all_changed_first, all_weaker}

-- ---- signed numbers

pub le_trans_z : (a b c : ℤ) → int_le a b ≡ true → int_le b c ≡ true → int_le a c ≡ true
le_trans_z (pos a) (pos b) (pos c) h g = let x = leb-true a b h in let y = leb-true b c g in le-leb a c (omega arith)
le_trans_z (pos a) (pos b) (negsuc c) h g = absurd (false≢true g)
le_trans_z (pos a) (negsuc b) c h g = absurd (false≢true h)
le_trans_z (negsuc a) b (pos c) h g = refl
le_trans_z (negsuc a) (pos b) (negsuc c) h g = absurd (false≢true g)
le_trans_z (negsuc a) (negsuc b) (negsuc c) h g = let x = leb-true b a h in let y = leb-true c b g in le-leb c a (omega arith)

lt_le_z : (a b : ℤ) → int_lt a b ≡ true → int_le a b ≡ true
lt_le_z (pos a) (pos b) h = let x = ltb-true a b h in le-leb a b (omega arith)
lt_le_z (pos a) (negsuc b) h = absurd (false≢true h)
lt_le_z (negsuc a) (pos b) h = refl
lt_le_z (negsuc a) (negsuc b) h = let x = ltb-true b a h in le-leb b a (omega arith)

not_lt_le_z : (a b : ℤ) → int_lt a b ≡ false → int_le b a ≡ true
not_lt_le_z (pos a) (pos b) h = let x = ltb-false a b h in le-leb b a (omega arith)
not_lt_le_z (pos a) (negsuc b) h = refl
not_lt_le_z (negsuc a) (pos b) h = absurd (true≢false h)
not_lt_le_z (negsuc a) (negsuc b) h = let x = ltb-false b a h in le-leb a b (omega arith)

pub le_refl_z : (a : ℤ) → int_le a a ≡ true
le_refl_z (pos a) = le-leb a a (omega arith)
le_refl_z (negsuc a) = le-leb a a (omega arith)

pub min_left : (a b : ℤ) (t : Bool) → int_lt a b ≡ t → int_le (if t then a else b) a ≡ true
min_left a b true e = le_refl_z a
min_left a b false e = not_lt_le_z a b e

min_right : (a b : ℤ) (t : Bool) → int_lt a b ≡ t → int_le (if t then a else b) b ≡ true
min_right a b true e = lt_le_z a b e
min_right a b false e = le_refl_z b

min_from : (c a b : ℤ) (t : Bool) → int_le c a ≡ true → int_le c b ≡ true → int_le c (if t then a else b) ≡ true
min_from c a b true h g = h
min_from c a b false h g = g

pub neg_down : (a b : ℕ) → a ≤ b → int_le (neg_ℤ (pos b)) (neg_ℤ (pos a)) ≡ true
neg_down zero zero h = refl
neg_down zero (suc b) h = refl
neg_down (suc a) zero h = absurd (let no : suc a ≤ 0 = h in omega arith)
neg_down (suc a) (suc b) h = let le : suc a ≤ suc b = h in le-leb a b (omega arith)

-- ---- lists

module _ {X : Type 0} (p r : X → Bool) (f : X → X) (keeps : (x : X) → p (f x) ≡ p x) where
  either_step : (x : X) (xs : List X) (b c : Bool) → r x ≡ b → p x ≡ c → (find p (changed_first r f xs) ≡ find p xs) ⊎ (find p (changed_first r f xs) ≡ option_map f (find p xs))
      → (find p (changed_first r f (x ∷ xs)) ≡ find p (x ∷ xs)) ⊎ (find p (changed_first r f (x ∷ xs)) ≡ option_map f (find p (x ∷ xs)))
  either_step x xs true true e g ih = inr (ap (find p) (changed_first-yes r f x xs e) ∙ find-yes p (f x) xs (keeps x ∙ g) ∙ sym (ap (option_map f) (find-yes p x xs g)))
  either_step x xs true false e g ih = inl (ap (find p) (changed_first-yes r f x xs e) ∙ find-no p (f x) xs (keeps x ∙ g) ∙ sym (find-no p x xs g))
  either_step x xs false true e g ih = inl (ap (find p) (changed_first-no r f x xs e) ∙ find-yes p x (changed_first r f xs) g ∙ sym (find-yes p x xs g))
  either_step x xs false false e g (inl ih) = inl (ap (find p) (changed_first-no r f x xs e) ∙ find-no p x (changed_first r f xs) g ∙ ih ∙ sym (find-no p x xs g))
  either_step x xs false false e g (inr ih) = inr (ap (find p) (changed_first-no r f x xs e) ∙ find-no p x (changed_first r f xs) g ∙ ih ∙ sym (ap (option_map f) (find-no p x xs g)))

  -- what is found is as it was, or changed
  pub find_either : (xs : List X) → (find p (changed_first r f xs) ≡ find p xs) ⊎ (find p (changed_first r f xs) ≡ option_map f (find p xs))
  find_either [] = inl refl
  find_either (x ∷ xs) = either_step x xs (r x) (p x) refl refl (find_either xs)

module _ {X : Type 0} (same : X → X → Bool) (r : X → Bool) (f : X → X) (left : (x y : X) → same (f x) y ≡ same x y) (right : (x y : X) → same x (f y) ≡ same x y) where
  any_first_step : (z x : X) (xs : List X) (b : Bool) → r x ≡ b → list_any (same z) (changed_first r f xs) ≡ list_any (same z) xs → list_any (same z) (changed_first r f (x ∷ xs)) ≡ list_any (same z) (x ∷ xs)
  any_first_step z x xs true e ih = ap (list_any (same z)) (changed_first-yes r f x xs e) ∙ ap (λ b. b || list_any (same z) xs) (right z x)
  any_first_step z x xs false e ih = ap (list_any (same z)) (changed_first-no r f x xs e) ∙ ap (λ b. same z x || b) ih

  any_first : (z : X) (xs : List X) → list_any (same z) (changed_first r f xs) ≡ list_any (same z) xs
  any_first z [] = refl
  any_first z (x ∷ xs) = any_first_step z x xs (r x) refl (any_first z xs)

  any_of_changed : (x : X) (xs : List X) → list_any (same (f x)) xs ≡ list_any (same x) xs
  any_of_changed x [] = refl
  any_of_changed x (y ∷ ys) = ap (λ b. b || list_any (same (f x)) ys) (left x y) ∙ ap (λ b. same x y || b) (any_of_changed x ys)

  distinct_first_step : (x : X) (xs : List X) (b : Bool) → r x ≡ b → are_distinct same (changed_first r f xs) ≡ are_distinct same xs → are_distinct same (changed_first r f (x ∷ xs)) ≡ are_distinct same (x ∷ xs)
  distinct_first_step x xs true e ih = ap (are_distinct same) (changed_first-yes r f x xs e) ∙ ap (λ b. not b && are_distinct same xs) (any_of_changed x xs)
  distinct_first_step x xs false e ih =
      ap (are_distinct same) (changed_first-no r f x xs e) ∙ ap (λ b. not b && are_distinct same (changed_first r f xs)) (any_first x xs) ∙ ap (λ b. not (list_any (same x) xs) && b) ih

  distinct_first : (xs : List X) → are_distinct same (changed_first r f xs) ≡ are_distinct same xs
  distinct_first [] = refl
  distinct_first (x ∷ xs) = distinct_first_step x xs (r x) refl (distinct_first xs)

pub all_same : {X : Type 0} (q r : X → Bool) → ((x : X) → r x ≡ q x) → (xs : List X) → list_all q xs ≡ true → list_all r xs ≡ true
all_same q r k xs h = all_weaker q r (λ x e. k x ∙ e) xs h

-- ---- the tables, whose queue has a lower lane

or_seen : (h : QueueRow → Bool) (o : Option QueueRow) → option_map_or h o false ≡ option_map_or (λ (b : Bool). b) (option_map h o) false
or_seen h None = refl
or_seen h (Some q) = refl

subs_blind_at : (q : QueueRow) (n : ℤ) (o : Option TableRow) → has_subscribers (record q { lowest = n }) o ≡ has_subscribers q o
subs_blind_at q n None = refl
subs_blind_at q n (Some table) = refl

takes_is : (t : Tables) (o : Option QueueRow) → has_subscribers_in t o ≡ option_map_or (λ q. has_subscribers q (find_table t q.table)) o false
takes_is t None = refl
takes_is t (Some q) = refl

by_table : (rows : List TableRow) (o : Option QueueRow) → option_and_then (λ q. find (λ r. bytes_eq r.name q.table) rows) o ≡ option_and_then (λ name. find (λ r. bytes_eq r.name name) rows) (option_map (λ q. q.table) o)
by_table rows None = refl
by_table rows (Some q) = refl

-- the numbers of tables that have grown
pub record AreNumbers (t : Tables) (next transaction : ℕ) : Type 0 where
  pub next_up : t.next ≤ next
  pub transaction_up : t.transaction ≤ transaction
  pub within : next ≤ NEXT_LIMIT
  pub below : transaction ≤ next

-- the message may lower its queue so far
abbrev pub IsLaneRight : Tables → ℕ → MsgRow → QueueRow → Type 0
IsLaneRight t next m to = is_grouped t.tables to ≡ false → int_le (neg_ℤ (pos next)) (lane_of m.place) ≡ true

-- those of valid tables as they are
pub numbers_of : (t : Tables) → is_valid t ≡ true → AreNumbers t t.next t.transaction
numbers_of t v =
    let h = (parts_of t v).numbers in
    let p4 = and_parts (nat_le 1 t.next && nat_le t.next NEXT_LIMIT && nat_le 1 t.transaction && nat_le t.transaction t.next) (nat_le t.latest MOMENT_LIMIT) h in
    let p3 = and_parts (nat_le 1 t.next && nat_le t.next NEXT_LIMIT && nat_le 1 t.transaction) (nat_le t.transaction t.next) p4.0 in
    let p2 = and_parts (nat_le 1 t.next && nat_le t.next NEXT_LIMIT) (nat_le 1 t.transaction) p3.0 in
    let p1 = and_parts (nat_le 1 t.next) (nat_le t.next NEXT_LIMIT) p2.0 in
    record { next_up = omega arith; transaction_up = omega arith; within = leb-true t.next NEXT_LIMIT p1.1; below = leb-true t.transaction t.next p3.1 }

module _ (t : Tables) (v : is_valid t ≡ true) (m : MsgRow) (queue : List ℕ) (to : QueueRow) (to_is : find_queue t queue ≡ Some to) (next transaction : ℕ) (n : AreNumbers t next transaction) (lane : IsLaneRight t next m to) where
  abbrev pub low : Tables
  low = record t { queues = changed_first (λ q. bytes_eq q.name queue) (lowered t m) t.queues; next = next; transaction = transaction }

  seen_in : {Y : Type 0} (g : QueueRow → Y) → ((q : QueueRow) (k : ℤ) → g (record q { lowest = k }) ≡ g q) → (name : List ℕ) → option_map g (find_queue low name) ≡ option_map g (find_queue t name)
  seen_in g blind name = find_seen (λ q. bytes_eq q.name name) (λ q. bytes_eq q.name queue) (lowered t m) g (λ q. ap (λ k. bytes_eq k name) (lowered_name t m q)) (lowered_seen g blind t m) t.queues

  or_same : (h : QueueRow → Bool) → ((q : QueueRow) (k : ℤ) → h (record q { lowest = k }) ≡ h q) → (name : List ℕ) → option_map_or h (find_queue low name) false ≡ option_map_or h (find_queue t name) false
  or_same h blind name = or_seen h (find_queue low name) ∙ ap (λ o. option_map_or (λ (b : Bool). b) o false) (seen_in h blind name) ∙ sym (or_seen h (find_queue t name))

  table_same : (table : TableRow) → is_valid_table low table ≡ is_valid_table t table
  table_same table = ap (λ b. nat_le (length table.fields) FIELD_LIMIT && b) (or_same (is_default_exception table.name) (λ q k. refl) (exception_name table.name))

  takes_same : (name : List ℕ) → takes_subscribers low name ≡ takes_subscribers t name
  takes_same name =
      takes_is low (find_queue low name) ∙ or_same (λ q. has_subscribers q (find_table t q.table)) (λ q k. subs_blind_at q k (find_table t q.table)) name ∙ sym (takes_is t (find_queue t name))

  table_of_low : (name : List ℕ) → table_of low name ≡ table_of t name
  table_of_low name =
      by_table t.tables (find_queue low name)
      ∙ ap (option_and_then (λ k. find (λ r. bytes_eq r.name k) t.tables)) (seen_in (λ q. q.table) (λ q k. refl) name)
      ∙ sym (by_table t.tables (find_queue t name))

  sub_same : (s : SubRow) → is_valid_sub low s ≡ is_valid_sub t s
  sub_same s =
      ap (λ b. b && nat_le (length (subscribers_of t s.queue)) SUBSCRIBER_LIMIT && if_some (is_right_rule (table_of low s.queue)) s.rule) (takes_same s.queue)
      ∙ ap (λ o. takes_subscribers t s.queue && nat_le (length (subscribers_of t s.queue)) SUBSCRIBER_LIMIT && if_some (is_right_rule o) s.rule) (table_of_low s.queue)

  schedule_same : (s : ScheduleRow) → is_valid_schedule low s ≡ is_valid_schedule t s
  schedule_same s =
      ap (λ b. b && has_right_failures s && nat_le s.start MOMENT_LIMIT && if_some is_span s.duration && if_some is_span s.period && is_time s.latency) (takes_same s.queue)

  -- ---- queues

  lowest_part : (q : QueueRow) → is_valid_queue t q ≡ true → has_right_lowest t q ≡ true
  lowest_part q h = search (and_l, and_r)

  with_lowest : (q r : QueueRow) → is_valid_queue t q ≡ true → r.table ≡ q.table → r.kind ≡ q.kind → r.enqueue ≡ q.enqueue → r.max_retries ≡ q.max_retries → r.retry_delay ≡ q.retry_delay → r.retention ≡ q.retention
      → has_right_lowest low r ≡ true → is_valid_queue low r ≡ true
  with_lowest q r h a b c d e f g =
      let p = six_parts (is_some (find_table t q.table)) (not (is_exception q.kind && q.enqueue)) (nat_le q.max_retries MAX_RETRIES_LIMIT) (is_time q.retry_delay) (is_time q.retention) (has_right_lowest t q) h in
      six_from (is_some (find_table t r.table)) (not (is_exception r.kind && r.enqueue)) (nat_le r.max_retries MAX_RETRIES_LIMIT) (is_time r.retry_delay) (is_time r.retention) (has_right_lowest low r)
      (ap (λ k. is_some (find_table t k)) a ∙ p.0) (ap (λ k. not (is_exception k && r.enqueue)) b ∙ ap (λ k. not (is_exception q.kind && k)) c ∙ p.1) (ap (λ k. nat_le k MAX_RETRIES_LIMIT) d ∙ p.2)
      (ap is_time e ∙ p.3) (ap is_time f ∙ p.4) g

  -- the bound on lanes has sunk
  sunk : (q : QueueRow) → is_valid_queue t q ≡ true → (int_le q.lowest (pos 0) ≡ true) × (int_le (neg_ℤ (pos next)) q.lowest ≡ true)
  sunk q h =
      let x = and_parts (int_le q.lowest (pos 0)) (int_le (neg_ℤ (pos t.next)) q.lowest) (lowest_part q h) in
      (x.0, le_trans_z (neg_ℤ (pos next)) (neg_ℤ (pos t.next)) q.lowest (neg_down t.next next n.next_up) x.1)

  queue_stays : (q : QueueRow) → is_valid_queue t q ≡ true → is_valid_queue low q ≡ true
  queue_stays q h = let x = sunk q h in with_lowest q q h refl refl refl refl refl refl (and_from (int_le q.lowest (pos 0)) (int_le (neg_ℤ (pos next)) q.lowest) x.0 x.1)

  lowered_valid_by : (b : Bool) → is_grouped t.tables to ≡ b → is_valid_queue t to ≡ true → is_valid_queue low (if b then to else record to { lowest = min_int to.lowest (lane_of m.place) }) ≡ true
  lowered_valid_by true e h = queue_stays to h
  lowered_valid_by false e h =
      let x = sunk to h in
      let r : QueueRow = record to { lowest = min_int to.lowest (lane_of m.place) } in
      let k = min_int to.lowest (lane_of m.place) in
      with_lowest to r h refl refl refl refl refl refl
      (and_from (int_le k (pos 0)) (int_le (neg_ℤ (pos next)) k)
      (le_trans_z k to.lowest (pos 0) (min_left to.lowest (lane_of m.place) (int_lt to.lowest (lane_of m.place)) refl) x.0)
      (min_from (neg_ℤ (pos next)) to.lowest (lane_of m.place) (int_lt to.lowest (lane_of m.place)) x.1 (lane e)))

  lowered_valid : (q : QueueRow) → find_queue t queue ≡ Some q → is_valid_queue low q ≡ true → is_valid_queue low (lowered t m q) ≡ true
  lowered_valid q e h =
      let same : to ≡ q = (let s : Some to ≡ Some q = sym to_is ∙ e in cc) in
      let k : is_valid_queue t to ≡ true = all_found (is_valid_queue t) (λ r. bytes_eq r.name queue) t.queues to (parts_of t v).queues to_is in
      subst (λ x. is_valid_queue low (lowered t m x) ≡ true) same (lowered_valid_by (is_grouped t.tables to) refl k)

  -- ---- messages

  ids_up : (x : MsgRow) → has_right_ids t x ≡ true → has_right_ids low x ≡ true
  ids_up x h =
      let p3 = and_parts (nat_le 1 x.id && nat_lt x.id t.next && nat_le 1 x.group) (nat_lt x.group t.transaction) h in
      let p2 = and_parts (nat_le 1 x.id && nat_lt x.id t.next) (nat_le 1 x.group) p3.0 in
      let p1 = and_parts (nat_le 1 x.id) (nat_lt x.id t.next) p2.0 in
      let a = ltb-true x.id t.next p1.1 in
      let b = ltb-true x.group t.transaction p3.1 in
      let c = n.next_up in
      let d = n.transaction_up in
      and_from (nat_le 1 x.id && nat_lt x.id next && nat_le 1 x.group) (nat_lt x.group transaction)
      (and_from (nat_le 1 x.id && nat_lt x.id next) (nat_le 1 x.group) (and_from (nat_le 1 x.id) (nat_lt x.id next) p1.0 (lt-ltb x.id next (omega arith))) p2.1)
      (lt-ltb x.group transaction (omega arith))

  lane_lower : (q : QueueRow) (table : TableRow) (x : MsgRow) → has_right_lane table q x ≡ true → has_right_lane table (record q { lowest = min_int q.lowest (lane_of m.place) }) x ≡ true
  lane_lower q table x h = by_case (or_cases table.grouped (int_le q.lowest (lane_of x.place)) h)
    where
      by_case : (table.grouped ≡ true) ⊎ (int_le q.lowest (lane_of x.place) ≡ true) → (table.grouped || int_le (min_int q.lowest (lane_of m.place)) (lane_of x.place)) ≡ true
      by_case (inl e) = or_left table.grouped (int_le (min_int q.lowest (lane_of m.place)) (lane_of x.place)) e
      by_case (inr e) = or_right table.grouped (int_le (min_int q.lowest (lane_of m.place)) (lane_of x.place))
          (le_trans_z (min_int q.lowest (lane_of m.place)) q.lowest (lane_of x.place) (min_left q.lowest (lane_of m.place) (int_lt q.lowest (lane_of m.place)) refl) e)

  -- eight tests of a message
  eight_of : (a b c d e f g h : Bool) → (a && b && c && d && e && f && g && h) ≡ true → (a && b ≡ true) × (c ≡ true) × (d ≡ true) × (e ≡ true) × (f && g && h ≡ true)
  eight_of a b c d e f g h w =
      let p7 = and_parts (a && b && c && d && e && f && g) h w in
      let p6 = and_parts (a && b && c && d && e && f) g p7.0 in
      let p5 = and_parts (a && b && c && d && e) f p6.0 in
      let p4 = and_parts (a && b && c && d) e p5.0 in
      let p3 = and_parts (a && b && c) d p4.0 in
      let p2 = and_parts (a && b) c p3.0 in
      (p2.0, p2.1, p3.1, p4.1, and_from (f && g) h (and_from f g p5.1 p6.1) p7.1)

  eight_back : (a b c d e f g h : Bool) → (a && b) ≡ true → c ≡ true → d ≡ true → e ≡ true → (f && g && h) ≡ true → (a && b && c && d && e && f && g && h) ≡ true
  eight_back a b c d e f g h p q r s w =
      let x2 = and_parts (f && g) h w in
      let x1 = and_parts f g x2.0 in
      and_from (a && b && c && d && e && f && g) h (and_from (a && b && c && d && e && f) g (and_from (a && b && c && d && e) f (and_from (a && b && c && d) e (and_from (a && b && c) d (and_from (a && b) c p q) r) s) x1.0) x1.1) x2.1

  -- with another lane alone
  with_lane : (q r : QueueRow) (table : TableRow) (x : MsgRow) → is_right_queue x r ≡ is_right_queue x q → has_right_slots low table r x ≡ has_right_slots t table q x → (has_right_lane table q x ≡ true → has_right_lane table r x ≡ true)
      → is_valid_message_in t q (Some table) x ≡ true → is_valid_message_in low r (Some table) x ≡ true
  with_lane q r table x k sl l h =
      let p = eight_of (is_right_queue x q) (has_right_cells table x) (has_right_ids t x) (has_right_place table x) (has_right_lane table q x) (has_right_props x) (nat_le x.enq t.latest) (has_right_slots t table q x) h in
      eight_back (is_right_queue x r) (has_right_cells table x) (has_right_ids low x) (has_right_place table x) (has_right_lane table r x) (has_right_props x) (nat_le x.enq t.latest) (has_right_slots low table r x)
      (ap (λ b. b && has_right_cells table x) k ∙ p.0) (ids_up x p.1) p.2 (l p.3) (ap (λ b. has_right_props x && nat_le x.enq t.latest && b) sl ∙ p.4)

  same_in : (q : QueueRow) (o : Option TableRow) (x : MsgRow) → is_valid_message_in t q o x ≡ true → is_valid_message_in low q o x ≡ true
  same_in q None x h = absurd (false≢true h)
  same_in q (Some table) x h = with_lane q q table x refl refl (λ l. l) h

  lower_in : (q : QueueRow) (o : Option TableRow) (x : MsgRow) → is_valid_message_in t q o x ≡ true → is_valid_message_in low (record q { lowest = min_int q.lowest (lane_of m.place) }) o x ≡ true
  lower_in q None x h = absurd (false≢true h)
  lower_in q (Some table) x h = with_lane q (record q { lowest = min_int q.lowest (lane_of m.place) }) table x refl refl (lane_lower q table x) h

  lowered_in_by : (q : QueueRow) (x : MsgRow) (b : Bool) → is_valid_message_in t q (find_table t q.table) x ≡ true
      → is_valid_message_at low (Some (if b then q else record q { lowest = min_int q.lowest (lane_of m.place) })) x ≡ true
  lowered_in_by q x true h = same_in q (find_table t q.table) x h
  lowered_in_by q x false h = lower_in q (find_table t q.table) x h

  same_at : (o : Option QueueRow) (x : MsgRow) → is_valid_message_at t o x ≡ true → is_valid_message_at low o x ≡ true
  same_at None x h = absurd (false≢true h)
  same_at (Some q) x h = same_in q (find_table t q.table) x h

  lowered_at : (o : Option QueueRow) (x : MsgRow) → is_valid_message_at t o x ≡ true → is_valid_message_at low (option_map (lowered t m) o) x ≡ true
  lowered_at None x h = absurd (false≢true h)
  lowered_at (Some q) x h = lowered_in_by q x (is_grouped t.tables q) h

  other_by : (x : MsgRow) → (find_queue low x.queue ≡ find_queue t x.queue) ⊎ (find_queue low x.queue ≡ option_map (lowered t m) (find_queue t x.queue))
      → is_valid_message t x ≡ true → is_valid_message low x ≡ true
  other_by x (inl e) h = subst (λ o. is_valid_message_at low o x ≡ true) (sym e) (same_at (find_queue t x.queue) x h)
  other_by x (inr e) h = subst (λ o. is_valid_message_at low o x ≡ true) (sym e) (lowered_at (find_queue t x.queue) x h)

  -- each message stays valid
  pub other_valid : (x : MsgRow) → is_valid_message t x ≡ true → is_valid_message low x ≡ true
  other_valid x h = other_by x (find_either (λ q. bytes_eq q.name x.queue) (λ q. bytes_eq q.name queue) (lowered t m) (λ q. ap (λ k. bytes_eq k x.queue) (lowered_name t m q)) t.queues) h

  -- the queue itself
  pub own_queue : find_queue low queue ≡ Some (lowered t m to)
  own_queue = find_changed (λ q. bytes_eq q.name queue) (lowered t m) (λ q. ap (λ k. bytes_eq k queue) (lowered_name t m q)) t.queues ∙ ap (option_map (lowered t m)) to_is

  -- a message is valid in it whose lane is that of the one that lowered it, where it is valid but for the lane
  own_lane : (x : MsgRow) → lane_of x.place ≡ lane_of m.place → (b : Bool) → is_grouped t.tables to ≡ b → (table : TableRow) → find_table t to.table ≡ Some table
      → has_right_lane table (if b then to else record to { lowest = min_int to.lowest (lane_of m.place) }) x ≡ true
  own_lane x same true e table g = let grouped : table.grouped ≡ true = sym (ap is_grouped_table g) ∙ e in or_left table.grouped (int_le to.lowest (lane_of x.place)) grouped
  own_lane x same false e table g =
      or_right table.grouped (int_le (min_int to.lowest (lane_of m.place)) (lane_of x.place))
      (ap (int_le (min_int to.lowest (lane_of m.place))) same ∙ min_right to.lowest (lane_of m.place) (int_lt to.lowest (lane_of m.place)) refl)

  own_in : (x : MsgRow) (q : QueueRow) (table : TableRow) → is_right_queue x q ≡ true → has_right_cells table x ≡ true → has_right_ids low x ≡ true → has_right_place table x ≡ true → has_right_lane table q x ≡ true
      → has_right_props x ≡ true → nat_le x.enq t.latest ≡ true → has_right_slots low table q x ≡ true → is_valid_message_in low q (Some table) x ≡ true
  own_in x q table a b c d e f g h =
      eight_back (is_right_queue x q) (has_right_cells table x) (has_right_ids low x) (has_right_place table x) (has_right_lane table q x) (has_right_props x) (nat_le x.enq t.latest) (has_right_slots low table q x)
      (and_from (is_right_queue x q) (has_right_cells table x) a b) c d e (and_from (has_right_props x && nat_le x.enq t.latest) (has_right_slots low table q x) (and_from (has_right_props x) (nat_le x.enq t.latest) f g) h)

  own_by : (x : MsgRow) (table : TableRow) → find_table t to.table ≡ Some table → is_right_queue x to ≡ true → has_right_cells table x ≡ true → has_right_ids low x ≡ true → has_right_place table x ≡ true → lane_of x.place ≡ lane_of m.place
      → has_right_props x ≡ true → nat_le x.enq t.latest ≡ true → has_right_slots t table to x ≡ true → (b : Bool) → is_grouped t.tables to ≡ b
      → is_valid_message_at low (Some (if b then to else record to { lowest = min_int to.lowest (lane_of m.place) })) x ≡ true
  own_by x table ti a c d e same f g h true k = subst (λ o. is_valid_message_in low to o x ≡ true) (sym ti) (own_in x to table a c d e (own_lane x same true k table ti) f g h)
  own_by x table ti a c d e same f g h false k =
      subst (λ o. is_valid_message_in low (record to { lowest = min_int to.lowest (lane_of m.place) }) o x ≡ true) (sym ti)
      (own_in x (record to { lowest = min_int to.lowest (lane_of m.place) }) table a c d e (own_lane x same false k table ti) f g h)

  -- what a message has that is right in the queue that was lowered for it
  pub record IsRightIn (x : MsgRow) : Type 0 where
    pub table : TableRow
    pub queue_is : x.queue ≡ queue
    pub table_is : find_table t to.table ≡ Some table
    pub right_queue : is_right_queue x to ≡ true
    pub typed : has_right_cells table x ≡ true
    pub ids : has_right_ids low x ≡ true
    pub place : has_right_place table x ≡ true
    pub lane_is : lane_of x.place ≡ lane_of m.place
    pub props : has_right_props x ≡ true
    pub entered : nat_le x.enq t.latest ≡ true
    pub slots : has_right_slots t table to x ≡ true

  pub own_valid : (x : MsgRow) → IsRightIn x → is_valid_message low x ≡ true
  own_valid x k =
      subst (λ o. is_valid_message_at low o x ≡ true) (sym (ap (find_queue low) k.queue_is ∙ own_queue))
      (own_by x k.table k.table_is k.right_queue k.typed k.ids k.place k.lane_is k.props k.entered k.slots (is_grouped t.tables to) refl)

  -- ---- together

  numbers_up : has_right_numbers t ≡ true → has_right_numbers low ≡ true
  numbers_up h =
      let p4 = and_parts (nat_le 1 t.next && nat_le t.next NEXT_LIMIT && nat_le 1 t.transaction && nat_le t.transaction t.next) (nat_le t.latest MOMENT_LIMIT) h in
      let p3 = and_parts (nat_le 1 t.next && nat_le t.next NEXT_LIMIT && nat_le 1 t.transaction) (nat_le t.transaction t.next) p4.0 in
      let p2 = and_parts (nat_le 1 t.next && nat_le t.next NEXT_LIMIT) (nat_le 1 t.transaction) p3.0 in
      let p1 = and_parts (nat_le 1 t.next) (nat_le t.next NEXT_LIMIT) p2.0 in
      let a = leb-true 1 t.next p1.0 in
      let b = leb-true 1 t.transaction p2.1 in
      let c = n.next_up in
      let d = n.transaction_up in
      and_from (nat_le 1 next && nat_le next NEXT_LIMIT && nat_le 1 transaction && nat_le transaction next) (nat_le t.latest MOMENT_LIMIT)
      (and_from (nat_le 1 next && nat_le next NEXT_LIMIT && nat_le 1 transaction) (nat_le transaction next)
      (and_from (nat_le 1 next && nat_le next NEXT_LIMIT) (nat_le 1 transaction)
      (and_from (nat_le 1 next) (nat_le next NEXT_LIMIT) (le-leb 1 next (omega arith)) (le-leb next NEXT_LIMIT n.within))
      (le-leb 1 transaction (omega arith)))
      (le-leb transaction next n.below)) p4.1

  seen_up : (copy : ℕ) → nat_lt copy t.next ≡ true → nat_lt copy next ≡ true
  seen_up copy h = let a = ltb-true copy t.next h in let c = n.next_up in lt-ltb copy next (omega arith)

  -- with other messages that are distinct and valid the tables are valid
  pub low_is_valid : (ms : List MsgRow) → are_distinct is_same_message ms ≡ true → list_all (is_valid_message low) ms ≡ true → is_valid (record low { messages = ms }) ≡ true
  low_is_valid ms d h =
      let p = parts_of t v in
      let r = six_parts (are_distinct is_same_table t.tables) (are_distinct is_same_queue t.queues) (are_distinct is_same_sub t.subs) (are_distinct is_same_schedule t.schedules) (are_distinct is_same_message t.messages) (are_distinct is_same_seen t.seen) p.rows in
      valid_from (record low { messages = ms }) (record {
        rows = six_from (are_distinct is_same_table t.tables) (are_distinct is_same_queue low.queues) (are_distinct is_same_sub t.subs) (are_distinct is_same_schedule t.schedules) (are_distinct is_same_message ms) (are_distinct is_same_seen t.seen)
            r.0
            (distinct_first is_same_queue (λ q. bytes_eq q.name queue) (lowered t m) (λ x y. ap (λ k. bytes_eq k y.name) (lowered_name t m x)) (λ x y. ap (λ k. bytes_eq x.name k) (lowered_name t m y)) t.queues ∙ r.1)
            r.2 r.3 d r.5;
        numbers = numbers_up p.numbers;
        tables = all_same (is_valid_table t) (is_valid_table low) table_same t.tables p.tables;
        queues = all_changed_first (is_valid_queue low) (λ q. bytes_eq q.name queue) (lowered t m) t.queues (all_weaker (is_valid_queue t) (is_valid_queue low) queue_stays t.queues p.queues) lowered_valid;
        subs = all_same (is_valid_sub t) (is_valid_sub low) sub_same t.subs p.subs;
        schedules = all_same (is_valid_schedule t) (is_valid_schedule low) (λ s. schedule_same s) t.schedules p.schedules;
        messages = h;
        seen = all_weaker (λ s. nat_lt s.copy t.next) (λ s. nat_lt s.copy next) (λ s e. seen_up s.copy e) t.seen p.seen;
      })
