-- An addition as its commit puts it in: its place, its lane and its slots are right.
use Rattle.std.proofs.Common.{◌≡◌, ◌≤◌, ◌+◌, ◌-◌, ◌^◌, ℕ, zero, suc, List, [], ◌∷◌, ◌++◌, Bool, true, false, not, length, take, max, refl, ap, ◌∙◌, arith, Some, ◌==◌, ◌&&◌, ◌||◌, ℤ, length-append}
use Rattle.std.specs.Prelude.{map, nat_le, nat_lt, slice_get, is_some, is_none, pos, negsuc, neg_ℤ, ◌-ℤ◌, int_le, int_lt, if◌then◌else◌}
use Rattle.std.specs.List.{list_any, list_all}
use Rattle.std.specs.Option.{option_map_or}
use Rattle.std.specs.Ordering.{int_cmp, is_eq}
use Rattle.std.proofs.lemmas.Bool.{eqb-true, and_parts, and_from, le-leb, leb-true, or_left, or_right, false≢true}
use Rattle.std.proofs.lemmas.Cmp.{tied_itself, int_cmp_total}
use Rattle.std.proofs.lemmas.List.{length-map}
use Rattle.std.proofs.lemmas.Int.{ints}
use Rattle.place_keys.specs.Place.{last_number}
use Rattle.place_keys.specs.declared.place.TheConstants.{BEFORE_LIMIT}
use Rattle.place_keys.specs.declared.sort_list.Column.{Column}
use Rattle.aq_base.specs.declared.limits.TheConstants.{RECIPIENT_LIMIT}
use Rattle.queue_rows.specs.Rows.{recipient_count, recipient_slots}
use Rattle.queue_rows.specs.Tables.{lane_of, min_int}
use Rattle.queue_rows.specs.Settling.{is_open}
use Rattle.queue_rows.specs.Session.{is_same_consumer}
use Rattle.queue_rows.specs.Distinct.{are_distinct}
use Rattle.queue_rows.specs.Commits.{column_value, place_of, has_before, lane_at_commit, place_at_commit, slot_at_commit}
use Rattle.queue_rows.specs.Valid.{is_waiting, has_right_place, has_right_slots, has_right_recipients, has_right_names, is_nameless, is_same_recipient, is_right_if_moved, has_right_retries, has_allowed_retries, has_begun}
use Rattle.queue_rows.specs.declared.tables.Tables.{Tables}
use Rattle.queue_rows.specs.declared.rows.TableRow.{TableRow}
use Rattle.queue_rows.specs.declared.rows.QueueRow.{QueueRow}
use Rattle.queue_rows.specs.declared.rows.MsgRow.{MsgRow}
use Rattle.queue_rows.specs.declared.rows.SlotRow.{SlotRow}
use Rattle.row_laws.proofs.Slots.{get_behind}
use Rattle.valid_laws.specs.PendingLaws.{is_untried, depth_of}
use Rattle.valid_laws.proofs.Parts.{six_from}

-- ---- depths of lanes

pub depth_le : (a b : ℤ) → int_le a b ≡ true → depth_of b ≤ depth_of a
depth_le (pos a) (pos b) h = omega arith
depth_le (pos a) (negsuc b) h = absurd (false≢true h)
depth_le (negsuc a) (pos b) h = omega arith
depth_le (negsuc a) (negsuc b) h = let x = leb-true b a h in omega arith

pub depth_within : (n : ℕ) (z : ℤ) → depth_of z ≤ n → int_le (neg_ℤ (pos n)) z ≡ true
depth_within zero (pos k) h = le-leb 0 k (omega arith)
depth_within zero (negsuc k) h = absurd (let no : k + 1 ≤ 0 = h in omega arith)
depth_within (suc n) (pos k) h = refl
depth_within (suc n) (negsuc k) h = let g : k + 1 ≤ suc n = h in le-leb k n (omega arith)

pub depth_known : (n : ℕ) (z : ℤ) → int_le (neg_ℤ (pos n)) z ≡ true → depth_of z ≤ n
depth_known zero (pos k) h = omega arith
depth_known zero (negsuc k) h = absurd (false≢true h)
depth_known (suc n) (pos k) h = omega arith
depth_known (suc n) (negsuc k) h = let x = leb-true k n h in omega arith

depth_if : (a b : ℤ) (t : Bool) → depth_of (if t then a else b) ≤ max (depth_of a) (depth_of b)
depth_if a b true = omega arith
depth_if a b false = omega arith

pub depth_min : (a b : ℤ) → depth_of (min_int a b) ≤ max (depth_of a) (depth_of b)
depth_min a b = depth_if a b (int_lt a b)

minus_one : (k : ℕ) → negsuc k -ℤ pos 1 ≡ negsuc (k + 1)
minus_one k = omega (arith, ints)

depth_below : (z : ℤ) → int_le z (pos 0) ≡ true → depth_of (z -ℤ pos 1) ≤ depth_of z + 1
depth_below (pos zero) h = let e : pos 0 -ℤ pos 1 ≡ negsuc 0 = refl in omega (arith, ap depth_of e)
depth_below (pos (suc n)) h = absurd (let x : suc n ≤ 0 = leb-true (suc n) 0 h in omega arith)
depth_below (negsuc k) h = omega (arith, ap depth_of (minus_one k))

-- ---- its lane is at most one below the queue's lowest

top_lane : (queue : QueueRow) (b : Bool) → int_le queue.lowest (pos 0) ≡ true → depth_of (if b then queue.lowest -ℤ pos 1 else pos 0) ≤ depth_of queue.lowest + 1
top_lane queue true h = depth_below queue.lowest h
top_lane queue false h = omega arith

lane_by : (group : ℕ) (place : List ℤ) (queue : QueueRow) (b : Bool) → int_le queue.lowest (pos 0) ≡ true
    → depth_of (if b then pos group else (if int_lt (lane_of place) (pos 0) then queue.lowest -ℤ pos 1 else pos 0)) ≤ depth_of queue.lowest + 1
lane_by group place queue true h = omega arith
lane_by group place queue false h = top_lane queue (int_lt (lane_of place) (pos 0)) h

lane_if : (table : TableRow) (queue : QueueRow) (group moment : ℕ) (m : MsgRow) (b : Bool) → has_before table.columns m.place ≡ b → int_le queue.lowest (pos 0) ≡ true
    → (has_before table.columns m.place ≡ true → int_le queue.lowest (lane_of m.place) ≡ true)
    → depth_of (lane_of (if b then m.place else place_of (lane_at_commit table queue group m.place) table.columns m.facts.priority m.enq moment m.id)) ≤ depth_of queue.lowest + 1
lane_if table queue group moment m true e h k = let x = depth_le queue.lowest (lane_of m.place) (k e) in omega (arith, x)
lane_if table queue group moment m false e h k = lane_by group m.place queue table.grouped h

pub lane_depth : (table : TableRow) (queue : QueueRow) (group moment : ℕ) (m : MsgRow) → int_le queue.lowest (pos 0) ≡ true → (has_before table.columns m.place ≡ true → int_le queue.lowest (lane_of m.place) ≡ true)
    → depth_of (lane_of (place_at_commit table queue group moment m)) ≤ depth_of queue.lowest + 1
lane_depth table queue group moment m h k = lane_if table queue group moment m (has_before table.columns m.place) refl h k

-- ---- its place

last_of : (xs : List ℤ) (z : ℤ) → last_number (xs ++ z ∷ []) ≡ Some z
last_of xs z =
    let n : length (xs ++ z ∷ []) - 1 ≡ length xs = rw length-append (omega arith) in
    ap (slice_get (xs ++ z ∷ [])) n ∙ get_behind (λ (k : ℤ). k) xs z

place_length : (lane : ℤ) (sort : List Column) (p : ℤ) (e c id : ℕ) → length (place_of lane sort p e c id) ≡ length sort + 2
place_length lane sort p e c id =
    let f : Column → ℤ = column_value p e c in
    let a : length (map f sort ++ pos id ∷ []) ≡ length (map f sort) + 1 = length-append (map f sort) (pos id ∷ []) in
    let b : length (map f sort) ≡ length sort = length-map sort f in
    let g : length (place_of lane sort p e c id) ≡ suc (length (map f sort ++ pos id ∷ [])) = refl in
    omega (arith, a, b, g)

is_self : (id : ℕ) → is_eq (int_cmp (pos id) (pos id)) ≡ true
is_self id = ap is_eq (tied_itself int_cmp_total (pos id))

right_of : (n k id : ℕ) (place : List ℤ) → length place ≡ n + 2 → last_number place ≡ Some (pos id) → n + 2 ≤ k
    → (nat_le (n + 2) (length place) && nat_le (length place) k && option_map_or (λ last. is_eq (int_cmp last (pos id))) (last_number place) false) ≡ true
right_of n k id place e l le =
    and_from (nat_le (n + 2) (length place) && nat_le (length place) k) (option_map_or (λ last. is_eq (int_cmp last (pos id))) (last_number place) false)
    (and_from (nat_le (n + 2) (length place)) (nat_le (length place) k) (le-leb (n + 2) (length place) (omega (arith, e))) (le-leb (length place) k (omega (arith, e, le))))
    (ap (λ o. option_map_or (λ last. is_eq (int_cmp last (pos id))) o false) l ∙ is_self id)

-- the message with that place
abbrev placed : MsgRow → List ℤ → MsgRow
placed m place = record m { place = place }

place_of_right : (table : TableRow) (lane : ℤ) (moment : ℕ) (m : MsgRow) → has_right_place table (placed m (place_of lane table.columns m.facts.priority m.enq moment m.id)) ≡ true
place_of_right table lane moment m =
    let f : Column → ℤ = column_value m.facts.priority m.enq moment in
    right_of (length table.columns) (length table.columns + 2 + BEFORE_LIMIT) m.id (place_of lane table.columns m.facts.priority m.enq moment m.id)
    (place_length lane table.columns m.facts.priority m.enq moment m.id) (last_of (lane ∷ map f table.columns) (pos m.id)) (omega arith)

place_if : (table : TableRow) (lane : ℤ) (moment : ℕ) (m : MsgRow) (b : Bool) → has_right_place table m ≡ true
    → has_right_place table (placed m (if b then m.place else place_of lane table.columns m.facts.priority m.enq moment m.id)) ≡ true
place_if table lane moment m true h = h
place_if table lane moment m false h = place_of_right table lane moment m

-- any message whose place is that of a commit
pub placed_right : (table : TableRow) (lane : ℤ) (moment : ℕ) (m : MsgRow) → has_right_place table (placed m (place_of lane table.columns m.facts.priority m.enq moment m.id)) ≡ true
placed_right table lane moment m = place_of_right table lane moment m

pub place_right : (table : TableRow) (queue : QueueRow) (group moment : ℕ) (m : MsgRow) → has_right_place table m ≡ true → has_right_place table (placed m (place_at_commit table queue group moment m)) ≡ true
place_right table queue group moment m h = place_if table (lane_at_commit table queue group m.place) moment m (has_before table.columns m.place) h

-- ---- its slots

module _ {X : Type 0} (f : X → X) where
  take_map : (n : ℕ) (xs : List X) → take n (map f xs) ≡ map f (take n xs)
  take_map zero xs = refl
  take_map (suc n) [] = refl
  take_map (suc n) (x ∷ xs) = ap (λ ys. f x ∷ ys) (take_map n xs)

  all_map : (q r : X → Bool) → ((x : X) → q x ≡ true → r (f x) ≡ true) → (xs : List X) → list_all q xs ≡ true → list_all r (map f xs) ≡ true
  all_map q r k [] h = refl
  all_map q r k (x ∷ xs) h = let p = and_parts (q x) (list_all q xs) h in and_from (r (f x)) (list_all r (map f xs)) (k x p.0) (all_map q r k xs p.1)

  all_take : (q : X → Bool) (n : ℕ) (xs : List X) → list_all q xs ≡ true → list_all q (take n xs) ≡ true
  all_take q zero xs h = refl
  all_take q (suc n) [] h = refl
  all_take q (suc n) (x ∷ xs) h = let p = and_parts (q x) (list_all q xs) h in and_from (q x) (list_all q (take n xs)) p.0 (all_take q n xs p.1)

  any_map : (same : X → X → Bool) → ((x y : X) → same (f x) (f y) ≡ same x y) → (x : X) (xs : List X) → list_any (same (f x)) (map f xs) ≡ list_any (same x) xs
  any_map same k x [] = refl
  any_map same k x (y ∷ ys) = ap (λ b. b || list_any (same (f x)) (map f ys)) (k x y) ∙ ap (λ b. same x y || b) (any_map same k x ys)

  distinct_map : (same : X → X → Bool) → ((x y : X) → same (f x) (f y) ≡ same x y) → (xs : List X) → are_distinct same (map f xs) ≡ are_distinct same xs
  distinct_map same k [] = refl
  distinct_map same k (x ∷ xs) = ap (λ b. not b && are_distinct same (map f xs)) (any_map same k x xs) ∙ ap (λ b. not (list_any (same x) xs) && b) (distinct_map same k xs)

name_if : (moment : ℕ) (s : SlotRow) (b : Bool) → (if b then s else record s { state = Rattle.queue_rows.specs.declared.rows.SlotState.TheVariants.Ready; at = moment }).name ≡ s.name
name_if moment s true = refl
name_if moment s false = refl

name_stays : (moment : ℕ) (s : SlotRow) → (slot_at_commit moment s).name ≡ s.name
name_stays moment s = name_if moment s (nat_lt moment s.at)

address_if : (moment : ℕ) (s : SlotRow) (b : Bool) → (if b then s else record s { state = Rattle.queue_rows.specs.declared.rows.SlotState.TheVariants.Ready; at = moment }).address ≡ s.address
address_if moment s true = refl
address_if moment s false = refl

address_stays : (moment : ℕ) (s : SlotRow) → (slot_at_commit moment s).address ≡ s.address
address_stays moment s = address_if moment s (nat_lt moment s.at)

retries_if : (moment : ℕ) (s : SlotRow) (b : Bool) → (if b then s else record s { state = Rattle.queue_rows.specs.declared.rows.SlotState.TheVariants.Ready; at = moment }).retries ≡ s.retries
retries_if moment s true = refl
retries_if moment s false = refl

untried_none : (s : SlotRow) → is_untried s ≡ true → s.retries ≡ 0
untried_none s h = eqb-true s.retries 0 (and_parts (is_waiting s.state) (s.retries == 0) h).1

retries_none : (moment : ℕ) (s : SlotRow) → is_untried s ≡ true → (slot_at_commit moment s).retries ≡ 0
retries_none moment s h = retries_if moment s (nat_lt moment s.at) ∙ untried_none s h

begun_if : (moment : ℕ) (s : SlotRow) (b : Bool) → is_untried s ≡ true → has_begun moment (if b then s else record s { state = Rattle.queue_rows.specs.declared.rows.SlotState.TheVariants.Ready; at = moment }) ≡ true
begun_if moment s true h = or_left (is_waiting s.state) (nat_le s.at moment) (and_parts (is_waiting s.state) (s.retries == 0) h).0
begun_if moment s false h = le-leb moment moment (omega arith)

begun_by : (moment : ℕ) (s : SlotRow) → is_untried s ≡ true → has_begun moment (slot_at_commit moment s) ≡ true
begun_by moment s h = begun_if moment s (nat_lt moment s.at) h

same_recipient : (moment : ℕ) (x y : SlotRow) → is_same_recipient (slot_at_commit moment x) (slot_at_commit moment y) ≡ is_same_recipient x y
same_recipient moment x y =
    ap (λ n. is_same_consumer n (slot_at_commit moment y).name && is_same_consumer (slot_at_commit moment x).address (slot_at_commit moment y).address) (name_stays moment x)
    ∙ ap (λ n. is_same_consumer x.name n && is_same_consumer (slot_at_commit moment x).address (slot_at_commit moment y).address) (name_stays moment y)
    ∙ ap (λ a. is_same_consumer x.name y.name && is_same_consumer a (slot_at_commit moment y).address) (address_stays moment x)
    ∙ ap (λ a. is_same_consumer x.name y.name && is_same_consumer x.address a) (address_stays moment y)

module _ (t : Tables) (table : TableRow) (queue : QueueRow) (group moment : ℕ) (m : MsgRow) where
  abbrev pub row : MsgRow
  row = record m { place = place_at_commit table queue group moment m; group = group; slots = map (slot_at_commit moment) m.slots }

  count_same : recipient_count row ≡ recipient_count m
  count_same = ap (λ n. if m.moved then n - 1 else n) (length-map m.slots (slot_at_commit moment))

  slots_same : recipient_slots row ≡ map (slot_at_commit moment) (recipient_slots m)
  slots_same = ap (λ n. take n (map (slot_at_commit moment) m.slots)) count_same ∙ take_map (slot_at_commit moment) (recipient_count m) m.slots

  recipients_right : has_right_recipients m ≡ true → has_right_recipients row ≡ true
  recipients_right h =
      ap (λ n. nat_le 1 n && nat_le n RECIPIENT_LIMIT && are_distinct is_same_recipient (recipient_slots row)) count_same
      ∙ ap (λ xs. nat_le 1 (recipient_count m) && nat_le (recipient_count m) RECIPIENT_LIMIT && are_distinct is_same_recipient xs) slots_same
      ∙ ap (λ b. nat_le 1 (recipient_count m) && nat_le (recipient_count m) RECIPIENT_LIMIT && b) (distinct_map (slot_at_commit moment) is_same_recipient (same_recipient moment) (recipient_slots m))
      ∙ h

  nameless_stays : (s : SlotRow) → is_nameless s ≡ true → is_nameless (slot_at_commit moment s) ≡ true
  nameless_stays s h = ap (λ n. is_none n && is_none (slot_at_commit moment s).address) (name_stays moment s) ∙ ap (λ a. is_none s.name && is_none a) (address_stays moment s) ∙ h

  names_by : (b : Bool) → (if b then list_all (λ s. is_some s.name) (recipient_slots m) else list_all is_nameless m.slots) ≡ true
      → (if b then list_all (λ s. is_some s.name) (recipient_slots row) else list_all is_nameless (map (slot_at_commit moment) m.slots)) ≡ true
  names_by true h = ap (list_all (λ s. is_some s.name)) slots_same ∙ all_map (slot_at_commit moment) (λ s. is_some s.name) (λ s. is_some s.name) (λ s e. ap is_some (name_stays moment s) ∙ e) (recipient_slots m) h
  names_by false h = all_map (slot_at_commit moment) is_nameless is_nameless nameless_stays m.slots h

  pub slots_right : m.moved ≡ false → has_right_recipients m ≡ true → has_right_names table m ≡ true → list_all is_untried m.slots ≡ true → t.latest ≡ moment → has_right_slots t table queue row ≡ true
  slots_right u rec nam un lat =
      six_from (has_right_recipients row) (has_right_names table row) (is_right_if_moved row) (list_all has_right_retries row.slots) (list_all (has_allowed_retries queue) (recipient_slots row)) (list_all (has_begun t.latest) row.slots)
      (recipients_right rec) (names_by table.multi nam) (rw u refl)
      (all_map (slot_at_commit moment) is_untried has_right_retries (λ s e. ap (λ n. nat_le n (2 ^ 31)) (retries_none moment s e)) m.slots un)
      (ap (list_all (has_allowed_retries queue)) slots_same
      ∙ all_map (slot_at_commit moment) is_untried (has_allowed_retries queue)
      (λ s e. or_right (not (is_open (slot_at_commit moment s).state)) (nat_le (slot_at_commit moment s).retries queue.max_retries) (ap (λ n. nat_le n queue.max_retries) (retries_none moment s e) ∙ le-leb 0 queue.max_retries (omega arith)))
      (recipient_slots m) (all_take (λ s. s) is_untried (recipient_count m) m.slots un))
      (all_map (slot_at_commit moment) is_untried (has_begun t.latest) (λ s e. ap (λ n. has_begun n (slot_at_commit moment s)) lat ∙ begun_by moment s e) m.slots un)
