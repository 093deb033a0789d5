-- Validity taken apart and put together.
use Rattle.std.proofs.Common.{◌≡◌, ◌<◌, subst, ◌==◌, ℕ, zero, suc, List, [], ◌∷◌, Bool, true, false, not, take, refl, sym, ap, ◌∙◌, Option, Some, None, ◌&&◌, ◌||◌}
use Rattle.std.specs.Prelude.{find, nat_lt, slice_get}
use Rattle.std.specs.List.{list_any, list_all}
use Rattle.std.proofs.lemmas.Bool.{and_parts, and_from, ltb-true, false≢true}
use Rattle.std.proofs.lemmas.Option.{none-some}
use Rattle.queue_rows.specs.Rows.{find_message, find_queue, find_table, changed_first, changed_nth, removed_first, is_same_table, is_same_queue, is_same_sub, is_same_schedule}
use Rattle.queue_rows.specs.Distinct.{are_distinct}
use Rattle.queue_rows.specs.Valid.{is_valid, has_distinct_rows, has_right_numbers, is_valid_table, is_valid_queue, is_valid_sub, is_valid_schedule, is_valid_message, is_valid_message_at, is_valid_message_in, has_right_ids, is_same_message, is_same_seen}
use Rattle.queue_rows.specs.declared.tables.Tables.{Tables}
use Rattle.queue_rows.specs.declared.rows.MsgRow.{MsgRow}
use Rattle.queue_rows.specs.declared.rows.QueueRow.{QueueRow}
use Rattle.queue_rows.specs.declared.rows.TableRow.{TableRow}
use Rattle.row_laws.specs.RowLaws.{HasDistinctMessages}
use Rattle.row_laws.proofs.Messages.{id_found}
use Rattle.row_laws.proofs.Firsts.{changed_first-yes, changed_first-no, removed_first-yes, removed_first-no}
use Rattle.row_laws.proofs.Finding.{find-yes, find-no}
use Rattle.row_laws.proofs.Slots.{changed_next}

pub and_l : (a b : Bool) → (a && b) ≡ true → a ≡ true
and_l a b h = (and_parts a b h).0

pub and_r : (a b : Bool) → (a && b) ≡ true → b ≡ true
and_r a b h = (and_parts a b h).1

-- ---- the parts of valid tables

pub record ValidParts (t : Tables) : Type 0 where
  pub rows : has_distinct_rows t ≡ true
  pub numbers : has_right_numbers t ≡ true
  pub tables : list_all (is_valid_table t) t.tables ≡ true
  pub queues : list_all (is_valid_queue t) t.queues ≡ true
  pub subs : list_all (is_valid_sub t) t.subs ≡ true
  pub schedules : list_all (is_valid_schedule t) t.schedules ≡ true
  pub messages : list_all (is_valid_message t) t.messages ≡ true
  pub seen : list_all (λ s. nat_lt s.copy t.next) t.seen ≡ true

-- of eight tests joined
eight_parts : (a b c d e f g h : Bool) → (a && b && c && d && e && f && g && h) ≡ true → (a ≡ true) × (b ≡ true) × (c ≡ true) × (d ≡ true) × (e ≡ true) × (f ≡ true) × (g ≡ true) × (h ≡ true)
eight_parts a b c d e f g h v =
    let p7 = and_parts (a && b && c && d && e && f && g) h v in
    let p6 = and_parts (a && b && c && d && e && f) g p7.0 in
    let p5 = and_parts (a && b && c && d && e) f p6.0 in
    let p4 = and_parts (a && b && c && d) e p5.0 in
    let p3 = and_parts (a && b && c) d p4.0 in
    let p2 = and_parts (a && b) c p3.0 in
    let p1 = and_parts a b p2.0 in
    (p1.0, p1.1, p2.1, p3.1, p4.1, p5.1, p6.1, p7.1)

eight_from : (a b c d e f g h : Bool) → a ≡ true → b ≡ true → c ≡ true → d ≡ true → e ≡ true → f ≡ true → g ≡ true → h ≡ true → (a && b && c && d && e && f && g && h) ≡ true
eight_from a b c d e f g h p q r s t u v w = rw (p, q, r, s, t, u, v, w) refl

pub parts_of : (t : Tables) → is_valid t ≡ true → ValidParts t
unfolding is_valid
parts_of t v =
    let p = eight_parts (has_distinct_rows t) (has_right_numbers t) (list_all (is_valid_table t) t.tables) (list_all (is_valid_queue t) t.queues) (list_all (is_valid_sub t) t.subs) (list_all (is_valid_schedule t) t.schedules) (list_all (is_valid_message t) t.messages) (list_all (λ s. nat_lt s.copy t.next) t.seen) v in
    record { rows = p.0; numbers = p.1; tables = p.2; queues = p.3; subs = p.4; schedules = p.5; messages = p.6; seen = p.7 }

pub valid_from : (t : Tables) → ValidParts t → is_valid t ≡ true
unfolding is_valid
valid_from t p =
    eight_from (has_distinct_rows t) (has_right_numbers t) (list_all (is_valid_table t) t.tables) (list_all (is_valid_queue t) t.queues) (list_all (is_valid_sub t) t.subs) (list_all (is_valid_schedule t) t.schedules) (list_all (is_valid_message t) t.messages) (list_all (λ s. nat_lt s.copy t.next) t.seen)
    p.rows p.numbers p.tables p.queues p.subs p.schedules p.messages p.seen

-- ---- what validity gives

valid_rows : (t : Tables) → is_valid t ≡ true → has_distinct_rows t ≡ true
unfolding is_valid
valid_rows t v = search (and_l, and_r) depth 9

distinct_messages : (t : Tables) → has_distinct_rows t ≡ true → HasDistinctMessages t
distinct_messages t v = search (and_l, and_r)

pub valid_distinct : (t : Tables) → is_valid t ≡ true → HasDistinctMessages t
valid_distinct t v = distinct_messages t (valid_rows t v)

pub valid_messages : (t : Tables) → is_valid t ≡ true → list_all (is_valid_message t) t.messages ≡ true
unfolding is_valid
valid_messages t v = search (and_l, and_r)

all_step : {X : Type 0} (q p : X → Bool) (y : X) (ys : List X) (x : X) (b : Bool) → p y ≡ b → list_all q (y ∷ ys) ≡ true → find p (y ∷ ys) ≡ Some x → (list_all q ys ≡ true → find p ys ≡ Some x → q x ≡ true) → q x ≡ true
all_step q p y ys x true g h e ih = let s : Some y ≡ Some x = rw g at e in let same : y ≡ x = cc in ap q (sym same) ∙ (and_parts (q y) (list_all q ys) h).0
all_step q p y ys x false g h e ih = ih (and_parts (q y) (list_all q ys) h).1 (rw g at e)

pub all_found : {X : Type 0} (q p : X → Bool) (xs : List X) (x : X) → list_all q xs ≡ true → find p xs ≡ Some x → q x ≡ true
all_found q p [] x h e = absurd (none-some x e)
all_found q p (y ∷ ys) x h e = all_step q p y ys x (p y) refl h e (λ g f. all_found q p ys x g f)

ids_in : (t : Tables) (queue : QueueRow) (o : Option TableRow) (m : MsgRow) → is_valid_message_in t queue o m ≡ true → has_right_ids t m ≡ true
ids_in t queue None m h = absurd (false≢true h)
ids_in t queue (Some table) m h = search (and_l, and_r)

ids_at : (t : Tables) (o : Option QueueRow) (m : MsgRow) → is_valid_message_at t o m ≡ true → has_right_ids t m ≡ true
ids_at t None m h = absurd (false≢true h)
ids_at t (Some queue) m h = ids_in t queue (find_table t queue.table) m h

id_below : (t : Tables) (m : MsgRow) → has_right_ids t m ≡ true → m.id < t.next
id_below t m h = let e : nat_lt m.id t.next ≡ true = search (and_l, and_r) in ltb-true m.id t.next e

pub valid_id : (t : Tables) (id : ℕ) (m : MsgRow) → is_valid t ≡ true → find_message t id ≡ Some m → id < t.next
valid_id t id m v e =
    let ids : has_right_ids t m ≡ true = ids_at t (find_queue t m.queue) m (all_found (is_valid_message t) (λ r. r.id == id) t.messages m (valid_messages t v) e) in
    let lt : m.id < t.next = id_below t m ids in
    subst (λ n. n < t.next) (id_found t id m e) lt

-- of six tests joined
pub six_parts : (a b c d e f : Bool) → (a && b && c && d && e && f) ≡ true → (a ≡ true) × (b ≡ true) × (c ≡ true) × (d ≡ true) × (e ≡ true) × (f ≡ true)
six_parts a b c d e f v =
    let p5 = and_parts (a && b && c && d && e) f v in
    let p4 = and_parts (a && b && c && d) e p5.0 in
    let p3 = and_parts (a && b && c) d p4.0 in
    let p2 = and_parts (a && b) c p3.0 in
    let p1 = and_parts a b p2.0 in
    (p1.0, p1.1, p2.1, p3.1, p4.1, p5.1)

pub six_from : (a b c d e f : Bool) → a ≡ true → b ≡ true → c ≡ true → d ≡ true → e ≡ true → f ≡ true → (a && b && c && d && e && f) ≡ true
six_from a b c d e f p q r s t u = rw (p, q, r, s, t, u) refl

-- other messages, as distinct
pub distinct_with : (t : Tables) (ms : List MsgRow) → has_distinct_rows t ≡ true → are_distinct is_same_message ms ≡ true → has_distinct_rows (record t { messages = ms }) ≡ true
distinct_with t ms h d =
    let p = six_parts (are_distinct is_same_table t.tables) (are_distinct is_same_queue t.queues) (are_distinct is_same_sub t.subs) (are_distinct is_same_schedule t.schedules) (are_distinct is_same_message t.messages) (are_distinct is_same_seen t.seen) h in
    six_from (are_distinct is_same_table t.tables) (are_distinct is_same_queue t.queues) (are_distinct is_same_sub t.subs) (are_distinct is_same_schedule t.schedules) (are_distinct is_same_message ms) (are_distinct is_same_seen t.seen)
    p.0 p.1 p.2 p.3 d p.5

-- Where the catalogue and the numbers stay, other messages that are distinct and valid make valid tables.
pub valid_with_messages : (t : Tables) (ms : List MsgRow) → is_valid t ≡ true → are_distinct is_same_message ms ≡ true → list_all (is_valid_message t) ms ≡ true → is_valid (record t { messages = ms }) ≡ true
valid_with_messages t ms v d h =
    let p = parts_of t v in
    valid_from (record t { messages = ms }) (record { rows = distinct_with t ms p.rows d; numbers = p.numbers; tables = p.tables; queues = p.queues; subs = p.subs; schedules = p.schedules; messages = h; seen = p.seen })

-- ---- tests of all items

module _ {X : Type 0} (q : X → Bool) where
  all_first_step : (p : X → Bool) (g : X → X) (x : X) (xs : List X) (b : Bool) → p x ≡ b → list_all q (x ∷ xs) ≡ true → ((y : X) → find p (x ∷ xs) ≡ Some y → q y ≡ true → q (g y) ≡ true)
      → (list_all q xs ≡ true → ((y : X) → find p xs ≡ Some y → q y ≡ true → q (g y) ≡ true) → list_all q (changed_first p g xs) ≡ true) → list_all q (changed_first p g (x ∷ xs)) ≡ true
  all_first_step p g x xs true e h k ih =
      let parts = and_parts (q x) (list_all q xs) h in
      ap (list_all q) (changed_first-yes p g x xs e) ∙ and_from (q (g x)) (list_all q xs) (k x (find-yes p x xs e) parts.0) parts.1
  all_first_step p g x xs false e h k ih =
      let parts = and_parts (q x) (list_all q xs) h in
      ap (list_all q) (changed_first-no p g x xs e) ∙ and_from (q x) (list_all q (changed_first p g xs)) parts.0 (ih parts.1 (λ y f. k y (find-no p x xs e ∙ f)))

  pub all_changed_first : (p : X → Bool) (g : X → X) (xs : List X) → list_all q xs ≡ true → ((y : X) → find p xs ≡ Some y → q y ≡ true → q (g y) ≡ true) → list_all q (changed_first p g xs) ≡ true
  all_changed_first p g [] h k = refl
  all_changed_first p g (x ∷ xs) h k = all_first_step p g x xs (p x) refl h k (all_changed_first p g xs)

  all_removed_step : (p : X → Bool) (x : X) (xs : List X) (b : Bool) → p x ≡ b → list_all q (x ∷ xs) ≡ true → (list_all q xs ≡ true → list_all q (removed_first p xs) ≡ true) → list_all q (removed_first p (x ∷ xs)) ≡ true
  all_removed_step p x xs true e h ih = ap (list_all q) (removed_first-yes p x xs e) ∙ (and_parts (q x) (list_all q xs) h).1
  all_removed_step p x xs false e h ih =
      let parts = and_parts (q x) (list_all q xs) h in ap (list_all q) (removed_first-no p x xs e) ∙ and_from (q x) (list_all q (removed_first p xs)) parts.0 (ih parts.1)

  pub all_removed_first : (p : X → Bool) (xs : List X) → list_all q xs ≡ true → list_all q (removed_first p xs) ≡ true
  all_removed_first p [] h = refl
  all_removed_first p (x ∷ xs) h = all_removed_step p x xs (p x) refl h (all_removed_first p xs)

  pub all_weaker : (r : X → Bool) → ((x : X) → q x ≡ true → r x ≡ true) → (xs : List X) → list_all q xs ≡ true → list_all r xs ≡ true
  all_weaker r k [] h = refl
  all_weaker r k (x ∷ xs) h = let parts = and_parts (q x) (list_all q xs) h in and_from (r x) (list_all r xs) (k x parts.0) (all_weaker r k xs parts.1)

  pub all_nth : (f : X → X) (xs : List X) (i : ℕ) → list_all q xs ≡ true → ((x : X) → slice_get xs i ≡ Some x → q (f x) ≡ true) → list_all q (changed_nth f i xs) ≡ true
  all_nth f [] i h k = refl
  all_nth f (x ∷ xs) zero h k = and_from (q (f x)) (list_all q xs) (k x refl) (and_parts (q x) (list_all q xs) h).1
  all_nth f (x ∷ xs) (suc i) h k =
      let parts = and_parts (q x) (list_all q xs) h in ap (list_all q) (changed_next f x xs i) ∙ and_from (q x) (list_all q (changed_nth f i xs)) parts.0 (all_nth f xs i parts.1 k)

  pub any_nth : (f : X → X) → ((x : X) → q (f x) ≡ q x) → (xs : List X) (i : ℕ) → list_any q (changed_nth f i xs) ≡ list_any q xs
  any_nth f k [] i = refl
  any_nth f k (x ∷ xs) zero = ap (λ b. b || list_any q xs) (k x)
  any_nth f k (x ∷ xs) (suc i) = ap (list_any q) (changed_next f x xs i) ∙ ap (λ b. q x || b) (any_nth f k xs i)

module _ {X : Type 0} (same : X → X → Bool) (f : X → X) (left : (x y : X) → same (f x) y ≡ same x y) (right : (x y : X) → same x (f y) ≡ same x y) where
  any_left : (x : X) (xs : List X) → list_any (same (f x)) xs ≡ list_any (same x) xs
  any_left x [] = refl
  any_left x (y ∷ ys) = ap (λ b. b || list_any (same (f x)) ys) (left x y) ∙ ap (λ b. same x y || b) (any_left x ys)

  pub distinct_nth : (xs : List X) (i : ℕ) → are_distinct same (changed_nth f i xs) ≡ are_distinct same xs
  distinct_nth [] i = refl
  distinct_nth (x ∷ xs) zero = ap (λ b. not b && are_distinct same xs) (any_left x xs)
  distinct_nth (x ∷ xs) (suc i) =
      ap (are_distinct same) (changed_next f x xs i)
      ∙ ap (λ b. not b && are_distinct same (changed_nth f i xs)) (any_nth (same x) f (right x) xs i)
      ∙ ap (λ b. not (list_any (same x) xs) && b) (distinct_nth xs i)

module _ {X : Type 0} (f : X → X) where
  pub take_changed : (n : ℕ) (xs : List X) (i : ℕ) → take n (changed_nth f i xs) ≡ changed_nth f i (take n xs)
  take_changed zero xs i = refl
  take_changed (suc n) [] i = refl
  take_changed (suc n) (x ∷ xs) zero = refl
  take_changed (suc n) (x ∷ xs) (suc i) = ap (take (suc n)) (changed_next f x xs i) ∙ ap (λ ys. x ∷ ys) (take_changed n xs i) ∙ sym (changed_next f x (take n xs) i)

  pub changed_past : (xs : List X) (i : ℕ) → slice_get xs i ≡ None → changed_nth f i xs ≡ xs
  changed_past [] i h = refl
  changed_past (x ∷ xs) zero h = absurd (none-some x (sym h))
  changed_past (x ∷ xs) (suc i) h = changed_next f x xs i ∙ ap (λ ys. x ∷ ys) (changed_past xs i h)

  pub past_take : (n : ℕ) (xs : List X) → slice_get (take n xs) n ≡ None
  past_take zero xs = refl
  past_take (suc n) [] = refl
  past_take (suc n) (x ∷ xs) = past_take n xs

  pub get_of_take : (n : ℕ) (xs : List X) (i : ℕ) (x : X) → slice_get (take n xs) i ≡ Some x → slice_get xs i ≡ Some x
  get_of_take zero xs i x h = absurd (none-some x h)
  get_of_take (suc n) [] i x h = h
  get_of_take (suc n) (y ∷ ys) zero x h = h
  get_of_take (suc n) (y ∷ ys) (suc i) x h = get_of_take n ys i x h
