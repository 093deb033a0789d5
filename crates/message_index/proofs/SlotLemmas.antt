-- How many slots a change can add to the messages of a number.
use Rattle.std.proofs.Common.{◌≡◌, ℕ, zero, suc, ◌+◌, ◌<◌, ◌≤◌, ◌==◌, List, [], ◌∷◌, length, length-append, take, drop, get_or, Bool, true, false, cond, not, filter, Option, Some, None, refl, ap, ◌∙◌, arith}
use Rattle.std.specs.Prelude.{count_by, find, position, slice_get, sum_by, is_some, if◌then◌else◌}
use Rattle.std.specs.Option.{option_map_or}
use Rattle.std.specs.Str.{bytes_eq}
use Rattle.std.proofs.lemmas.Bool.{eqb-true}
use Rattle.std.proofs.lemmas.List.{length-set}
use Rattle.std.proofs.lemmas.List.Filters.{sum_by-filter_both}
use Rattle.std.proofs.lemmas.List.Sums.{sum_by-cons, sum_by_push, sum_by-append, sum_by-take-drop, sum_by-set}
use Rattle.std.proofs.lemmas.Option.{get_or_from_slice_get, slice_get_within}
use Rattle.queue_rows.specs.Rows.{find_table, find_queue, find_message, set_some, changed_some, changed_nth, changed_at, changed_first, removed_at, has_slot, slot_index, with_slot}
use Rattle.queue_rows.specs.Tables.{after_change, slot_zero, moved_to, move_in, move_some, drop_queue, drop_table, in_state, retried}
use Rattle.queue_rows.specs.declared.tables.Tables.{Tables}
use Rattle.queue_rows.specs.declared.rows.MsgRow.{MsgRow}
use Rattle.queue_rows.specs.declared.rows.SlotRow.{SlotRow}
use Rattle.queue_rows.specs.declared.rows.SlotState.TheVariants as states
use Rattle.queue_rows.specs.declared.change.Change.{Change}
use Rattle.queue_rows.specs.declared.change.Change.TheVariants as changes
use Rattle.message_index.specs.SlotRooms.{slots_of, slots_added}
use Rattle.open_rows.proofs.FindLemmas.{find-passes, find-at_position}
use Rattle.message_index.proofs.FoundLemmas.{found_has_id}

abbrev pub one_if : Bool → ℕ
one_if b = cond b 1 0

abbrev or_none : Bool → ℕ → ℕ
or_none b n = cond b n 0

-- the slots of one message, where it has the number
abbrev slots_if : ℕ → MsgRow → ℕ
slots_if id m = cond (m.id == id) (length m.slots) 0

module _ {X : Type 0} where
  set_more : (f : X → ℕ) (g : X → X) (k : ℕ) (xs : List X) (i : ℕ) (o : Option X) → ((x : X) → o ≡ Some x → f (g x) ≤ f x + k) → slice_get xs i ≡ o
      → sum_by f (set_some xs i (changed_some g o)) ≤ sum_by f xs + k
  set_more f g k xs i None h e = omega arith
  set_more f g k xs i (Some x) h e =
      let below : i < length xs = slice_get_within xs i x e in
      let there : f (get_or xs i x) ≡ f x = ap f (get_or_from_slice_get xs i x x e) in
      omega (arith, sum_by-set f xs i (g x) x below, there, h x refl)

  at_more : (p : X → Bool) (f : X → ℕ) (g : X → X) (k : ℕ) (xs : List X) (o : Option ℕ) → ((x : X) → p x ≡ true → f (g x) ≤ f x + k) → position p xs ≡ o
      → sum_by f (changed_at g o xs) ≤ sum_by f xs + k
  at_more p f g k xs None h e = omega arith
  at_more p f g k xs (Some i) h e =
      set_more f g k xs i (slice_get xs i) (λ x is. h x (find-passes p xs x (find-at_position p xs i e ∙ is))) refl

  -- where the first element that passes is changed, a sum grows by no more than its term can
  first_more : (p : X → Bool) (f : X → ℕ) (g : X → X) (k : ℕ) → ((x : X) → p x ≡ true → f (g x) ≤ f x + k) → (xs : List X) → sum_by f (changed_first p g xs) ≤ sum_by f xs + k
  first_more p f g k h xs = at_more p f g k xs (position p xs) h refl

  fewer : (f : X → ℕ) (i : ℕ) (xs : List X) → sum_by f (drop (suc i) xs) ≤ sum_by f (drop i xs)
  fewer f zero [] = omega arith
  fewer f (suc i) [] = omega arith
  fewer f zero (x ∷ xs) = omega (arith, sum_by-cons f x xs)
  fewer f (suc i) (x ∷ xs) = fewer f i xs

  without_one : (f : X → ℕ) (xs : List X) (o : Option ℕ) → sum_by f (removed_at xs o) ≤ sum_by f xs
  without_one f xs None = omega arith
  without_one f xs (Some i) = omega (arith, sum_by-append f (take i xs) (drop (suc i) xs), sum_by-take-drop f xs i, fewer f i xs)

  length_set_some : (xs : List X) (i : ℕ) (o : Option X) → length (set_some xs i o) ≡ length xs
  length_set_some xs i None = refl
  length_set_some xs i (Some x) = length-set xs i x

  filtered : (p : X → Bool) (f : X → ℕ) (xs : List X) → sum_by f (filter p xs) ≤ sum_by f xs
  filtered p f xs = omega (arith, sum_by-filter_both p (λ x. not (p x)) (λ x. refl) f xs)

cond_more : (b : Bool) (x y k : ℕ) → x ≤ y + k → cond b x 0 ≤ cond b y 0 + k
cond_more true x y k h = h
cond_more false x y k h = omega arith

one_more : (b : Bool) (x : ℕ) → or_none b (x + 1) ≤ or_none b x + one_if b
one_more true x = omega arith
one_more false x = omega arith

-- a slot is changed, and none is added
length_if : (b : Bool) (xs ys : List SlotRow) → length xs ≡ length ys → length (if b then xs else ys) ≡ length ys
length_if true xs ys e = e
length_if false xs ys e = refl

same_slots : (id slot : ℕ) (g : SlotRow → SlotRow) (m : MsgRow) → slots_if id (with_slot slot g m) ≤ slots_if id m + 0
same_slots id slot g m =
    let changed : length (changed_nth g (slot_index m slot) m.slots) ≡ length m.slots = length_set_some m.slots (slot_index m slot) (changed_some g (slice_get m.slots (slot_index m slot))) in
    let same : length (with_slot slot g m).slots ≡ length m.slots = length_if (has_slot m slot) (changed_nth g (slot_index m slot) m.slots) m.slots changed in
    cond_more (m.id == id) _ (length m.slots) 0 (omega (arith, same))

slot_changed : (id changed slot : ℕ) (g : SlotRow → SlotRow) (ms : List MsgRow) → slots_of id (changed_first (λ m. m.id == changed) (with_slot slot g) ms) ≤ slots_of id ms + 0
slot_changed id changed slot g ms = first_more (λ m. m.id == changed) (slots_if id) (with_slot slot g) 0 (λ m is. same_slots id slot g m) ms

-- slot 0 is added
moved_slots : (id at : ℕ) (queue : List ℕ) (m : MsgRow) → slots_if id (moved_to queue at m) ≤ slots_if id m + one_if (m.id == id)
moved_slots id at queue m = omega (arith, one_more (m.id == id) (length m.slots), ap (or_none (m.id == id)) (length-append m.slots (slot_zero m.slots at ∷ [])))

-- where a test chooses, no more than in either case
no_more_if : {X : Type 0} (f : X → ℕ) (b : Bool) (x y : X) (n : ℕ) → f x ≤ n → f y ≤ n → f (if b then x else y) ≤ n
no_more_if f true x y n h k = h
no_more_if f false x y n h k = k

moved_in : (t : Tables) (id moved at : ℕ) (queue : List ℕ) (m : MsgRow) → m.id ≡ moved
    → slots_of id (move_in t m queue at).messages ≤ slots_of id t.messages + one_if (moved == id)
moved_in t id moved at queue m has_it =
    first_more (λ r. r.id == m.id) (slots_if id) (moved_to queue at) (one_if (moved == id))
    (λ r is. let same : r.id ≡ moved = eqb-true r.id m.id is ∙ has_it in
    omega (arith, moved_slots id at queue r, ap (λ (n : ℕ). one_if (n == id)) same)) t.messages

moved_more : (t : Tables) (id moved at : ℕ) (queue : List ℕ) (o : Option MsgRow) → find_message t moved ≡ o
    → slots_of id (move_some t o queue at).messages ≤ slots_of id t.messages + one_if (moved == id)
moved_more t id moved at queue None e = omega arith
moved_more t id moved at queue (Some m) e =
    no_more_if (λ u. slots_of id u.messages) (is_some (find_queue t queue)) (move_in t m queue at) t (slots_of id t.messages + one_if (moved == id))
    (moved_in t id moved at queue m (found_has_id t.messages moved m e)) (omega arith)

-- no change adds more slots than it says
pub slots_after : (id : ℕ) (t : Tables) (c : Change) → slots_of id (after_change t c).messages ≤ slots_of id t.messages + slots_added id c
slots_after id t (changes.DropQueue name) =
    no_more_if (λ u. slots_of id u.messages) (is_some (find_queue t name)) (drop_queue t name) t (slots_of id t.messages + 0)
    (omega (arith, filtered (λ m. not (bytes_eq m.queue name)) (slots_if id) t.messages)) (omega arith)
slots_after id t (changes.DropTable name) =
    no_more_if (λ u. slots_of id u.messages) (is_some (find_table t name)) (drop_table t name) t (slots_of id t.messages + 0) (omega arith) (omega arith)
slots_after id t (changes.Enqueued row) = omega (arith, sum_by_push (slots_if id) t.messages row)
slots_after id t (changes.Retried k slot retries until at) = slot_changed id k slot (retried retries until at) t.messages
slots_after id t (changes.Ready k slot at) = slot_changed id k slot (in_state states.Ready at) t.messages
slots_after id t (changes.Done k slot at) = slot_changed id k slot (in_state states.Processed at) t.messages
slots_after id t (changes.Expired k slot at) = slot_changed id k slot (in_state states.Expired at) t.messages
slots_after id t (changes.Dropped k slot at) = slot_changed id k slot (in_state states.Dropped at) t.messages
slots_after id t (changes.Moved k queue at) = moved_more t id k at queue (find_message t k) refl
slots_after id t (changes.Purged k) = omega (arith, without_one (slots_if id) t.messages (position (λ m. m.id == k) t.messages))
slots_after id t _ = omega arith

-- a message that is found has no more slots than those of its number together
pub found_slots : (id : ℕ) (ms : List MsgRow) (m : MsgRow) → find (λ r. r.id == id) ms ≡ Some m → length m.slots ≤ slots_of id ms
found_slots id [] m e = cc
found_slots id (x ∷ xs) m e = by (x.id == id) refl e (found_slots id xs m)
  where
    by : (b : Bool) → (x.id == id) ≡ b → cond b (Some x) (find (λ r. r.id == id) xs) ≡ Some m
        → (find (λ r. r.id == id) xs ≡ Some m → length m.slots ≤ slots_of id xs) → length m.slots ≤ slots_of id (x ∷ xs)
    by true is found more =
        let same : x ≡ m = cc in
        omega (arith, sum_by-cons (slots_if id) x xs, ap (λ b. or_none b (length x.slots)) is, ap (λ (r : MsgRow). length r.slots) same)
    by false is found more = omega (arith, sum_by-cons (slots_if id) x xs, more found)

counted : (id : ℕ) (m : MsgRow) (ms : List MsgRow) → count_by (λ r. r.id == id) (m ∷ ms) ≡ one_if (m.id == id) + count_by (λ r. r.id == id) ms
counted id m ms = sum_by-cons (λ r. one_if (r.id == id)) m ms

-- no message has the number
none_has : (id : ℕ) (ms : List MsgRow) → count_by (λ r. r.id == id) ms ≤ 0 → slots_of id ms ≡ 0
none_has id [] h = refl
none_has id (m ∷ ms) h = by (m.id == id) refl (none_has id ms)
  where
    by : (b : Bool) → (m.id == id) ≡ b → (count_by (λ r. r.id == id) ms ≤ 0 → slots_of id ms ≡ 0) → slots_of id (m ∷ ms) ≡ 0
    by true is rest = absurd (omega (arith, counted id m ms, ap one_if is))
    by false is rest =
        let fewer : count_by (λ r. r.id == id) ms ≤ 0 = omega (arith, counted id m ms) in
        omega (arith, sum_by-cons (slots_if id) m ms, ap (λ b. or_none b (length m.slots)) is, rest fewer)

-- where at most one message has a number, the slots of the one that is found are those of the number
pub slots_alone : (id : ℕ) (ms : List MsgRow) → count_by (λ r. r.id == id) ms ≤ 1 → option_map_or (λ m. length m.slots) (find (λ r. r.id == id) ms) 0 ≡ slots_of id ms
slots_alone id [] h = refl
slots_alone id (m ∷ ms) h = by (m.id == id) refl (slots_alone id ms)
  where
    by : (b : Bool) → (m.id == id) ≡ b
        → (count_by (λ r. r.id == id) ms ≤ 1 → option_map_or (λ r. length r.slots) (find (λ r. r.id == id) ms) 0 ≡ slots_of id ms)
        → option_map_or (λ r. length r.slots) (cond b (Some m) (find (λ r. r.id == id) ms)) 0 ≡ slots_of id (m ∷ ms)
    by true is rest =
        let none : count_by (λ r. r.id == id) ms ≤ 0 = omega (arith, counted id m ms, ap one_if is) in
        omega (arith, sum_by-cons (slots_if id) m ms, ap (λ b. or_none b (length m.slots)) is, none_has id ms none)
    by false is rest =
        let one : count_by (λ r. r.id == id) ms ≤ 1 = omega (arith, counted id m ms) in
        omega (arith, sum_by-cons (slots_if id) m ms, ap (λ b. or_none b (length m.slots)) is, rest one)
