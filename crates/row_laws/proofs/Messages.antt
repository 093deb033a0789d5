-- The row of a message after one change.
use Rattle.std.proofs.Common.{◌≡◌, ℕ, List, [], Bool, true, false, not, refl, sym, ap, ◌∙◌, subst, Option, Some, None, ◌==◌, ◌||◌, ◌&&◌}
use Rattle.std.specs.Prelude.{find, option_map, option_and_then, is_none, is_some, if◌then◌else◌}
use Rattle.std.specs.Option.{option_map_or}
use Rattle.std.specs.Str.{bytes_eq}
use Rattle.std.proofs.lemmas.Bool.{eqb-true, eq-eqb, ne_eqb, eqb-false, not-true, false≢true}
use Rattle.queue_rows.specs.Rows.{find_message, find_queue, find_table, removed_first, with_slot}
use Rattle.queue_rows.specs.Settling.{left_by, if_it}
use Rattle.queue_rows.specs.Tables.{after_change, changed_message, in_state, retried, moved_to, move_some, without_queue, without_table}
use Rattle.queue_rows.specs.declared.change.Change.{Change}
use Rattle.queue_rows.specs.declared.change.Change.TheVariants as changes
use Rattle.queue_rows.specs.declared.rows.MsgRow.{MsgRow}
use Rattle.queue_rows.specs.declared.rows.SlotState.TheVariants as states
use Rattle.queue_rows.specs.declared.tables.Tables.{Tables}
use Rattle.row_laws.specs.RowLaws.{puts_new, leaves_to_settling, stands_in}
use Rattle.row_laws.proofs.Finding.{is_single, none_is, found_is, find-yes, find_last, find_other_last, single_other_last, single_new_last, kept, find_filter, single_filter, find_changed, find_other_changed, single_changed, find_removed, find_other_removed, single_removed}

-- one message at most has the id
abbrev pub IsSingle : Tables → ℕ → Type 0
IsSingle t id = is_single (λ m. m.id == id) t.messages ≡ true

pub id_found : (t : Tables) (id : ℕ) (m : MsgRow) → find_message t id ≡ Some m → m.id ≡ id
id_found t id m e = eqb-true m.id id (found_is (λ r. r.id == id) t.messages m e)

pub ids_apart : (named id : ℕ) → (named == id) ≡ false → (m : MsgRow) → (m.id == named) ≡ true → (m.id == id) ≡ false
ids_apart named id e m h = ne_eqb m.id id (λ same. eqb-false named id e (sym (eqb-true m.id named h) ∙ same))

-- ---- what `left_by` says of the row that was found

pub and_then_some : (o : Option MsgRow) → option_and_then (λ m. Some m) o ≡ o
and_then_some None = refl
and_then_some (Some m) = refl

if_it-yes : (m : MsgRow) (named : ℕ) (o : Option MsgRow) → (m.id == named) ≡ true → if_it m named o ≡ o
if_it-yes m named o e = rw e refl

if_it-no : (m : MsgRow) (named : ℕ) (o : Option MsgRow) → (m.id == named) ≡ false → if_it m named o ≡ Some m
if_it-no m named o e = rw e refl

left_it : (named : ℕ) (g : MsgRow → Option MsgRow) (o : Option MsgRow) → ((m : MsgRow) → o ≡ Some m → m.id ≡ named) → option_and_then (λ m. if_it m named (g m)) o ≡ option_and_then g o
left_it named g None h = refl
left_it named g (Some m) h = if_it-yes m named (g m) (eq-eqb m.id named (h m refl))

left_other : (named : ℕ) (g : MsgRow → Option MsgRow) (o : Option MsgRow) → ((m : MsgRow) → o ≡ Some m → (m.id == named) ≡ false) → option_and_then (λ m. if_it m named (g m)) o ≡ o
left_other named g None h = refl
left_other named g (Some m) h = if_it-no m named (g m) (h m refl)

map_as_then : (f : MsgRow → MsgRow) (o : Option MsgRow) → option_map f o ≡ option_and_then (λ m. Some (f m)) o
map_as_then f None = refl
map_as_then f (Some m) = refl

then_none : (o : Option MsgRow) → None ≡ option_and_then (λ (m : MsgRow). let none : Option MsgRow = None in none) o
then_none None = refl
then_none (Some m) = refl

-- the row that was found has another id
other_found : (t : Tables) (named id : ℕ) → (named == id) ≡ false → (m : MsgRow) → find_message t id ≡ Some m → (m.id == named) ≡ false
other_found t named id e m h = ne_eqb m.id named (λ same. eqb-false named id e (sym same ∙ id_found t id m h))

-- ---- a message is changed

module _ (t : Tables) (f : MsgRow → MsgRow) (keeps : (m : MsgRow) → (f m).id ≡ m.id) where
  changed_at_id : (named id : ℕ) (b : Bool) → (named == id) ≡ b
      → find_message (changed_message t named f) id ≡ option_and_then (λ m. if_it m named (Some (f m))) (find_message t id)
  changed_at_id named id true e =
      let same : named ≡ id = eqb-true named id e in
      subst (λ n. find_message (changed_message t n f) id ≡ option_and_then (λ m. if_it m n (Some (f m))) (find_message t id)) (sym same)
      (find_changed (λ m. m.id == id) f (λ m. ap (λ n. n == id) (keeps m)) t.messages ∙ map_as_then f (find_message t id)
      ∙ sym (left_it id (λ m. Some (f m)) (find_message t id) (λ m h. id_found t id m h)))
  changed_at_id named id false e =
      find_other_changed (λ m. m.id == named) f (λ m. m.id == id) (λ m. ap (λ n. n == id) (keeps m)) (ids_apart named id e) t.messages
      ∙ sym (left_other named (λ m. Some (f m)) (find_message t id) (other_found t named id e))

  pub finds_changed : (named id : ℕ) → find_message (changed_message t named f) id ≡ option_and_then (λ m. if_it m named (Some (f m))) (find_message t id)
  finds_changed named id = changed_at_id named id (named == id) refl

  pub single_after_changed : (named id : ℕ) → IsSingle t id → IsSingle (changed_message t named f) id
  single_after_changed named id s = single_changed (λ m. m.id == named) f (λ m. m.id == id) (λ m. ap (λ n. n == id) (keeps m)) t.messages ∙ s

-- ---- a message is moved

moved_none : (t : Tables) (named id : ℕ) (g : MsgRow → MsgRow) (b : Bool) → (named == id) ≡ b → find_message t named ≡ None → find_message t id ≡ option_and_then (λ m. if_it m named (Some (g m))) (find_message t id)
moved_none t named id g true e h =
    let none : find_message t id ≡ None = ap (find_message t) (sym (eqb-true named id e)) ∙ h in
    none ∙ sym (ap (option_and_then (λ m. if_it m named (Some (g m)))) none)
moved_none t named id g false e h = sym (left_other named (λ m. Some (g m)) (find_message t id) (other_found t named id e))

-- where the queue is not there, the message is another one
other_moved : (a b : Bool) → (not a || b) ≡ true → b ≡ false → a ≡ false
other_moved false b h e = refl
other_moved true b h e = cc

moved_some : (t : Tables) (named id : ℕ) (queue : List ℕ) (at : ℕ) (r : MsgRow) (b : Bool) → is_some (find_queue t queue) ≡ b → find_message t named ≡ Some r
    → (not (named == id) || is_some (find_queue t queue)) ≡ true
    → find_message (move_some t (Some r) queue at) id ≡ option_and_then (λ m. if_it m named (Some (moved_to queue at m))) (find_message t id)
moved_some t named id queue at r true e h plain =
    rw e (subst (λ n. find_message (changed_message t r.id (moved_to queue at)) id ≡ option_and_then (λ m. if_it m n (Some (moved_to queue at m))) (find_message t id)) (id_found t named r h)
    (finds_changed t (moved_to queue at) (λ m. refl) r.id id))
moved_some t named id queue at r false e h plain =
    rw e (sym (left_other named (λ m. Some (moved_to queue at m)) (find_message t id) (other_found t named id (other_moved (named == id) (is_some (find_queue t queue)) plain e))))

finds_moved : (t : Tables) (named id : ℕ) (queue : List ℕ) (at : ℕ) (o : Option MsgRow) → find_message t named ≡ o → (not (named == id) || is_some (find_queue t queue)) ≡ true
    → find_message (move_some t o queue at) id ≡ option_and_then (λ m. if_it m named (Some (moved_to queue at m))) (find_message t id)
finds_moved t named id queue at None h plain = moved_none t named id (moved_to queue at) (named == id) refl h
finds_moved t named id queue at (Some r) h plain = moved_some t named id queue at r (is_some (find_queue t queue)) refl h plain

-- ---- a message is purged

purged_at_id : (t : Tables) (named id : ℕ) (b : Bool) → (named == id) ≡ b → IsSingle t id
    → find (λ m. m.id == id) (removed_first (λ m. m.id == named) t.messages) ≡ option_and_then (λ m. if_it m named None) (find_message t id)
purged_at_id t named id true e s =
    let same : named ≡ id = eqb-true named id e in
    subst (λ n. find (λ m. m.id == id) (removed_first (λ m. m.id == n) t.messages) ≡ option_and_then (λ m. if_it m n None) (find_message t id)) (sym same)
    (find_removed (λ m. m.id == id) t.messages s ∙ then_none (find_message t id) ∙ sym (left_it id (λ m. None) (find_message t id) (λ m h. id_found t id m h)))
purged_at_id t named id false e s =
    find_other_removed (λ m. m.id == named) (λ m. m.id == id) (ids_apart named id e) t.messages ∙ sym (left_other named (λ m. None) (find_message t id) (other_found t named id e))

-- ---- a queue or a table is dropped

-- the message stands in another queue, and is kept
not_within : (name : List ℕ) (o : Option MsgRow) (b : Bool) → b ≡ true → not (b && option_map_or (λ m. bytes_eq m.queue name) o false) ≡ true → option_and_then (kept (λ m. not (bytes_eq m.queue name))) o ≡ o
not_within name None b e h = refl
not_within name (Some m) b e h = let g : not (bytes_eq m.queue name) ≡ true = rw e at h in rw g refl

dropped : (t : Tables) (name : List ℕ) (id : ℕ) (b : Bool) → is_some (find_queue t name) ≡ b → IsSingle t id → not (stands_in t name id) ≡ true → find_message (without_queue t name) id ≡ find_message t id
dropped t name id true e s h =
    rw e (find_filter (λ m. m.id == id) (λ m. not (bytes_eq m.queue name)) t.messages s ∙ not_within name (find_message t id) (is_some (find_queue t name)) e h)
dropped t name id false e s h = rw e refl

single_dropped : (t : Tables) (name : List ℕ) (id : ℕ) (b : Bool) → is_some (find_queue t name) ≡ b → IsSingle t id → IsSingle (without_queue t name) id
single_dropped t name id true e s = rw e (single_filter (λ m. m.id == id) (λ m. not (bytes_eq m.queue name)) t.messages s)
single_dropped t name id false e s = rw e s

same_messages : (t : Tables) (name : List ℕ) (b : Bool) → is_some (find_table t name) ≡ b → (without_table t name).messages ≡ t.messages
same_messages t name true e = rw e refl
same_messages t name false e = rw e refl

-- ---- any change

pub finds_left : (t : Tables) (c : Change) (id : ℕ) → IsSingle t id → leaves_to_settling id t c ≡ true → find_message (after_change t c) id ≡ option_and_then (λ m. left_by m c) (find_message t id)
finds_left t (changes.Enqueued row) id s e = find_other_last (λ m. m.id == id) t.messages row (not-true (row.id == id) e) ∙ sym (and_then_some (find_message t id))
finds_left t (changes.DropQueue name) id s e = dropped t name id (is_some (find_queue t name)) refl s e ∙ sym (and_then_some (find_message t id))
finds_left t (changes.DropTable name) id s e = ap (find (λ m. m.id == id)) (same_messages t name (is_some (find_table t name)) refl) ∙ sym (and_then_some (find_message t id))
finds_left t (changes.Retried named slot retries until at) id s e = finds_changed t (with_slot slot (retried retries until at)) (λ m. refl) named id
finds_left t (changes.Ready named slot at) id s e = finds_changed t (with_slot slot (in_state states.Ready at)) (λ m. refl) named id
finds_left t (changes.Done named slot at) id s e = finds_changed t (with_slot slot (in_state states.Processed at)) (λ m. refl) named id
finds_left t (changes.Expired named slot at) id s e = finds_changed t (with_slot slot (in_state states.Expired at)) (λ m. refl) named id
finds_left t (changes.Dropped named slot at) id s e = finds_changed t (with_slot slot (in_state states.Dropped at)) (λ m. refl) named id
finds_left t (changes.Moved named queue at) id s e = finds_moved t named id queue at (find_message t named) refl e
finds_left t (changes.Purged named) id s e = purged_at_id t named id (named == id) refl s
finds_left t _ id s e = sym (and_then_some (find_message t id))

-- ---- a message is put in

put_in_by : (t : Tables) (row : MsgRow) (id : ℕ) (b : Bool) → (row.id == id) ≡ b → find_message t row.id ≡ None → find_message (after_change t (changes.Enqueued row)) id ≡ (if row.id == id then Some row else find_message t id)
put_in_by t row id true e h =
    let none : find_message t id ≡ None = ap (find_message t) (sym (eqb-true row.id id e)) ∙ h in
    find_last (λ m. m.id == id) t.messages row none ∙ find-yes (λ m. m.id == id) row [] e ∙ rw e refl
put_in_by t row id false e h = find_other_last (λ m. m.id == id) t.messages row e ∙ rw e refl

pub finds_put_in : (t : Tables) (row : MsgRow) (id : ℕ) → is_none (find_message t row.id) ≡ true → find_message (after_change t (changes.Enqueued row)) id ≡ (if row.id == id then Some row else find_message t id)
finds_put_in t row id h = put_in_by t row id (row.id == id) refl (none_is (find_message t row.id) h)

-- ---- a queue that is there is dropped

drop_by : (t : Tables) (name : List ℕ) (id : ℕ) (b : Bool) → is_some (find_queue t name) ≡ b → b ≡ true → IsSingle t id
    → find_message (without_queue t name) id ≡ option_and_then (kept (λ m. not (bytes_eq m.queue name))) (find_message t id)
drop_by t name id true e g s = rw e (find_filter (λ m. m.id == id) (λ m. not (bytes_eq m.queue name)) t.messages s)
drop_by t name id false e g s = absurd (false≢true g)

pub finds_without_queue : (t : Tables) (name : List ℕ) (id : ℕ) → is_some (find_queue t name) ≡ true → IsSingle t id
    → find_message (after_change t (changes.DropQueue name)) id ≡ option_and_then (kept (λ m. not (bytes_eq m.queue name))) (find_message t id)
finds_without_queue t name id h s = drop_by t name id (is_some (find_queue t name)) refl h s

-- ---- ids stay single

-- a message that it puts in has another id, or is not there yet
abbrev pub may_put : ℕ → Tables → Change → Bool
may_put id t (changes.Enqueued row) = not (row.id == id) || is_none (find_message t row.id)
may_put id t _ = true

or_right : (a b : Bool) → b ≡ true → (a || b) ≡ true
or_right false b e = e
or_right true b e = refl

pub new_may_be_put : (id : ℕ) (t : Tables) (c : Change) → puts_new t c ≡ true → may_put id t c ≡ true
new_may_be_put id t (changes.Enqueued row) e = or_right (not (row.id == id)) (is_none (find_message t row.id)) e
new_may_be_put id t (changes.PutTable row) e = refl
new_may_be_put id t _ e = refl

pub left_may_be_put : (id : ℕ) (t : Tables) (c : Change) → leaves_to_settling id t c ≡ true → may_put id t c ≡ true
left_may_be_put id t (changes.Enqueued row) e = rw e refl
left_may_be_put id t (changes.PutTable row) e = refl
left_may_be_put id t _ e = refl

single_put_in : (t : Tables) (row : MsgRow) (id : ℕ) (b : Bool) → (row.id == id) ≡ b → (not b || is_none (find_message t row.id)) ≡ true → IsSingle t id → IsSingle (after_change t (changes.Enqueued row)) id
single_put_in t row id true e h s =
    single_new_last (λ m. m.id == id) t.messages row (ap (find_message t) (sym (eqb-true row.id id e)) ∙ none_is (find_message t row.id) h)
single_put_in t row id false e h s = single_other_last (λ m. m.id == id) t.messages row e ∙ s

single_moved_to : (t : Tables) (id : ℕ) (queue : List ℕ) (at : ℕ) (r : MsgRow) (b : Bool) → is_some (find_queue t queue) ≡ b → IsSingle t id → IsSingle (move_some t (Some r) queue at) id
single_moved_to t id queue at r true e s = rw e (single_after_changed t (moved_to queue at) (λ m. refl) r.id id s)
single_moved_to t id queue at r false e s = rw e s

single_moved : (t : Tables) (id : ℕ) (queue : List ℕ) (at : ℕ) (o : Option MsgRow) → IsSingle t id → IsSingle (move_some t o queue at) id
single_moved t id queue at None s = s
single_moved t id queue at (Some r) s = single_moved_to t id queue at r (is_some (find_queue t queue)) refl s

pub stays_single : (t : Tables) (c : Change) (id : ℕ) → IsSingle t id → may_put id t c ≡ true → IsSingle (after_change t c) id
stays_single t (changes.Enqueued row) id s e = single_put_in t row id (row.id == id) refl e s
stays_single t (changes.DropQueue name) id s e = single_dropped t name id (is_some (find_queue t name)) refl s
stays_single t (changes.DropTable name) id s e = ap (is_single (λ m. m.id == id)) (same_messages t name (is_some (find_table t name)) refl) ∙ s
stays_single t (changes.Retried named slot retries until at) id s e = single_after_changed t (with_slot slot (retried retries until at)) (λ m. refl) named id s
stays_single t (changes.Ready named slot at) id s e = single_after_changed t (with_slot slot (in_state states.Ready at)) (λ m. refl) named id s
stays_single t (changes.Done named slot at) id s e = single_after_changed t (with_slot slot (in_state states.Processed at)) (λ m. refl) named id s
stays_single t (changes.Expired named slot at) id s e = single_after_changed t (with_slot slot (in_state states.Expired at)) (λ m. refl) named id s
stays_single t (changes.Dropped named slot at) id s e = single_after_changed t (with_slot slot (in_state states.Dropped at)) (λ m. refl) named id s
stays_single t (changes.Moved named queue at) id s e = single_moved t id queue at (find_message t named) s
stays_single t (changes.Purged named) id s e = single_removed (λ m. m.id == named) (λ m. m.id == id) t.messages s
stays_single t _ id s e = s
