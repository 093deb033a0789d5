-- What is due at a database goes well: slots one after another, then the messages that go.
use Rattle.std.proofs.Common.{◌≡◌, ◌≤◌, ◌+◌, ℕ, zero, suc, List, [], ◌∷◌, ◌++◌, Bool, true, false, not, refl, sym, ap, ◌∙◌, subst, arith, Option, Some, None, ◌==◌, ◌&&◌, ◌||◌, append-nil}
use Rattle.std.specs.Prelude.{find, flat_map, nat_le, option_and_then, is_some, is_none, All, get_or, if◌then◌else◌}
use Rattle.std.specs.List.{list_any, range_with_len}
use Rattle.std.specs.Option.{option_map_or}
use Rattle.std.proofs.lemmas.Bool.{eqb-true, eqb-false, eq-eqb, and_parts, or_left, or_parts, not-true, not_from_false, false≢true}
use Rattle.std.proofs.lemmas.Option.{none-some}
use Rattle.std.proofs.lemmas.List.Elements.{All-head, All-tail, All-cons, All-nil}
use Rattle.aq_base.specs.declared.DbId.{DbId}
use Rattle.aq_base.specs.declared.limits.TheConstants.{MOMENT_LIMIT}
use Rattle.queue_rows.specs.Rows.{find_message, slot_of, with_slot, recipient_count}
use Rattle.queue_rows.specs.Tables.{after_change, after_all, in_state, changed_slot}
use Rattle.queue_rows.specs.Settling.{is_open, is_ready, is_processed, is_handled, retention_of, if_it}
use Rattle.queue_rows.specs.Session.{Session}
use Rattle.queue_rows.specs.Distinct.{are_distinct}
use Rattle.queue_rows.specs.Due.{Watch, slot_numbers, is_over, is_left, due_slot, due_slots, is_spent, is_taken, last_taken, due_purge, due}
use Rattle.queue_rows.specs.Valid.{is_valid, is_same_message, is_right_if_moved, is_right_slot_zero}
use Rattle.queue_rows.specs.Fits.{fits, is_unmoved_at}
use Rattle.queue_rows.specs.declared.tables.Tables.{Tables}
use Rattle.queue_rows.specs.declared.rows.MsgRow.{MsgRow}
use Rattle.queue_rows.specs.declared.rows.SlotRow.{SlotRow}
use Rattle.queue_rows.specs.declared.rows.SlotState.{SlotState}
use Rattle.queue_rows.specs.declared.rows.SlotState.TheVariants as states
use Rattle.queue_rows.specs.declared.history.SlotRef.{SlotRef}
use Rattle.queue_rows.specs.declared.change.Change.{Change}
use Rattle.queue_rows.specs.declared.change.Change.TheVariants as changes
use Rattle.row_laws.proofs.Finding.{find-yes, find-no, find_other_changed, find_other_removed}
use Rattle.row_laws.proofs.Latest.{at_latest}
use Rattle.row_laws.proofs.Slots.{slot_of-with_other}
use Rattle.row_laws.proofs.Messages.{id_found, ids_apart, finds_changed}
use Rattle.valid_laws.specs.Openness.{is_open_slot, is_open_at, is_finished, is_finished_at}
use Rattle.valid_laws.specs.Touching.{takes_off}
use Rattle.valid_laws.proofs.Parts.{valid_distinct}
use Rattle.valid_laws.proofs.Keeping.{later_is_valid}
use Rattle.valid_laws.proofs.Doing.{Kind, nothing, expires, readies, changes_by, kind_of, kind_in, due_slot_is}
use Rattle.valid_laws.proofs.Calming.{is_quiet, quiet_if, flat_none}
use Rattle.valid_laws.proofs.Ending.{undone}
use Rattle.valid_laws.proofs.Exceptions.{home_of}
use Rattle.valid_laws.proofs.Fitting.{slots_known, moved_zero, open_is_zero}
use Rattle.valid_laws.proofs.Going.{GoesWell, nothing_goes, goes_on, goes_one, goes_settled, after_append, latest_same, fits_if_goes}
use Rattle.valid_laws.proofs.Opened.{open_of, found_with, finished_of}
use Rattle.valid_laws.proofs.Framing.{any_flat, handled_finished}
use Rattle.valid_laws.proofs.Still.{valid_closed}
use Rattle.valid_laws.proofs.Retrying.{IsAlike, alike_changed, alike_later, unmoved_of}

-- ---- lists of messages with distinct ids

-- each message of the list is found by its id
abbrev pub AreIn : Tables → List MsgRow → Type 0
AreIn u xs = All (λ m. find_message u m.id ≡ Some m) xs

-- none of them has that id
abbrev pub NoneIs : ℕ → List MsgRow → Type 0
NoneIs id xs = All (λ m. (id == m.id) ≡ false) xs

none_is : (x : MsgRow) (xs : List MsgRow) → list_any (is_same_message x) xs ≡ false → NoneIs x.id xs
none_is x [] h = All-nil (λ m. (x.id == m.id) ≡ false)
none_is x (y ∷ ys) h = let p = or_parts (x.id == y.id) (list_any (is_same_message x) ys) h in All-cons (λ m. (x.id == m.id) ≡ false) y ys p.0 (none_is x ys p.1)

-- those behind it are found behind it
find_behind : (x : MsgRow) (xs : List MsgRow) → NoneIs x.id xs → All (λ m. find (λ r. r.id == m.id) xs ≡ Some m) xs → All (λ m. find (λ r. r.id == m.id) (x ∷ xs) ≡ Some m) xs
find_behind x xs d h = λ k e lt. find_no_head x xs (get_or xs k e) (d k e lt) ∙ h k e lt
  where
    find_no_head : (x : MsgRow) (xs : List MsgRow) (m : MsgRow) → (x.id == m.id) ≡ false → find (λ r. r.id == m.id) (x ∷ xs) ≡ find (λ r. r.id == m.id) xs
    find_no_head x xs m e = find-no (λ r. r.id == m.id) x xs e

pub are_in : (xs : List MsgRow) → are_distinct is_same_message xs ≡ true → All (λ m. find (λ r. r.id == m.id) xs ≡ Some m) xs
are_in [] h = All-nil (λ m. find (λ (r : MsgRow). r.id == m.id) [] ≡ Some m)
are_in (x ∷ xs) h =
    let p = and_parts (not (list_any (is_same_message x) xs)) (are_distinct is_same_message xs) h in
    All-cons (λ m. find (λ r. r.id == m.id) (x ∷ xs) ≡ Some m) x xs (find-yes (λ r. r.id == x.id) x xs (eq-eqb x.id x.id refl))
    (find_behind x xs (none_is x xs (not-true (list_any (is_same_message x) xs) p.0)) (are_in xs p.1))

-- ---- of a moved message nothing is due

zero_quiet : (s : SlotRow) → ((is_ready s.state || is_processed s.state) && is_none s.expires) ≡ true → is_quiet s ≡ true
zero_quiet s h = let p = and_parts (is_ready s.state || is_processed s.state) (is_none s.expires) h in by_state s.state (is_none s.expires) p.0 p.1
  where
    by_state : (state : SlotState) (none : Bool) → (is_ready state || is_processed state) ≡ true → none ≡ true → (not (is_open state) || (is_ready state && none)) ≡ true
    by_state states.Ready none h e = e
    by_state states.Waiting none h e = absurd (false≢true h)
    by_state states.Processed none h e = refl
    by_state states.Expired none h e = absurd (false≢true h)
    by_state states.Dropped none h e = absurd (false≢true h)

zero_some : (o : Option SlotRow) (s : SlotRow) → is_right_slot_zero o ≡ true → o ≡ Some s → is_quiet s ≡ true
zero_some None s h e = absurd (none-some s e)
zero_some (Some x) s h e = let same : x ≡ s = cc in subst (λ y. is_quiet y ≡ true) same (zero_quiet x h)

moved_slot_quiet : (t : Tables) (m : MsgRow) (b : ℕ) (s : SlotRow) (c d : Bool) → (b == 0) ≡ c → is_open s.state ≡ d → is_valid t ≡ true → find_message t m.id ≡ Some m → m.moved ≡ true → is_right_if_moved m ≡ true → slot_of m b ≡ Some s → is_quiet s ≡ true
moved_slot_quiet t m b s true d e o v f u k h = zero_some (slot_of m 0) s (moved_zero m u k) (ap (slot_of m) (sym (eqb-true b 0 e)) ∙ h)
moved_slot_quiet t m b s false true e o v f u k h = absurd (eqb-false b 0 e (open_is_zero t m.id b m s (b == 0) refl v f u h o))
moved_slot_quiet t m b s false false e o v f u k h = or_left (not (is_open s.state)) (is_ready s.state && is_none s.expires) (not_from_false (is_open s.state) o)

quiet_piece : (w : Watch) (m : MsgRow) (b : ℕ) (o : Option SlotRow) → ((s : SlotRow) → o ≡ Some s → is_quiet s ≡ true) → due_slot w m b o ≡ []
quiet_piece w m b None h = refl
quiet_piece w m b (Some s) h = quiet_if m.id b w.moment s (is_left w m b) (h s refl)

moved_nothing : (t : Tables) (w : Watch) (m : MsgRow) → is_valid t ≡ true → find_message t m.id ≡ Some m → m.moved ≡ true → due_slots w m ≡ []
moved_nothing t w m v f u =
    let home = home_of t m.id m v f in
    let known = slots_known t m.id m home.queue v f home.queue_is in
    flat_none (λ slot. due_slot w m slot (slot_of m slot)) (slot_numbers m) (λ b some. quiet_piece w m b (slot_of m b) (λ s e. moved_slot_quiet t m b s (b == 0) (is_open s.state) refl refl v f u known.if_moved e))

-- ---- one slot

abbrev is_active : Kind → Bool
is_active nothing = false
is_active expires = true
is_active readies = true

active_by : (s : SlotRow) (a b : Bool) → (a ≡ true → is_open s.state ≡ true) → (b ≡ true → is_open s.state ≡ true) → is_active (if a then expires else (if b then readies else nothing)) ≡ true → is_open s.state ≡ true
active_by s true b h k e = h refl
active_by s false true h k e = k refl
active_by s false false h k e = absurd (false≢true e)

active_open : (s : SlotRow) (moment : ℕ) → is_active (kind_of s moment) ≡ true → is_open s.state ≡ true
active_open s moment e =
    active_by s (is_open s.state && is_over s moment) (is_open s.state && not (is_ready s.state) && nat_le s.at moment)
    (λ h. (and_parts (is_open s.state) (is_over s moment) h).0)
    (λ h. (and_parts (is_open s.state) (not (is_ready s.state)) (and_parts (is_open s.state && not (is_ready s.state)) (nat_le s.at moment) h).0).0) e

active_if : (s : SlotRow) (moment : ℕ) (b : Bool) → is_active (if b then nothing else kind_of s moment) ≡ true → is_open s.state ≡ true
active_if s moment true e = absurd (false≢true e)
active_if s moment false e = active_open s moment e

-- where something is due of it, the slot is there and open
active_slot : (w : Watch) (m : MsgRow) (slot : ℕ) (o : Option SlotRow) → slot_of m slot ≡ o → is_active (kind_in w m slot o) ≡ true → is_open_slot slot m ≡ true
active_slot w m slot None e h = absurd (false≢true h)
active_slot w m slot (Some s) e h = ap (λ o. option_map_or (λ x. is_open x.state) o false) e ∙ active_if s w.moment (is_left w m slot) h

-- changes of a message go well, and leave other messages
pub record Does (t : Tables) (x : MsgRow) (u : Tables) (cs : List Change) : Type 0 where
  pub goes : GoesWell true u cs
  pub alike : IsAlike t (after_all u cs)
  pub others : (id : ℕ) → (x.id == id) ≡ false → find_message (after_all u cs) id ≡ find_message u id

module _ (t : Tables) (w : Watch) (x : MsgRow) (unmoved : x.moved ≡ false) (x_is : find_message t x.id ≡ Some x) where
  -- the tables when all before that slot is done
  pub record At (low : ℕ) (u : Tables) : Type 0 where
    pub valid : is_valid u ≡ true
    pub latest : u.latest ≡ w.moment
    pub alike : IsAlike t u
    pub row : MsgRow
    pub found : find_message u x.id ≡ Some row
    pub above : (b : ℕ) → low ≤ b → slot_of row b ≡ slot_of x b

  pub record DoesAt (low : ℕ) (u : Tables) (cs : List Change) : Type 0 where
    pub does : Does t x u cs
    pub at : At low (after_all u cs)

  pub here_open : (slot : ℕ) (u : Tables) (a : At slot u) → is_open_slot slot x ≡ true → is_open_at u x.id slot ≡ true
  here_open slot u a h = open_of u x.id slot a.row a.found (ap (λ o. option_map_or (λ s. is_open s.state) o false) (a.above slot (omega arith)) ∙ h)

  pub here_unmoved : (u : Tables) → IsAlike t u → is_unmoved_at u x.id ≡ true
  here_unmoved u k = let y = k.rows x.id x x_is in unmoved_of u x.id y.row y.is_row (y.moved ∙ unmoved)

  pub in_time : (slot : ℕ) (u : Tables) → At slot u → w.moment ≤ u.latest
  in_time slot u a = let e = a.latest in omega (arith, e)

  pub changed_at : (slot : ℕ) (f : SlotRow → SlotRow) (u : Tables) (a : At slot u) → is_valid (changed_slot u x.id slot f) ≡ true → At (slot + 1) (changed_slot u x.id slot f)
  changed_at slot f u a v =
      let it : if_it a.row x.id (Some (with_slot slot f a.row)) ≡ Some (with_slot slot f a.row) = rw (eq-eqb a.row.id x.id (id_found u x.id a.row a.found)) refl in
      record {
        valid = v;
        latest = a.latest;
        alike = alike_changed t u x.id slot f a.alike;
        row = with_slot slot f a.row;
        found = finds_changed u (with_slot slot f) (λ r. refl) x.id x.id ∙ ap (option_and_then (λ r. if_it r x.id (Some (with_slot slot f r)))) a.found ∙ it;
        above = λ b le. slot_of-with_other slot b f a.row (λ same. absurd (omega (arith, le, same))) ∙ a.above b (omega (arith, le));
      }

  pub others_changed : (slot : ℕ) (f : SlotRow → SlotRow) (u : Tables) (id : ℕ) → (x.id == id) ≡ false → find_message (changed_slot u x.id slot f) id ≡ find_message u id
  others_changed slot f u id e = find_other_changed (λ m. m.id == x.id) (with_slot slot f) (λ m. m.id == id) (λ m. refl) (ids_apart x.id id e) u.messages

  slot_does : (k : Kind) (slot : ℕ) (u : Tables) (a : At slot u) → (is_active k ≡ true → is_open_slot slot x ≡ true) → DoesAt (slot + 1) u (changes_by k x.id slot w.moment)
  slot_does nothing slot u a o = record {
    does = record { goes = nothing_goes true u a.valid; alike = a.alike; others = λ id e. refl };
    at = record { valid = a.valid; latest = a.latest; alike = a.alike; row = a.row; found = a.found; above = λ b le. a.above b (omega (arith, le)) };
  }
  slot_does expires slot u a o =
      let goes = goes_one true u (changes.Expired x.id slot w.moment) a.valid (record { changes_open = record { is_open_there = here_open slot u a (o refl); in_time = in_time slot u a }; unmoved = here_unmoved u a.alike }) refl (λ _. refl) in
      record {
        does = record { goes = goes; alike = alike_changed t u x.id slot (in_state states.Expired w.moment) a.alike; others = others_changed slot (in_state states.Expired w.moment) u };
        at = changed_at slot (in_state states.Expired w.moment) u a goes.valid;
      }
  slot_does readies slot u a o =
      let goes = goes_one true u (changes.Ready x.id slot w.moment) a.valid (record { is_open_there = here_open slot u a (o refl); in_time = in_time slot u a }) refl (λ _. refl) in
      record {
        does = record { goes = goes; alike = alike_changed t u x.id slot (in_state states.Ready w.moment) a.alike; others = others_changed slot (in_state states.Ready w.moment) u };
        at = changed_at slot (in_state states.Ready w.moment) u a goes.valid;
      }

  pub does_append : (u : Tables) (cs ds : List Change) → Does t x u cs → Does t x (after_all u cs) ds → Does t x u (cs ++ ds)
  does_append u cs ds a b = record {
    goes = goes_on true u cs ds a.goes b.goes;
    alike = subst (IsAlike t) (sym (after_append u cs ds)) b.alike;
    others = λ id e. ap (λ y. find_message y id) (after_append u cs ds) ∙ b.others id e ∙ a.others id e;
  }

  slots_do : (n low : ℕ) (u : Tables) → At low u → Does t x u (flat_map (λ slot. due_slot w x slot (slot_of x slot)) (range_with_len low n))
  slots_do zero low u a = record { goes = nothing_goes true u a.valid; alike = a.alike; others = λ id e. refl }
  slots_do (suc n) low u a =
      let k = kind_in w x low (slot_of x low) in
      let one = slot_does k low u a (active_slot w x low (slot_of x low) refl) in
      let cs = changes_by k x.id low w.moment in
      subst (λ ds. Does t x u (ds ++ flat_map (λ slot. due_slot w x slot (slot_of x slot)) (range_with_len (low + 1) n))) (sym (due_slot_is w x low (slot_of x low)))
      (does_append u cs (flat_map (λ slot. due_slot w x slot (slot_of x slot)) (range_with_len (low + 1) n)) one.does (slots_do n (low + 1) (after_all u cs) one.at))

  numbers_unmoved : slot_numbers x ≡ range_with_len 1 (recipient_count x)
  numbers_unmoved = ap (λ b. range_with_len 1 (recipient_count x) ++ (if b then 0 ∷ [] else [])) unmoved ∙ append-nil (range_with_len 1 (recipient_count x))

  pub message_does : (u : Tables) → is_valid u ≡ true → u.latest ≡ w.moment → IsAlike t u → find_message u x.id ≡ Some x → Does t x u (due_slots w x)
  message_does u v l k f =
      subst (λ ns. Does t x u (flat_map (λ slot. due_slot w x slot (slot_of x slot)) ns)) (sym numbers_unmoved)
      (slots_do (recipient_count x) 1 u (record { valid = v; latest = l; alike = k; row = x; found = f; above = λ b le. refl }))

-- ---- all slots

pub does_nothing : (t : Tables) (x : MsgRow) (u : Tables) → is_valid u ≡ true → IsAlike t u → Does t x u []
does_nothing t x u v k = record { goes = nothing_goes true u v; alike = k; others = λ id e. refl }

does_by : (t : Tables) (w : Watch) (x : MsgRow) (b : Bool) → x.moved ≡ b → is_valid t ≡ true → find_message t x.id ≡ Some x → (u : Tables) → is_valid u ≡ true → u.latest ≡ w.moment → IsAlike t u → find_message u x.id ≡ Some x → Does t x u (due_slots w x)
does_by t w x true e tv f u v l k g = subst (Does t x u) (sym (moved_nothing t w x tv f e)) (does_nothing t x u v k)
does_by t w x false e tv f u v l k g = message_does t w x e f u v l k g

pub record SlotsGo (t u : Tables) (cs : List Change) : Type 0 where
  pub goes : GoesWell true u cs
  pub alike : IsAlike t (after_all u cs)

slots_go_on : (t : Tables) (u : Tables) (cs ds : List Change) → GoesWell true u cs → SlotsGo t (after_all u cs) ds → SlotsGo t u (cs ++ ds)
slots_go_on t u cs ds g k = record { goes = goes_on true u cs ds g k.goes; alike = subst (IsAlike t) (sym (after_append u cs ds)) k.alike }

-- what is done for each message of a list
pub all_do : (t : Tables) (moment : ℕ) (F : MsgRow → List Change)
    → ((x : MsgRow) → find_message t x.id ≡ Some x → (u : Tables) → is_valid u ≡ true → u.latest ≡ moment → IsAlike t u → find_message u x.id ≡ Some x → Does t x u (F x))
    → (xs : List MsgRow) (u : Tables) → is_valid u ≡ true → u.latest ≡ moment → IsAlike t u → AreIn t xs → AreIn u xs → are_distinct is_same_message xs ≡ true → SlotsGo t u (flat_map F xs)
all_do t moment F does [] u v l k h g d = record { goes = nothing_goes true u v; alike = k }
all_do t moment F does (x ∷ xs) u v l k h g d =
    let p = and_parts (not (list_any (is_same_message x) xs)) (are_distinct is_same_message xs) d in
    let none = none_is x xs (not-true (list_any (is_same_message x) xs) p.0) in
    let one = does x (All-head (λ m. find_message t m.id ≡ Some m) x xs h) u v l k (All-head (λ m. find_message u m.id ≡ Some m) x xs g) in
    let behind = All-tail (λ m. find_message u m.id ≡ Some m) x xs g in
    slots_go_on t u (F x) (flat_map F xs) one.goes
    (all_do t moment F does xs (after_all u (F x)) one.goes.valid (latest_same (F x) u one.goes.uncounted ∙ l) one.alike (All-tail (λ m. find_message t m.id ≡ Some m) x xs h)
    (λ i e lt. one.others (get_or xs i e).id (none i e lt) ∙ behind i e lt) p.1)

all_slots : (t : Tables) (w : Watch) → is_valid t ≡ true → (xs : List MsgRow) (u : Tables) → is_valid u ≡ true → u.latest ≡ w.moment → IsAlike t u → AreIn t xs → AreIn u xs → are_distinct is_same_message xs ≡ true → SlotsGo t u (flat_map (due_slots w) xs)
all_slots t w tv = all_do t w.moment (due_slots w) (λ x f u v l k g. does_by t w x x.moved refl tv f u v l k g)

-- ---- messages that go

purge_other : (u : Tables) (named id : ℕ) → (named == id) ≡ false → find_message (after_change u (changes.Purged named)) id ≡ find_message u id
purge_other u named id e = find_other_removed (λ m. m.id == named) (λ m. m.id == id) (ids_apart named id e) u.messages

-- where the message goes, it has no open slot
abbrev AreFinished : Watch → Tables → List MsgRow → Type 0
AreFinished w u xs = All (λ m. is_spent w m ≡ true → is_finished_at u m.id ≡ true) xs

there_if_finished : (u : Tables) (id : ℕ) → is_finished_at u id ≡ true → is_some (find_message u id) ≡ true
there_if_finished u id h = ap is_some (found_with u id is_finished h).1

purged_by : (w : Watch) (x : MsgRow) (xs : List MsgRow) (u : Tables) (b : Bool) → is_spent w x ≡ b → is_valid u ≡ true → AreFinished w u (x ∷ xs) → NoneIs x.id xs
    → ((y : Tables) → is_valid y ≡ true → AreFinished w y xs → GoesWell true y (flat_map (due_purge w) xs))
    → GoesWell true u ((if b then changes.Purged x.id ∷ [] else []) ++ flat_map (due_purge w) xs)
purged_by w x xs u true e v h none ih =
    let f : is_finished_at u x.id ≡ true = All-head (λ m. is_spent w m ≡ true → is_finished_at u m.id ≡ true) x xs h e in
    let g = goes_one true u (changes.Purged x.id) v (there_if_finished u x.id f) refl (λ _. f) in
    let rest = All-tail (λ m. is_spent w m ≡ true → is_finished_at u m.id ≡ true) x xs h in
    goes_on true u (changes.Purged x.id ∷ []) (flat_map (due_purge w) xs) g
    (ih (after_change u (changes.Purged x.id)) g.valid (λ i d lt spent. ap (λ o. option_map_or is_finished o false) (purge_other u x.id (get_or xs i d).id (none i d lt)) ∙ rest i d lt spent))
purged_by w x xs u false e v h none ih = ih u v (All-tail (λ m. is_spent w m ≡ true → is_finished_at u m.id ≡ true) x xs h)

all_purged : (w : Watch) (xs : List MsgRow) (u : Tables) → is_valid u ≡ true → AreFinished w u xs → are_distinct is_same_message xs ≡ true → GoesWell true u (flat_map (due_purge w) xs)
all_purged w [] u v h d = nothing_goes true u v
all_purged w (x ∷ xs) u v h d =
    let p = and_parts (not (list_any (is_same_message x) xs)) (are_distinct is_same_message xs) d in
    purged_by w x xs u (is_spent w x) refl v h (none_is x xs (not-true (list_any (is_same_message x) xs) p.0)) (λ y yv k. all_purged w xs y yv k p.1)

-- due work of slots takes no message off
kind_takes_none : (id : ℕ) (k : Kind) (named slot moment : ℕ) → list_any (takes_off id) (changes_by k named slot moment) ≡ false
kind_takes_none id nothing named slot moment = refl
kind_takes_none id expires named slot moment = refl
kind_takes_none id readies named slot moment = refl

slots_take_none : (id : ℕ) (w : Watch) (m : MsgRow) → list_any (takes_off id) (due_slots w m) ≡ false
slots_take_none id w m =
    any_flat (takes_off id) (λ slot. due_slot w m slot (slot_of m slot)) (λ slot. ap (list_any (takes_off id)) (due_slot_is w m slot (slot_of m slot)) ∙ kind_takes_none id (kind_in w m slot (slot_of m slot)) m.id slot w.moment) (slot_numbers m)

spent_handled : (w : Watch) (m : MsgRow) → is_spent w m ≡ true → is_handled m ≡ true
spent_handled w m h = (and_parts (is_handled m) (not (is_taken m) || nat_le (last_taken m + retention_of w.tables m) w.moment) h).0

-- ---- all that is due

undone_goes : (w : Watch) → is_valid w.tables ≡ true → w.tables.latest ≤ w.moment → w.moment ≤ MOMENT_LIMIT → GoesWell true (at_latest w.moment w.tables) (undone w)
undone_goes w v le top =
    let t = w.tables in
    let u = at_latest w.moment t in
    let d = valid_distinct t v in
    let here = are_in t.messages d in
    let slots = all_slots t w v t.messages u (later_is_valid t w.moment le v top) refl (alike_later t w.moment) here here d in
    let cs = flat_map (due_slots w) t.messages in
    goes_on true u cs (flat_map (due_purge w) t.messages) slots.goes
    (all_purged w t.messages (after_all u cs) slots.goes.valid
    (λ i e lt spent.
    let m = get_or t.messages i e in
    slots.goes.rests m.id (any_flat (takes_off m.id) (due_slots w) (slots_take_none m.id w) t.messages)
    (finished_of u m.id m (here i e lt) (handled_finished m (valid_closed t m.id m v (here i e lt)) (spent_handled w m spent)))) d)

pub due_goes : (t : Tables) (sessions : List Session) (db : DbId) (sent : Option SlotRef) (moment : ℕ) → is_valid t ≡ true → t.latest ≤ moment → moment ≤ MOMENT_LIMIT → GoesWell true (at_latest moment t) (due t sessions db sent moment)
unfolding due
due_goes t sessions db sent moment v le top =
    let w : Watch = record { tables = t; sessions = sessions; db = db; sent = sent; moment = moment } in
    goes_settled true (at_latest moment t) (undone w) (undone_goes w v le top)

pub due_fits : (t : Tables) (sessions : List Session) (db : DbId) (sent : Option SlotRef) (moment : ℕ) → is_valid t ≡ true → t.latest ≤ moment → moment ≤ MOMENT_LIMIT
    → fits t (record { moment = moment; changes = due t sessions db sent moment }) ≡ true
due_fits t sessions db sent moment v le top = fits_if_goes true t moment (due t sessions db sent moment) le (due_goes t sessions db sent moment v le top)
