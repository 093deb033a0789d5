-- What is dropped with a subscriber goes well.
use Rattle.std.proofs.Common.{◌≡◌, ◌≤◌, ◌+◌, ℕ, zero, suc, List, [], ◌∷◌, ◌++◌, Bool, true, false, not, length, refl, sym, ap, ◌∙◌, subst, arith, Option, Some, None, ◌==◌, ◌&&◌}
use Rattle.std.specs.Prelude.{filter, flat_map, filter_map, slice_get, nat_le, is_some, if◌then◌else◌}
use Rattle.std.specs.List.{cons_option, enumerate_from}
use Rattle.std.specs.Option.{option_map_or}
use Rattle.std.specs.Str.{bytes_eq}
use Rattle.std.proofs.lemmas.Bool.{and_parts, leb-false, ne_eqb, not-true, false≢true}
use Rattle.std.proofs.lemmas.Slice.Eq.{bytes_eq-Decides}
use Rattle.aq_base.specs.declared.DbId.TheVariants.{Home}
use Rattle.aq_base.specs.declared.limits.TheConstants.{MOMENT_LIMIT, SUBSCRIBER_LIMIT}
use Rattle.queue_rows.specs.Rows.{find_message, find_queue, find_table, find_sub, is_sub, table_of, slot_of, has_slot, slot_index}
use Rattle.queue_rows.specs.Tables.{after_change, in_state}
use Rattle.queue_rows.specs.Settling.{is_exception, is_open, settled}
use Rattle.queue_rows.specs.Catalog.{has_subscribers, is_slot_of, dropped_slot, dropped_of, dropped_in}
use Rattle.queue_rows.specs.Recipients.{subscribers_of}
use Rattle.queue_rows.specs.Within.{if_some}
use Rattle.queue_rows.specs.Due.{Watch}
use Rattle.queue_rows.specs.Valid.{is_valid, is_valid_sub, is_right_rule, takes_subscribers, has_subscribers_in}
use Rattle.queue_rows.specs.Fits.{fits}
use Rattle.queue_rows.specs.declared.tables.Tables.{Tables}
use Rattle.queue_rows.specs.declared.rows.TableRow.{TableRow}
use Rattle.queue_rows.specs.declared.rows.QueueRow.{QueueRow}
use Rattle.queue_rows.specs.declared.rows.SubRow.{SubRow}
use Rattle.queue_rows.specs.declared.rows.MsgRow.{MsgRow}
use Rattle.queue_rows.specs.declared.rows.SlotRow.{SlotRow}
use Rattle.queue_rows.specs.declared.rows.SlotState.TheVariants as states
use Rattle.queue_rows.specs.declared.change.Change.{Change}
use Rattle.queue_rows.specs.declared.change.Change.TheVariants as changes
use Rattle.row_laws.proofs.Finding.{filter-yes, filter-no}
use Rattle.row_laws.proofs.Latest.{at_latest}
use Rattle.row_laws.proofs.Slots.{slot_of-has, slot_of-hasnt}
use Rattle.valid_laws.specs.Openness.{is_open_slot}
use Rattle.valid_laws.proofs.Parts.{parts_of, all_found, valid_distinct}
use Rattle.valid_laws.proofs.Keeping.{later_is_valid}
use Rattle.valid_laws.proofs.Going.{GoesWell, goes_on, goes_one, goes_settled, fits_if_goes}
use Rattle.valid_laws.proofs.Retrying.{IsAlike, alike_changed, in_normal_unmoved}
use Rattle.valid_laws.proofs.Undone.{At, Does, DoesAt, does_nothing, here_open, here_unmoved, in_time, changed_at, others_changed, does_append, are_in, all_do}

-- ---- where subscribers are

-- the queue that takes subscribers is there, and a normal one
pub record IsNormalThere (t : Tables) (name : List ℕ) : Type 0 where
  pub queue : QueueRow
  pub queue_is : find_queue t name ≡ Some queue
  pub normal : is_exception queue.kind ≡ false

subscribers_normal : (q : QueueRow) (o : Option TableRow) → has_subscribers q o ≡ true → is_exception q.kind ≡ false
subscribers_normal q None h = absurd (false≢true h)
subscribers_normal q (Some table) h = not-true (is_exception q.kind) (and_parts table.multi (not (is_exception q.kind)) h).1

normal_by : (t : Tables) (name : List ℕ) (o : Option QueueRow) → find_queue t name ≡ o → has_subscribers_in t o ≡ true → IsNormalThere t name
normal_by t name None e h = absurd (false≢true h)
normal_by t name (Some q) e h = record { queue = q; queue_is = e; normal = subscribers_normal q (find_table t q.table) h }

pub normal_of : (t : Tables) (sub : SubRow) → is_valid t ≡ true → find_sub t sub.queue sub.name ≡ Some sub → IsNormalThere t sub.queue
normal_of t sub v e =
    let h : is_valid_sub t sub ≡ true = all_found (is_valid_sub t) (is_sub sub.queue sub.name) t.subs sub (parts_of t v).subs e in
    let p = and_parts (takes_subscribers t sub.queue && nat_le (length (subscribers_of t sub.queue)) SUBSCRIBER_LIMIT) (if_some (is_right_rule (table_of t sub.queue)) sub.rule) h in
    let q = and_parts (takes_subscribers t sub.queue) (nat_le (length (subscribers_of t sub.queue)) SUBSCRIBER_LIMIT) p.0 in
    normal_by t sub.queue (find_queue t sub.queue) refl q.0

-- ---- the slots of an unmoved message, by their numbers

-- from that number on they are those of the list
abbrev pub AreFrom : MsgRow → ℕ → List SlotRow → Type 0
AreFrom m low xs = (j : ℕ) → slot_of m (low + j) ≡ slice_get xs j

past_end : (xs : List SlotRow) (j : ℕ) → length xs ≤ j → slice_get xs j ≡ None
past_end [] j h = refl
past_end (x ∷ xs) zero h = absurd (let no : suc (length xs) ≤ 0 = h in omega arith)
past_end (x ∷ xs) (suc j) h = past_end xs j (let g : suc (length xs) ≤ suc j = h in omega arith)

from_one_by : (m : MsgRow) (j : ℕ) (b : Bool) → nat_le (1 + j) (length m.slots) ≡ b → m.moved ≡ false → slot_of m (1 + j) ≡ slice_get m.slots j
from_one_by m j true e u =
    let no : (1 + j == 0) ≡ false = ne_eqb (1 + j) 0 (λ same. absurd (omega (arith, same))) in
    let has : has_slot m (1 + j) ≡ true = rw (no, u) e in
    let at : slot_index m (1 + j) ≡ j = rw no (omega arith) in
    slot_of-has m (1 + j) has ∙ ap (slice_get m.slots) at
from_one_by m j false e u =
    let no : (1 + j == 0) ≡ false = ne_eqb (1 + j) 0 (λ same. absurd (omega (arith, same))) in
    let hasnt : has_slot m (1 + j) ≡ false = rw (no, u) e in
    let out : length m.slots ≤ j = (let x = leb-false (1 + j) (length m.slots) e in omega (arith, x)) in
    slot_of-hasnt m (1 + j) hasnt ∙ sym (past_end m.slots j out)

pub from_one : (m : MsgRow) → m.moved ≡ false → AreFrom m 1 m.slots
from_one m u j = from_one_by m j (nat_le (1 + j) (length m.slots)) refl u

pub from_next : (m : MsgRow) (low : ℕ) (x : SlotRow) (xs : List SlotRow) → AreFrom m low (x ∷ xs) → AreFrom m (low + 1) xs
from_next m low x xs h j = let e : low + 1 + j ≡ low + suc j = omega arith in ap (slot_of m) e ∙ h (suc j)

pub from_first : (m : MsgRow) (low : ℕ) (x : SlotRow) (xs : List SlotRow) → AreFrom m low (x ∷ xs) → slot_of m low ≡ Some x
from_first m low x xs h = let e : low ≡ low + 0 = omega arith in ap (slot_of m) e ∙ h 0

-- ---- one message

module _ (t : Tables) (w : Watch) (x : MsgRow) (unmoved : x.moved ≡ false) (x_is : find_message t x.id ≡ Some x) (sub : SubRow) where
  drop_does : (slot : ℕ) (u : Tables) → At t w x unmoved x_is slot u → is_open_slot slot x ≡ true → DoesAt t w x unmoved x_is (slot + 1) u (changes.Dropped x.id slot w.moment ∷ [])
  drop_does slot u a o =
      let goes = goes_one true u (changes.Dropped x.id slot w.moment) a.valid
      (record { changes_open = record { is_open_there = here_open t w x unmoved x_is slot u a o; in_time = in_time t w x unmoved x_is slot u a }; unmoved = here_unmoved t w x unmoved x_is u a.alike }) refl (λ _. refl) in
      record {
        does = record { goes = goes; alike = alike_changed t u x.id slot (in_state states.Dropped w.moment) a.alike; others = others_changed t w x unmoved x_is slot (in_state states.Dropped w.moment) u };
        at = changed_at t w x unmoved x_is slot (in_state states.Dropped w.moment) u a goes.valid;
      }

  at_next : (slot : ℕ) (u : Tables) → At t w x unmoved x_is slot u → At t w x unmoved x_is (slot + 1) u
  at_next slot u a = record { valid = a.valid; latest = a.latest; alike = a.alike; row = a.row; found = a.found; above = λ b le. a.above b (omega (arith, le)) }

  drop_by : (low : ℕ) (y : SlotRow) (rest : List Change) (u : Tables) (b : Bool) → (is_slot_of sub y && is_open y.state) ≡ b → At t w x unmoved x_is low u → slot_of x low ≡ Some y
      → ((v : Tables) → At t w x unmoved x_is (low + 1) v → Does t x v rest) → Does t x u (cons_option (if b then Some (changes.Dropped x.id low w.moment) else None) rest)
  drop_by low y rest u true e a s ih =
      let open_y = (and_parts (is_slot_of sub y) (is_open y.state) e).1 in
      let o : is_open_slot low x ≡ true = ap (λ z. option_map_or (λ r. is_open r.state) z false) s ∙ open_y in
      let one = drop_does low u a o in
      does_append t w x unmoved x_is u (changes.Dropped x.id low w.moment ∷ []) rest one.does (ih (after_change u (changes.Dropped x.id low w.moment)) one.at)
  drop_by low y rest u false e a s ih = ih u (at_next low u a)

  drops_do : (xs : List SlotRow) (low : ℕ) (u : Tables) → At t w x unmoved x_is low u → AreFrom x low xs → Does t x u (filter_map (dropped_slot sub w.moment x.id) (enumerate_from low xs))
  drops_do [] low u a h = does_nothing t x u a.valid a.alike
  drops_do (y ∷ ys) low u a h =
      drop_by low y (filter_map (dropped_slot sub w.moment x.id) (enumerate_from (low + 1) ys)) u (is_slot_of sub y && is_open y.state) refl a (from_first x low y ys h)
      (λ v b. drops_do ys (low + 1) v b (from_next x low y ys h))

-- ---- all of them

if_filter_step : (q : MsgRow → Bool) (F : MsgRow → List Change) (x : MsgRow) (xs : List MsgRow) (b : Bool) → q x ≡ b → flat_map F (filter q xs) ≡ flat_map (λ m. if q m then F m else []) xs
    → flat_map F (filter q (x ∷ xs)) ≡ flat_map (λ m. if q m then F m else []) (x ∷ xs)
if_filter_step q F x xs true e ih = ap (flat_map F) (filter-yes (λ m. q m) q x xs e) ∙ ap (λ cs. F x ++ cs) ih ∙ ap (λ c. (if c then F x else []) ++ flat_map (λ m. if q m then F m else []) xs) (sym e)
if_filter_step q F x xs false e ih = ap (flat_map F) (filter-no (λ m. q m) q x xs e) ∙ ih ∙ ap (λ c. (if c then F x else []) ++ flat_map (λ m. if q m then F m else []) xs) (sym e)

if_filter : (q : MsgRow → Bool) (F : MsgRow → List Change) (xs : List MsgRow) → flat_map F (filter q xs) ≡ flat_map (λ m. if q m then F m else []) xs
if_filter q F [] = refl
if_filter q F (x ∷ xs) = if_filter_step q F x xs (q x) refl (if_filter q F xs)

drop_if : (t : Tables) (sub : SubRow) (moment : ℕ) → is_valid t ≡ true → IsNormalThere t sub.queue → (x : MsgRow) (b : Bool) → bytes_eq x.queue sub.queue ≡ b → find_message t x.id ≡ Some x → (u : Tables) → is_valid u ≡ true → u.latest ≡ moment → IsAlike t u → find_message u x.id ≡ Some x
    → Does t x u (if b then dropped_of sub moment x else [])
drop_if t sub moment tv n x true e f u v l k g =
    let w : Watch = record { tables = t; sessions = []; db = Home; sent = None; moment = moment } in
    let named : find_queue t x.queue ≡ Some n.queue = ap (find_queue t) ((bytes_eq-Decides x.queue sub.queue).0 e) ∙ n.queue_is in
    let unmoved = in_normal_unmoved t x.id x n.queue tv f named n.normal in
    drops_do t w x unmoved f sub x.slots 1 u (record { valid = v; latest = l; alike = k; row = x; found = g; above = λ b le. refl }) (from_one x unmoved)
drop_if t sub moment tv n x false e f u v l k g = does_nothing t x u v k

alike_without : (t : Tables) (moment : ℕ) (queue name : List ℕ) → IsAlike t (after_change (at_latest moment t) (changes.DropSub queue name))
alike_without t moment queue name = record { queues = λ n. refl; rows = λ id m e. record { row = m; is_row = e; queue = refl; moved = refl } }

removal_goes_well : (t : Tables) (sub : SubRow) (moment : ℕ) → is_valid t ≡ true → t.latest ≤ moment → moment ≤ MOMENT_LIMIT → find_sub t sub.queue sub.name ≡ Some sub
    → GoesWell true (at_latest moment t) (changes.DropSub sub.queue sub.name ∷ dropped_in t sub moment)
removal_goes_well t sub moment v le top e =
    let u = at_latest moment t in
    let c = changes.DropSub sub.queue sub.name in
    let g = goes_one true u c (later_is_valid t moment le v top) (ap is_some e) refl (λ _. refl) in
    let d = valid_distinct t v in
    let here = are_in t.messages d in
    let all = all_do t moment (λ m. if bytes_eq m.queue sub.queue then dropped_of sub moment m else [])
    (λ x f y yv l k h. drop_if t sub moment v (normal_of t sub v e) x (bytes_eq x.queue sub.queue) refl f y yv l k h)
    t.messages (after_change u c) g.valid refl (alike_without t moment sub.queue sub.name) here here d in
    goes_on true u (c ∷ []) (dropped_in t sub moment) g
    (subst (GoesWell true (after_change u c)) (sym (if_filter (λ m. bytes_eq m.queue sub.queue) (dropped_of sub moment) t.messages)) all.goes)

pub subscriber_goes : (t : Tables) (sub : SubRow) (moment : ℕ) → is_valid t ≡ true → t.latest ≤ moment → moment ≤ MOMENT_LIMIT → find_sub t sub.queue sub.name ≡ Some sub
    → GoesWell true (at_latest moment t) (settled t (changes.DropSub sub.queue sub.name ∷ dropped_in t sub moment))
subscriber_goes t sub moment v le top e = goes_settled true (at_latest moment t) (changes.DropSub sub.queue sub.name ∷ dropped_in t sub moment) (removal_goes_well t sub moment v le top e)

pub subscriber_removal_fits : (t : Tables) (sub : SubRow) (moment : ℕ) → is_valid t ≡ true → t.latest ≤ moment → moment ≤ MOMENT_LIMIT → find_sub t sub.queue sub.name ≡ Some sub
    → fits t (record { moment = moment; changes = settled t (changes.DropSub sub.queue sub.name ∷ dropped_in t sub moment) }) ≡ true
subscriber_removal_fits t sub moment v le top e = fits_if_goes true t moment (settled t (changes.DropSub sub.queue sub.name ∷ dropped_in t sub moment)) le (subscriber_goes t sub moment v le top e)
