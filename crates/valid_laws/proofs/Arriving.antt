-- What propagation commits goes well.
use Rattle.std.proofs.Common.{◌≡◌, ◌≤◌, ◌<◌, ◌+◌, ℕ, List, [], ◌∷◌, Bool, true, false, max, refl, sym, ap, ◌∙◌, subst, arith, Option, Some, None, ◌==◌, ◌&&◌}
use Rattle.std.specs.Prelude.{nat_le, option_and_then, is_some, is_none, pos, if◌then◌else◌}
use Rattle.std.specs.List.{list_any, list_all}
use Rattle.std.proofs.lemmas.Bool.{eqb-true, eq-eqb, ne_eqb, eqb-false, and_from, or_parts, or_from, le-leb}
use Rattle.aq_base.specs.declared.limits.TheConstants.{MOMENT_LIMIT}
use Rattle.queue_rows.specs.Rows.{find_message, find_table, table_of}
use Rattle.queue_rows.specs.Tables.{after_change}
use Rattle.queue_rows.specs.Propagating.{Parcel, copy_slot, copy_of, taken_in_by, taken_in, is_pair, recovering, confirming}
use Rattle.queue_rows.specs.Within.{if_some, is_span, is_time}
use Rattle.queue_rows.specs.Valid.{is_valid, is_same_seen, is_valid_schedule, has_right_failures, takes_subscribers, has_right_slots, has_right_recipients, has_right_names, is_right_if_moved, has_right_retries, has_allowed_retries, has_begun}
use Rattle.queue_rows.specs.Fits.{fits}
use Rattle.queue_rows.specs.declared.tables.Tables.{Tables}
use Rattle.queue_rows.specs.declared.rows.MsgRow.{MsgRow}
use Rattle.queue_rows.specs.declared.rows.SeenRow.{SeenRow}
use Rattle.queue_rows.specs.declared.rows.ScheduleRow.{ScheduleRow}
use Rattle.queue_rows.specs.declared.history.SlotRef.{SlotRef}
use Rattle.queue_rows.specs.declared.change.Change.TheVariants as changes
use Rattle.row_laws.proofs.Latest.{at_latest}
use Rattle.valid_laws.specs.Openness.{is_open_at}
use Rattle.valid_laws.specs.ValidLaws.{PutsRight, Sees}
use Rattle.valid_laws.specs.PendingLaws.{depth_of}
use Rattle.valid_laws.specs.ArrivalLaws.{MayTakeIn}
use Rattle.valid_laws.proofs.Parts.{six_parts, six_from, valid_id}
use Rattle.valid_laws.proofs.Keeping.{later_is_valid}
use Rattle.valid_laws.proofs.Lowering.{numbers_of}
use Rattle.valid_laws.proofs.Completing.{depth_within, placed_right}
use Rattle.valid_laws.proofs.Pending.{first_group}
use Rattle.valid_laws.proofs.Going.{GoesWell, nothing_goes, goes_on, goes_one, goes_settled, fits_if_goes}

-- ---- a copy

not_there : (t : Tables) (id : ℕ) (o : Option MsgRow) → find_message t id ≡ o → is_valid t ≡ true → t.next ≤ id → o ≡ None
not_there t id None e v le = refl
not_there t id (Some m) e v le = absurd (let lt : id < t.next = valid_id t id m v e in omega (arith, lt, le))

pub copy_lane_by : (group : ℕ) (b : Bool) → depth_of (if b then pos group else pos 0) ≤ 0
copy_lane_by group true = omega arith
copy_lane_by group false = omega arith

copy_names_by : (b : Bool) (name : Option (List ℕ)) → (b ≡ true → is_some name ≡ true)
    → (if b then (is_some (if b then name else None) && true) else ((is_none (if b then name else None) && true) && true)) ≡ true
copy_names_by true name h = and_from (is_some name) true (h refl) refl
copy_names_by false name h = refl

same_back_by : (a b : ℕ) (c : Bool) → (a == b) ≡ c → (b == a) ≡ c
same_back_by a b true e = eq-eqb b a (sym (eqb-true a b e))
same_back_by a b false e = ne_eqb b a (λ same. eqb-false a b e (sym same))

same_back : (a b : ℕ) → (b == a) ≡ (a == b)
same_back a b = same_back_by a b (a == b) refl

-- a pair that was not seen is none of those seen, asked either way
none_back : (at : SlotRef) (copy : ℕ) (xs : List SeenRow) → list_any (is_pair at.id at.slot) xs ≡ false → list_any (is_same_seen (record { id = at.id; slot = at.slot; copy = copy })) xs ≡ false
none_back at copy [] h = refl
none_back at copy (x ∷ xs) h =
    let q = or_parts (is_pair at.id at.slot x) (list_any (is_pair at.id at.slot) xs) h in
    or_from ((at.id == x.id) && (at.slot == x.slot)) (list_any (is_same_seen (record { id = at.id; slot = at.slot; copy = copy })) xs)
    (ap (λ b. b && (at.slot == x.slot)) (same_back x.id at.id) ∙ ap (λ b. (x.id == at.id) && b) (same_back x.slot at.slot) ∙ q.0) (none_back at copy xs q.1)

module _ (t : Tables) (at : SlotRef) (p : Parcel) (next moment : ℕ) (v : is_valid t ≡ true) (latest : t.latest ≡ moment) (k : MayTakeIn t at p next moment) where
  abbrev pub copy : MsgRow
  copy = copy_of k.table p next t.transaction moment

  copy_slots : has_right_slots t k.table k.queue copy ≡ true
  copy_slots =
      six_from (has_right_recipients copy) (has_right_names k.table copy) (is_right_if_moved copy) (list_all has_right_retries copy.slots) (list_all (has_allowed_retries k.queue) (copy_slot k.table p moment ∷ [])) (list_all (has_begun t.latest) copy.slots)
      refl (copy_names_by k.table.multi p.name k.named) refl refl
      (and_from (nat_le 0 k.queue.max_retries) true (le-leb 0 k.queue.max_retries (omega arith)) refl)
      (and_from (nat_le moment t.latest) true (le-leb moment t.latest (omega (arith, latest))) refl)

  copy_puts : PutsRight t copy
  copy_puts = record {
    queue = k.queue;
    table = k.table;
    new = not_there t next (find_message t next) refl v k.next_up;
    queue_is = k.queue_is;
    table_is = k.table_is;
    normal = k.normal;
    unmoved = refl;
    typed = k.typed;
    place = placed_right k.table (if k.table.grouped then pos t.transaction else pos 0) moment copy;
    lane = λ g. depth_within (max t.next (next + 1)) (if k.table.grouped then pos t.transaction else pos 0) (let d = copy_lane_by t.transaction k.table.grouped in omega (arith, d));
    props = k.props;
    slots = copy_slots;
    entered = omega (arith, latest);
    id = let a = first_group t v in let b = (numbers_of t v).below in let c = k.next_up in omega (arith, a, b, c);
    id_within = k.within;
    group = first_group t v;
    groups = let b = (numbers_of t v).below in let c = k.next_up in omega (arith, b, c);
  }

  copy_goes : GoesWell true t (changes.Enqueued copy ∷ [])
  copy_goes = goes_one true t (changes.Enqueued copy) v copy_puts refl (λ _. refl)

  abbrev seen_row : SeenRow
  seen_row = record { id = at.id; slot = at.slot; copy = next }

  abbrev then_tables : Tables
  then_tables = after_change t (changes.Enqueued copy)

  seen_keeps : Sees then_tables seen_row
  seen_keeps = record {
    unseen = none_back at next t.seen k.unseen;
    behind = k.unseen;
    copy = omega arith;
  }

  pub arrival_goes : GoesWell true t (changes.Enqueued copy ∷ changes.Seen seen_row ∷ [])
  arrival_goes = goes_on true t (changes.Enqueued copy ∷ []) (changes.Seen seen_row ∷ []) copy_goes (goes_one true then_tables (changes.Seen seen_row) copy_goes.valid seen_keeps refl (λ _. refl))

may_later : (t : Tables) (at : SlotRef) (p : Parcel) (next moment : ℕ) → MayTakeIn t at p next moment → MayTakeIn (at_latest moment t) at p next moment
may_later t at p next moment k = record {
  queue = k.queue;
  table = k.table;
  queue_is = k.queue_is;
  table_is = k.table_is;
  normal = k.normal;
  typed = k.typed;
  props = k.props;
  named = k.named;
  next_up = k.next_up;
  within = k.within;
  unseen = k.unseen;
}

pub taken_in_goes : (there : Tables) (at : SlotRef) (p : Parcel) (next moment : ℕ) → is_valid there ≡ true → there.latest ≤ moment → moment ≤ MOMENT_LIMIT → MayTakeIn there at p next moment → GoesWell true (at_latest moment there) (taken_in there at p next moment)
unfolding taken_in may_later
taken_in_goes there at p next moment v le top k =
    let u = at_latest moment there in
    let found : table_of there p.to ≡ Some k.table = ap (option_and_then (λ q. find_table there q.table)) k.queue_is ∙ k.table_is in
    subst (λ o. GoesWell true (at_latest moment there) (taken_in_by there at p next moment o)) (sym found)
    (arrival_goes u at p next moment (later_is_valid there moment le v top) refl (may_later there at p next moment k))

pub arrival_fits : (there : Tables) (at : SlotRef) (p : Parcel) (next moment : ℕ) → is_valid there ≡ true → there.latest ≤ moment → moment ≤ MOMENT_LIMIT → MayTakeIn there at p next moment
    → fits there (record { moment = moment; changes = taken_in there at p next moment }) ≡ true
arrival_fits there at p next moment v le top k = fits_if_goes true there moment (taken_in there at p next moment) le (taken_in_goes there at p next moment v le top k)

-- ---- a confirmation

no_failures : (b : Bool) → nat_le 0 (if b then 15 else 16) ≡ true
no_failures true = refl
no_failures false = refl

recovered_valid : (t : Tables) (s : ScheduleRow) → is_valid_schedule t s ≡ true → is_valid_schedule t (record s { failures = 0 }) ≡ true
recovered_valid t s h =
    let p = six_parts (takes_subscribers t s.queue) (has_right_failures s) (nat_le s.start MOMENT_LIMIT) (if_some is_span s.duration) (if_some is_span s.period) (is_time s.latency) h in
    six_from (takes_subscribers t s.queue) (nat_le 0 (if s.enabled then 15 else 16)) (nat_le s.start MOMENT_LIMIT) (if_some is_span s.duration) (if_some is_span s.period) (is_time s.latency)
    p.0 (no_failures s.enabled) p.2 p.3 p.4 p.5

recovering_by : (u : Tables) (s : ScheduleRow) (b : Bool) → is_valid u ≡ true → is_valid_schedule u (record s { failures = 0 }) ≡ true → GoesWell true u (if b then [] else changes.PutSchedule (record s { failures = 0 }) ∷ [])
recovering_by u s true v k = nothing_goes true u v
recovering_by u s false v k = goes_one true u (changes.PutSchedule (record s { failures = 0 })) v k refl (λ _. refl)

confirming_goes : (u : Tables) (at : SlotRef) (s : ScheduleRow) (moment : ℕ) → is_valid u ≡ true → u.latest ≡ moment → is_open_at u at.id at.slot ≡ true → is_valid_schedule u s ≡ true → GoesWell true u (changes.Done at.id at.slot moment ∷ recovering s)
confirming_goes u at s moment v l o k =
    let c = changes.Done at.id at.slot moment in
    let g = goes_one true u c v (record { is_open_there = o; in_time = omega (arith, l) }) refl (λ _. refl) in
    goes_on true u (c ∷ []) (recovering s) g (recovering_by (after_change u c) s (s.failures == 0) g.valid (recovered_valid u s k))

pub confirmation_goes : (t : Tables) (at : SlotRef) (schedule : ScheduleRow) (moment : ℕ) → is_valid t ≡ true → t.latest ≤ moment → moment ≤ MOMENT_LIMIT → is_open_at t at.id at.slot ≡ true → is_valid_schedule t schedule ≡ true
    → GoesWell true (at_latest moment t) (confirming t at schedule moment)
unfolding confirming
confirmation_goes t at schedule moment v le top o k =
    goes_settled true (at_latest moment t) (changes.Done at.id at.slot moment ∷ recovering schedule) (confirming_goes (at_latest moment t) at schedule moment (later_is_valid t moment le v top) refl o k)

pub confirmation_fits : (t : Tables) (at : SlotRef) (schedule : ScheduleRow) (moment : ℕ) → is_valid t ≡ true → t.latest ≤ moment → moment ≤ MOMENT_LIMIT → is_open_at t at.id at.slot ≡ true → is_valid_schedule t schedule ≡ true
    → fits t (record { moment = moment; changes = confirming t at schedule moment }) ≡ true
confirmation_fits t at schedule moment v le top o k = fits_if_goes true t moment (confirming t at schedule moment) le (confirmation_goes t at schedule moment v le top o k)
