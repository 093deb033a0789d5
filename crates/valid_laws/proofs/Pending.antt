-- What a session commits goes well, one pending change after another.
use Rattle.std.proofs.Common.{◌⊎◌, inl, inr, ◌≡◌, ◌≤◌, ◌<◌, ◌+◌, ℕ, suc, List, [], ◌∷◌, Bool, true, false, max, refl, sym, ap, ◌∙◌, subst, arith, Option, Some, None, ◌==◌}
use Rattle.std.specs.Prelude.{nat_le, nat_lt, flat_map, option_map, pos, neg_ℤ, int_le, All, AllPairs, get_or, if◌then◌else◌}
use Rattle.std.specs.Option.{option_map_or}
use Rattle.std.specs.Str.{bytes_eq}
use Rattle.std.proofs.lemmas.Bool.{ne_eqb, and_parts, leb-true, ltb-true, ltb-false, lt-ltb, not-true}
use Rattle.std.proofs.lemmas.Option.{none-some}
use Rattle.std.proofs.lemmas.List.Elements.{All-head, All-tail, All-cons, All-nil}
use Rattle.aq_base.specs.declared.limits.TheConstants.{MOMENT_LIMIT}
use Rattle.queue_rows.specs.Rows.{find_message, find_queue, find_table}
use Rattle.queue_rows.specs.Tables.{after_change, after_all, in_state, lowered, lane_of}
use Rattle.queue_rows.specs.Settling.{is_exception, settling, names_of}
use Rattle.queue_rows.specs.Commits.{place_at_commit, completed_in, completed_by, completed, changes_from, commit_of}
use Rattle.queue_rows.specs.Valid.{is_valid, is_valid_queue, has_right_lowest, has_right_numbers}
use Rattle.queue_rows.specs.Fits.{fits}
use Rattle.queue_rows.specs.declared.tables.Tables.{Tables}
use Rattle.queue_rows.specs.declared.rows.QueueRow.{QueueRow}
use Rattle.queue_rows.specs.declared.rows.MsgRow.{MsgRow}
use Rattle.queue_rows.specs.declared.rows.SlotState.TheVariants as states
use Rattle.queue_rows.specs.declared.session.Pending.{Pending}
use Rattle.queue_rows.specs.declared.session.Pending.TheVariants.{Add, Remove}
use Rattle.queue_rows.specs.declared.change.Change.TheVariants as changes
use Rattle.row_laws.proofs.Finding.{find_other_last}
use Rattle.row_laws.proofs.Latest.{at_latest}
use Rattle.row_laws.proofs.Queues.{lowered_name, lowered_seen}
use Rattle.valid_laws.specs.Openness.{is_open_slot, is_open_at}
use Rattle.valid_laws.specs.ValidLaws.{PutsRight}
use Rattle.valid_laws.specs.Touching.{is_put_in}
use Rattle.valid_laws.specs.PendingLaws.{IsAdditionRight, IsPendingRight, AreApart, count_passed, depth_of, HasRoom, MayCommit}
use Rattle.valid_laws.proofs.Parts.{and_l, and_r, all_found, parts_of}
use Rattle.valid_laws.proofs.Opened.{open_at, open_stays, none_stays}
use Rattle.valid_laws.proofs.Framing.{lowered_le, lowered_depth, other_id, settled_none, room_less, room_put}
use Rattle.valid_laws.proofs.Keeping.{later_is_valid}
use Rattle.valid_laws.proofs.Lowering.{le_trans_z, le_refl_z, find_either, numbers_of}
use Rattle.valid_laws.proofs.Completing.{depth_within, depth_known, lane_depth, place_right, row, slots_right}
use Rattle.valid_laws.proofs.Going.{GoesWell, nothing_goes, goes_on, goes_one, goes_behind, goes_settled, after_append, fits_if_goes}

-- ---- lists

module _ {X : Type 0} (R : X → X → Type 0) where
  pub pairs-head : (x : X) (xs : List X) → AllPairs R (x ∷ xs) → All (R x) xs
  pairs-head x xs h = λ k d lt. h 0 (suc k) d (omega arith) (omega (arith, lt))

  pub pairs-tail : (x : X) (xs : List X) → AllPairs R (x ∷ xs) → AllPairs R xs
  pairs-tail x xs h = λ i j d lt le. h (suc i) (suc j) d (omega (arith, lt)) (omega (arith, le))

  pub pairs-one : (x : X) → AllPairs R (x ∷ [])
  pairs-one x = λ i j d lt le. absurd (let no : j < 1 = le in omega arith)

-- ---- numbers

not_below : (a b : ℕ) (t : Bool) → nat_lt a b ≡ t → b ≤ a → nat_lt a b ≡ false
not_below a b true e h = absurd (let x = ltb-true a b e in omega (arith, x, h))
not_below a b false e h = e

passed_none : (m : MsgRow) (n : ℕ) (rest : List Pending) → All (AreApart (Add m)) rest → n ≤ m.id + 1 → count_passed n rest ≡ 0
passed_none m n [] h le = refl
passed_none m n (Add b ∷ more) h le =
    let lt : m.id < b.id = All-head (AreApart (Add m)) (Add b) more h in
    let out : nat_lt b.id n ≡ false = not_below b.id n (nat_lt b.id n) refl (omega (arith, lt, le)) in
    let ih = passed_none m n more (All-tail (AreApart (Add m)) (Add b) more h) le in
    let e : count_passed n (Add b ∷ more) ≡ 0 + count_passed n more = ap (λ c. (if c then 1 else 0) + count_passed n more) out in
    omega (arith, e, ih)
passed_none m n (Remove id slot ∷ more) h le = passed_none m n more (All-tail (AreApart (Add m)) (Remove id slot) more h) le

-- ---- what stands of what is still pending

pub record Stands (group moment : ℕ) (rest : List Pending) (u : Tables) : Type 0 where
  pub valid : is_valid u ≡ true
  pub latest : u.latest ≡ moment
  pub right : All (IsPendingRight u moment) rest
  pub apart : AllPairs AreApart rest
  pub lanes : (name : List ℕ) (queue : QueueRow) → find_queue u name ≡ Some queue → count_passed u.next rest + depth_of queue.lowest ≤ u.next
  pub begun : group ≤ u.next
  pub groups : 0 < count_passed u.next rest → group < u.next
  pub transaction : u.transaction ≤ group + 1
  pub first : 1 ≤ group

-- ---- a removal

addition_stays : (u : Tables) (moment id slot at : ℕ) (m : MsgRow) → IsAdditionRight u moment m → IsAdditionRight (after_change u (changes.Done id slot at)) moment m
addition_stays u moment id slot at m k = record {
  queue = k.queue;
  table = k.table;
  new = none_stays (in_state states.Processed at) u id slot m.id k.new;
  queue_is = k.queue_is;
  table_is = k.table_is;
  normal = k.normal;
  unmoved = k.unmoved;
  typed = k.typed;
  place = k.place;
  lane = k.lane;
  props = k.props;
  recipients = k.recipients;
  names = k.names;
  untried = k.untried;
  entered = k.entered;
  id = k.id;
  id_within = k.id_within;
}

right_behind_removal : (u : Tables) (moment id slot at : ℕ) (p : Pending) → IsPendingRight u moment p → AreApart (Remove id slot) p → IsPendingRight (after_change u (changes.Done id slot at)) moment p
right_behind_removal u moment id slot at (Add m) k d = addition_stays u moment id slot at m k
right_behind_removal u moment id slot at (Remove other behind) k d = open_stays (in_state states.Processed at) u id slot other behind d k

removal_goes : (group moment id slot : ℕ) (more : List Pending) (u : Tables) → Stands group moment (Remove id slot ∷ more) u → GoesWell true u (changes.Done id slot moment ∷ [])
removal_goes group moment id slot more u s =
    goes_one true u (changes.Done id slot moment) s.valid
    (record { is_open_there = All-head (IsPendingRight u moment) (Remove id slot) more s.right; in_time = omega (arith, s.latest) }) refl (λ _. refl)

behind_removal : (group moment id slot : ℕ) (more : List Pending) (u : Tables) → Stands group moment (Remove id slot ∷ more) u → Stands group moment more (after_change u (changes.Done id slot moment))
behind_removal group moment id slot more u s =
    let right = All-tail (IsPendingRight u moment) (Remove id slot) more s.right in
    let apart = pairs-head AreApart (Remove id slot) more s.apart in
    record {
      valid = (removal_goes group moment id slot more u s).valid;
      latest = s.latest;
      right = λ k d lt. right_behind_removal u moment id slot moment (get_or more k d) (right k d lt) (apart k d lt);
      apart = pairs-tail AreApart (Remove id slot) more s.apart;
      lanes = s.lanes;
      begun = s.begun;
      groups = s.groups;
      transaction = s.transaction;
      first = s.first;
    }

-- ---- an addition

completed_is : (u : Tables) (group moment : ℕ) (m : MsgRow) (k : IsAdditionRight u moment m) → completed u group moment m ≡ row u k.table k.queue group moment m
completed_is u group moment m k = ap (λ o. completed_by u o group moment m) k.queue_is ∙ ap (λ o. completed_in o k.queue group moment m) k.table_is

lowest_part : (u : Tables) (q : QueueRow) → is_valid_queue u q ≡ true → has_right_lowest u q ≡ true
lowest_part u q h = search (and_l, and_r)

lowest_at_most : (u : Tables) (name : List ℕ) (q : QueueRow) → is_valid u ≡ true → find_queue u name ≡ Some q → int_le q.lowest (pos 0) ≡ true
lowest_at_most u name q v e =
    let h : is_valid_queue u q ≡ true = all_found (is_valid_queue u) (λ r. bytes_eq r.name name) u.queues q (parts_of u v).queues e in
    let l : has_right_lowest u q ≡ true = lowest_part u q h in
    (and_parts (int_le q.lowest (pos 0)) (int_le (neg_ℤ (pos u.next)) q.lowest) l).0

room_by : (id next c depth : ℕ) (b : Bool) → nat_lt id next ≡ b → (if b then 1 else 0) + c + depth ≤ next → depth + 1 ≤ max next (id + 1)
room_by id next c depth true e h = omega arith
room_by id next c depth false e h = let x = ltb-false id next e in omega arith

group_by : (id next c group transaction : ℕ) (b : Bool) → nat_lt id next ≡ b → (0 < (if b then 1 else 0) + c → group < next) → group ≤ next → group + 1 ≤ max next (id + 1)
group_by id next c group transaction true e h le = let x : group < next = h (omega arith) in omega (arith, x)
group_by id next c group transaction false e h le = let x = ltb-false id next e in omega arith

max_most : (a b c : ℕ) → a ≤ b → b ≤ c → max a b ≤ c
max_most a b c h g = omega arith

lanes_by : (id next c d dk e : ℕ) (b : Bool) → nat_lt id next ≡ b → (if b then 1 else 0) + c + d ≤ next → (if b then 1 else 0) + c + dk ≤ next → e ≤ max d (dk + 1)
    → (n : ℕ) → (b ≡ true → n ≡ c) → (b ≡ false → n ≡ 0) → n + e ≤ max next (id + 1)
lanes_by id next c d dk e true g h k l n if_passed if_not = let x : n ≡ c = if_passed refl in omega (arith, x)
lanes_by id next c d dk e false g h k l n if_passed if_not = let x : n ≡ 0 = if_not refl in let y = ltb-false id next g in omega (arith, x, y)

passed_stay : (n k : ℕ) (rest : List Pending) → n ≡ k → count_passed n rest ≡ count_passed k rest
passed_stay n k rest e = ap (λ j. count_passed j rest) e

module _ (group moment : ℕ) (m : MsgRow) (more : List Pending) (u : Tables) (s : Stands group moment (Add m ∷ more) u) (k : IsAdditionRight u moment m) where
  abbrev pub added : MsgRow
  added = row u k.table k.queue group moment m

  lane_known : depth_of (lane_of (place_at_commit k.table k.queue group moment m)) ≤ depth_of k.queue.lowest + 1
  lane_known = lane_depth k.table k.queue group moment m (lowest_at_most u m.queue k.queue s.valid k.queue_is) k.lane

  room : depth_of k.queue.lowest + 1 ≤ max u.next (m.id + 1)
  room = room_by m.id u.next (count_passed u.next more) (depth_of k.queue.lowest) (nat_lt m.id u.next) refl (s.lanes m.queue k.queue k.queue_is)

  group_room : group + 1 ≤ max u.next (m.id + 1)
  group_room = group_by m.id u.next (count_passed u.next more) group u.transaction (nat_lt m.id u.next) refl s.groups s.begun

  lane_within : depth_of (lane_of (place_at_commit k.table k.queue group moment m)) ≤ max u.next (m.id + 1)
  lane_within = omega (arith, lane_known, room)

  entered_by : m.enq ≤ u.latest
  entered_by = let a = k.entered in let b = s.latest in omega (arith, a, b)

  puts : PutsRight u added
  puts = record {
    queue = k.queue;
    table = k.table;
    new = k.new;
    queue_is = k.queue_is;
    table_is = k.table_is;
    normal = k.normal;
    unmoved = k.unmoved;
    typed = k.typed;
    place = place_right k.table k.queue group moment m k.place;
    lane = λ g. depth_within (max u.next (m.id + 1)) (lane_of (place_at_commit k.table k.queue group moment m)) lane_within;
    props = k.props;
    slots = slots_right u k.table k.queue group moment m k.unmoved k.recipients k.names k.untried s.latest;
    entered = entered_by;
    id = k.id;
    id_within = k.id_within;
    group = s.first;
    groups = max_most u.transaction (group + 1) (max u.next (m.id + 1)) s.transaction group_room;
  }

  addition_goes : GoesWell true u (changes.Enqueued added ∷ [])
  addition_goes = goes_one true u (changes.Enqueued added) s.valid puts refl (λ _. refl)

  abbrev then_tables : Tables
  then_tables = after_change u (changes.Enqueued added)

  other_found : (id : ℕ) → (m.id == id) ≡ false → find_message then_tables id ≡ find_message u id
  other_found id e = find_other_last (λ x. x.id == id) u.messages added e

  either : (name : List ℕ) → (find_queue then_tables name ≡ find_queue u name) ⊎ (find_queue then_tables name ≡ option_map (lowered u added) (find_queue u name))
  either name = find_either (λ q. bytes_eq q.name name) (λ q. bytes_eq q.name m.queue) (lowered u added) (λ q. ap (λ n. bytes_eq n name) (lowered_name u added q)) u.queues

  addition_in : (b : MsgRow) (kb : IsAdditionRight u moment b) (q : QueueRow) → find_message then_tables b.id ≡ None → find_queue then_tables b.queue ≡ Some q → q.table ≡ kb.queue.table → q.kind ≡ kb.queue.kind
      → int_le q.lowest kb.queue.lowest ≡ true → IsAdditionRight then_tables moment b
  addition_in b kb q new e ti ki le = record {
    queue = q;
    table = kb.table;
    new = new;
    queue_is = e;
    table_is = ap (find_table u) ti ∙ kb.table_is;
    normal = ap is_exception ki ∙ kb.normal;
    unmoved = kb.unmoved;
    typed = kb.typed;
    place = kb.place;
    lane = λ before. le_trans_z q.lowest kb.queue.lowest (lane_of b.place) le (kb.lane before);
    props = kb.props;
    recipients = kb.recipients;
    names = kb.names;
    untried = kb.untried;
    entered = kb.entered;
    id = kb.id;
    id_within = kb.id_within;
  }

  addition_behind : (b : MsgRow) (kb : IsAdditionRight u moment b) → m.id < b.id
      → (find_queue then_tables b.queue ≡ find_queue u b.queue) ⊎ (find_queue then_tables b.queue ≡ option_map (lowered u added) (find_queue u b.queue)) → IsAdditionRight then_tables moment b
  addition_behind b kb lt (inl e) =
      addition_in b kb kb.queue (other_found b.id (ne_eqb m.id b.id (λ same. absurd (omega (arith, lt, same)))) ∙ kb.new) (e ∙ kb.queue_is) refl refl (le_refl_z kb.queue.lowest)
  addition_behind b kb lt (inr e) =
      addition_in b kb (lowered u added kb.queue) (other_found b.id (ne_eqb m.id b.id (λ same. absurd (omega (arith, lt, same)))) ∙ kb.new) (e ∙ ap (option_map (lowered u added)) kb.queue_is)
      (lowered_seen (λ q. q.table) (λ q n. refl) u added kb.queue) (lowered_seen (λ q. q.kind) (λ q n. refl) u added kb.queue) (lowered_le u added kb.queue)

  right_behind : (p : Pending) → IsPendingRight u moment p → AreApart (Add m) p → IsPendingRight then_tables moment p
  right_behind (Add b) kb lt = addition_behind b kb lt (either b.queue)
  right_behind (Remove id slot) h d =
      let x = open_at u id slot h in
      ap (λ o. option_map_or (is_open_slot slot) o false) (other_found id (not-true (m.id == id) (other_id u m.id id x.message (m.id == id) refl k.new x.found))) ∙ h

  apart_behind : All (AreApart (Add m)) more
  apart_behind = pairs-head AreApart (Add m) more s.apart

  passed_yes : nat_lt m.id u.next ≡ true → count_passed (max u.next (m.id + 1)) more ≡ count_passed u.next more
  passed_yes e = let x = ltb-true m.id u.next e in passed_stay (max u.next (m.id + 1)) u.next more (omega (arith, x))

  passed_no : nat_lt m.id u.next ≡ false → count_passed (max u.next (m.id + 1)) more ≡ 0
  passed_no e = let x = ltb-false m.id u.next e in passed_none m (max u.next (m.id + 1)) more apart_behind (omega (arith, x))

  lanes_of : (name : List ℕ) (q : QueueRow) (e : ℕ) → find_queue u name ≡ Some q → e ≤ max (depth_of q.lowest) (depth_of k.queue.lowest + 1) → count_passed (max u.next (m.id + 1)) more + e ≤ max u.next (m.id + 1)
  lanes_of name q e f le =
      lanes_by m.id u.next (count_passed u.next more) (depth_of q.lowest) (depth_of k.queue.lowest) e (nat_lt m.id u.next) refl (s.lanes name q f) (s.lanes m.queue k.queue k.queue_is) le
      (count_passed (max u.next (m.id + 1)) more) passed_yes passed_no

  depth_then : (q : QueueRow) → depth_of (lowered u added q).lowest ≤ max (depth_of q.lowest) (depth_of k.queue.lowest + 1)
  depth_then q = let a = lowered_depth u added q in let b = lane_known in omega (arith, a, b)

  lanes_in : (name : List ℕ) (q : QueueRow) (o : Option QueueRow) → find_queue u name ≡ o → find_queue then_tables name ≡ Some q → (find_queue then_tables name ≡ o) ⊎ (find_queue then_tables name ≡ option_map (lowered u added) o)
      → count_passed (max u.next (m.id + 1)) more + depth_of q.lowest ≤ max u.next (m.id + 1)
  lanes_in name q None f g (inl e) = absurd (none-some q (sym e ∙ g))
  lanes_in name q None f g (inr e) = absurd (none-some q (sym e ∙ g))
  lanes_in name q (Some x) f g (inl e) =
      let same : x ≡ q = (let h : Some x ≡ Some q = sym e ∙ g in cc) in
      subst (λ y. count_passed (max u.next (m.id + 1)) more + depth_of y.lowest ≤ max u.next (m.id + 1)) same (lanes_of name x (depth_of x.lowest) f (omega arith))
  lanes_in name q (Some x) f g (inr e) =
      let same : lowered u added x ≡ q = (let h : Some (lowered u added x) ≡ Some q = sym e ∙ g in cc) in
      subst (λ y. count_passed (max u.next (m.id + 1)) more + depth_of y.lowest ≤ max u.next (m.id + 1)) same (lanes_of name x (depth_of (lowered u added x).lowest) f (depth_then x))

  behind_addition : Stands group moment more then_tables
  behind_addition = record {
    valid = addition_goes.valid;
    latest = s.latest;
    right = λ i d lt. right_behind (get_or more i d) (All-tail (IsPendingRight u moment) (Add m) more s.right i d lt) (apart_behind i d lt);
    apart = pairs-tail AreApart (Add m) more s.apart;
    lanes = λ name q f. lanes_in name q (find_queue u name) refl f (either name);
    begun = let a = group_room in omega (arith, a);
    groups = λ some. let a = group_room in omega (arith, a);
    transaction = max_most u.transaction (group + 1) (group + 1) s.transaction (omega arith);
    first = s.first;
  }

-- ---- all of it

pub pending_goes : (rest : List Pending) (u : Tables) (group moment : ℕ) → Stands group moment rest u → GoesWell true u (changes_from u group moment rest)
pending_goes [] u group moment s = nothing_goes true u s.valid
pending_goes (Remove id slot ∷ more) u group moment s =
    let c = changes.Done id slot moment in
    goes_on true u (c ∷ []) (changes_from (after_change u c) group moment more) (removal_goes group moment id slot more u s)
    (pending_goes more (after_change u c) group moment (behind_removal group moment id slot more u s))
pending_goes (Add m ∷ more) u group moment s =
    let k : IsAdditionRight u moment m = All-head (IsPendingRight u moment) (Add m) more s.right in
    let c = changes.Enqueued (added group moment m more u s k) in
    subst (λ r. GoesWell true u (changes.Enqueued r ∷ changes_from (after_change u (changes.Enqueued r)) group moment more)) (sym (completed_is u group moment m k))
    (goes_on true u (c ∷ []) (changes_from (after_change u c) group moment more) (addition_goes group moment m more u s k)
    (pending_goes more (after_change u c) group moment (behind_addition group moment m more u s k)))

-- ---- a commit

addition_later : (t : Tables) (moment : ℕ) (m : MsgRow) → IsAdditionRight t moment m → IsAdditionRight (at_latest moment t) moment m
addition_later t moment m k = record {
  queue = k.queue;
  table = k.table;
  new = k.new;
  queue_is = k.queue_is;
  table_is = k.table_is;
  normal = k.normal;
  unmoved = k.unmoved;
  typed = k.typed;
  place = k.place;
  lane = k.lane;
  props = k.props;
  recipients = k.recipients;
  names = k.names;
  untried = k.untried;
  entered = k.entered;
  id = k.id;
  id_within = k.id_within;
}

right_later : (t : Tables) (moment : ℕ) (p : Pending) → IsPendingRight t moment p → IsPendingRight (at_latest moment t) moment p
right_later t moment (Add m) k = addition_later t moment m k
right_later t moment (Remove id slot) h = h

changes_later : (rest : List Pending) (t : Tables) (latest group moment : ℕ) → changes_from (at_latest latest t) group moment rest ≡ changes_from t group moment rest
changes_later [] t latest group moment = refl
changes_later (Add m ∷ more) t latest group moment =
    let c = changes.Enqueued (completed t group moment m) in ap (λ cs. c ∷ cs) (changes_later more (after_change t c) latest group moment)
changes_later (Remove id slot ∷ more) t latest group moment =
    let c = changes.Done id slot moment in ap (λ cs. c ∷ cs) (changes_later more (after_change t c) latest group moment)

pub first_group : (t : Tables) → is_valid t ≡ true → 1 ≤ t.transaction
first_group t v = let h : nat_le 1 t.transaction ≡ true = group_part t (parts_of t v).numbers in leb-true 1 t.transaction h
  where
    group_part : (t : Tables) → has_right_numbers t ≡ true → nat_le 1 t.transaction ≡ true
    group_part t h = search (and_l, and_r) depth 7

stands_first : (t : Tables) (moment : ℕ) (pending : List Pending) → is_valid t ≡ true → t.latest ≤ moment → moment ≤ MOMENT_LIMIT → MayCommit t moment pending → Stands t.transaction moment pending (at_latest moment t)
stands_first t moment pending v le top k = record {
  valid = later_is_valid t moment le v top;
  latest = refl;
  right = λ i d lt. right_later t moment (get_or pending i d) (k.right i d lt);
  apart = k.apart;
  lanes = k.lanes;
  begun = (numbers_of t v).below;
  groups = k.groups;
  transaction = omega arith;
  first = first_group t v;
}

-- what may be committed goes well at its moment, before and with what it settles
pub pending_first : (t : Tables) (moment : ℕ) (pending : List Pending) → is_valid t ≡ true → t.latest ≤ moment → moment ≤ MOMENT_LIMIT → MayCommit t moment pending → GoesWell true (at_latest moment t) (changes_from t t.transaction moment pending)
pending_first t moment pending v le top k =
    subst (GoesWell true (at_latest moment t)) (changes_later pending t moment t.transaction moment) (pending_goes pending (at_latest moment t) t.transaction moment (stands_first t moment pending v le top k))

pub commit_goes : (t : Tables) (moment : ℕ) (pending : List Pending) → is_valid t ≡ true → t.latest ≤ moment → moment ≤ MOMENT_LIMIT → MayCommit t moment pending → GoesWell true (at_latest moment t) (commit_of t moment pending)
commit_goes t moment pending v le top k = goes_settled true (at_latest moment t) (changes_from t t.transaction moment pending) (pending_first t moment pending v le top k)

pub pending_fits : (t : Tables) (moment : ℕ) (pending : List Pending) → is_valid t ≡ true → t.latest ≤ moment → moment ≤ MOMENT_LIMIT → MayCommit t moment pending
    → fits t (record { moment = moment; changes = commit_of t moment pending }) ≡ true
pending_fits t moment pending v le top k = fits_if_goes true t moment (commit_of t moment pending) le (commit_goes t moment pending v le top k)

-- ---- room behind it, for what others hold

passed_first : (m : MsgRow) (n : ℕ) (more : List Pending) → m.id < n → count_passed n (Add m ∷ more) ≡ 1 + count_passed n more
passed_first m n more lt = ap (λ b. (if b then 1 else 0) + count_passed n more) (lt-ltb m.id n lt)

transaction_up : (a b : ℕ) → a ≤ max a b
transaction_up a b = omega arith

room_rest : (rest : List Pending) (u : Tables) (group moment : ℕ) (others : ℕ → ℕ) → Stands group moment rest u → group ≤ u.transaction → HasRoom u (λ n. count_passed n rest + others n) → HasRoom (after_all u (changes_from u group moment rest)) others
room_rest [] u group moment others s g r = room_less u (λ n. count_passed n [] + others n) others (λ n. omega arith) r
room_rest (Remove id slot ∷ more) u group moment others s g r =
    room_rest more (after_change u (changes.Done id slot moment)) group moment others (behind_removal group moment id slot more u s) g (record { lanes = r.lanes; groups = r.groups })
room_rest (Add m ∷ more) u group moment others s g r =
    let k : IsAdditionRight u moment m = All-head (IsPendingRight u moment) (Add m) more s.right in
    let row = added group moment m more u s k in
    subst (λ x. HasRoom (after_all u (changes.Enqueued x ∷ changes_from (after_change u (changes.Enqueued x)) group moment more)) others) (sym (completed_is u group moment m k))
    (room_rest more (after_change u (changes.Enqueued row)) group moment others (behind_addition group moment m more u s k) (let up = transaction_up u.transaction (group + 1) in omega (arith, g, up))
    (room_put u row k.queue k.queue_is (lane_known group moment m more u s k) g (λ n. count_passed n (Add m ∷ more) + others n) (λ n. count_passed n more + others n)
    (λ n le lt. let e = passed_first m n more lt in omega (arith, e)) r))

-- where there was room for what is committed and for what others hold, there is room for theirs behind it
pub commit_leaves_room : (t : Tables) (moment : ℕ) (pending : List Pending) (others : ℕ → ℕ) → is_valid t ≡ true → t.latest ≤ moment → moment ≤ MOMENT_LIMIT → MayCommit t moment pending
    → HasRoom t (λ n. count_passed n pending + others n) → HasRoom (after_all (at_latest moment t) (commit_of t moment pending)) others
commit_leaves_room t moment pending others v le top k r =
    let w = at_latest moment t in
    let cs = changes_from t t.transaction moment pending in
    let first = pending_first t moment pending v le top k in
    let behind : HasRoom (after_all w cs) others =
    subst (λ ds. HasRoom (after_all w ds) others) (changes_later pending t moment t.transaction moment)
    (room_rest pending w t.transaction moment others (stands_first t moment pending v le top k) (omega arith) (record { lanes = r.lanes; groups = r.groups })) in
    subst (λ x. HasRoom x others) (sym (after_append w cs (flat_map (settling w cs) (names_of cs)))) ((goes_behind true w cs first).room (settled_none is_put_in (λ id queue at. refl) (λ id. refl) w cs) others behind)

lowest_at_least : (u : Tables) (name : List ℕ) (q : QueueRow) → is_valid u ≡ true → find_queue u name ≡ Some q → int_le (neg_ℤ (pos u.next)) q.lowest ≡ true
lowest_at_least u name q v e =
    let h : is_valid_queue u q ≡ true = all_found (is_valid_queue u) (λ r. bytes_eq r.name name) u.queues q (parts_of u v).queues e in
    let l : has_right_lowest u q ≡ true = lowest_part u q h in
    (and_parts (int_le q.lowest (pos 0)) (int_le (neg_ℤ (pos u.next)) q.lowest) l).1

-- one removal may be committed where its slot is open
pub removal_may : (t : Tables) (moment id slot : ℕ) → is_valid t ≡ true → is_open_at t id slot ≡ true → MayCommit t moment (Remove id slot ∷ [])
removal_may t moment id slot v o = record {
  right = All-cons (IsPendingRight t moment) (Remove id slot) [] o (All-nil (IsPendingRight t moment));
  apart = pairs-one AreApart (Remove id slot);
  lanes = λ name queue e. let x = depth_known t.next queue.lowest (lowest_at_least t name queue v e) in omega (arith, x);
  groups = λ some. absurd (let no : 0 < 0 = some in omega arith);
}

pub removal_fits : (t : Tables) (moment id slot : ℕ) → is_valid t ≡ true → t.latest ≤ moment → moment ≤ MOMENT_LIMIT → is_open_at t id slot ≡ true
    → fits t (record { moment = moment; changes = commit_of t moment (Remove id slot ∷ []) }) ≡ true
removal_fits t moment id slot v le top o = pending_fits t moment (Remove id slot ∷ []) v le top (removal_may t moment id slot v o)
