-- What an enqueue adds is right for its queue and table.
use Rattle.std.proofs.Common.{◌≡◌, ◌≤◌, ◌<◌, ◌+◌, ◌-◌, ℕ, suc, List, [], ◌∷◌, ◌++◌, Bool, true, false, not, length, take, refl, sym, ap, ◌∙◌, subst, arith, Option, Some, None, Result, Ok, Err, ◌==◌, ◌&&◌, ◌||◌, ℤ, length-append}
use Rattle.std.specs.Prelude.{map, nat_le, nat_lt, pos, neg_ℤ, int_le, is_some, is_none, option_and_then, slice_get, if◌then◌else◌}
use Rattle.std.specs.List.{list_any, list_all}
use Rattle.std.specs.Option.{option_map_or}
use Rattle.std.specs.Ordering.{int_cmp, is_eq}
use Rattle.std.specs.Str.{bytes_eq}
use Rattle.std.specs.Cmp.Lexicographic.{bytes_decides}
use Rattle.std.proofs.lemmas.Bool.{and_parts, and_from, le-leb, leb-true, leb-false, ltb-true, ltb-false, eqb-false, false≢true, true≢false}
use Rattle.std.proofs.lemmas.Cmp.{tied_itself, int_cmp_total}
use Rattle.std.proofs.lemmas.List.{length-map}
use Rattle.std.proofs.lemmas.List.Elements.{All-cons, All-nil}
use Rattle.std.proofs.lemmas.Option.{none-some}
use Rattle.aq_base.specs.declared.DbId.{DbId}
use Rattle.aq_base.specs.declared.limits.TheConstants.{MOMENT_LIMIT, NEXT_LIMIT, RECIPIENT_LIMIT}
use Rattle.payload_records.specs.Order.{is_in_order}
use Rattle.payload_records.specs.Props.{are_props}
use Rattle.payload_records.specs.Record.{record_of}
use Rattle.payload_records.specs.declared.TheConstants.{PROP_LIMIT}
use Rattle.payload_records.specs.declared.record.PayloadFault.{PayloadFault}
use Rattle.payload_records.specs.declared.record.Record.{Record}
use Rattle.place_keys.specs.Place.{put_before, before_count, last_number}
use Rattle.place_keys.specs.declared.place.TheConstants.{BEFORE_LIMIT}
use Rattle.place_keys.specs.declared.sort_list.Column.{Column}
use Rattle.queue_rows.specs.Rows.{find_table, find_queue, find_message}
use Rattle.queue_rows.specs.Tables.{lane_of}
use Rattle.queue_rows.specs.Settling.{is_exception, is_open}
use Rattle.queue_rows.specs.Commits.{place_of, column_value, has_before, commit_of}
use Rattle.queue_rows.specs.Recipients.{names_recipients, recipients, is_same_agent}
use Rattle.queue_rows.specs.Session.{Session, is_same_db}
use Rattle.queue_rows.specs.Meaning.{answers, unparked}
use Rattle.queue_rows.specs.Enqueueing as q
use Rattle.queue_rows.specs.Distinct.{are_distinct}
use Rattle.queue_rows.specs.Within.{is_within, are_props_within, is_prop_within}
use Rattle.queue_rows.specs.Valid.{is_valid, is_valid_queue, has_right_lowest, is_right_queue, has_right_ids, has_right_slots, is_valid_message, is_valid_message_at, is_valid_message_in, has_right_place, has_right_lane, has_right_cells, has_right_props, is_same_recipient, is_nameless}
use Rattle.queue_rows.specs.declared.tables.Tables.{Tables}
use Rattle.queue_rows.specs.declared.rows.TableRow.{TableRow}
use Rattle.queue_rows.specs.declared.rows.QueueRow.{QueueRow}
use Rattle.queue_rows.specs.declared.rows.MsgRow.{MsgRow}
use Rattle.queue_rows.specs.declared.rows.SlotRow.{SlotRow}
use Rattle.queue_rows.specs.declared.session.Agent.{Agent}
use Rattle.queue_rows.specs.declared.session.Pending.TheVariants.{Add}
use Rattle.queue_rows.specs.declared.change.Change.{Change}
use Rattle.queue_rows.specs.declared.reply.Reply.{Reply}
use Rattle.queue_rows.specs.declared.statement.Enqueue.{Enqueue}
use Rattle.queue_rows.specs.declared.statement.MsgId.{MsgId}
use Rattle.queue_rows.specs.declared.statement.Statement.TheVariants as statements
use Rattle.queue_rows.specs.declared.statement.Visibility.{Visibility}
use Rattle.queue_rows.specs.declared.statement.Visibility.TheVariants.{OnCommit, Immediate}
use Rattle.row_laws.proofs.Slots.{get_behind}
use Rattle.valid_laws.specs.PendingLaws.{IsAdditionRight, IsPendingRight, count_passed, MayCommit, is_untried}
use Rattle.valid_laws.proofs.Parts.{and_l, and_r, all_found, parts_of, valid_messages, valid_id}
use Rattle.valid_laws.proofs.Lowering.{numbers_of}
use Rattle.valid_laws.proofs.Completing.{depth_known, placed_right}
use Rattle.valid_laws.proofs.Pending.{pending_fits, first_group}
use Rattle.statement_laws.specs.EnqueueLaws.{has_ordered_fields, AddsNothing, AddsIn, Adds}
use Rattle.statement_laws.proofs.Among.{Says, says_if, says_so, Each}
use Rattle.statement_laws.proofs.Agents.{all_each, each_mapped, distinct_mapped, IsNamed, AreAgents, recipients_are}
use Rattle.statement_laws.proofs.Cells.{cells_right}

-- ---- places

last_of : (xs : List ℤ) (z : ℤ) → last_number (xs ++ z ∷ []) ≡ Some z
last_of xs z =
    let n : length (xs ++ z ∷ []) - 1 ≡ length xs = rw length-append (omega arith) in
    ap (slice_get (xs ++ z ∷ [])) n ∙ get_behind (λ (k : ℤ). k) xs z

place_length : (lane : ℤ) (sort : List Column) (p : ℤ) (e c id : ℕ) → length (place_of lane sort p e c id) ≡ length sort + 2
place_length lane sort p e c id =
    let f : Column → ℤ = column_value p e c in
    let a : length (map f sort ++ pos id ∷ []) ≡ length (map f sort) + 1 = length-append (map f sort) (pos id ∷ []) in
    let b : length (map f sort) ≡ length sort = length-map sort f in
    let g : length (place_of lane sort p e c id) ≡ suc (length (map f sort ++ pos id ∷ [])) = refl in
    omega (arith, a, b, g)

is_self : (id : ℕ) → is_eq (int_cmp (pos id) (pos id)) ≡ true
is_self id = ap is_eq (tied_itself int_cmp_total (pos id))

-- a place that has room becomes one behind which the id stands
behind_right : (n id : ℕ) (place : List ℤ) → n + 2 ≤ length place → before_count n place < BEFORE_LIMIT
    → (nat_le (n + 2) (length (put_before place (pos id))) && nat_le (length (put_before place (pos id))) (n + 2 + BEFORE_LIMIT)
    && option_map_or (λ last. is_eq (int_cmp last (pos id))) (last_number (put_before place (pos id))) false) ≡ true
behind_right n id place long room =
    let e : length (place ++ pos id ∷ []) ≡ length place + 1 = length-append place (pos id ∷ []) in
    let r : length place - (n + 2) < BEFORE_LIMIT = room in
    and_from (nat_le (n + 2) (length (place ++ pos id ∷ [])) && nat_le (length (place ++ pos id ∷ [])) (n + 2 + BEFORE_LIMIT)) (option_map_or (λ last. is_eq (int_cmp last (pos id))) (last_number (place ++ pos id ∷ [])) false)
    (and_from (nat_le (n + 2) (length (place ++ pos id ∷ []))) (nat_le (length (place ++ pos id ∷ [])) (n + 2 + BEFORE_LIMIT)) (le-leb (n + 2) (length (place ++ pos id ∷ [])) (omega (arith, e, long))) (le-leb (length (place ++ pos id ∷ [])) (n + 2 + BEFORE_LIMIT) (omega (arith, e, long, r))))
    (ap (λ o. option_map_or (λ last. is_eq (int_cmp last (pos id))) o false) (last_of place (pos id)) ∙ is_self id)

-- the first number stays the first
lane_stays : (n : ℕ) (place : List ℤ) (z : ℤ) → n + 2 ≤ length place → lane_of (put_before place z) ≡ lane_of place
lane_stays n [] z h = absurd (let no : n + 2 ≤ 0 = h in omega arith)
lane_stays n (x ∷ xs) z h = refl

-- ---- the message before which it is to stand

pub record IsBeside (table : TableRow) (queue : QueueRow) (m : MsgRow) : Type 0 where
  pub place : has_right_place table m ≡ true
  pub lane : has_right_lane table queue m ≡ true

eight_of : (a b c d e f g h : Bool) → (a && b && c && d && e && f && g && h) ≡ true → (d ≡ true) × (e ≡ true)
eight_of a b c d e f g h v = (search (and_l, and_r) depth 9, search (and_l, and_r) depth 9)

module _ (t : Tables) (v : is_valid t ≡ true) (name : List ℕ) (queue : QueueRow) (table : TableRow) (queue_is : find_queue t name ≡ Some queue) (table_is : find_table t queue.table ≡ Some table) where
  beside_of : (m : MsgRow) → is_valid_message_in t queue (Some table) m ≡ true → IsBeside table queue m
  beside_of m h =
      let p = eight_of (is_right_queue m queue) (has_right_cells table m) (has_right_ids t m) (has_right_place table m) (has_right_lane table queue m) (has_right_props m) (nat_le m.enq t.latest) (has_right_slots t table queue m) h in
      record { place = p.0; lane = p.1 }

  beside_in : (id : ℕ) (m : MsgRow) → find_message t id ≡ Some m → bytes_eq m.queue name ≡ true → IsBeside table queue m
  beside_in id m e h =
      let valid : is_valid_message t m ≡ true = all_found (is_valid_message t) (λ r. r.id == id) t.messages m (valid_messages t v) e in
      let there : find_queue t m.queue ≡ Some queue = ap (find_queue t) ((bytes_decides m.queue name).0 h) ∙ queue_is in
      let at : is_valid_message_at t (Some queue) m ≡ true = sym (ap (λ o. is_valid_message_at t o m) there) ∙ valid in
      beside_of m (sym (ap (λ o. is_valid_message_in t queue o m) table_is) ∙ at)

  relative_by : (id : ℕ) (m r : MsgRow) (b : Bool) → q.is_relative name m ≡ b → find_message t id ≡ Some m → (if b then Some m else None) ≡ Some r → IsBeside table queue r
  relative_by id m r true g e h =
      let same : m ≡ r = cc in
      let p = and_parts (bytes_eq m.queue name && not m.moved) (list_any (λ s. is_open s.state) m.slots) g in
      subst (IsBeside table queue) same (beside_in id m e (and_parts (bytes_eq m.queue name) (not m.moved) p.0).0)
  relative_by id m r false g e h = absurd (none-some r h)

  relative_some : (id : ℕ) (o : Option MsgRow) (r : MsgRow) → find_message t id ≡ o → option_and_then (q.relative_if name) o ≡ Some r → IsBeside table queue r
  relative_some id None r e h = absurd (none-some r h)
  relative_some id (Some m) r e h = relative_by id m r (q.is_relative name m) refl e h

  relative_at : (id : MsgId) (b : Bool) (r : MsgRow) → option_and_then (q.relative_if name) (if b then find_message t id.number else None) ≡ Some r → IsBeside table queue r
  relative_at id true r h = relative_some id.number (find_message t id.number) r refl h
  relative_at id false r h = absurd (none-some r h)

  relative_beside : (db : DbId) (o : Option MsgId) (r : MsgRow) → option_and_then (q.relative_named t db name) o ≡ Some r → IsBeside table queue r × (is_some o ≡ true)
  relative_beside db None r h = absurd (none-some r h)
  relative_beside db (Some id) r h = (relative_at id (is_same_db id.db db) r h, refl)

-- ---- recipients

take_all : {X : Type 0} (xs : List X) → take (length xs) xs ≡ xs
take_all [] = refl
take_all (x ∷ xs) = ap (λ l. x ∷ l) (take_all xs)

each_of : {X : Type 0} (Q : X → Type 0) → ((x : X) → Q x) → (xs : List X) → Each Q xs
each_of Q f [] = tt
each_of Q f (x ∷ xs) = (f x, each_of Q f xs)

module _ (multi : Bool) (ask : Enqueue) (moment : ℕ) (agents : List Agent) (are : AreAgents multi agents) where
  abbrev slots : List SlotRow
  slots = map (q.new_slot ask moment) agents

  distinct_slots : are_distinct is_same_recipient (take (length slots) slots) ≡ true
  distinct_slots = ap (are_distinct is_same_recipient) (take_all slots)
      ∙ distinct_mapped (q.new_slot ask moment) (λ a. Unit {0}) is_same_agent is_same_recipient (λ x y _ _ e. e) agents (each_of (λ a. Unit {0}) (λ a. tt) agents) are.distinct

  counted : 1 ≤ length agents → length agents ≤ RECIPIENT_LIMIT → (nat_le 1 (length slots) && nat_le (length slots) RECIPIENT_LIMIT && are_distinct is_same_recipient (take (length slots) slots)) ≡ true
  counted some few =
      let e : length slots ≡ length agents = length-map agents (q.new_slot ask moment) in
      and_from (nat_le 1 (length slots) && nat_le (length slots) RECIPIENT_LIMIT) (are_distinct is_same_recipient (take (length slots) slots))
      (and_from (nat_le 1 (length slots)) (nat_le (length slots) RECIPIENT_LIMIT) (le-leb 1 (length slots) (omega (arith, e, some))) (le-leb (length slots) RECIPIENT_LIMIT (omega (arith, e, few)))) distinct_slots

  untried_slots : list_all is_untried slots ≡ true
  untried_slots = all_each is_untried slots (each_mapped (q.new_slot ask moment) (λ s. is_untried s ≡ true) agents (each_of (λ a. is_untried (q.new_slot ask moment a) ≡ true) (λ a. refl) agents))

names_right : (multi : Bool) (ask : Enqueue) (moment : ℕ) (agents : List Agent) → Each (IsNamed multi) agents
    → (if multi then list_all (λ s. is_some s.name) (take (length (map (q.new_slot ask moment) agents)) (map (q.new_slot ask moment) agents)) else list_all is_nameless (map (q.new_slot ask moment) agents)) ≡ true
names_right true ask moment agents h =
    ap (list_all (λ s. is_some s.name)) (take_all (map (q.new_slot ask moment) agents))
    ∙ all_each (λ s. is_some s.name) (map (q.new_slot ask moment) agents) (each_mapped (q.new_slot ask moment) (λ s. is_some s.name ≡ true) agents h)
names_right false ask moment agents h = all_each is_nameless (map (q.new_slot ask moment) agents) (each_mapped (q.new_slot ask moment) (λ s. is_nameless s ≡ true) agents h)

-- ---- limits

props_right : (ask : Enqueue) → is_within (statements.Enqueue ask) ≡ true → (nat_le (length ask.props) PROP_LIMIT && are_props ask.props) ≡ true
unfolding is_within
props_right ask h =
    let p : are_props_within ask.props ≡ true = (and_parts _ (are_props_within ask.props) h).1 in
    (and_parts (nat_le (length ask.props) PROP_LIMIT && are_props ask.props) (list_all is_prop_within ask.props) p).0

none_there : (t : Tables) (id : ℕ) (o : Option MsgRow) → is_valid t ≡ true → find_message t id ≡ o → t.next ≤ id → o ≡ None
none_there t id None v e le = refl
none_there t id (Some m) v e le = absurd (let x = valid_id t id m v e in omega (arith, x))

first_id : (t : Tables) → is_valid t ≡ true → 1 ≤ t.next
first_id t v = let a = first_group t v in let b = (numbers_of t v).below in omega (arith, a, b)

lowest_part : (u : Tables) (r : QueueRow) → is_valid_queue u r ≡ true → has_right_lowest u r ≡ true
lowest_part u r h = search (and_l, and_r)

pub lowest_at_least : (u : Tables) (name : List ℕ) (r : QueueRow) → is_valid u ≡ true → find_queue u name ≡ Some r → int_le (neg_ℤ (pos u.next)) r.lowest ≡ true
lowest_at_least u name r v e =
    let h : is_valid_queue u r ≡ true = all_found (is_valid_queue u) (λ x. bytes_eq x.name name) u.queues r (parts_of u v).queues e in
    let l : has_right_lowest u r ≡ true = lowest_part u r h in
    (and_parts (int_le r.lowest (pos 0)) (int_le (neg_ℤ (pos u.next)) r.lowest) l).1

-- an id that the tables have not passed
not_below : (id next : ℕ) (b : Bool) → nat_lt id next ≡ b → next ≤ id → nat_lt id next ≡ false
not_below id next true g h = absurd (let x = ltb-true id next g in omega (arith, x, h))
not_below id next false g h = g

pub not_passed : (t : Tables) (next : ℕ) (m : MsgRow) → t.next ≤ next → m.id ≡ next → count_passed t.next (Add m ∷ []) ≡ 0
not_passed t next m up e = ap (λ b. (if b then 1 else 0) + 0) (not_below m.id t.next (nat_lt m.id t.next) refl (omega (arith, e, up)))

-- ---- the message

module _ (t : Tables) (s : Session) (ask : Enqueue) (next moment : ℕ) (v : is_valid t ≡ true) (ordered : has_ordered_fields t ≡ true) (le : t.latest ≤ moment) (top : moment ≤ MOMENT_LIMIT) (up : t.next ≤ next) (within : is_within (statements.Enqueue ask) ≡ true) where
  abbrev Right : Reply → List Change → Session → Type 0
  Right reply cs after = Adds reply ask t s next moment cs after

  untouched : AddsNothing s [] (unparked s)
  untouched = record { none = refl; pending = refl; marks = refl }

  module _ (queue : QueueRow) (table : TableRow) (queue_is : find_queue t ask.queue ≡ Some queue) (table_is : find_table t queue.table ≡ Some table) (normal : is_exception queue.kind ≡ false) (cells : Record) (cells_are : record_of table.fields ask.payload ≡ Ok cells) where
    abbrev agents : List Agent
    agents = recipients t table ask cells

    abbrev row : Option MsgRow → MsgRow
    row relative = q.addition table ask cells agents relative next moment

    fields_ordered : is_in_order table.fields ≡ true
    fields_ordered = all_found (λ x. is_in_order x.fields) (λ r. bytes_eq r.name queue.table) t.tables table ordered table_is

    place_of_row : (relative : Option MsgRow) → q.relative_of t s.at ask ≡ relative → q.is_too_deep table relative ≡ false → has_right_place table (row relative) ≡ true
    place_of_row None e deep = placed_right table (q.lane_until_commit ask) moment (row None)
    place_of_row (Some r) e deep =
        let b = (relative_beside t v ask.queue queue table queue_is table_is s.at ask.before r e).0 in
        let p = and_parts (nat_le (length table.columns + 2) (length r.place) && nat_le (length r.place) (length table.columns + 2 + BEFORE_LIMIT)) (option_map_or (λ last. is_eq (int_cmp last (pos r.id))) (last_number r.place) false) b.place in
        let long : length table.columns + 2 ≤ length r.place = leb-true (length table.columns + 2) (length r.place) (and_parts (nat_le (length table.columns + 2) (length r.place)) (nat_le (length r.place) (length table.columns + 2 + BEFORE_LIMIT)) p.0).0 in
        behind_right (length table.columns) next r.place long (leb-false BEFORE_LIMIT (before_count (length table.columns) r.place) deep)

    lane_of_row : (relative : Option MsgRow) → q.relative_of t s.at ask ≡ relative → (table.grouped && (is_some ask.before || ask.top)) ≡ false → has_before table.columns (row relative).place ≡ true → int_le queue.lowest (lane_of (row relative).place) ≡ true
    lane_of_row None e g h =
        let n = place_length (q.lane_until_commit ask) table.columns ask.priority moment moment next in
        let lt : length table.columns + 2 < length (place_of (q.lane_until_commit ask) table.columns ask.priority moment moment next) = ltb-true (length table.columns + 2) (length (place_of (q.lane_until_commit ask) table.columns ask.priority moment moment next)) h in
        absurd (omega (arith, n, lt))
    lane_of_row (Some r) e g h =
        let x = relative_beside t v ask.queue queue table queue_is table_is s.at ask.before r e in
        let p = and_parts (nat_le (length table.columns + 2) (length r.place) && nat_le (length r.place) (length table.columns + 2 + BEFORE_LIMIT)) (option_map_or (λ last. is_eq (int_cmp last (pos r.id))) (last_number r.place) false) x.0.place in
        let long : length table.columns + 2 ≤ length r.place = leb-true (length table.columns + 2) (length r.place) (and_parts (nat_le (length table.columns + 2) (length r.place)) (nat_le (length r.place) (length table.columns + 2 + BEFORE_LIMIT)) p.0).0 in
        let off : table.grouped ≡ false = not_grouped table.grouped (is_some ask.before) ask.top x.1 g in
        let l : int_le queue.lowest (lane_of r.place) ≡ true = sym (ap (λ b. b || int_le queue.lowest (lane_of r.place)) off) ∙ x.0.lane in
        ap (int_le queue.lowest) (lane_stays (length table.columns) r.place (pos next) long) ∙ l
      where
        not_grouped : (a b c : Bool) → b ≡ true → (a && (b || c)) ≡ false → a ≡ false
        not_grouped false b c h k = refl
        not_grouped true true c h k = absurd (true≢false k)
        not_grouped true false c h k = absurd (false≢true h)

    row_right : (relative : Option MsgRow) → q.relative_of t s.at ask ≡ relative → (table.grouped && (is_some ask.before || ask.top)) ≡ false → q.is_too_deep table relative ≡ false
        → (length agents == 0) ≡ false → nat_lt RECIPIENT_LIMIT (length agents) ≡ false → nat_le NEXT_LIMIT next ≡ false → IsAdditionRight t moment (row relative)
    row_right relative e grouped deep some few ids =
        let are = recipients_are t v table ask cells in
        let ne = eqb-false (length agents) 0 some in
        let most = ltb-false RECIPIENT_LIMIT (length agents) few in
        let first = first_id t v in
        record {
          queue = queue;
          table = table;
          new = none_there t next (find_message t next) v refl up;
          queue_is = queue_is;
          table_is = table_is;
          normal = normal;
          unmoved = refl;
          typed = cells_right table.fields ask.payload cells fields_ordered cells_are;
          place = place_of_row relative e deep;
          lane = lane_of_row relative e grouped;
          props = props_right ask within;
          recipients = counted table.multi ask moment agents are (omega (arith, ne)) most;
          names = names_right table.multi ask moment agents are.named;
          untried = untried_slots table.multi ask moment agents are;
          entered = omega arith;
          id = omega (arith, first, up);
          id_within = leb-false NEXT_LIMIT next ids;
        }

    -- ---- it is added

    may_add : (m : MsgRow) → m.id ≡ next → IsAdditionRight t moment m → MayCommit t moment (Add m ∷ [])
    may_add m e k = record {
      right = All-cons (IsPendingRight t moment) (Add m) [] k (All-nil (IsPendingRight t moment));
      apart = λ i j d lt at. absurd (let no : j < 1 = at in omega (arith, lt));
      lanes = λ name row g. let n = not_passed t next m up e in let x = depth_known t.next row.lowest (lowest_at_least t name row v g) in omega (arith, n, x);
      groups = λ some. absurd (let n = not_passed t next m up e in omega (arith, n, some));
    }

    adds_in : (m : MsgRow) → m.id ≡ next → m.queue ≡ ask.queue → IsAdditionRight t moment m → (visibility : Visibility) → ask.visibility ≡ visibility → Says Right (q.add visibility t s m moment)
    adds_in m e w k OnCommit g = record {
      message = m;
      id_is = ap (λ n. record { db = s.at; number = n }) e;
      number_is = e;
      queue_is = w;
      right = k;
      adds = subst (λ x. AddsIn x t s m moment [] (record s { pending = s.pending ++ Add m ∷ []; parked = None })) (sym g) (record { none = refl; pending = refl; marks = refl });
    }
    adds_in m e w k Immediate g = record {
      message = m;
      id_is = ap (λ n. record { db = s.at; number = n }) e;
      number_is = e;
      queue_is = w;
      right = k;
      adds = subst (λ x. AddsIn x t s m moment (commit_of t moment (Add m ∷ [])) (unparked s)) (sym g) (record { commits = refl; fit = pending_fits t moment (Add m ∷ []) v le top (may_add m e k); pending = refl; marks = refl });
    }

    for_so : (relative : Option MsgRow) → q.relative_of t s.at ask ≡ relative → Says Right (q.enqueue_for t s table ask cells agents relative next moment)
    for_so relative e =
        says_if Right (names_recipients ask && not table.multi) _ _ (λ _. untouched) (λ _.
        says_if Right (q.names_bad_exception t table ask) _ _ (λ _. untouched) (λ _.
        says_if Right (table.grouped && (is_some ask.before || ask.top)) _ _ (λ _. untouched) (λ grouped.
        says_if Right (is_some ask.before && is_none relative) _ _ (λ _. untouched) (λ _.
        says_if Right (q.is_too_deep table relative) _ _ (λ _. untouched) (λ deep.
        says_if Right (length agents == 0) _ _ (λ _. untouched) (λ some.
        says_if Right (nat_lt RECIPIENT_LIMIT (length agents)) _ _ (λ _. untouched) (λ few.
        says_if Right (nat_le NEXT_LIMIT next) _ _ (λ _. untouched) (λ ids.
        adds_in (row relative) refl refl (row_right relative e grouped deep some few ids) ask.visibility refl))))))))

  cells_so : (queue : QueueRow) (table : TableRow) → find_queue t ask.queue ≡ Some queue → find_table t queue.table ≡ Some table → is_exception queue.kind ≡ false
      → (r : Result Record PayloadFault) → record_of table.fields ask.payload ≡ r → Says Right (q.enqueue_cells t s table ask r next moment)
  cells_so queue table e g n (Err fault) h = untouched
  cells_so queue table e g n (Ok cells) h = for_so queue table e g n cells h (q.relative_of t s.at ask) refl

  typed_so : (queue : QueueRow) → find_queue t ask.queue ≡ Some queue → is_exception queue.kind ≡ false → (o : Option TableRow) → find_table t queue.table ≡ o → Says Right (q.enqueue_typed t s o ask next moment)
  typed_so queue e n None g = untouched
  typed_so queue e n (Some table) g = cells_so queue table e g n (record_of table.fields ask.payload) refl

  into_so : (o : Option QueueRow) → find_queue t ask.queue ≡ o → Says Right (q.enqueue_into t s o ask next moment)
  into_so None e = untouched
  into_so (Some queue) e =
      says_if Right (is_exception queue.kind) _ _ (λ _. untouched) (λ normal.
      says_if Right (not queue.enqueue) _ _ (λ _. untouched) (λ _.
      typed_so queue e normal (find_table t queue.table) refl))

  adds_so : Says Right (q.enqueue t s ask next moment)
  unfolding q.enqueue
  adds_so = into_so (find_queue t ask.queue) refl

pub enqueue_adds_right : (t : Tables) (s : Session) (ask : Enqueue) (next moment : ℕ) (reply : Reply) (cs : List Change) (after : Session) → is_valid t ≡ true → has_ordered_fields t ≡ true → t.latest ≤ moment → moment ≤ MOMENT_LIMIT → t.next ≤ next
    → is_within (statements.Enqueue ask) ≡ true → q.enqueue t s ask next moment ≡ answers reply cs after → Adds reply ask t s next moment cs after
enqueue_adds_right t s ask next moment reply cs after v o le top up w e =
    says_so (Right t s ask next moment v o le top up w) (q.enqueue t s ask next moment) reply cs after (adds_so t s ask next moment v o le top up w) e
