-- Changes that go well one after another, and what settling adds to them.
use Rattle.std.proofs.Common.{◌≡◌, ◌≤◌, max, ℕ, List, [], ◌∷◌, ◌++◌, Bool, true, false, not, refl, sym, ap, ◌∙◌, subst, arith, Option, Some, None, ◌==◌, ◌&&◌, ◌||◌}
use Rattle.std.specs.Prelude.{fold, flat_map, nat_le, option_map, option_and_then, is_some, pos, if◌then◌else◌}
use Rattle.std.specs.List.{list_any, list_all}
use Rattle.std.proofs.lemmas.Bool.{eqb-true, eqb-false, eq-eqb, ne_eqb, leb-true, le-leb, and_parts, and_from, or_left, or_right, or_parts, or_from, not-true, not_from_false, false≢true}
use Rattle.std.proofs.lemmas.Option.{none-some}
use Rattle.std.proofs.lemmas.List.Sums.{fold-append}
use Rattle.queue_rows.specs.Rows.{find_message, find_queue, exception_name}
use Rattle.queue_rows.specs.Tables.{after_change, after_all, after, lowered}
use Rattle.queue_rows.specs.Settling.{is_exception_of, named_by, with_name, names_of, named_or_default, exception_queue_in, exception_queue_of, is_lost, is_handled, is_kept_by_none, settling_of, settling, settled, message_after, moment_by, last_moment, left_by, is_open, is_expired}
use Rattle.queue_rows.specs.Distinct.{are_distinct}
use Rattle.std.specs.Str.{bytes_eq}
use Rattle.queue_rows.specs.Fits.{fits, names_what_is_there, all_name_what_is_there}
use Rattle.queue_rows.specs.Valid.{is_valid}
use Rattle.queue_rows.specs.declared.tables.Tables.{Tables}
use Rattle.queue_rows.specs.declared.rows.MsgRow.{MsgRow}
use Rattle.queue_rows.specs.declared.rows.QueueRow.{QueueRow}
use Rattle.queue_rows.specs.declared.change.Change.{Change}
use Rattle.queue_rows.specs.declared.change.Change.TheVariants as changes
use Rattle.row_laws.proofs.Latest.{at_latest, is_counters, change_at_latest, latest_stays}
use Rattle.row_laws.proofs.Messages.{id_found, finds_left}
use Rattle.row_laws.proofs.Distinctly.{single_if_distinct}
use Rattle.row_laws.proofs.Queues.{queue_seen, find_seen, lowered_name, lowered_seen}
use Rattle.valid_laws.specs.Openness.{is_open_at, is_finished_at, may_move}
use Rattle.valid_laws.specs.Touching.{is_of_slot, puts_in, is_put_in, puts_below, takes_off, closes, is_proper, are_proper}
use Rattle.valid_laws.specs.PendingLaws.{HasRoom}
use Rattle.valid_laws.specs.ValidLaws.{Keeps, AllKeep, keeps_queues, MovesRight}
use Rattle.valid_laws.proofs.Parts.{valid_distinct}
use Rattle.valid_laws.proofs.Runs.{run, run_append, left_step, is_of, some_id, run_other}
use Rattle.valid_laws.proofs.Ending.{own_settling}
use Rattle.valid_laws.proofs.Leaving.{run_none}
use Rattle.valid_laws.proofs.Exceptions.{home_of, exit_of}
use Rattle.valid_laws.proofs.Fitting.{change_keeps_valid}
use Rattle.valid_laws.proofs.Framing.{handled_finished, leaves_there, IsLowered, lowered_self, new_one, rests_one, next_one, room_one, spares_one, proper_one, lower_one, tables_one}
use Rattle.valid_laws.proofs.Lowering.{le_trans_z}
use Rattle.valid_laws.proofs.Opened.{finished_of}
use Rattle.valid_laws.proofs.Still.{valid_closed}

-- ---- queues but for their lowest lanes

abbrev pub but_lane : QueueRow → QueueRow
but_lane q = record q { lowest = pos 0 }

-- they have the same queues, but for lowest lanes
abbrev pub HasQueues : Tables → Tables → Type 0
HasQueues t u = (name : List ℕ) → option_map but_lane (find_queue u name) ≡ option_map but_lane (find_queue t name)

exception_blind : (table : List ℕ) (o : Option QueueRow) → is_exception_of table o ≡ is_exception_of table (option_map but_lane o)
exception_blind table None = refl
exception_blind table (Some q) = refl

exception_same : (t u : Tables) → HasQueues t u → (table name : List ℕ) → is_exception_of table (find_queue u name) ≡ is_exception_of table (find_queue t name)
exception_same t u h table name = exception_blind table (find_queue u name) ∙ ap (is_exception_of table) (h name) ∙ sym (exception_blind table (find_queue t name))

named_same : (t u : Tables) → HasQueues t u → (table : List ℕ) (o : Option (List ℕ)) → named_or_default u table o ≡ named_or_default t table o
named_same t u h table None = refl
named_same t u h table (Some name) = ap (λ b. if b then name else exception_name table) (exception_same t u h table name)

queue_in_same : (t u : Tables) → HasQueues t u → (m : MsgRow) (o : Option QueueRow) → exception_queue_in u m o ≡ exception_queue_in t m o
queue_in_same t u h m None = refl
queue_in_same t u h m (Some q) = named_same t u h q.table m.exception

queue_in_blind : (t : Tables) (m : MsgRow) (o : Option QueueRow) → exception_queue_in t m o ≡ exception_queue_in t m (option_map but_lane o)
queue_in_blind t m None = refl
queue_in_blind t m (Some q) = refl

exit_same : (t u : Tables) → HasQueues t u → (m : MsgRow) → exception_queue_of u m ≡ exception_queue_of t m
exit_same t u h m =
    queue_in_same t u h m (find_queue u m.queue) ∙ queue_in_blind t m (find_queue u m.queue) ∙ ap (exception_queue_in t m) (h m.queue) ∙ sym (queue_in_blind t m (find_queue t m.queue))

-- ---- what goes well

-- what it says happens at a moment up to that one
abbrev pub happens_by : ℕ → Change → Bool
happens_by latest (changes.Retried id slot retries until at) = nat_le at latest
happens_by latest (changes.Ready id slot at) = nat_le at latest
happens_by latest (changes.Done id slot at) = nat_le at latest
happens_by latest (changes.Expired id slot at) = nat_le at latest
happens_by latest (changes.Dropped id slot at) = nat_le at latest
happens_by latest (changes.Moved id queue at) = nat_le at latest
happens_by latest _ = true

-- Changes go well from tables to tables; and where that is kept, no message goes that has an open slot.
pub record GoesWell (kept : Bool) (t : Tables) (cs : List Change) : Type 0 where
  pub valid : is_valid (after_all t cs) ≡ true
  pub names : all_name_what_is_there t cs ≡ true
  pub uncounted : list_all (λ c. not (is_counters c)) cs ≡ true
  pub in_time : list_all (happens_by t.latest) cs ≡ true
  pub queues : HasQueues t (after_all t cs)
  pub found : (id : ℕ) (r : MsgRow) → run (find_message t id) cs ≡ Some r → find_message (after_all t cs) id ≡ Some r
  pub tables : (after_all t cs).tables ≡ t.tables
  pub lower : (name : List ℕ) (q : QueueRow) → find_queue t name ≡ Some q → IsLowered (after_all t cs) name q
  pub new : (id : ℕ) → find_message t id ≡ None → list_any (puts_in id) cs ≡ false → find_message (after_all t cs) id ≡ None
  pub rests : (id : ℕ) → list_any (takes_off id) cs ≡ false → is_finished_at t id ≡ true → is_finished_at (after_all t cs) id ≡ true
  pub next : (n : ℕ) → t.next ≤ n → list_all (puts_below n) cs ≡ true → (after_all t cs).next ≤ n
  pub room : list_any is_put_in cs ≡ false → (held : ℕ → ℕ) → HasRoom t held → HasRoom (after_all t cs) held
  pub spares : kept ≡ true → (id slot : ℕ) → list_any (is_of_slot id slot) cs ≡ false → is_open_at t id slot ≡ true → is_open_at (after_all t cs) id slot ≡ true
  pub proper : kept ≡ true → are_proper t cs ≡ true

pub latest_same : (cs : List Change) (t : Tables) → list_all (λ c. not (is_counters c)) cs ≡ true → (after_all t cs).latest ≡ t.latest
latest_same [] t h = refl
latest_same (c ∷ cs) t h =
    let p = and_parts (not (is_counters c)) (list_all (λ x. not (is_counters x)) cs) h in latest_same cs (after_change t c) p.1 ∙ latest_stays t c (not-true (is_counters c) p.0)

pub nothing_goes : (kept : Bool) (t : Tables) → is_valid t ≡ true → GoesWell kept t []
unfolding are_proper
nothing_goes kept t v = record {
  valid = v;
  names = refl;
  uncounted = refl;
  in_time = refl;
  queues = λ name. refl;
  found = λ id r e. e;
  tables = refl;
  lower = λ name q f. lowered_self t name q f;
  new = λ id h p. h;
  rests = λ id p h. h;
  next = λ n le p. le;
  room = λ p held r. r;
  spares = λ k id slot d h. h;
  proper = λ k. refl;
}

all_append : {X : Type 0} (q : X → Bool) (xs ys : List X) → list_all q xs ≡ true → list_all q ys ≡ true → list_all q (xs ++ ys) ≡ true
all_append q [] ys h g = g
all_append q (x ∷ xs) ys h g = let p = and_parts (q x) (list_all q xs) h in and_from (q x) (list_all q (xs ++ ys)) p.0 (all_append q xs ys p.1 g)

names_append : (cs ds : List Change) (t : Tables) → all_name_what_is_there t cs ≡ true → all_name_what_is_there (after_all t cs) ds ≡ true → all_name_what_is_there t (cs ++ ds) ≡ true
names_append [] ds t h g = g
names_append (c ∷ cs) ds t h g =
    let p = and_parts (names_what_is_there t c) (all_name_what_is_there (after_change t c) cs) h in
    and_from (names_what_is_there t c) (all_name_what_is_there (after_change t c) (cs ++ ds)) p.0 (names_append cs ds (after_change t c) p.1 g)

pub after_append : (t : Tables) (cs ds : List Change) → after_all t (cs ++ ds) ≡ after_all (after_all t cs) ds
after_append t cs ds = fold-append after_change t cs ds

found_on : (kept : Bool) (t : Tables) (cs ds : List Change) (id : ℕ) (r : MsgRow) (o : Option MsgRow) → run (find_message t id) cs ≡ o → GoesWell kept t cs → GoesWell kept (after_all t cs) ds → run o ds ≡ Some r
    → find_message (after_all (after_all t cs) ds) id ≡ Some r
found_on kept t cs ds id r None e g h k = absurd (none-some r (sym (run_none ds) ∙ k))
found_on kept t cs ds id r (Some m) e g h k = h.found id r (ap (λ o. run o ds) (g.found id m e) ∙ k)

none_of : {X : Type 0} (p : X → Bool) (xs ys : List X) → list_any p (xs ++ ys) ≡ false → (list_any p xs ≡ false) × (list_any p ys ≡ false)
none_of p [] ys h = (refl, h)
none_of p (x ∷ xs) ys h =
    let q = or_parts (p x) (list_any p (xs ++ ys)) h in let r = none_of p xs ys q.1 in (or_from (p x) (list_any p xs) q.0 r.0, r.1)

all_of : {X : Type 0} (p : X → Bool) (xs ys : List X) → list_all p (xs ++ ys) ≡ true → (list_all p xs ≡ true) × (list_all p ys ≡ true)
all_of p [] ys h = (refl, h)
all_of p (x ∷ xs) ys h =
    let q = and_parts (p x) (list_all p (xs ++ ys)) h in let r = all_of p xs ys q.1 in (and_from (p x) (list_all p xs) q.0 r.0, r.1)

lower_on : (t u w : Tables) (name : List ℕ) (q : QueueRow) → IsLowered u name q → ((r : QueueRow) → find_queue u name ≡ Some r → IsLowered w name r) → IsLowered w name q
lower_on t u w name q a k =
    let b = k a.row a.row_is in record { row = b.row; row_is = b.row_is; table = b.table ∙ a.table; kind = b.kind ∙ a.kind; lowest = le_trans_z b.row.lowest a.row.lowest q.lowest b.lowest a.lowest }

pub proper_on : (t : Tables) (cs ds : List Change) → are_proper t cs ≡ true → are_proper (after_all t cs) ds ≡ true → are_proper t (cs ++ ds) ≡ true
unfolding are_proper
proper_on t [] ds h k = k
proper_on t (c ∷ cs) ds h k =
    let p = and_parts (is_proper t c) (are_proper (after_change t c) cs) h in and_from (is_proper t c) (are_proper (after_change t c) (cs ++ ds)) p.0 (proper_on (after_change t c) cs ds p.1 k)

-- one list behind the other
pub goes_on : (kept : Bool) (t : Tables) (cs ds : List Change) → GoesWell kept t cs → GoesWell kept (after_all t cs) ds → GoesWell kept t (cs ++ ds)
goes_on kept t cs ds g h =
    let u = after_all t cs in
    let w = after_all u ds in
    let same = after_append t cs ds in
    record {
      valid = ap is_valid same ∙ h.valid;
      names = names_append cs ds t g.names h.names;
      uncounted = all_append (λ c. not (is_counters c)) cs ds g.uncounted h.uncounted;
      in_time = all_append (happens_by t.latest) cs ds g.in_time (ap (λ n. list_all (happens_by n) ds) (sym (latest_same cs t g.uncounted)) ∙ h.in_time);
      queues = λ name. ap (λ x. option_map but_lane (find_queue x name)) same ∙ h.queues name ∙ g.queues name;
      found = λ id r e. ap (λ x. find_message x id) same ∙ found_on kept t cs ds id r (run (find_message t id) cs) refl g h (sym (run_append (find_message t id) cs ds) ∙ e);
      tables = ap (λ x. x.tables) same ∙ h.tables ∙ g.tables;
      lower = λ name q f. subst (λ x. IsLowered x name q) (sym same) (lower_on t u w name q (g.lower name q f) (h.lower name));
      new = λ id k p. let n = none_of (puts_in id) cs ds p in ap (λ x. find_message x id) same ∙ h.new id (g.new id k n.0) n.1;
      rests = λ id p k. let n = none_of (takes_off id) cs ds p in ap (λ x. is_finished_at x id) same ∙ h.rests id n.1 (g.rests id n.0 k);
      next = λ n le p. let q = all_of (puts_below n) cs ds p in let e = ap (λ x. x.next) same in let a = h.next n (g.next n le q.0) q.1 in omega (arith, e, a);
      room = λ p held r. let n = none_of is_put_in cs ds p in subst (λ x. HasRoom x held) (sym same) (h.room n.1 held (g.room n.0 held r));
      spares = λ k id slot p o. let n = none_of (is_of_slot id slot) cs ds p in ap (λ x. is_open_at x id slot) same ∙ h.spares k id slot n.1 (g.spares k id slot n.0 o);
      proper = λ k. proper_on t cs ds (g.proper k) (h.proper k);
    }

-- ---- one change

queues_one : (t : Tables) (c : Change) → keeps_queues c ≡ true → HasQueues t (after_change t c)
queues_one t (changes.Retried named slot retries until at) e = λ name. refl
queues_one t (changes.Ready named slot at) e = λ name. refl
queues_one t (changes.Done named slot at) e = λ name. refl
queues_one t (changes.Expired named slot at) e = λ name. refl
queues_one t (changes.Dropped named slot at) e = λ name. refl
queues_one t (changes.Moved named queue at) e = λ name. queue_seen but_lane (λ q n. refl) t (changes.Moved named queue at) name refl
queues_one t (changes.Purged named) e = λ name. refl
queues_one t (changes.Enqueued row) e = λ name.
    find_seen (λ q. bytes_eq q.name name) (λ q. bytes_eq q.name row.queue) (lowered t row) but_lane (λ q. ap (λ n. bytes_eq n name) (lowered_name t row q)) (lowered_seen but_lane (λ q n. refl) t row) t.queues
queues_one t (changes.Seen row) e = λ name. refl
queues_one t (changes.PutSub row) e = λ name. refl
queues_one t (changes.DropSub queue sub) e = λ name. refl
queues_one t (changes.PutSchedule row) e = λ name. refl
queues_one t (changes.DropSchedule queue to) e = λ name. refl
queues_one t _ e = absurd (false≢true e)

uncounted_one : (c : Change) → keeps_queues c ≡ true → not (is_counters c) ≡ true
uncounted_one (changes.Counters next transaction latest) e = absurd (false≢true e)
uncounted_one (changes.PutTable row) e = refl
uncounted_one _ e = refl

in_time_one : (t : Tables) (c : Change) → Keeps t c → happens_by t.latest c ≡ true
in_time_one t (changes.Retried id slot retries until at) k = le-leb at t.latest k.changes_unmoved.changes_open.in_time
in_time_one t (changes.Ready id slot at) k = le-leb at t.latest k.in_time
in_time_one t (changes.Done id slot at) k = le-leb at t.latest k.in_time
in_time_one t (changes.Expired id slot at) k = le-leb at t.latest k.changes_open.in_time
in_time_one t (changes.Dropped id slot at) k = le-leb at t.latest k.changes_open.in_time
in_time_one t (changes.Moved id queue at) k = le-leb at t.latest k.in_time
in_time_one t (changes.PutTable row) k = refl
in_time_one t _ k = refl

found_one : (t : Tables) (c : Change) (id : ℕ) (r : MsgRow) (o : Option MsgRow) → is_valid t ≡ true → Keeps t c → keeps_queues c ≡ true → find_message t id ≡ o → left_step o c ≡ Some r → find_message (after_change t c) id ≡ Some r
found_one t c id r None v k e f h = absurd (none-some r h)
found_one t c id r (Some m) v k e f h = finds_left t c id (single_if_distinct t id (valid_distinct t v)) (leaves_there t c id m k e f) ∙ ap (option_and_then (λ x. left_by x c)) f ∙ h

pub goes_one : (kept : Bool) (t : Tables) (c : Change) → is_valid t ≡ true → Keeps t c → keeps_queues c ≡ true → (kept ≡ true → closes t c ≡ true) → GoesWell kept t (c ∷ [])
unfolding are_proper
goes_one kept t c v k e cl =
    let p = change_keeps_valid t c v k in
    record {
      valid = p.0;
      names = and_from (names_what_is_there t c) true p.1 refl;
      uncounted = and_from (not (is_counters c)) true (uncounted_one c e) refl;
      in_time = and_from (happens_by t.latest c) true (in_time_one t c k) refl;
      queues = queues_one t c e;
      found = λ id r h. found_one t c id r (find_message t id) v k e refl h;
      tables = tables_one t c e;
      lower = λ name q f. lower_one t c k e name q f;
      new = λ id h n. new_one t c v k e id h (or_parts (puts_in id c) false n).0;
      rests = λ id n h. rests_one t c v k e id (or_parts (takes_off id c) false n).0 h;
      next = λ n le p. next_one t c k e n le (and_parts (puts_below n c) true p).0;
      room = λ n held r. room_one t c v k e (or_parts (is_put_in c) false n).0 held r;
      spares = λ yes id slot n h. spares_one t c v k e (cl yes) id slot (or_parts (is_of_slot id slot c) false n).0 h;
      proper = λ yes. and_from (is_proper t c) true (proper_one t c k e (cl yes)) refl;
    }

-- ---- when a message was last changed

one_of : (b : Bool) (at before latest : ℕ) → at ≤ latest → before ≤ latest → (if b then at else before) ≤ latest
one_of true at before latest a b = a
one_of false at before latest a b = b

moment_step : (id latest before : ℕ) (c : Change) → before ≤ latest → happens_by latest c ≡ true → moment_by id before c ≤ latest
moment_step id latest before (changes.Retried named slot retries until at) le h = one_of (named == id) at before latest (leb-true at latest h) le
moment_step id latest before (changes.Ready named slot at) le h = one_of (named == id) at before latest (leb-true at latest h) le
moment_step id latest before (changes.Done named slot at) le h = one_of (named == id) at before latest (leb-true at latest h) le
moment_step id latest before (changes.Expired named slot at) le h = one_of (named == id) at before latest (leb-true at latest h) le
moment_step id latest before (changes.Dropped named slot at) le h = one_of (named == id) at before latest (leb-true at latest h) le
moment_step id latest before (changes.Moved named queue at) le h = one_of (named == id) at before latest (leb-true at latest h) le
moment_step id latest before (changes.PutTable row) le h = le
moment_step id latest before _ le h = le

moments : (cs : List Change) (id latest before : ℕ) → before ≤ latest → list_all (happens_by latest) cs ≡ true → fold (moment_by id) before cs ≤ latest
moments [] id latest before le h = le
moments (c ∷ cs) id latest before le h =
    let p = and_parts (happens_by latest c) (list_all (happens_by latest) cs) h in moments cs id latest (moment_by id before c) (moment_step id latest before c le p.0) p.1

last_by : (cs : List Change) (id latest : ℕ) → list_all (happens_by latest) cs ≡ true → last_moment cs id ≤ latest
last_by cs id latest h = moments cs id latest 0 (omega arith) h

-- ---- ids that are named, each once

abbrev pub is_same_id : ℕ → ℕ → Bool
is_same_id a b = a == b

last_apart : (x id : ℕ) (xs : List ℕ) → list_any (is_same_id x) xs ≡ false → (x == id) ≡ false → list_any (is_same_id x) (xs ++ id ∷ []) ≡ false
last_apart x id [] h e = or_from (x == id) false e refl
last_apart x id (y ∷ ys) h e = let p = or_parts (x == y) (list_any (is_same_id x) ys) h in or_from (x == y) (list_any (is_same_id x) (ys ++ id ∷ [])) p.0 (last_apart x id ys p.1 e)

distinct_last : (xs : List ℕ) (id : ℕ) → are_distinct is_same_id xs ≡ true → list_any (λ n. n == id) xs ≡ false → are_distinct is_same_id (xs ++ id ∷ []) ≡ true
distinct_last [] id d h = refl
distinct_last (x ∷ xs) id d h =
    let p = and_parts (not (list_any (is_same_id x) xs)) (are_distinct is_same_id xs) d in
    let q = or_parts (x == id) (list_any (λ n. n == id) xs) h in
    and_from (not (list_any (is_same_id x) (xs ++ id ∷ []))) (are_distinct is_same_id (xs ++ id ∷ []))
    (not_from_false (list_any (is_same_id x) (xs ++ id ∷ [])) (last_apart x id xs (not-true (list_any (is_same_id x) xs) p.0) q.0)) (distinct_last xs id p.1 q.1)

with_distinct_by : (xs : List ℕ) (id : ℕ) (b : Bool) → list_any (λ n. n == id) xs ≡ b → are_distinct is_same_id xs ≡ true → are_distinct is_same_id (if b then xs else xs ++ id ∷ []) ≡ true
with_distinct_by xs id true e d = d
with_distinct_by xs id false e d = distinct_last xs id d e

with_distinct : (xs : List ℕ) (o : Option ℕ) → are_distinct is_same_id xs ≡ true → are_distinct is_same_id (with_name xs o) ≡ true
with_distinct xs None d = d
with_distinct xs (Some id) d = with_distinct_by xs id (list_any (λ n. n == id) xs) refl d

names_from : (cs : List Change) (xs : List ℕ) → are_distinct is_same_id xs ≡ true → are_distinct is_same_id (fold (λ ids c. with_name ids (named_by c)) xs cs) ≡ true
names_from [] xs d = d
names_from (c ∷ cs) xs d = names_from cs (with_name xs (named_by c)) (with_distinct xs (named_by c) d)

names_distinct : (cs : List Change) → are_distinct is_same_id (names_of cs) ≡ true
names_distinct cs = names_from cs [] refl

apart_by : (n id k : ℕ) (ns : List ℕ) (b : Bool) → (k == id) ≡ b → (n == k) ≡ false → (b || list_any (λ j. j == id) ns) ≡ true → (list_any (λ j. j == id) ns ≡ true → (n == id) ≡ false) → (n == id) ≡ false
apart_by n id k ns true g a e ih = ap (λ j. n == j) (sym (eqb-true k id g)) ∙ a
apart_by n id k ns false g a e ih = ih e

apart_in : (n id : ℕ) (ns : List ℕ) → list_any (is_same_id n) ns ≡ false → list_any (λ k. k == id) ns ≡ true → (n == id) ≡ false
apart_in n id [] h e = absurd (false≢true e)
apart_in n id (k ∷ ns) h e = let p = or_parts (n == k) (list_any (is_same_id n) ns) h in apart_by n id k ns (k == id) refl p.0 e (λ g. apart_in n id ns p.1 g)

-- ---- what is settled

lost_may : (m : MsgRow) → is_lost m ≡ true → may_move m ≡ true
lost_may m h = (and_parts (not m.moved && not (list_any (λ s. is_open s.state) m.slots)) (list_any (λ s. is_expired s.state) m.slots) h).0

moves_right : (t u : Tables) → is_valid u ≡ true → HasQueues t u → (id at : ℕ) (r : MsgRow) → find_message u id ≡ Some r → is_lost r ≡ true → at ≤ u.latest → MovesRight u id (exception_queue_of t r) at
moves_right t u v h id at r f lost le =
    let home = home_of u id r v f in
    let x = exit_of u v r home r refl in
    record {
      message = r;
      from = home.queue;
      to = x.to;
      found = f;
      may = lost_may r lost;
      from_is = home.queue_is;
      to_is = ap (find_queue u) (sym (exit_same t u h r)) ∙ x.to_is;
      exception = x.exception;
      table_is = x.table_is;
      in_time = le;
    }

settle_by : (kept : Bool) (t u : Tables) → is_valid u ≡ true → HasQueues t u → (at : ℕ) (r : MsgRow) → find_message u r.id ≡ Some r → at ≤ u.latest → (b c : Bool) → is_lost r ≡ b → (c ≡ true → is_handled r ≡ true)
    → GoesWell kept u (if b then changes.Moved r.id (exception_queue_of t r) at ∷ [] else (if c then changes.Purged r.id ∷ [] else []))
settle_by kept t u v h at r f le true c e k = goes_one kept u (changes.Moved r.id (exception_queue_of t r) at) v (moves_right t u v h r.id at r f e le) refl (λ _. refl)
settle_by kept t u v h at r f le false true e k = goes_one kept u (changes.Purged r.id) v (ap is_some f) refl (λ _. finished_of u r.id r f (handled_finished r (valid_closed u r.id r v f) (k refl)))
settle_by kept t u v h at r f le false false e k = nothing_goes kept u v

settle_some : (kept : Bool) (t u : Tables) → is_valid u ≡ true → HasQueues t u → (at id : ℕ) (o : Option MsgRow) → ((r : MsgRow) → o ≡ Some r → find_message u id ≡ Some r) → at ≤ u.latest → GoesWell kept u (settling_of t at o)
settle_some kept t u v h at id None f le = nothing_goes kept u v
settle_some kept t u v h at id (Some r) f le =
    settle_by kept t u v h at r (ap (find_message u) (id_found u id r (f r refl)) ∙ f r refl) le (is_lost r) (is_handled r && is_kept_by_none t r) refl (λ b. (and_parts (is_handled r) (is_kept_by_none t r) b).0)

own_some : (t : Tables) (at n : ℕ) (o : Option MsgRow) → ((r : MsgRow) → o ≡ Some r → r.id ≡ n) → list_all (is_of n) (settling_of t at o) ≡ true
own_some t at n None h = refl
own_some t at n (Some r) h = subst (λ k. list_all (is_of k) (settling_of t at (Some r)) ≡ true) (h r refl) (own_settling t at r)

settle_all : (kept : Bool) (t : Tables) (cs : List Change) (ns : List ℕ) (u : Tables) → is_valid u ≡ true → HasQueues t u → ((id : ℕ) → last_moment cs id ≤ u.latest) → are_distinct is_same_id ns ≡ true
    → ((id : ℕ) → list_any (λ k. k == id) ns ≡ true → (r : MsgRow) → message_after t cs id ≡ Some r → find_message u id ≡ Some r) → GoesWell kept u (flat_map (settling t cs) ns)
settle_all kept t cs [] u v h le d there = nothing_goes kept u v
settle_all kept t cs (n ∷ ns) u v h le d there =
    let p = and_parts (not (list_any (is_same_id n) ns)) (are_distinct is_same_id ns) d in
    let now : (r : MsgRow) → message_after t cs n ≡ Some r → find_message u n ≡ Some r = there n (or_left (n == n) (list_any (λ k. k == n) ns) (eq-eqb n n refl)) in
    let g = settle_some kept t u v h (last_moment cs n) n (message_after t cs n) now (le n) in
    goes_on kept u (settling t cs n) (flat_map (settling t cs) ns) g
    (settle_all kept t cs ns (after_all u (settling t cs n)) g.valid (λ name. g.queues name ∙ h name)
    (λ id. subst (λ k. last_moment cs id ≤ k) (sym (latest_same (settling t cs n) u g.uncounted)) (le id)) p.1
    (λ id some r e.
    let f = there id (or_right (n == id) (list_any (λ k. k == id) ns) some) r e in
    let apart = apart_in n id ns (not-true (list_any (is_same_id n) ns) p.0) some in
    g.found id r
    (ap (λ o. run o (settling t cs n)) f
    ∙ run_other id n (settling t cs n) (Some r) (own_some t (last_moment cs n) n (message_after t cs n) (λ x k. id_found u n x (now x k)))
    (ne_eqb id n (λ same. eqb-false n id apart (sym same))) (λ x k. some_id r x k ∙ id_found u id r f))))

-- what a list settles goes well behind it where it does
pub goes_behind : (kept : Bool) (t : Tables) (cs : List Change) → GoesWell kept t cs → GoesWell kept (after_all t cs) (flat_map (settling t cs) (names_of cs))
goes_behind kept t cs g =
    settle_all kept t cs (names_of cs) (after_all t cs) g.valid g.queues
    (λ id. subst (λ n. last_moment cs id ≤ n) (sym (latest_same cs t g.uncounted)) (last_by cs id t.latest g.in_time)) (names_distinct cs) (λ id some r e. g.found id r e)

-- and so it does with what it settles
pub goes_settled : (kept : Bool) (t : Tables) (cs : List Change) → GoesWell kept t cs → GoesWell kept t (settled t cs)
goes_settled kept t cs g = goes_on kept t cs (flat_map (settling t cs) (names_of cs)) g (goes_behind kept t cs g)

-- ---- commits

-- changes that have what they need, one after another
pub all_go : (cs : List Change) (t : Tables) → is_valid t ≡ true → AllKeep t cs → list_all keeps_queues cs ≡ true → GoesWell false t cs
all_go [] t v k e = nothing_goes false t v
all_go (c ∷ cs) t v k e =
    let p = and_parts (keeps_queues c) (list_all keeps_queues cs) e in
    let g = goes_one false t c v k.0 p.0 (λ no. absurd (false≢true no)) in
    goes_on false t (c ∷ []) cs g (all_go cs (after_change t c) g.valid k.1 p.1)

names_at_latest : (t : Tables) (latest : ℕ) (c : Change) → names_what_is_there (at_latest latest t) c ≡ names_what_is_there t c
names_at_latest t latest (changes.PutTable row) = refl
names_at_latest t latest _ = refl

names_later : (cs : List Change) (t : Tables) (latest : ℕ) → list_all (λ c. not (is_counters c)) cs ≡ true → all_name_what_is_there (at_latest latest t) cs ≡ all_name_what_is_there t cs
names_later [] t latest e = refl
names_later (c ∷ cs) t latest e =
    let p = and_parts (not (is_counters c)) (list_all (λ x. not (is_counters x)) cs) e in
    ap (λ b. b && all_name_what_is_there (after_change (at_latest latest t) c) cs) (names_at_latest t latest c)
    ∙ ap (λ u. names_what_is_there t c && all_name_what_is_there u cs) (change_at_latest t latest c (not-true (is_counters c) p.0))
    ∙ ap (λ b. names_what_is_there t c && b) (names_later cs (after_change t c) latest p.1)

after_later : (cs : List Change) (t : Tables) (latest : ℕ) → list_all (λ c. not (is_counters c)) cs ≡ true → after_all (at_latest latest t) cs ≡ at_latest latest (after_all t cs)
after_later [] t latest e = refl
after_later (c ∷ cs) t latest e =
    let p = and_parts (not (is_counters c)) (list_all (λ x. not (is_counters x)) cs) e in
    ap (λ u. after_all u cs) (change_at_latest t latest c (not-true (is_counters c) p.0)) ∙ after_later cs (after_change t c) latest p.1

greater : (a b : ℕ) → a ≤ b → max a b ≡ b
greater a b h = omega arith

-- a commit that goes well at its moment fits
pub fits_if_goes : (kept : Bool) (t : Tables) (moment : ℕ) (cs : List Change) → t.latest ≤ moment → GoesWell kept (at_latest moment t) cs → fits t (record { moment = moment; changes = cs }) ≡ true
unfolding fits after
fits_if_goes kept t moment cs le g =
    let latest : max (after_all t cs).latest moment ≡ moment = ap (λ n. max n moment) (latest_same cs t g.uncounted) ∙ greater t.latest moment le in
    and_from (all_name_what_is_there t cs) (is_valid (at_latest (max (after_all t cs).latest moment) (after_all t cs)))
    (sym (names_later cs t moment g.uncounted) ∙ g.names)
    (ap (λ n. is_valid (at_latest n (after_all t cs))) latest ∙ ap is_valid (sym (after_later cs t moment g.uncounted)) ∙ g.valid)

-- and so does one with what it settles
pub settled_fits : (kept : Bool) (t : Tables) (moment : ℕ) (cs : List Change) → t.latest ≤ moment → GoesWell kept (at_latest moment t) cs → fits t (record { moment = moment; changes = settled t cs }) ≡ true
settled_fits kept t moment cs le g = fits_if_goes kept t moment (settled t cs) le (goes_settled kept (at_latest moment t) cs g)

-- the tables after such a commit are those after its changes, at its moment
pub after_goes : (kept : Bool) (t : Tables) (moment : ℕ) (cs : List Change) → t.latest ≤ moment → GoesWell kept (at_latest moment t) cs → after t (record { moment = moment; changes = cs }) ≡ after_all (at_latest moment t) cs
unfolding after
after_goes kept t moment cs le g =
    let latest : max (after_all t cs).latest moment ≡ moment = ap (λ n. max n moment) (latest_same cs t g.uncounted) ∙ greater t.latest moment le in
    ap (λ n. at_latest n (after_all t cs)) latest ∙ sym (after_later cs t moment g.uncounted)

proper_at_latest : (t : Tables) (latest : ℕ) (c : Change) → is_proper (at_latest latest t) c ≡ is_proper t c
proper_at_latest t latest (changes.PutTable row) = refl
proper_at_latest t latest _ = refl

pub proper_later : (cs : List Change) (t : Tables) (latest : ℕ) → list_all (λ c. not (is_counters c)) cs ≡ true → are_proper (at_latest latest t) cs ≡ are_proper t cs
unfolding are_proper
proper_later [] t latest e = refl
proper_later (c ∷ cs) t latest e =
    let p = and_parts (not (is_counters c)) (list_all (λ x. not (is_counters x)) cs) e in
    ap (λ b. b && are_proper (after_change (at_latest latest t) c) cs) (proper_at_latest t latest c)
    ∙ ap (λ u. is_proper t c && are_proper u cs) (change_at_latest t latest c (not-true (is_counters c) p.0))
    ∙ ap (λ b. is_proper t c && b) (proper_later cs (after_change t c) latest p.1)

-- its changes are proper in the tables before
pub proper_if_goes : (t : Tables) (moment : ℕ) (cs : List Change) → GoesWell true (at_latest moment t) cs → are_proper t cs ≡ true
proper_if_goes t moment cs g = sym (proper_later cs t moment g.uncounted) ∙ g.proper refl
