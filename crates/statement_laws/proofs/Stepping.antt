-- What the sessions of a database hold stands behind an arrival, an enqueue, a dequeue and a listen.
use Rattle.std.proofs.Common.{◌≡◌, ◌≢◌, ◌≤◌, ◌<◌, ◌+◌, ◌⊎◌, inl, inr, ℕ, zero, suc, List, [], ◌∷◌, ◌++◌, Bool, true, false, refl, sym, ap, ◌∙◌, subst, arith, Option, Some, None, ◌==◌, ◌&&◌, ◌||◌}
use Rattle.std.specs.Prelude.{slice_get, slice_set, flat_map, nat_lt, All, AllPairs, option_and_then, if◌then◌else◌}
use Rattle.std.specs.List.{list_any}
use Rattle.std.specs.Option.{option_or}
use Rattle.std.proofs.lemmas.Bool.{eqb-true, eqb-false, ne_eqb, and_from, or_from, or_cases, ltb-true, lt-ltb, le-ltb, false_from_ne_true, false≢true, true≢false}
use Rattle.std.proofs.lemmas.Option.{slice_get_within}
use Rattle.std.proofs.lemmas.List.Elements.{All-head, All-tail, All-cons, All-nil}
use Rattle.aq_base.specs.declared.DbId.{DbId}
use Rattle.aq_base.specs.declared.DbId.TheVariants.{Home, Away}
use Rattle.aq_base.specs.declared.limits.TheConstants.{MOMENT_LIMIT}
use Rattle.queue_rows.specs.Rows.{find_table}
use Rattle.queue_rows.specs.Tables.{after_all}
use Rattle.queue_rows.specs.Settling.{settling, names_of}
use Rattle.queue_rows.specs.Commits.{commit_of}
use Rattle.queue_rows.specs.Session.{Session, is_same_db, marks_slot}
use Rattle.queue_rows.specs.Meaning.{answers, parks, refused, first_look, still_waits}
use Rattle.queue_rows.specs.Enqueueing.{enqueue}
use Rattle.queue_rows.specs.Dequeueing.{dequeue}
use Rattle.queue_rows.specs.Listening.{listen, listened, agents_fault, served_from, is_served}
use Rattle.queue_rows.specs.Propagating.{Parcel, taken_in, taken_in_by, copy_of}
use Rattle.queue_rows.specs.Turns.{ids_taken}
use Rattle.queue_rows.specs.World.{committed_tables}
use Rattle.queue_rows.specs.Within.{is_within}
use Rattle.queue_rows.specs.Valid.{is_valid}
use Rattle.queue_rows.specs.declared.tables.Tables.{Tables}
use Rattle.queue_rows.specs.declared.rows.MsgRow.{MsgRow}
use Rattle.queue_rows.specs.declared.rows.SeenRow.{SeenRow}
use Rattle.queue_rows.specs.declared.session.Pending.{Pending}
use Rattle.queue_rows.specs.declared.session.Pending.TheVariants.{Add, Remove}
use Rattle.queue_rows.specs.declared.change.Change.{Change}
use Rattle.queue_rows.specs.declared.change.Change.TheVariants as changes
use Rattle.queue_rows.specs.declared.history.SlotRef.{SlotRef}
use Rattle.queue_rows.specs.declared.reply.Reply.{Reply}
use Rattle.queue_rows.specs.declared.reply.Reply.TheVariants as replies
use Rattle.queue_rows.specs.declared.statement.Enqueue.{Enqueue}
use Rattle.queue_rows.specs.declared.statement.Dequeue.{Dequeue}
use Rattle.queue_rows.specs.declared.statement.Listen.{Listen}
use Rattle.queue_rows.specs.declared.statement.Mode.{Mode}
use Rattle.queue_rows.specs.declared.statement.Mode.TheVariants as modes
use Rattle.queue_rows.specs.declared.statement.Visibility.{Visibility}
use Rattle.queue_rows.specs.declared.statement.Visibility.TheVariants as visibilities
use Rattle.queue_rows.specs.declared.statement.Statement.TheVariants as statements
use Rattle.queue_rows.proofs.Sessions.{get_set-cases}
use Rattle.row_laws.proofs.Latest.{at_latest}
use Rattle.valid_laws.specs.Openness.{is_open_at}
use Rattle.valid_laws.specs.Touching.{is_of_slot, puts_in, is_put_in}
use Rattle.valid_laws.specs.ArrivalLaws.{MayTakeIn}
use Rattle.valid_laws.specs.PendingLaws.{IsAdditionRight, IsPendingRight, AreApart, count_passed, depth_of, HasRoom, MayCommit}
use Rattle.valid_laws.proofs.Framing.{any_append, settled_none, room_less, room_put}
use Rattle.valid_laws.proofs.Going.{GoesWell}
use Rattle.valid_laws.proofs.Pending.{commit_goes, commit_leaves_room, removal_may, pairs-one}
use Rattle.valid_laws.proofs.Arriving.{taken_in_goes, copy_lane_by}
use Rattle.statement_laws.specs.Sessions.{is_removal_of, is_addition_of, IsFreeOf}
use Rattle.statement_laws.specs.SessionLaws.{IsGiven, MayEnd}
use Rattle.statement_laws.specs.EnqueueLaws.{has_ordered_fields, AddsIn, Adds}
use Rattle.statement_laws.specs.DequeueLaws.{TakesNothing, TakesLater, TakesIn, Takes}
use Rattle.statement_laws.specs.StandingLaws.{StandsIn, AreTwo, count_held, AreStanding, HoldsAs}
use Rattle.statement_laws.proofs.Among.{Says, says_so, says_if, any_last}
use Rattle.statement_laws.proofs.Adding.{enqueue_adds_right}
use Rattle.statement_laws.proofs.Taking.{dequeue_removes_open, dequeue_takes_free}
use Rattle.statement_laws.proofs.Ending.{enqueue_keeps_end, dequeue_keeps_end}
use Rattle.statement_laws.proofs.Freeing.{TakesFree}
use Rattle.statement_laws.proofs.Naming.{commit_names, commit_puts, commit_below}
use Rattle.statement_laws.proofs.Framing.{IsUntouched, same_db, count_set, not_same}
use Rattle.statement_laws.proofs.Standing.{standing_may_end, stands_later, standing_later, replaced_standing, all_standing, others_standing}

-- ---- room for a message with the next id

passed_top : (next n : ℕ) (pending : List Pending) → All (IsGiven next) pending → next ≤ n → count_passed n pending ≤ count_passed next pending
passed_top next n [] h le = omega arith
passed_top next n (Add m ∷ more) h le =
    let lt : m.id < next = All-head (IsGiven next) (Add m) more h in
    let ih = passed_top next n more (All-tail (IsGiven next) (Add m) more h) le in
    let a : count_passed n (Add m ∷ more) ≡ 1 + count_passed n more = ap (λ b. (if b then 1 else 0) + count_passed n more) (lt-ltb m.id n (omega (arith, lt, le))) in
    let b : count_passed next (Add m ∷ more) ≡ 1 + count_passed next more = ap (λ b. (if b then 1 else 0) + count_passed next more) (lt-ltb m.id next lt) in
    omega (arith, ih, a, b)
passed_top next n (Remove id slot ∷ more) h le = passed_top next n more (All-tail (IsGiven next) (Remove id slot) more h) le

count_top : (db : DbId) (sessions : List Session) (next n : ℕ) → next ≤ n → ((i : ℕ) (s : Session) → slice_get sessions i ≡ Some s → is_same_db s.at db ≡ true → All (IsGiven next) s.pending) → count_held db sessions n ≤ count_held db sessions next
count_top db [] next n le h = omega arith
count_top db (x ∷ xs) next n le h =
    let a = here (is_same_db x.at db) (h zero x refl) in
    let ih = count_top db xs next n le (λ i s e f. h (suc i) s e f) in
    omega (arith, a, ih)
  where
    here : (b : Bool) → (b ≡ true → All (IsGiven next) x.pending) → (if b then count_passed n x.pending else 0) ≤ (if b then count_passed next x.pending else 0)
    here true k = passed_top next n x.pending (k refl) le
    here false k = omega arith

pub fresh_room : (t : Tables) (held : ℕ → ℕ) (next : ℕ) → t.next ≤ next → ((n : ℕ) → next ≤ n → held n ≤ held next) → HasRoom t held → HasRoom t (λ n. held n + (if nat_lt next n then 1 else 0))
fresh_room t held next up top r = record {
  lanes = λ n le name q f. by n (depth_of q.lowest) (nat_lt next n) refl (r.lanes n le name q f) (r.lanes next up name q f);
  groups = λ n le. by n t.transaction (nat_lt next n) refl (r.groups n le) (r.groups next up);
}
  where
    by : (n d : ℕ) (b : Bool) → nat_lt next n ≡ b → held n + d ≤ n → held next + d ≤ next → held n + (if b then 1 else 0) + d ≤ n
    by n d true e h g = let lt = ltb-true next n e in let k = top n (omega (arith, lt)) in omega (arith, lt, g, k)
    by n d false e h g = omega (arith, h)

standing_room : (t : Tables) (db : DbId) (next moment : ℕ) (sessions : List Session) → AreStanding t db next moment sessions → HasRoom t (λ n. count_held db sessions n + (if nat_lt next n then 1 else 0))
standing_room t db next moment sessions k = fresh_room t (count_held db sessions) next k.up (λ n le. count_top db sessions next n le (λ i s e f. (k.each i s e f).given)) k.room

below_by : (next id : ℕ) (m : MsgRow) (more : List Pending) → m.id < next → ((m.id == id) ≡ true) ⊎ (list_any (is_addition_of id) more ≡ true) → (list_any (is_addition_of id) more ≡ true → id < next) → id < next
below_by next id m more lt (inl a) ih = let same = eqb-true m.id id a in omega (arith, lt, same)
below_by next id m more lt (inr a) ih = ih a

added_below : (next id : ℕ) (rest : List Pending) → All (IsGiven next) rest → list_any (is_addition_of id) rest ≡ true → id < next
added_below next id [] g k = absurd (false≢true k)
added_below next id (Add m ∷ more) g k =
    below_by next id m more (All-head (IsGiven next) (Add m) more g) (or_cases (m.id == id) (list_any (is_addition_of id) more) k) (added_below next id more (All-tail (IsGiven next) (Add m) more g))
added_below next id (Remove named slot ∷ more) g k = added_below next id more (All-tail (IsGiven next) (Remove named slot) more g) k

-- no session adds a message with an id that is to be given
none_added : (next id : ℕ) (pending : List Pending) → All (IsGiven next) pending → list_any (is_addition_of id) pending ≡ true → (next == id) ≡ false
none_added next id pending h e = ne_eqb next id (λ same. absurd (let lt = added_below next id pending h e in omega (arith, lt, same)))

-- ---- behind an arrival

-- one where the number is above the id
abbrev pub one_if : Bool → ℕ
one_if b = if b then 1 else 0

one_more : (next n c : ℕ) → next < n → c + 1 ≤ c + (if nat_lt next n then 1 else 0)
one_more next n c lt = let e : one_if (nat_lt next n) ≡ one_if true = ap one_if (lt-ltb next n lt) in omega (arith, e)

module _ (there : Tables) (db : DbId) (at : SlotRef) (p : Parcel) (next moment : ℕ) (sessions : List Session) (k : MayTakeIn there at p next moment) (s : AreStanding there db next moment sessions) where
  abbrev copied : MsgRow
  copied = copy_of k.table p next there.transaction moment

  abbrev pair : SeenRow
  pair = record { id = at.id; slot = at.slot; copy = next }

  taken_is : taken_in there at p next moment ≡ changes.Enqueued (copy_of k.table p next there.transaction moment) ∷ changes.Seen (record { id = at.id; slot = at.slot; copy = next }) ∷ []
  unfolding taken_in
  taken_is = ap (taken_in_by there at p next moment) (ap (option_and_then (λ q. find_table there q.table)) k.queue_is ∙ k.table_is)

  copy_room : HasRoom (after_all (at_latest moment there) (changes.Enqueued copied ∷ changes.Seen pair ∷ [])) (count_held db sessions)
  copy_room =
      let r = standing_room there db next moment sessions s in
      let put = room_put (at_latest moment there) copied k.queue k.queue_is (let d = copy_lane_by there.transaction k.table.grouped in omega (arith, d)) (omega arith)
      (λ n. count_held db sessions n + (if nat_lt next n then 1 else 0)) (count_held db sessions) (λ n le lt. one_more next n (count_held db sessions n) lt) (record { lanes = r.lanes; groups = r.groups }) in
      record { lanes = put.lanes; groups = put.groups }

  arrival_untouched : (i : ℕ) (x : Session) → slice_get sessions i ≡ Some x → is_same_db x.at db ≡ true → IsUntouched (changes.Enqueued copied ∷ changes.Seen pair ∷ []) x
  arrival_untouched i x e f = record {
    slots = λ id slot h. refl;
    ids = λ id h. or_from (next == id) false (none_added next id x.pending (s.each i x e f).given h) refl;
  }

  arrival_standing : is_valid there ≡ true → there.latest ≤ moment → moment ≤ MOMENT_LIMIT → AreStanding (committed_tables there (taken_in there at p next moment) moment) db (next + 1) moment sessions
  arrival_standing v le top =
      let g = subst (GoesWell true (at_latest moment there)) taken_is (taken_in_goes there at p next moment v le top k) in
      subst (λ cs. AreStanding (committed_tables there cs moment) db (next + 1) moment sessions) (sym taken_is)
      (all_standing there db next moment sessions (changes.Enqueued copied ∷ changes.Seen pair ∷ []) le g s arrival_untouched (next + 1) (omega arith) copy_room
      (and_from (nat_lt next (next + 1)) true (lt-ltb next (next + 1) (omega arith)) refl))

pub arrival_keeps_standing : (there : Tables) (db : DbId) (at : SlotRef) (p : Parcel) (next moment : ℕ) (sessions : List Session) → is_valid there ≡ true → there.latest ≤ moment → moment ≤ MOMENT_LIMIT → MayTakeIn there at p next moment → AreStanding there db next moment sessions
    → AreStanding (committed_tables there (taken_in there at p next moment) moment) db (next + 1) moment sessions
arrival_keeps_standing there db at p next moment sessions v le top k s = arrival_standing there db at p next moment sessions k s v le top

-- ---- one session that holds the same

stands_as : (t : Tables) (next moment : ℕ) (s behind : Session) → behind.pending ≡ s.pending → behind.marks ≡ s.marks → StandsIn t next moment s → StandsIn t next moment behind
stands_as t next moment s behind p m x = record {
  right = subst (All (IsPendingRight t moment)) (sym p) x.right;
  apart = subst (AllPairs AreApart) (sym p) x.apart;
  given = subst (All (IsGiven next)) (sym p) x.given;
  agree = record { removed = λ id slot. ap (list_any (λ mark. mark.removed && marks_slot id slot mark)) m ∙ x.agree.removed id slot ∙ ap (list_any (is_removal_of id slot)) (sym p) };
  marked = λ id slot h. x.marked id slot (ap (list_any (marks_slot id slot)) (sym m) ∙ h);
}

two_as : (a b behind : Session) → behind.pending ≡ a.pending → behind.marks ≡ a.marks → AreTwo a b → AreTwo behind b
two_as a b behind p m k = record {
  slots = λ id slot h. k.slots id slot (ap (list_any (marks_slot id slot)) (sym m) ∙ h);
  ids = λ id h. k.ids id (ap (list_any (is_addition_of id)) (sym p) ∙ h);
}

two_with : (a b behind : Session) → behind.pending ≡ b.pending → behind.marks ≡ b.marks → AreTwo a b → AreTwo a behind
two_with a b behind p m k = record {
  slots = λ id slot h. ap (list_any (marks_slot id slot)) m ∙ k.slots id slot h;
  ids = λ id h. ap (list_any (is_addition_of id)) p ∙ k.ids id h;
}

pub same_standing : (t : Tables) (db : DbId) (next moment i : ℕ) (s behind : Session) (sessions : List Session) → AreStanding t db next moment sessions → slice_get sessions i ≡ Some s → is_same_db s.at db ≡ true
    → behind.at ≡ s.at → behind.pending ≡ s.pending → behind.marks ≡ s.marks → AreStanding t db next moment (slice_set sessions i behind)
same_standing t db next moment i s behind sessions k there at same p m =
    let here = same_db behind.at s.at db same at in
    replaced_standing t t db next next moment i s behind sessions k there here (stands_as t next moment s behind p m (k.each i s there at)) (λ j b e f d. k.each j b e f)
    (λ j b e f d. (two_as s b behind p m (k.two i j s b there e at f (not_same j i d)), two_with b s behind p m (k.two j i b s e there f at d)))
    (room_less t (count_held db sessions) (count_held db (slice_set sessions i behind)) (λ n. let a = count_set db sessions i s behind n there at here in let b = ap (count_passed n) p in omega (arith, a, b)) k.room) k.up

-- ---- behind an enqueue

module _ (t : Tables) (db : DbId) (next moment i : ℕ) (s behind : Session) (sessions : List Session) (v : is_valid t ≡ true) (le : t.latest ≤ moment) (top : moment ≤ MOMENT_LIMIT) (k : AreStanding t db next moment sessions)
    (there : slice_get sessions i ≡ Some s) (at : is_same_db s.at db ≡ true) (same : behind.at ≡ s.at) where
  here : is_same_db behind.at db ≡ true
  here = same_db behind.at s.at db same at

  -- the message is added later
  added_two : (m : MsgRow) → m.id ≡ next → behind.pending ≡ s.pending ++ Add m ∷ [] → behind.marks ≡ s.marks → (j : ℕ) (b : Session) → slice_get sessions j ≡ Some b → is_same_db b.at db ≡ true → (j == i) ≡ false → AreTwo behind b × AreTwo b behind
  added_two m e p q j b f g d =
      let one = k.two i j s b there f at g (not_same j i d) in
      let back = k.two j i b s f there g at d in
      let given = (k.each j b f g).given in (
        record {
          slots = λ id slot h. one.slots id slot (ap (list_any (marks_slot id slot)) (sym q) ∙ h);
          ids = λ id h. new_or_old id given one (or_cases (list_any (is_addition_of id) s.pending) (m.id == id) (sym (ap (list_any (is_addition_of id)) p ∙ any_last (is_addition_of id) s.pending (Add m)) ∙ h));
        },
        record {
          slots = λ id slot h. ap (list_any (marks_slot id slot)) q ∙ back.slots id slot h;
          ids = λ id h. ap (list_any (is_addition_of id)) p ∙ any_last (is_addition_of id) s.pending (Add m) ∙ or_from (list_any (is_addition_of id) s.pending) (m.id == id) (back.ids id h) (ap (λ n. n == id) e ∙ none_added next id b.pending given h);
        },
      )
    where
      new_or_old : (id : ℕ) → All (IsGiven next) b.pending → AreTwo s b → (list_any (is_addition_of id) s.pending ≡ true) ⊎ ((m.id == id) ≡ true) → list_any (is_addition_of id) b.pending ≡ false
      new_or_old id given one (inl h) = one.ids id h
      new_or_old id given one (inr h) =
          false_from_ne_true (list_any (is_addition_of id) b.pending) (λ yes. eqb-false next id (none_added next id b.pending given yes) (sym e ∙ eqb-true m.id id h))

  count_added : (m : MsgRow) → m.id ≡ next → (n : ℕ) → count_passed n (s.pending ++ Add m ∷ []) ≡ count_passed n s.pending + (if nat_lt next n then 1 else 0)
  count_added m e n = by s.pending
    where
      by : (rest : List Pending) → count_passed n (rest ++ Add m ∷ []) ≡ count_passed n rest + (if nat_lt next n then 1 else 0)
      by [] = let g : one_if (nat_lt m.id n) ≡ one_if (nat_lt next n) = ap (λ x. one_if (nat_lt x n)) e in omega (arith, g)
      by (Add a ∷ more) = let ih = by more in omega (arith, ih)
      by (Remove id slot ∷ more) = by more

  added_standing : (m : MsgRow) → m.id ≡ next → MayEnd t (next + 1) moment behind → behind.pending ≡ s.pending ++ Add m ∷ [] → behind.marks ≡ s.marks → AreStanding t db (next + 1) moment (slice_set sessions i behind)
  added_standing m e end p q =
      replaced_standing t t db next (next + 1) moment i s behind sessions k there here
      (record { right = end.commits.right; apart = end.commits.apart; given = end.given; agree = end.marks; marked = λ id slot h. (k.each i s there at).marked id slot (ap (list_any (marks_slot id slot)) (sym q) ∙ h) })
      (λ j b f g d. stands_later t b next moment (next + 1) moment (omega arith) (omega arith) (k.each j b f g)) (added_two m e p q)
      (room_less t (λ n. count_held db sessions n + (if nat_lt next n then 1 else 0)) (count_held db (slice_set sessions i behind))
      (λ n. let a = count_set db sessions i s behind n there at here in let b = ap (count_passed n) p in let c = count_added m e n in omega (arith, a, b, c)) (standing_room t db next moment sessions k))
      (let a = k.up in omega (arith, a))

  -- the message is added at once
  may_add : (m : MsgRow) → m.id ≡ next → IsAdditionRight t moment m → MayCommit t moment (Add m ∷ [])
  may_add m e right = record {
    right = All-cons (IsPendingRight t moment) (Add m) [] right (All-nil (IsPendingRight t moment));
    apart = pairs-one AreApart (Add m);
    lanes = λ name q f. let a = k.room.lanes t.next (omega arith) name q f in let b = none_yet m e in omega (arith, a, b);
    groups = λ some. absurd (let b = none_yet m e in omega (arith, some, b));
  }
    where
      none_yet : (m : MsgRow) → m.id ≡ next → count_passed t.next (Add m ∷ []) ≡ 0
      none_yet m e = let up = k.up in let g : one_if (nat_lt m.id t.next) ≡ one_if false = ap one_if (le-ltb m.id t.next (omega (arith, up, e))) in omega (arith, g)

  at_once_standing : (m : MsgRow) → m.id ≡ next → IsAdditionRight t moment m → behind.pending ≡ s.pending → behind.marks ≡ s.marks → AreStanding (committed_tables t (commit_of t moment (Add m ∷ [])) moment) db (next + 1) moment (slice_set sessions i behind)
  at_once_standing m e right p q =
      let may = may_add m e right in
      let cs = commit_of t moment (Add m ∷ []) in
      let g = commit_goes t moment (Add m ∷ []) v le top may in
      let room = commit_leaves_room t moment (Add m ∷ []) (count_held db sessions) v le top may
      (room_less t (λ n. count_held db sessions n + (if nat_lt next n then 1 else 0)) (λ n. count_passed n (Add m ∷ []) + count_held db sessions n)
      (λ n. let a : one_if (nat_lt m.id n) ≡ one_if (nat_lt next n) = ap (λ x. one_if (nat_lt x n)) e in omega (arith, a)) (standing_room t db next moment sessions k)) in
      same_standing (committed_tables t cs moment) db (next + 1) moment i s behind sessions
      (all_standing t db next moment sessions cs le g k
      (λ j b f h. record {
        slots = λ id slot w. commit_names id slot t moment (Add m ∷ []) refl;
        ids = λ id w. commit_puts id t moment (Add m ∷ []) (or_from (m.id == id) false (ap (λ n. n == id) e ∙ none_added next id b.pending (k.each j b f h).given w) refl);
      }) (next + 1) (omega arith) room (commit_below (next + 1) t moment (Add m ∷ []) (All-cons (IsGiven (next + 1)) (Add m) [] (omega (arith, e)) (All-nil (IsGiven (next + 1))))))
      there at same p q

  nothing_standing : (cs : List Change) (now : ℕ) → next ≤ now → cs ≡ [] → behind.pending ≡ s.pending → behind.marks ≡ s.marks → AreStanding (committed_tables t cs moment) db now moment (slice_set sessions i behind)
  nothing_standing cs now up e p q =
      subst (λ ds. AreStanding (committed_tables t ds moment) db now moment (slice_set sessions i behind)) (sym e)
      (standing_later t db next moment now moment (slice_set sessions i behind) up (omega arith) (same_standing t db next moment i s behind sessions k there at same p q))

  held_as : (now : ℕ) (after : Session) → behind.pending ≡ after.pending → behind.marks ≡ after.marks → MayEnd t now moment after → MayEnd t now moment behind
  held_as now after p q end = record {
    commits = subst (MayCommit t moment) (sym p) end.commits;
    marks = record { removed = λ id slot. ap (list_any (λ mark. mark.removed && marks_slot id slot mark)) q ∙ end.marks.removed id slot ∙ ap (list_any (is_removal_of id slot)) (sym p) };
    given = subst (All (IsGiven now)) (sym p) end.given;
  }

  visible_standing : (visibility : Visibility) (m : MsgRow) (cs : List Change) (after : Session) → m.id ≡ next → IsAdditionRight t moment m → MayEnd t (next + 1) moment after → AddsIn visibility t s m moment cs after → behind.pending ≡ after.pending → behind.marks ≡ after.marks
      → AreStanding (committed_tables t cs moment) db (next + 1) moment (slice_set sessions i behind)
  visible_standing visibilities.OnCommit m cs after e right end h p q =
      subst (λ ds. AreStanding (committed_tables t ds moment) db (next + 1) moment (slice_set sessions i behind)) (sym h.none)
      (added_standing m e (held_as (next + 1) after p q end) (p ∙ h.pending) (q ∙ h.marks))
  visible_standing visibilities.Immediate m cs after e right end h p q =
      subst (λ ds. AreStanding (committed_tables t ds moment) db (next + 1) moment (slice_set sessions i behind)) (sym h.commits) (at_once_standing m e right (p ∙ h.pending) (q ∙ h.marks))

  adds_standing : (ask : Enqueue) (reply : Reply) (cs : List Change) (after : Session) → Adds reply ask t s next moment cs after → MayEnd t (next + ids_taken reply) moment after → behind.pending ≡ after.pending → behind.marks ≡ after.marks
      → AreStanding (committed_tables t cs moment) db (next + ids_taken reply) moment (slice_set sessions i behind)
  adds_standing ask (replies.Enqueued id) cs after h end p q = visible_standing ask.visibility h.message cs after h.number_is h.right end h.adds p q
  adds_standing ask _ cs after h end p q = nothing_standing cs (next + 0) (omega arith) h.none (p ∙ h.pending) (q ∙ h.marks)

pub enqueue_keeps_standing : (t : Tables) (db : DbId) (next moment i : ℕ) (s : Session) (sessions : List Session) (ask : Enqueue) (reply : Reply) (cs : List Change) (after behind : Session) → is_valid t ≡ true → has_ordered_fields t ≡ true → t.latest ≤ moment → moment ≤ MOMENT_LIMIT
    → is_within (statements.Enqueue ask) ≡ true → AreStanding t db next moment sessions → slice_get sessions i ≡ Some s → is_same_db s.at db ≡ true → enqueue t s ask next moment ≡ answers reply cs after → HoldsAs behind s after
    → AreStanding (committed_tables t cs moment) db (next + ids_taken reply) moment (slice_set sessions i behind)
enqueue_keeps_standing t db next moment i s sessions ask reply cs after behind v o le top w k there at e held =
    let end = standing_may_end t db next moment i s sessions k there at in
    adds_standing t db next moment i s behind sessions v le top k there at held.at ask reply cs after (enqueue_adds_right t s ask next moment reply cs after v o le top k.up w e)
    (enqueue_keeps_end t s ask next moment reply cs after v o le top k.up w end e) held.pending held.marks

-- ---- behind a dequeue

-- what is taken and committed
pub data TakesSo (t : Tables) (s : Session) (moment : ℕ) (cs : List Change) (after : Session) : Type 0 where
  none : cs ≡ [] → ((id : ℕ) → list_any (is_addition_of id) after.pending ≡ list_any (is_addition_of id) s.pending) → ((n : ℕ) → count_passed n after.pending ≡ count_passed n s.pending) → TakesSo t s moment cs after
  once : (id slot : ℕ) → is_open_at t id slot ≡ true → cs ≡ commit_of t moment (Remove id slot ∷ []) → after.pending ≡ s.pending → TakesSo t s moment cs after

passed_removal : (n id slot : ℕ) (pending : List Pending) → count_passed n (pending ++ Remove id slot ∷ []) ≡ count_passed n pending
passed_removal n id slot [] = refl
passed_removal n id slot (Add m ∷ more) = ap (λ c. (if nat_lt m.id n then 1 else 0) + c) (passed_removal n id slot more)
passed_removal n id slot (Remove named a ∷ more) = passed_removal n id slot more

or_off : (a : Bool) → (a || false) ≡ a
or_off true = refl
or_off false = refl

nothing_so : (t : Tables) (s : Session) (moment : ℕ) (cs : List Change) (after : Session) → TakesNothing s cs after → TakesSo t s moment cs after
nothing_so t s moment cs after h = none h.none (λ id. ap (list_any (is_addition_of id)) h.pending) (λ n. ap (count_passed n) h.pending)

later_so : (t : Tables) (s : Session) (moment : ℕ) (cs : List Change) (after : Session) → TakesLater t s cs after → TakesSo t s moment cs after
later_so t s moment cs after h =
    none h.none (λ id. ap (list_any (is_addition_of id)) h.pending ∙ any_last (is_addition_of id) s.pending (Remove h.id h.slot) ∙ or_off (list_any (is_addition_of id) s.pending)) (λ n. ap (count_passed n) h.pending ∙ passed_removal n h.id h.slot s.pending)

in_so : (mode : Mode) (visibility : Visibility) (t : Tables) (s : Session) (moment : ℕ) (cs : List Change) (after : Session) → TakesIn mode visibility t s moment cs after → TakesSo t s moment cs after
in_so modes.Remove visibilities.OnCommit t s moment cs after h = later_so t s moment cs after h
in_so modes.Remove visibilities.Immediate t s moment cs after h = once h.id h.slot h.may.open_there h.commits h.pending
in_so modes.RemoveNodata visibilities.OnCommit t s moment cs after h = later_so t s moment cs after h
in_so modes.RemoveNodata visibilities.Immediate t s moment cs after h = once h.id h.slot h.may.open_there h.commits h.pending
in_so modes.Browse visibility t s moment cs after h = nothing_so t s moment cs after h
in_so modes.Locked visibility t s moment cs after h = nothing_so t s moment cs after h

pub takes_so : (reply : Reply) (ask : Dequeue) (t : Tables) (s : Session) (moment : ℕ) (cs : List Change) (after : Session) → Takes reply ask t s moment cs after → TakesSo t s moment cs after
takes_so (replies.Message message) ask t s moment cs after h = in_so ask.mode ask.visibility t s moment cs after h
takes_so _ ask t s moment cs after h = nothing_so t s moment cs after h

module _ (t : Tables) (db : DbId) (next moment i : ℕ) (s behind after : Session) (sessions : List Session) (cs : List Change) (v : is_valid t ≡ true) (le : t.latest ≤ moment) (top : moment ≤ MOMENT_LIMIT) (k : AreStanding t db next moment sessions)
    (there : slice_get sessions i ≡ Some s) (at : is_same_db s.at db ≡ true) (held : HoldsAs behind s after) (end : MayEnd t next moment after) (free : TakesFree t sessions i s cs after)
    (adds : (id : ℕ) → list_any (is_addition_of id) after.pending ≡ list_any (is_addition_of id) s.pending) (counts : (n : ℕ) → count_passed n after.pending ≡ count_passed n s.pending) where
  db_here : is_same_db behind.at db ≡ true
  db_here = same_db behind.at s.at db held.at at

  -- sessions of the database are those of the session's
  as_own : (b : Session) → is_same_db b.at db ≡ true → is_same_db b.at s.at ≡ true
  as_own b f = same_all b.at s.at db f at
    where
      same_all : (x y z : DbId) → is_same_db x z ≡ true → is_same_db y z ≡ true → is_same_db x y ≡ true
      same_all Home Home z a b = refl
      same_all Away Away z a b = refl
      same_all Home Away Home a b = absurd (false≢true b)
      same_all Home Away Away a b = absurd (false≢true a)
      same_all Away Home Home a b = absurd (false≢true a)
      same_all Away Home Away a b = absurd (false≢true b)

  after_marked : (id slot : ℕ) → (list_any (marks_slot id slot) s.marks ≡ true) ⊎ (IsFreeOf sessions i s.at id slot × (is_open_at t id slot ≡ true)) → is_open_at t id slot ≡ true
  after_marked id slot (inl h) = (k.each i s there at).marked id slot h
  after_marked id slot (inr h) = h.1

  after_two : (j : ℕ) (b : Session) → slice_get sessions j ≡ Some b → is_same_db b.at db ≡ true → (j == i) ≡ false → AreTwo behind b × AreTwo b behind
  after_two j b f g d =
      let one = k.two i j s b there f at g (not_same j i d) in
      let back = k.two j i b s f there g at d in (
        record {
          slots = λ id slot h. old_or_free id slot one (free.marked id slot (ap (list_any (marks_slot id slot)) (sym held.marks) ∙ h));
          ids = λ id h. one.ids id (sym (ap (list_any (is_addition_of id)) held.pending ∙ adds id) ∙ h);
        },
        record {
          slots = λ id slot h. false_from_ne_true (list_any (marks_slot id slot) behind.marks)
              (λ yes. true≢false (sym h ∙ old_or_free id slot one (free.marked id slot (ap (list_any (marks_slot id slot)) (sym held.marks) ∙ yes))));
          ids = λ id h. ap (list_any (is_addition_of id)) held.pending ∙ adds id ∙ back.ids id h;
        },
      )
    where
      old_or_free : (id slot : ℕ) → AreTwo s b → (list_any (marks_slot id slot) s.marks ≡ true) ⊎ (IsFreeOf sessions i s.at id slot × (is_open_at t id slot ≡ true)) → list_any (marks_slot id slot) b.marks ≡ false
      old_or_free id slot one (inl h) = one.slots id slot h
      old_or_free id slot one (inr h) = h.0 j b f (as_own b g) d

  -- in the tables before
  taken_standing : AreStanding t db next moment (slice_set sessions i behind)
  taken_standing =
      replaced_standing t t db next next moment i s behind sessions k there db_here
      (stands_as t next moment after behind held.pending held.marks (record { right = end.commits.right; apart = end.commits.apart; given = end.given; agree = end.marks; marked = λ id slot h. after_marked id slot (free.marked id slot h) }))
      (λ j b e f d. k.each j b e f) after_two
      (room_less t (count_held db sessions) (count_held db (slice_set sessions i behind)) (λ n. let a = count_set db sessions i s behind n there at db_here in let b = ap (count_passed n) held.pending in let c = counts n in omega (arith, a, b, c)) k.room) k.up

  -- the slot that is taken at once is marked by none
  unmarked : (id slot : ℕ) → list_any (is_of_slot id slot) cs ≡ true → (j : ℕ) (b : Session) → is_same_db b.at db ≡ true → ((j ≡ i) × (Some behind ≡ Some b)) ⊎ ((j ≢ i) × (slice_get sessions j ≡ Some b)) → list_any (marks_slot id slot) b.marks ≡ false
  unmarked id slot h j b g (inl p) =
      let same : behind ≡ b = (let f : Some behind ≡ Some b = p.1 in cc) in ap (λ y. list_any (marks_slot id slot) y.marks) (sym same) ∙ ap (list_any (marks_slot id slot)) held.marks ∙ (free.named id slot h).1
  unmarked id slot h j b g (inr p) = (free.named id slot h).0 j b p.1 (as_own b g) (ne_eqb j i p.0)

  once_standing : (id slot : ℕ) → is_open_at t id slot ≡ true → cs ≡ commit_of t moment (Remove id slot ∷ []) → AreStanding (committed_tables t cs moment) db next moment (slice_set sessions i behind)
  once_standing id slot o e =
      let g = subst (GoesWell true (at_latest moment t)) (sym e) (commit_goes t moment (Remove id slot ∷ []) v le top (removal_may t moment id slot v o)) in
      others_standing t db next moment (slice_set sessions i behind) cs le g taken_standing
      (λ j b f h. record {
        slots = λ n a w. false_from_ne_true (list_any (is_of_slot n a) cs) (λ yes. true≢false (sym w ∙ unmarked n a yes j b h (get_set-cases sessions i j behind b (slice_get_within sessions i s there) f)));
        ids = λ n w. ap (list_any (puts_in n)) e ∙ commit_puts n t moment (Remove id slot ∷ []) refl;
      }) (ap (list_any is_put_in) e ∙ puts_none id slot)
    where
      puts_none : (id slot : ℕ) → list_any is_put_in (commit_of t moment (Remove id slot ∷ [])) ≡ false
      puts_none id slot =
          any_append is_put_in (changes.Done id slot moment ∷ []) (flat_map (settling t (changes.Done id slot moment ∷ [])) (names_of (changes.Done id slot moment ∷ []))) refl
          (settled_none is_put_in (λ n queue a. refl) (λ n. refl) t (changes.Done id slot moment ∷ []))

by_way : (t : Tables) (db : DbId) (next moment i : ℕ) (s behind after : Session) (sessions : List Session) (cs : List Change) → is_valid t ≡ true → t.latest ≤ moment → moment ≤ MOMENT_LIMIT → AreStanding t db next moment sessions
    → slice_get sessions i ≡ Some s → is_same_db s.at db ≡ true → HoldsAs behind s after → MayEnd t next moment after → TakesFree t sessions i s cs after → TakesSo t s moment cs after
    → AreStanding (committed_tables t cs moment) db next moment (slice_set sessions i behind)
by_way t db next moment i s behind after sessions cs v le top k there at held end free (none e adds counts) =
    subst (λ ds. AreStanding (committed_tables t ds moment) db next moment (slice_set sessions i behind)) (sym e) (taken_standing t db next moment i s behind after sessions cs v le top k there at held end free adds counts)
by_way t db next moment i s behind after sessions cs v le top k there at held end free (once id slot o e p) =
    once_standing t db next moment i s behind after sessions cs v le top k there at held end free (λ n. ap (list_any (is_addition_of n)) p) (λ n. ap (count_passed n) p) id slot o e

pub dequeue_keeps_standing : (t : Tables) (db : DbId) (next moment i : ℕ) (s : Session) (sessions : List Session) (ask : Dequeue) (reply : Reply) (cs : List Change) (after behind : Session) → is_valid t ≡ true → t.latest ≤ moment → moment ≤ MOMENT_LIMIT
    → AreStanding t db next moment sessions → slice_get sessions i ≡ Some s → is_same_db s.at db ≡ true → dequeue t sessions i s ask moment ≡ answers reply cs after → HoldsAs behind s after
    → AreStanding (committed_tables t cs moment) db next moment (slice_set sessions i behind)
dequeue_keeps_standing t db next moment i s sessions ask reply cs after behind v le top k there at e held =
    let x = k.each i s there at in
    by_way t db next moment i s behind after sessions cs v le top k there at held (dequeue_keeps_end t sessions i s ask next moment reply cs after v le top (standing_may_end t db next moment i s sessions k there at) e)
    (dequeue_takes_free t sessions i s ask moment reply cs after v le top x.agree e) (takes_so reply ask t s moment cs after (dequeue_removes_open t sessions i s ask moment reply cs after v le top x.agree e).0)

-- ---- behind a listen

abbrev pub HoldsSame : Session → Reply → List Change → Session → Type 0
HoldsSame s reply cs after = (cs ≡ []) × (after.pending ≡ s.pending) × (after.marks ≡ s.marks)

listened_same : (s : Session) (wait moment : ℕ) (o : Option Reply) → Says (HoldsSame s) (listened s wait moment o)
listened_same s wait moment (Some reply) = (refl, refl, refl)
listened_same s wait moment None = says_if (HoldsSame s) (still_waits s wait moment) (parks (first_look s moment)) (refused s replies.NoMessage) (λ _. tt) (λ _. (refl, refl, refl))

pub listen_same : (t : Tables) (sessions : List Session) (i : ℕ) (s : Session) (ask : Listen) (moment : ℕ) → Says (HoldsSame s) (listen t sessions i s ask moment)
unfolding listen
listen_same t sessions i s ask moment = listened_same s ask.wait moment (option_or (agents_fault t ask.agents) (served_from 1 (is_served t sessions i s) ask.agents))

pub listen_keeps_standing : (t : Tables) (db : DbId) (next moment i : ℕ) (s : Session) (sessions : List Session) (ask : Listen) (reply : Reply) (cs : List Change) (after behind : Session) → AreStanding t db next moment sessions
    → slice_get sessions i ≡ Some s → is_same_db s.at db ≡ true → listen t sessions i s ask moment ≡ answers reply cs after → HoldsAs behind s after → AreStanding (committed_tables t cs moment) db next moment (slice_set sessions i behind)
listen_keeps_standing t db next moment i s sessions ask reply cs after behind k there at e held =
    let h = says_so (HoldsSame s) (listen t sessions i s ask moment) reply cs after (listen_same t sessions i s ask moment) e in
    subst (λ ds. AreStanding (committed_tables t ds moment) db next moment (slice_set sessions i behind)) (sym h.0)
    (same_standing t db next moment i s behind sessions k there at held.at (held.pending ∙ h.1) (held.marks ∙ h.2))
