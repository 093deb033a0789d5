-- What the sessions of a database hold stands behind each kind of commit.
use Rattle.std.proofs.Common.{◌≡◌, ◌≢◌, ◌≤◌, ◌<◌, ◌+◌, ◌⊎◌, inl, inr, ℕ, zero, suc, List, [], ◌∷◌, Bool, true, false, refl, sym, ap, ◌∙◌, subst, arith, Option, Some, None, ◌==◌, ◌&&◌, ◌||◌}
use Rattle.std.specs.Prelude.{slice_get, slice_set, flat_map, All, AllPairs, if◌then◌else◌}
use Rattle.std.specs.List.{list_any, list_all}
use Rattle.std.proofs.lemmas.Bool.{eqb-true, eqb-false, ne_eqb, and_parts, and_from, or_from, or_left, or_right, false_from_ne_true, false≢true, true≢false}
use Rattle.std.proofs.lemmas.Option.{none-some, slice_get_within}
use Rattle.std.proofs.lemmas.List.Elements.{All-nil, All-weaker}
use Rattle.aq_base.specs.declared.DbId.{DbId}
use Rattle.aq_base.specs.declared.limits.TheConstants.{MOMENT_LIMIT}
use Rattle.slot_marks.specs.declared.mark.Mark.{Mark}
use Rattle.slot_marks.specs.declared.mark.Group.{Group}
use Rattle.queue_rows.specs.Rows.{find_message, slot_of}
use Rattle.queue_rows.specs.Tables.{after_all}
use Rattle.queue_rows.specs.Settling.{settling, settled, names_of}
use Rattle.queue_rows.specs.Commits.{commit_of}
use Rattle.queue_rows.specs.Transactions.{commit, rollback, rollback_of, retry_of}
use Rattle.queue_rows.specs.Session.{Session, is_same_db, marks_slot, holds, marks_group}
use Rattle.queue_rows.specs.Meaning.{answers}
use Rattle.queue_rows.specs.Due.{Watch, group_in, is_held_by_any, is_sent, is_left, slot_numbers, due_slot, due_slots, due}
use Rattle.queue_rows.specs.Propagating.{confirming}
use Rattle.queue_rows.specs.World.{committed_tables}
use Rattle.queue_rows.specs.Valid.{is_valid, is_valid_schedule}
use Rattle.queue_rows.specs.declared.tables.Tables.{Tables}
use Rattle.queue_rows.specs.declared.rows.MsgRow.{MsgRow}
use Rattle.queue_rows.specs.declared.rows.SlotRow.{SlotRow}
use Rattle.queue_rows.specs.declared.rows.ScheduleRow.{ScheduleRow}
use Rattle.queue_rows.specs.declared.session.Pending.{Pending}
use Rattle.queue_rows.specs.declared.session.Pending.TheVariants.{Add, Remove}
use Rattle.queue_rows.specs.declared.change.Change.{Change}
use Rattle.queue_rows.specs.declared.history.SlotRef.{SlotRef}
use Rattle.queue_rows.specs.declared.reply.Reply.{Reply}
use Rattle.queue_rows.proofs.Sessions.{get_set-cases}
use Rattle.row_laws.proofs.Latest.{at_latest}
use Rattle.valid_laws.specs.Openness.{is_open_at}
use Rattle.valid_laws.specs.Touching.{is_of_slot, puts_in, is_put_in, puts_below}
use Rattle.valid_laws.specs.PendingLaws.{IsPendingRight, AreApart, count_passed, HasRoom}
use Rattle.valid_laws.proofs.Doing.{Kind, nothing, expires, readies, changes_by, kind_in, due_slot_is}
use Rattle.valid_laws.proofs.Ending.{undone}
use Rattle.valid_laws.proofs.Framing.{any_append, any_flat, settled_none, below_if_none, room_less}
use Rattle.valid_laws.proofs.Completing.{depth_known}
use Rattle.valid_laws.proofs.Lowering.{numbers_of}
use Rattle.valid_laws.proofs.Going.{GoesWell}
use Rattle.valid_laws.proofs.Pending.{commit_goes, commit_leaves_room}
use Rattle.valid_laws.proofs.Retrying.{rollback_goes_well}
use Rattle.valid_laws.proofs.Saying.{any_flat_if, retry_message_none, rollback_none, undone_none, slots_put, confirm_none}
use Rattle.valid_laws.proofs.Undone.{due_goes}
use Rattle.valid_laws.proofs.Arriving.{confirmation_goes}
use Rattle.statement_laws.specs.Sessions.{is_removal_of, is_addition_of, MarksAgree}
use Rattle.statement_laws.specs.SessionLaws.{IsGiven, MayEnd}
use Rattle.statement_laws.specs.StandingLaws.{StandsIn, AreTwo, count_held, AreStanding, HoldsAs}
use Rattle.statement_laws.proofs.Adding.{lowest_at_least}
use Rattle.statement_laws.proofs.Among.{Says, says_so}
use Rattle.statement_laws.proofs.Ending.{may_roll_back, pending_right_later, given_later}
use Rattle.statement_laws.proofs.Naming.{commit_names, commit_puts, commit_below}
use Rattle.statement_laws.proofs.Framing.{removed_marked, IsUntouched, stands_on, standing_committed, same_db, count_set}

-- ---- each of them may end its transaction

count_of : (db : DbId) (sessions : List Session) (i : ℕ) (s : Session) (n : ℕ) → slice_get sessions i ≡ Some s → is_same_db s.at db ≡ true → count_passed n s.pending ≤ count_held db sessions n
count_of db [] i s n e h = absurd (none-some s e)
count_of db (x ∷ xs) zero s n e h =
    let same : x ≡ s = (let f : Some x ≡ Some s = e in cc) in
    let a : (if is_same_db x.at db then count_passed n x.pending else 0) ≡ count_passed n s.pending = ap (λ y. if is_same_db y.at db then count_passed n y.pending else 0) same ∙ here s h in
    omega (arith, a)
  where
    here : (y : Session) → is_same_db y.at db ≡ true → (if is_same_db y.at db then count_passed n y.pending else 0) ≡ count_passed n y.pending
    here y k = rw k refl
count_of db (x ∷ xs) (suc i) s n e h = let ih = count_of db xs i s n e h in omega (arith, ih)

pub standing_may_end : (t : Tables) (db : DbId) (next moment i : ℕ) (s : Session) (sessions : List Session) → AreStanding t db next moment sessions → slice_get sessions i ≡ Some s → is_same_db s.at db ≡ true → MayEnd t next moment s
standing_may_end t db next moment i s sessions k e h =
    let x = k.each i s e h in
    record {
      commits = record {
        right = x.right;
        apart = x.apart;
        lanes = λ name queue f. let a = k.room.lanes t.next (omega arith) name queue f in let b = count_of db sessions i s t.next e h in omega (arith, a, b);
        groups = λ some. let a = k.room.groups t.next (omega arith) in let b = count_of db sessions i s t.next e h in omega (arith, a, b, some);
      };
      marks = x.agree;
      given = x.given;
    }

-- ---- sessions that hold nothing

pub empty_stands : (t : Tables) (next moment : ℕ) (s : Session) → s.pending ≡ [] → s.marks ≡ [] → StandsIn t next moment s
empty_stands t next moment s p m = record {
  right = subst (All (IsPendingRight t moment)) (sym p) (All-nil (IsPendingRight t moment));
  apart = subst (AllPairs AreApart) (sym p) (λ i j d lt at. absurd (let no : j < 0 = at in omega (arith, no)));
  given = subst (All (IsGiven next)) (sym p) (All-nil (IsGiven next));
  agree = record { removed = λ id slot. ap (list_any (λ mark. mark.removed && marks_slot id slot mark)) m ∙ sym (ap (list_any (is_removal_of id slot)) p) };
  marked = λ id slot h. absurd (false≢true (sym (ap (list_any (marks_slot id slot)) m) ∙ h));
}

pub empty_two : (a b : Session) → a.pending ≡ [] → a.marks ≡ [] → AreTwo a b
empty_two a b p m = record {
  slots = λ id slot h. absurd (false≢true (sym (ap (list_any (marks_slot id slot)) m) ∙ h));
  ids = λ id h. absurd (false≢true (sym (ap (list_any (is_addition_of id)) p) ∙ h));
}

pub two_empty : (a b : Session) → b.pending ≡ [] → b.marks ≡ [] → AreTwo a b
two_empty a b p m = record {
  slots = λ id slot h. ap (list_any (marks_slot id slot)) m;
  ids = λ id h. ap (list_any (is_addition_of id)) p;
}

count_none : (db : DbId) (sessions : List Session) (n : ℕ) → ((i : ℕ) (s : Session) → slice_get sessions i ≡ Some s → (s.pending ≡ []) × (s.marks ≡ [])) → count_held db sessions n ≡ 0
count_none db [] n h = refl
count_none db (x ∷ xs) n h =
    let a = none_of x (is_same_db x.at db) (h zero x refl).0 in
    let ih = count_none db xs n (λ i s e. h (suc i) s e) in
    omega (arith, a, ih)
  where
    none_of : (y : Session) (b : Bool) → y.pending ≡ [] → (if b then count_passed n y.pending else 0) ≡ 0
    none_of y true e = ap (count_passed n) e
    none_of y false e = refl

pub empty_are_standing : (t : Tables) (db : DbId) (next moment : ℕ) (sessions : List Session) → is_valid t ≡ true → t.next ≤ next → ((i : ℕ) (s : Session) → slice_get sessions i ≡ Some s → (s.pending ≡ []) × (s.marks ≡ []))
    → AreStanding t db next moment sessions
empty_are_standing t db next moment sessions v up h = record {
  each = λ i s e f. let x = h i s e in empty_stands t next moment s x.0 x.1;
  two = λ i j a b ea eb fa fb d. let x = h i a ea in empty_two a b x.0 x.1;
  room = record {
    lanes = λ n le name queue f. let a = count_none db sessions n h in let b = depth_known t.next queue.lowest (lowest_at_least t name queue v f) in omega (arith, a, b, le);
    groups = λ n le. let a = count_none db sessions n h in let b = (numbers_of t v).below in omega (arith, a, b, le);
  };
  up = up;
}

-- ---- later

pub stands_later : (t : Tables) (s : Session) (next moment behind later : ℕ) → next ≤ behind → moment ≤ later → StandsIn t next moment s → StandsIn t behind later s
stands_later t s next moment behind later le at x = record {
  right = All-weaker (IsPendingRight t moment) (IsPendingRight t later) (pending_right_later t moment later at) s.pending x.right;
  apart = x.apart;
  given = All-weaker (IsGiven next) (IsGiven behind) (given_later next behind le) s.pending x.given;
  agree = x.agree;
  marked = x.marked;
}

pub standing_later : (t : Tables) (db : DbId) (next moment behind later : ℕ) (sessions : List Session) → next ≤ behind → moment ≤ later → AreStanding t db next moment sessions → AreStanding t db behind later sessions
standing_later t db next moment behind later sessions le at k = record {
  each = λ i s e f. stands_later t s next moment behind later le at (k.each i s e f);
  two = k.two;
  room = k.room;
  up = let a = k.up in omega (arith, a, le);
}

-- ---- one of them holds something else

module _ (t u : Tables) (db : DbId) (next now moment i : ℕ) (s behind : Session) (sessions : List Session) (k : AreStanding t db next moment sessions) (there : slice_get sessions i ≡ Some s) (here : is_same_db behind.at db ≡ true)
    (own : StandsIn u now moment behind)
    (others : (j : ℕ) (b : Session) → slice_get sessions j ≡ Some b → is_same_db b.at db ≡ true → (j == i) ≡ false → StandsIn u now moment b)
    (own_two : (j : ℕ) (b : Session) → slice_get sessions j ≡ Some b → is_same_db b.at db ≡ true → (j == i) ≡ false → AreTwo behind b × AreTwo b behind)
    (room : HasRoom u (count_held db (slice_set sessions i behind))) (up : u.next ≤ now) where
  place_of : (j : ℕ) (y : Session) → slice_get (slice_set sessions i behind) j ≡ Some y → ((j ≡ i) × (Some behind ≡ Some y)) ⊎ ((j ≢ i) × (slice_get sessions j ≡ Some y))
  place_of j y e = get_set-cases sessions i j behind y (slice_get_within sessions i s there) e

  each_by : (j : ℕ) (y : Session) → is_same_db y.at db ≡ true → ((j ≡ i) × (Some behind ≡ Some y)) ⊎ ((j ≢ i) × (slice_get sessions j ≡ Some y)) → StandsIn u now moment y
  each_by j y h (inl p) = let same : behind ≡ y = (let f : Some behind ≡ Some y = p.1 in cc) in subst (StandsIn u now moment) same own
  each_by j y h (inr p) = others j y p.1 h (ne_eqb j i p.0)

  two_by : (j l : ℕ) (a b : Session) → is_same_db a.at db ≡ true → is_same_db b.at db ≡ true → (j == l) ≡ false
      → ((j ≡ i) × (Some behind ≡ Some a)) ⊎ ((j ≢ i) × (slice_get sessions j ≡ Some a)) → ((l ≡ i) × (Some behind ≡ Some b)) ⊎ ((l ≢ i) × (slice_get sessions l ≡ Some b)) → AreTwo a b
  two_by j l a b fa fb d (inl p) (inl q) = absurd (eqb-false j l d (p.0 ∙ sym q.0))
  two_by j l a b fa fb d (inl p) (inr q) = let same : behind ≡ a = (let f : Some behind ≡ Some a = p.1 in cc) in subst (λ x. AreTwo x b) same (own_two l b q.1 fb (ne_eqb l i q.0)).0
  two_by j l a b fa fb d (inr p) (inl q) = let same : behind ≡ b = (let f : Some behind ≡ Some b = q.1 in cc) in subst (λ x. AreTwo a x) same (own_two j a p.1 fa (ne_eqb j i p.0)).1
  two_by j l a b fa fb d (inr p) (inr q) = k.two j l a b p.1 q.1 fa fb d

  pub replaced_standing : AreStanding u db now moment (slice_set sessions i behind)
  replaced_standing = record {
    each = λ j y e h. each_by j y h (place_of j y e);
    two = λ j l a b ea eb fa fb d. two_by j l a b fa fb d (place_of j a ea) (place_of l b eb);
    room = room;
    up = up;
  }

-- ---- what a session removes

-- what one session removes, another one has not marked
none_removed : (s : Session) (id slot : ℕ) → MarksAgree s → list_any (marks_slot id slot) s.marks ≡ false → list_any (is_removal_of id slot) s.pending ≡ false
none_removed s id slot a h = false_from_ne_true (list_any (is_removal_of id slot) s.pending) (λ e. true≢false (sym (removed_marked s id slot a e) ∙ h))

-- ---- behind a commit

abbrev pub IsCommit : Tables → Session → ℕ → Reply → List Change → Session → Type 0
IsCommit t s moment reply cs after = (cs ≡ commit_of t moment s.pending) × (after.pending ≡ []) × (after.marks ≡ [])

pub is_commit : (t : Tables) (s : Session) (moment : ℕ) → Says (IsCommit t s moment) (commit t s moment)
unfolding commit
is_commit t s moment = (refl, refl, refl)

abbrev pub IsRollback : Tables → Session → ℕ → Reply → List Change → Session → Type 0
IsRollback t s moment reply cs after = (cs ≡ rollback_of t moment s.pending) × (after.pending ≡ []) × (after.marks ≡ [])

pub is_rollback : (t : Tables) (s : Session) (moment : ℕ) → Says (IsRollback t s moment) (rollback t s moment)
unfolding rollback
is_rollback t s moment = (refl, refl, refl)

-- the session holds nothing any more, and the others are untouched
module _ (t : Tables) (db : DbId) (next moment i : ℕ) (s behind : Session) (sessions : List Session) (cs : List Change) (g : GoesWell true (at_latest moment t) cs) (k : AreStanding t db next moment sessions) (there : slice_get sessions i ≡ Some s)
    (at : is_same_db s.at db ≡ true) (same : behind.at ≡ s.at) (p : behind.pending ≡ []) (m : behind.marks ≡ []) (untouched : (b : Session) → AreTwo b s → IsUntouched cs b) where
  here : is_same_db behind.at db ≡ true
  here = same_db behind.at s.at db same at

  -- what the others hold, with what this one held
  others_held : (n : ℕ) → count_passed n s.pending + count_held db (slice_set sessions i behind) n ≤ count_held db sessions n
  others_held n = let a = count_set db sessions i s behind n there at here in let b : count_passed n behind.pending ≡ 0 = ap (count_passed n) p in omega (arith, a, b)

  pub emptied_standing : HasRoom (after_all (at_latest moment t) cs) (count_held db (slice_set sessions i behind)) → list_all (puts_below next) cs ≡ true → AreStanding (after_all (at_latest moment t) cs) db next moment (slice_set sessions i behind)
  emptied_standing room below =
      replaced_standing t (after_all (at_latest moment t) cs) db next next moment i s behind sessions k there here
      (empty_stands (after_all (at_latest moment t) cs) next moment behind p m)
      (λ j b e f d. stands_on t moment cs g next b (k.each j b e f) (untouched b (k.two j i b s e there f at d)))
      (λ j b e f d. (empty_two behind b p m, two_empty b behind p m)) room (g.next next k.up below)

pub commit_untouched : (t : Tables) (moment : ℕ) (s b : Session) → MarksAgree s → AreTwo b s → IsUntouched (commit_of t moment s.pending) b
commit_untouched t moment s b a k = record {
  slots = λ id slot h. commit_names id slot t moment s.pending (none_removed s id slot a (k.slots id slot h));
  ids = λ id h. commit_puts id t moment s.pending (k.ids id h);
}

pub commit_keeps_standing : (t : Tables) (db : DbId) (next moment i : ℕ) (s : Session) (sessions : List Session) (reply : Reply) (cs : List Change) (after behind : Session) → is_valid t ≡ true → t.latest ≤ moment → moment ≤ MOMENT_LIMIT
    → AreStanding t db next moment sessions → slice_get sessions i ≡ Some s → is_same_db s.at db ≡ true → commit t s moment ≡ answers reply cs after → HoldsAs behind s after
    → AreStanding (committed_tables t cs moment) db next moment (slice_set sessions i behind)
commit_keeps_standing t db next moment i s sessions reply cs after behind v le top k there at e held =
    let c = says_so (IsCommit t s moment) (commit t s moment) reply cs after (is_commit t s moment) e in
    let x = k.each i s there at in
    let end = standing_may_end t db next moment i s sessions k there at in
    let ds = commit_of t moment s.pending in
    let g = commit_goes t moment s.pending v le top end.commits in
    let p = held.pending ∙ c.1 in
    let m = held.marks ∙ c.2 in
    let same = held.at in
    let others : ℕ → ℕ = count_held db (slice_set sessions i behind) in
    let room = commit_leaves_room t moment s.pending others v le top end.commits
    (room_less t (count_held db sessions) (λ n. count_passed n s.pending + others n) (others_held t db next moment i s behind sessions ds g k there at same p m (λ b two. commit_untouched t moment s b x.agree two)) k.room) in
    subst (λ es. AreStanding (committed_tables t es moment) db next moment (slice_set sessions i behind)) (sym c.0)
    (standing_committed t db next moment (slice_set sessions i behind) ds le g
    (emptied_standing t db next moment i s behind sessions ds g k there at same p m (λ b two. commit_untouched t moment s b x.agree two) room (commit_below next t moment s.pending x.given)))

-- ---- behind a rollback

retry_names : (t : Tables) (moment id slot : ℕ) (p : Pending) → is_removal_of id slot p ≡ false → list_any (is_of_slot id slot) (retry_of t moment p) ≡ false
retry_names t moment id slot (Add m) e = refl
retry_names t moment id slot (Remove named a) e = retry_message_none (is_of_slot id slot) t moment named a (λ retries until at. e) (λ at. e) (find_message t named)

rollback_untouched : (t : Tables) (moment : ℕ) (s b : Session) → MarksAgree s → AreTwo b s → IsUntouched (rollback_of t moment s.pending) b
rollback_untouched t moment s b a k = record {
  slots = λ id slot h.
      let cs = flat_map (retry_of t moment) s.pending in
      any_append (is_of_slot id slot) cs (flat_map (settling t cs) (names_of cs))
      (any_flat_if (is_removal_of id slot) (is_of_slot id slot) (retry_of t moment) (retry_names t moment id slot) s.pending (none_removed s id slot a (k.slots id slot h)))
      (settled_none (is_of_slot id slot) (λ n queue at. refl) (λ n. refl) t cs);
  ids = λ id h. rollback_none t moment s.pending (puts_in id) (λ n slot retries until at. refl) (λ n slot at. refl) (λ n queue at. refl) (λ n. refl);
}

pub rollback_keeps_standing : (t : Tables) (db : DbId) (next moment i : ℕ) (s : Session) (sessions : List Session) (reply : Reply) (cs : List Change) (after behind : Session) → is_valid t ≡ true → t.latest ≤ moment → moment ≤ MOMENT_LIMIT
    → AreStanding t db next moment sessions → slice_get sessions i ≡ Some s → is_same_db s.at db ≡ true → rollback t s moment ≡ answers reply cs after → HoldsAs behind s after
    → AreStanding (committed_tables t cs moment) db next moment (slice_set sessions i behind)
rollback_keeps_standing t db next moment i s sessions reply cs after behind v le top k there at e held =
    let c = says_so (IsRollback t s moment) (rollback t s moment) reply cs after (is_rollback t s moment) e in
    let x = k.each i s there at in
    let end = standing_may_end t db next moment i s sessions k there at in
    let ds = rollback_of t moment s.pending in
    let g = rollback_goes_well t moment s.pending v le top (may_roll_back t moment s.pending end.commits) in
    let p = held.pending ∙ c.1 in
    let m = held.marks ∙ c.2 in
    let same = held.at in
    let others : ℕ → ℕ = count_held db (slice_set sessions i behind) in
    let none = rollback_none t moment s.pending is_put_in (λ n slot retries until a. refl) (λ n slot a. refl) (λ n queue a. refl) (λ n. refl) in
    let held_less = others_held t db next moment i s behind sessions ds g k there at same p m (λ b two. rollback_untouched t moment s b x.agree two) in
    let room = g.room none others (let r = room_less t (count_held db sessions) others (λ n. let a = held_less n in omega (arith, a)) k.room in record { lanes = r.lanes; groups = r.groups }) in
    subst (λ es. AreStanding (committed_tables t es moment) db next moment (slice_set sessions i behind)) (sym c.0)
    (standing_committed t db next moment (slice_set sessions i behind) ds le g
    (emptied_standing t db next moment i s behind sessions ds g k there at same p m (λ b two. rollback_untouched t moment s b x.agree two) room (below_if_none next ds none)))

-- ---- behind work of no session

-- all sessions are untouched, and nothing is put in
module _ (t : Tables) (db : DbId) (next moment : ℕ) (sessions : List Session) (cs : List Change) (le : t.latest ≤ moment) (g : GoesWell true (at_latest moment t) cs) (k : AreStanding t db next moment sessions)
    (untouched : (i : ℕ) (s : Session) → slice_get sessions i ≡ Some s → is_same_db s.at db ≡ true → IsUntouched cs s) where
  pub all_standing : (now : ℕ) → next ≤ now → HasRoom (after_all (at_latest moment t) cs) (count_held db sessions) → list_all (puts_below now) cs ≡ true → AreStanding (committed_tables t cs moment) db now moment sessions
  all_standing now up room below =
      standing_committed t db now moment sessions cs le g
      (record {
        each = λ i s e f. stands_later (after_all (at_latest moment t) cs) s next moment now moment up (omega arith) (stands_on t moment cs g next s (k.each i s e f) (untouched i s e f));
        two = k.two;
        room = room;
        up = g.next now (let a = k.up in omega (arith, a, up)) below;
      })

  pub others_standing : list_any is_put_in cs ≡ false → AreStanding (committed_tables t cs moment) db next moment sessions
  others_standing none = all_standing next (omega arith) (g.room none (count_held db sessions) (let r = k.room in record { lanes = r.lanes; groups = r.groups })) (below_if_none next cs none)

-- ---- behind due work

-- who marks the slot holds it
held_step : (id slot : ℕ) (group : Option Group) (mark : Mark) (marks : List Mark) (b : Bool) → marks_slot id slot mark ≡ b → (b || list_any (marks_slot id slot) marks) ≡ true → (list_any (marks_slot id slot) marks ≡ true → list_any (holds id slot group) marks ≡ true)
    → list_any (holds id slot group) (mark ∷ marks) ≡ true
held_step id slot group mark marks true g l ih = or_left (holds id slot group mark) (list_any (holds id slot group) marks) (or_left (marks_slot id slot mark) (marks_group group mark) g)
held_step id slot group mark marks false g l ih = or_right (holds id slot group mark) (list_any (holds id slot group) marks) (ih l)

any_held : (id slot : ℕ) (group : Option Group) (marks : List Mark) → list_any (marks_slot id slot) marks ≡ true → list_any (holds id slot group) marks ≡ true
any_held id slot group [] k = absurd (false≢true k)
any_held id slot group (mark ∷ marks) k = held_step id slot group mark marks (marks_slot id slot mark) refl k (any_held id slot group marks)

-- a slot that some session has marked is left
held_by : (sessions : List Session) (db : DbId) (i : ℕ) (s : Session) (id slot : ℕ) (group : Option Group) → slice_get sessions i ≡ Some s → is_same_db s.at db ≡ true → list_any (marks_slot id slot) s.marks ≡ true → is_held_by_any sessions db id slot group ≡ true
held_by [] db i s id slot group e f h = absurd (none-some s e)
held_by (x ∷ xs) db zero s id slot group e f h =
    let same : s ≡ x = (let a : Some s ≡ Some x = sym e in cc) in
    or_left (is_same_db x.at db && list_any (holds id slot group) x.marks) (is_held_by_any xs db id slot group)
    (subst (λ y. (is_same_db y.at db && list_any (holds id slot group) y.marks) ≡ true) same
    (and_from (is_same_db s.at db) (list_any (holds id slot group) s.marks) f (any_held id slot group s.marks h)))
held_by (x ∷ xs) db (suc i) s id slot group e f h = or_right (is_same_db x.at db && list_any (holds id slot group) x.marks) (is_held_by_any xs db id slot group) (held_by xs db i s id slot group e f h)

kind_names : (id slot : ℕ) (kind : Kind) (named a moment : ℕ) → ((named == id) && (a == slot)) ≡ false → list_any (is_of_slot id slot) (changes_by kind named a moment) ≡ false
kind_names id slot nothing named a moment e = refl
kind_names id slot expires named a moment e = or_from ((named == id) && (a == slot)) false e refl
kind_names id slot readies named a moment e = or_from ((named == id) && (a == slot)) false e refl

module _ (w : Watch) (i : ℕ) (s : Session) (there : slice_get w.sessions i ≡ Some s) (at : is_same_db s.at w.db ≡ true) (id slot : ℕ) (marked : list_any (marks_slot id slot) s.marks ≡ true) where
  is_left_here : (m : MsgRow) (a : ℕ) → ((m.id == id) && (a == slot)) ≡ true → is_left w m a ≡ true
  is_left_here m a e =
      let p = and_parts (m.id == id) (a == slot) e in
      or_right (is_sent w.sent w.db m.id a) (is_held_by_any w.sessions w.db m.id a (group_in w.tables m a))
      (ap (λ n. is_held_by_any w.sessions w.db n a (group_in w.tables m a)) (eqb-true m.id id p.0) ∙ ap (λ n. is_held_by_any w.sessions w.db id n (group_in w.tables m a)) (eqb-true a slot p.1)
      ∙ held_by w.sessions w.db i s id slot (group_in w.tables m a) there at marked)

  left_none : (m : MsgRow) (a : ℕ) (o : Option SlotRow) → is_left w m a ≡ true → due_slot w m a o ≡ []
  left_none m a None e = refl
  left_none m a (Some x) e = rw e refl

  slot_by : (m : MsgRow) (a : ℕ) (b : Bool) → ((m.id == id) && (a == slot)) ≡ b → list_any (is_of_slot id slot) (due_slot w m a (slot_of m a)) ≡ false
  slot_by m a true e = ap (list_any (is_of_slot id slot)) (left_none m a (slot_of m a) (is_left_here m a e))
  slot_by m a false e = ap (list_any (is_of_slot id slot)) (due_slot_is w m a (slot_of m a)) ∙ kind_names id slot (kind_in w m a (slot_of m a)) m.id a w.moment e

  slots_names : (m : MsgRow) → list_any (is_of_slot id slot) (due_slots w m) ≡ false
  slots_names m = any_flat (is_of_slot id slot) (λ a. due_slot w m a (slot_of m a)) (λ a. slot_by m a ((m.id == id) && (a == slot)) refl) (slot_numbers m)

pub due_keeps_standing : (t : Tables) (db : DbId) (sent : Option SlotRef) (next moment : ℕ) (sessions : List Session) → is_valid t ≡ true → t.latest ≤ moment → moment ≤ MOMENT_LIMIT → AreStanding t db next moment sessions
    → AreStanding (committed_tables t (due t sessions db sent moment) moment) db next moment sessions
unfolding due
due_keeps_standing t db sent next moment sessions v le top k =
    let w : Watch = record { tables = t; sessions = sessions; db = db; sent = sent; moment = moment } in
    others_standing t db next moment sessions (settled t (undone w)) le (due_goes t sessions db sent moment v le top) k
    (λ i s e f. record {
      slots = λ id slot h. undone_none w (is_of_slot id slot) (slots_names w i s e f id slot h) (λ n queue a. refl) (λ n. refl);
      ids = λ id h. undone_none w (puts_in id) (slots_put w (puts_in id) (λ n slot a. refl) (λ n slot a. refl)) (λ n queue a. refl) (λ n. refl);
    }) (undone_none w is_put_in (slots_put w is_put_in (λ n slot a. refl) (λ n slot a. refl)) (λ n queue a. refl) (λ n. refl))

-- ---- behind a confirmation

other_slot : (at : SlotRef) (id slot : ℕ) (marks : List Mark) (b : Bool) → ((at.id == id) && (at.slot == slot)) ≡ b → list_any (marks_slot at.id at.slot) marks ≡ false → list_any (marks_slot id slot) marks ≡ true → b ≡ false
other_slot at id slot marks true e h m =
    let p = and_parts (at.id == id) (at.slot == slot) e in
    absurd (false≢true (sym h ∙ ap (λ n. list_any (marks_slot n at.slot) marks) (eqb-true at.id id p.0) ∙ ap (λ n. list_any (marks_slot id n) marks) (eqb-true at.slot slot p.1) ∙ m))
other_slot at id slot marks false e h m = refl

pub confirmation_keeps_standing : (t : Tables) (db : DbId) (at : SlotRef) (schedule : ScheduleRow) (next moment : ℕ) (sessions : List Session) → is_valid t ≡ true → t.latest ≤ moment → moment ≤ MOMENT_LIMIT → is_open_at t at.id at.slot ≡ true → is_valid_schedule t schedule ≡ true
    → ((i : ℕ) (s : Session) → slice_get sessions i ≡ Some s → is_same_db s.at db ≡ true → list_any (marks_slot at.id at.slot) s.marks ≡ false)
    → AreStanding t db next moment sessions → AreStanding (committed_tables t (confirming t at schedule moment) moment) db next moment sessions
confirmation_keeps_standing t db at schedule next moment sessions v le top o ok free k =
    others_standing t db next moment sessions (confirming t at schedule moment) le (confirmation_goes t at schedule moment v le top o ok) k
    (λ i s e f. record {
      slots = λ id slot h. confirm_none t at schedule moment (is_of_slot id slot) (other_slot at id slot s.marks ((at.id == id) && (at.slot == slot)) refl (free i s e f) h) (λ r. refl) (λ n queue a. refl) (λ n. refl);
      ids = λ id h. confirm_none t at schedule moment (puts_in id) refl (λ r. refl) (λ n queue a. refl) (λ n. refl);
    }) (confirm_none t at schedule moment is_put_in refl (λ r. refl) (λ n queue a. refl) (λ n. refl))
