-- A session whose transaction may end: what keeps it so, and what its ends commit.
use Rattle.std.proofs.Common.{◌≡◌, ◌≤◌, ◌<◌, ◌+◌, ℕ, List, [], ◌∷◌, ◌++◌, true, false, refl, sym, ap, ◌∙◌, subst, arith, ◌&&◌}
use Rattle.std.specs.Prelude.{nat_lt, All, get_or, length, if◌then◌else◌}
use Rattle.std.specs.List.{list_any}
use Rattle.std.proofs.lemmas.List.Elements.{All-cons, All-nil, All-push, All-weaker}
use Rattle.std.proofs.lemmas.List.Quantifiers.{all_pairs_push}
use Rattle.aq_base.specs.declared.limits.TheConstants.{MOMENT_LIMIT}
use Rattle.queue_rows.specs.Session.{Session, marks_slot}
use Rattle.queue_rows.specs.Meaning.{answers}
use Rattle.queue_rows.specs.Enqueueing.{enqueue}
use Rattle.queue_rows.specs.Dequeueing.{dequeue}
use Rattle.queue_rows.specs.Transactions.{commit, rollback}
use Rattle.queue_rows.specs.Turns.{ids_taken}
use Rattle.queue_rows.specs.Valid.{is_valid}
use Rattle.queue_rows.specs.Within.{is_within}
use Rattle.queue_rows.specs.Fits.{fits}
use Rattle.queue_rows.specs.declared.tables.Tables.{Tables}
use Rattle.queue_rows.specs.declared.rows.MsgRow.{MsgRow}
use Rattle.queue_rows.specs.declared.session.Pending.{Pending}
use Rattle.queue_rows.specs.declared.session.Pending.TheVariants.{Add, Remove}
use Rattle.queue_rows.specs.declared.change.Change.{Change}
use Rattle.queue_rows.specs.declared.reply.Reply.{Reply}
use Rattle.queue_rows.specs.declared.reply.Reply.TheVariants as replies
use Rattle.queue_rows.specs.declared.statement.Enqueue.{Enqueue}
use Rattle.queue_rows.specs.declared.statement.Dequeue.{Dequeue}
use Rattle.queue_rows.specs.declared.statement.Statement.TheVariants as statements
use Rattle.queue_rows.specs.declared.statement.Mode.{Mode}
use Rattle.queue_rows.specs.declared.statement.Mode.TheVariants as modes
use Rattle.queue_rows.specs.declared.statement.Visibility.{Visibility}
use Rattle.queue_rows.specs.declared.statement.Visibility.TheVariants as visibilities
use Rattle.valid_laws.specs.PendingLaws.{IsAdditionRight, IsPendingRight, AreApart, count_passed, MayCommit}
use Rattle.valid_laws.specs.RollbackLaws.{IsRemovalOpen, AreOther, MayRollBack}
use Rattle.valid_laws.proofs.Completing.{depth_known}
use Rattle.valid_laws.proofs.Pending.{pending_fits}
use Rattle.valid_laws.proofs.Retrying.{rollback_fits}
use Rattle.statement_laws.specs.Sessions.{is_removal_of, MarksAgree}
use Rattle.statement_laws.specs.EnqueueLaws.{has_ordered_fields, AddsNothing, AddsIn, Adds}
use Rattle.statement_laws.specs.DequeueLaws.{MayTake, TakesIn, Takes}
use Rattle.statement_laws.specs.SessionLaws.{IsGiven, MayEnd}
use Rattle.statement_laws.proofs.Among.{Says, says_so, Each, each_not}
use Rattle.statement_laws.proofs.Marking.{pending_agree}
use Rattle.statement_laws.proofs.Adding.{enqueue_adds_right, lowest_at_least, not_passed}
use Rattle.statement_laws.proofs.Taking.{dequeue_removes_open}

-- ---- nothing

may_commit_none : (t : Tables) (moment : ℕ) → is_valid t ≡ true → MayCommit t moment []
may_commit_none t moment v = record {
  right = All-nil (IsPendingRight t moment);
  apart = λ i j d lt at. absurd (let no : j < 0 = at in omega arith);
  lanes = λ name queue e. let x = depth_known t.next queue.lowest (lowest_at_least t name queue v e) in omega (arith, x);
  groups = λ some. absurd (let no : 0 < 0 = some in omega arith);
}

pub empty_may_end : (t : Tables) (s : Session) (next moment : ℕ) → is_valid t ≡ true → s.pending ≡ [] → s.marks ≡ [] → MayEnd t next moment s
empty_may_end t s next moment v p m = record {
  commits = subst (MayCommit t moment) (sym p) (may_commit_none t moment v);
  marks = record { removed = λ id slot. ap (list_any (λ mark. mark.removed && marks_slot id slot mark)) m ∙ sym (ap (list_any (is_removal_of id slot)) p) };
  given = subst (All (IsGiven next)) (sym p) (All-nil (IsGiven next));
}

-- ---- later

addition_later : (t : Tables) (moment later : ℕ) (m : MsgRow) → moment ≤ later → IsAdditionRight t moment m → IsAdditionRight t later m
addition_later t moment later m le k = record {
  queue = k.queue;
  table = k.table;
  new = k.new;
  queue_is = k.queue_is;
  table_is = k.table_is;
  normal = k.normal;
  unmoved = k.unmoved;
  typed = k.typed;
  place = k.place;
  lane = k.lane;
  props = k.props;
  recipients = k.recipients;
  names = k.names;
  untried = k.untried;
  entered = let x = k.entered in omega (arith, x, le);
  id = k.id;
  id_within = k.id_within;
}

pub pending_right_later : (t : Tables) (moment later : ℕ) → moment ≤ later → (p : Pending) → IsPendingRight t moment p → IsPendingRight t later p
pending_right_later t moment later le (Add m) k = addition_later t moment later m le k
pending_right_later t moment later le (Remove id slot) h = h

pub given_later : (next behind : ℕ) → next ≤ behind → (p : Pending) → IsGiven next p → IsGiven behind p
given_later next behind le (Add m) h = let x : m.id < next = h in omega (arith, x, le)
given_later next behind le (Remove id slot) h = tt

pub may_end_later : (t : Tables) (s : Session) (next moment behind later : ℕ) → next ≤ behind → moment ≤ later → MayEnd t next moment s → MayEnd t behind later s
may_end_later t s next moment behind later le at k = record {
  commits = record {
    right = All-weaker (IsPendingRight t moment) (IsPendingRight t later) (pending_right_later t moment later at) s.pending k.commits.right;
    apart = k.commits.apart;
    lanes = k.commits.lanes;
    groups = k.commits.groups;
  };
  marks = k.marks;
  given = All-weaker (IsGiven next) (IsGiven behind) (given_later next behind le) s.pending k.given;
}

-- ---- one more

count_last : (n : ℕ) (pending : List Pending) (p : Pending) → count_passed n (pending ++ p ∷ []) ≡ count_passed n pending + count_passed n (p ∷ [])
count_last n [] p = omega arith
count_last n (Add m ∷ more) p =
    let ih = count_last n more p in
    let e : count_passed n (Add m ∷ more ++ p ∷ []) ≡ (if nat_lt m.id n then 1 else 0) + count_passed n (more ++ p ∷ []) = refl in
    let g : count_passed n (Add m ∷ more) ≡ (if nat_lt m.id n then 1 else 0) + count_passed n more = refl in
    omega (arith, ih, e, g)
count_last n (Remove id slot ∷ more) p = count_last n more p

-- one that has no id which the tables have passed
module _ (t : Tables) (moment : ℕ) (pending : List Pending) (p : Pending) (k : MayCommit t moment pending) (right : IsPendingRight t moment p) (none : count_passed t.next (p ∷ []) ≡ 0) (apart : (j : ℕ) (d : Pending) → j < length pending → AreApart (get_or pending j d) p) where
  same_count : count_passed t.next (pending ++ p ∷ []) ≡ count_passed t.next pending
  same_count = let e = count_last t.next pending p in omega (arith, e, none)

  may_with : MayCommit t moment (pending ++ p ∷ [])
  may_with = record {
    right = All-push (IsPendingRight t moment) pending p k.right right;
    apart = all_pairs_push AreApart pending p k.apart apart;
    lanes = λ name queue e. let x = k.lanes name queue e in let c = same_count in omega (arith, x, c);
    groups = λ some. let c = same_count in k.groups (omega (arith, some, c));
  }

apart_from_addition : (next : ℕ) (m : MsgRow) → m.id ≡ next → (p : Pending) → IsGiven next p → AreApart p (Add m)
apart_from_addition next m e (Add a) h = let x : a.id < next = h in omega (arith, x, e)
apart_from_addition next m e (Remove id slot) h = tt

apart_from_removal : (id slot : ℕ) (p : Pending) → is_removal_of id slot p ≡ false → AreApart p (Remove id slot)
apart_from_removal id slot (Add a) h = tt
apart_from_removal id slot (Remove other behind) h = h

all_of : {X : Type 0} (Q : X → Type 0) (xs : List X) → Each Q xs → All Q xs
all_of Q [] h = All-nil Q
all_of Q (x ∷ xs) h = All-cons Q x xs h.0 (all_of Q xs h.1)

-- ---- after an enqueue

-- it holds what it held
held_same : (t : Tables) (s : Session) (next moment : ℕ) → MayEnd t next moment s → (after : Session) → after.pending ≡ s.pending → MarksAgree after → MayEnd t next moment after
held_same t s next moment k after p m = record { commits = subst (MayCommit t moment) (sym p) k.commits; marks = m; given = subst (All (IsGiven next)) (sym p) k.given }

module _ (t : Tables) (s : Session) (next moment : ℕ) (up : t.next ≤ next) (k : MayEnd t next moment s) where
  agree_with : (after : Session) → after.marks ≡ s.marks → ((id slot : ℕ) → list_any (is_removal_of id slot) after.pending ≡ list_any (is_removal_of id slot) s.pending) → MarksAgree after
  agree_with after m p = record { removed = λ id slot. ap (list_any (λ mark. mark.removed && marks_slot id slot mark)) m ∙ k.marks.removed id slot ∙ sym (p id slot) }

  with_addition : (m : MsgRow) (after : Session) → m.id ≡ next → IsAdditionRight t moment m → after.pending ≡ s.pending ++ Add m ∷ [] → after.marks ≡ s.marks → MayEnd t (next + 1) moment after
  with_addition m after e right p marks = record {
    commits = subst (MayCommit t moment) (sym p) (may_with t moment s.pending (Add m) k.commits right (not_passed t next m up e) (λ j d lt. apart_from_addition next m e (get_or s.pending j d) (k.given j d lt)));
    marks = agree_with after marks (λ id slot. ap (list_any (is_removal_of id slot)) p ∙ pending_agree id slot s.pending m);
    given = subst (All (IsGiven (next + 1))) (sym p) (All-push (IsGiven (next + 1)) s.pending (Add m) (All-weaker (IsGiven next) (IsGiven (next + 1)) (given_later next (next + 1) (omega arith)) s.pending k.given) (omega (arith, e)));
  }

  after_visible : (visibility : Visibility) (m : MsgRow) (cs : List Change) (after : Session) → m.id ≡ next → IsAdditionRight t moment m → AddsIn visibility t s m moment cs after → MayEnd t (next + 1) moment after
  after_visible visibilities.OnCommit m cs after e right h = with_addition m after e right h.pending h.marks
  after_visible visibilities.Immediate m cs after e right h =
      may_end_later t after next moment (next + 1) moment (omega arith) (omega arith) (held_same t s next moment k after h.pending (agree_with after h.marks (λ id slot. ap (list_any (is_removal_of id slot)) h.pending)))

  after_none : (cs : List Change) (after : Session) (taken : ℕ) → AddsNothing s cs after → MayEnd t (next + taken) moment after
  after_none cs after taken h =
      may_end_later t after next moment (next + taken) moment (omega arith) (omega arith) (held_same t s next moment k after h.pending (agree_with after h.marks (λ id slot. ap (list_any (is_removal_of id slot)) h.pending)))

  after_adds : (ask : Enqueue) (reply : Reply) (cs : List Change) (after : Session) → Adds reply ask t s next moment cs after → MayEnd t (next + ids_taken reply) moment after
  after_adds ask (replies.Enqueued id) cs after h = after_visible ask.visibility h.message cs after h.number_is h.right h.adds
  after_adds ask _ cs after h = after_none cs after 0 h

-- ---- after a dequeue

module _ (t : Tables) (s : Session) (next moment : ℕ) (k : MayEnd t next moment s) where
  with_removal : (id slot : ℕ) (after : Session) → MayTake t s id slot → after.pending ≡ s.pending ++ Remove id slot ∷ [] → MarksAgree after → MayEnd t next moment after
  with_removal id slot after may p marks =
      let none : list_any (is_removal_of id slot) s.pending ≡ false = sym (k.marks.removed id slot) ∙ may.first in
      let others : All (λ x. is_removal_of id slot x ≡ false) s.pending = all_of (λ x. is_removal_of id slot x ≡ false) s.pending (each_not (is_removal_of id slot) s.pending none) in
      record {
        commits = subst (MayCommit t moment) (sym p) (may_with t moment s.pending (Remove id slot) k.commits may.open_there refl (λ j d lt. apart_from_removal id slot (get_or s.pending j d) (others j d lt)));
        marks = marks;
        given = subst (All (IsGiven next)) (sym p) (All-push (IsGiven next) s.pending (Remove id slot) k.given tt);
      }

  after_taken : (mode : Mode) (visibility : Visibility) (cs : List Change) (after : Session) → TakesIn mode visibility t s moment cs after → MarksAgree after → MayEnd t next moment after
  after_taken modes.Remove visibilities.OnCommit cs after h m = with_removal h.id h.slot after h.may h.pending m
  after_taken modes.Remove visibilities.Immediate cs after h m = held_same t s next moment k after h.pending m
  after_taken modes.RemoveNodata visibilities.OnCommit cs after h m = with_removal h.id h.slot after h.may h.pending m
  after_taken modes.RemoveNodata visibilities.Immediate cs after h m = held_same t s next moment k after h.pending m
  after_taken modes.Browse visibility cs after h m = held_same t s next moment k after h.pending m
  after_taken modes.Locked visibility cs after h m = held_same t s next moment k after h.pending m

  after_takes : (ask : Dequeue) (reply : Reply) (cs : List Change) (after : Session) → Takes reply ask t s moment cs after → MarksAgree after → MayEnd t next moment after
  after_takes ask (replies.Message message) cs after h m = after_taken ask.mode ask.visibility cs after h m
  after_takes ask _ cs after h m = held_same t s next moment k after h.pending m

pub enqueue_keeps_end : (t : Tables) (s : Session) (ask : Enqueue) (next moment : ℕ) (reply : Reply) (cs : List Change) (after : Session) → is_valid t ≡ true → has_ordered_fields t ≡ true → t.latest ≤ moment → moment ≤ MOMENT_LIMIT → t.next ≤ next
    → is_within (statements.Enqueue ask) ≡ true → MayEnd t next moment s → enqueue t s ask next moment ≡ answers reply cs after → MayEnd t (next + ids_taken reply) moment after
enqueue_keeps_end t s ask next moment reply cs after v o le top up w k e = after_adds t s next moment up k ask reply cs after (enqueue_adds_right t s ask next moment reply cs after v o le top up w e)

pub dequeue_keeps_end : (t : Tables) (sessions : List Session) (actor : ℕ) (s : Session) (ask : Dequeue) (next moment : ℕ) (reply : Reply) (cs : List Change) (after : Session) → is_valid t ≡ true → t.latest ≤ moment → moment ≤ MOMENT_LIMIT
    → MayEnd t next moment s → dequeue t sessions actor s ask moment ≡ answers reply cs after → MayEnd t next moment after
dequeue_keeps_end t sessions actor s ask next moment reply cs after v le top k e =
    let h = dequeue_removes_open t sessions actor s ask moment reply cs after v le top k.marks e in after_takes t s next moment k ask reply cs after h.0 h.1

-- ---- the ends

abbrev Fit : Tables → ℕ → Reply → List Change → Session → Type 0
Fit t moment reply cs after = fits t (record { moment = moment; changes = cs }) ≡ true

commit_so : (t : Tables) (s : Session) (next moment : ℕ) → is_valid t ≡ true → t.latest ≤ moment → moment ≤ MOMENT_LIMIT → MayEnd t next moment s → Says (Fit t moment) (commit t s moment)
unfolding commit
commit_so t s next moment v le top k = pending_fits t moment s.pending v le top k.commits

open_if_removed : (t : Tables) (moment : ℕ) (p : Pending) → IsPendingRight t moment p → IsRemovalOpen t p
open_if_removed t moment (Add m) h = tt
open_if_removed t moment (Remove id slot) h = h

other_if_apart : (a b : Pending) → AreApart a b → AreOther a b
other_if_apart (Add a) b h = tt
other_if_apart (Remove id slot) (Add b) h = tt
other_if_apart (Remove id slot) (Remove other behind) h = h

pub may_roll_back : (t : Tables) (moment : ℕ) (pending : List Pending) → MayCommit t moment pending → MayRollBack t pending
may_roll_back t moment pending k = record {
  open_all = All-weaker (IsPendingRight t moment) (IsRemovalOpen t) (open_if_removed t moment) pending k.right;
  other = λ i j d lt le. other_if_apart (get_or pending i d) (get_or pending j d) (k.apart i j d lt le);
}

rollback_so : (t : Tables) (s : Session) (next moment : ℕ) → is_valid t ≡ true → t.latest ≤ moment → moment ≤ MOMENT_LIMIT → MayEnd t next moment s → Says (Fit t moment) (rollback t s moment)
unfolding rollback
rollback_so t s next moment v le top k = rollback_fits t moment s.pending v le top (may_roll_back t moment s.pending k.commits)

pub commit_fits_for_sessions : (t : Tables) (s : Session) (next moment : ℕ) (reply : Reply) (cs : List Change) (after : Session) → is_valid t ≡ true → t.latest ≤ moment → moment ≤ MOMENT_LIMIT → MayEnd t next moment s
    → commit t s moment ≡ answers reply cs after → fits t (record { moment = moment; changes = cs }) ≡ true
commit_fits_for_sessions t s next moment reply cs after v le top k e = says_so (Fit t moment) (commit t s moment) reply cs after (commit_so t s next moment v le top k) e

pub rollback_fits_for_sessions : (t : Tables) (s : Session) (next moment : ℕ) (reply : Reply) (cs : List Change) (after : Session) → is_valid t ≡ true → t.latest ≤ moment → moment ≤ MOMENT_LIMIT → MayEnd t next moment s
    → rollback t s moment ≡ answers reply cs after → fits t (record { moment = moment; changes = cs }) ≡ true
rollback_fits_for_sessions t s next moment reply cs after v le top k e = says_so (Fit t moment) (rollback t s moment) reply cs after (rollback_so t s next moment v le top k) e
