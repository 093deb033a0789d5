-- A dequeue marks a slot with its group.
use Rattle.std.proofs.Common.{◌≡◌, ℕ, List, [], ◌∷◌, ◌++◌, Bool, true, false, not, refl, sym, ap, ◌∙◌, subst, Option, Some, None, Result, Ok, Err, ◌&&◌, ◌||◌}
use Rattle.std.specs.Prelude.{map, option_and_then, if◌then◌else◌}
use Rattle.std.specs.Str.{bytes_eq}
use Rattle.std.proofs.lemmas.Bool.{and_parts, not-false}
use Rattle.std.proofs.lemmas.Option.{none-some}
use Rattle.std.proofs.lemmas.List.Elements.{All-push, All-map, All-weaker, All-filter}
use Rattle.rule_conditions.specs.declared.condition.Cond.{Cond}
use Rattle.slot_marks.specs.Marks.{is_on, has_slot, kept_beside, taken}
use Rattle.slot_marks.specs.declared.mark.Mark.{Mark}
use Rattle.queue_rows.specs.Rows.{find_table, find_queue, find_message, table_of, slot_of}
use Rattle.queue_rows.specs.Conditions.{optional_condition}
use Rattle.queue_rows.specs.Due.{group_in}
use Rattle.queue_rows.specs.Groups.{group_of}
use Rattle.queue_rows.specs.Session.{Session, has_removed, is_same_db, message_named, position_in, without_mark, marks_slot}
use Rattle.queue_rows.specs.Meaning.{answers, parks, unparked, refused, still_waits, first_look}
use Rattle.queue_rows.specs.Dequeueing as d
use Rattle.queue_rows.specs.Valid.{is_valid}
use Rattle.queue_rows.specs.declared.tables.Tables.{Tables}
use Rattle.queue_rows.specs.declared.rows.TableRow.{TableRow}
use Rattle.queue_rows.specs.declared.rows.QueueRow.{QueueRow}
use Rattle.queue_rows.specs.declared.rows.MsgRow.{MsgRow}
use Rattle.queue_rows.specs.declared.change.Change.{Change}
use Rattle.queue_rows.specs.declared.reply.Reply.{Reply}
use Rattle.queue_rows.specs.declared.reply.Reply.TheVariants as replies
use Rattle.queue_rows.specs.declared.reply.ConditionFault.{ConditionFault}
use Rattle.queue_rows.specs.declared.statement.Dequeue.{Dequeue}
use Rattle.queue_rows.specs.declared.statement.MsgId.{MsgId}
use Rattle.queue_rows.specs.declared.statement.Mode.{Mode}
use Rattle.queue_rows.specs.declared.statement.Mode.TheVariants as modes
use Rattle.queue_rows.specs.declared.statement.Navigation.{Navigation}
use Rattle.queue_rows.specs.declared.statement.Navigation.TheVariants as navigations
use Rattle.queue_rows.specs.declared.statement.Visibility.{Visibility}
use Rattle.queue_rows.specs.declared.statement.Visibility.TheVariants as visibilities
use Rattle.row_laws.proofs.Finding.{found_is}
use Rattle.row_laws.proofs.Messages.{id_found}
use Rattle.valid_laws.proofs.Parts.{valid_distinct}
use Rattle.valid_laws.proofs.Cataloguing.{same_name}
use Rattle.statement_laws.proofs.Among.{Says, says_if, says_so, Each, each_map, each_filtered, IsFoundIn, each_found}
use Rattle.statement_laws.proofs.Taking.{Chooses, choice_chooses}
use Rattle.run_laws.specs.GroupedMarks.{group_at, AreOfGroups}

-- ---- marks

module _ (t : Tables) where
  abbrev IsOfGroup : Mark → Type 0
  IsOfGroup mark = mark.group ≡ group_at t mark.id mark.slot

  kept_right : (mark own : Mark) (b : Bool) → IsOfGroup own → IsOfGroup (if b then record own { removed = own.removed || mark.removed } else own)
  kept_right mark own true h = h
  kept_right mark own false h = h

  taken_by : (mark : Mark) (marks : List Mark) (b : Bool) → IsOfGroup mark → AreOfGroups t marks → AreOfGroups t (if b then map (kept_beside mark) marks else marks ++ mark ∷ [])
  taken_by mark marks true own h = All-map IsOfGroup (kept_beside mark) marks (All-weaker IsOfGroup (λ x. IsOfGroup (kept_beside mark x)) (λ x k. kept_right mark x (is_on mark.id mark.slot x) k) marks h)
  taken_by mark marks false own h = All-push IsOfGroup marks mark h own

  taken_groups : (mark : Mark) (marks : List Mark) → IsOfGroup mark → AreOfGroups t marks → AreOfGroups t (taken marks mark)
  taken_groups mark marks own h = taken_by mark marks (has_slot mark.id mark.slot marks) own h

  without_groups : (id slot : ℕ) (marks : List Mark) → AreOfGroups t marks → AreOfGroups t (without_mark id slot marks)
  without_groups id slot marks h = All-filter (λ mark. not (marks_slot id slot mark)) IsOfGroup marks h

-- ---- what is so of each way in which a dequeue ends

-- a message of the queue that is there
abbrev pub IsCandidate : d.Look → MsgRow → Type 0
IsCandidate l m = (bytes_eq m.queue l.queue.name ≡ true) × (find_message l.tables m.id ≡ Some m)

-- What is so of a session that holds what it held, when nothing is committed, and so when a slot of such a message is given, is so of all
-- that a dequeue answers.
module _ (l : d.Look) (moment : ℕ) (G : List Change → Session → Type 0) (v : is_valid l.tables ≡ true) (same : (s : Session) → s.marks ≡ l.session.marks → G [] s)
    (given : (s : Session) (m : MsgRow) (slot : ℕ) → s.marks ≡ l.session.marks → IsCandidate l m → d.slot_in l m ≡ Some slot → Says (λ reply. G) (d.given_in l.ask.mode l.ask.visibility l s moment m slot)) where
  abbrev So : Reply → List Change → Session → Type 0
  So reply cs after = G cs after

  -- ---- by navigation

  met : (m : MsgRow) → ((d.is_available l m && d.meets l m) ≡ true) × IsFoundIn l.tables.messages m → IsCandidate l m
  met m h = ((and_parts (bytes_eq m.queue l.queue.name) (d.is_available_slot l m (d.slot_in l m)) (and_parts (d.is_available l m) (d.meets l m) h.0).0).0, h.1)

  candidates_are : Each (IsCandidate l) (d.candidates l)
  candidates_are =
      each_map (λ m. ((d.is_available l m && d.meets l m) ≡ true) × IsFoundIn l.tables.messages m) (IsCandidate l) met (d.candidates l)
      (each_filtered (IsFoundIn l.tables.messages) (λ m. d.is_available l m && d.meets l m) l.tables.messages (each_found l.tables.messages (valid_distinct l.tables v)))

  by_chosen : (m : MsgRow) (o : Option ℕ) → d.slot_in l m ≡ o → IsCandidate l m → Says So (d.given_chosen l moment m o)
  by_chosen m None e h = same (unparked l.session) refl
  by_chosen m (Some slot) e h = given (d.standing_at l m) m slot refl h e

  by_forgetting : (n : Navigation) → G [] (unparked (d.forgetting n l.ask l.session))
  by_forgetting navigations.First = same (unparked (d.forgetting navigations.First l.ask l.session)) refl
  by_forgetting navigations.Next = same (unparked l.session) refl
  by_forgetting navigations.NextTransaction = same (unparked l.session) refl

  by_choice : (c : d.Choice) → Chooses (IsCandidate l) c → Says So (d.given_by l moment c)
  by_choice (d.found m) h = by_chosen m (d.slot_in l m) refl h
  by_choice d.end_of_group h = same (unparked l.session) refl
  by_choice d.nothing h =
      says_if So (still_waits l.session l.ask.wait moment) (parks (first_look l.session moment)) (refused (d.forgetting l.ask.navigation l.ask l.session) replies.NoMessage) (λ e. tt) (λ e. by_forgetting l.ask.navigation)

  by_navigation : Says So (d.given_by l moment (d.chosen l))
  by_navigation = by_choice (d.chosen l) (choice_chooses (IsCandidate l) l.ask.navigation (position_in l.session l.ask.queue l.ask.consumer) l.table.grouped l.ask.mode (d.candidates l) candidates_are)

  -- ---- by msgid

  by_unheld : (m : MsgRow) (slot : ℕ) (o : Option ℕ) → d.slot_in l m ≡ Some slot → IsCandidate l m → Says So (d.given_unheld l moment m slot o)
  by_unheld m slot (Some other) e h = same (unparked l.session) refl
  by_unheld m slot None e h = given (unparked l.session) m slot refl h e

  by_slot : (m : MsgRow) (o : Option ℕ) → d.slot_in l m ≡ o → IsCandidate l m → Says So (d.given_slot l moment m o)
  by_slot m None e h = same (unparked l.session) refl
  by_slot m (Some slot) e h =
      says_if So (not (d.is_open_slot (slot_of m slot)) || has_removed l.session m.id slot || not (d.meets l m)) (refused l.session replies.NoSuchMessage) (d.given_unheld l moment m slot (d.holder_for l m slot))
      (λ _. same (unparked l.session) refl) (λ _. by_unheld m slot (d.holder_for l m slot) e h)

  by_name : (o : Option MsgRow) → ((m : MsgRow) → o ≡ Some m → find_message l.tables m.id ≡ Some m) → Says So (d.given_named l moment o)
  by_name None h = same (unparked l.session) refl
  by_name (Some m) h =
      says_if So (not (bytes_eq m.queue l.queue.name)) (refused l.session replies.NoSuchMessage) (d.given_slot l moment m (d.slot_in l m)) (λ _. same (unparked l.session) refl)
      (λ q. by_slot m (d.slot_in l m) refl (not-false (bytes_eq m.queue l.queue.name) q, h m refl))

  found_named : (id : MsgId) (b : Bool) (m : MsgRow) → (if b then find_message l.tables id.number else None) ≡ Some m → find_message l.tables m.id ≡ Some m
  found_named id true m e = ap (find_message l.tables) (id_found l.tables id.number m e) ∙ e
  found_named id false m e = absurd (none-some m e)

  by_way : (o : Option MsgId) → Says So (d.dequeue_by l moment o)
  by_way (Some id) = by_name (message_named l.tables l.session.at id) (λ m e. found_named id (is_same_db id.db l.session.at) m e)
  by_way None = by_navigation

-- what a dequeue looks at
abbrev pub look_at : Tables → List Session → ℕ → Session → Dequeue → QueueRow → TableRow → Option Cond → d.Look
look_at t sessions actor s ask queue table condition = record { tables = t; sessions = sessions; actor = actor; session = s; queue = queue; table = table; ask = ask; condition = condition }

module _ (t : Tables) (sessions : List Session) (actor : ℕ) (s : Session) (ask : Dequeue) (moment : ℕ) (G : List Change → Session → Type 0) (v : is_valid t ≡ true) (same : (x : Session) → x.marks ≡ s.marks → G [] x)
    (given : (queue : QueueRow) (table : TableRow) (condition : Option Cond) → find_queue t ask.queue ≡ Some queue → find_table t queue.table ≡ Some table → d.lacks_consumer queue table ask.consumer ≡ false
    → (x : Session) (m : MsgRow) (slot : ℕ) → x.marks ≡ s.marks → IsCandidate (look_at t sessions actor s ask queue table condition) m → d.slot_in (look_at t sessions actor s ask queue table condition) m ≡ Some slot
    → Says (λ reply. G) (d.given_in ask.mode ask.visibility (look_at t sessions actor s ask queue table condition) x moment m slot)) where
  abbrev SoIn : Reply → List Change → Session → Type 0
  SoIn reply cs after = G cs after

  untouched : G [] (unparked s)
  untouched = same (unparked s) refl

  so_where : (queue : QueueRow) (table : TableRow) (r : Result (Option Cond) ConditionFault) → find_queue t ask.queue ≡ Some queue → find_table t queue.table ≡ Some table → d.lacks_consumer queue table ask.consumer ≡ false → Says SoIn (d.dequeue_where t sessions actor s queue table ask r moment)
  so_where queue table (Err fault) q e k = untouched
  so_where queue table (Ok condition) q e k = by_way (look_at t sessions actor s ask queue table condition) moment G v same (given queue table condition q e k) ask.msgid

  so_typed : (queue : QueueRow) (o : Option TableRow) → find_queue t ask.queue ≡ Some queue → find_table t queue.table ≡ o → Says SoIn (d.dequeue_typed t sessions actor s queue o ask moment)
  so_typed queue None q e = untouched
  so_typed queue (Some table) q e =
      says_if SoIn (d.lacks_consumer queue table ask.consumer) _ _ (λ _. untouched) (λ k.
      says_if SoIn (d.has_needless_consumer queue table ask.consumer) _ _ (λ _. untouched) (λ _.
      says_if SoIn (d.is_wrong_mode queue table ask.mode) _ _ (λ _. untouched) (λ _.
      says_if SoIn (d.is_by_transaction ask.navigation && not table.grouped) _ _ (λ _. untouched) (λ _.
      so_where queue table (optional_condition table.fields ask.condition) q e k))))

  so_from : (o : Option QueueRow) → find_queue t ask.queue ≡ o → Says SoIn (d.dequeue_from t sessions actor s o ask moment)
  so_from None q = untouched
  so_from (Some queue) q = says_if SoIn (not queue.dequeue) (refused s replies.DequeueOff) (d.dequeue_typed t sessions actor s queue (find_table t queue.table) ask moment) (λ _. untouched) (λ _. so_typed queue (find_table t queue.table) q refl)

  so : Says SoIn (d.dequeue t sessions actor s ask moment)
  unfolding d.dequeue
  so = so_from (find_queue t ask.queue) refl

  pub dequeue_so : (reply : Reply) (cs : List Change) (after : Session) → d.dequeue t sessions actor s ask moment ≡ answers reply cs after → G cs after
  dequeue_so reply cs after e = says_so SoIn (d.dequeue t sessions actor s ask moment) reply cs after so e

-- ---- what is marked

module _ (t : Tables) (sessions : List Session) (actor : ℕ) (s : Session) (ask : Dequeue) (moment : ℕ) (v : is_valid t ≡ true) (old : AreOfGroups t s.marks) where
  abbrev GroupedIn : List Change → Session → Type 0
  GroupedIn cs after = AreOfGroups t after.marks

  -- the group of a slot of a message of the queue
  group_is : (queue : QueueRow) (table : TableRow) → find_queue t ask.queue ≡ Some queue → find_table t queue.table ≡ Some table → (m : MsgRow) (slot : ℕ) → find_message t m.id ≡ Some m → bytes_eq m.queue queue.name ≡ true → group_of table m slot ≡ group_at t m.id slot
  group_is queue table q e m slot f k =
      let named : m.queue ≡ ask.queue = same_name m.queue queue.name k ∙ same_name queue.name ask.queue (found_is (λ x. bytes_eq x.name ask.queue) t.queues queue q) in
      let there : find_queue t m.queue ≡ Some queue = ap (find_queue t) named ∙ q in
      let its : table_of t m.queue ≡ Some table = ap (option_and_then (λ x. find_table t x.table)) there ∙ e in
      sym (ap (option_and_then (λ x. group_in t x slot)) f ∙ ap (option_and_then (λ x. group_of x m slot)) its)

  given_groups : (l : d.Look) (x : Session) (m : MsgRow) (slot : ℕ) (mode : Mode) (visibility : Visibility) → AreOfGroups t x.marks → group_of l.table m slot ≡ group_at t m.id slot → Says (λ reply. GroupedIn) (d.given_in mode visibility l x moment m slot)
  given_groups l x m slot modes.Remove visibilities.Immediate o g = without_groups t m.id slot x.marks o
  given_groups l x m slot modes.RemoveNodata visibilities.Immediate o g = without_groups t m.id slot x.marks o
  given_groups l x m slot modes.Browse visibility o g = o
  given_groups l x m slot modes.Locked visibilities.Immediate o g = o
  given_groups l x m slot modes.Remove visibilities.OnCommit o g = taken_groups t (d.mark_on l true m slot) x.marks g o
  given_groups l x m slot modes.RemoveNodata visibilities.OnCommit o g = taken_groups t (d.mark_on l true m slot) x.marks g o
  given_groups l x m slot modes.Locked visibilities.OnCommit o g = taken_groups t (d.mark_on l false m slot) x.marks g o

pub dequeue_groups : (t : Tables) (sessions : List Session) (actor : ℕ) (s : Session) (ask : Dequeue) (moment : ℕ) (reply : Reply) (cs : List Change) (after : Session) → is_valid t ≡ true → AreOfGroups t s.marks
    → d.dequeue t sessions actor s ask moment ≡ answers reply cs after → AreOfGroups t after.marks
dequeue_groups t sessions actor s ask moment reply cs after v old e =
    dequeue_so t sessions actor s ask moment (GroupedIn t sessions actor s ask moment v old) v (λ x k. subst (AreOfGroups t) (sym k) old)
    (λ queue table condition q f k x m slot marks h at.
    given_groups t sessions actor s ask moment v old (look_at t sessions actor s ask queue table condition) x m slot ask.mode ask.visibility (subst (AreOfGroups t) (sym marks) old) (group_is t sessions actor s ask moment v old queue table q f m slot h.1 h.0)) reply cs after e
