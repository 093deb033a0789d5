-- What a dequeue takes is open, and its session had not removed it.
use Rattle.std.proofs.Common.{◌≡◌, ◌≤◌, ◌⊎◌, inl, inr, ℕ, List, [], ◌∷◌, ◌++◌, Bool, true, false, not, refl, sym, ap, ◌∙◌, subst, Option, Some, None, Result, Ok, Err, ◌==◌, ◌&&◌, ◌||◌}
use Rattle.std.specs.Prelude.{fold, pos, int_lt, if◌then◌else◌}
use Rattle.std.specs.List.{list_any}
use Rattle.std.specs.Option.{option_map_or}
use Rattle.std.specs.Str.{bytes_eq}
use Rattle.std.proofs.lemmas.Bool.{cond_both, and_parts, or_parts, eqb-true, not-true, not-false, false≢true, true≢false}
use Rattle.std.proofs.lemmas.Option.{none-some}
use Rattle.aq_base.specs.declared.limits.TheConstants.{MOMENT_LIMIT}
use Rattle.place_keys.specs.Place.{stands_before}
use Rattle.rule_conditions.specs.declared.condition.Cond.{Cond}
use Rattle.slot_marks.specs.Marks.{taken}
use Rattle.queue_rows.specs.Rows.{find_table, find_queue, find_message, slot_of}
use Rattle.queue_rows.specs.Tables.{lane_of}
use Rattle.queue_rows.specs.Settling.{is_open, is_ready}
use Rattle.queue_rows.specs.Commits.{commit_of}
use Rattle.queue_rows.specs.Conditions.{optional_condition}
use Rattle.queue_rows.specs.Groups.{group_of}
use Rattle.queue_rows.specs.Session.{Session, has_removed, is_held, marks_slot, without_mark, is_same_db, message_named, position_in}
use Rattle.queue_rows.specs.Meaning.{answers, parks, unparked, refused, still_waits, first_look}
use Rattle.queue_rows.specs.Dequeueing as d
use Rattle.queue_rows.specs.Valid.{is_valid}
use Rattle.queue_rows.specs.declared.tables.Tables.{Tables}
use Rattle.queue_rows.specs.declared.rows.TableRow.{TableRow}
use Rattle.queue_rows.specs.declared.rows.QueueRow.{QueueRow}
use Rattle.queue_rows.specs.declared.rows.MsgRow.{MsgRow}
use Rattle.queue_rows.specs.declared.rows.SlotRow.{SlotRow}
use Rattle.queue_rows.specs.declared.rows.SlotState.{SlotState}
use Rattle.queue_rows.specs.declared.rows.SlotState.TheVariants as states
use Rattle.queue_rows.specs.declared.session.Pending.TheVariants.{Remove}
use Rattle.queue_rows.specs.declared.session.Position.{Position}
use Rattle.queue_rows.specs.declared.change.Change.{Change}
use Rattle.queue_rows.specs.declared.reply.Reply.{Reply}
use Rattle.queue_rows.specs.declared.reply.Reply.TheVariants as replies
use Rattle.queue_rows.specs.declared.reply.ConditionFault.{ConditionFault}
use Rattle.queue_rows.specs.declared.statement.Dequeue.{Dequeue}
use Rattle.queue_rows.specs.declared.statement.MsgId.{MsgId}
use Rattle.queue_rows.specs.declared.statement.Mode.{Mode}
use Rattle.queue_rows.specs.declared.statement.Mode.TheVariants as modes
use Rattle.queue_rows.specs.declared.statement.Navigation.{Navigation}
use Rattle.queue_rows.specs.declared.statement.Navigation.TheVariants as navigations
use Rattle.queue_rows.specs.declared.statement.Visibility.{Visibility}
use Rattle.queue_rows.specs.declared.statement.Visibility.TheVariants as visibilities
use Rattle.row_laws.proofs.Messages.{id_found}
use Rattle.valid_laws.proofs.Parts.{valid_distinct}
use Rattle.valid_laws.proofs.Opened.{open_of}
use Rattle.valid_laws.proofs.Pending.{removal_fits}
use Rattle.valid_laws.specs.Openness.{is_open_at}
use Rattle.statement_laws.specs.Sessions.{is_removal_of, MarksAgree, IsFreeOf}
use Rattle.statement_laws.specs.DequeueLaws.{MayTake, TakesNothing, TakesLater, TakesAtOnce, TakesIn, Takes}
use Rattle.statement_laws.proofs.Among.{Says, says_if, says_so, Each, each_map, each_filter, each_filtered, IsFoundIn, each_found}
use Rattle.statement_laws.proofs.Freeing.{TakesFree, free_if_unheld, free_if_no_holder, taken_marks, without_marks, without_itself, removal_names}
use Rattle.statement_laws.proofs.Marking.{agree_later, agree_locked, agree_at_once}

-- ---- open slots

ready_is_open : (s : SlotState) → is_ready s ≡ true → is_open s ≡ true
ready_is_open states.Ready h = refl
ready_is_open states.Waiting h = refl
ready_is_open states.Processed h = h
ready_is_open states.Expired h = h
ready_is_open states.Dropped h = h

ready_slot : (o : Option SlotRow) → d.is_ready_slot o ≡ true → option_map_or (λ s. is_open s.state) o false ≡ true
ready_slot None h = h
ready_slot (Some s) h = ready_is_open s.state h

open_slot : (o : Option SlotRow) → d.is_open_slot o ≡ true → option_map_or (λ s. is_open s.state) o false ≡ true
open_slot None h = h
open_slot (Some s) h = h

second : (a b : Bool) → a ≡ false → (a || b) ≡ true → b ≡ true
second true b e h = absurd (true≢false e)
second false b e h = h

-- ---- which message is chosen

module _ (Q : MsgRow → Type 0) where
  abbrev pub Holds : Option MsgRow → Type 0
  Holds None = Unit {0}
  Holds (Some m) = Q m

  abbrev pub Chooses : d.Choice → Type 0
  Chooses (d.found m) = Q m
  Chooses d.end_of_group = Unit {0}
  Chooses d.nothing = Unit {0}

  nearer_holds : (best : Option MsgRow) (m : MsgRow) → Holds best → Q m → Holds (d.nearer best m)
  nearer_holds None m h k = k
  nearer_holds (Some best) m h k = cond_both (stands_before m.place best.place) (Some m) (Some best) Holds (λ e. k) (λ e. h)

  least_from : (ms : List MsgRow) (best : Option MsgRow) → Each Q ms → Holds best → Holds (fold d.nearer best ms)
  least_from [] best h k = k
  least_from (m ∷ ms) best h k = least_from ms (d.nearer best m) h.1 (nearer_holds best m k h.0)

  least_holds : (ms : List MsgRow) → Each Q ms → Holds (d.least ms)
  least_holds ms h = least_from ms None h tt

  found_or_chooses : (c : d.Choice) (o : Option MsgRow) → Chooses c → Holds o → Chooses (d.found_or c o)
  found_or_chooses c None h k = h
  found_or_chooses c (Some m) h k = k

  first_chooses : (ms : List MsgRow) → Each Q ms → Chooses (d.found_or d.nothing (d.least ms))
  first_chooses ms h = found_or_chooses d.nothing (d.least ms) tt (least_holds ms h)

  next_or_first_chooses : (mode : Mode) (p : Position) (ms : List MsgRow) → Each Q ms → Chooses (d.next_or_first mode p ms)
  next_or_first_chooses mode p ms h =
      found_or_chooses (if d.is_browse mode then d.nothing else d.found_or d.nothing (d.least ms)) (d.least (d.past p ms))
      (cond_both (d.is_browse mode) d.nothing (d.found_or d.nothing (d.least ms)) Chooses (λ e. tt) (λ e. first_chooses ms h))
      (least_holds (d.past p ms) (each_filter Q (d.is_past p) ms h))

  pub choice_chooses : (navigation : Navigation) (at : Option Position) (grouped : Bool) (mode : Mode) (ms : List MsgRow) → Each Q ms → Chooses (d.choice navigation at grouped mode ms)
  choice_chooses navigations.First at grouped mode ms h = first_chooses ms h
  choice_chooses navigations.Next None grouped mode ms h = first_chooses ms h
  choice_chooses navigations.Next (Some p) true mode ms h =
      found_or_chooses d.end_of_group (d.least (d.past p (d.of_group p ms))) tt
      (least_holds (d.past p (d.of_group p ms)) (each_filter Q (d.is_past p) (d.of_group p ms) (each_filter Q (λ m. m.group == p.group) ms h)))
  choice_chooses navigations.Next (Some p) false mode ms h = next_or_first_chooses mode p ms h
  choice_chooses navigations.NextTransaction None grouped mode ms h = first_chooses ms h
  choice_chooses navigations.NextTransaction (Some p) grouped mode ms h =
      found_or_chooses d.nothing (d.least (d.past_group p ms)) tt (least_holds (d.past_group p ms) (each_filter Q (λ m. int_lt (pos p.group) (lane_of m.place)) ms h))

-- ---- what is taken of it

module _ (l : d.Look) (moment : ℕ) (v : is_valid l.tables ≡ true) (le : l.tables.latest ≤ moment) (top : moment ≤ MOMENT_LIMIT) (agree : MarksAgree l.session) where
  abbrev Free : List Change → Session → Type 0
  Free cs after = TakesFree l.tables l.sessions l.actor l.session cs after

  abbrev Right : Reply → List Change → Session → Type 0
  Right reply cs after = (Takes reply l.ask l.tables l.session moment cs after × MarksAgree after) × TakesFree l.tables l.sessions l.actor l.session cs after

  abbrev MayGive : MsgRow → ℕ → Type 0
  MayGive m slot = MayTake l.tables l.session m.id slot × (d.is_browse l.ask.mode ≡ false → IsFreeOf l.sessions l.actor l.session.at m.id slot)

  free_same : (s : Session) → s.marks ≡ l.session.marks → Free [] s
  free_same s k = record { marked = λ id slot h. inl (ap (list_any (marks_slot id slot)) (sym k) ∙ h); named = λ id slot h. absurd (false≢true h) }

  nothing_right : (s : Session) → s.pending ≡ l.session.pending → s.marks ≡ l.session.marks → (TakesNothing l.session [] s × MarksAgree s) × Free [] s
  nothing_right s p k = ((record { none = refl; pending = p }, record { removed = λ id slot. ap (list_any (λ mark. mark.removed && marks_slot id slot mark)) k ∙ agree.removed id slot ∙ ap (list_any (is_removal_of id slot)) (sym p) }), free_same s k)

  unchanged : (TakesNothing l.session [] (unparked l.session) × MarksAgree (unparked l.session)) × Free [] (unparked l.session)
  unchanged = nothing_right (unparked l.session) refl refl

  at_once_right : (s : Session) (m : MsgRow) (slot : ℕ) → s.pending ≡ l.session.pending → s.marks ≡ l.session.marks → MayGive m slot
      → d.is_browse l.ask.mode ≡ false
      → (TakesAtOnce l.tables l.session moment (commit_of l.tables moment (Remove m.id slot ∷ [])) (record s { marks = without_mark m.id slot s.marks }) × MarksAgree (record s { marks = without_mark m.id slot s.marks }))
      × Free (commit_of l.tables moment (Remove m.id slot ∷ [])) (record s { marks = without_mark m.id slot s.marks })
  at_once_right s m slot p k may nb = (
    (
      record { id = m.id; slot = slot; may = may.0; commits = refl; fit = removal_fits l.tables moment m.id slot v le top may.0.open_there; pending = p },
      record { removed = λ id behind. ap (λ marks. list_any (λ mark. mark.removed && marks_slot id behind mark) (without_mark m.id slot marks)) k ∙ agree_at_once m.id slot l.session.marks l.session.pending may.0.first agree.removed id behind ∙ ap (list_any (is_removal_of id behind)) (sym p) },
    ),
    record {
      marked = λ id behind h. inl (ap (list_any (marks_slot id behind)) (sym k) ∙ without_marks m.id slot id behind s.marks h);
      named = λ id behind h.
          let same = removal_names l.tables moment m.id slot id behind h in (
            subst (λ n. IsFreeOf l.sessions l.actor l.session.at n behind) same.0 (subst (IsFreeOf l.sessions l.actor l.session.at m.id) same.1 (may.1 nb)),
            ap (λ n. list_any (marks_slot n behind) (without_mark m.id slot s.marks)) (sym same.0) ∙ ap (λ n. list_any (marks_slot m.id n) (without_mark m.id slot s.marks)) (sym same.1) ∙ without_itself m.id slot s.marks,
          );
    },
  )

  -- a slot that is marked was free
  free_taken : (s : Session) (m : MsgRow) (slot : ℕ) (s2 : Session) (removed : Bool) → s.marks ≡ l.session.marks → MayGive m slot → d.is_browse l.ask.mode ≡ false → s2.marks ≡ taken s.marks (d.mark_on l removed m slot) → Free [] s2
  free_taken s m slot s2 removed k may nb r = record {
    marked = λ id behind h. new_or_old id behind (taken_marks id behind (d.mark_on l removed m slot) s.marks (ap (list_any (marks_slot id behind)) (sym r) ∙ h));
    named = λ id behind h. absurd (false≢true h);
  }
    where
      new_or_old : (id behind : ℕ) → (list_any (marks_slot id behind) s.marks ≡ true) ⊎ (marks_slot id behind (d.mark_on l removed m slot) ≡ true)
          → (list_any (marks_slot id behind) l.session.marks ≡ true) ⊎ (IsFreeOf l.sessions l.actor l.session.at id behind × (is_open_at l.tables id behind ≡ true))
      new_or_old id behind (inl h) = inl (ap (list_any (marks_slot id behind)) (sym k) ∙ h)
      new_or_old id behind (inr h) =
          let q = and_parts (m.id == id) (slot == behind) h in
          let a : m.id ≡ id = eqb-true m.id id q.0 in
          let b : slot ≡ behind = eqb-true slot behind q.1 in
          inr (
            subst (λ n. IsFreeOf l.sessions l.actor l.session.at n behind) a (subst (IsFreeOf l.sessions l.actor l.session.at m.id) b (may.1 nb)),
            ap (λ n. is_open_at l.tables n behind) (sym a) ∙ ap (is_open_at l.tables m.id) (sym b) ∙ may.0.open_there,
          )

  later_right : (s : Session) (m : MsgRow) (slot : ℕ) (s2 : Session) → s.pending ≡ l.session.pending → s.marks ≡ l.session.marks → MayGive m slot
      → d.is_browse l.ask.mode ≡ false → s2.pending ≡ s.pending ++ Remove m.id slot ∷ [] → s2.marks ≡ taken s.marks (d.mark_on l true m slot) → (TakesLater l.tables l.session [] s2 × MarksAgree s2) × Free [] s2
  later_right s m slot s2 p k may nb q r = (
    (
      record { id = m.id; slot = slot; may = may.0; none = refl; pending = q ∙ ap (λ x. x ++ Remove m.id slot ∷ []) p },
      record {
        removed = λ id behind. ap (list_any (λ mark. mark.removed && marks_slot id behind mark)) (r ∙ ap (λ x. taken x (d.mark_on l true m slot)) k)
            ∙ agree_later (d.mark_on l true m slot) l.session.marks l.session.pending refl agree.removed id behind
            ∙ ap (list_any (is_removal_of id behind)) (sym (q ∙ ap (λ x. x ++ Remove m.id slot ∷ []) p));
      },
    ),
    free_taken s m slot s2 true k may nb r,
  )

  locked_right : (s : Session) (m : MsgRow) (slot : ℕ) (s2 : Session) → s.pending ≡ l.session.pending → s.marks ≡ l.session.marks → MayGive m slot → d.is_browse l.ask.mode ≡ false → s2.pending ≡ s.pending → s2.marks ≡ taken s.marks (d.mark_on l false m slot)
      → (TakesNothing l.session [] s2 × MarksAgree s2) × Free [] s2
  locked_right s m slot s2 p k may nb q r = (
    (
      record { none = refl; pending = q ∙ p },
      record {
        removed = λ id behind. ap (list_any (λ mark. mark.removed && marks_slot id behind mark)) (r ∙ ap (λ x. taken x (d.mark_on l false m slot)) k)
            ∙ agree_locked (d.mark_on l false m slot) l.session.marks l.session.pending refl agree.removed id behind
            ∙ ap (list_any (is_removal_of id behind)) (sym (q ∙ p));
      },
    ),
    free_taken s m slot s2 false k may nb r,
  )

  with_modes : (cs : List Change) (after : Session) (mode : Mode) (visibility : Visibility) → l.ask.mode ≡ mode → l.ask.visibility ≡ visibility
      → (TakesIn mode visibility l.tables l.session moment cs after × MarksAgree after) × Free cs after → (TakesIn l.ask.mode l.ask.visibility l.tables l.session moment cs after × MarksAgree after) × Free cs after
  with_modes cs after mode visibility e g h = ((subst (λ x. TakesIn x l.ask.visibility l.tables l.session moment cs after) (sym e) (subst (λ x. TakesIn mode x l.tables l.session moment cs after) (sym g) h.0.0), h.0.1), h.1)

  abbrev d_later : Session → MsgRow → ℕ → Session
  d_later s m slot = record s { marks = taken s.marks (d.mark_on l true m slot); pending = s.pending ++ Remove m.id slot ∷ [] }

  abbrev d_locked : Session → MsgRow → ℕ → Session
  d_locked s m slot = record s { marks = taken s.marks (d.mark_on l false m slot) }

  -- the session that is given the slot holds what it held before, but for where it stands and what it waits for
  given_right : (s : Session) (m : MsgRow) (slot : ℕ) → s.pending ≡ l.session.pending → s.marks ≡ l.session.marks → MayGive m slot
      → (mode : Mode) (visibility : Visibility) → l.ask.mode ≡ mode → l.ask.visibility ≡ visibility → Says Right (d.given_in mode visibility l s moment m slot)
  given_right s m slot p k may modes.Remove visibilities.Immediate e g = with_modes _ _ modes.Remove visibilities.Immediate e g (at_once_right s m slot p k may (ap d.is_browse e))
  given_right s m slot p k may modes.RemoveNodata visibilities.Immediate e g = with_modes _ _ modes.RemoveNodata visibilities.Immediate e g (at_once_right s m slot p k may (ap d.is_browse e))
  given_right s m slot p k may modes.Browse visibility e g = with_modes _ _ modes.Browse visibility e g (nothing_right s p k)
  given_right s m slot p k may modes.Locked visibilities.Immediate e g = with_modes _ _ modes.Locked visibilities.Immediate e g (nothing_right s p k)
  given_right s m slot p k may modes.Remove visibilities.OnCommit e g = with_modes _ _ modes.Remove visibilities.OnCommit e g (later_right s m slot (d_later s m slot) p k may (ap d.is_browse e) refl refl)
  given_right s m slot p k may modes.RemoveNodata visibilities.OnCommit e g = with_modes _ _ modes.RemoveNodata visibilities.OnCommit e g (later_right s m slot (d_later s m slot) p k may (ap d.is_browse e) refl refl)
  given_right s m slot p k may modes.Locked visibilities.OnCommit e g = with_modes _ _ modes.Locked visibilities.OnCommit e g (locked_right s m slot (d_locked s m slot) p k may (ap d.is_browse e) refl refl)

  given_so : (s : Session) (m : MsgRow) (slot : ℕ) → s.pending ≡ l.session.pending → s.marks ≡ l.session.marks → MayGive m slot → Says Right (d.given l s moment m slot)
  given_so s m slot p k may = given_right s m slot p k may l.ask.mode l.ask.visibility refl refl

  -- ---- by navigation

  -- what is found among the messages is available
  abbrev IsCandidate : MsgRow → Type 0
  IsCandidate m = (d.is_available l m ≡ true) × (find_message l.tables m.id ≡ Some m)

  met : (m : MsgRow) → ((d.is_available l m && d.meets l m) ≡ true) × IsFoundIn l.tables.messages m → IsCandidate m
  met m h = ((and_parts (d.is_available l m) (d.meets l m) h.0).0, h.1)

  candidates_are : Each IsCandidate (d.candidates l)
  candidates_are =
      each_map (λ m. ((d.is_available l m && d.meets l m) ≡ true) × IsFoundIn l.tables.messages m) IsCandidate met (d.candidates l)
      (each_filtered (IsFoundIn l.tables.messages) (λ m. d.is_available l m && d.meets l m) l.tables.messages (each_found l.tables.messages (valid_distinct l.tables v)))

  may_by_slot : (m : MsgRow) (slot : ℕ) → find_message l.tables m.id ≡ Some m → d.is_available_slot l m (Some slot) ≡ true → MayGive m slot
  may_by_slot m slot e h =
      let p = and_parts (d.is_ready_slot (slot_of m slot) && not (has_removed l.session m.id slot)) (d.is_free l m slot) h in
      let q = and_parts (d.is_ready_slot (slot_of m slot)) (not (has_removed l.session m.id slot)) p.0 in (
        record { open_there = open_of l.tables m.id slot m e (ready_slot (slot_of m slot) q.0); first = not-true (has_removed l.session m.id slot) q.1 },
        λ nb. free_if_unheld l.sessions l.actor l.session.at m.id slot (group_of l.table m slot)
            (not-true (is_held l.sessions l.actor l.session.at m.id slot (group_of l.table m slot)) (second (d.is_browse l.ask.mode) (not (is_held l.sessions l.actor l.session.at m.id slot (group_of l.table m slot))) nb p.1)),
      )

  chosen_right : (m : MsgRow) (o : Option ℕ) → find_message l.tables m.id ≡ Some m → d.is_available_slot l m o ≡ true → Says Right (d.given_chosen l moment m o)
  chosen_right m None e h = unchanged
  chosen_right m (Some slot) e h = given_so (d.standing_at l m) m slot refl refl (may_by_slot m slot e h)

  forgetting_right : (n : Navigation) → (TakesNothing l.session [] (unparked (d.forgetting n l.ask l.session)) × MarksAgree (unparked (d.forgetting n l.ask l.session))) × Free [] (unparked (d.forgetting n l.ask l.session))
  forgetting_right navigations.First = nothing_right (unparked (d.forgetting navigations.First l.ask l.session)) refl refl
  forgetting_right navigations.Next = unchanged
  forgetting_right navigations.NextTransaction = unchanged

  by_choice : (c : d.Choice) → Chooses IsCandidate c → Says Right (d.given_by l moment c)
  by_choice (d.found m) h = chosen_right m (d.slot_in l m) h.1 (and_parts (bytes_eq m.queue l.queue.name) (d.is_available_slot l m (d.slot_in l m)) h.0).1
  by_choice d.end_of_group h = unchanged
  by_choice d.nothing h = says_if Right (still_waits l.session l.ask.wait moment) (parks (first_look l.session moment)) (refused (d.forgetting l.ask.navigation l.ask l.session) replies.NoMessage) (λ e. tt) (λ e. forgetting_right l.ask.navigation)

  by_navigation : Says Right (d.given_by l moment (d.chosen l))
  by_navigation = by_choice (d.chosen l) (choice_chooses IsCandidate l.ask.navigation (position_in l.session l.ask.queue l.ask.consumer) l.table.grouped l.ask.mode (d.candidates l) candidates_are)

  -- ---- by msgid

  unheld_right : (m : MsgRow) (slot : ℕ) (o : Option ℕ) → d.holder_for l m slot ≡ o → MayTake l.tables l.session m.id slot → Says Right (d.given_unheld l moment m slot o)
  unheld_right m slot (Some other) e may = unchanged
  unheld_right m slot None e may = given_so (unparked l.session) m slot refl refl (may, λ nb. free_if_no_holder l.sessions l.actor l.session.at m.id slot (group_of l.table m slot) (rw nb at e))

  may_by_id : (m : MsgRow) (slot : ℕ) → find_message l.tables m.id ≡ Some m → (not (d.is_open_slot (slot_of m slot)) || has_removed l.session m.id slot || not (d.meets l m)) ≡ false → MayTake l.tables l.session m.id slot
  may_by_id m slot e h =
      let p = or_parts (not (d.is_open_slot (slot_of m slot)) || has_removed l.session m.id slot) (not (d.meets l m)) h in
      let q = or_parts (not (d.is_open_slot (slot_of m slot))) (has_removed l.session m.id slot) p.0 in
      record { open_there = open_of l.tables m.id slot m e (open_slot (slot_of m slot) (not-false (d.is_open_slot (slot_of m slot)) q.0)); first = q.1 }

  slot_right : (m : MsgRow) (o : Option ℕ) → find_message l.tables m.id ≡ Some m → Says Right (d.given_slot l moment m o)
  slot_right m None e = unchanged
  slot_right m (Some slot) e =
      says_if Right (not (d.is_open_slot (slot_of m slot)) || has_removed l.session m.id slot || not (d.meets l m)) (refused l.session replies.NoSuchMessage) (d.given_unheld l moment m slot (d.holder_for l m slot))
      (λ _. unchanged) (λ h. unheld_right m slot (d.holder_for l m slot) refl (may_by_id m slot e h))

  named_right : (o : Option MsgRow) → ((m : MsgRow) → o ≡ Some m → find_message l.tables m.id ≡ Some m) → Says Right (d.given_named l moment o)
  named_right None h = unchanged
  named_right (Some m) h =
      says_if Right (not (bytes_eq m.queue l.queue.name)) (refused l.session replies.NoSuchMessage) (d.given_slot l moment m (d.slot_in l m)) (λ _. unchanged) (λ _. slot_right m (d.slot_in l m) (h m refl))

  found_itself : (id : ℕ) (m : MsgRow) → find_message l.tables id ≡ Some m → find_message l.tables m.id ≡ Some m
  found_itself id m e = ap (find_message l.tables) (id_found l.tables id m e) ∙ e

  found_named : (id : MsgId) (b : Bool) (m : MsgRow) → (if b then find_message l.tables id.number else None) ≡ Some m → find_message l.tables m.id ≡ Some m
  found_named id true m e = found_itself id.number m e
  found_named id false m e = absurd (none-some m e)

  by_way : (o : Option MsgId) → Says Right (d.dequeue_by l moment o)
  by_way (Some id) = named_right (message_named l.tables l.session.at id) (λ m e. found_named id (is_same_db id.db l.session.at) m e)
  by_way None = by_navigation

-- ---- all of it

module _ (t : Tables) (sessions : List Session) (actor : ℕ) (s : Session) (ask : Dequeue) (moment : ℕ) (v : is_valid t ≡ true) (le : t.latest ≤ moment) (top : moment ≤ MOMENT_LIMIT) (agree : MarksAgree s) where
  abbrev Fine : Reply → List Change → Session → Type 0
  Fine reply cs after = (Takes reply ask t s moment cs after × MarksAgree after) × TakesFree t sessions actor s cs after

  untouched : (TakesNothing s [] (unparked s) × MarksAgree (unparked s)) × TakesFree t sessions actor s [] (unparked s)
  untouched = ((record { none = refl; pending = refl }, record { removed = agree.removed }), record { marked = λ id slot h. inl h; named = λ id slot h. absurd (false≢true h) })

  fine_where : (queue : QueueRow) (table : TableRow) (r : Result (Option Cond) ConditionFault) → Says Fine (d.dequeue_where t sessions actor s queue table ask r moment)
  fine_where queue table (Err fault) = untouched
  fine_where queue table (Ok condition) =
      by_way (record { tables = t; sessions = sessions; actor = actor; session = s; queue = queue; table = table; ask = ask; condition = condition }) moment v le top agree ask.msgid

  fine_typed : (queue : QueueRow) (o : Option TableRow) → Says Fine (d.dequeue_typed t sessions actor s queue o ask moment)
  fine_typed queue None = untouched
  fine_typed queue (Some table) =
      says_if Fine (d.lacks_consumer queue table ask.consumer) _ _ (λ _. untouched) (λ _.
      says_if Fine (d.has_needless_consumer queue table ask.consumer) _ _ (λ _. untouched) (λ _.
      says_if Fine (d.is_wrong_mode queue table ask.mode) _ _ (λ _. untouched) (λ _.
      says_if Fine (d.is_by_transaction ask.navigation && not table.grouped) _ _ (λ _. untouched) (λ _.
      fine_where queue table (optional_condition table.fields ask.condition)))))

  fine_from : (o : Option QueueRow) → Says Fine (d.dequeue_from t sessions actor s o ask moment)
  fine_from None = untouched
  fine_from (Some queue) = says_if Fine (not queue.dequeue) (refused s replies.DequeueOff) (d.dequeue_typed t sessions actor s queue (find_table t queue.table) ask moment) (λ _. untouched) (λ _. fine_typed queue (find_table t queue.table))

  fine : Says Fine (d.dequeue t sessions actor s ask moment)
  unfolding d.dequeue
  fine = fine_from (find_queue t ask.queue)

pub dequeue_removes_open : (t : Tables) (sessions : List Session) (actor : ℕ) (s : Session) (ask : Dequeue) (moment : ℕ) (reply : Reply) (cs : List Change) (after : Session) → is_valid t ≡ true → t.latest ≤ moment → moment ≤ MOMENT_LIMIT
    → MarksAgree s → d.dequeue t sessions actor s ask moment ≡ answers reply cs after → Takes reply ask t s moment cs after × MarksAgree after
dequeue_removes_open t sessions actor s ask moment reply cs after v le top agree e =
    (says_so (Fine t sessions actor s ask moment v le top agree) (d.dequeue t sessions actor s ask moment) reply cs after (fine t sessions actor s ask moment v le top agree) e).0

pub dequeue_takes_free : (t : Tables) (sessions : List Session) (actor : ℕ) (s : Session) (ask : Dequeue) (moment : ℕ) (reply : Reply) (cs : List Change) (after : Session) → is_valid t ≡ true → t.latest ≤ moment → moment ≤ MOMENT_LIMIT
    → MarksAgree s → d.dequeue t sessions actor s ask moment ≡ answers reply cs after → TakesFree t sessions actor s cs after
dequeue_takes_free t sessions actor s ask moment reply cs after v le top agree e =
    (says_so (Fine t sessions actor s ask moment v le top agree) (d.dequeue t sessions actor s ask moment) reply cs after (fine t sessions actor s ask moment v le top agree) e).1
