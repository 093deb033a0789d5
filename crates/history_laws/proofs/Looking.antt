-- A dequeue marks no slot that goes to the other database.
use Rattle.std.proofs.Common.{◌≡◌, ◌+◌, ◌-◌, ◌⊎◌, inl, inr, ℕ, List, Bool, true, false, not, refl, sym, ap, ◌∙◌, arith, Option, Some, None, Result, Ok, Err, ◌==◌, ◌&&◌, ◌||◌, length, get_or}
use Rattle.std.specs.Prelude.{position, slice_get, is_some, is_none, nat_le, if◌then◌else◌}
use Rattle.std.specs.List.{list_any, list_all}
use Rattle.std.specs.Option.{option_map_or}
use Rattle.std.specs.Str.{bytes_eq}
use Rattle.std.proofs.lemmas.Bool.{eqb-true, ne_eqb, and_parts, not-false, false≢true, true≢false}
use Rattle.std.proofs.lemmas.Option.{none-some, slice_get-get_or}
use Rattle.std.proofs.lemmas.List.Quantifiers.{position-Some}
use Rattle.rule_conditions.specs.declared.condition.Cond.{Cond}
use Rattle.slot_marks.specs.Marks.{taken}
use Rattle.queue_rows.specs.Rows.{find_table, find_queue, find_message, has_slot, slot_index, slot_of, recipient_slots}
use Rattle.queue_rows.specs.Settling.{is_exception}
use Rattle.queue_rows.specs.Conditions.{optional_condition}
use Rattle.queue_rows.specs.Session.{Session, is_same_consumer, has_removed, marks_slot, is_same_db, message_named, position_in}
use Rattle.queue_rows.specs.Meaning.{answers, parks, unparked, refused, still_waits, first_look}
use Rattle.queue_rows.specs.Dequeueing as d
use Rattle.queue_rows.specs.Valid.{is_valid, is_valid_message, is_valid_message_at, is_valid_message_in, is_right_queue, has_right_cells, has_right_ids, has_right_place, has_right_lane, has_right_props, has_right_slots, has_right_recipients, has_right_names, is_nameless, is_right_if_moved, has_right_retries, has_allowed_retries, has_begun}
use Rattle.queue_rows.specs.declared.tables.Tables.{Tables}
use Rattle.queue_rows.specs.declared.rows.TableRow.{TableRow}
use Rattle.queue_rows.specs.declared.rows.QueueRow.{QueueRow}
use Rattle.queue_rows.specs.declared.rows.MsgRow.{MsgRow}
use Rattle.queue_rows.specs.declared.rows.SlotRow.{SlotRow}
use Rattle.queue_rows.specs.declared.rows.SlotState.TheVariants as states
use Rattle.queue_rows.specs.declared.change.Change.{Change}
use Rattle.queue_rows.specs.declared.reply.Reply.{Reply}
use Rattle.queue_rows.specs.declared.reply.Reply.TheVariants as replies
use Rattle.queue_rows.specs.declared.reply.ConditionFault.{ConditionFault}
use Rattle.queue_rows.specs.declared.statement.Dequeue.{Dequeue}
use Rattle.queue_rows.specs.declared.statement.MsgId.{MsgId}
use Rattle.queue_rows.specs.declared.statement.Mode.{Mode}
use Rattle.queue_rows.specs.declared.statement.Mode.TheVariants as modes
use Rattle.queue_rows.specs.declared.statement.Navigation.{Navigation}
use Rattle.queue_rows.specs.declared.statement.Navigation.TheVariants as navigations
use Rattle.queue_rows.specs.declared.statement.Visibility.{Visibility}
use Rattle.queue_rows.specs.declared.statement.Visibility.TheVariants as visibilities
use Rattle.row_laws.proofs.Finding.{found_is}
use Rattle.row_laws.proofs.Messages.{id_found}
use Rattle.row_laws.proofs.Slots.{slot_of-has, slot_of-hasnt}
use Rattle.valid_laws.proofs.Parts.{valid_distinct, valid_messages, all_found, six_parts}
use Rattle.valid_laws.proofs.Cataloguing.{same_name}
use Rattle.statement_laws.proofs.Among.{Says, says_if, says_so, Each, each_map, each_filtered, IsFoundIn, each_found}
use Rattle.statement_laws.proofs.Freeing.{taken_marks, without_marks}
use Rattle.statement_laws.proofs.Taking.{Chooses, choice_chooses}
use Rattle.history_laws.proofs.Worlds.{all_at}
use Rattle.history_laws.specs.LocalMarks.{is_remote_slot, is_remote_at}

-- ---- which slot a dequeue may take

address_none : (o : Option (List ℕ)) → is_none o ≡ true → is_some o ≡ false
address_none None h = refl
address_none (Some x) h = absurd (false≢true h)

-- it has a slot that goes elsewhere
abbrev goes : ℕ → MsgRow → Bool
goes slot m = option_map_or (λ s. is_some s.address) (slot_of m slot) false

remote_if : (slot : ℕ) (m : MsgRow) → goes slot m ≡ false → is_remote_slot slot m ≡ false
remote_if slot m h = ap (λ b. not (slot == 0) && b) h ∙ and_none (not (slot == 0))
  where
    and_none : (b : Bool) → (b && false) ≡ false
    and_none true = refl
    and_none false = refl

-- the consumer's slot is a local one
position_local : (consumer : List ℕ) (m : MsgRow) (i : ℕ) (b : Bool) → position (d.is_local_for consumer) m.slots ≡ Some i → has_slot m (i + 1) ≡ b → ((i + 1) == 0) ≡ false → goes (i + 1) m ≡ false
position_local consumer m i false e h z = ap (λ o. option_map_or (λ s. is_some s.address) o false) (slot_of-hasnt m (i + 1) h)
position_local consumer m i true e h z =
    let default : SlotRow = record { name = None; address = None; state = states.Ready; retries = 0; at = 0; expires = None } in
    let p = position-Some (d.is_local_for consumer) m.slots i default e in
    let row = get_or m.slots i default in
    let at : slot_index m (i + 1) ≡ i = ap (λ b. if b then length m.slots - 1 else (i + 1) - 1) z ∙ omega arith in
    let is : slot_of m (i + 1) ≡ Some row = slot_of-has m (i + 1) h ∙ ap (slice_get m.slots) at ∙ slice_get-get_or m.slots i default p.0 in
    ap (λ o. option_map_or (λ s. is_some s.address) o false) is ∙ address_none row.address (and_parts (is_same_consumer row.name (Some consumer)) (is_none row.address) p.1).1

-- all slots of a table with one consumer are nameless
nameless_at : (slots : List SlotRow) (i : ℕ) (o : Option SlotRow) → list_all is_nameless slots ≡ true → slice_get slots i ≡ o → option_map_or (λ s. is_some s.address) o false ≡ false
nameless_at slots i None h e = refl
nameless_at slots i (Some s) h e = address_none s.address (and_parts (is_none s.name) (is_none s.address) (all_at is_nameless slots i s h e)).1

first_local : (m : MsgRow) (b : Bool) → has_slot m 1 ≡ b → list_all is_nameless m.slots ≡ true → goes 1 m ≡ false
first_local m false e h = ap (λ o. option_map_or (λ s. is_some s.address) o false) (slot_of-hasnt m 1 e)
first_local m true e h = ap (λ o. option_map_or (λ s. is_some s.address) o false) (slot_of-has m 1 e) ∙ nameless_at m.slots (slot_index m 1) (slice_get m.slots (slot_index m 1)) h refl

module _ (t : Tables) (v : is_valid t ≡ true) (queue : QueueRow) (table : TableRow) (name : List ℕ) (queue_is : find_queue t name ≡ Some queue) (table_is : find_table t queue.table ≡ Some table) where
  own_queue : (m : MsgRow) → bytes_eq m.queue queue.name ≡ true → find_queue t m.queue ≡ Some queue
  own_queue m e =
      ap (find_queue t) (same_name m.queue queue.name e ∙ same_name queue.name name (found_is (λ x. bytes_eq x.name name) t.queues queue queue_is)) ∙ queue_is

  names_right : (m : MsgRow) → find_message t m.id ≡ Some m → bytes_eq m.queue queue.name ≡ true → has_right_names table m ≡ true
  names_right m e q =
      let valid : is_valid_message t m ≡ true = all_found (is_valid_message t) (λ x. x.id == m.id) t.messages m (valid_messages t v) e in
      let here : is_valid_message_in t queue (Some table) m ≡ true =
      ap (λ o. is_valid_message_in t queue o m) (sym table_is) ∙ ap (λ o. is_valid_message_at t o m) (sym (own_queue m q)) ∙ valid in
      let slots : has_right_slots t table queue m ≡ true =
      (and_parts (is_right_queue m queue && has_right_cells table m && has_right_ids t m && has_right_place table m && has_right_lane table queue m && has_right_props m && nat_le m.enq t.latest) (has_right_slots t table queue m) here).1 in
      (six_parts (has_right_recipients m) (has_right_names table m) (is_right_if_moved m) (list_all has_right_retries m.slots) (list_all (has_allowed_retries queue) (recipient_slots m)) (list_all (has_begun t.latest) m.slots) slots).1

  nameless_if : (m : MsgRow) (b : Bool) → (if b then list_all (λ s. is_some s.name) (recipient_slots m) else list_all is_nameless m.slots) ≡ true → b ≡ false → list_all is_nameless m.slots ≡ true
  nameless_if m true h e = absurd (true≢false e)
  nameless_if m false h e = h

  single_consumer : (b c : Bool) → ((b && not c) && true) ≡ false → c ≡ false → b ≡ false
  single_consumer true c h e = absurd (true≢false (sym (ap (λ x. (true && not x) && true) e) ∙ h))
  single_consumer false c h e = refl

  without_consumer : (m : MsgRow) (slot : ℕ) (b : Bool) → is_exception queue.kind ≡ b → find_message t m.id ≡ Some m → bytes_eq m.queue queue.name ≡ true → d.lacks_consumer queue table None ≡ false → (if b then Some 0 else Some 1) ≡ Some slot → is_remote_slot slot m ≡ false
  without_consumer m slot true k e q l s = let same : 0 ≡ slot = (let a : Some 0 ≡ Some slot = s in cc) in ap (λ n. is_remote_slot n m) (sym same)
  without_consumer m slot false k e q l s =
      let same : 1 ≡ slot = (let a : Some 1 ≡ Some slot = s in cc) in
      ap (λ n. is_remote_slot n m) (sym same) ∙ remote_if 1 m (first_local m (has_slot m 1) refl (nameless_if m table.multi (names_right m e q) (single_consumer table.multi (is_exception queue.kind) l k)))

  numbered : (m : MsgRow) (slot : ℕ) (consumer : List ℕ) (o : Option ℕ) → position (d.is_local_for consumer) m.slots ≡ o → d.slot_number o ≡ Some slot → is_remote_slot slot m ≡ false
  numbered m slot consumer None e s = absurd (none-some slot s)
  numbered m slot consumer (Some i) e s =
      let same : i + 1 ≡ slot = (let a : Some (i + 1) ≡ Some slot = s in cc) in
      ap (λ n. is_remote_slot n m) (sym same) ∙ remote_if (i + 1) m (position_local consumer m i (has_slot m (i + 1)) e refl (ne_eqb (i + 1) 0 (λ z. absurd (omega (arith, z)))))

  pub may_take_local : (m : MsgRow) (slot : ℕ) (consumer : Option (List ℕ)) → find_message t m.id ≡ Some m → bytes_eq m.queue queue.name ≡ true → d.lacks_consumer queue table consumer ≡ false → d.slot_for queue consumer m ≡ Some slot → is_remote_at t m.id slot ≡ false
  may_take_local m slot None e q l s = ap (λ o. option_map_or (is_remote_slot slot) o false) e ∙ without_consumer m slot (is_exception queue.kind) refl e q l s
  may_take_local m slot (Some consumer) e q l s = ap (λ o. option_map_or (is_remote_slot slot) o false) e ∙ numbered m slot consumer (position (d.is_local_for consumer) m.slots) refl s

-- ---- what is marked

module _ (l : d.Look) (moment : ℕ) (v : is_valid l.tables ≡ true) (may : (m : MsgRow) (slot : ℕ) → find_message l.tables m.id ≡ Some m → bytes_eq m.queue l.queue.name ≡ true → d.slot_in l m ≡ Some slot → is_remote_at l.tables m.id slot ≡ false) where
  abbrev Local : Reply → List Change → Session → Type 0
  Local reply cs after = (id slot : ℕ) → list_any (marks_slot id slot) after.marks ≡ true → (list_any (marks_slot id slot) l.session.marks ≡ true) ⊎ (is_remote_at l.tables id slot ≡ false)

  unchanged : (s : Session) → s.marks ≡ l.session.marks → (id slot : ℕ) → list_any (marks_slot id slot) s.marks ≡ true → (list_any (marks_slot id slot) l.session.marks ≡ true) ⊎ (is_remote_at l.tables id slot ≡ false)
  unchanged s k id slot h = inl (ap (list_any (marks_slot id slot)) (sym k) ∙ h)

  marked_local : (s : Session) (m : MsgRow) (slot : ℕ) (removed : Bool) → s.marks ≡ l.session.marks → is_remote_at l.tables m.id slot ≡ false
      → (id a : ℕ) → list_any (marks_slot id a) (taken s.marks (d.mark_on l removed m slot)) ≡ true → (list_any (marks_slot id a) l.session.marks ≡ true) ⊎ (is_remote_at l.tables id a ≡ false)
  marked_local s m slot removed k r id a h = by (taken_marks id a (d.mark_on l removed m slot) s.marks h)
    where
      by : (list_any (marks_slot id a) s.marks ≡ true) ⊎ (marks_slot id a (d.mark_on l removed m slot) ≡ true) → (list_any (marks_slot id a) l.session.marks ≡ true) ⊎ (is_remote_at l.tables id a ≡ false)
      by (inl g) = inl (ap (list_any (marks_slot id a)) (sym k) ∙ g)
      by (inr g) =
          let p = and_parts (m.id == id) (slot == a) g in inr (ap (λ n. is_remote_at l.tables n a) (sym (eqb-true m.id id p.0)) ∙ ap (is_remote_at l.tables m.id) (sym (eqb-true slot a p.1)) ∙ r)

  given_local : (s : Session) (m : MsgRow) (slot : ℕ) → s.marks ≡ l.session.marks → is_remote_at l.tables m.id slot ≡ false → (mode : Mode) (visibility : Visibility) → Says Local (d.given_in mode visibility l s moment m slot)
  given_local s m slot k r modes.Remove visibilities.Immediate = λ id a h. inl (ap (list_any (marks_slot id a)) (sym k) ∙ without_marks m.id slot id a s.marks h)
  given_local s m slot k r modes.RemoveNodata visibilities.Immediate = λ id a h. inl (ap (list_any (marks_slot id a)) (sym k) ∙ without_marks m.id slot id a s.marks h)
  given_local s m slot k r modes.Browse visibility = unchanged s k
  given_local s m slot k r modes.Locked visibilities.Immediate = unchanged s k
  given_local s m slot k r modes.Remove visibilities.OnCommit = marked_local s m slot true k r
  given_local s m slot k r modes.RemoveNodata visibilities.OnCommit = marked_local s m slot true k r
  given_local s m slot k r modes.Locked visibilities.OnCommit = marked_local s m slot false k r

  -- ---- by navigation

  abbrev IsCandidate : MsgRow → Type 0
  IsCandidate m = (bytes_eq m.queue l.queue.name ≡ true) × (find_message l.tables m.id ≡ Some m)

  met : (m : MsgRow) → ((d.is_available l m && d.meets l m) ≡ true) × IsFoundIn l.tables.messages m → IsCandidate m
  met m h = ((and_parts (bytes_eq m.queue l.queue.name) (d.is_available_slot l m (d.slot_in l m)) (and_parts (d.is_available l m) (d.meets l m) h.0).0).0, h.1)

  candidates_are : Each IsCandidate (d.candidates l)
  candidates_are =
      each_map (λ m. ((d.is_available l m && d.meets l m) ≡ true) × IsFoundIn l.tables.messages m) IsCandidate met (d.candidates l)
      (each_filtered (IsFoundIn l.tables.messages) (λ m. d.is_available l m && d.meets l m) l.tables.messages (each_found l.tables.messages (valid_distinct l.tables v)))

  chosen_local : (m : MsgRow) (o : Option ℕ) → d.slot_in l m ≡ o → IsCandidate m → Says Local (d.given_chosen l moment m o)
  chosen_local m None e h = unchanged (unparked l.session) refl
  chosen_local m (Some slot) e h = given_local (d.standing_at l m) m slot refl (may m slot h.1 h.0 e) l.ask.mode l.ask.visibility

  forgetting_local : (n : Navigation) → (id slot : ℕ) → list_any (marks_slot id slot) (unparked (d.forgetting n l.ask l.session)).marks ≡ true → (list_any (marks_slot id slot) l.session.marks ≡ true) ⊎ (is_remote_at l.tables id slot ≡ false)
  forgetting_local navigations.First = unchanged (unparked (d.forgetting navigations.First l.ask l.session)) refl
  forgetting_local navigations.Next = unchanged (unparked l.session) refl
  forgetting_local navigations.NextTransaction = unchanged (unparked l.session) refl

  by_choice : (c : d.Choice) → Chooses IsCandidate c → Says Local (d.given_by l moment c)
  by_choice (d.found m) h = chosen_local m (d.slot_in l m) refl h
  by_choice d.end_of_group h = unchanged (unparked l.session) refl
  by_choice d.nothing h = says_if Local (still_waits l.session l.ask.wait moment) (parks (first_look l.session moment)) (refused (d.forgetting l.ask.navigation l.ask l.session) replies.NoMessage) (λ e. tt) (λ e. forgetting_local l.ask.navigation)

  by_navigation : Says Local (d.given_by l moment (d.chosen l))
  by_navigation = by_choice (d.chosen l) (choice_chooses IsCandidate l.ask.navigation (position_in l.session l.ask.queue l.ask.consumer) l.table.grouped l.ask.mode (d.candidates l) candidates_are)

  -- ---- by msgid

  unheld_local : (m : MsgRow) (slot : ℕ) (o : Option ℕ) → is_remote_at l.tables m.id slot ≡ false → Says Local (d.given_unheld l moment m slot o)
  unheld_local m slot (Some other) r = unchanged (unparked l.session) refl
  unheld_local m slot None r = given_local (unparked l.session) m slot refl r l.ask.mode l.ask.visibility

  named_slot : (m : MsgRow) (o : Option ℕ) → d.slot_in l m ≡ o → IsCandidate m → Says Local (d.given_slot l moment m o)
  named_slot m None e h = unchanged (unparked l.session) refl
  named_slot m (Some slot) e h =
      says_if Local (not (d.is_open_slot (slot_of m slot)) || has_removed l.session m.id slot || not (d.meets l m)) (refused l.session replies.NoSuchMessage) (d.given_unheld l moment m slot (d.holder_for l m slot))
      (λ _. unchanged (unparked l.session) refl) (λ _. unheld_local m slot (d.holder_for l m slot) (may m slot h.1 h.0 e))

  named_local : (o : Option MsgRow) → ((m : MsgRow) → o ≡ Some m → find_message l.tables m.id ≡ Some m) → Says Local (d.given_named l moment o)
  named_local None h = unchanged (unparked l.session) refl
  named_local (Some m) h =
      says_if Local (not (bytes_eq m.queue l.queue.name)) (refused l.session replies.NoSuchMessage) (d.given_slot l moment m (d.slot_in l m)) (λ _. unchanged (unparked l.session) refl)
      (λ q. named_slot m (d.slot_in l m) refl (not-false (bytes_eq m.queue l.queue.name) q, h m refl))

  found_named : (id : MsgId) (b : Bool) (m : MsgRow) → (if b then find_message l.tables id.number else None) ≡ Some m → find_message l.tables m.id ≡ Some m
  found_named id true m e = ap (find_message l.tables) (id_found l.tables id.number m e) ∙ e
  found_named id false m e = absurd (none-some m e)

  by_way : (o : Option MsgId) → Says Local (d.dequeue_by l moment o)
  by_way (Some id) = named_local (message_named l.tables l.session.at id) (λ m e. found_named id (is_same_db id.db l.session.at) m e)
  by_way None = by_navigation

-- ---- all of it

module _ (t : Tables) (sessions : List Session) (actor : ℕ) (s : Session) (ask : Dequeue) (moment : ℕ) (v : is_valid t ≡ true) where
  abbrev LocalIn : Reply → List Change → Session → Type 0
  LocalIn reply cs after = (id slot : ℕ) → list_any (marks_slot id slot) after.marks ≡ true → (list_any (marks_slot id slot) s.marks ≡ true) ⊎ (is_remote_at t id slot ≡ false)

  untouched : (id slot : ℕ) → list_any (marks_slot id slot) (unparked s).marks ≡ true → (list_any (marks_slot id slot) s.marks ≡ true) ⊎ (is_remote_at t id slot ≡ false)
  untouched id slot h = inl h

  local_where : (queue : QueueRow) (table : TableRow) (r : Result (Option Cond) ConditionFault) → find_queue t ask.queue ≡ Some queue → find_table t queue.table ≡ Some table → d.lacks_consumer queue table ask.consumer ≡ false → Says LocalIn (d.dequeue_where t sessions actor s queue table ask r moment)
  local_where queue table (Err fault) q e k = untouched
  local_where queue table (Ok condition) q e k =
      by_way (record { tables = t; sessions = sessions; actor = actor; session = s; queue = queue; table = table; ask = ask; condition = condition }) moment v
      (λ m slot f g h. may_take_local t v queue table ask.queue q e m slot ask.consumer f g k h) ask.msgid

  local_typed : (queue : QueueRow) (o : Option TableRow) → find_queue t ask.queue ≡ Some queue → find_table t queue.table ≡ o → Says LocalIn (d.dequeue_typed t sessions actor s queue o ask moment)
  local_typed queue None q e = untouched
  local_typed queue (Some table) q e =
      says_if LocalIn (d.lacks_consumer queue table ask.consumer) _ _ (λ _. untouched) (λ k.
      says_if LocalIn (d.has_needless_consumer queue table ask.consumer) _ _ (λ _. untouched) (λ _.
      says_if LocalIn (d.is_wrong_mode queue table ask.mode) _ _ (λ _. untouched) (λ _.
      says_if LocalIn (d.is_by_transaction ask.navigation && not table.grouped) _ _ (λ _. untouched) (λ _.
      local_where queue table (optional_condition table.fields ask.condition) q e k))))

  local_from : (o : Option QueueRow) → find_queue t ask.queue ≡ o → Says LocalIn (d.dequeue_from t sessions actor s o ask moment)
  local_from None q = untouched
  local_from (Some queue) q = says_if LocalIn (not queue.dequeue) (refused s replies.DequeueOff) (d.dequeue_typed t sessions actor s queue (find_table t queue.table) ask moment) (λ _. untouched) (λ _. local_typed queue (find_table t queue.table) q refl)

  local : Says LocalIn (d.dequeue t sessions actor s ask moment)
  unfolding d.dequeue
  local = local_from (find_queue t ask.queue) refl

pub dequeue_marks_local : (t : Tables) (sessions : List Session) (actor : ℕ) (s : Session) (ask : Dequeue) (moment : ℕ) (reply : Reply) (cs : List Change) (after : Session) → is_valid t ≡ true
    → d.dequeue t sessions actor s ask moment ≡ answers reply cs after → (id slot : ℕ) → list_any (marks_slot id slot) after.marks ≡ true → (list_any (marks_slot id slot) s.marks ≡ true) ⊎ (is_remote_at t id slot ≡ false)
dequeue_marks_local t sessions actor s ask moment reply cs after v e = says_so (LocalIn t sessions actor s ask moment v) (d.dequeue t sessions actor s ask moment) reply cs after (local t sessions actor s ask moment v) e
