-- A slot that is being sent stays as it is while changes do not name it.
use Rattle.std.proofs.Common.{◌≡◌, ◌≤◌, ℕ, List, [], ◌∷◌, Bool, true, false, not, refl, sym, ap, ◌∙◌, subst, Option, Some, None, ◌==◌, ◌&&◌, length}
use Rattle.std.specs.Prelude.{find, option_and_then, is_some, is_none, if◌then◌else◌}
use Rattle.std.specs.List.{list_any}
use Rattle.std.specs.Option.{option_map_or}
use Rattle.std.proofs.lemmas.Bool.{eqb-true, eqb-false, eq-eqb, and_parts, or_parts, or_right, true≢false}
use Rattle.queue_rows.specs.Rows.{find_message, find_queue, find_table, with_slot, slot_of}
use Rattle.queue_rows.specs.Tables.{after_change, after_all, after, drop_table, move_in, move_some, in_state, retried, moved_to}
use Rattle.queue_rows.specs.Settling.{is_open, is_ready, if_it, left_by}
use Rattle.queue_rows.specs.Propagating.{is_schedule_of}
use Rattle.queue_rows.specs.World.{committed_tables}
use Rattle.queue_rows.specs.Valid.{is_valid}
use Rattle.queue_rows.specs.declared.tables.Tables.{Tables}
use Rattle.queue_rows.specs.declared.rows.MsgRow.{MsgRow}
use Rattle.queue_rows.specs.declared.rows.SlotRow.{SlotRow}
use Rattle.queue_rows.specs.declared.rows.ScheduleRow.{ScheduleRow}
use Rattle.queue_rows.specs.declared.rows.SlotState.{SlotState}
use Rattle.queue_rows.specs.declared.rows.SlotState.TheVariants as states
use Rattle.queue_rows.specs.declared.change.Change.{Change}
use Rattle.queue_rows.specs.declared.change.Change.TheVariants as changes
use Rattle.queue_rows.specs.declared.history.SlotRef.{SlotRef}
use Rattle.row_laws.specs.RowLaws.{puts_new}
use Rattle.row_laws.proofs.Messages.{IsSingle, id_found, finds_left, finds_put_in, stays_single, new_may_be_put}
use Rattle.row_laws.proofs.Slots.{slot_of-with_other}
use Rattle.row_laws.proofs.Distinctly.{single_if_distinct}
use Rattle.valid_laws.specs.Openness.{is_open_slot, is_open_at, is_finished, may_move}
use Rattle.valid_laws.specs.Touching.{is_of_slot, puts_in, is_proper, are_proper}
use Rattle.valid_laws.proofs.Opened.{open_of, finished_closed}
use Rattle.valid_laws.proofs.Parts.{valid_distinct}
use Rattle.history_laws.proofs.Agreeing.{finds_without_table}
use Rattle.history_laws.proofs.Holding.{proper_parts}
use Rattle.history_laws.proofs.Commits.{empty_if}
use Rattle.run_laws.proofs.Staying.{committed_messages}
use Rattle.run_laws.specs.ValidRun.{IsBeingSent}

-- it changes schedules, or drops a queue with its messages
abbrev pub touches : Change → Bool
touches (changes.PutSchedule row) = true
touches (changes.DropSchedule queue to) = true
touches (changes.DropQueue name) = true
touches _ = false

pub ready_open : (s : SlotState) → is_ready s ≡ true → is_open s ≡ true
ready_open states.Ready h = refl
ready_open states.Waiting h = refl
ready_open states.Processed h = h
ready_open states.Expired h = h
ready_open states.Dropped h = h

-- ---- the message and its slot

module _ (id slot : ℕ) (row : SlotRow) (queue : List ℕ) (open_row : is_open row.state ≡ true) where
  -- the message stands in that queue, and has that slot so
  record Rests (m : MsgRow) : Type 0 where
    there : slot_of m slot ≡ Some row
    queue_is : m.queue ≡ queue

  abbrev IsThere : Option MsgRow → Type 0
  IsThere None = ⊥
  IsThere (Some m) = Rests m

  its_open : (m : MsgRow) → Rests m → is_open_slot slot m ≡ true
  its_open m h = ap (λ o. option_map_or (λ s. is_open s.state) o false) h.there ∙ open_row

  other_slot : (m : MsgRow) (a : ℕ) (f : SlotRow → SlotRow) → (a == slot) ≡ false → Rests m → Rests (with_slot a f m)
  other_slot m a f d h = record { there = slot_of-with_other a slot f m (eqb-false a slot d) ∙ h.there; queue_is = h.queue_is }

  apart_slot : (n a : ℕ) → n ≡ id → ((n == id) && (a == slot)) ≡ false → (a == slot) ≡ false
  apart_slot n a e h = sym (ap (λ b. b && (a == slot)) (eq-eqb n id e)) ∙ h

  if_changed : (n a : ℕ) (f : SlotRow → SlotRow) (m : MsgRow) (b : Bool) → (m.id == n) ≡ b → m.id ≡ id → ((n == id) && (a == slot)) ≡ false → Rests m → IsThere (if b then Some (with_slot a f m) else Some m)
  if_changed n a f m true e own d h = other_slot m a f (apart_slot n a (sym (eqb-true m.id n e) ∙ own) d) h
  if_changed n a f m false e own d h = h

  if_moved : (n : ℕ) (to : List ℕ) (at : ℕ) (m : MsgRow) (b : Bool) → (b ≡ true → is_finished m ≡ true) → Rests m → IsThere (if b then Some (moved_to to at m) else Some m)
  if_moved n to at m true k h = finished_closed m slot (k refl) (its_open m h)
  if_moved n to at m false k h = h

  if_purged : (m : MsgRow) (b : Bool) → (b ≡ true → is_finished m ≡ true) → Rests m → IsThere (if b then None else Some m)
  if_purged m true k h = finished_closed m slot (k refl) (its_open m h)
  if_purged m false k h = h

  left_there : (o : Option MsgRow) (c : Change) → ((m : MsgRow) → o ≡ Some m → Rests m → IsThere (left_by m c)) → IsThere o → IsThere (option_and_then (λ m. left_by m c) o)
  left_there None c k h = absurd h
  left_there (Some m) c k h = k m refl h

  named : (t : Tables) (n : ℕ) (test : MsgRow → Bool) (m : MsgRow) → option_map_or test (find_message t n) false ≡ true → find_message t id ≡ Some m → (m.id == n) ≡ true → test m ≡ true
  named t n test m o f e =
      let same : find_message t n ≡ Some m = ap (find_message t) (sym (eqb-true m.id n e)) ∙ ap (find_message t) (id_found t id m f) ∙ f in
      sym (ap (λ y. option_map_or test y false) same) ∙ o

  slot_there : (t : Tables) (n a : ℕ) (f : SlotRow → SlotRow) → ((n == id) && (a == slot)) ≡ false → (m : MsgRow) → find_message t id ≡ Some m → Rests m → IsThere (if_it m n (Some (with_slot a f m)))
  slot_there t n a f d m e h = if_changed n a f m (m.id == n) refl (id_found t id m e) d h

  one_there : (t : Tables) (c : Change) → is_proper t c ≡ true → IsSingle t id → puts_in id c ≡ false → is_of_slot id slot c ≡ false → touches c ≡ false → IsThere (find_message t id) → IsThere (find_message (after_change t c) id)
  one_there t (changes.Enqueued row) p s none other still h =
      let q = and_parts (is_none (find_message t row.id)) (not row.moved) p in
      subst IsThere (sym (finds_put_in t row id q.0 ∙ ap (λ b. if b then Some row else find_message t id) none)) h
  one_there t (changes.DropQueue name) p s none other still h = absurd (true≢false still)
  one_there t (changes.DropTable name) p s none other still h = subst IsThere (sym (finds_without_table t name id)) h
  one_there t (changes.Retried n a retries until at) p s none other still h =
      subst IsThere (sym (finds_left t (changes.Retried n a retries until at) id s refl)) (left_there (find_message t id) (changes.Retried n a retries until at) (slot_there t n a (retried retries until at) other) h)
  one_there t (changes.Ready n a at) p s none other still h =
      subst IsThere (sym (finds_left t (changes.Ready n a at) id s refl)) (left_there (find_message t id) (changes.Ready n a at) (slot_there t n a (in_state states.Ready at) other) h)
  one_there t (changes.Done n a at) p s none other still h =
      subst IsThere (sym (finds_left t (changes.Done n a at) id s refl)) (left_there (find_message t id) (changes.Done n a at) (slot_there t n a (in_state states.Processed at) other) h)
  one_there t (changes.Expired n a at) p s none other still h =
      subst IsThere (sym (finds_left t (changes.Expired n a at) id s refl)) (left_there (find_message t id) (changes.Expired n a at) (slot_there t n a (in_state states.Expired at) other) h)
  one_there t (changes.Dropped n a at) p s none other still h =
      subst IsThere (sym (finds_left t (changes.Dropped n a at) id s refl)) (left_there (find_message t id) (changes.Dropped n a at) (slot_there t n a (in_state states.Dropped at) other) h)
  one_there t (changes.Moved n to at) p s none other still h =
      let q = and_parts (option_map_or may_move (find_message t n) false) (is_some (find_queue t to)) p in
      subst IsThere (sym (finds_left t (changes.Moved n to at) id s (or_right (not (n == id)) (is_some (find_queue t to)) q.1)))
      (left_there (find_message t id) (changes.Moved n to at) (λ m e k. if_moved n to at m (m.id == n) (λ b. (and_parts (not m.moved) (is_finished m) (named t n may_move m q.0 e b)).1) k) h)
  one_there t (changes.Purged n) p s none other still h =
      subst IsThere (sym (finds_left t (changes.Purged n) id s refl)) (left_there (find_message t id) (changes.Purged n) (λ m e k. if_purged m (m.id == n) (λ b. named t n is_finished m p e b) k) h)
  one_there t _ p s none other still h = h

  puts_new_if_proper : (t : Tables) (c : Change) → is_proper t c ≡ true → puts_new t c ≡ true
  puts_new_if_proper t (changes.Enqueued row) p = (and_parts (is_none (find_message t row.id)) (not row.moved) p).0
  puts_new_if_proper t (changes.PutTable row) p = refl
  puts_new_if_proper t _ p = refl

  all_there : (cs : List Change) (t : Tables) → are_proper t cs ≡ true → IsSingle t id → list_any (puts_in id) cs ≡ false → list_any (is_of_slot id slot) cs ≡ false → list_any touches cs ≡ false → IsThere (find_message t id) → IsThere (find_message (after_all t cs) id)
  all_there [] t p s none other still h = h
  all_there (c ∷ cs) t p s none other still h =
      let q = proper_parts t c cs p in
      let a = or_parts (puts_in id c) (list_any (puts_in id) cs) none in
      let b = or_parts (is_of_slot id slot c) (list_any (is_of_slot id slot) cs) other in
      let d = or_parts (touches c) (list_any touches cs) still in
      all_there cs (after_change t c) q.1 (stays_single t c id s (new_may_be_put id t c (puts_new_if_proper t c q.0))) a.1 b.1 d.1 (one_there t c q.0 s a.0 b.0 d.0 h)

  by_found : (o : Option MsgRow) → IsThere o → (m : MsgRow) × (o ≡ Some m) × Rests m
  by_found None h = absurd h
  by_found (Some m) h = (m, refl, h)

-- ---- schedules

without_table_schedules : (t : Tables) (name : List ℕ) (b : Bool) → (if b then drop_table t name else t).schedules ≡ t.schedules
without_table_schedules t name true = refl
without_table_schedules t name false = refl

move_in_schedules : (t : Tables) (m : MsgRow) (to : List ℕ) (at : ℕ) (b : Bool) → (if b then move_in t m to at else t).schedules ≡ t.schedules
move_in_schedules t m to at true = refl
move_in_schedules t m to at false = refl

move_schedules : (t : Tables) (to : List ℕ) (at : ℕ) (o : Option MsgRow) → (move_some t o to at).schedules ≡ t.schedules
move_schedules t to at None = refl
move_schedules t to at (Some m) = move_in_schedules t m to at (is_some (find_queue t to))

one_schedules : (t : Tables) (c : Change) → touches c ≡ false → (after_change t c).schedules ≡ t.schedules
one_schedules t (changes.PutSchedule row) h = absurd (true≢false h)
one_schedules t (changes.DropSchedule queue to) h = absurd (true≢false h)
one_schedules t (changes.DropQueue name) h = absurd (true≢false h)
one_schedules t (changes.DropTable name) h = without_table_schedules t name (is_some (find_table t name))
one_schedules t (changes.Moved id to at) h = move_schedules t to at (find_message t id)
one_schedules t _ h = refl

all_schedules : (cs : List Change) (t : Tables) → list_any touches cs ≡ false → (after_all t cs).schedules ≡ t.schedules
all_schedules [] t h = refl
all_schedules (c ∷ cs) t h = let p = or_parts (touches c) (list_any touches cs) h in all_schedules cs (after_change t c) p.1 ∙ one_schedules t c p.0

schedules_by : (t : Tables) (moment : ℕ) (cs : List Change) (b : Bool) → (length cs == 0) ≡ b → (if b then t else after t (record { moment = moment; changes = cs })).schedules ≡ (after_all t cs).schedules
unfolding after
schedules_by t moment cs true e = ap (λ ds. (after_all t ds).schedules) (sym (empty_if cs e))
schedules_by t moment cs false e = refl

-- a commit leaves the schedules that its changes leave
pub committed_schedules : (t : Tables) (moment : ℕ) (cs : List Change) → (committed_tables t cs moment).schedules ≡ (after_all t cs).schedules
committed_schedules t moment cs = schedules_by t moment cs (length cs == 0) refl

-- ---- the slot that is being sent

pub sent_open : (t : Tables) (at : SlotRef) → IsBeingSent t at → is_open_at t at.id at.slot ≡ true
sent_open t at k = open_of t at.id at.slot k.message k.message_is (ap (λ o. option_map_or (λ s. is_open s.state) o false) k.slot_is ∙ ready_open k.slot.state k.ready)

-- it is being sent where the message and its slot are found so, and the schedule
pub sent_as : (t u : Tables) (at : SlotRef) (k : IsBeingSent t at) (m : MsgRow) (schedule : ScheduleRow) → find_message u at.id ≡ Some m → slot_of m at.slot ≡ Some k.slot → m.queue ≡ k.message.queue → find (is_schedule_of k.message.queue k.slot) u.schedules ≡ Some schedule → schedule.failures ≤ 15 → IsBeingSent u at
sent_as t u at k m schedule f g q e few = record {
  message = m;
  slot = k.slot;
  schedule = schedule;
  message_is = f;
  slot_is = g;
  ready = k.ready;
  remote = k.remote;
  schedule_is = ap (λ n. find (is_schedule_of n k.slot) u.schedules) q ∙ e;
  few = few;
}

-- behind a proper commit that does not name it, nor touches schedules
pub sent_rests : (t : Tables) (moment : ℕ) (cs : List Change) (at : SlotRef) → is_valid t ≡ true → are_proper t cs ≡ true → list_any (puts_in at.id) cs ≡ false → list_any (is_of_slot at.id at.slot) cs ≡ false → list_any touches cs ≡ false → IsBeingSent t at → IsBeingSent (committed_tables t cs moment) at
sent_rests t moment cs at v p none other still k =
    let open_row = ready_open k.slot.state k.ready in
    let end = all_there at.id at.slot k.slot k.message.queue open_row cs t p (single_if_distinct t at.id (valid_distinct t v)) none other still
    (subst (IsThere at.id at.slot k.slot k.message.queue open_row) (sym k.message_is) (record { there = k.slot_is; queue_is = refl })) in
    let x = by_found at.id at.slot k.slot k.message.queue open_row (find_message (after_all t cs) at.id) end in
    sent_as t (committed_tables t cs moment) at k x.0 k.schedule (ap (find (λ m. m.id == at.id)) (committed_messages t moment cs) ∙ x.1) x.2.there x.2.queue_is
    (ap (find (is_schedule_of k.message.queue k.slot)) (committed_schedules t moment cs ∙ all_schedules cs t still) ∙ k.schedule_is) k.few
