-- After due work nothing is due at that moment.
use Rattle.std.proofs.Common.{◌≡◌, ℕ, suc, List, [], ◌∷◌, ◌++◌, Bool, true, false, not, length, max, refl, sym, ap, ◌∙◌, arith, Option, Some, None, ◌==◌, ◌&&◌, ◌||◌}
use Rattle.std.specs.Prelude.{find, flat_map, if◌then◌else◌}
use Rattle.std.specs.List.{list_all}
use Rattle.std.proofs.lemmas.Bool.{eqb-true, eq-eqb, and_parts, false≢true}
use Rattle.std.proofs.lemmas.Option.{none-some}
use Rattle.aq_base.specs.declared.DbId.{DbId}
use Rattle.queue_rows.specs.Rows.{find_message, find_queue, find_table, recipient_slots, slot_of}
use Rattle.queue_rows.specs.Tables.{after_all, after}
use Rattle.queue_rows.specs.Settling.{is_open, settled, message_after}
use Rattle.queue_rows.specs.Session.{Session}
use Rattle.queue_rows.specs.Valid.{is_valid, is_valid_message, is_valid_message_at, is_valid_message_in, has_right_slots, is_right_if_moved, is_right_slot_zero}
use Rattle.queue_rows.specs.Due.{Watch, due_slots, due_purge, watched, due}
use Rattle.queue_rows.specs.World.{committed_tables}
use Rattle.queue_rows.specs.declared.tables.Tables.{Tables}
use Rattle.queue_rows.specs.declared.rows.MsgRow.{MsgRow}
use Rattle.queue_rows.specs.declared.rows.QueueRow.{QueueRow}
use Rattle.queue_rows.specs.declared.rows.TableRow.{TableRow}
use Rattle.queue_rows.specs.declared.history.SlotRef.{SlotRef}
use Rattle.queue_rows.specs.declared.change.Change.{Change}
use Rattle.row_laws.proofs.Finding.{is_single, none_is, find-yes, find-no, single-yes, single-no, single_if_none}
use Rattle.row_laws.proofs.Messages.{IsSingle}
use Rattle.row_laws.proofs.Distinctly.{single_if_distinct, finds_after_all}
use Rattle.row_laws.proofs.Queues.{table_of_same, retention_same}
use Rattle.valid_laws.proofs.Parts.{and_l, and_r, valid_distinct, valid_messages, all_found}
use Rattle.valid_laws.proofs.Leaving.{all_single, leaves_watched, run_none}
use Rattle.valid_laws.proofs.Runs.{run}
use Rattle.valid_laws.proofs.Calming.{HasClosedRecipients}
use Rattle.valid_laws.proofs.Ending.{naming_watched, calm_at_end}

-- ---- what validity gives

right_slots : (t : Tables) (queue : QueueRow) (table : TableRow) (m : MsgRow) → is_valid_message_in t queue (Some table) m ≡ true → has_right_slots t table queue m ≡ true
right_slots t queue table m h = search (and_l, and_r)

if_moved : (t : Tables) (queue : QueueRow) (table : TableRow) (m : MsgRow) → has_right_slots t table queue m ≡ true → is_right_if_moved m ≡ true
if_moved t queue table m h = search (and_l, and_r) depth 9

slots_in : (t : Tables) (queue : QueueRow) (o : Option TableRow) (m : MsgRow) → is_valid_message_in t queue o m ≡ true → is_right_if_moved m ≡ true
slots_in t queue None m h = absurd (false≢true h)
slots_in t queue (Some table) m h = if_moved t queue table m (right_slots t queue table m h)

slots_at : (t : Tables) (o : Option QueueRow) (m : MsgRow) → is_valid_message_at t o m ≡ true → is_right_if_moved m ≡ true
slots_at t None m h = absurd (false≢true h)
slots_at t (Some queue) m h = slots_in t queue (find_table t queue.table) m h

closed_by : (m : MsgRow) (b : Bool) → m.moved ≡ b → (not b || (list_all (λ s. not (is_open s.state)) (recipient_slots m) && is_right_slot_zero (slot_of m 0))) ≡ true → HasClosedRecipients m
closed_by m true e h = λ u. (and_parts (list_all (λ s. not (is_open s.state)) (recipient_slots m)) (is_right_slot_zero (slot_of m 0)) h).0
closed_by m false e h = λ u. absurd (false≢true (sym e ∙ u))

pub valid_closed : (t : Tables) (id : ℕ) (m : MsgRow) → is_valid t ≡ true → find_message t id ≡ Some m → HasClosedRecipients m
valid_closed t id m v e = closed_by m m.moved refl (slots_at t (find_queue t m.queue) m (all_found (is_valid_message t) (λ r. r.id == id) t.messages m (valid_messages t v) e))

-- ---- lists of messages

module _ (F : MsgRow → List Change) where
  tail_found : (x : MsgRow) (xs : List MsgRow) (id : ℕ) (r : MsgRow) (b : Bool) → (x.id == id) ≡ b → is_single (λ m. m.id == id) (x ∷ xs) ≡ true → find (λ m. m.id == id) xs ≡ Some r → find (λ m. m.id == id) (x ∷ xs) ≡ Some r
  tail_found x xs id r true e s h = absurd (none-some r (sym (none_is (find (λ m. m.id == id) xs) (sym (single-yes (λ m. m.id == id) x xs e) ∙ s)) ∙ h))
  tail_found x xs id r false e s h = find-no (λ m. m.id == id) x xs e ∙ h

  tail_single : (x : MsgRow) (xs : List MsgRow) (id : ℕ) (b : Bool) → (x.id == id) ≡ b → is_single (λ m. m.id == id) (x ∷ xs) ≡ true → is_single (λ m. m.id == id) xs ≡ true
  tail_single x xs id true e s = single_if_none (λ m. m.id == id) xs (none_is (find (λ m. m.id == id) xs) (sym (single-yes (λ m. m.id == id) x xs e) ∙ s))
  tail_single x xs id false e s = sym (single-no (λ m. m.id == id) x xs e) ∙ s

  pub nothing_in : (ms : List MsgRow) → ((id : ℕ) → is_single (λ m. m.id == id) ms ≡ true) → ((id : ℕ) (r : MsgRow) → find (λ m. m.id == id) ms ≡ Some r → F r ≡ []) → flat_map F ms ≡ []
  nothing_in [] s h = refl
  nothing_in (x ∷ xs) s h =
      ap (λ cs. cs ++ flat_map F xs) (h x.id x (find-yes (λ m. m.id == x.id) x xs (eq-eqb x.id x.id refl)))
      ∙ nothing_in xs (λ id. tail_single x xs id (x.id == id) refl (s id)) (λ id r e. h id r (tail_found x xs id r (x.id == id) refl (s id) e))

-- ---- one database

module _ (w : Watch) (valid : is_valid w.tables ≡ true) (latest : ℕ) where
  abbrev left_tables : Tables
  left_tables = record (after_all w.tables (watched w)) { latest = latest }

  row_calm_by : (id : ℕ) (r : MsgRow) (o : Option MsgRow) → find_message w.tables id ≡ o → message_after w.tables (watched w) id ≡ Some r
      → (due_slots (record w { tables = record (after_all w.tables (watched w)) { latest = latest } }) r ≡ []) × (due_purge (record w { tables = record (after_all w.tables (watched w)) { latest = latest } }) r ≡ [])
  row_calm_by id r None e h = absurd (none-some r (sym (ap (λ o. run o (watched w)) e ∙ run_none (watched w)) ∙ h))
  row_calm_by id r (Some m) e h =
      let n = naming_watched w in
      let c = calm_at_end w (valid_distinct w.tables valid) id m e (record (after_all w.tables (watched w)) { latest = latest })
      (λ name. table_of_same (watched w) w.tables name n) (λ x. retention_same (watched w) w.tables x n) (valid_closed w.tables id m valid e) r h in
      (c.slots, c.purge)

  row_calm : (id : ℕ) (r : MsgRow) → find_message (after_all w.tables (watched w)) id ≡ Some r
      → (due_slots (record w { tables = record (after_all w.tables (watched w)) { latest = latest } }) r ≡ []) × (due_purge (record w { tables = record (after_all w.tables (watched w)) { latest = latest } }) r ≡ [])
  row_calm id r h = row_calm_by id r (find_message w.tables id) refl (sym (finds_after_all w.tables (watched w) id (valid_distinct w.tables valid) (leaves_watched w valid id)) ∙ h)

  single_left : (id : ℕ) → IsSingle (after_all w.tables (watched w)) id
  single_left id = all_single (watched w) w.tables id (naming_watched w) (single_if_distinct w.tables id (valid_distinct w.tables valid))

  pub nothing_watched : watched (record w { tables = record (after_all w.tables (watched w)) { latest = latest } }) ≡ []
  nothing_watched =
      let v = record w { tables = record (after_all w.tables (watched w)) { latest = latest } } in
      let ms = (after_all w.tables (watched w)).messages in
      let a = nothing_in (due_slots v) ms single_left (λ id r e. (row_calm id r e).0) in
      let b = nothing_in (due_purge v) ms single_left (λ id r e. (row_calm id r e).1) in
      ap (λ cs. settled v.tables (cs ++ flat_map (due_purge v) ms)) a ∙ ap (λ cs. settled v.tables ([] ++ cs)) b

pub nothing_due : (t : Tables) (sessions : List Session) (db : DbId) (sent : Option SlotRef) (moment : ℕ) → is_valid t ≡ true
    → due (after t (record { moment = moment; changes = due t sessions db sent moment })) sessions db sent moment ≡ []
unfolding due after
nothing_due t sessions db sent moment v =
    let w : Watch = record { tables = t; sessions = sessions; db = db; sent = sent; moment = moment } in
    nothing_watched w v (max (after_all t (watched w)).latest moment)

empty_if : (cs : List Change) → (length cs == 0) ≡ true → cs ≡ []
empty_if [] e = refl
empty_if (c ∷ cs) e = absurd (let no : suc (length cs) ≡ 0 = eqb-true (length (c ∷ cs)) 0 e in omega arith)

committed_by : (t : Tables) (sessions : List Session) (db : DbId) (sent : Option SlotRef) (moment : ℕ) (cs : List Change) (b : Bool) → cs ≡ due t sessions db sent moment → (length cs == 0) ≡ b → is_valid t ≡ true
    → due (if b then t else after t (record { moment = moment; changes = cs })) sessions db sent moment ≡ []
committed_by t sessions db sent moment cs true e h v = sym e ∙ empty_if cs h
committed_by t sessions db sent moment cs false e h v = ap (λ ds. due (after t (record { moment = moment; changes = ds })) sessions db sent moment) e ∙ nothing_due t sessions db sent moment v

pub nothing_after : (t : Tables) (sessions : List Session) (db : DbId) (sent : Option SlotRef) (moment : ℕ) → is_valid t ≡ true
    → due (committed_tables t (due t sessions db sent moment) moment) sessions db sent moment ≡ []
nothing_after t sessions db sent moment v = committed_by t sessions db sent moment (due t sessions db sent moment) (length (due t sessions db sent moment) == 0) refl refl v
