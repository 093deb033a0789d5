-- Each change of due work, and of what is settled, moves a message to a queue that is there: so settling tells all of it.
use Rattle.std.proofs.Common.{◌≡◌, ℕ, List, [], ◌∷◌, Bool, true, false, not, refl, sym, ap, ◌∙◌, subst, Option, Some, None, ◌==◌, ◌&&◌}
use Rattle.std.specs.Prelude.{flat_map, option_map, is_some, if◌then◌else◌}
use Rattle.std.specs.List.{list_any, list_all}
use Rattle.std.proofs.lemmas.Bool.{and_parts, and_from, or_right, not-true, false≢true, true≢false}
use Rattle.std.proofs.lemmas.Option.{none-some}
use Rattle.queue_rows.specs.Rows.{find_message, find_queue, with_slot}
use Rattle.queue_rows.specs.Tables.{after_change, after_all, in_state, retried, moved_to}
use Rattle.queue_rows.specs.Settling.{is_open, is_expired, left_by, if_it, is_lost, is_handled, is_kept_by_none, exception_queue_of, settling_of, settling, settled, message_after, last_moment, names_of}
use Rattle.queue_rows.specs.Valid.{is_valid}
use Rattle.queue_rows.specs.Due.{Watch, due_slot, due_slots, is_spent, due_purge, watched}
use Rattle.queue_rows.specs.Rows.{slot_of}
use Rattle.queue_rows.specs.declared.tables.Tables.{Tables}
use Rattle.queue_rows.specs.declared.rows.MsgRow.{MsgRow}
use Rattle.queue_rows.specs.declared.rows.QueueRow.{QueueRow}
use Rattle.queue_rows.specs.declared.rows.SlotState.TheVariants as states
use Rattle.queue_rows.specs.declared.change.Change.{Change}
use Rattle.queue_rows.specs.declared.change.Change.TheVariants as changes
use Rattle.row_laws.specs.RowLaws.{leaves_to_settling, all_leave_to_settling}
use Rattle.row_laws.proofs.Messages.{IsSingle, may_put, stays_single}
use Rattle.row_laws.proofs.Queues.{is_naming, queue_seen}
use Rattle.valid_laws.proofs.Runs.{run, left_step}
use Rattle.valid_laws.proofs.Doing.{Kind, nothing, expires, readies, changes_by, kind_in, due_slot_is, all-append, all-flat}
use Rattle.valid_laws.proofs.Ending.{undone, naming_watched}
use Rattle.valid_laws.proofs.Exceptions.{home_of, exit_of}

-- ---- a message that was never moved stands where it stood

abbrev pub StandsStill : List ℕ → Option MsgRow → Type 0
StandsStill queue o = (r : MsgRow) → o ≡ Some r → r.moved ≡ false → r.queue ≡ queue

pub still_some : (queue : List ℕ) (m : MsgRow) → (m.moved ≡ false → m.queue ≡ queue) → StandsStill queue (Some m)
still_some queue m h r e = let same : m ≡ r = cc in subst (λ x. x.moved ≡ false → x.queue ≡ queue) same h

still_none : (queue : List ℕ) → StandsStill queue None
still_none queue r e = absurd (none-some r e)

still_if : (queue : List ℕ) (m : MsgRow) (named : ℕ) (left : Option MsgRow) (b : Bool) → (m.id == named) ≡ b → StandsStill queue left → StandsStill queue (Some m) → StandsStill queue (if_it m named left)
still_if queue m named left true e h k = rw e h
still_if queue m named left false e h k = rw e k

left_still : (queue : List ℕ) (m : MsgRow) (c : Change) → StandsStill queue (Some m) → StandsStill queue (left_by m c)
left_still queue m (changes.Retried named slot retries until at) h = still_if queue m named (Some (with_slot slot (retried retries until at) m)) (m.id == named) refl (still_some queue (with_slot slot (retried retries until at) m) (h m refl)) h
left_still queue m (changes.Ready named slot at) h = still_if queue m named (Some (with_slot slot (in_state states.Ready at) m)) (m.id == named) refl (still_some queue (with_slot slot (in_state states.Ready at) m) (h m refl)) h
left_still queue m (changes.Done named slot at) h = still_if queue m named (Some (with_slot slot (in_state states.Processed at) m)) (m.id == named) refl (still_some queue (with_slot slot (in_state states.Processed at) m) (h m refl)) h
left_still queue m (changes.Expired named slot at) h = still_if queue m named (Some (with_slot slot (in_state states.Expired at) m)) (m.id == named) refl (still_some queue (with_slot slot (in_state states.Expired at) m) (h m refl)) h
left_still queue m (changes.Dropped named slot at) h = still_if queue m named (Some (with_slot slot (in_state states.Dropped at) m)) (m.id == named) refl (still_some queue (with_slot slot (in_state states.Dropped at) m) (h m refl)) h
left_still queue m (changes.Moved named to at) h = still_if queue m named (Some (moved_to to at m)) (m.id == named) refl (still_some queue (moved_to to at m) (λ u. absurd (true≢false u))) h
left_still queue m (changes.Purged named) h = still_if queue m named None (m.id == named) refl (still_none queue) h
left_still queue m _ h = h

still_step : (queue : List ℕ) (o : Option MsgRow) (c : Change) → StandsStill queue o → StandsStill queue (left_step o c)
still_step queue None c h = still_none queue
still_step queue (Some m) c h = left_still queue m c h

pub still_run : (queue : List ℕ) (cs : List Change) (o : Option MsgRow) → StandsStill queue o → StandsStill queue (run o cs)
still_run queue [] o h = h
still_run queue (c ∷ cs) o h = still_run queue cs (left_step o c) (still_step queue o c h)

pub run_none : (cs : List Change) → run None cs ≡ None
run_none [] = refl
run_none (c ∷ cs) = run_none cs

-- ---- changes that move to queues of these tables

abbrev pub goes : Tables → Change → Bool
goes t (changes.Moved id queue at) = is_some (find_queue t queue)
goes t _ = true

exit_by : (t : Tables) (v : is_valid t ≡ true) (cs : List Change) (id : ℕ) (o : Option MsgRow) → find_message t id ≡ o → (r : MsgRow) → run o cs ≡ Some r → r.moved ≡ false → is_some (find_queue t (exception_queue_of t r)) ≡ true
exit_by t v cs id None f r e u = absurd (none-some r (sym (run_none cs) ∙ e))
exit_by t v cs id (Some m) f r e u =
    let same : r.queue ≡ m.queue = still_run m.queue cs (Some m) (still_some m.queue m (λ _. refl)) r e u in
    ap is_some (exit_of t v m (home_of t id m v f) r same).to_is

pub lost_unmoved : (m : MsgRow) → is_lost m ≡ true → m.moved ≡ false
lost_unmoved m h =
    not-true m.moved (and_parts (not m.moved) (not (list_any (λ s. is_open s.state) m.slots)) (and_parts (not m.moved && not (list_any (λ s. is_open s.state) m.slots)) (list_any (λ s. is_expired s.state) m.slots) h).0).0

settle_by : (t : Tables) (id : ℕ) (queue : List ℕ) (at : ℕ) (b c : Bool) → (b ≡ true → is_some (find_queue t queue) ≡ true) → list_all (goes t) (if b then changes.Moved id queue at ∷ [] else (if c then changes.Purged id ∷ [] else [])) ≡ true
settle_by t id queue at true c h = and_from (is_some (find_queue t queue)) true (h refl) refl
settle_by t id queue at false true h = refl
settle_by t id queue at false false h = refl

settling_goes : (t : Tables) (at : ℕ) (o : Option MsgRow) → ((r : MsgRow) → o ≡ Some r → r.moved ≡ false → is_some (find_queue t (exception_queue_of t r)) ≡ true) → list_all (goes t) (settling_of t at o) ≡ true
settling_goes t at None h = refl
settling_goes t at (Some r) h = settle_by t r.id (exception_queue_of t r) at (is_lost r) (is_handled r && is_kept_by_none t r) (λ lost. h r refl (lost_unmoved r lost))

-- what valid tables settle goes to queues that are there
pub settled_goes : (t : Tables) → is_valid t ≡ true → (cs : List Change) → list_all (goes t) cs ≡ true → list_all (goes t) (settled t cs) ≡ true
settled_goes t v cs h =
    all-append (goes t) cs (flat_map (settling t cs) (names_of cs)) h
    (all-flat (goes t) (settling t cs) (λ id. settling_goes t (last_moment cs id) (message_after t cs id) (exit_by t v cs id (find_message t id) refl)) (names_of cs))

kind_goes : (t : Tables) (k : Kind) (id slot moment : ℕ) → list_all (goes t) (changes_by k id slot moment) ≡ true
kind_goes t nothing id slot moment = refl
kind_goes t expires id slot moment = refl
kind_goes t readies id slot moment = refl

slots_go : (t : Tables) (w : Watch) (m : MsgRow) → list_all (goes t) (due_slots w m) ≡ true
slots_go t w m = all-flat (goes t) (λ slot. due_slot w m slot (slot_of m slot)) (λ slot. ap (list_all (goes t)) (due_slot_is w m slot (slot_of m slot)) ∙ kind_goes t (kind_in w m slot (slot_of m slot)) m.id slot w.moment) (Rattle.queue_rows.specs.Due.slot_numbers m)

purge_by : (t : Tables) (id : ℕ) (b : Bool) → list_all (goes t) (if b then changes.Purged id ∷ [] else []) ≡ true
purge_by t id true = refl
purge_by t id false = refl

undone_goes : (w : Watch) → list_all (goes w.tables) (undone w) ≡ true
undone_goes w = all-append (goes w.tables) (flat_map (due_slots w) w.tables.messages) (flat_map (due_purge w) w.tables.messages)
    (all-flat (goes w.tables) (due_slots w) (slots_go w.tables w) w.tables.messages) (all-flat (goes w.tables) (due_purge w) (λ m. purge_by w.tables m.id (is_spent w m)) w.tables.messages)

-- ---- so settling tells what becomes of each message

map_some : (o : Option QueueRow) → is_some (option_map (λ q. q.table) o) ≡ is_some o
map_some None = refl
map_some (Some q) = refl

queues_stay : (t : Tables) (c : Change) (name : List ℕ) → is_naming c ≡ true → is_some (find_queue (after_change t c) name) ≡ is_some (find_queue t name)
queues_stay t c name e = sym (map_some (find_queue (after_change t c) name)) ∙ ap is_some (queue_seen (λ q. q.table) (λ q n. refl) t c name e) ∙ map_some (find_queue t name)

leaves_one : (id : ℕ) (t u : Tables) (c : Change) → ((name : List ℕ) → is_some (find_queue u name) ≡ is_some (find_queue t name)) → is_naming c ≡ true → goes t c ≡ true → leaves_to_settling id u c ≡ true
leaves_one id t u (changes.Retried named slot retries until at) k e h = refl
leaves_one id t u (changes.Ready named slot at) k e h = refl
leaves_one id t u (changes.Done named slot at) k e h = refl
leaves_one id t u (changes.Expired named slot at) k e h = refl
leaves_one id t u (changes.Dropped named slot at) k e h = refl
leaves_one id t u (changes.Moved named queue at) k e h = or_right (not (named == id)) (is_some (find_queue u queue)) (k queue ∙ h)
leaves_one id t u (changes.Purged named) k e h = refl
leaves_one id t u _ k e h = absurd (false≢true e)

leaves_from : (id : ℕ) (t : Tables) (cs : List Change) (u : Tables) → ((name : List ℕ) → is_some (find_queue u name) ≡ is_some (find_queue t name)) → list_all is_naming cs ≡ true → list_all (goes t) cs ≡ true → all_leave_to_settling id u cs ≡ true
leaves_from id t [] u k e h = refl
leaves_from id t (c ∷ cs) u k e h =
    let p = and_parts (is_naming c) (list_all is_naming cs) e in
    let q = and_parts (goes t c) (list_all (goes t) cs) h in
    and_from (leaves_to_settling id u c) (all_leave_to_settling id (after_change u c) cs) (leaves_one id t u c k p.0 q.0)
    (leaves_from id t cs (after_change u c) (λ name. queues_stay u c name p.0 ∙ k name) p.1 q.1)

pub all_leave : (t : Tables) (cs : List Change) (id : ℕ) → list_all is_naming cs ≡ true → list_all (goes t) cs ≡ true → all_leave_to_settling id t cs ≡ true
all_leave t cs id e h = leaves_from id t cs t (λ name. refl) e h

pub leaves_watched : (w : Watch) → is_valid w.tables ≡ true → (id : ℕ) → all_leave_to_settling id w.tables (watched w) ≡ true
leaves_watched w v id = all_leave w.tables (watched w) id (naming_watched w) (settled_goes w.tables v (undone w) (undone_goes w))

-- ---- ids stay single

pub naming_may_put : (id : ℕ) (t : Tables) (c : Change) → is_naming c ≡ true → may_put id t c ≡ true
naming_may_put id t (changes.Enqueued row) e = absurd (false≢true e)
naming_may_put id t (changes.PutTable row) e = refl
naming_may_put id t _ e = refl

pub all_single : (cs : List Change) (t : Tables) (id : ℕ) → list_all is_naming cs ≡ true → IsSingle t id → IsSingle (after_all t cs) id
all_single [] t id h s = s
all_single (c ∷ cs) t id h s =
    let parts = and_parts (is_naming c) (list_all is_naming cs) h in all_single cs (after_change t c) id parts.1 (stays_single t c id s (naming_may_put id t c parts.0))
