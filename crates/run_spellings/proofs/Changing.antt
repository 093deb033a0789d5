-- What settling, commits and rollbacks of sessions, due work and propagation commit is spellable.
use Rattle.std.proofs.Common.{◌≡◌, ◌+◌, ℕ, List, [], ◌∷◌, ◌++◌, Bool, refl, sym, subst, Option, Some, None, ◌==◌, ◌&&◌}
use Rattle.std.specs.Prelude.{flat_map, nat_lt, nat_le, not, if◌then◌else◌}
use Rattle.std.specs.List.{AllByRecursion}
use Rattle.aq_base.specs.declared.DbId.{DbId}
use Rattle.queue_rows.specs.Rows.{find_table, find_queue, find_message, slot_of}
use Rattle.queue_rows.specs.Tables.{after_change}
use Rattle.queue_rows.specs.Settling.{is_exception, is_open, is_ready, is_lost, is_handled, is_kept_by_none, exception_queue_of, settling_of, settling, settled, names_of, last_moment, message_after}
use Rattle.queue_rows.specs.Commits.{completed_in, completed_by, completed, changes_from, commit_of}
use Rattle.queue_rows.specs.Transactions.{retried_to, retry_slot, retry_in, retry_message, retry_of, rollback_of}
use Rattle.queue_rows.specs.Session.{Session}
use Rattle.queue_rows.specs.Due.{Watch, is_over, is_left, is_spent, due_change, due_slot, due_slots, due_purge, slot_numbers, due}
use Rattle.queue_rows.specs.Propagating.{recovering, confirming}
use Rattle.queue_rows.specs.declared.tables.Tables.{Tables}
use Rattle.queue_rows.specs.declared.rows.TableRow.{TableRow}
use Rattle.queue_rows.specs.declared.rows.QueueRow.{QueueRow}
use Rattle.queue_rows.specs.declared.rows.ScheduleRow.{ScheduleRow}
use Rattle.queue_rows.specs.declared.rows.MsgRow.{MsgRow}
use Rattle.queue_rows.specs.declared.rows.SlotRow.{SlotRow}
use Rattle.queue_rows.specs.declared.session.Pending.{Pending}
use Rattle.queue_rows.specs.declared.session.Pending.TheVariants.{Add, Remove}
use Rattle.queue_rows.specs.declared.change.Change.{Change}
use Rattle.queue_rows.specs.declared.change.Change.TheVariants as changes
use Rattle.queue_rows.specs.declared.history.SlotRef.{SlotRef}
use Rattle.redo_records.specs.Spellable.{HasFullData, IsFull, IsSpellable}
use Rattle.run_spellings.specs.SpellableRun.{AreFullAdditions, AreSpellable}
use Rattle.run_spellings.proofs.Each.{each_append, each_flat, each_if}

pub spells_if : (b : Bool) (xs ys : List Change) → AreSpellable xs → AreSpellable ys → AreSpellable (if b then xs else ys)
spells_if b xs ys h k = each_if IsSpellable b xs ys h k

-- ---- settling

settling_spells : (t : Tables) (at : ℕ) (o : Option MsgRow) → AreSpellable (settling_of t at o)
settling_spells t at None = tt
settling_spells t at (Some m) =
    let moves : AreSpellable (changes.Moved m.id (exception_queue_of t m) at ∷ []) = (tt, tt) in
    let goes : AreSpellable (changes.Purged m.id ∷ []) = (tt, tt) in
    spells_if (is_lost m) (changes.Moved m.id (exception_queue_of t m) at ∷ []) (if is_handled m && is_kept_by_none t m then changes.Purged m.id ∷ [] else []) moves
    (spells_if (is_handled m && is_kept_by_none t m) (changes.Purged m.id ∷ []) [] goes tt)

pub settled_spells : (t : Tables) (cs : List Change) → AreSpellable cs → AreSpellable (settled t cs)
settled_spells t cs h =
    each_append IsSpellable cs (flat_map (settling t cs) (names_of cs)) h (each_flat IsSpellable (settling t cs) (λ id. settling_spells t (last_moment cs id) (message_after t cs id)) (names_of cs))

-- ---- commits of sessions

-- its commit completes a message, and leaves what it says
facts_in : (o : Option TableRow) (queue : QueueRow) (group moment : ℕ) (m : MsgRow) → (completed_in o queue group moment m).facts ≡ m.facts
facts_in None queue group moment m = refl
facts_in (Some table) queue group moment m = refl

facts_by : (t : Tables) (o : Option QueueRow) (group moment : ℕ) (m : MsgRow) → (completed_by t o group moment m).facts ≡ m.facts
facts_by t None group moment m = refl
facts_by t (Some queue) group moment m = facts_in (find_table t queue.table) queue group moment m

-- who says the same has full data too
full_as : (m n : MsgRow) → n.facts ≡ m.facts → HasFullData m → HasFullData n
full_as m n e h = record { cells = subst (λ f. AllByRecursion IsFull f.cells.cells) (sym e) h.cells; props = subst (λ f. AllByRecursion (λ p. IsFull p.value) f.props) (sym e) h.props }

completed_full : (t : Tables) (group moment : ℕ) (m : MsgRow) → HasFullData m → HasFullData (completed t group moment m)
completed_full t group moment m h = full_as m (completed t group moment m) (facts_by t (find_queue t m.queue) group moment m) h

from_spells : (t : Tables) (group moment : ℕ) (pending : List Pending) → AreFullAdditions pending → AreSpellable (changes_from t group moment pending)
from_spells t group moment [] h = tt
from_spells t group moment (Add m ∷ more) h = (completed_full t group moment m h.0, from_spells (after_change t (changes.Enqueued (completed t group moment m))) group moment more h.1)
from_spells t group moment (Remove id slot ∷ more) h = (tt, from_spells (after_change t (changes.Done id slot moment)) group moment more h.1)

pub commit_spells : (t : Tables) (moment : ℕ) (pending : List Pending) → AreFullAdditions pending → AreSpellable (commit_of t moment pending)
commit_spells t moment pending h = settled_spells t (changes_from t t.transaction moment pending) (from_spells t t.transaction moment pending h)

-- ---- rollbacks

retried_spells : (queue : QueueRow) (retries moment id slot : ℕ) → AreSpellable (retried_to queue retries moment id slot)
retried_spells queue retries moment id slot =
    let gone : AreSpellable (changes.Expired id slot moment ∷ []) = (tt, tt) in
    (tt, spells_if (nat_lt queue.max_retries retries) (changes.Expired id slot moment ∷ []) [] gone tt)

slot_spells : (queue : QueueRow) (o : Option SlotRow) (moment id slot : ℕ) → AreSpellable (retry_slot queue o moment id slot)
slot_spells queue None moment id slot = tt
slot_spells queue (Some s) moment id slot = retried_spells queue (s.retries + 1) moment id slot

queue_spells : (o : Option QueueRow) (m : MsgRow) (moment id slot : ℕ) → AreSpellable (retry_in o m moment id slot)
queue_spells None m moment id slot = tt
queue_spells (Some queue) m moment id slot = spells_if (is_exception queue.kind) [] (retry_slot queue (slot_of m slot) moment id slot) tt (slot_spells queue (slot_of m slot) moment id slot)

message_spells : (t : Tables) (o : Option MsgRow) (moment id slot : ℕ) → AreSpellable (retry_message t o moment id slot)
message_spells t None moment id slot = tt
message_spells t (Some m) moment id slot = queue_spells (find_queue t m.queue) m moment id slot

retry_spells : (t : Tables) (moment : ℕ) (p : Pending) → AreSpellable (retry_of t moment p)
retry_spells t moment (Add m) = tt
retry_spells t moment (Remove id slot) = message_spells t (find_message t id) moment id slot

pub rollback_spells : (t : Tables) (moment : ℕ) (pending : List Pending) → AreSpellable (rollback_of t moment pending)
rollback_spells t moment pending = settled_spells t (flat_map (retry_of t moment) pending) (each_flat IsSpellable (retry_of t moment) (retry_spells t moment) pending)

-- ---- due work

change_spells : (id slot : ℕ) (s : SlotRow) (moment : ℕ) → AreSpellable (due_change id slot s moment)
change_spells id slot s moment =
    let over : AreSpellable (changes.Expired id slot moment ∷ []) = (tt, tt) in
    let ready : AreSpellable (changes.Ready id slot moment ∷ []) = (tt, tt) in
    let waits = is_open s.state && not (is_ready s.state) && nat_le s.at moment in
    spells_if (is_open s.state && is_over s moment) (changes.Expired id slot moment ∷ []) (if waits then changes.Ready id slot moment ∷ [] else []) over
    (spells_if waits (changes.Ready id slot moment ∷ []) [] ready tt)

due_slot_spells : (w : Watch) (m : MsgRow) (slot : ℕ) (o : Option SlotRow) → AreSpellable (due_slot w m slot o)
due_slot_spells w m slot None = tt
due_slot_spells w m slot (Some s) = spells_if (is_left w m slot) [] (due_change m.id slot s w.moment) tt (change_spells m.id slot s w.moment)

due_slots_spell : (w : Watch) (m : MsgRow) → AreSpellable (due_slots w m)
due_slots_spell w m = each_flat IsSpellable (λ slot. due_slot w m slot (slot_of m slot)) (λ slot. due_slot_spells w m slot (slot_of m slot)) (slot_numbers m)

purge_spells : (w : Watch) (m : MsgRow) → AreSpellable (due_purge w m)
purge_spells w m = let goes : AreSpellable (changes.Purged m.id ∷ []) = (tt, tt) in spells_if (is_spent w m) (changes.Purged m.id ∷ []) [] goes tt

pub due_spells : (t : Tables) (sessions : List Session) (db : DbId) (sent : Option SlotRef) (moment : ℕ) → AreSpellable (due t sessions db sent moment)
unfolding due
due_spells t sessions db sent moment =
    let w : Watch = record { tables = t; sessions = sessions; db = db; sent = sent; moment = moment } in
    settled_spells t (flat_map (due_slots w) t.messages ++ flat_map (due_purge w) t.messages)
    (each_append IsSpellable (flat_map (due_slots w) t.messages) (flat_map (due_purge w) t.messages) (each_flat IsSpellable (due_slots w) (due_slots_spell w) t.messages) (each_flat IsSpellable (due_purge w) (purge_spells w) t.messages))

-- ---- confirmations

recovering_spells : (schedule : ScheduleRow) → AreSpellable (recovering schedule)
recovering_spells schedule =
    let put : AreSpellable (changes.PutSchedule (record schedule { failures = 0 }) ∷ []) = (tt, tt) in
    spells_if (schedule.failures == 0) [] (changes.PutSchedule (record schedule { failures = 0 }) ∷ []) tt put

pub confirming_spells : (t : Tables) (at : SlotRef) (schedule : ScheduleRow) (moment : ℕ) → AreSpellable (confirming t at schedule moment)
unfolding confirming
confirming_spells t at schedule moment = settled_spells t (changes.Done at.id at.slot moment ∷ recovering schedule) (tt, recovering_spells schedule)
