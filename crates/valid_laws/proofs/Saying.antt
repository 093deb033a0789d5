-- What each kind of commit says nothing of: tests that none of its changes passes.
use Rattle.std.proofs.Common.{◌≡◌, ◌+◌, ℕ, List, [], ◌∷◌, Bool, true, false, refl, ap, ◌∙◌, Option, Some, None, ◌==◌}
use Rattle.std.specs.Prelude.{flat_map, nat_lt, if◌then◌else◌}
use Rattle.std.specs.List.{list_any}
use Rattle.std.proofs.lemmas.Bool.{or_parts, or_from}
use Rattle.queue_rows.specs.Rows.{find_message, find_queue, find_table, slot_of}
use Rattle.queue_rows.specs.Settling.{is_exception, settling, settled, names_of}
use Rattle.queue_rows.specs.Commits.{completed, completed_by, completed_in}
use Rattle.queue_rows.specs.Transactions.{rollback_of, retry_of, retry_message, retry_in, retry_slot, retry_until, expiry_of}
use Rattle.queue_rows.specs.Due.{Watch, slot_numbers, due_slot, due_slots, due_purge, is_spent}
use Rattle.queue_rows.specs.Propagating.{confirming, recovering}
use Rattle.queue_rows.specs.declared.tables.Tables.{Tables}
use Rattle.queue_rows.specs.declared.rows.TableRow.{TableRow}
use Rattle.queue_rows.specs.declared.rows.QueueRow.{QueueRow}
use Rattle.queue_rows.specs.declared.rows.MsgRow.{MsgRow}
use Rattle.queue_rows.specs.declared.rows.SlotRow.{SlotRow}
use Rattle.queue_rows.specs.declared.rows.ScheduleRow.{ScheduleRow}
use Rattle.queue_rows.specs.declared.session.Pending.{Pending}
use Rattle.queue_rows.specs.declared.session.Pending.TheVariants.{Add, Remove}
use Rattle.queue_rows.specs.declared.change.Change.{Change}
use Rattle.queue_rows.specs.declared.change.Change.TheVariants as changes
use Rattle.queue_rows.specs.declared.history.SlotRef.{SlotRef}
use Rattle.valid_laws.proofs.Doing.{Kind, nothing, expires, readies, changes_by, kind_in, due_slot_is}
use Rattle.valid_laws.proofs.Ending.{undone}
use Rattle.valid_laws.proofs.Framing.{any_append, any_flat, settled_none}

-- ---- a commit

-- an addition is put in with its id
completed_id_in : (o : Option TableRow) (queue : QueueRow) (group moment : ℕ) (m : MsgRow) → (completed_in o queue group moment m).id ≡ m.id
completed_id_in None queue group moment m = refl
completed_id_in (Some table) queue group moment m = refl

completed_id_by : (t : Tables) (o : Option QueueRow) (group moment : ℕ) (m : MsgRow) → (completed_by t o group moment m).id ≡ m.id
completed_id_by t None group moment m = refl
completed_id_by t (Some queue) group moment m = completed_id_in (find_table t queue.table) queue group moment m

pub completed_id : (t : Tables) (group moment : ℕ) (m : MsgRow) → (completed t group moment m).id ≡ m.id
completed_id t group moment m = completed_id_by t (find_queue t m.queue) group moment m

-- ---- a rollback

pub any_flat_if : {X Y : Type 0} (q : X → Bool) (p : Y → Bool) (F : X → List Y) → ((x : X) → q x ≡ false → list_any p (F x) ≡ false) → (xs : List X) → list_any q xs ≡ false → list_any p (flat_map F xs) ≡ false
any_flat_if q p F h [] e = refl
any_flat_if q p F h (x ∷ xs) e = let r = or_parts (q x) (list_any q xs) e in any_append p (F x) (flat_map F xs) (h x r.0) (any_flat_if q p F h xs r.1)

module _ (p : Change → Bool) (t : Tables) (moment id slot : ℕ) (retry : (retries : ℕ) (until : Option ℕ) (at : ℕ) → p (changes.Retried id slot retries until at) ≡ false) (expire : (at : ℕ) → p (changes.Expired id slot at) ≡ false) where
  retry_slot_none : (queue : QueueRow) (o : Option SlotRow) → list_any p (retry_slot queue o moment id slot) ≡ false
  retry_slot_none queue None = refl
  retry_slot_none queue (Some s) =
      or_from (p (changes.Retried id slot (s.retries + 1) (retry_until queue (s.retries + 1) moment) moment)) (list_any p (expiry_of queue (s.retries + 1) moment id slot)) (retry (s.retries + 1) (retry_until queue (s.retries + 1) moment) moment)
      (by (nat_lt queue.max_retries (s.retries + 1)))
    where
      by : (b : Bool) → list_any p (if b then changes.Expired id slot moment ∷ [] else []) ≡ false
      by true = or_from (p (changes.Expired id slot moment)) false (expire moment) refl
      by false = refl

  retry_in_none : (m : MsgRow) (o : Option QueueRow) → list_any p (retry_in o m moment id slot) ≡ false
  retry_in_none m None = refl
  retry_in_none m (Some queue) = by (is_exception queue.kind)
    where
      by : (b : Bool) → list_any p (if b then [] else retry_slot queue (slot_of m slot) moment id slot) ≡ false
      by true = refl
      by false = retry_slot_none queue (slot_of m slot)

  pub retry_message_none : (o : Option MsgRow) → list_any p (retry_message t o moment id slot) ≡ false
  retry_message_none None = refl
  retry_message_none (Some m) = retry_in_none m (find_queue t m.queue)

retry_puts : (t : Tables) (moment : ℕ) (q : Change → Bool) → ((id slot retries : ℕ) (until : Option ℕ) (at : ℕ) → q (changes.Retried id slot retries until at) ≡ false) → ((id slot at : ℕ) → q (changes.Expired id slot at) ≡ false) → (p : Pending)
    → list_any q (retry_of t moment p) ≡ false
retry_puts t moment q h k (Add m) = refl
retry_puts t moment q h k (Remove id slot) = retry_message_none q t moment id slot (h id slot) (k id slot) (find_message t id)

pub rollback_none : (t : Tables) (moment : ℕ) (pending : List Pending) (q : Change → Bool) → ((id slot retries : ℕ) (until : Option ℕ) (at : ℕ) → q (changes.Retried id slot retries until at) ≡ false) → ((id slot at : ℕ) → q (changes.Expired id slot at) ≡ false)
    → ((id : ℕ) (queue : List ℕ) (at : ℕ) → q (changes.Moved id queue at) ≡ false) → ((id : ℕ) → q (changes.Purged id) ≡ false) → list_any q (rollback_of t moment pending) ≡ false
rollback_none t moment pending q h k l o =
    let cs = flat_map (retry_of t moment) pending in any_append q cs (flat_map (settling t cs) (names_of cs)) (any_flat q (retry_of t moment) (retry_puts t moment q h k) pending) (settled_none q l o t cs)

-- ---- due work

kind_puts : (q : Change → Bool) → ((id slot at : ℕ) → q (changes.Expired id slot at) ≡ false) → ((id slot at : ℕ) → q (changes.Ready id slot at) ≡ false) → (kind : Kind) (named a moment : ℕ) → list_any q (changes_by kind named a moment) ≡ false
kind_puts q h k nothing named a moment = refl
kind_puts q h k expires named a moment = or_from (q (changes.Expired named a moment)) false (h named a moment) refl
kind_puts q h k readies named a moment = or_from (q (changes.Ready named a moment)) false (k named a moment) refl

purge_none : (q : Change → Bool) → ((id : ℕ) → q (changes.Purged id) ≡ false) → (w : Watch) (m : MsgRow) → list_any q (due_purge w m) ≡ false
purge_none q h w m = by (is_spent w m)
  where
    by : (b : Bool) → list_any q (if b then changes.Purged m.id ∷ [] else []) ≡ false
    by true = or_from (q (changes.Purged m.id)) false (h m.id) refl
    by false = refl

pub undone_none : (w : Watch) (q : Change → Bool) → ((m : MsgRow) → list_any q (due_slots w m) ≡ false) → ((id : ℕ) (queue : List ℕ) (at : ℕ) → q (changes.Moved id queue at) ≡ false) → ((id : ℕ) → q (changes.Purged id) ≡ false)
    → list_any q (settled w.tables (undone w)) ≡ false
undone_none w q h l o =
    any_append q (undone w) (flat_map (settling w.tables (undone w)) (names_of (undone w)))
    (any_append q (flat_map (due_slots w) w.tables.messages) (flat_map (due_purge w) w.tables.messages) (any_flat q (due_slots w) h w.tables.messages) (any_flat q (due_purge w) (purge_none q o w) w.tables.messages))
    (settled_none q l o w.tables (undone w))

pub slots_put : (w : Watch) (q : Change → Bool) → ((id slot at : ℕ) → q (changes.Expired id slot at) ≡ false) → ((id slot at : ℕ) → q (changes.Ready id slot at) ≡ false) → (m : MsgRow) → list_any q (due_slots w m) ≡ false
slots_put w q h k m = any_flat q (λ a. due_slot w m a (slot_of m a)) (λ a. ap (list_any q) (due_slot_is w m a (slot_of m a)) ∙ kind_puts q h k (kind_in w m a (slot_of m a)) m.id a w.moment) (slot_numbers m)

-- ---- a confirmation

recovering_none : (q : Change → Bool) → ((s : ScheduleRow) → q (changes.PutSchedule s) ≡ false) → (s : ScheduleRow) → list_any q (recovering s) ≡ false
recovering_none q h s = by (s.failures == 0)
  where
    by : (b : Bool) → list_any q (if b then [] else changes.PutSchedule (record s { failures = 0 }) ∷ []) ≡ false
    by true = refl
    by false = or_from (q (changes.PutSchedule (record s { failures = 0 }))) false (h (record s { failures = 0 })) refl

pub confirm_none : (t : Tables) (at : SlotRef) (s : ScheduleRow) (moment : ℕ) (q : Change → Bool) → q (changes.Done at.id at.slot moment) ≡ false → ((r : ScheduleRow) → q (changes.PutSchedule r) ≡ false) → ((id : ℕ) (queue : List ℕ) (a : ℕ) → q (changes.Moved id queue a) ≡ false)
    → ((id : ℕ) → q (changes.Purged id) ≡ false) → list_any q (confirming t at s moment) ≡ false
unfolding confirming
confirm_none t at s moment q d h l o =
    let cs = changes.Done at.id at.slot moment ∷ recovering s in
    any_append q cs (flat_map (settling t cs) (names_of cs)) (or_from (q (changes.Done at.id at.slot moment)) (list_any q (recovering s)) d (recovering_none q h s)) (settled_none q l o t cs)
