-- What valid tables say of the numbers that the end of a transaction needs.
use Rattle.std.proofs.Common.{◌≡◌, ◌^◌, List, [], ◌∷◌, Bool, true, Option, Some, None, All, arith}
use Rattle.std.specs.List.{list_all}
use Rattle.std.proofs.lemmas.Bool.{and_parts, leb-true, false≢true}
use Rattle.std.proofs.lemmas.List.Elements.{All-nil, All-cons}
use Rattle.aq_base.specs.declared.limits.TheConstants.{TIME_LIMIT}
use Rattle.queue_rows.specs.Rows.{find_queue, find_table}
use Rattle.queue_rows.specs.Within.{is_time}
use Rattle.queue_rows.specs.Valid.{is_valid, is_valid_queue, is_valid_message, is_valid_message_at, is_valid_message_in, has_right_retries}
use Rattle.queue_rows.specs.declared.tables.Tables.{Tables}
use Rattle.queue_rows.specs.declared.rows.QueueRow.{QueueRow}
use Rattle.queue_rows.specs.declared.rows.TableRow.{TableRow}
use Rattle.queue_rows.specs.declared.rows.MsgRow.{MsgRow}
use Rattle.queue_rows.specs.declared.rows.SlotRow.{SlotRow}
use Rattle.valid_laws.proofs.Parts.{and_l, and_r, parts_of, valid_messages}
use Rattle.sessions.specs.Numbers.{IsCountable, AreCountable, IsDelaying}

all_of : {X : Type 0} (p : X → Bool) (P : X → Type 0) → ((x : X) → p x ≡ true → P x) → (xs : List X) → list_all p xs ≡ true → All P xs
all_of p P f [] h = All-nil P
all_of p P f (x ∷ xs) h = let parts = and_parts (p x) (list_all p xs) h in All-cons P x xs (f x parts.0) (all_of p P f xs parts.1)

-- ---- delays

delay_part : (t : Tables) (queue : QueueRow) → is_valid_queue t queue ≡ true → is_time queue.retry_delay ≡ true
delay_part t queue h = search (and_l, and_r) depth 9

delay_known : (t : Tables) (queue : QueueRow) → is_valid_queue t queue ≡ true → IsDelaying queue
delay_known t queue h = let n = leb-true queue.retry_delay TIME_LIMIT (delay_part t queue h) in omega (arith, n)

pub delays_known : (t : Tables) → is_valid t ≡ true → All IsDelaying t.queues
delays_known t v = all_of (is_valid_queue t) IsDelaying (delay_known t) t.queues (parts_of t v).queues

-- ---- retries

slots_part : (t : Tables) (queue : QueueRow) (table : TableRow) (m : MsgRow) → is_valid_message_in t queue (Some table) m ≡ true → list_all has_right_retries m.slots ≡ true
slots_part t queue table m h = search (and_l, and_r) depth 12

slots_in : (t : Tables) (queue : QueueRow) (m : MsgRow) (table : Option TableRow) → is_valid_message_in t queue table m ≡ true → list_all has_right_retries m.slots ≡ true
slots_in t queue m None h = absurd (false≢true h)
slots_in t queue m (Some table) h = slots_part t queue table m h

slots_at : (t : Tables) (m : MsgRow) (queue : Option QueueRow) → is_valid_message_at t queue m ≡ true → list_all has_right_retries m.slots ≡ true
slots_at t m None h = absurd (false≢true h)
slots_at t m (Some queue) h = slots_in t queue m (find_table t queue.table) h

countable : (slot : SlotRow) → has_right_retries slot ≡ true → IsCountable slot
countable slot h = let n = leb-true slot.retries (2 ^ 31) h in omega (arith, n)

retries_in : (t : Tables) (m : MsgRow) → is_valid_message t m ≡ true → AreCountable m
retries_in t m h = all_of has_right_retries IsCountable countable m.slots (slots_at t m (find_queue t m.queue) h)

pub retries_known : (t : Tables) → is_valid t ≡ true → All AreCountable t.messages
retries_known t v = all_of (is_valid_message t) AreCountable (retries_in t) t.messages (valid_messages t v)
