-- What valid worlds say of the numbers that due work and propagation need.
use Rattle.std.proofs.Common.{◌≡◌, ◌≤◌, ◌^◌, ℕ, List, [], ◌∷◌, Bool, true, Option, Some, None, All, sym, ap, subst, ◌∙◌, option_map, arith}
use Rattle.std.specs.Prelude.{nat_le}
use Rattle.std.specs.List.{list_all}
use Rattle.std.proofs.lemmas.Bool.{and_parts, leb-true, false≢true}
use Rattle.std.proofs.lemmas.List.Elements.{All-nil, All-cons}
use Rattle.aq_base.specs.declared.DbId.{DbId}
use Rattle.aq_base.specs.declared.limits.TheConstants.{RECIPIENT_LIMIT}
use Rattle.queue_rows.specs.Rows.{find_queue, find_table, recipient_count}
use Rattle.queue_rows.specs.Valid.{is_same_message, is_valid, is_valid_message, is_valid_message_at, is_valid_message_in}
use Rattle.queue_rows.specs.declared.tables.Tables.{Tables}
use Rattle.queue_rows.specs.declared.rows.QueueRow.{QueueRow}
use Rattle.queue_rows.specs.declared.rows.TableRow.{TableRow}
use Rattle.queue_rows.specs.declared.rows.MsgRow.{MsgRow}
use Rattle.due_slots.specs.Rows.{HasFewSlots}
use Rattle.valid_laws.proofs.Lowering.{numbers_of}
use Rattle.valid_laws.proofs.Parts.{and_l, and_r, valid_messages, valid_distinct}
use Rattle.queue_rows.specs.Distinct.{are_distinct}
use Rattle.queue_rows.specs.Due.{due}
use Rattle.queue_rows.specs.declared.change.Change.{Change}
use Rattle.queue_rows.specs.declared.history.SlotRef.{SlotRef}
use Rattle.queue_rows.specs.Session.{AreMarks}
use Rattle.slot_marks.specs.Marks.{SessionMarks}
use Rattle.queue_rows.specs.Statements.{slot_sent}
use Rattle.queue_rows.specs.Turns.{due_at}
use Rattle.run_laws.specs.ValidRun.{IsValidWorld}
use Rattle.queue_rows.specs.World.{World, database_at}
use Rattle.run_state.specs.Sendings.{transit_of}
use Rattle.run_state.specs.declared.transit.Transit.{Transit}
use Rattle.time_manager.specs.Watching.{IsDue}
use Rattle.next_steps.specs.Sendings.{HasIds}

each_of : {X : Type 0} (p : X → Bool) (P : X → Type 0) → ((x : X) → p x ≡ true → P x) → (xs : List X) → list_all p xs ≡ true → All P xs
each_of p P f [] h = All-nil P
each_of p P f (x ∷ xs) h = let parts = and_parts (p x) (list_all p xs) h in All-cons P x xs (f x parts.0) (each_of p P f xs parts.1)

few_part : (t : Tables) (queue : QueueRow) (table : TableRow) (m : MsgRow) → is_valid_message_in t queue (Some table) m ≡ true → nat_le (recipient_count m) RECIPIENT_LIMIT ≡ true
few_part t queue table m h = search (and_l, and_r) depth 12

few_in : (t : Tables) (queue : QueueRow) (m : MsgRow) (table : Option TableRow) → is_valid_message_in t queue table m ≡ true → nat_le (recipient_count m) RECIPIENT_LIMIT ≡ true
few_in t queue m None h = absurd (false≢true h)
few_in t queue m (Some table) h = few_part t queue table m h

few_at : (t : Tables) (m : MsgRow) (queue : Option QueueRow) → is_valid_message_at t queue m ≡ true → nat_le (recipient_count m) RECIPIENT_LIMIT ≡ true
few_at t m None h = absurd (false≢true h)
few_at t m (Some queue) h = few_in t queue m (find_table t queue.table) h

few_slots_in : (t : Tables) (m : MsgRow) → is_valid_message t m ≡ true → HasFewSlots m
few_slots_in t m h = let n = leb-true (recipient_count m) RECIPIENT_LIMIT (few_at t m (find_queue t m.queue) h) in omega (arith, n)

few_slots : (t : Tables) → is_valid t ≡ true → All HasFewSlots t.messages
few_slots t v = each_of (is_valid_message t) HasFewSlots (few_slots_in t) t.messages (valid_messages t v)

few_transactions : (t : Tables) → is_valid t ≡ true → t.transaction ≤ 2 ^ 61
few_transactions t v = let n = numbers_of t v in let a = n.below in let b = n.within in omega (arith, a, b)

-- the tables of a database: a message has few slots
pub few_slots_at : (w : World) (db : DbId) (t : Tables) → t ≡ (database_at db w).tables → IsValidWorld w → All HasFewSlots t.messages
few_slots_at w db t e v = subst (λ (u : Tables). All HasFewSlots u.messages) (sym e) (few_slots (database_at db w).tables (v.databases db).valid)

-- each message has its own id
pub apart_at : (w : World) (db : DbId) (t : Tables) → t ≡ (database_at db w).tables → IsValidWorld w → are_distinct is_same_message t.messages ≡ true
apart_at w db t e v = ap (λ (u : Tables). are_distinct is_same_message u.messages) e ∙ valid_distinct (database_at db w).tables (v.databases db).valid

-- and a transaction more can be numbered
pub few_transactions_at : (w : World) (db : DbId) (t : Tables) → t ≡ (database_at db w).tables → IsValidWorld w → t.transaction ≤ 2 ^ 61
few_transactions_at w db t e v = subst (λ (u : Tables). u.transaction ≤ 2 ^ 61) (sym e) (few_transactions (database_at db w).tables (v.databases db).valid)

-- an id more can be given
pub has_ids : (w : World) → IsValidWorld w → HasIds w
has_ids w v = λ db. let most = (v.databases db).most in omega (arith, most)

pub early_moment : (w : World) (moment : ℕ) → moment ≡ w.moment → IsValidWorld w → moment ≤ 2 ^ 62
early_moment w moment e v = let last = v.last in omega (arith, e, last)

-- what is due, where the locks keep the marks of the database's sessions
pub due_is : (w : World) (db : DbId) (t : Tables) (locks : List SessionMarks) (slot : Option SlotRef) (moment : ℕ) (changes : List Change) → t ≡ (database_at db w).tables → AreMarks db w.sessions locks → slot ≡ slot_sent w → moment ≡ w.moment
    → IsDue t db locks slot moment changes → changes ≡ due_at db w
due_is w db t locks slot moment changes p marks q r is =
    is w.sessions marks ∙ ap (λ x. due x w.sessions db slot moment) p ∙ ap (λ x. due (database_at db w).tables w.sessions db x moment) q ∙ ap (due (database_at db w).tables w.sessions db (slot_sent w)) r

-- the slot that is being sent, as the run keeps it
pub sent_slot : (o : Option Transit) (w : World) → option_map transit_of o ≡ w.transit → option_map (λ t. t.slot) o ≡ slot_sent w
sent_slot None w e = ap (option_map (λ t. t.slot)) e
sent_slot (Some t) w e = ap (option_map (λ t. t.slot)) e
