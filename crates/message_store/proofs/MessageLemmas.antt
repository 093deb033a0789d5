-- Changes of messages that stay in their queues put no other rows, and move no slots.
use Rattle.std.proofs.Common.{◌≡◌, ℕ, ◌≤◌, List, [], ◌∷◌, Bool, true, false, All, refl, ap, arith}
use Rattle.std.specs.Prelude.{count_by}
use Rattle.std.proofs.lemmas.List.Elements.{All-head, All-tail}
use Rattle.queue_rows.specs.declared.rows.MsgRow.{MsgRow}
use Rattle.queue_rows.specs.declared.change.Change.{Change}
use Rattle.queue_rows.specs.declared.change.Change.TheVariants as changes
use Rattle.message_index.specs.SlotRooms.{HasSlotRooms}
use Rattle.message_store.specs.OfMessages.{is_of_message}
use Rattle.message_store.specs.Room.{Room, HasRoom, is_table_put, is_queue_put, is_sub_put, is_schedule_put, is_message_put, is_seen_put}
use Rattle.message_store.proofs.PlaceLemmas.{counted, one_if}

abbrev IsOfMessage : Change → Type 0
IsOfMessage c = is_of_message c ≡ true

abbrev IsNo : (Change → Bool) → Type 0
IsNo p = (c : Change) → IsOfMessage c → p c ≡ false

none_put : (p : Change → Bool) → IsNo p → (cs : List Change) → All IsOfMessage cs → count_by p cs ≡ 0
none_put p never [] of = refl
none_put p never (c ∷ cs) of =
    omega (arith, counted p c cs, ap one_if (never c (All-head IsOfMessage c cs of)), none_put p never cs (All-tail IsOfMessage c cs of))

few : (p : Change → Bool) → IsNo p → (cs : List Change) → All IsOfMessage cs → (n : ℕ) → count_by p cs ≤ n
few p never cs of n = omega (arith, none_put p never cs of)

no_table : IsNo is_table_put
no_table (changes.PutTable row) of = absurd cc
no_table _ of = refl

no_queue : IsNo is_queue_put
no_queue (changes.PutQueue row) of = absurd cc
no_queue _ of = refl

no_sub : IsNo is_sub_put
no_sub (changes.PutSub row) of = absurd cc
no_sub _ of = refl

no_schedule : IsNo is_schedule_put
no_schedule (changes.PutSchedule row) of = absurd cc
no_schedule _ of = refl

no_seen : IsNo is_seen_put
no_seen (changes.Seen row) of = absurd cc
no_seen _ of = refl

pub room_of_messages : (r : Room) (cs : List Change) → All IsOfMessage cs → count_by is_message_put cs ≤ r.messages → HasRoom r cs
room_of_messages r cs of messages = record {
  tables = few is_table_put no_table cs of r.tables;
  queues = few is_queue_put no_queue cs of r.queues;
  subs = few is_sub_put no_sub cs of r.subs;
  schedules = few is_schedule_put no_schedule cs of r.schedules;
  messages = messages;
  seen = few is_seen_put no_seen cs of r.seen;
}

slots_behind : (ms : List MsgRow) (all : List Change) (c : Change) (cs : List Change) (slots : List ℕ) → IsOfMessage c
    → HasSlotRooms ms all cs slots → HasSlotRooms ms all (c ∷ cs) slots
slots_behind ms all (changes.Moved id queue at) cs slots of h = absurd cc
slots_behind ms all _ cs slots of h = h

pub slots_of_messages : (ms : List MsgRow) (all cs : List Change) (slots : List ℕ) → All IsOfMessage cs → HasSlotRooms ms all cs slots
slots_of_messages ms all [] slots of = tt
slots_of_messages ms all (c ∷ cs) slots of =
    slots_behind ms all c cs slots (All-head IsOfMessage c cs of) (slots_of_messages ms all cs slots (All-tail IsOfMessage c cs of))
