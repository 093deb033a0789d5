-- Changes for which memory was taken can be made one after another.
use Rattle.std.proofs.Common.{◌≡◌, ℕ, ◌<◌, ◌≤◌, All, List, [], ◌∷◌, drop, length, Option, Some, None, refl, ap, arith}
use Rattle.std.specs.Prelude.{IfSome}
use Rattle.std.proofs.lemmas.Bool.{eq-eqb}
use Rattle.std.proofs.lemmas.List.Elements.{All-head, All-tail}
use Rattle.std.proofs.lemmas.List.Sums.{sum_by-cons}
use Rattle.queue_rows.specs.Rows.{find_message}
use Rattle.queue_rows.specs.Tables.{after_change}
use Rattle.queue_rows.specs.declared.tables.Tables.{Tables}
use Rattle.queue_rows.specs.declared.rows.MsgRow.{MsgRow}
use Rattle.queue_rows.specs.declared.change.Change.{Change}
use Rattle.queue_rows.specs.declared.change.Change.TheVariants as changes
use Rattle.message_store.specs.Numbers.{HasNumbers}
use Rattle.message_store.specs.Room.{Room, HasRoom, room_after}
use Rattle.message_store.specs.Prepared.{HasItsSlotRoom, AreReady}
use Rattle.message_index.specs.SlotRooms.{slots_added, most_slots, next_slots, HasSlotRooms}
use Rattle.message_store.proofs.PlaceLemmas.{place, room_left}
use Rattle.message_index.proofs.SlotLemmas.{one_if, slots_after, found_slots}

-- a message that is moved gets one slot more, and there is memory for that
fits : (t : Tables) (id at : ℕ) (queue : List ℕ) (cs : List Change) (n : ℕ) (o : Option MsgRow) → find_message t id ≡ o
    → most_slots id t.messages (changes.Moved id queue at ∷ cs) ≤ n → IfSome o (λ m. length m.slots < n)
fits t id at queue cs n None e h = tt
fits t id at queue cs n (Some m) e h =
    omega (arith, found_slots id t.messages m e, sum_by-cons (slots_added id) (changes.Moved id queue at) cs, ap one_if (eq-eqb id id refl), h)

its_room : (t : Tables) (c : Change) (cs : List Change) (slots : List ℕ) → HasSlotRooms t.messages (c ∷ cs) (c ∷ cs) slots → HasItsSlotRoom t slots c
its_room t (changes.Moved id queue at) cs slots h = fits t id at queue cs (next_slots slots) (find_message t id) refl h.0
its_room t _ cs slots h = tt

-- those that are moved after a change have memory then
later_rooms : (t : Tables) (c : Change) (cs ds : List Change) (slots : List ℕ) → HasSlotRooms t.messages (c ∷ cs) ds slots
    → HasSlotRooms (after_change t c).messages cs ds slots
later_rooms t c cs [] slots h = tt
later_rooms t c cs (changes.Moved id queue at ∷ ds) slots h =
    (omega (arith, slots_after id t c, sum_by-cons (slots_added id) c cs, h.0), later_rooms t c cs ds (drop 1 slots) h.1)
later_rooms t c cs (_ ∷ ds) slots h = later_rooms t c cs ds slots h

-- the memory that is left when a change is made is that for those behind it
rooms_left : (ms : List MsgRow) (all : List Change) (r : Room) (c : Change) (ds : List Change) → HasSlotRooms ms all (c ∷ ds) r.slots → HasSlotRooms ms all ds (room_after r c).slots
rooms_left ms all r (changes.Moved id queue at) ds h = h.1
rooms_left ms all r _ ds h = h

pub are_ready : (t : Tables) (r : Room) (cs : List Change) → All HasNumbers cs → HasRoom r cs → HasSlotRooms t.messages cs cs r.slots → AreReady t r cs
are_ready t r [] numbers room slots = tt
are_ready t r (c ∷ cs) numbers room slots = (
  record {
    numbers = All-head HasNumbers c cs numbers;
    place = place r c cs room;
    slots = its_room t c cs r.slots slots;
  },
  are_ready (after_change t c) (room_after r c) cs
      (All-tail HasNumbers c cs numbers)
      (room_left r c cs room)
      (later_rooms t c cs cs (room_after r c).slots (rooms_left t.messages (c ∷ cs) r c cs slots)),
)
