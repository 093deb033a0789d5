-- Where there is room for all changes, there is room for the first, and for the rest after it.
use Rattle.std.proofs.Common.{◌≡◌, ℕ, ◌+◌, ◌-◌, ◌<◌, ◌≤◌, List, ◌∷◌, Bool, true, cond, refl, ap, arith}
use Rattle.std.specs.Prelude.{count_by}
use Rattle.std.proofs.lemmas.List.Sums.{sum_by-cons}
use Rattle.queue_rows.specs.declared.change.Change.{Change}
use Rattle.queue_rows.specs.declared.change.Change.TheVariants as changes
use Rattle.message_store.specs.Room.{Room, HasRoom, HasPlace, room_after, is_table_put, is_queue_put, is_sub_put, is_schedule_put, is_message_put, is_seen_put}

abbrev pub one_if : Bool → ℕ
one_if b = cond b 1 0

pub counted : (p : Change → Bool) (c : Change) (cs : List Change) → count_by p (c ∷ cs) ≡ one_if (p c) + count_by p cs
counted p c cs = sum_by-cons (λ x. one_if (p x)) c cs

one : (p : Change → Bool) (c : Change) → p c ≡ true → one_if (p c) ≡ one_if true
one p c is = ap one_if is

stays : (p : Change → Bool) (c : Change) (cs : List Change) (n : ℕ) → count_by p (c ∷ cs) ≤ n → count_by p cs ≤ n
stays p c cs n h = omega (arith, counted p c cs, h)

has : (p : Change → Bool) (c : Change) (cs : List Change) (n : ℕ) → p c ≡ true → count_by p (c ∷ cs) ≤ n → 0 < n
has p c cs n is h = omega (arith, counted p c cs, one p c is, h)

takes : (p : Change → Bool) (c : Change) (cs : List Change) (n : ℕ) → p c ≡ true → count_by p (c ∷ cs) ≤ n → count_by p cs ≤ n - 1
takes p c cs n is h = omega (arith, counted p c cs, one p c is, h)

pub place : (r : Room) (c : Change) (cs : List Change) → HasRoom r (c ∷ cs) → HasPlace r c
place r (changes.PutTable row) cs h = has is_table_put (changes.PutTable row) cs r.tables refl h.tables
place r (changes.PutQueue row) cs h = has is_queue_put (changes.PutQueue row) cs r.queues refl h.queues
place r (changes.PutSub row) cs h = has is_sub_put (changes.PutSub row) cs r.subs refl h.subs
place r (changes.PutSchedule row) cs h = has is_schedule_put (changes.PutSchedule row) cs r.schedules refl h.schedules
place r (changes.Enqueued row) cs h = has is_message_put (changes.Enqueued row) cs r.messages refl h.messages
place r (changes.Seen row) cs h = has is_seen_put (changes.Seen row) cs r.seen refl h.seen
place r _ cs h = tt

kept : (r : Room) (c : Change) (cs : List Change) → HasRoom r (c ∷ cs) → HasRoom r cs
kept r c cs h = record {
  tables = stays is_table_put c cs r.tables h.tables;
  queues = stays is_queue_put c cs r.queues h.queues;
  subs = stays is_sub_put c cs r.subs h.subs;
  schedules = stays is_schedule_put c cs r.schedules h.schedules;
  messages = stays is_message_put c cs r.messages h.messages;
  seen = stays is_seen_put c cs r.seen h.seen;
}

pub room_left : (r : Room) (c : Change) (cs : List Change) → HasRoom r (c ∷ cs) → HasRoom (room_after r c) cs
room_left r (changes.PutTable row) cs h =
    let k = kept r (changes.PutTable row) cs h in
    record { tables = takes is_table_put (changes.PutTable row) cs r.tables refl h.tables; queues = k.queues; subs = k.subs; schedules = k.schedules; messages = k.messages; seen = k.seen }
room_left r (changes.PutQueue row) cs h =
    let k = kept r (changes.PutQueue row) cs h in
    record { tables = k.tables; queues = takes is_queue_put (changes.PutQueue row) cs r.queues refl h.queues; subs = k.subs; schedules = k.schedules; messages = k.messages; seen = k.seen }
room_left r (changes.PutSub row) cs h =
    let k = kept r (changes.PutSub row) cs h in
    record { tables = k.tables; queues = k.queues; subs = takes is_sub_put (changes.PutSub row) cs r.subs refl h.subs; schedules = k.schedules; messages = k.messages; seen = k.seen }
room_left r (changes.PutSchedule row) cs h =
    let k = kept r (changes.PutSchedule row) cs h in
    record { tables = k.tables; queues = k.queues; subs = k.subs; schedules = takes is_schedule_put (changes.PutSchedule row) cs r.schedules refl h.schedules; messages = k.messages; seen = k.seen }
room_left r (changes.Enqueued row) cs h =
    let k = kept r (changes.Enqueued row) cs h in
    record { tables = k.tables; queues = k.queues; subs = k.subs; schedules = k.schedules; messages = takes is_message_put (changes.Enqueued row) cs r.messages refl h.messages; seen = k.seen }
room_left r (changes.Seen row) cs h =
    let k = kept r (changes.Seen row) cs h in
    record { tables = k.tables; queues = k.queues; subs = k.subs; schedules = k.schedules; messages = k.messages; seen = takes is_seen_put (changes.Seen row) cs r.seen refl h.seen }
room_left r (changes.Moved id queue at) cs h =
    let k = kept r (changes.Moved id queue at) cs h in
    record { tables = k.tables; queues = k.queues; subs = k.subs; schedules = k.schedules; messages = k.messages; seen = k.seen }
room_left r c cs h = kept r c cs h
