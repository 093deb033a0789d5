-- Messages of valid tables are sound for a session that has with each slot that it has marked the slot's group.
use Rattle.std.proofs.Common.{◌≡◌, ◌<◌, ◌≤◌, ◌^◌, ◌-◌, ℕ, List, [], ◌∷◌, Bool, true, false, Option, Some, None, sym, ap, ◌∙◌, arith, ◌&&◌, All, length, inl, inr}
use Rattle.std.specs.Prelude.{nat_le, find, if◌then◌else◌}
use Rattle.std.specs.List.{list_all}
use Rattle.std.specs.Str.{bytes_eq}
use Rattle.std.proofs.lemmas.Bool.{and_parts, leb-true, false≢true, cases_Bool}
use Rattle.std.proofs.lemmas.List.Elements.{All-nil, All-cons, All-head, All-tail}
use Rattle.std.proofs.lemmas.Slice.Eq.{bytes_eq-Decides}
use Rattle.aq_base.specs.declared.limits.TheConstants.{RECIPIENT_LIMIT}
use Rattle.slot_marks.specs.declared.mark.Mark.{Mark}
use Rattle.queue_rows.specs.Rows.{find_queue, find_table, recipient_count}
use Rattle.queue_rows.specs.Valid.{is_valid, is_valid_message, is_valid_message_at, is_valid_message_in, has_right_recipients}
use Rattle.queue_rows.specs.declared.tables.Tables.{Tables}
use Rattle.queue_rows.specs.declared.rows.QueueRow.{QueueRow}
use Rattle.queue_rows.specs.declared.rows.TableRow.{TableRow}
use Rattle.queue_rows.specs.declared.rows.MsgRow.{MsgRow}
use Rattle.message_choice.specs.Asking.{AreSound, IsSound}
use Rattle.message_choice.specs.Sound.{AreInGroups, IsInGroups}

and_l : (a b : Bool) → (a && b) ≡ true → a ≡ true
and_l a b h = (and_parts a b h).0

and_r : (a b : Bool) → (a && b) ≡ true → b ≡ true
and_r a b h = (and_parts a b h).1

messages_valid : (t : Tables) → is_valid t ≡ true → list_all (is_valid_message t) t.messages ≡ true
unfolding is_valid
messages_valid t v = search (and_l, and_r)

-- ---- few slots

recipients_in : (t : Tables) (queue : QueueRow) (o : Option TableRow) (m : MsgRow) → is_valid_message_in t queue o m ≡ true → has_right_recipients m ≡ true
recipients_in t queue None m h = absurd (false≢true h)
recipients_in t queue (Some table) m h = search (and_l, and_r)

recipients_at : (t : Tables) (o : Option QueueRow) (m : MsgRow) → is_valid_message_at t o m ≡ true → has_right_recipients m ≡ true
recipients_at t None m h = absurd (false≢true h)
recipients_at t (Some queue) m h = recipients_in t queue (find_table t queue.table) m h

few_recipients : (m : MsgRow) → has_right_recipients m ≡ true → recipient_count m ≤ 64
few_recipients m h = let e : nat_le (recipient_count m) RECIPIENT_LIMIT ≡ true = search (and_l, and_r) in leb-true (recipient_count m) 64 e

few_by : (moved : Bool) (n : ℕ) → (if moved then n - 1 else n) ≤ 64 → n < 2 ^ 32
few_by true n h = omega (arith, h)
few_by false n h = omega (arith, h)

few_slots : (t : Tables) (m : MsgRow) → is_valid_message t m ≡ true → length m.slots < 2 ^ 32
few_slots t m h = few_by m.moved (length m.slots) (few_recipients m (recipients_at t (find_queue t m.queue) m h))

-- ---- the queue of a name

found_named : (name : List ℕ) (queues : List QueueRow) (queue : QueueRow) → find (λ r. bytes_eq r.name name) queues ≡ Some queue → queue.name ≡ name
found_named name [] queue e = cc e
found_named name (x ∷ xs) queue e = elim (cases_Bool (bytes_eq x.name name)) [
  | inl here ↦ let first : Some x ≡ Some queue = rw here at e in let same : x ≡ queue = cc first in ap (λ (r : QueueRow). r.name) (sym same) ∙ (bytes_eq-Decides x.name name).0 here
  | inr elsewhere ↦ found_named name xs queue (rw elsewhere at e)
]

-- ---- each message

module _ (t : Tables) (marks : List Mark) (name : List ℕ) (queue : QueueRow) (table : TableRow) (queue_is : find_queue t name ≡ Some queue) (table_is : find_table t queue.table ≡ Some table) where
  is_sound : (m : MsgRow) → is_valid_message t m ≡ true → IsInGroups t marks m → IsSound marks queue table m
  is_sound m valid groups = record {
    slots = few_slots t m valid;
    groups = λ here slot has.
        let same : m.queue ≡ name = (bytes_eq-Decides m.queue queue.name).0 here ∙ found_named name t.queues queue queue_is in
        groups queue table (ap (find_queue t) same ∙ queue_is) table_is slot has;
  }

  all_sound : (ms : List MsgRow) → list_all (is_valid_message t) ms ≡ true → All (IsInGroups t marks) ms → AreSound marks queue table ms
  all_sound [] valid groups = All-nil (IsSound marks queue table)
  all_sound (m ∷ ms) valid groups =
      let parts = and_parts (is_valid_message t m) (list_all (is_valid_message t) ms) valid in
      All-cons (IsSound marks queue table) m ms (is_sound m parts.0 (All-head (IsInGroups t marks) m ms groups)) (all_sound ms parts.1 (All-tail (IsInGroups t marks) m ms groups))

  pub are_sound : is_valid t ≡ true → AreInGroups t marks → AreSound marks queue table t.messages
  are_sound valid groups = all_sound t.messages (messages_valid t valid) groups
