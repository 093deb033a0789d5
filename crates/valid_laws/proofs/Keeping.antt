-- What keeps tables valid: a later moment, a message that goes.
use Rattle.std.proofs.Common.{◌⊎◌, inl, inr, ◌≡◌, ◌≤◌, ℕ, true, refl, arith, Option, Some, None, ◌==◌, ◌&&◌}
use Rattle.std.specs.Prelude.{nat_le}
use Rattle.std.specs.List.{list_all}
use Rattle.std.proofs.lemmas.Bool.{and_parts, and_from, le-leb, leb-true, or_left, or_right, or_cases, false≢true}
use Rattle.aq_base.specs.declared.limits.TheConstants.{MOMENT_LIMIT, NEXT_LIMIT}
use Rattle.queue_rows.specs.Rows.{find_queue, find_table, recipient_slots}
use Rattle.queue_rows.specs.Tables.{after_change}
use Rattle.queue_rows.specs.Valid.{is_valid, has_right_numbers, is_valid_message, is_valid_message_at, is_valid_message_in, is_right_queue, has_right_cells, has_right_ids, has_right_place, has_right_lane, has_right_props, has_right_slots, has_right_recipients, has_right_names, is_right_if_moved, has_right_retries, has_allowed_retries, has_begun, is_waiting}
use Rattle.queue_rows.specs.declared.tables.Tables.{Tables}
use Rattle.queue_rows.specs.declared.rows.MsgRow.{MsgRow}
use Rattle.queue_rows.specs.declared.rows.SlotRow.{SlotRow}
use Rattle.queue_rows.specs.declared.rows.QueueRow.{QueueRow}
use Rattle.queue_rows.specs.declared.rows.TableRow.{TableRow}
use Rattle.queue_rows.specs.declared.change.Change.TheVariants as changes
use Rattle.row_laws.proofs.Distinctly.{stays_distinct}
use Rattle.valid_laws.proofs.Parts.{valid_distinct, valid_messages, parts_of, valid_from, valid_with_messages, all_removed_first, all_weaker}
use Rattle.valid_laws.proofs.Slotted.{with_last}

-- ---- a message goes

pub purged_keeps_valid : (t : Tables) (id : ℕ) → is_valid t ≡ true → is_valid (after_change t (changes.Purged id)) ≡ true
purged_keeps_valid t id v =
    let u = after_change t (changes.Purged id) in
    valid_with_messages t u.messages v (stays_distinct t (changes.Purged id) (valid_distinct t v) refl) (all_removed_first (is_valid_message t) (λ m. m.id == id) t.messages (valid_messages t v))

-- ---- a later moment

module _ (t : Tables) (latest : ℕ) (le : t.latest ≤ latest) where
  begun_by : (s : SlotRow) → (is_waiting s.state ≡ true) ⊎ (nat_le s.at t.latest ≡ true) → has_begun latest s ≡ true
  begun_by s (inl w) = or_left (is_waiting s.state) (nat_le s.at latest) w
  begun_by s (inr h) = or_right (is_waiting s.state) (nat_le s.at latest) (let g = leb-true s.at t.latest h in le-leb s.at latest (omega arith))

  begun_later : (s : SlotRow) → has_begun t.latest s ≡ true → has_begun latest s ≡ true
  begun_later s h = begun_by s (or_cases (is_waiting s.state) (nat_le s.at t.latest) h)

  slots_later : (table : TableRow) (queue : QueueRow) (m : MsgRow) → has_right_slots t table queue m ≡ true → has_right_slots (record t { latest = latest }) table queue m ≡ true
  slots_later table queue m h =
      with_last (has_right_recipients m && has_right_names table m && is_right_if_moved m && list_all has_right_retries m.slots && list_all (has_allowed_retries queue) (recipient_slots m))
      (list_all (has_begun t.latest) m.slots) (list_all (has_begun latest) m.slots) h (all_weaker (has_begun t.latest) (has_begun latest) begun_later m.slots)

  enq_later : (m : MsgRow) → nat_le m.enq t.latest ≡ true → nat_le m.enq latest ≡ true
  enq_later m h = let g = leb-true m.enq t.latest h in le-leb m.enq latest (omega arith)

  message_in : (queue : QueueRow) (o : Option TableRow) (m : MsgRow) → is_valid_message_in t queue o m ≡ true → is_valid_message_in (record t { latest = latest }) queue o m ≡ true
  message_in queue None m h = absurd (false≢true h)
  message_in queue (Some table) m h =
      let front = is_right_queue m queue && has_right_cells table m && has_right_ids t m && has_right_place table m && has_right_lane table queue m && has_right_props m in
      let p = and_parts (front && nat_le m.enq t.latest) (has_right_slots t table queue m) h in
      and_from (front && nat_le m.enq latest) (has_right_slots (record t { latest = latest }) table queue m)
      (with_last front (nat_le m.enq t.latest) (nat_le m.enq latest) p.0 (enq_later m)) (slots_later table queue m p.1)

  message_at : (o : Option QueueRow) (m : MsgRow) → is_valid_message_at t o m ≡ true → is_valid_message_at (record t { latest = latest }) o m ≡ true
  message_at None m h = absurd (false≢true h)
  message_at (Some queue) m h = message_in queue (find_table t queue.table) m h

  message_later : (m : MsgRow) → is_valid_message t m ≡ true → is_valid_message (record t { latest = latest }) m ≡ true
  message_later m h = message_at (find_queue t m.queue) m h

  numbers_later : has_right_numbers t ≡ true → latest ≤ MOMENT_LIMIT → has_right_numbers (record t { latest = latest }) ≡ true
  numbers_later h top =
      with_last (nat_le 1 t.next && nat_le t.next NEXT_LIMIT && nat_le 1 t.transaction && nat_le t.transaction t.next) (nat_le t.latest MOMENT_LIMIT) (nat_le latest MOMENT_LIMIT) h (λ _. le-leb latest MOMENT_LIMIT top)

  pub later_is_valid : is_valid t ≡ true → latest ≤ MOMENT_LIMIT → is_valid (record t { latest = latest }) ≡ true
  later_is_valid v top =
      let p = parts_of t v in
      valid_from (record t { latest = latest }) (record {
        rows = p.rows;
        numbers = numbers_later p.numbers top;
        tables = p.tables;
        queues = p.queues;
        subs = p.subs;
        schedules = p.schedules;
        messages = all_weaker (is_valid_message t) (is_valid_message (record t { latest = latest })) message_later t.messages p.messages;
        seen = p.seen;
      })
