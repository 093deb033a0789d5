-- The rows of tables that are recovered can be spelled.
use Rattle.std.proofs.Common.{◌≡◌, List, [], ◌∷◌, true, length, Option, Some, None}
use Rattle.std.specs.Prelude.{nat_le}
use Rattle.std.specs.List.{AllByRecursion, list_all}
use Rattle.std.proofs.lemmas.Bool.{and_parts, false≢true}
use Rattle.payload_records.specs.Props.{are_props}
use Rattle.payload_records.specs.declared.TheConstants.{PROP_LIMIT}
use Rattle.queue_rows.specs.Rows.{find_table, find_queue}
use Rattle.queue_rows.specs.Valid.{is_valid_message, is_valid_message_at, is_valid_message_in, has_right_props}
use Rattle.queue_rows.specs.declared.tables.Tables.{Tables}
use Rattle.queue_rows.specs.declared.rows.TableRow.{TableRow}
use Rattle.queue_rows.specs.declared.rows.QueueRow.{QueueRow}
use Rattle.queue_rows.specs.declared.rows.MsgRow.{MsgRow}
use Rattle.valid_laws.proofs.Parts.{and_l, and_r, valid_messages}
use Rattle.database_recovery.specs.Sound.{IsSound}
use Rattle.redo_records.specs.Spellable.{HasFullCells, HasFullData}
use Rattle.run_spellings.specs.SpellableRun.{HasSpellableRows}
use Rattle.run_spellings.proofs.Adding.{props_full}

-- ---- properties

props_in : (t : Tables) (queue : QueueRow) (o : Option TableRow) (m : MsgRow) → is_valid_message_in t queue o m ≡ true → has_right_props m ≡ true
props_in t queue None m h = absurd (false≢true h)
props_in t queue (Some table) m h = search (and_l, and_r)

props_at : (t : Tables) (o : Option QueueRow) (m : MsgRow) → is_valid_message_at t o m ≡ true → has_right_props m ≡ true
props_at t None m h = absurd (false≢true h)
props_at t (Some queue) m h = props_in t queue (find_table t queue.table) m h

-- ---- messages

message_full : (t : Tables) (m : MsgRow) → HasFullCells m → is_valid_message t m ≡ true → HasFullData m
message_full t m h v =
    let props = and_parts (nat_le (length m.facts.props) PROP_LIMIT) (are_props m.facts.props) (props_at t (find_queue t m.queue) m v) in
    record { cells = h; props = props_full m.facts.props props.1 }

messages_full : (t : Tables) (ms : List MsgRow) → AllByRecursion HasFullCells ms → list_all (is_valid_message t) ms ≡ true → AllByRecursion HasFullData ms
messages_full t [] h v = tt
messages_full t (m ∷ ms) h v =
    let q = and_parts (is_valid_message t m) (list_all (is_valid_message t) ms) v in
    (message_full t m h.0 q.0, messages_full t ms h.1 q.1)

pub sound_is_spellable : (t : Tables) → IsSound t → HasSpellableRows t
sound_is_spellable t s = record { rules = s.rules; messages = messages_full t t.messages s.cells (valid_messages t s.valid) }
