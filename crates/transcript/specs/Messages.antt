-- The lines of a message and of its slots.
use Rattle.std.specs.Prelude.{ℕ, ℤ, ◌+◌, ◌++◌, ◌&&◌, ◌==◌, List, [], length, codes, decimal, Bool, if◌then◌else◌}
use Rattle.std.specs.Fmt.{signed_decimal}
use Rattle.std.specs.List.{flat_map, join_by, enumerate_from}
use Rattle.std.specs.Option.{option_map_or}
use Rattle.aq_base.specs.declared.DbId.{DbId}
use Rattle.payload_records.specs.declared.kind.Field.{Field}
use Rattle.rule_conditions.specs.declared.facts.Facts.{Facts}
use Rattle.queue_rows.specs.Rows.{table_of}
use Rattle.queue_rows.specs.declared.rows.MsgRow.{MsgRow}
use Rattle.queue_rows.specs.declared.rows.SlotRow.{SlotRow}
use Rattle.queue_rows.specs.declared.rows.SlotState.{SlotState}
use Rattle.queue_rows.specs.declared.rows.SlotState.TheVariants as states
use Rattle.queue_rows.specs.declared.tables.Tables.{Tables}
use Rattle.transcript.specs.Record.{cells_text, props_text}
use Rattle.transcript.specs.Text.{id_text, slot_text, json_or_null, name_or_null, number_or_null}

-- ---- slots

abbrev pub state_word : SlotState → List ℕ
state_word states.Ready = codes "ready"
state_word states.Waiting = codes "waiting"
state_word states.Processed = codes "processed"
state_word states.Expired = codes "expired"
state_word states.Dropped = codes "dropped"

-- for whom it is
abbrev pub slot_head : DbId → ℕ → ℕ → SlotRow → List ℕ
slot_head db id number s =
    codes "slot " ++ slot_text db id number ++ codes " name " ++ name_or_null s.name ++ codes " address " ++ name_or_null s.address

-- how far it has come
abbrev pub slot_tail : SlotRow → List ℕ
slot_tail s =
    codes " " ++ state_word s.state ++ codes " retries " ++ decimal s.retries ++ codes " at " ++ decimal s.at
    ++ codes " expires " ++ number_or_null s.expires ++ codes "\n"

abbrev pub slot_line : DbId → ℕ → ℕ → SlotRow → List ℕ
slot_line db id number s = slot_head db id number s ++ slot_tail s

-- the number of the slot that stands at an index: slots of recipients are numbered from 1, and the last of a moved message is slot 0
abbrev pub number_at : MsgRow → ℕ → ℕ
number_at m index = if m.moved && (index + 1 == length m.slots) then 0 else index + 1

-- the slots from this index on
abbrev pub slots_from : DbId → MsgRow → ℕ → List SlotRow → List ℕ
slots_from db m index slots = flat_map (λ s. slot_line db m.id (number_at m s.0) s.1) (enumerate_from index slots)

abbrev pub slot_lines : DbId → MsgRow → List ℕ
slot_lines db m = slots_from db m 0 m.slots

-- ---- messages

-- the numbers with commas between them
abbrev pub numbers_text : List ℤ → List ℕ
numbers_text numbers = join_by signed_decimal (codes ",") numbers

abbrev pub place_text : List ℤ → List ℕ
place_text place = codes "[" ++ numbers_text place ++ codes "]"

-- where it stands, and in which order
abbrev pub place_part : DbId → MsgRow → List ℕ
place_part db m = codes "message " ++ id_text db m.id ++ codes " queue " ++ m.queue ++ codes " place " ++ place_text m.place

abbrev pub order_part : Facts → List ℕ
order_part facts = codes " priority " ++ signed_decimal facts.priority ++ codes " corr " ++ json_or_null facts.corr

abbrev pub moved_word : Bool → List ℕ
moved_word moved = if moved then codes "true" else codes "false"

-- how it came there
abbrev pub origin_part : MsgRow → List ℕ
origin_part m =
    codes " exception " ++ name_or_null m.exception ++ codes " enq " ++ decimal m.enq ++ codes " group " ++ decimal m.group
    ++ codes " moved " ++ moved_word m.moved ++ codes " "

-- the fields of a queue's payloads; none where the queue or its table is not there
abbrev pub fields_of_queue : Tables → List ℕ → List Field
fields_of_queue t queue = option_map_or (λ r. r.fields) (table_of t queue) []

-- its payload, by the type of its queue, and its properties
abbrev pub payload_part : Tables → MsgRow → List ℕ
payload_part t m = cells_text (fields_of_queue t m.queue) m.facts.cells.cells ++ props_text m.facts.props ++ codes "\n"

abbrev pub message_line : DbId → Tables → MsgRow → List ℕ
message_line db t m = place_part db m ++ order_part m.facts ++ origin_part m ++ payload_part t m

-- a message, and its slots behind it
abbrev pub message_lines : DbId → Tables → MsgRow → List ℕ
message_lines db t m = message_line db t m ++ slot_lines db m
