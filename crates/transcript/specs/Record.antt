-- The text of a record and of properties, member by member.
use Rattle.std.specs.Prelude.{ℕ, ◌++◌, ◌==◌, List, [], ◌∷◌, length, codes, Bool, Option, if◌then◌else◌}
use Rattle.std.specs.Option.{option_map_or}
use Rattle.serde_json.specs.Data.{null, object, string, Members, no_members, member}
use Rattle.serde_json.specs.Written.{compact_text, comma_if}
use Rattle.payload_records.specs.Props.{props_json}
use Rattle.payload_records.specs.Record.{datum_json, members_json}
use Rattle.payload_records.specs.declared.kind.Field.{Field}
use Rattle.payload_records.specs.declared.kind.Kind.{Kind}
use Rattle.payload_records.specs.declared.kind.Kind.TheVariants as kinds
use Rattle.payload_records.specs.declared.props.Prop.{Prop}
use Rattle.payload_records.specs.declared.record.Datum.{Datum}
use Rattle.queue_rows.specs.declared.reply.Shown.{Shown}
use Rattle.transcript.specs.Text.{json_text}

-- cells as a JSON object: every field, a null one too
abbrev pub cells_text : List Field → List Datum → List ℕ
cells_text fields cells = compact_text (object (members_json fields cells))

-- a record as a JSON object, by its type
abbrev pub record_text : Shown → List ℕ
record_text shown = cells_text shown.kind shown.cells.cells

abbrev pub kind_word : Kind → List ℕ
kind_word kinds.Num = codes "num"
kind_word kinds.Text = codes "text"

-- the name of each field with the word of its kind
abbrev pub fields_json : List Field → Members
fields_json [] = no_members
fields_json (f ∷ fields) = member f.name (string (kind_word f.kind)) (fields_json fields)

-- a record type as a JSON object
abbrev pub fields_text : List Field → List ℕ
fields_text fields = compact_text (object (fields_json fields))

-- properties as a JSON object
abbrev pub props_object : List Prop → List ℕ
props_object props = compact_text (object (props_json props))

-- the properties behind a word; nothing where there are none
abbrev pub props_text : List Prop → List ℕ
props_text props = if length props == 0 then [] else codes " props " ++ props_object props

-- a datum as JSON; one that is not there is null
abbrev pub datum_text : Option Datum → List ℕ
datum_text datum = compact_text (option_map_or datum_json datum null)

-- a member of an object, behind a comma where another one stands before it
abbrev pub member_text : Bool → List ℕ → List ℕ → List ℕ
member_text later name value = comma_if later ++ json_text name ++ codes ":" ++ value

abbrev pub member_of : Bool → List ℕ → Option Datum → List ℕ
member_of later name datum = member_text later name (datum_text datum)
