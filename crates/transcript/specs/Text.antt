-- The parts of a line: ids, slots, sessions and texts as JSON.
use Rattle.std.specs.Prelude.{◌≡◌, ℕ, ◌++◌, ◌&&◌, ◌==◌, not, nat_le, List, [], codes, decimal, Bool, Option, slice_get, unwrap_or, String, string_bytes}
use Rattle.std.specs.Option.{option_map_or}
use Rattle.std.specs.declared.alloc.Global.{Global}
use Rattle.serde_json.specs.Data.{null, string}
use Rattle.serde_json.specs.Written.{compact_text}
use Rattle.aq_base.specs.declared.DbId.{DbId}
use Rattle.aq_base.specs.declared.DbId.TheVariants.{Home, Away}
use Rattle.queue_rows.specs.declared.history.SessionScript.{SessionScript}

-- these bytes were put behind what was there
abbrev pub Writes : String Global → String Global → List ℕ → Type 0
Writes before after text = string_bytes after ≡ string_bytes before ++ text

-- by this letter an id tells its database
abbrev pub letter_of : DbId → List ℕ
letter_of Home = codes "h"
letter_of Away = codes "a"

abbrev pub other_of : DbId → DbId
other_of Home = Away
other_of Away = Home

-- as h7: the message of that number of a database
abbrev pub id_text : DbId → ℕ → List ℕ
id_text db number = letter_of db ++ decimal number

-- an id behind a space
abbrev pub spaced_id_text : DbId → ℕ → List ℕ
spaced_id_text db number = codes " " ++ id_text db number

-- as h7.2: a slot of that message
abbrev pub slot_text : DbId → ℕ → ℕ → List ℕ
slot_text db id slot = id_text db id ++ codes "." ++ decimal slot

-- a byte that stands for itself in a JSON text: no control character, no quote and no backslash
abbrev pub is_plain : ℕ → Bool
is_plain byte = nat_le 32 byte && not (byte == 34) && not (byte == 92)

-- a text as it stands, in quotes
abbrev pub quoted_text : List ℕ → List ℕ
quoted_text text = codes "\"" ++ text ++ codes "\""

-- a text as a JSON text, in its quotes
abbrev pub json_text : List ℕ → List ℕ
json_text text = compact_text (string text)

-- a text as a JSON text, or null
abbrev pub json_or_null : Option (List ℕ) → List ℕ
json_or_null text = compact_text (option_map_or string text null)

-- a name, or null
abbrev pub name_or_null : Option (List ℕ) → List ℕ
name_or_null name = unwrap_or name (codes "null")

-- a number, or null
abbrev pub number_or_null : Option ℕ → List ℕ
number_or_null number = option_map_or decimal number (codes "null")

-- the name of the session of that number, from 0; no text where there is no such session
abbrev pub session_text : List SessionScript → ℕ → List ℕ
session_text scripts session = option_map_or (λ s. s.name) (slice_get scripts session) []
