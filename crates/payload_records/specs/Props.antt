-- Properties: names with values.
use Rattle.std.specs.Prelude.{◌==◌, ◌&&◌, nat_le, List, [], ◌∷◌, length, map, Bool, true, false, not, Option, Some, None, if◌then◌else◌}
use Rattle.std.specs.List.{list_all, filter_map}
use Rattle.serde_json.specs.Data.{Data, Members, no_members, member}
use Rattle.payload_records.specs.Name.{is_name}
use Rattle.payload_records.specs.Order.{are_ascending}
use Rattle.payload_records.specs.Payload.{payload_of}
use Rattle.payload_records.specs.Record.{datum_of, datum_json}
use Rattle.payload_records.specs.declared.TheConstants.{PROP_LIMIT, TEXT_LIMIT}
use Rattle.payload_records.specs.declared.payload.Loose.{Loose}
use Rattle.payload_records.specs.declared.payload.Loose.TheVariants as loose
use Rattle.payload_records.specs.declared.payload.Member.{Member}
use Rattle.payload_records.specs.declared.payload.Payload.{Payload}
use Rattle.payload_records.specs.declared.payload.Payload.TheVariants as payloads
use Rattle.payload_records.specs.declared.props.Prop.{Prop}
use Rattle.payload_records.specs.declared.record.Datum.{Datum}
use Rattle.payload_records.specs.declared.record.Datum.TheVariants as data_of

-- ---- what properties are

-- neither null nor an empty text
abbrev pub is_value : Datum → Bool
is_value data_of.Null = false
is_value (data_of.Num n) = true
is_value (data_of.Text text) = not (length text == 0)

-- they stand in byte order of their names, each name once, and none is null or an empty text
abbrev pub are_props : List Prop → Bool
are_props props = are_ascending (map (λ p. p.name) props) && list_all (λ p. is_value p.value) props

-- ---- as a payload gives them

-- null, a whole number, or a text of no more bytes than one of a record
abbrev pub is_prop_value : Loose → Bool
is_prop_value loose.Null = true
is_prop_value (loose.Num n) = true
is_prop_value (loose.Text text) = nat_le (length text) TEXT_LIMIT
is_prop_value loose.Other = false

-- its key is a name, and its value is of a kind that a property may have
abbrev pub is_prop_member : Member → Bool
is_prop_member m = is_name m.key && is_prop_value m.value

-- the property that a member is; null and an empty text are none
abbrev pub prop_of : Member → Option Prop
prop_of m = if is_value (datum_of m.value) then Some (record { name = m.key; value = datum_of m.value }) else None

-- Those of the members, or None where one is faulty. All members count, those too that are no property.
abbrev pub props_of : List Member → Option (List Prop)
props_of members = if nat_le (length members) PROP_LIMIT && list_all is_prop_member members then Some (filter_map prop_of members) else None

-- the properties that a payload gives, or None where it gives none
abbrev pub properties_of : Payload → Option (List Prop)
properties_of payloads.NotObject = None
properties_of (payloads.Members members) = props_of members

-- the properties that a JSON value gives
abbrev pub properties : Data → Option (List Prop)
properties d = properties_of (payload_of d)

-- properties as the members of a JSON object
abbrev pub props_json : List Prop → Members
props_json [] = no_members
props_json (p ∷ props) = member p.name (datum_json p.value) (props_json props)
