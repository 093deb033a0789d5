-- What record types and properties that are read keep.
use Rattle.std.proofs.Common.{◌≡◌, ◌≤◌, ℕ, List, [], ◌∷◌, length, Bool, true, false, ◌&&◌, cond, Option, Some, None, option_map, option_and_then, refl, sym, ap, ◌∙◌, arith}
use Rattle.std.specs.Prelude.{nat_le, ◌==◌}
use Rattle.std.specs.List.{list_all, filter_map}
use Rattle.std.proofs.lemmas.Bool.{leb-true, le-leb}
use Rattle.serde_json.specs.Data.{Data, Members, no_members, member}
use Rattle.serde_json.specs.Find.{as_object}
use Rattle.payload_records.specs.Kind.{kind_of, field_of, fields_of, within_limit, record_type}
use Rattle.payload_records.specs.Name.{is_name}
use Rattle.payload_records.specs.Payload.{payload_of}
use Rattle.payload_records.specs.Props.{is_value, are_props, is_prop_value, is_prop_member, prop_of, props_of, properties_of, properties}
use Rattle.payload_records.specs.Record.{datum_of}
use Rattle.payload_records.specs.declared.TheConstants.{FIELD_LIMIT, PROP_LIMIT, TEXT_LIMIT}
use Rattle.payload_records.specs.declared.kind.Field.{Field}
use Rattle.payload_records.specs.declared.payload.Loose.{Loose}
use Rattle.payload_records.specs.declared.payload.Loose.TheVariants as loose
use Rattle.payload_records.specs.declared.payload.Member.{Member}
use Rattle.payload_records.specs.declared.payload.Payload.{Payload}
use Rattle.payload_records.specs.declared.payload.Payload.TheVariants as payloads
use Rattle.payload_records.specs.declared.props.Prop.{Prop}
use Rattle.queue_rows.specs.Within.{are_fields, is_short, is_prop_within, are_props_within}
use Rattle.script_text.proofs.Tests.{both, joined}

-- ---- options

-- where a second reading gives something, so did the first one
pub and_then_some : {A B : Type 0} (found : Option A) (next : A → Option B) (b : B) → option_and_then next found ≡ Some b → (a : A) × (found ≡ Some a) × (next a ≡ Some b)
and_then_some None next b e = absurd cc
and_then_some (Some a) next b e = (a, refl, e)

pub map_some : {A B : Type 0} (found : Option A) (f : A → B) (b : B) → option_map f found ≡ Some b → (a : A) × (found ≡ Some a) × (f a ≡ b)
map_some None f b e = absurd cc
map_some (Some a) f b e = (a, refl, cc)

-- what a test lets through has passed it
pub passed : {A : Type 0} (b : Bool) (a x : A) → cond b (Some a) None ≡ Some x → (b ≡ true) × (a ≡ x)
passed true a x e = (refl, cc)
passed false a x e = absurd cc

-- ---- record types

abbrev are_named : List Field → Bool
are_named fields = list_all (λ f. is_name f.name) fields

abbrev no_field : Option Field
no_field = None

field_named : (key : List ℕ) (d : Data) (b : Bool) (f : Field) → is_name key ≡ b → field_of key d ≡ Some f → is_name f.name ≡ true
field_named key d true f named e =
    let kind = map_some (kind_of d) (λ kind. record { name = key; kind = kind }) f (rw named at e) in
    ap (λ x. is_name x.name) (sym kind.2) ∙ named
field_named key d false f named e = let none : no_field ≡ Some f = rw named at e in absurd cc

fields_named : (ms : Members) (fields : List Field) → fields_of ms ≡ Some fields → are_named fields ≡ true
fields_named no_members fields e = let none : fields ≡ [] = cc in rw none refl
fields_named (member key d ms) fields e =
    let first = and_then_some (field_of key d) (λ f. option_map (λ fs. f ∷ fs) (fields_of ms)) fields e in
    let others = map_some (fields_of ms) (λ fs. first.0 ∷ fs) fields first.2 in
    rw (← others.2) (joined (is_name first.0.name) (are_named others.0) (field_named key d (is_name key) first.0 refl first.1) (fields_named ms others.0 others.1))

pub fields_within : (d : Data) (fields : List Field) → record_type d ≡ Some fields → are_fields fields ≡ true
fields_within d fields e =
    let listed = and_then_some (option_and_then fields_of (as_object d)) within_limit fields e in
    let members = and_then_some (as_object d) fields_of listed.0 listed.1 in
    let few = passed (nat_le (length listed.0) FIELD_LIMIT) listed.0 fields listed.2 in
    rw (← few.1) (joined (nat_le (length listed.0) FIELD_LIMIT) (are_named listed.0) few.0 (fields_named members.0 listed.0 members.2))

-- ---- properties

text_short : (text : List ℕ) (b : Bool) → (length text == 0) ≡ b → nat_le (length text) TEXT_LIMIT ≡ true → is_short (datum_of (loose.Text text)) ≡ true
text_short text true is e = rw is refl
text_short text false is e = rw is e

value_short : (value : Loose) → is_prop_value value ≡ true → is_short (datum_of value) ≡ true
value_short loose.Null e = refl
value_short (loose.Num n) e = refl
value_short (loose.Text text) e = text_short text (length text == 0) refl e
value_short loose.Other e = absurd cc

prop_step : (m : Member) (ms : List Member) (b : Bool) → is_value (datum_of m.value) ≡ b → is_prop_member m ≡ true → list_all is_prop_within (filter_map prop_of ms) ≡ true
    → list_all is_prop_within (filter_map prop_of (m ∷ ms)) ≡ true
prop_step m ms true is right rest =
    let parts = both (is_name m.key) (is_prop_value m.value) right in
    rw is (joined (is_name m.key && is_short (datum_of m.value)) (list_all is_prop_within (filter_map prop_of ms)) (joined (is_name m.key) (is_short (datum_of m.value)) parts.0 (value_short m.value parts.1)) rest)
prop_step m ms false is right rest = rw is rest

each_short : (ms : List Member) → list_all is_prop_member ms ≡ true → list_all is_prop_within (filter_map prop_of ms) ≡ true
each_short [] e = refl
each_short (m ∷ ms) e =
    let parts = both (is_prop_member m) (list_all is_prop_member ms) e in
    prop_step m ms (is_value (datum_of m.value)) refl parts.0 (each_short ms parts.1)

fewer_step : (m : Member) (ms : List Member) (b : Bool) → is_value (datum_of m.value) ≡ b → length (filter_map prop_of ms) ≤ length ms → length (filter_map prop_of (m ∷ ms)) ≤ length (m ∷ ms)
fewer_step m ms true is h = rw is (omega arith)
fewer_step m ms false is h = rw is (omega arith)

fewer : (ms : List Member) → length (filter_map prop_of ms) ≤ length ms
fewer [] = omega arith
fewer (m ∷ ms) = fewer_step m ms (is_value (datum_of m.value)) refl (fewer ms)

few : (ms : List Member) → nat_le (length ms) PROP_LIMIT ≡ true → nat_le (length (filter_map prop_of ms)) PROP_LIMIT ≡ true
few ms e = le-leb (length (filter_map prop_of ms)) 32 (omega (arith, fewer ms, leb-true (length ms) 32 e))

of_members : (ms : List Member) (props : List Prop) → props_of ms ≡ Some props → are_props props ≡ true → are_props_within props ≡ true
of_members ms props e ordered =
    let taken = passed (nat_le (length ms) PROP_LIMIT && list_all is_prop_member ms) (filter_map prop_of ms) props e in
    let parts = both (nat_le (length ms) PROP_LIMIT) (list_all is_prop_member ms) taken.0 in
    let short : list_all is_prop_within props ≡ true = rw (← taken.1) (each_short ms parts.1) in
    let listed : nat_le (length props) PROP_LIMIT ≡ true = rw (← taken.1) (few ms parts.0) in
    joined (nat_le (length props) PROP_LIMIT && are_props props) (list_all is_prop_within props) (joined (nat_le (length props) PROP_LIMIT) (are_props props) listed ordered) short

of_payload : (payload : Payload) (props : List Prop) → properties_of payload ≡ Some props → are_props props ≡ true → are_props_within props ≡ true
of_payload payloads.NotObject props e ordered = absurd cc
of_payload (payloads.Members ms) props e ordered = of_members ms props e ordered

pub props_within : (d : Data) (props : List Prop) → properties d ≡ Some props → are_props props ≡ true → are_props_within props ≡ true
props_within d props e ordered = of_payload (payload_of d) props e ordered
