-- An object is written member by member.
use Rattle.std.proofs.Common.{◌≡◌, ℕ, ℤ, pos, negsuc, List, ◌∷◌, ◌++◌, Bool, true, Option, Some, None, Bor, refl, ap, ◌∙◌, append_assoc}
use Rattle.std.specs.Prelude.{codes}
use Rattle.std.specs.Fmt.{signed_decimal}
use Rattle.std.specs.Iterator.{YieldsFirstRef}
use Rattle.std.specs.Option.{option_copied}
use Rattle.serde_json.specs.Data.{Data, Members, member}
use Rattle.serde_json.specs.Find.{of_integer}
use Rattle.serde_json.specs.Written.{number_text, compact_text, members_text, comma_if}
use Rattle.payload_records.specs.Record.{first_json, others, members_json}
use Rattle.payload_records.specs.declared.kind.Field.{Field}
use Rattle.payload_records.specs.declared.record.Datum.{Datum}
use Rattle.transcript.specs.Record.{datum_text, member_text}
use Rattle.transcript.specs.Text.{json_text}

pub number_shown : (z : ℤ) → number_text (of_integer z) ≡ signed_decimal z
number_shown (pos n) = refl
number_shown (negsuc n) = refl

-- what an iterator over cells gives is the first of those that were left
next_cell : (left after : List Datum) (cell : Option (Bor Datum)) → YieldsFirstRef (λ (cells : List Datum). cells) left cell after
    → (datum_text (option_copied cell) ≡ compact_text (first_json left)) × (after ≡ others left)
next_cell left after None h = rw (h.0, h.1) (refl, refl)
next_cell left after (Some x) h = rw h (refl, refl)

five_parts : (a b c d e : List ℕ) → (((a ++ b) ++ c) ++ d) ++ e ≡ a ++ (b ++ (c ++ (d ++ e)))
five_parts a b c d e = append_assoc ((a ++ b) ++ c) d e ∙ append_assoc (a ++ b) c (d ++ e) ∙ append_assoc a b (c ++ (d ++ e))

-- the first member stands before the others
first_member : (later : Bool) (name : List ℕ) (d : Data) (ms : Members) → member_text later name (compact_text d) ++ members_text true ms ≡ members_text later (member name d ms)
first_member later name d ms = five_parts (comma_if later) (json_text name) (codes ":") (compact_text d) (members_text true ms)

-- after one member more, what is written and what is to come are the same text
pub goes_on_member : (out new whole : List ℕ) (later : Bool) (name : List ℕ) (d : Data) (ms : Members) → new ≡ out ++ member_text later name (compact_text d)
    → out ++ members_text later (member name d ms) ≡ whole → new ++ members_text true ms ≡ whole
goes_on_member out new whole later name d ms written made =
    ap (λ t. t ++ members_text true ms) written
    ∙ append_assoc out (member_text later name (compact_text d)) (members_text true ms)
    ∙ ap (λ t. out ++ t) (first_member later name d ms)
    ∙ made

-- the same of a record, with a cell from an iterator
pub goes_on : (out new whole : List ℕ) (later : Bool) (f : Field) (rest : List Field) (left after : List Datum) (cell : Option (Bor Datum)) → YieldsFirstRef (λ (cells : List Datum). cells) left cell after
    → new ≡ out ++ member_text later f.name (datum_text (option_copied cell)) → out ++ members_text later (members_json (f ∷ rest) left) ≡ whole → new ++ members_text true (members_json rest after) ≡ whole
goes_on out new whole later f rest left after cell step written made =
    let c = next_cell left after cell step in
    let d : Data = first_json left in
    let is : new ≡ out ++ member_text later f.name (compact_text d) = written ∙ ap (λ t. out ++ member_text later f.name t) c.0 in
    rw c.1 (goes_on_member out new whole later f.name d (members_json rest (others left)) is made)
