-- What atoms, products and sums come to.
use Rattle.std.specs.Prelude.{ℕ, ◌^◌, ◌==◌, nat_lt, ℤ, pos, negsuc, ◌+ℤ◌, ◌-ℤ◌, ◌*ℤ◌, List, [], ◌∷◌, length, Bool, Option, option_and_then, slice_get, if◌then◌else◌}
use Rattle.std.specs.List.{fold, position, find}
use Rattle.std.specs.Option.{option_map_or}
use Rattle.std.specs.Str.{bytes_eq}
use Rattle.payload_records.specs.declared.kind.Field.{Field}
use Rattle.payload_records.specs.declared.props.Prop.{Prop}
use Rattle.payload_records.specs.declared.record.Datum.{Datum}
use Rattle.payload_records.specs.declared.record.Datum.TheVariants as data_of
use Rattle.rule_conditions.specs.declared.condition.Atom.{Atom}
use Rattle.rule_conditions.specs.declared.condition.Atom.TheVariants as atoms
use Rattle.rule_conditions.specs.declared.condition.Sum.{Sum}
use Rattle.rule_conditions.specs.declared.condition.Term.{Term}
use Rattle.rule_conditions.specs.declared.facts.Facts.{Facts}

-- a number of 64 bits with a sign
abbrev pub fits : ℤ → Bool
fits (pos n) = nat_lt n (2 ^ 63)
fits (negsuc n) = nat_lt n (2 ^ 63)

-- a number, and null where it leaves 64 bits
abbrev pub num_or_null : ℤ → Datum
num_or_null z = if fits z then data_of.Num z else data_of.Null

-- a text, and null where it is empty
abbrev pub text_or_null : List ℕ → Datum
text_or_null text = if length text == 0 then data_of.Null else data_of.Text text

abbrev pub cell_or_null : Datum → Datum
cell_or_null data_of.Null = data_of.Null
cell_or_null (data_of.Num n) = data_of.Num n
cell_or_null (data_of.Text text) = text_or_null text

-- the index of the field of that name
abbrev pub place_of : List Field → List ℕ → Option ℕ
place_of fields name = position (λ f. bytes_eq f.name name) fields

-- what a message has in the field of that name: null where the type has no such field
abbrev pub cell_named : List Field → List Datum → List ℕ → Datum
cell_named fields cells name = option_map_or cell_or_null (option_and_then (slice_get cells) (place_of fields name)) data_of.Null

-- the property of that name
abbrev pub prop_of : List Prop → List ℕ → Option Prop
prop_of props name = find (λ p. bytes_eq p.name name) props

-- what a message has as the property of that name: null where it has none
abbrev pub prop_named : List Prop → List ℕ → Datum
prop_named props name = option_map_or (λ p. cell_or_null p.value) (prop_of props name) data_of.Null

abbrev pub atom_value : List Field → Facts → Atom → Datum
atom_value fields facts (atoms.Number n) = data_of.Num n
atom_value fields facts (atoms.Text text) = text_or_null text
atom_value fields facts atoms.Null = data_of.Null
atom_value fields facts atoms.Priority = data_of.Num facts.priority
atom_value fields facts atoms.Corr = option_map_or text_or_null facts.corr data_of.Null
atom_value fields facts (atoms.Cell name) = cell_named fields facts.cells.cells name
atom_value fields facts (atoms.Prop name) = prop_named facts.props name

-- a step of a sum or a product: null where an operand is no number (a null, or a property that is a text), or the result
-- leaves 64 bits
abbrev pub times : Datum → Datum → Datum
times (data_of.Num x) (data_of.Num y) = num_or_null (x *ℤ y)
times left right = data_of.Null

abbrev pub plus : Datum → Datum → Datum
plus (data_of.Num x) (data_of.Num y) = num_or_null (x +ℤ y)
plus left right = data_of.Null

abbrev pub minus : Datum → Datum → Datum
minus (data_of.Num x) (data_of.Num y) = num_or_null (x -ℤ y)
minus left right = data_of.Null

-- from left to right; one atom is its own value, and no atom has none
abbrev pub product_value : List Field → Facts → List Atom → Datum
product_value fields facts [] = data_of.Null
product_value fields facts (first ∷ others) = fold (λ value atom. times value (atom_value fields facts atom)) (atom_value fields facts first) others

abbrev pub term_added : List Field → Facts → Datum → Term → Datum
term_added fields facts value t = if t.minus then minus value (product_value fields facts t.product.atoms) else plus value (product_value fields facts t.product.atoms)

-- the first term of a sum; none that is read has a sign
abbrev pub first_term : List Field → Facts → Term → Datum
first_term fields facts t = if t.minus then minus (data_of.Num (pos 0)) (product_value fields facts t.product.atoms) else product_value fields facts t.product.atoms

abbrev pub terms_value : List Field → Facts → List Term → Datum
terms_value fields facts [] = data_of.Null
terms_value fields facts (first ∷ others) = fold (term_added fields facts) (first_term fields facts first) others

abbrev pub sum_value : List Field → Facts → Sum → Datum
sum_value fields facts s = terms_value fields facts s.terms
