-- The members of an object: which are given, and what a value says as a name, a number, a word or a text.
use Rattle.std.specs.Prelude.{ℕ, ◌+◌, ◌&&◌, ◌==◌, nat_le, ℤ, pos, negsuc, List, [], ◌∷◌, length, codes, Bool, Option, Some, None, is_some, option_map, option_and_then, if◌then◌else◌}
use Rattle.serde_json.specs.Data.{Data, Items, no_items, item}
use Rattle.serde_json.specs.Find.{get, as_str, as_null, as_number, as_bool, as_i64, as_array}
use Rattle.payload_records.specs.Name.{is_name}
use Rattle.aq_base.specs.declared.limits.TheConstants.{TABLE_NAME_LIMIT}
use Rattle.queue_rows.specs.Within.{is_priority}

-- what a first reading gives goes on to a second one
infixl 10 ◌>>=◌
abbrev pub ◌>>=◌ : {A B : Type 0} → Option A → (A → Option B) → Option B
found >>= next = option_and_then next found

-- ---- which members are given

abbrev pub text_at : List ℕ → Data → Option (List ℕ)
text_at key d = option_and_then as_str (get key d)

-- a member that may be left out is as absent where it is null
abbrev pub given_at : List ℕ → Data → Option Data
given_at key d = option_and_then (λ m. if is_some (as_null m) then None else Some m) (get key d)

-- what a member that may be left out says, and what is meant where it is not given
abbrev pub or_default : {A : Type 0} → A → (Data → Option A) → Option Data → Option A
or_default meant read None = Some meant
or_default meant read (Some d) = read d

-- the same of a member that means nothing where it is not given
abbrev pub if_given : {A : Type 0} → (Data → Option A) → Option Data → Option (Option A)
if_given read None = Some None
if_given read (Some d) = option_map (λ said. Some said) (read d)

-- ---- lists

-- what each item of a list says, or none where one says nothing
abbrev pub each_item : {A : Type 0} → (Data → Option A) → Items → Option (List A)
each_item read no_items = Some []
each_item read (item d ds) = option_and_then (λ said. option_map (λ others. said ∷ others) (each_item read ds)) (read d)

abbrev pub item_count : Items → ℕ
item_count no_items = 0
item_count (item d ds) = item_count ds + 1

abbrev pub items_between : ℕ → ℕ → Items → Option Items
items_between least most ds = if nat_le least (item_count ds) && nat_le (item_count ds) most then Some ds else None

-- a list of at least so many items, and at most so many
abbrev pub list_between : ℕ → ℕ → Data → Option Items
list_between least most d = option_and_then (items_between least most) (as_array d)

-- ---- names

abbrev pub as_name : List ℕ → Option (List ℕ)
as_name text = if is_name text then Some text else None

abbrev pub name_in : Data → Option (List ℕ)
name_in d = option_and_then as_name (as_str d)

abbrev pub name_at : List ℕ → Data → Option (List ℕ)
name_at key d = option_and_then name_in (get key d)

-- a name that may be left out
abbrev pub name_if_given : List ℕ → Data → Option (Option (List ℕ))
name_if_given key d = if_given name_in (given_at key d)

-- the name of a table is shorter than other names
abbrev pub as_table : List ℕ → Option (List ℕ)
as_table name = if nat_le (length name) TABLE_NAME_LIMIT then Some name else None

abbrev pub table_at : Data → Option (List ℕ)
table_at d = option_and_then as_table (name_at (codes "table") d)

-- ---- numbers

abbrev pub between : ℕ → ℕ → ℤ → Option ℕ
between least most (pos n) = if nat_le least n && nat_le n most then Some n else None
between least most (negsuc n) = None

-- a whole number from the one to the other
abbrev pub number_between : ℕ → ℕ → Data → Option ℕ
number_between least most d = option_and_then (between least most) (option_and_then as_i64 (as_number d))

abbrev pub as_priority : ℤ → Option ℤ
as_priority z = if is_priority z then Some z else None

-- a whole number of 32 bits with a sign
abbrev pub priority_in : Data → Option ℤ
priority_in d = option_and_then as_priority (option_and_then as_i64 (as_number d))

-- ---- truth values and texts

abbrev pub bool_or : Bool → List ℕ → Data → Option Bool
bool_or meant key d = or_default meant as_bool (given_at key d)

abbrev pub bool_if_given : List ℕ → Data → Option (Option Bool)
bool_if_given key d = if_given as_bool (given_at key d)

-- an empty text is as absent
abbrev pub unless_empty : List ℕ → Option (List ℕ)
unless_empty text = if length text == 0 then None else Some text

abbrev pub up_to : ℕ → List ℕ → Option (List ℕ)
up_to most text = if nat_le (length text) most then Some text else None

-- a text of no more bytes than that, where it is none where it is empty
abbrev pub text_up_to : ℕ → Data → Option (Option (List ℕ))
text_up_to most d = option_map unless_empty (option_and_then (up_to most) (as_str d))

-- a text that may be left out
abbrev pub text_if_given : ℕ → List ℕ → Data → Option (Option (List ℕ))
text_if_given most key d = or_default None (text_up_to most) (given_at key d)
