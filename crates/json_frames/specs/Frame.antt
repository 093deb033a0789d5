-- JSON texts that are the same but for one object that stands in them.
use Rattle.std.specs.Prelude.{◌≡◌, ◌&&◌, ◌||◌, ◌==◌, ◌++◌, ◌+◌, ℕ, List, [], ◌∷◌, fold, take, drop, position, is_some, option_map, option_and_then, Bool, true, false, not, if◌then◌else◌, Option, Some, None}
use Rattle.std.specs.List.{list_all}
use Rattle.std.specs.Str.{is_utf8}
use Rattle.json.specs.Word.{is_operator, is_space}
use Rattle.serde_json.specs.Data.{Data, object, Members, no_members, member}
use Rattle.serde_json.specs.Read.{read}
use Rattle.json_frames.specs.declared.mode.Mode.{Mode}
use Rattle.json_frames.specs.declared.mode.Mode.TheVariants.{Between, InWord, InString}

-- where a text stands behind one more byte: 34 is the quote
abbrev pub step : Mode → ℕ → Mode
step Between byte = if byte == 34 then InString else (if is_operator byte || is_space byte then Between else InWord)
step InWord byte = if is_operator byte || is_space byte then Between else InWord
step InString byte = if byte == 34 then Between else InString

abbrev pub is_between : Mode → Bool
is_between Between = true
is_between InWord = false
is_between InString = false

-- a byte that opens no object and no list, and begins no escape
abbrev pub is_plain : ℕ → Bool
is_plain byte = not (byte == 123 || byte == 91 || byte == 92)

-- plain bytes behind the brace that opens an object
abbrev pub opens_plain : List ℕ → Bool
opens_plain [] = false
opens_plain (byte ∷ rest) = byte == 123 && list_all is_plain rest

-- and no string and no word goes on behind them
abbrev pub is_open : List ℕ → Bool
is_open [] = false
is_open (byte ∷ rest) = byte == 123 && list_all is_plain rest && is_between (fold step Between rest)

abbrev pub ends_at : ℕ → List ℕ → Bool
ends_at byte [] = false
ends_at byte (last ∷ []) = last == byte
ends_at byte (first ∷ next ∷ rest) = ends_at byte (next ∷ rest)

-- an object up to the colon before one of its values, with no object and no list within
abbrev pub is_front : List ℕ → Bool
is_front text = is_open text && ends_at 58 text

-- from one brace to another, with no object and no list within, and without escapes
abbrev pub is_flat : List ℕ → Bool
is_flat text = opens_plain text && ends_at 125 text

-- the JSON value that a text is
abbrev pub json_of : List ℕ → Option Data
json_of text = if is_utf8 text then read text else None

-- an object's members, some of them still without their value
pub data Slots : Type 0 where
  no_slots : Slots
  slot : List ℕ → Option Data → Slots → Slots

-- with one value for those that have none
abbrev pub fill : Slots → Data → Members
fill no_slots d = no_members
fill (slot key None rest) d = member key d (fill rest d)
fill (slot key (Some has) rest) d = member key has (fill rest d)

-- where the first object within a text opens that opens an object itself: what stands before it, and what behind the first brace that closes one
abbrev pub cut_around : List ℕ → Option (List ℕ × List ℕ)
cut_around [] = None
cut_around (first ∷ text) =
    option_and_then
    (λ at. option_map (λ close. (first ∷ take at text, drop (close + 1) (drop at text))) (position (λ byte. byte == 125) (drop at text)))
    (position (λ byte. byte == 123) text)

-- any object may stand between the two: `{}` can
abbrev pub is_around : List ℕ → List ℕ → Bool
is_around front back = is_front front && is_utf8 front && is_utf8 back && is_some (json_of (front ++ ((123 ∷ 125 ∷ []) ++ back)))

-- the frame of a text
abbrev pub frame_of : List ℕ → Option (List ℕ × List ℕ)
frame_of text = option_and_then (λ cut. if is_around cut.0 cut.1 then Some cut else None) (cut_around text)

-- whichever object stands between the two texts, the whole is one object that is the same but for it
unfoldable pub IsFrame : List ℕ → List ℕ → Type 0
IsFrame front back = (slots : Slots)
    × ((inner : List ℕ) (d : Data) → is_flat inner ≡ true → json_of inner ≡ Some d
    → json_of (front ++ (inner ++ back)) ≡ Some (object (fill slots d)))
