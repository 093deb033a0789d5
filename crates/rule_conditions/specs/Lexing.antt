-- Reading one token: it and what is left behind it, or what is left where no token goes on that may come.
use Rattle.std.specs.Prelude.{ℕ, ◌+◌, ◌-◌, ◌*◌, ◌==◌, nat_lt, nat_le, ◌&&◌, ◌||◌, ℤ, pos, neg_ℤ, List, [], ◌∷◌, ◌++◌, length, take, drop, codes, Bool, true, false, Option, Some, None, Result, Ok, Err, if◌then◌else◌}
use Rattle.std.specs.Char.{to_ascii_lowercase}
use Rattle.std.specs.List.{list_any, list_all, find}
use Rattle.std.specs.Str.{str_to_ascii_lowercase}
use Rattle.payload_records.specs.Name.{is_name_byte, is_small_letter}
use Rattle.payload_records.specs.declared.TheConstants.{NAME_LIMIT}
use Rattle.rule_conditions.specs.Tokens.{Token, OrWord, AndWord, NotWord, IsWord, LikeWord, Operand, Compared, Plus, Minus, Times, Open, Close, is_space, is_digit, is_word_byte, is_end_of_word}
use Rattle.rule_conditions.specs.Outline.{Outline, may_come}
use Rattle.rule_conditions.specs.declared.TheConstants.{TEXT_LIMIT}
use Rattle.rule_conditions.specs.declared.condition.Atom.TheVariants as atoms
use Rattle.rule_conditions.specs.declared.condition.Cmp.{Cmp}
use Rattle.rule_conditions.specs.declared.condition.Cmp.TheVariants as cmps

-- something read and what is left behind it, or what is left where it does not go on
abbrev pub Piece : Type 0 → Type 0
Piece X = Result (X × List ℕ) (List ℕ)

abbrev pub as_token : {X : Type 0} → (X → Token) → Piece X → Piece Token
as_token token (Ok x) = Ok (token x.0, x.1)
as_token token (Err rest) = Err rest

-- what is left behind the space at the front
abbrev pub behind_space : List ℕ → List ℕ
behind_space [] = []
behind_space (b ∷ rest) = if is_space b then behind_space rest else b ∷ rest

-- ---- numbers

-- the greatest number without its sign
abbrev pub limit : Bool → ℕ
limit true = 0x8000_0000_0000_0000
limit false = 0x7fff_ffff_ffff_ffff

abbrev pub signed : Bool → ℕ → ℤ
signed true n = neg_ℤ (pos n)
signed false n = pos n

-- behind a digit, where the number so far is this without its sign
abbrev pub digits_at : Bool → ℕ → List ℕ → Piece ℕ
digits_at negative n [] = Ok (n, [])
digits_at negative n (b ∷ rest) =
    if is_digit b then (if nat_le (n * 10 + (b - 48)) (limit negative) then digits_at negative (n * 10 + (b - 48)) rest else Err (b ∷ rest))
    else (if is_word_byte b then Err (b ∷ rest) else Ok (n, b ∷ rest))

abbrev pub signed_at : Bool → Piece ℕ → Piece ℤ
signed_at negative (Ok x) = Ok (signed negative x.0, x.1)
signed_at negative (Err rest) = Err rest

abbrev pub unsigned_at : Bool → List ℕ → Piece ℤ
unsigned_at negative [] = Err []
unsigned_at negative (b ∷ rest) = if is_digit b then signed_at negative (digits_at negative (b - 48) rest) else Err (b ∷ rest)

-- 45 is the sign
abbrev pub number_at : List ℕ → Piece ℤ
number_at [] = Err []
number_at (b ∷ rest) = if b == 45 then unsigned_at true rest else unsigned_at false (b ∷ rest)

-- ---- texts

-- how many bytes the character has that begins with this one
abbrev pub char_len : ℕ → ℕ
char_len byte = if nat_lt byte 0x80 then 1 else (if nat_lt byte 0xe0 then 2 else (if nat_lt byte 0xf0 then 3 else 4))

-- the byte goes on with a character, or begins one that the content has room for
abbrev pub has_room : List ℕ → ℕ → Bool
has_room content byte = (nat_le 0x80 byte && nat_lt byte 0xc0) || nat_le (length content + char_len byte) TEXT_LIMIT

-- Behind a text's first apostrophe (39), where this is read of its content; the flag says that an apostrophe was read last,
-- which ends the text where no other follows.
abbrev pub content_at : List ℕ → Bool → List ℕ → Piece (List ℕ)
content_at content false [] = Err []
content_at content true [] = Ok (content, [])
content_at content false (b ∷ rest) =
    if b == 39 then content_at content true rest
    else (if has_room content b then content_at (content ++ b ∷ []) false rest else Err (b ∷ rest))
content_at content true (b ∷ rest) =
    if b == 39 then (if has_room content b then content_at (content ++ b ∷ []) false rest else Err (b ∷ rest))
    else Ok (content, b ∷ rest)

-- ---- words

-- these small letters begin with the head, in letters of either case
abbrev pub is_begun : List ℕ → List ℕ → Bool
is_begun letters [] = true
is_begun [] (byte ∷ head) = false
is_begun (letter ∷ letters) (byte ∷ head) = (to_ascii_lowercase byte == letter) && is_begun letters head

-- a name in letters of either case
abbrev pub is_field_name : List ℕ → Bool
is_field_name [] = false
is_field_name (first ∷ rest) =
    is_small_letter (to_ascii_lowercase first) && list_all (λ b. is_name_byte (to_ascii_lowercase b)) (first ∷ rest) && nat_le (length (first ∷ rest)) NAME_LIMIT

-- a word: its small letters, whether a name stands behind them, and the token that it is with this name
pub record Word : Type 0 where
  pub letters : List ℕ
  pub named : Bool
  pub token : List ℕ → Token

abbrev pub plain : List ℕ → Token → Word
plain letters token = record { letters = letters; named = false; token = λ name. token }

abbrev pub words : List Word
words =
    plain (codes "or") OrWord
    ∷ plain (codes "and") AndWord
    ∷ plain (codes "not") NotWord
    ∷ plain (codes "is") IsWord
    ∷ plain (codes "like") LikeWord
    ∷ plain (codes "null") (Operand atoms.Null)
    ∷ plain (codes "tab.priority") (Operand atoms.Priority)
    ∷ plain (codes "tab.corrid") (Operand atoms.Corr)
    ∷ record { letters = codes "tab.user_data."; named = true; token = λ name. Operand (atoms.Cell name) }
    ∷ record { letters = codes "tab.user_prop."; named = true; token = λ name. Operand (atoms.Prop name) }
    ∷ []

-- the word begins with the head; what stands behind its letters is a name
abbrev pub begins_word : Word → List ℕ → Bool
begins_word word head =
    if word.named && nat_lt (length word.letters) (length head)
    then is_begun word.letters (take (length word.letters) head) && is_field_name (drop (length word.letters) head)
    else is_begun word.letters head

-- the head is the word
abbrev pub is_whole : Word → List ℕ → Bool
is_whole word head =
    (if word.named then nat_lt (length word.letters) (length head) else (length head == length word.letters)) && begins_word word head

-- the word may come, with some name where it has one
abbrev pub word_may_come : Outline → Word → Bool
word_may_come s word = may_come s (word.token [])

-- some word that may come begins with the head
abbrev pub begins_any : Outline → List ℕ → Bool
begins_any s head = list_any (λ word. word_may_come s word && begins_word word head) words

abbrev pub found_word : Outline → List ℕ → Option Word
found_word s head = find (λ word. word_may_come s word && is_whole word head) words

-- the head, and as much more as goes on with a word that may come; and what is left behind it
abbrev pub word_split : Outline → List ℕ → List ℕ → List ℕ × List ℕ
word_split s head [] = (head, [])
word_split s head (b ∷ rest) = if begins_any s (head ++ b ∷ []) then word_split s (head ++ b ∷ []) rest else (head, b ∷ rest)

-- the token that the word is with the name that stands in the head
abbrev pub word_token : Word → List ℕ → Token
word_token word head = word.token (str_to_ascii_lowercase (drop (length word.letters) head))

-- a whole word where it may end
abbrev pub ended_word : Option Word → List ℕ → List ℕ → Piece Token
ended_word None head rest = Err rest
ended_word (Some word) head rest = if is_end_of_word rest then Ok (word_token word head, rest) else Err rest

abbrev pub word_at : Outline → List ℕ → Piece Token
word_at s text = let x = word_split s [] text in ended_word (found_word s x.0) x.0 x.1

-- ---- signs

-- `=`, `<`, `>` and `!`
abbrev pub is_comparison_byte : ℕ → Bool
is_comparison_byte byte = byte == 61 || byte == 60 || byte == 62 || byte == 33

abbrev pub behind_less : List ℕ → Cmp × List ℕ
behind_less [] = (cmps.Less, [])
behind_less (b ∷ rest) = if b == 61 then (cmps.LessEqual, rest) else (if b == 62 then (cmps.Unequal, rest) else (cmps.Less, b ∷ rest))

abbrev pub behind_greater : List ℕ → Cmp × List ℕ
behind_greater [] = (cmps.Greater, [])
behind_greater (b ∷ rest) = if b == 61 then (cmps.GreaterEqual, rest) else (cmps.Greater, b ∷ rest)

abbrev pub behind_bang : List ℕ → Piece Cmp
behind_bang [] = Err []
behind_bang (b ∷ rest) = if b == 61 then Ok (cmps.Unequal, rest) else Err (b ∷ rest)

-- the sign of a comparison that begins with this byte
abbrev pub comparison_at : ℕ → List ℕ → Piece Cmp
comparison_at byte rest =
    if byte == 60 then Ok (behind_less rest)
    else (if byte == 62 then Ok (behind_greater rest)
    else (if byte == 33 then behind_bang rest else Ok (cmps.Equal, rest)))

-- the token that is this byte alone, where it may come
abbrev pub symbol : Outline → ℕ → Option Token
symbol s byte =
    if byte == 42 && may_come s Times then Some Times
    else (if byte == 43 && may_come s Plus then Some Plus
    else (if byte == 45 && may_come s Minus then Some Minus
    else (if byte == 40 && may_come s Open then Some Open
    else (if byte == 41 && may_come s Close then Some Close else None))))

abbrev pub symbol_or : Option Token → List ℕ → Piece Token → Piece Token
symbol_or None rest other = other
symbol_or (Some token) rest other = Ok (token, rest)

-- ---- tokens

abbrev pub quoted_at : List ℕ → Piece Token
quoted_at rest = as_token (λ content. Operand (atoms.Text content)) (content_at [] false rest)

abbrev pub number_token : List ℕ → Piece Token
number_token rest = as_token (λ z. Operand (atoms.Number z)) (number_at rest)

abbrev pub comparison_token : ℕ → List ℕ → Piece Token
comparison_token byte rest = as_token (λ how. Compared how) (comparison_at byte rest)

-- a token that is no number and no text
abbrev pub other_at : Outline → ℕ → List ℕ → Piece Token
other_at s byte rest =
    symbol_or (symbol s byte) rest
    (if may_come s (Compared cmps.Equal) && is_comparison_byte byte then comparison_token byte rest else word_at s (byte ∷ rest))

-- the token at the front, of those that may come
abbrev pub token_at : Outline → List ℕ → Piece Token
token_at s [] = Err []
token_at s (b ∷ rest) =
    if b == 39 && may_come s (Operand (atoms.Text [])) then quoted_at rest
    else (if (is_digit b || b == 45) && may_come s (Operand (atoms.Number (pos 0))) then number_token (b ∷ rest) else other_at s b rest)
