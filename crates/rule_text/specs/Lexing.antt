-- Reading one token: it and what is left behind it, or what is left where no token goes on.
use Rattle.std.specs.Prelude.{◌≡◌, ℕ, ◌==◌, nat_lt, ◌&&◌, ◌||◌, List, [], ◌∷◌, ◌++◌, length, take, drop, codes, Bool, true, false, Option, Some, None, Result, Ok, Err, if◌then◌else◌}
use Rattle.std.specs.List.{list_any, find}
use Rattle.std.specs.Str.{str_to_ascii_lowercase}
use Rattle.rule_conditions.specs.Lexing.{is_begun, is_field_name, is_comparison_byte, comparison_token, symbol_or, quoted_at, number_token}
use Rattle.rule_conditions.specs.Tokens as grammar
use Rattle.rule_conditions.specs.Tokens.{is_digit, is_end_of_word}
use Rattle.rule_conditions.specs.declared.condition.Atom.TheVariants as atoms
use Rattle.rule_text.specs.declared.words.TheConstants.{WORDS}
use Rattle.rule_text.specs.declared.outline.Outline.{Outline}
use Rattle.rule_text.specs.declared.stop.Stop.{Stop}
use Rattle.rule_text.specs.declared.stop.Stop.TheVariants as stops
use Rattle.rule_text.specs.declared.tokens.Word.{Word}
use Rattle.rule_text.specs.declared.tokens.Word.TheVariants as words
use Rattle.rule_text.specs.Outline.{takes_atom, takes_text, takes_sign, takes_test, takes_open, takes_close, takes_word}

-- what a function stopped with is where reading stops, unless memory ran out
abbrev pub Stops : {Y : Type 0} → Stop → Result Y (List ℕ) → Type 0
Stops (stops.At rest) read = read ≡ Err rest.now
Stops stops.Memory read = Unit {0}

-- what a function returned, seen by view, is what reading gives, unless memory ran out
abbrev pub Gives : {X Y : Type 0} → (X → Y) → Result X Stop → Result Y (List ℕ) → Type 0
Gives view (Ok x) read = read ≡ Ok (view x)
Gives view (Err e) read = Stops e read

abbrev pub spelled : Word → List ℕ
spelled words.Or = codes "or"
spelled words.And = codes "and"
spelled words.Not = codes "not"
spelled words.Is = codes "is"
spelled words.Like = codes "like"
spelled words.Null = codes "null"
spelled words.Priority = codes "tab.priority"
spelled words.Corr = codes "tab.corrid"
spelled words.Cell = codes "tab.user_data."
spelled words.Prop = codes "tab.user_prop."

-- a name stands behind the word's letters
abbrev pub is_named : Word → Bool
is_named words.Or = false
is_named words.And = false
is_named words.Not = false
is_named words.Is = false
is_named words.Like = false
is_named words.Null = false
is_named words.Priority = false
is_named words.Corr = false
is_named words.Cell = true
is_named words.Prop = true

-- the word begins with the head; what stands behind its letters is a name
abbrev pub begins_word : Word → List ℕ → Bool
begins_word word head =
    if is_named word && nat_lt (length (spelled word)) (length head)
    then is_begun (spelled word) (take (length (spelled word)) head) && is_field_name (drop (length (spelled word)) head)
    else is_begun (spelled word) head

abbrev pub is_whole : Word → List ℕ → Bool
is_whole word head =
    (if is_named word then nat_lt (length (spelled word)) (length head) else (length head == length (spelled word))) && begins_word word head

unfoldable pub begins_any : Outline → List ℕ → Bool
begins_any s head = list_any (λ word. takes_word s word && begins_word word head) WORDS

unfoldable pub found_word : Outline → List ℕ → Option Word
found_word s head = find (λ word. takes_word s word && is_whole word head) WORDS

-- The head, and as much more as goes on with a word that may come; and what is left behind it.
abbrev pub word_split : Outline → List ℕ → List ℕ → List ℕ × List ℕ
word_split s head [] = (head, [])
word_split s head (b ∷ rest) = if begins_any s (head ++ b ∷ []) then word_split s (head ++ b ∷ []) rest else (head, b ∷ rest)

abbrev pub word_token : Word → List ℕ → grammar.Token
word_token words.Or head = grammar.OrWord
word_token words.And head = grammar.AndWord
word_token words.Not head = grammar.NotWord
word_token words.Is head = grammar.IsWord
word_token words.Like head = grammar.LikeWord
word_token words.Null head = grammar.Operand atoms.Null
word_token words.Priority head = grammar.Operand atoms.Priority
word_token words.Corr head = grammar.Operand atoms.Corr
word_token words.Cell head = grammar.Operand (atoms.Cell (str_to_ascii_lowercase (drop (length (spelled words.Cell)) head)))
word_token words.Prop head = grammar.Operand (atoms.Prop (str_to_ascii_lowercase (drop (length (spelled words.Prop)) head)))

-- a whole word where it may end
abbrev pub ended_word : Option Word → List ℕ → List ℕ → Result (grammar.Token × List ℕ) (List ℕ)
ended_word None head rest = Err rest
ended_word (Some word) head rest = if is_end_of_word rest then Ok (word_token word head, rest) else Err rest

abbrev pub word_at : Outline → List ℕ → Result (grammar.Token × List ℕ) (List ℕ)
word_at s text = let x = word_split s [] text in ended_word (found_word s x.0) x.0 x.1

abbrev pub parenthesis : Outline → ℕ → Option grammar.Token
parenthesis s byte =
    if byte == 40 && takes_open s then Some grammar.Open
    else (if byte == 41 && takes_close s then Some grammar.Close else None)

-- the token that is this byte alone, where it may come
abbrev pub symbol : Outline → ℕ → Option grammar.Token
symbol s byte =
    if byte == 42 && takes_sign s.phase then Some grammar.Times
    else (if byte == 43 && takes_sign s.phase then Some grammar.Plus
    else (if byte == 45 && takes_sign s.phase then Some grammar.Minus else parenthesis s byte))

-- a token that is no number and no text
abbrev pub other_at : Outline → ℕ → List ℕ → Result (grammar.Token × List ℕ) (List ℕ)
other_at s byte rest =
    symbol_or (symbol s byte) rest
    (if takes_test s.phase && is_comparison_byte byte then comparison_token byte rest else word_at s (byte ∷ rest))

-- the token at the front, of those that may come
abbrev pub token_at : Outline → List ℕ → Result (grammar.Token × List ℕ) (List ℕ)
token_at s [] = Err []
token_at s (b ∷ rest) =
    if b == 39 && takes_text s.phase then quoted_at rest
    else (if (is_digit b || b == 45) && takes_atom s.phase then number_token (b ∷ rest) else other_at s b rest)
