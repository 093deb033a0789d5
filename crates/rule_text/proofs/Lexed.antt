-- A token is read as the definitions read it.
use Rattle.std.proofs.Common.{◌≡◌, ◌==◌, ℕ, pos, List, [], ◌∷◌, ◌++◌, map, Bool, true, false, cond, ◌&&◌, ◌||◌, Option, Some, None, option_map, Result, Ok, Err, refl, ◌∙◌, ap}
use Rattle.std.specs.List.{list_any, find}
use Rattle.rule_conditions.specs.Lexing as told
use Rattle.rule_conditions.specs.Lexing.{is_comparison_byte, comparison_token, symbol_or, quoted_at, number_token}
use Rattle.rule_conditions.specs.Tokens as grammar
use Rattle.rule_conditions.specs.Tokens.{is_digit, is_end_of_word}
use Rattle.rule_conditions.specs.declared.condition.Atom.TheVariants as atoms
use Rattle.rule_conditions.specs.declared.condition.Cmp.TheVariants as cmps
use Rattle.rule_text.proofs.MayComeSame.{number_may, text_may, null_may, priority_may, corr_may, cell_may, prop_may, plus_may, minus_may, times_may, comparison_may, is_may, like_may, or_may, and_may, not_may, open_may, close_may}
use Rattle.rule_text.proofs.Outlined.{outline_of}
use Rattle.rule_text.specs.Lexing.{spelled, is_named, begins_word, is_whole, begins_any, found_word, word_split, word_token, ended_word, word_at, symbol, other_at, token_at}
use Rattle.rule_text.specs.Outline.{takes_word}
use Rattle.rule_text.specs.declared.outline.Outline.{Outline}
use Rattle.rule_text.specs.declared.tokens.Word.{Word}
use Rattle.rule_text.specs.declared.tokens.Word.TheVariants as words
use Rattle.rule_text.specs.declared.words.TheConstants.{WORDS}

-- the token that a word is with a name
abbrev token_of : Word → List ℕ → grammar.Token
token_of words.Or name = grammar.OrWord
token_of words.And name = grammar.AndWord
token_of words.Not name = grammar.NotWord
token_of words.Is name = grammar.IsWord
token_of words.Like name = grammar.LikeWord
token_of words.Null name = grammar.Operand atoms.Null
token_of words.Priority name = grammar.Operand atoms.Priority
token_of words.Corr name = grammar.Operand atoms.Corr
token_of words.Cell name = grammar.Operand (atoms.Cell name)
token_of words.Prop name = grammar.Operand (atoms.Prop name)

abbrev word_of : Word → told.Word
word_of w = record { letters = spelled w; named = is_named w; token = token_of w }

words_are : told.words ≡ map word_of WORDS
words_are = refl

word_may : (s : Outline) (w : Word) → told.word_may_come (outline_of s) (word_of w) ≡ takes_word s w
word_may s words.Or = or_may s
word_may s words.And = and_may s
word_may s words.Not = not_may s
word_may s words.Is = is_may s
word_may s words.Like = like_may s
word_may s words.Null = null_may s
word_may s words.Priority = priority_may s
word_may s words.Corr = corr_may s
word_may s words.Cell = cell_may s []
word_may s words.Prop = prop_may s []

token_same : (w : Word) (head : List ℕ) → told.word_token (word_of w) head ≡ word_token w head
token_same words.Or head = refl
token_same words.And head = refl
token_same words.Not head = refl
token_same words.Is head = refl
token_same words.Like head = refl
token_same words.Null head = refl
token_same words.Priority head = refl
token_same words.Corr head = refl
token_same words.Cell head = refl
token_same words.Prop head = refl

any_mapped : {A B : Type 0} (f : A → B) (p : B → Bool) (q : A → Bool) → ((a : A) → p (f a) ≡ q a) → (xs : List A) → list_any p (map f xs) ≡ list_any q xs
any_mapped f p q same [] = refl
any_mapped f p q same (x ∷ xs) = λ i. same x i || any_mapped f p q same xs i

cond_mapped : {A B : Type 0} (f : A → B) (b : Bool) (x : A) (o : Option A) → cond b (Some (f x)) (option_map f o) ≡ option_map f (cond b (Some x) o)
cond_mapped f true x o = refl
cond_mapped f false x o = refl

find_mapped : {A B : Type 0} (f : A → B) (p : B → Bool) (q : A → Bool) → ((a : A) → p (f a) ≡ q a) → (xs : List A) → find p (map f xs) ≡ option_map f (find q xs)
find_mapped f p q same [] = refl
find_mapped f p q same (x ∷ xs) = (λ i. cond (same x i) (Some (f x)) (find_mapped f p q same xs i)) ∙ cond_mapped f (q x) x (find q xs)

any_same : (s : Outline) (head : List ℕ) → told.begins_any (outline_of s) head ≡ begins_any s head
unfolding begins_any
any_same s head =
    any_mapped word_of (λ word. told.word_may_come (outline_of s) word && told.begins_word word head) (λ w. takes_word s w && begins_word w head) (λ w i. word_may s w i && begins_word w head) WORDS

found_same : (s : Outline) (head : List ℕ) → told.found_word (outline_of s) head ≡ option_map word_of (found_word s head)
unfolding found_word
found_same s head =
    find_mapped word_of (λ word. told.word_may_come (outline_of s) word && told.is_whole word head) (λ w. takes_word s w && is_whole w head) (λ w i. word_may s w i && is_whole w head) WORDS

split_same : (s : Outline) (head text : List ℕ) → told.word_split (outline_of s) head text ≡ word_split s head text
split_same s head [] = refl
split_same s head (b ∷ rest) = λ i. cond (any_same s (head ++ b ∷ []) i) (split_same s (head ++ b ∷ []) rest i) (head, b ∷ rest)

ended_same : (o : Option Word) (head rest : List ℕ) → told.ended_word (option_map word_of o) head rest ≡ ended_word o head rest
ended_same None head rest = refl
ended_same (Some w) head rest = λ i. cond (is_end_of_word rest) (Ok (token_same w head i, rest)) (Err rest)

word_at_same : (s : Outline) (text : List ℕ) → told.word_at (outline_of s) text ≡ word_at s text
word_at_same s text =
    let x = word_split s [] text in
    ap (λ (x : List ℕ × List ℕ). told.ended_word (told.found_word (outline_of s) x.0) x.0 x.1) (split_same s [] text)
    ∙ ap (λ (o : Option told.Word). told.ended_word o x.0 x.1) (found_same s x.0)
    ∙ ended_same (found_word s x.0) x.0 x.1

symbol_same : (s : Outline) (byte : ℕ) → told.symbol (outline_of s) byte ≡ symbol s byte
symbol_same s byte = λ i.
    cond (byte == 42 && times_may s i) (Some grammar.Times)
    (cond (byte == 43 && plus_may s i) (Some grammar.Plus)
    (cond (byte == 45 && minus_may s i) (Some grammar.Minus)
    (cond (byte == 40 && open_may s i) (Some grammar.Open)
    (cond (byte == 41 && close_may s i) (Some grammar.Close) None))))

other_same : (s : Outline) (byte : ℕ) (rest : List ℕ) → told.other_at (outline_of s) byte rest ≡ other_at s byte rest
other_same s byte rest = λ i.
    symbol_or (symbol_same s byte i) rest
    (cond (comparison_may s cmps.Equal i && is_comparison_byte byte) (comparison_token byte rest) (word_at_same s (byte ∷ rest) i))

pub lexed_same : (s : Outline) (text : List ℕ) → told.token_at (outline_of s) text ≡ token_at s text
lexed_same s [] = refl
lexed_same s (b ∷ rest) = λ i.
    cond (b == 39 && text_may s [] i) (quoted_at rest)
    (cond ((is_digit b || b == 45) && number_may s (pos 0) i) (number_token (b ∷ rest)) (other_same s b rest i))
