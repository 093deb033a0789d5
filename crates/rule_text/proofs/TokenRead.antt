-- A token that may come is read where it is spelled.
use Rattle.std.proofs.Common.{◌≡◌, ◌==◌, inl, inr, ℕ, ◌<◌, ◌≤◌, ℤ, List, [], ◌∷◌, ◌++◌, Bool, true, false, Option, Some, None, Result, Ok, refl, arith, sym, ◌∙◌, ap, subst, cond, ◌&&◌, ◌||◌}
use Rattle.std.proofs.lemmas.Bool.{and_from, and_left, and_right, or_parts}
use Rattle.std.proofs.lemmas.Bool.Decides.{nat_tests}
use Rattle.std.specs.Str.{str_to_ascii_lowercase}
use Rattle.rule_conditions.specs.Print.{doubled}
use Rattle.rule_conditions.specs.Tokens as grammar
use Rattle.rule_conditions.specs.Tokens.{is_space, is_digit, is_end_of_word, is_word, may_end, Spells, SpellsText}
use Rattle.rule_conditions.specs.declared.condition.Atom.{Atom}
use Rattle.rule_conditions.specs.declared.condition.Atom.TheVariants as atoms
use Rattle.rule_conditions.specs.declared.condition.Cmp.{Cmp}
use Rattle.rule_conditions.specs.declared.condition.Cmp.TheVariants as cmps
use Rattle.rule_text.proofs.Choosing.{yes_cond, no_cond}
use Rattle.rule_text.proofs.MayCome.{plain_may, null_may, text_may, is_may, comparison_may, like_may, sign_may, times_may, not_may, open_may, and_may, or_may, close_may}
use Rattle.rule_text.proofs.NumberRead.{number_read, number_first, begins_number}
use Rattle.rule_text.proofs.Sound.{mapped}
use Rattle.rule_text.proofs.TextRead.{begins_quote, text_split, text_read, text_first}
use Rattle.rule_text.proofs.WordRead.{IsWordText, word_reads, fixed_text, field_text, field_token, prop_text, prop_token, word_first}
use Rattle.rule_conditions.specs.Lexing.{symbol_or, comparison_token, behind_less, behind_greater, is_comparison_byte, as_token, number_token, quoted_at}
use Rattle.rule_text.specs.Lexing.{token_at, word_at, word_token, is_named, spelled, symbol, other_at}
use Rattle.rule_text.specs.Outline.{takes_word, takes_text, takes_atom, takes_test, takes_sign, takes_open, takes_close, step, inner_step, phase_after, with_phase}
use Rattle.rule_text.specs.declared.outline.Outline.{Outline}
use Rattle.rule_text.specs.declared.outline.Phase.{Phase}
use Rattle.rule_text.specs.declared.tokens.Word.{Word}
use Rattle.rule_text.specs.declared.tokens.Word.TheVariants as words

abbrev TokenResult : Type 0
TokenResult = Result (grammar.Token × List ℕ) (List ℕ)

abbrev taken : grammar.Token → List ℕ → TokenResult
taken token rest = Ok (token, rest)

-- words

no_quote : (b : ℕ) → 64 < b → (b == 39) ≡ false
no_quote b h = grind (arith, nat_tests)

no_number : (b : ℕ) → 64 < b → begins_number b ≡ false
no_number b h = grind (arith, nat_tests)

no_sign : (b sign : ℕ) → 64 < b → sign ≤ 64 → (b == sign) ≡ false
no_sign b sign h l = grind (arith, nat_tests)

no_comparison : (b : ℕ) → 64 < b → is_comparison_byte b ≡ false
no_comparison b h = grind (arith, nat_tests)

no_symbol : (s : Outline) (b : ℕ) → 64 < b → symbol s b ≡ None
no_symbol s b h =
    let none : Option grammar.Token = None in
    let close = no_cond (b == 41 && takes_close s) (Some grammar.Close) none (and_left _ _ (no_sign b 41 h (omega arith))) in
    let open_ = no_cond (b == 40 && takes_open s) (Some grammar.Open) (cond (b == 41 && takes_close s) (Some grammar.Close) none) (and_left _ _ (no_sign b 40 h (omega arith))) in
    no_cond (b == 42 && takes_sign s.phase) (Some grammar.Times) _ (and_left _ _ (no_sign b 42 h (omega arith)))
    ∙ no_cond (b == 43 && takes_sign s.phase) (Some grammar.Plus) _ (and_left _ _ (no_sign b 43 h (omega arith)))
    ∙ no_cond (b == 45 && takes_sign s.phase) (Some grammar.Minus) _ (and_left _ _ (no_sign b 45 h (omega arith)))
    ∙ open_ ∙ close

letter_at : (s : Outline) (b : ℕ) (rest : List ℕ) → 64 < b → token_at s (b ∷ rest) ≡ word_at s (b ∷ rest)
letter_at s b rest h =
    no_cond (b == 39 && takes_text s.phase) (quoted_at rest) (cond (begins_number b && takes_atom s.phase) (number_token (b ∷ rest)) (other_at s b rest)) (and_left _ _ (no_quote b h))
    ∙ no_cond (begins_number b && takes_atom s.phase) (number_token (b ∷ rest)) (other_at s b rest) (and_left _ _ (no_number b h))
    ∙ ap (λ (o : Option grammar.Token). symbol_or o rest (cond (takes_test s.phase && is_comparison_byte b) (comparison_token b rest) (word_at s (b ∷ rest)))) (no_symbol s b h)
    ∙ no_cond (takes_test s.phase && is_comparison_byte b) (comparison_token b rest) (word_at s (b ∷ rest)) (and_right _ _ (no_comparison b h))

word_token_at : (s : Outline) (w : Word) (text rest : List ℕ) → takes_word s w ≡ true → IsWordText w text → is_end_of_word rest ≡ true → token_at s (text ++ rest) ≡ taken (word_token w text) rest
word_token_at s w text rest t is ends =
    let f = word_first w text is in
    let word_so : token_at s ((f.0 ∷ f.1) ++ rest) ≡ word_at s ((f.0 ∷ f.1) ++ rest) = letter_at s f.0 (f.1 ++ rest) f.3 in
    let same : token_at s (text ++ rest) ≡ word_at s (text ++ rest) = subst (λ (x : List ℕ). token_at s (x ++ rest) ≡ word_at s (x ++ rest)) (sym f.2) word_so in
    same ∙ word_reads s w text rest t is ends

-- numbers and texts

quote_is_no_number : (b : ℕ) → begins_number b ≡ true → (b == 39) ≡ false
quote_is_no_number b h = grind (arith, nat_tests)

number_at_first : (s : Outline) (b : ℕ) (rest : List ℕ) → begins_number b ≡ true → takes_atom s.phase ≡ true → token_at s (b ∷ rest) ≡ number_token (b ∷ rest)
number_at_first s b rest h t =
    no_cond (b == 39 && takes_text s.phase) (quoted_at rest) (cond (begins_number b && takes_atom s.phase) (number_token (b ∷ rest)) (other_at s b rest)) (and_left _ _ (quote_is_no_number b h))
    ∙ yes_cond (begins_number b && takes_atom s.phase) (number_token (b ∷ rest)) (other_at s b rest) (and_from _ _ h t)

number_token_at : (s : Outline) (z : ℤ) (word rest : List ℕ) → takes_atom s.phase ≡ true → Spells (grammar.Operand (atoms.Number z)) word → is_end_of_word rest ≡ true → token_at s (word ++ rest) ≡ taken (grammar.Operand (atoms.Number z)) rest
number_token_at s z word rest t spells ends =
    let f = number_first z word spells in
    let first : token_at s ((f.0 ∷ f.1) ++ rest) ≡ number_token ((f.0 ∷ f.1) ++ rest) = number_at_first s f.0 (f.1 ++ rest) f.3 t in
    let same : token_at s (word ++ rest) ≡ number_token (word ++ rest) = subst (λ (x : List ℕ). token_at s (x ++ rest) ≡ number_token (x ++ rest)) (sym f.2) first in
    same ∙ ap (λ (r : Result (ℤ × List ℕ) (List ℕ)). as_token (λ x. grammar.Operand (atoms.Number x)) r) (number_read z word rest spells ends)

text_token_at : (s : Outline) (content word rest : List ℕ) → takes_text s.phase ≡ true → SpellsText content word → begins_quote rest ≡ false → token_at s (word ++ rest) ≡ taken (grammar.Operand (atoms.Text content)) rest
text_token_at s content word rest t spells clear =
    let after = doubled content ++ 39 ∷ rest in
    ap (token_at s) (text_split content word rest spells)
    ∙ yes_cond (takes_text s.phase) (quoted_at after) (cond (begins_number 39 && takes_atom s.phase) (number_token (39 ∷ after)) (other_at s 39 after)) t
    ∙ ap (λ (r : Result (List ℕ × List ℕ) (List ℕ)). as_token (λ x. grammar.Operand (atoms.Text x)) r) (text_read content word rest spells clear)

-- comparisons

-- `=` or `>` stands first
abbrev pub begins_second : List ℕ → Bool
begins_second [] = false
begins_second (b ∷ rest) = b == 61 || b == 62

less_clear : (rest : List ℕ) → begins_second rest ≡ false → behind_less rest ≡ (cmps.Less, rest)
less_clear [] e = refl
less_clear (b ∷ rest) e =
    let both = or_parts _ _ e in
    no_cond (b == 61) (cmps.LessEqual, rest) (cond (b == 62) (cmps.Unequal, rest) (cmps.Less, b ∷ rest)) both.0
    ∙ no_cond (b == 62) (cmps.Unequal, rest) (cmps.Less, b ∷ rest) both.1

greater_clear : (rest : List ℕ) → begins_second rest ≡ false → behind_greater rest ≡ (cmps.Greater, rest)
greater_clear [] e = refl
greater_clear (b ∷ rest) e = no_cond (b == 61) (cmps.GreaterEqual, rest) (cmps.Greater, b ∷ rest) (or_parts _ _ e).0

abbrev pair_taken : Cmp × List ℕ → TokenResult
pair_taken x = Ok (grammar.Compared x.0, x.1)

equal_at : (s : Outline) (rest : List ℕ) → takes_test s.phase ≡ true → token_at s (61 ∷ rest) ≡ taken (grammar.Compared cmps.Equal) rest
equal_at s rest t = yes_cond (takes_test s.phase && true) (comparison_token 61 rest) (word_at s (61 ∷ rest)) (and_from _ _ t refl)

less_at : (s : Outline) (rest : List ℕ) → takes_test s.phase ≡ true → token_at s (60 ∷ rest) ≡ pair_taken (behind_less rest)
less_at s rest t = yes_cond (takes_test s.phase && true) (comparison_token 60 rest) (word_at s (60 ∷ rest)) (and_from _ _ t refl)

greater_at : (s : Outline) (rest : List ℕ) → takes_test s.phase ≡ true → token_at s (62 ∷ rest) ≡ pair_taken (behind_greater rest)
greater_at s rest t = yes_cond (takes_test s.phase && true) (comparison_token 62 rest) (word_at s (62 ∷ rest)) (and_from _ _ t refl)

bang_at : (s : Outline) (rest : List ℕ) → takes_test s.phase ≡ true → token_at s (33 ∷ 61 ∷ rest) ≡ taken (grammar.Compared cmps.Unequal) rest
bang_at s rest t = yes_cond (takes_test s.phase && true) (comparison_token 33 (61 ∷ rest)) (word_at s (33 ∷ 61 ∷ rest)) (and_from _ _ t refl)

comparison_token_at : (s : Outline) (how : Cmp) (word rest : List ℕ) → takes_test s.phase ≡ true → Spells (grammar.Compared how) word → begins_second rest ≡ false → token_at s (word ++ rest) ≡ taken (grammar.Compared how) rest
comparison_token_at s cmps.Equal word rest t e clear = ap (λ (x : List ℕ). token_at s (x ++ rest)) e ∙ equal_at s rest t
comparison_token_at s cmps.Unequal word rest t (inl e) clear = ap (λ (x : List ℕ). token_at s (x ++ rest)) e ∙ less_at s (62 ∷ rest) t
comparison_token_at s cmps.Unequal word rest t (inr e) clear = ap (λ (x : List ℕ). token_at s (x ++ rest)) e ∙ bang_at s rest t
comparison_token_at s cmps.Less word rest t e clear = ap (λ (x : List ℕ). token_at s (x ++ rest)) e ∙ less_at s rest t ∙ ap pair_taken (less_clear rest clear)
comparison_token_at s cmps.LessEqual word rest t e clear = ap (λ (x : List ℕ). token_at s (x ++ rest)) e ∙ less_at s (61 ∷ rest) t
comparison_token_at s cmps.Greater word rest t e clear = ap (λ (x : List ℕ). token_at s (x ++ rest)) e ∙ greater_at s rest t ∙ ap pair_taken (greater_clear rest clear)
comparison_token_at s cmps.GreaterEqual word rest t e clear = ap (λ (x : List ℕ). token_at s (x ++ rest)) e ∙ greater_at s (61 ∷ rest) t

-- signs

abbrev may_be : Bool → grammar.Token → Option grammar.Token → List ℕ → TokenResult → TokenResult
may_be may token other rest otherwise = symbol_or (cond may (Some token) other) rest otherwise

may_be_yes : (may : Bool) (token : grammar.Token) (other : Option grammar.Token) (rest : List ℕ) (otherwise : TokenResult) → may ≡ true → may_be may token other rest otherwise ≡ taken token rest
may_be_yes may token other rest otherwise h = ap (λ (o : Option grammar.Token). symbol_or o rest otherwise) (yes_cond may (Some token) other h)

abbrev no_symbol_at : Outline → ℕ → List ℕ → TokenResult
no_symbol_at s b rest = cond (takes_test s.phase && is_comparison_byte b) (comparison_token b rest) (word_at s (b ∷ rest))

plus_at : (s : Outline) (rest : List ℕ) → takes_sign s.phase ≡ true → token_at s (43 ∷ rest) ≡ taken grammar.Plus rest
plus_at s rest t = may_be_yes (takes_sign s.phase) grammar.Plus None rest (no_symbol_at s 43 rest) t

times_at : (s : Outline) (rest : List ℕ) → takes_sign s.phase ≡ true → token_at s (42 ∷ rest) ≡ taken grammar.Times rest
times_at s rest t = may_be_yes (takes_sign s.phase) grammar.Times None rest (no_symbol_at s 42 rest) t

minus_at : (s : Outline) (rest : List ℕ) → takes_sign s.phase ≡ true → takes_atom s.phase ≡ false → token_at s (45 ∷ rest) ≡ taken grammar.Minus rest
minus_at s rest t a =
    no_cond (takes_atom s.phase) (number_token (45 ∷ rest)) (other_at s 45 rest) a
    ∙ may_be_yes (takes_sign s.phase) grammar.Minus None rest (no_symbol_at s 45 rest) t

open_at : (s : Outline) (rest : List ℕ) → takes_open s ≡ true → token_at s (40 ∷ rest) ≡ taken grammar.Open rest
open_at s rest t = may_be_yes (takes_open s) grammar.Open None rest (no_symbol_at s 40 rest) t

close_at : (s : Outline) (rest : List ℕ) → takes_close s ≡ true → token_at s (41 ∷ rest) ≡ taken grammar.Close rest
close_at s rest t = may_be_yes (takes_close s) grammar.Close None rest (no_symbol_at s 41 rest) t

-- all tokens

-- nothing stands first that a text goes on with, nor a comparison
pub record Clear (token : grammar.Token) (rest : List ℕ) : Type 0 where
  pub quote : (content : List ℕ) → token ≡ grammar.Operand (atoms.Text content) → begins_quote rest ≡ false
  pub second : (how : Cmp) → token ≡ grammar.Compared how → begins_second rest ≡ false

inner : (s next : Outline) (token : grammar.Token) → inner_step s token ≡ Some next → (ph : Phase) × (phase_after s.phase token ≡ Some ph)
inner s next token h = let m = mapped (with_phase s) (phase_after s.phase token) next h in (m.0, m.1)

fixed_at : (s : Outline) (w : Word) (text rest : List ℕ) → takes_word s w ≡ true → is_named w ≡ false → str_to_ascii_lowercase text ≡ spelled w → is_end_of_word rest ≡ true → token_at s (text ++ rest) ≡ taken (word_token w text) rest
fixed_at s w text rest t c e ends = word_token_at s w text rest t (fixed_text w text c e) ends

cell_at : (s : Outline) (name text rest : List ℕ) → takes_atom s.phase ≡ true → Spells (grammar.Operand (atoms.Cell name)) text → is_end_of_word rest ≡ true → token_at s (text ++ rest) ≡ taken (grammar.Operand (atoms.Cell name)) rest
cell_at s name text rest t spells ends =
    word_token_at s words.Cell text rest t (field_text name text spells) ends
    ∙ ap (λ (x : List ℕ). taken (grammar.Operand (atoms.Cell x)) rest) (field_token name text spells)

prop_at : (s : Outline) (name text rest : List ℕ) → takes_atom s.phase ≡ true → Spells (grammar.Operand (atoms.Prop name)) text → is_end_of_word rest ≡ true → token_at s (text ++ rest) ≡ taken (grammar.Operand (atoms.Prop name)) rest
prop_at s name text rest t spells ends =
    word_token_at s words.Prop text rest t (prop_text name text spells) ends
    ∙ ap (λ (x : List ℕ). taken (grammar.Operand (atoms.Prop x)) rest) (prop_token name text spells)

atom_at : (s next : Outline) (atom : Atom) (word rest : List ℕ) → Spells (grammar.Operand atom) word → may_end (grammar.Operand atom) rest ≡ true → Clear (grammar.Operand atom) rest → step s (grammar.Operand atom) ≡ Some next → token_at s (word ++ rest) ≡ taken (grammar.Operand atom) rest
atom_at s next (atoms.Number z) word rest spells ends clear h = let i = inner s next (grammar.Operand (atoms.Number z)) h in number_token_at s z word rest (plain_may s.phase i.0 (atoms.Number z) refl i.1) spells ends
atom_at s next (atoms.Text content) word rest spells ends clear h = let i = inner s next (grammar.Operand (atoms.Text content)) h in text_token_at s content word rest (text_may s.phase i.0 content i.1) spells (clear.quote content refl)
atom_at s next atoms.Null word rest spells ends clear h = let i = inner s next (grammar.Operand atoms.Null) h in fixed_at s words.Null word rest (null_may s.phase i.0 i.1) refl spells ends
atom_at s next atoms.Priority word rest spells ends clear h = let i = inner s next (grammar.Operand atoms.Priority) h in fixed_at s words.Priority word rest (plain_may s.phase i.0 atoms.Priority refl i.1) refl spells ends
atom_at s next atoms.Corr word rest spells ends clear h = let i = inner s next (grammar.Operand atoms.Corr) h in fixed_at s words.Corr word rest (plain_may s.phase i.0 atoms.Corr refl i.1) refl spells ends
atom_at s next (atoms.Cell name) word rest spells ends clear h = let i = inner s next (grammar.Operand (atoms.Cell name)) h in cell_at s name word rest (plain_may s.phase i.0 (atoms.Cell name) refl i.1) spells ends
atom_at s next (atoms.Prop name) word rest spells ends clear h = let i = inner s next (grammar.Operand (atoms.Prop name)) h in prop_at s name word rest (plain_may s.phase i.0 (atoms.Prop name) refl i.1) spells ends

pub token_read : (s next : Outline) (token : grammar.Token) (word rest : List ℕ) → Spells token word → may_end token rest ≡ true → Clear token rest → step s token ≡ Some next → token_at s (word ++ rest) ≡ Ok (token, rest)
token_read s next grammar.OrWord word rest spells ends clear h = fixed_at s words.Or word rest (or_may s next h) refl spells ends
token_read s next grammar.AndWord word rest spells ends clear h = fixed_at s words.And word rest (and_may s next h) refl spells ends
token_read s next grammar.NotWord word rest spells ends clear h = fixed_at s words.Not word rest (not_may s next h) refl spells ends
token_read s next grammar.IsWord word rest spells ends clear h = let i = inner s next grammar.IsWord h in fixed_at s words.Is word rest (is_may s.phase i.0 i.1) refl spells ends
token_read s next grammar.LikeWord word rest spells ends clear h = let i = inner s next grammar.LikeWord h in fixed_at s words.Like word rest (like_may s.phase i.0 i.1) refl spells ends
token_read s next (grammar.Operand atom) word rest spells ends clear h = atom_at s next atom word rest spells ends clear h
token_read s next (grammar.Compared how) word rest spells ends clear h = let i = inner s next (grammar.Compared how) h in comparison_token_at s how word rest (comparison_may s.phase i.0 how i.1) spells (clear.second how refl)
token_read s next grammar.Plus word rest spells ends clear h = let i = inner s next grammar.Plus h in ap (λ (x : List ℕ). token_at s (x ++ rest)) spells ∙ plus_at s rest (sign_may s.phase i.0 false i.1).0
token_read s next grammar.Minus word rest spells ends clear h = let i = inner s next grammar.Minus h in let m = sign_may s.phase i.0 true i.1 in ap (λ (x : List ℕ). token_at s (x ++ rest)) spells ∙ minus_at s rest m.0 m.1
token_read s next grammar.Times word rest spells ends clear h = let i = inner s next grammar.Times h in ap (λ (x : List ℕ). token_at s (x ++ rest)) spells ∙ times_at s rest (times_may s.phase i.0 i.1)
token_read s next grammar.Open word rest spells ends clear h = ap (λ (x : List ℕ). token_at s (x ++ rest)) spells ∙ open_at s rest (open_may s next h)
token_read s next grammar.Close word rest spells ends clear h = ap (λ (x : List ℕ). token_at s (x ++ rest)) spells ∙ close_at s rest (close_may s next h)

-- first bytes

-- what a token's first byte tells of it
pub record First (token : grammar.Token) (word : List ℕ) : Type 0 where
  pub byte : ℕ
  pub others : List ℕ
  pub is : word ≡ byte ∷ others
  pub no_space : is_space byte ≡ false
  pub quote : (byte == 39) ≡ true → (content : List ℕ) × (token ≡ grammar.Operand (atoms.Text content))
  pub second : (byte == 61 || byte == 62) ≡ true → (how : Cmp) × (token ≡ grammar.Compared how)

letter_space : (b : ℕ) → 64 < b → is_space b ≡ false
letter_space b h = grind (arith, nat_tests)

letter_second : (b : ℕ) → 64 < b → (b == 61 || b == 62) ≡ false
letter_second b h = grind (arith, nat_tests)

number_space : (b : ℕ) → begins_number b ≡ true → is_space b ≡ false
number_space b h = grind (arith, nat_tests)

number_second : (b : ℕ) → begins_number b ≡ true → (b == 61 || b == 62) ≡ false
number_second b h = grind (arith, nat_tests)

plain_first : (token : grammar.Token) (word : List ℕ) (b : ℕ) (others : List ℕ) → word ≡ b ∷ others → is_space b ≡ false → (b == 39) ≡ false → (b == 61 || b == 62) ≡ false → First token word
plain_first token word b others is space quote second = record {
  byte = b;
  others = others;
  is = is;
  no_space = space;
  quote = λ e. let no : true ≡ false = sym e ∙ quote in cc;
  second = λ e. let no : true ≡ false = sym e ∙ second in cc;
}

word_first_byte : (token : grammar.Token) (w : Word) (word : List ℕ) → IsWordText w word → First token word
word_first_byte token w word is = let f = word_first w word is in plain_first token word f.0 f.1 f.2 (letter_space f.0 f.3) (no_quote f.0 f.3) (letter_second f.0 f.3)

comparison_first : (how : Cmp) (word others : List ℕ) (b : ℕ) → word ≡ b ∷ others → is_space b ≡ false → (b == 39) ≡ false → First (grammar.Compared how) word
comparison_first how word others b is space quote = record {
  byte = b;
  others = others;
  is = is;
  no_space = space;
  quote = λ e. let no : true ≡ false = sym e ∙ quote in cc;
  second = λ e. (how, refl);
}

how_first : (how : Cmp) (word : List ℕ) → Spells (grammar.Compared how) word → First (grammar.Compared how) word
how_first cmps.Equal word e = comparison_first cmps.Equal word [] 61 e refl refl
how_first cmps.Unequal word (inl e) = comparison_first cmps.Unequal word (62 ∷ []) 60 e refl refl
how_first cmps.Unequal word (inr e) = comparison_first cmps.Unequal word (61 ∷ []) 33 e refl refl
how_first cmps.Less word e = comparison_first cmps.Less word [] 60 e refl refl
how_first cmps.LessEqual word e = comparison_first cmps.LessEqual word (61 ∷ []) 60 e refl refl
how_first cmps.Greater word e = comparison_first cmps.Greater word [] 62 e refl refl
how_first cmps.GreaterEqual word e = comparison_first cmps.GreaterEqual word (61 ∷ []) 62 e refl refl

atom_first : (atom : Atom) (word : List ℕ) → Spells (grammar.Operand atom) word → First (grammar.Operand atom) word
atom_first (atoms.Number z) word spells =
    let f = number_first z word spells in
    plain_first (grammar.Operand (atoms.Number z)) word f.0 f.1 f.2 (number_space f.0 f.3) (quote_is_no_number f.0 f.3) (number_second f.0 f.3)
atom_first (atoms.Text content) word spells =
    let f = text_first content word spells in
    record { byte = 39; others = f.0; is = f.1; no_space = refl; quote = λ e. (content, refl); second = λ e. cc }
atom_first atoms.Null word spells = word_first_byte (grammar.Operand atoms.Null) words.Null word (fixed_text words.Null word refl spells)
atom_first atoms.Priority word spells = word_first_byte (grammar.Operand atoms.Priority) words.Priority word (fixed_text words.Priority word refl spells)
atom_first atoms.Corr word spells = word_first_byte (grammar.Operand atoms.Corr) words.Corr word (fixed_text words.Corr word refl spells)
atom_first (atoms.Cell name) word spells = word_first_byte (grammar.Operand (atoms.Cell name)) words.Cell word (field_text name word spells)
atom_first (atoms.Prop name) word spells = word_first_byte (grammar.Operand (atoms.Prop name)) words.Prop word (prop_text name word spells)

pub first_byte : (token : grammar.Token) (word : List ℕ) → Spells token word → First token word
first_byte grammar.OrWord word spells = word_first_byte grammar.OrWord words.Or word (fixed_text words.Or word refl spells)
first_byte grammar.AndWord word spells = word_first_byte grammar.AndWord words.And word (fixed_text words.And word refl spells)
first_byte grammar.NotWord word spells = word_first_byte grammar.NotWord words.Not word (fixed_text words.Not word refl spells)
first_byte grammar.IsWord word spells = word_first_byte grammar.IsWord words.Is word (fixed_text words.Is word refl spells)
first_byte grammar.LikeWord word spells = word_first_byte grammar.LikeWord words.Like word (fixed_text words.Like word refl spells)
first_byte (grammar.Operand atom) word spells = atom_first atom word spells
first_byte (grammar.Compared how) word spells = how_first how word spells
first_byte grammar.Plus word spells = plain_first grammar.Plus word 43 [] spells refl refl refl
first_byte grammar.Minus word spells = plain_first grammar.Minus word 45 [] spells refl refl refl
first_byte grammar.Times word spells = plain_first grammar.Times word 42 [] spells refl refl refl
first_byte grammar.Open word spells = plain_first grammar.Open word 40 [] spells refl refl refl
first_byte grammar.Close word spells = plain_first grammar.Close word 41 [] spells refl refl refl
