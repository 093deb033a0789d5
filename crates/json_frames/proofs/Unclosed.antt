-- A text that ends within a string is no JSON text.
use Rattle.std.proofs.Common.{◌≡◌, ℕ, Bool, true, false, cond, not, ◌||◌, ◌==◌, List, [], ◌∷◌, ◌++◌, Option, Some, None, inl, inr, ◌⊎◌, refl, sym, ap, ap₂, ◌∙◌, append_assoc}
use Rattle.std.specs.Prelude.{fold, nat_lt}
use Rattle.std.specs.List.{list_all}
use Rattle.std.proofs.lemmas.Bool.{false≢true, eqb-true, and_parts, and_from}
use Rattle.std.proofs.lemmas.List.Folds.{list_all-append}
use Rattle.json.specs.Token.{Token, begin_object, bad}
use Rattle.json.specs.Text.{content, plain, after_backslash, prepend}
use Rattle.json.specs.Word.{is_operator, is_space}
use Rattle.json.specs.Lex.{Lexeme, token, string_token, between, lex, Place, fresh, after_value, after_comma, after_key, punctuate}
use Rattle.serde_json.specs.Data.{Data}
use Rattle.serde_json.specs.Read.{read}
use Rattle.json_frames.specs.Frame.{step, is_plain, ends_at}
use Rattle.json_frames.specs.declared.mode.Mode.{Mode}
use Rattle.json_frames.specs.declared.mode.Mode.TheVariants.{Between, InWord, InString}
use Rattle.json_frames.proofs.Flat.{lexeme_opens, no_lexeme_opens}
use Rattle.json_frames.proofs.Holes.{never_bad}
use Rattle.json_frames.proofs.Lexing.{ends, Plain, plain_parts, mode_of, next, begun, lex_at, begun_opens_not, EndsWith, lex_brace}
use Rattle.json_frames.proofs.Punctuating.{Reaches, place_of}
use Rattle.json_frames.proofs.Reading.{reads, opens_with}

abbrev is_in_word : Mode → Bool
is_in_word Between = false
is_in_word InWord = true
is_in_word InString = false

abbrev is_in_string : Mode → Bool
is_in_string Between = false
is_in_string InWord = false
is_in_string InString = true

-- ---- the lexemes of a text that ends within a string

-- lexemes of which none opens, and then `bad`
abbrev Faulty : List Lexeme → Type 0
Faulty found = EndsWith (token bad) found

behind : (ls found whole : List Lexeme) → no_lexeme_opens ls ≡ true → whole ≡ ls ++ found → Faulty found → Faulty whole
behind ls found whole none e (more, (is, none_more)) = (
  ls ++ more,
  (
    e ∙ ap (λ k. ls ++ k) is ∙ sym (append_assoc ls more (token bad ∷ [])),
    list_all-append (λ k. not (lexeme_opens k)) ls more ∙ and_from _ _ none none_more,
  ),
)

-- What a text is, read in a mode, that ends within a string. Where a string goes on at its beginning, that may be the last one: then the text does not close it.
abbrev Unclosed : Mode → List ℕ → Type 0
Unclosed Between xs = Faulty (lex (mode_of Between) xs)
Unclosed InWord xs = Faulty (lex (mode_of InWord) xs)
Unclosed InString xs = ((content plain xs ≡ None) × (lex (mode_of InString) xs ≡ [])) ⊎ Faulty (lex (mode_of InString) xs)

-- a lexeme begins, or none, between strings and words
from_between : (q o s : Bool) (x : ℕ) (xs : List ℕ) → Plain x → Unclosed (next Between q (o || s)) xs
    → Faulty (begun Between q o s x xs ++ lex (mode_of (next Between q (o || s))) xs)
from_between true o s x xs p (inl (none, nothing)) = ([], (ap₂ (λ c ls. token (string_token c) ∷ ls) none nothing, refl))
from_between true o s x xs p (inr f) = behind (begun Between true o s x xs) _ _ (begun_opens_not Between true o s x xs p) refl f
from_between false true s x xs p f = behind (begun Between false true s x xs) _ _ (begun_opens_not Between false true s x xs p) refl f
from_between false false true x xs p f = f
from_between false false false x xs p f = behind (begun Between false false false x xs) _ _ (begun_opens_not Between false false false x xs p) refl f

from_word : (q o s : Bool) (x : ℕ) (xs : List ℕ) → Plain x → Unclosed (next InWord q (o || s)) xs
    → Faulty (begun InWord q o s x xs ++ lex (mode_of (next InWord q (o || s))) xs)
from_word q true s x xs p f = behind (begun InWord q true s x xs) _ _ (begun_opens_not InWord q true s x xs p) refl f
from_word q false true x xs p f = f
from_word q false false x xs p f = f

no_content : (q b c : Bool) (x : ℕ) (o p : Option (List ℕ)) → q ≡ false → b ≡ false → p ≡ None → cond q (Some []) (cond b o (cond c None (prepend (x ∷ []) p))) ≡ None
no_content q b true x o p e f g = rw (e, f) refl
no_content q b false x o p e f g = rw (e, f, g) refl

unclosed_byte : (x : ℕ) (xs : List ℕ) → (x == 34) ≡ false → (x == 92) ≡ false → content plain xs ≡ None → content plain (x ∷ xs) ≡ None
unfolding content
unclosed_byte x xs e f g = no_content (x == 34) (x == 92) (nat_lt x 32) x (content after_backslash xs) (content plain xs) e f g

from_string : (q : Bool) (x : ℕ) (xs : List ℕ) → (x == 34) ≡ q → Plain x → Unclosed (next InString q (ends x)) xs
    → lex (mode_of InString) (x ∷ xs) ≡ lex (mode_of (next InString q (ends x))) xs → Unclosed InString (x ∷ xs)
from_string true x xs is p f e = inr (behind [] _ _ refl e f)
from_string false x xs is p (inl (none, nothing)) e = inl (unclosed_byte x xs is p.no_backslash none, e ∙ nothing)
from_string false x xs is p (inr f) e = inr (behind [] _ _ refl e f)

ends_within : (m : Mode) (xs : List ℕ) → list_all is_plain xs ≡ true → fold step m xs ≡ InString → Unclosed m xs
unfolding content lex
ends_within Between [] plains h = absurd (false≢true (ap is_in_string h))
ends_within InWord [] plains h = absurd (false≢true (ap is_in_string h))
ends_within InString [] plains h = inl (refl, refl)
ends_within Between (x ∷ xs) plains h =
    let p = and_parts (is_plain x) (list_all is_plain xs) plains in
    behind [] _ _ refl (lex_at Between x xs p.0) (from_between (x == 34) (is_operator x) (is_space x) x xs (plain_parts x p.0) (ends_within (step Between x) xs p.1 h))
ends_within InWord (x ∷ xs) plains h =
    let p = and_parts (is_plain x) (list_all is_plain xs) plains in
    behind [] _ _ refl (lex_at InWord x xs p.0) (from_word (x == 34) (is_operator x) (is_space x) x xs (plain_parts x p.0) (ends_within (step InWord x) xs p.1 h))
ends_within InString (x ∷ xs) plains h =
    let p = and_parts (is_plain x) (list_all is_plain xs) plains in
    from_string (x == 34) x xs refl (plain_parts x p.0) (ends_within (step InString x) xs p.1 h) (lex_at InString x xs p.0)

pub unclosed : (text : List ℕ) → list_all is_plain text ≡ true → fold step Between text ≡ InString → (ls : List Lexeme) × ((lex between text ≡ ls ++ token bad ∷ []) × (no_lexeme_opens ls ≡ true))
unclosed text plains h = ends_within Between text plains h

-- ---- it is not read

bad_at : (q : Place) → punctuate q (token bad ∷ []) ≡ bad ∷ []
unfolding punctuate
bad_at fresh = refl
bad_at after_value = refl
bad_at after_comma = refl
bad_at after_key = refl

bad_reached : (f : List Lexeme → List Token) → Reaches (token bad) f → (ts : List Token) × (f [] ≡ ts ++ bad ∷ [])
bad_reached f (ts, (none, inl (q, r))) = (ts, r [] ∙ ap (λ l. ts ++ l) (bad_at q))
bad_reached f (ts, (none, inr r)) = (ts, r [])

pub never_unclosed : (text : List ℕ) (d : Data) → list_all is_plain text ≡ true → read (123 ∷ text) ≡ Some d → fold step Between text ≡ InString → ⊥
never_unclosed text d plains said h =
    let r = reads (123 ∷ text) d said in
    let found = unclosed text plains h in
    let faulty = bad_reached (λ rest. punctuate fresh (found.0 ++ token bad ∷ rest)) (place_of (token bad) found.0 fresh found.1.1) in
    never_bad r.tree (begin_object ∷ faulty.0)
    (sym r.spelt ∙ ap (punctuate fresh) (lex_brace 123 text refl ∙ ap (λ ls. token begin_object ∷ ls) found.1.0) ∙ opens_with _ ∙ ap (λ ts. begin_object ∷ ts) faulty.1)

-- ---- behind a closing brace no word goes on

brace_ends : (m : Mode) → step m 125 ≡ InWord → ⊥
brace_ends Between h = false≢true (ap is_in_word h)
brace_ends InWord h = false≢true (ap is_in_word h)
brace_ends InString h = false≢true (ap is_in_word h)

pub not_in_word : (text : List ℕ) (m : Mode) → ends_at 125 text ≡ true → fold step m text ≡ InWord → ⊥
not_in_word [] m last h = false≢true last
not_in_word (x ∷ []) m last h = brace_ends m (ap (step m) (sym (eqb-true x 125 last)) ∙ h)
not_in_word (x ∷ y ∷ xs) m last h = not_in_word (y ∷ xs) (step m x) last h
