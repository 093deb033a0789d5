-- A token that is read is spelled at the front.
use Rattle.std.proofs.Common.{◌≡◌, ◌==◌, inl, inr, ℕ, ◌<◌, List, [], ◌∷◌, ◌++◌, Bool, true, false, Option, Some, None, Result, Ok, Err, length, refl, arith, sym, ◌∙◌, ap, subst, cond, nat_lt, length-take-le, append_assoc, ◌&&◌, ◌||◌, not, take, drop}
use Rattle.std.specs.List.{AllByRecursion, list_all, find}
use Rattle.std.specs.Str.{IsUtf8, str_to_ascii_lowercase}
use Rattle.std.specs.Char.{to_ascii_lowercase}
use Rattle.std.proofs.lemmas.Bool.{eqb-true, ltb-true, and_parts}
use Rattle.std.proofs.lemmas.List.{take-append-drop}
use Rattle.std.proofs.lemmas.Bool.Decides.{nat_tests}
use Rattle.rule_conditions.specs.Tokens as grammar
use Rattle.rule_conditions.specs.Tokens.{is_space, is_digit, is_end_of_word, is_word, may_end, Spells, SpellsNamed, SpellsText}
use Rattle.rule_conditions.specs.declared.condition.Atom.TheVariants as atoms
use Rattle.rule_conditions.specs.declared.condition.Cmp.{Cmp}
use Rattle.rule_conditions.specs.declared.condition.Cmp.TheVariants as cmps
use Rattle.rule_text.proofs.Choice.{chosen}
use Rattle.rule_text.proofs.Cuts.{cut_ascii, cut_first}
use Rattle.rule_text.proofs.Digits.{number_taken}
use Rattle.rule_text.proofs.Letters.{field_name_is_name, field_name_ascii}
use Rattle.rule_conditions.specs.Lexing.{is_begun, is_field_name, symbol_or, comparison_token, comparison_at, behind_less, behind_greater, behind_bang, is_comparison_byte, as_token, number_token, number_at}
use Rattle.rule_text.specs.Lexing.{word_at, word_split, word_token, ended_word, found_word, is_whole, begins_any, is_named, spelled, symbol, other_at}
use Rattle.rule_text.specs.Outline.{takes_word, takes_test, takes_sign, takes_open, takes_close}
use Rattle.rule_text.specs.declared.outline.Outline.{Outline}
use Rattle.rule_text.specs.declared.tokens.Word.{Word}
use Rattle.rule_text.specs.declared.tokens.Word.TheVariants as words
use Rattle.rule_text.specs.declared.words.TheConstants.{WORDS}

pub record Takes (token : grammar.Token) (text rest : List ℕ) : Type 0 where
  pub word : List ℕ
  pub split : text ≡ word ++ rest
  pub some : 0 < length word
  pub utf8 : IsUtf8 text → IsUtf8 rest
  pub spells : Spells token word
  pub ends : may_end token rest ≡ true

pub ends_so : (token : grammar.Token) (rest : List ℕ) → is_end_of_word rest ≡ true → may_end token rest ≡ true
ends_so token rest h = elim (not (is_word token)) as (λ b. (b || is_end_of_word rest) ≡ true) [ true ↦ refl | false ↦ h ]

-- words

pub begun_lower : (letters head : List ℕ) → is_begun letters head ≡ true → length head ≡ length letters → str_to_ascii_lowercase head ≡ letters
begun_lower [] [] h e = refl
begun_lower (l ∷ letters) [] h e = absurd (omega arith)
begun_lower [] (b ∷ head) h e = cc
begun_lower (l ∷ letters) (b ∷ head) h e =
    let both = and_parts _ _ h in
    let first = eqb-true (to_ascii_lowercase b) l both.0 in
    let others = begun_lower letters head both.1 (omega arith) in
    ap (λ (x : ℕ). x ∷ str_to_ascii_lowercase head) first ∙ ap (λ (x : List ℕ). l ∷ x) others

lowered_ascii : (b l : ℕ) → to_ascii_lowercase b ≡ l → l < 128 → b < 128
lowered_ascii b l e h = grind (arith, nat_tests)

begun_ascii : (letters head : List ℕ) → AllByRecursion (λ b. b < 128) letters → is_begun letters head ≡ true → AllByRecursion (λ b. b < 128) head
begun_ascii letters [] a h = tt
begun_ascii [] (b ∷ head) a h = cc
begun_ascii (l ∷ letters) (b ∷ head) a h =
    let both = and_parts _ _ h in
    (lowered_ascii b l (eqb-true (to_ascii_lowercase b) l both.0) a.0, begun_ascii letters head a.1 both.1)

ascii_by_test : (xs : List ℕ) → list_all (λ b. nat_lt b 128) xs ≡ true → AllByRecursion (λ b. b < 128) xs
ascii_by_test [] h = tt
ascii_by_test (x ∷ xs) h = let both = and_parts _ _ h in (ltb-true x 128 both.0, ascii_by_test xs both.1)

ascii_append : (xs ys : List ℕ) → AllByRecursion (λ b. b < 128) xs → AllByRecursion (λ b. b < 128) ys → AllByRecursion (λ b. b < 128) (xs ++ ys)
ascii_append [] ys a b = b
ascii_append (x ∷ xs) ys a b = (a.0, ascii_append xs ys a.1 b)

pub lower_append : (xs ys : List ℕ) → str_to_ascii_lowercase (xs ++ ys) ≡ str_to_ascii_lowercase xs ++ str_to_ascii_lowercase ys
lower_append [] ys = refl
lower_append (x ∷ xs) ys = ap (λ (z : List ℕ). to_ascii_lowercase x ∷ z) (lower_append xs ys)

spelled_ascii : (w : Word) → AllByRecursion (λ b. b < 128) (spelled w)
spelled_ascii words.Or = ascii_by_test (spelled words.Or) refl
spelled_ascii words.And = ascii_by_test (spelled words.And) refl
spelled_ascii words.Not = ascii_by_test (spelled words.Not) refl
spelled_ascii words.Is = ascii_by_test (spelled words.Is) refl
spelled_ascii words.Like = ascii_by_test (spelled words.Like) refl
spelled_ascii words.Null = ascii_by_test (spelled words.Null) refl
spelled_ascii words.Priority = ascii_by_test (spelled words.Priority) refl
spelled_ascii words.Corr = ascii_by_test (spelled words.Corr) refl
spelled_ascii words.Cell = ascii_by_test (spelled words.Cell) refl
spelled_ascii words.Prop = ascii_by_test (spelled words.Prop) refl

spelled_some : (w : Word) → 0 < length (spelled w)
spelled_some words.Or = omega arith
spelled_some words.And = omega arith
spelled_some words.Not = omega arith
spelled_some words.Is = omega arith
spelled_some words.Like = omega arith
spelled_some words.Null = omega arith
spelled_some words.Priority = omega arith
spelled_some words.Corr = omega arith
spelled_some words.Cell = omega arith
spelled_some words.Prop = omega arith

pub record Whole (w : Word) (head : List ℕ) : Type 0 where
  pub some : 0 < length head
  pub ascii : AllByRecursion (λ b. b < 128) head
  pub spells : Spells (word_token w head) head

pub fixed_whole : (w : Word) (head : List ℕ) → is_named w ≡ false → is_whole w head ≡ true → (length head ≡ length (spelled w)) × (is_begun (spelled w) head ≡ true)
fixed_whole w head e h =
    let h2 : ((length head == length (spelled w)) && is_begun (spelled w) head) ≡ true = rw e at h in
    let both = and_parts _ _ h2 in
    (eqb-true _ _ both.0, both.1)

pub fixed_spells : (w : Word) (head : List ℕ) → is_named w ≡ false → is_whole w head ≡ true → str_to_ascii_lowercase head ≡ spelled w
fixed_spells w head e h = let f = fixed_whole w head e h in begun_lower (spelled w) head f.1 f.0

whole_fixed : (w : Word) (head : List ℕ) → is_named w ≡ false → is_whole w head ≡ true → Spells (word_token w head) head → Whole w head
whole_fixed w head e h spells =
    let f = fixed_whole w head e h in
    let some = spelled_some w in
    record { some = omega arith; ascii = begun_ascii (spelled w) head (spelled_ascii w) f.1; spells = spells }

-- fourteen letters, with a name behind them, begin with the head
abbrev pub begins_named : List ℕ → List ℕ → Bool
begins_named letters head = cond (nat_lt 14 (length head)) (is_begun letters (take 14 head) && is_field_name (drop 14 head)) (is_begun letters head)

-- the head is these letters with a name behind them
abbrev pub is_whole_named : List ℕ → List ℕ → Bool
is_whole_named letters head = nat_lt 14 (length head) && begins_named letters head

pub named_parts : (letters head : List ℕ) → is_whole_named letters head ≡ true → (14 < length head) × (is_begun letters (take 14 head) ≡ true) × (is_field_name (drop 14 head) ≡ true)
named_parts letters head h =
    let both = and_parts _ _ h in
    let begun : (is_begun letters (take 14 head) && is_field_name (drop 14 head)) ≡ true = rw both.0 at both.1 in
    let parts = and_parts _ _ begun in
    (ltb-true 14 (length head) both.0, parts.0, parts.1)

pub named_lower : (letters head : List ℕ) → length letters ≡ 14 → is_whole_named letters head ≡ true → str_to_ascii_lowercase (take 14 head) ≡ letters
named_lower letters head len h =
    let parts = named_parts letters head h in
    let long = parts.0 in
    let front : length (take 14 head) ≡ 14 = length-take-le 14 head (omega arith) in
    begun_lower letters (take 14 head) parts.1 (front ∙ sym len)

named_ascii : (letters head : List ℕ) → AllByRecursion (λ b. b < 128) letters → is_whole_named letters head ≡ true → AllByRecursion (λ b. b < 128) head
named_ascii letters head ascii h =
    let parts = named_parts letters head h in
    let P : List ℕ → Type 0 = λ x. AllByRecursion (λ b. b < 128) x in
    subst P (take-append-drop 14 head) (ascii_append (take 14 head) (drop 14 head) (begun_ascii letters (take 14 head) ascii parts.1) (field_name_ascii (drop 14 head) parts.2))

named_spells : (letters head : List ℕ) → length letters ≡ 14 → is_whole_named letters head ≡ true → SpellsNamed letters (str_to_ascii_lowercase (drop 14 head)) head
named_spells letters head len h = record {
  is_name = sym (field_name_is_name (drop 14 head)) ∙ (named_parts letters head h).2;
  spelled = ap str_to_ascii_lowercase (sym (take-append-drop 14 head)) ∙ lower_append (take 14 head) (drop 14 head) ∙ ap (λ (x : List ℕ). x ++ str_to_ascii_lowercase (drop 14 head)) (named_lower letters head len h);
}

whole_cell : (head : List ℕ) → is_whole words.Cell head ≡ true → Whole words.Cell head
whole_cell head h =
    let long = (named_parts (spelled words.Cell) head h).0 in
    record {
      some = omega arith;
      ascii = named_ascii (spelled words.Cell) head (spelled_ascii words.Cell) h;
      spells = named_spells (spelled words.Cell) head refl h;
    }

whole_prop : (head : List ℕ) → is_whole words.Prop head ≡ true → Whole words.Prop head
whole_prop head h =
    let long = (named_parts (spelled words.Prop) head h).0 in
    record {
      some = omega arith;
      ascii = named_ascii (spelled words.Prop) head (spelled_ascii words.Prop) h;
      spells = named_spells (spelled words.Prop) head refl h;
    }

pub whole_word : (w : Word) (head : List ℕ) → is_whole w head ≡ true → Whole w head
whole_word words.Or head h = whole_fixed words.Or head refl h (fixed_spells words.Or head refl h)
whole_word words.And head h = whole_fixed words.And head refl h (fixed_spells words.And head refl h)
whole_word words.Not head h = whole_fixed words.Not head refl h (fixed_spells words.Not head refl h)
whole_word words.Is head h = whole_fixed words.Is head refl h (fixed_spells words.Is head refl h)
whole_word words.Like head h = whole_fixed words.Like head refl h (fixed_spells words.Like head refl h)
whole_word words.Null head h = whole_fixed words.Null head refl h (fixed_spells words.Null head refl h)
whole_word words.Priority head h = whole_fixed words.Priority head refl h (fixed_spells words.Priority head refl h)
whole_word words.Corr head h = whole_fixed words.Corr head refl h (fixed_spells words.Corr head refl h)
whole_word words.Cell head h = whole_cell head h
whole_word words.Prop head h = whole_prop head h

pub split_same : (s : Outline) (head text : List ℕ) (out : List ℕ × List ℕ) → word_split s head text ≡ out → head ++ text ≡ out.0 ++ out.1
split_same s head [] out e = ap (λ (x : List ℕ × List ℕ). x.0 ++ x.1) e
split_same s head (b ∷ text) out e =
    elim (chosen (begins_any s (head ++ b ∷ [])) _ _ _ e) [
      | inl p ↦ sym (append_assoc head (b ∷ []) text) ∙ split_same s (head ++ b ∷ []) text out p.1
      | inr p ↦ ap (λ (x : List ℕ × List ℕ). x.0 ++ x.1) p.1
    ]

pub found_passes : (p : Word → Bool) (ws : List Word) (w : Word) → find p ws ≡ Some w → p w ≡ true
found_passes p [] w e = cc
found_passes p (x ∷ ws) w e =
    elim (chosen (p x) _ _ _ e) [
      | inl q ↦ let same : x ≡ w = cc in ap p (sym same) ∙ q.0
      | inr q ↦ found_passes p ws w q.1
    ]

found_whole : (s : Outline) (head : List ℕ) (w : Word) → found_word s head ≡ Some w → is_whole w head ≡ true
unfolding found_word
found_whole s head w e = (and_parts _ _ (found_passes (λ word. takes_word s word && is_whole word head) WORDS w e)).1

word_ended : (found : Option Word) (head rest : List ℕ) (out : grammar.Token × List ℕ) → ((w : Word) → found ≡ Some w → Whole w head) → ended_word found head rest ≡ Ok out → Takes out.0 (head ++ rest) out.1
word_ended None head rest out whole e = cc
word_ended (Some w) head rest out whole e =
    elim (chosen (is_end_of_word rest) _ _ _ e) [
      | inl p ↦
          let word = whole w refl in
          let same : (word_token w head, rest) ≡ out = cc in
          let P : grammar.Token × List ℕ → Type 0 = λ o. Takes o.0 (head ++ rest) o.1 in
          subst P same record {
            word = head;
            split = refl;
            some = word.some;
            utf8 = cut_ascii head rest word.ascii;
            spells = word.spells;
            ends = ends_so (word_token w head) rest p.0;
          }
      | inr p ↦ cc
    ]

pub word_taken : (s : Outline) (text : List ℕ) (out : grammar.Token × List ℕ) → word_at s text ≡ Ok out → Takes out.0 text out.1
word_taken s text out e =
    let split = word_split s [] text in
    let same : text ≡ split.0 ++ split.1 = split_same s [] text split refl in
    subst (λ (x : List ℕ). Takes out.0 x out.1) (sym same)
    (word_ended (found_word s split.0) split.0 split.1 out (λ w f. whole_word w split.0 (found_whole s split.0 w f)) e)

-- signs

single : (token : grammar.Token) (b : ℕ) (rest : List ℕ) → b < 128 → is_word token ≡ false → Spells token (b ∷ []) → Takes token (b ∷ rest) rest
single token b rest small e spells = record {
  word = b ∷ [];
  split = refl;
  some = omega arith;
  utf8 = cut_first b rest small;
  spells = spells;
  ends = ap (λ (x : Bool). not x || is_end_of_word rest) e;
}

double : (token : grammar.Token) (b c : ℕ) (rest : List ℕ) → b < 128 → c < 128 → is_word token ≡ false → Spells token (b ∷ c ∷ []) → Takes token (b ∷ c ∷ rest) rest
double token b c rest small also e spells = record {
  word = b ∷ c ∷ [];
  split = refl;
  some = omega arith;
  utf8 = λ u. cut_first c rest also (cut_first b (c ∷ rest) small u);
  spells = spells;
  ends = ap (λ (x : Bool). not x || is_end_of_word rest) e;
}

one_sign : (token found : grammar.Token) (b sign : ℕ) (rest : List ℕ) (may : Bool) → ((b == sign) && may) ≡ true → sign < 128 → is_word token ≡ false → Spells token (sign ∷ []) → Some token ≡ Some found → Takes found (b ∷ rest) rest
one_sign token found b sign rest may h small e spells same =
    let is = eqb-true b sign (and_parts _ _ h).0 in
    let P : grammar.Token → Type 0 = λ t. Takes t (b ∷ rest) rest in
    let tokens : token ≡ found = cc in
    subst P tokens (subst (λ (x : ℕ). Takes token (x ∷ rest) rest) (sym is) (single token sign rest small e spells))

symbol_taken : (s : Outline) (b : ℕ) (rest : List ℕ) (token : grammar.Token) → symbol s b ≡ Some token → Takes token (b ∷ rest) rest
symbol_taken s b rest token e =
    elim (chosen (b == 42 && takes_sign s.phase) _ _ _ e) [
      | inl p ↦ one_sign grammar.Times token b 42 rest (takes_sign s.phase) p.0 (omega arith) refl refl p.1
      | inr p ↦ elim (chosen (b == 43 && takes_sign s.phase) _ _ _ p.1) [
        | inl p ↦ one_sign grammar.Plus token b 43 rest (takes_sign s.phase) p.0 (omega arith) refl refl p.1
        | inr p ↦ elim (chosen (b == 45 && takes_sign s.phase) _ _ _ p.1) [
          | inl p ↦ one_sign grammar.Minus token b 45 rest (takes_sign s.phase) p.0 (omega arith) refl refl p.1
          | inr p ↦ elim (chosen (b == 40 && takes_open s) _ _ _ p.1) [
            | inl p ↦ one_sign grammar.Open token b 40 rest (takes_open s) p.0 (omega arith) refl refl p.1
            | inr p ↦ elim (chosen (b == 41 && takes_close s) _ _ _ p.1) [
              | inl p ↦ one_sign grammar.Close token b 41 rest (takes_close s) p.0 (omega arith) refl refl p.1
              | inr p ↦ cc
            ]
          ]
        ]
      ]
    ]

-- comparisons

less_taken : (rest : List ℕ) → Takes (grammar.Compared (behind_less rest).0) (60 ∷ rest) (behind_less rest).1
less_taken [] = single (grammar.Compared cmps.Less) 60 [] (omega arith) refl refl
less_taken (c ∷ rest) =
    let P : Cmp × List ℕ → Type 0 = λ o. Takes (grammar.Compared o.0) (60 ∷ c ∷ rest) o.1 in
    elim (chosen (c == 61) _ _ (behind_less (c ∷ rest)) refl) [
      | inl p ↦ subst P p.1 (subst (λ (x : ℕ). Takes (grammar.Compared cmps.LessEqual) (60 ∷ x ∷ rest) rest) (sym (eqb-true c 61 p.0)) (double (grammar.Compared cmps.LessEqual) 60 61 rest (omega arith) (omega arith) refl refl))
      | inr p ↦ elim (chosen (c == 62) _ _ (behind_less (c ∷ rest)) p.1) [
        | inl q ↦ subst P q.1 (subst (λ (x : ℕ). Takes (grammar.Compared cmps.Unequal) (60 ∷ x ∷ rest) rest) (sym (eqb-true c 62 q.0)) (double (grammar.Compared cmps.Unequal) 60 62 rest (omega arith) (omega arith) refl (inl refl)))
        | inr q ↦ subst P q.1 (single (grammar.Compared cmps.Less) 60 (c ∷ rest) (omega arith) refl refl)
      ]
    ]

greater_taken : (rest : List ℕ) → Takes (grammar.Compared (behind_greater rest).0) (62 ∷ rest) (behind_greater rest).1
greater_taken [] = single (grammar.Compared cmps.Greater) 62 [] (omega arith) refl refl
greater_taken (c ∷ rest) =
    let P : Cmp × List ℕ → Type 0 = λ o. Takes (grammar.Compared o.0) (62 ∷ c ∷ rest) o.1 in
    elim (chosen (c == 61) _ _ (behind_greater (c ∷ rest)) refl) [
      | inl p ↦ subst P p.1 (subst (λ (x : ℕ). Takes (grammar.Compared cmps.GreaterEqual) (62 ∷ x ∷ rest) rest) (sym (eqb-true c 61 p.0)) (double (grammar.Compared cmps.GreaterEqual) 62 61 rest (omega arith) (omega arith) refl refl))
      | inr p ↦ subst P p.1 (single (grammar.Compared cmps.Greater) 62 (c ∷ rest) (omega arith) refl refl)
    ]

bang_taken : (rest : List ℕ) (out : Cmp × List ℕ) → behind_bang rest ≡ Ok out → Takes (grammar.Compared out.0) (33 ∷ rest) out.1
bang_taken [] out e = cc
bang_taken (c ∷ rest) out e =
    let P : Cmp × List ℕ → Type 0 = λ o. Takes (grammar.Compared o.0) (33 ∷ c ∷ rest) o.1 in
    elim (chosen (c == 61) _ _ _ e) [
      | inl p ↦ let same : (cmps.Unequal, rest) ≡ out = cc in
          subst P same (subst (λ (x : ℕ). Takes (grammar.Compared cmps.Unequal) (33 ∷ x ∷ rest) rest) (sym (eqb-true c 61 p.0)) (double (grammar.Compared cmps.Unequal) 33 61 rest (omega arith) (omega arith) refl (inr refl)))
      | inr p ↦ cc
    ]

equal_byte : (b : ℕ) → is_comparison_byte b ≡ true → (b == 60) ≡ false → (b == 62) ≡ false → (b == 33) ≡ false → b ≡ 61
equal_byte b h e f g = grind (arith, nat_tests)

comparison_taken : (b : ℕ) (rest : List ℕ) (out : Cmp × List ℕ) → is_comparison_byte b ≡ true → comparison_at b rest ≡ Ok out → Takes (grammar.Compared out.0) (b ∷ rest) out.1
comparison_taken b rest out h e =
    let P : Cmp × List ℕ → Type 0 = λ o. Takes (grammar.Compared o.0) (b ∷ rest) o.1 in
    elim (chosen (b == 60) _ _ _ e) [
      | inl p ↦ let same : behind_less rest ≡ out = cc in
          subst P same (subst (λ (x : ℕ). Takes (grammar.Compared (behind_less rest).0) (x ∷ rest) (behind_less rest).1) (sym (eqb-true b 60 p.0)) (less_taken rest))
      | inr p ↦ elim (chosen (b == 62) _ _ _ p.1) [
        | inl q ↦ let same : behind_greater rest ≡ out = cc in
            subst P same (subst (λ (x : ℕ). Takes (grammar.Compared (behind_greater rest).0) (x ∷ rest) (behind_greater rest).1) (sym (eqb-true b 62 q.0)) (greater_taken rest))
        | inr q ↦ elim (chosen (b == 33) _ _ _ q.1) [
          | inl r ↦ subst (λ (x : ℕ). Takes (grammar.Compared out.0) (x ∷ rest) out.1) (sym (eqb-true b 33 r.0)) (bang_taken rest out r.1)
          | inr r ↦ let same : (cmps.Equal, rest) ≡ out = cc in
              subst P same (subst (λ (x : ℕ). Takes (grammar.Compared cmps.Equal) (x ∷ rest) rest) (sym (equal_byte b h p.0 q.0 r.0)) (single (grammar.Compared cmps.Equal) 61 rest (omega arith) refl refl))
        ]
      ]
    ]

pub as_token_ok : {X : Type 0} (token : X → grammar.Token) (r : Result (X × List ℕ) (List ℕ)) (out : grammar.Token × List ℕ) → as_token token r ≡ Ok out → (x : X × List ℕ) × (r ≡ Ok x) × (out ≡ (token x.0, x.1))
as_token_ok token (Ok x) out e = (x, refl, cc)
as_token_ok token (Err r) out e = cc

pub number_token_taken : (text : List ℕ) (out : grammar.Token × List ℕ) → number_token text ≡ Ok out → Takes out.0 text out.1
number_token_taken text out e =
    let found = as_token_ok (λ z. grammar.Operand (atoms.Number z)) (number_at text) out e in
    let took = number_taken text found.0 found.1 in
    let P : grammar.Token × List ℕ → Type 0 = λ o. Takes o.0 text o.1 in
    subst P (sym found.2) record {
      word = took.word;
      split = took.split;
      some = took.some;
      utf8 = λ u. cut_ascii took.word found.0.1 took.ascii (subst (λ (x : List ℕ). IsUtf8 x) took.split u);
      spells = took.spells;
      ends = ends_so (grammar.Operand (atoms.Number found.0.0)) found.0.1 took.ends;
    }

pub comparison_token_taken : (b : ℕ) (rest : List ℕ) (out : grammar.Token × List ℕ) → is_comparison_byte b ≡ true → comparison_token b rest ≡ Ok out → Takes out.0 (b ∷ rest) out.1
comparison_token_taken b rest out h e =
    let found = as_token_ok (λ how. grammar.Compared how) (comparison_at b rest) out e in
    let P : grammar.Token × List ℕ → Type 0 = λ o. Takes o.0 (b ∷ rest) o.1 in
    subst P (sym found.2) (comparison_taken b rest found.0 h found.1)

other_taken : (s : Outline) (b : ℕ) (rest : List ℕ) (out : grammar.Token × List ℕ) (found : Option grammar.Token) → symbol s b ≡ found → symbol_or found rest (cond (takes_test s.phase && is_comparison_byte b) (comparison_token b rest) (word_at s (b ∷ rest))) ≡ Ok out → Takes out.0 (b ∷ rest) out.1
other_taken s b rest out (Some token) f e =
    let same : (token, rest) ≡ out = cc in
    let P : grammar.Token × List ℕ → Type 0 = λ o. Takes o.0 (b ∷ rest) o.1 in
    subst P same (symbol_taken s b rest token f)
other_taken s b rest out None f e =
    elim (chosen (takes_test s.phase && is_comparison_byte b) _ _ _ e) [
      | inl p ↦ comparison_token_taken b rest out (and_parts _ _ p.0).1 p.1
      | inr p ↦ word_taken s (b ∷ rest) out p.1
    ]

pub other_at_taken : (s : Outline) (b : ℕ) (rest : List ℕ) (out : grammar.Token × List ℕ) → other_at s b rest ≡ Ok out → Takes out.0 (b ∷ rest) out.1
other_at_taken s b rest out e = other_taken s b rest out (symbol s b) refl e
