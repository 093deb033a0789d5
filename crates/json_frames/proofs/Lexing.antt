-- The lexemes of an object's text that ends between strings and words: they are the same whatever comes behind it.
use Rattle.std.proofs.Common.{◌≡◌, ℕ, ◌+◌, ◌-◌, ◌<◌, ◌≤◌, Bool, true, false, cond, not, ◌&&◌, ◌||◌, ◌==◌, List, [], ◌∷◌, ◌++◌, length, take, drop, Option, Some, None, option_and_then, inl, inr, ◌⊎◌, refl, sym, ap, ap₂, ◌∙◌, arith, length-append, append_assoc}
use Rattle.std.specs.Prelude.{fold, if◌then◌else◌, option_map, nat_eq, nat_lt}
use Rattle.std.specs.List.{list_all, prefix_len, starts_with}
use Rattle.std.specs.Char.{is_ascii_digit}
use Rattle.std.proofs.lemmas.Bool.{true≢false, false≢true, eqb-true, leb-true, ne_eqb, not-true, and_parts, and_from, or_parts, or_cases, cases_Bool, agree_below_at}
use Rattle.std.proofs.lemmas.List.{take-append-le, drop-append-le}
use Rattle.std.proofs.lemmas.List.Folds.{list_all-append}
use Rattle.std.proofs.lemmas.List.Sums.{prefix_len-le-length}
use Rattle.json.specs.Token.{Token, begin_object, end_object, end_array, number, boolean, null, bad}
use Rattle.json.specs.Text.{content, plain, after_backslash, prepend}
use Rattle.json.specs.Word.{is_operator, is_space, head, ends_word, after_digits, after_minus, after_sign, after_whole, after_fraction, after_exponent, after_number, number_before, literal, word}
use Rattle.json.specs.Lex as json
use Rattle.json.specs.Lex.{Lexeme, token, comma, colon, quote, backslash, operator, space, other, class, operator_lexeme, string_token, between, in_word, in_string, lex_byte, lex}
use Rattle.json_frames.specs.Frame.{step, is_between, is_plain, is_open, ends_at, is_front}
use Rattle.json_frames.specs.declared.mode.Mode.{Mode}
use Rattle.json_frames.specs.declared.mode.Mode.TheVariants.{Between, InWord, InString}
use Rattle.json_frames.proofs.Flat.{opens, lexeme_opens, no_lexeme_opens}

abbrev pub ends : ℕ → Bool
ends x = is_operator x || is_space x

-- ---- a word is read only up to the operator or the space that ends it

abbrev has_name : List ℕ → List ℕ → Bool
has_name name t = starts_with nat_eq t name && ends_word (drop (length name) t)

no_name : (c : ℕ) (name r : List ℕ) → ends c ≡ false → ends_word r ≡ true → has_name (c ∷ name) r ≡ false
no_name c name [] h ended = refl
no_name c name (x ∷ xs) h ended = rw (ne_eqb c x (λ e. true≢false (sym ended ∙ ap ends (sym e) ∙ h))) refl

under : (n a b c d : Bool) → (a && b) ≡ (c && d) → (n && a && b) ≡ (n && c && d)
under true a b c d e = e
under false a b c d e = refl

module _ (rest : List ℕ) (ended : ends_word rest ≡ true) where
  -- o is what a part of the grammar leaves of a text, and p what it leaves of the text with the rest
  abbrev Extends : Option (List ℕ) → Option (List ℕ) → Type 0
  Extends o p = p ≡ option_map (λ r. r ++ rest) o

  same_test : (c : ℕ) (t : List ℕ) → ends c ≡ false → (head (t ++ rest) == c) ≡ (head t == c)
  same_test c [] h =
      ne_eqb (head rest) c (λ e. true≢false (sym ended ∙ ap ends e ∙ h))
      ∙ sym (ne_eqb 32 c (λ e. true≢false (ap ends e ∙ h)))
  same_test c (x ∷ xs) h = refl

  same_end : (t : List ℕ) → ends_word (t ++ rest) ≡ ends_word t
  same_end [] = ended
  same_end (x ∷ xs) = refl

  -- one byte c is passed
  one : (c : ℕ) (t : List ℕ) → ends c ≡ false → (head t == c) ≡ true → drop 1 (t ++ rest) ≡ drop 1 t ++ rest
  one c [] h e = absurd (true≢false (ap ends (eqb-true 32 c e) ∙ h))
  one c (x ∷ xs) h e = refl

  either : (a b : ℕ) (t : List ℕ) → ends a ≡ false → ends b ≡ false → ((head t == a) ≡ true) ⊎ ((head t == b) ≡ true) → drop 1 (t ++ rest) ≡ drop 1 t ++ rest
  either a b t p q (inl e) = one a t p e
  either a b t p q (inr e) = one b t q e

  no_digit : (r : List ℕ) → ends_word r ≡ true → prefix_len is_ascii_digit r ≡ 0
  no_digit [] h = refl
  no_digit (x ∷ xs) h = go (cases_Bool (is_ascii_digit x))
    where
      go : (is_ascii_digit x ≡ true) ⊎ (is_ascii_digit x ≡ false) → prefix_len is_ascii_digit (x ∷ xs) ≡ 0
      go (inr e) = ap (λ b. cond b (1 + prefix_len is_ascii_digit xs) 0) e
      go (inl e) =
          let small : x < 58 = omega (arith, leb-true x 57 (and_parts _ _ e).1) in
          absurd (true≢false (sym (ap₂ (λ a b. a && b) e h) ∙ agree_below_at (λ y. is_ascii_digit y && ends y) (λ y. false) 58 x refl small))

  digit_count : (t : List ℕ) → prefix_len is_ascii_digit (t ++ rest) ≡ prefix_len is_ascii_digit t
  digit_count [] = no_digit rest ended
  digit_count (x ∷ xs) = ap (λ n. cond (is_ascii_digit x) (1 + n) 0) (digit_count xs)

  -- both take the same side of a test
  by_test : (b c : Bool) (x y p q : Option (List ℕ)) → c ≡ b → (b ≡ true → Extends x p) → Extends y q → Extends (cond b x y) (cond c p q)
  by_test true true x y p q e f g = f refl
  by_test false false x y p q e f g = g
  by_test true false x y p q e f g = absurd (false≢true e)
  by_test false true x y p q e f g = absurd (true≢false e)

  optional : (t : List ℕ) (b c : Bool) → c ≡ b → (b ≡ true → drop 1 (t ++ rest) ≡ drop 1 t ++ rest) → cond c (drop 1 (t ++ rest)) (t ++ rest) ≡ cond b (drop 1 t) t ++ rest
  optional t true true e f = f refl
  optional t false false e f = refl
  optional t true false e f = absurd (false≢true e)
  optional t false true e f = absurd (true≢false e)

  digits : (t : List ℕ) → Extends (after_digits t) (after_digits (t ++ rest))
  digits t =
      by_test (prefix_len is_ascii_digit t == 0) (prefix_len is_ascii_digit (t ++ rest) == 0) None _ None _ (ap (λ n. n == 0) (digit_count t)) (λ e. refl)
      (ap Some (ap (λ n. drop n (t ++ rest)) (digit_count t) ∙ drop-append-le _ t rest (prefix_len-le-length is_ascii_digit t)))

  whole : (t : List ℕ) → Extends (after_whole t) (after_whole (t ++ rest))
  whole t = by_test (head t == 48) _ (Some (drop 1 t)) _ _ _ (same_test 48 t refl) (λ e. ap Some (one 48 t refl e)) (digits t)

  fraction : (t : List ℕ) → Extends (after_fraction t) (after_fraction (t ++ rest))
  fraction t =
      by_test (head t == 46) _ _ (Some t) _ _ (same_test 46 t refl) (λ e. ap after_digits (one 46 t refl e) ∙ digits (drop 1 t)) refl

  signed : (t : List ℕ) → Extends (after_digits (after_sign t)) (after_digits (after_sign (t ++ rest)))
  signed t =
      ap after_digits (optional t _ _ (ap₂ (λ a b. a || b) (same_test 45 t refl) (same_test 43 t refl)) (λ e. either 45 43 t refl refl (or_cases _ _ e)))
      ∙ digits (after_sign t)

  exponent : (t : List ℕ) → Extends (after_exponent t) (after_exponent (t ++ rest))
  exponent t =
      by_test ((head t == 101) || (head t == 69)) _ _ (Some t) _ _ (ap₂ (λ a b. a || b) (same_test 101 t refl) (same_test 69 t refl))
      (λ e. ap (λ u. after_digits (after_sign u)) (either 101 69 t refl refl (or_cases _ _ e)) ∙ signed (drop 1 t)) refl

  and_on : (f : List ℕ → Option (List ℕ)) → ((u : List ℕ) → Extends (f u) (f (u ++ rest))) → (o p : Option (List ℕ)) → Extends o p
      → Extends (option_and_then f o) (option_and_then f p)
  and_on f g None p h = ap (option_and_then f) h
  and_on f g (Some r) p h = ap (option_and_then f) h ∙ g r

  whole_number : (t : List ℕ) → Extends (after_number t) (after_number (t ++ rest))
  unfolding after_number
  whole_number t =
      and_on after_exponent exponent _ _ (and_on after_fraction fraction _ _
      (ap after_whole (optional t _ _ (same_test 45 t refl) (one 45 t refl)) ∙ whole (after_minus t)))

  same_number : (t : List ℕ) (o p : Option (List ℕ)) → Extends o p → number_before (t ++ rest) p ≡ number_before t o
  same_number t None p h = ap (number_before (t ++ rest)) h
  same_number t (Some r) p h =
      let size : length (t ++ rest) - length (r ++ rest) ≡ length t - length r = omega (arith, length-append t rest, length-append r rest) in
      let within : length t - length r ≤ length t = omega arith in
      ap (number_before (t ++ rest)) h
      ∙ ap₂ (λ b n. cond b (number (take n (t ++ rest))) bad) (same_end r) size
      ∙ ap (λ s. cond (ends_word r) (number s) bad) (take-append-le _ t rest within)

  same_name : (name t : List ℕ) → list_all (λ c. not (ends c)) name ≡ true → has_name name (t ++ rest) ≡ has_name name t
  same_name [] t h = same_end t
  same_name (c ∷ name) [] h = no_name c name rest (not-true _ (and_parts _ _ h).0) ended
  same_name (c ∷ name) (x ∷ t) h = under (nat_eq c x) _ _ _ _ (same_name name t (and_parts _ _ h).1)

  same_literal : (name : List ℕ) (k : Token) (t : List ℕ) → list_all (λ c. not (ends c)) name ≡ true → literal name k (t ++ rest) ≡ literal name k t
  same_literal name k t h = ap (λ b. cond b k bad) (same_name name t h)

  word_alone : (t : List ℕ) → word (t ++ rest) ≡ word t
  unfolding word
  word_alone t =
      rw (
        same_test 116 t refl,
        same_test 102 t refl,
        same_test 110 t refl,
        same_literal (116 ∷ 114 ∷ 117 ∷ 101 ∷ []) (boolean true) t refl,
        same_literal (102 ∷ 97 ∷ 108 ∷ 115 ∷ 101 ∷ []) (boolean false) t refl,
        same_literal (110 ∷ 117 ∷ 108 ∷ 108 ∷ []) null t refl,
        same_number t (after_number t) (after_number (t ++ rest)) (whole_number t),
      ) refl

word_within : (w xs rest : List ℕ) → is_between (fold step InWord xs) ≡ true → word (w ++ (xs ++ rest)) ≡ word (w ++ xs)
word_within w [] rest h = absurd (false≢true h)
word_within w (x ∷ xs) rest h = go (ends x) refl h (word_within (w ++ x ∷ []) xs rest)
  where
    go : (b : Bool) → ends x ≡ b → is_between (fold step (if b then Between else InWord) xs) ≡ true
        → (is_between (fold step InWord xs) ≡ true → word ((w ++ x ∷ []) ++ (xs ++ rest)) ≡ word ((w ++ x ∷ []) ++ xs)) → word (w ++ (x ∷ (xs ++ rest))) ≡ word (w ++ (x ∷ xs))
    go true e closed next = word_alone (x ∷ (xs ++ rest)) e w ∙ sym (word_alone (x ∷ xs) e w)
    go false e closed next = ap word (sym (append_assoc w (x ∷ []) (xs ++ rest))) ∙ next closed ∙ ap word (append_assoc w (x ∷ []) xs)

-- ---- a string without escapes is read only up to its quote

pub record Plain (x : ℕ) : Type 0 where
  no_brace : (x == 123) ≡ false
  no_bracket : (x == 91) ≡ false
  pub no_backslash : (x == 92) ≡ false

pub plain_parts : (x : ℕ) → is_plain x ≡ true → Plain x
plain_parts x h =
    let p = or_parts (x == 123 || x == 91) (x == 92) (not-true _ h) in
    let q = or_parts (x == 123) (x == 91) p.0 in
    record { no_brace = q.0; no_bracket = q.1; no_backslash = p.1 }

string_byte : (q : Bool) (x : ℕ) (xs ys : List ℕ) → (x == 92) ≡ false
    → (is_between (fold step InString xs) ≡ true → content plain ys ≡ content plain xs)
    → is_between (fold step (if q then Between else InString) xs) ≡ true
    → cond q (Some []) (cond (x == 92) (content after_backslash ys) (cond (nat_lt x 32) None (prepend (x ∷ []) (content plain ys))))
    ≡ cond q (Some []) (cond (x == 92) (content after_backslash xs) (cond (nat_lt x 32) None (prepend (x ∷ []) (content plain xs))))
string_byte true x xs ys e same h = refl
string_byte false x xs ys e same h = rw (e, same h) refl

string_within : (xs rest : List ℕ) → list_all is_plain xs ≡ true → is_between (fold step InString xs) ≡ true → content plain (xs ++ rest) ≡ content plain xs
unfolding content
string_within [] rest plains h = absurd (false≢true h)
string_within (x ∷ xs) rest plains h =
    let p = and_parts (is_plain x) (list_all is_plain xs) plains in
    string_byte (x == 34) x xs (xs ++ rest) (plain_parts x p.0).no_backslash (string_within xs rest p.1) h

-- ---- one byte

-- the lexer's mode
abbrev pub mode_of : Mode → json.Mode
mode_of Between = between
mode_of InWord = in_word
mode_of InString = in_string

-- the mode behind one more byte: q says that it is a quote, and e that it ends a word
abbrev pub next : Mode → Bool → Bool → Mode
next Between q e = if q then InString else (if e then Between else InWord)
next InWord q e = if e then Between else InWord
next InString q e = if q then Between else InString

step_is : (m : Mode) (x : ℕ) → step m x ≡ next m (x == 34) (ends x)
step_is Between x = refl
step_is InWord x = refl
step_is InString x = refl

-- the lexeme that begins with the byte x before xs, if one does: q says that x is a quote, o that it is an operator, and s that it is a space
abbrev pub begun : Mode → Bool → Bool → Bool → ℕ → List ℕ → List Lexeme
begun Between true o s x xs = token (string_token (content plain xs)) ∷ []
begun Between false true s x xs = operator_lexeme x ∷ []
begun Between false false true x xs = []
begun Between false false false x xs = token (word (x ∷ xs)) ∷ []
begun InWord q true s x xs = operator_lexeme x ∷ []
begun InWord q false s x xs = []
begun InString q o s x xs = []

abbrev pub begun_at : Mode → ℕ → List ℕ → List Lexeme
begun_at m x xs = begun m (x == 34) (is_operator x) (is_space x) x xs

lex_class : (m : Mode) (q o s : Bool) (x : ℕ) (xs : List ℕ) (k : json.Mode → List Lexeme) → (q ≡ true → (o || s) ≡ false)
    → lex_byte (mode_of m) (cond q quote (cond o operator (cond s space other))) x xs k ≡ begun m q o s x xs ++ k (mode_of (next m q (o || s)))
lex_class Between true o s x xs k h = refl
lex_class Between false true s x xs k h = refl
lex_class Between false false true x xs k h = refl
lex_class Between false false false x xs k h = refl
lex_class InWord true true s x xs k h = absurd (true≢false (h refl))
lex_class InWord true false true x xs k h = absurd (true≢false (h refl))
lex_class InWord true false false x xs k h = refl
lex_class InWord false true s x xs k h = refl
lex_class InWord false false true x xs k h = refl
lex_class InWord false false false x xs k h = refl
lex_class InString true o s x xs k h = refl
lex_class InString false true s x xs k h = refl
lex_class InString false false true x xs k h = refl
lex_class InString false false false x xs k h = refl

pub lex_at : (m : Mode) (x : ℕ) (xs : List ℕ) → is_plain x ≡ true → lex (mode_of m) (x ∷ xs) ≡ begun_at m x xs ++ lex (mode_of (step m x)) xs
unfolding lex
lex_at m x xs h =
    ap (λ b. lex_byte (mode_of m) (cond (x == 34) quote (cond b backslash (cond (is_operator x) operator (cond (is_space x) space other)))) x xs (λ n. lex n xs))
    (plain_parts x h).no_backslash
    ∙ lex_class m (x == 34) (is_operator x) (is_space x) x xs (λ n. lex n xs) (λ e. ap ends (eqb-true x 34 e))
    ∙ ap (λ n. begun_at m x xs ++ lex (mode_of n) xs) (sym (step_is m x))

-- it is the same whatever comes behind, where no string and no word goes on
begun_within : (m : Mode) (q o s : Bool) (x : ℕ) (xs rest : List ℕ) → list_all is_plain xs ≡ true → is_between (fold step (next m q (o || s)) xs) ≡ true
    → begun m q o s x (xs ++ rest) ≡ begun m q o s x xs
begun_within Between true o s x xs rest plains h = ap (λ c. token (string_token c) ∷ []) (string_within xs rest plains h)
begun_within Between false true s x xs rest plains h = refl
begun_within Between false false true x xs rest plains h = refl
begun_within Between false false false x xs rest plains h = ap (λ w. token w ∷ []) (word_within (x ∷ []) xs rest h)
begun_within InWord q true s x xs rest plains h = refl
begun_within InWord q false s x xs rest plains h = refl
begun_within InString q o s x xs rest plains h = refl

joined : (m : Mode) (xs rest : List ℕ) → list_all is_plain xs ≡ true → is_between (fold step m xs) ≡ true → lex (mode_of m) (xs ++ rest) ≡ lex (mode_of m) xs ++ lex between rest
unfolding lex
joined Between [] rest plains h = refl
joined InWord [] rest plains h = absurd (false≢true h)
joined InString [] rest plains h = absurd (false≢true h)
joined m (x ∷ xs) rest plains h =
    let p = and_parts (is_plain x) (list_all is_plain xs) plains in
    let same = begun_within m (x == 34) (is_operator x) (is_space x) x xs rest p.1 (ap (λ n. is_between (fold step n xs)) (sym (step_is m x)) ∙ h) in
    lex_at m x (xs ++ rest) p.0
    ∙ ap₂ (λ a b. a ++ b) same (joined (step m x) xs rest p.1 h)
    ∙ sym (append_assoc (begun_at m x xs) (lex (mode_of (step m x)) xs) (lex between rest))
    ∙ ap (λ l. l ++ lex between rest) (sym (lex_at m x xs p.0))

-- ---- no lexeme opens

neither_opens : (b : Bool) (t u : Token) → opens t ≡ false → opens u ≡ false → opens (cond b t u) ≡ false
neither_opens true t u p q = p
neither_opens false t u p q = q

number_opens_not : (t : List ℕ) (o : Option (List ℕ)) → opens (number_before t o) ≡ false
number_opens_not t None = refl
number_opens_not t (Some r) = neither_opens (ends_word r) _ bad refl refl

word_opens_not : (t : List ℕ) → opens (word t) ≡ false
unfolding word
word_opens_not t =
    neither_opens (head t == 116) _ _ (neither_opens _ (boolean true) bad refl refl)
    (neither_opens (head t == 102) _ _ (neither_opens _ (boolean false) bad refl refl)
    (neither_opens (head t == 110) _ _ (neither_opens _ null bad refl refl) (number_opens_not t (after_number t))))

string_opens_not : (o : Option (List ℕ)) → opens (string_token o) ≡ false
string_opens_not None = refl
string_opens_not (Some s) = refl

mark_opens_not : (a b c : Bool) → lexeme_opens (cond a (token end_object) (cond b (token end_array) (cond c comma colon))) ≡ false
mark_opens_not true b c = refl
mark_opens_not false true c = refl
mark_opens_not false false true = refl
mark_opens_not false false false = refl

operator_opens_not : (x : ℕ) → Plain x → lexeme_opens (operator_lexeme x) ≡ false
operator_opens_not x p = rw (p.no_brace, p.no_bracket) (mark_opens_not (x == 125) (x == 93) (x == 44))

alone : (l : Lexeme) → lexeme_opens l ≡ false → no_lexeme_opens (l ∷ []) ≡ true
alone l h = ap (λ b. not b && true) h

pub begun_opens_not : (m : Mode) (q o s : Bool) (x : ℕ) (xs : List ℕ) → Plain x → no_lexeme_opens (begun m q o s x xs) ≡ true
begun_opens_not Between true o s x xs p = alone (token (string_token (content plain xs))) (string_opens_not (content plain xs))
begun_opens_not Between false true s x xs p = alone (operator_lexeme x) (operator_opens_not x p)
begun_opens_not Between false false true x xs p = refl
begun_opens_not Between false false false x xs p = alone (token (word (x ∷ xs))) (word_opens_not (x ∷ xs))
begun_opens_not InWord q true s x xs p = alone (operator_lexeme x) (operator_opens_not x p)
begun_opens_not InWord q false s x xs p = refl
begun_opens_not InString q o s x xs p = refl

-- lexemes of which none opens, and then l
abbrev pub EndsWith : Lexeme → List Lexeme → Type 0
EndsWith l found = (ls : List Lexeme) × ((found ≡ ls ++ l ∷ []) × (no_lexeme_opens ls ≡ true))

-- the byte is read as the lexeme l wherever it does not stand in a string
abbrev IsRead : ℕ → Lexeme → Type 0
IsRead byte l = (m : Mode) → is_between (step m byte) ≡ true → lex (mode_of m) (byte ∷ []) ≡ l ∷ []

colon_read : IsRead 58 colon
unfolding lex
colon_read Between h = refl
colon_read InWord h = refl
colon_read InString h = absurd (false≢true h)

close_read : IsRead 125 (token end_object)
unfolding lex
close_read Between h = refl
close_read InWord h = refl
close_read InString h = absurd (false≢true h)

ended_by : (byte : ℕ) (l : Lexeme) → IsRead byte l → (m : Mode) (xs : List ℕ) → list_all is_plain xs ≡ true → is_between (fold step m xs) ≡ true → ends_at byte xs ≡ true → EndsWith l (lex (mode_of m) xs)
ended_by byte l read m [] plains h last = absurd (false≢true last)
ended_by byte l read m (x ∷ []) plains h last =
    let e = eqb-true x byte last in
    ([], (ap (λ y. lex (mode_of m) (y ∷ [])) e ∙ read m (ap (λ y. is_between (step m y)) (sym e) ∙ h), refl))
ended_by byte l read m (x ∷ y ∷ xs) plains h last =
    let p = and_parts (is_plain x) (list_all is_plain (y ∷ xs)) plains in
    let more = ended_by byte l read (step m x) (y ∷ xs) p.1 h last in
    let before = begun_at m x (y ∷ xs) in (
      before ++ more.0,
      (
        lex_at m x (y ∷ xs) p.0 ∙ ap (λ ls. before ++ ls) more.1.0 ∙ sym (append_assoc before more.0 (l ∷ [])),
        list_all-append (λ k. not (lexeme_opens k)) before more.0
            ∙ and_from _ _ (begun_opens_not m (x == 34) (is_operator x) (is_space x) x (y ∷ xs) (plain_parts x p.0)) more.1.1,
      ),
    )

-- ---- an object's text

pub lex_brace : (byte : ℕ) (xs : List ℕ) → byte ≡ 123 → lex between (byte ∷ xs) ≡ token begin_object ∷ lex between xs
unfolding lex
lex_brace byte xs e = ap (λ b. lex_byte between (class b) b xs (λ n. lex n xs)) e

record Opened (byte : ℕ) (xs : List ℕ) : Type 0 where
  brace : byte ≡ 123
  plains : list_all is_plain xs ≡ true
  closed : is_between (fold step Between xs) ≡ true

opened : (byte : ℕ) (xs : List ℕ) → is_open (byte ∷ xs) ≡ true → Opened byte xs
opened byte xs h =
    let p = and_parts (byte == 123 && list_all is_plain xs) (is_between (fold step Between xs)) h in
    let q = and_parts (byte == 123) (list_all is_plain xs) p.0 in
    record { brace = eqb-true byte 123 q.0; plains = q.1; closed = p.1 }

pub lex-joined : (text rest : List ℕ) → is_open text ≡ true → lex between (text ++ rest) ≡ lex between text ++ lex between rest
lex-joined [] rest h = absurd (false≢true h)
lex-joined (byte ∷ xs) rest h =
    let o = opened byte xs h in
    lex_brace byte (xs ++ rest) o.brace ∙ ap (λ ls. token begin_object ∷ ls) (joined Between xs rest o.plains o.closed)
    ∙ ap (λ ls. ls ++ lex between rest) (sym (lex_brace byte xs o.brace))

last_of : (byte first : ℕ) (xs : List ℕ) → (first == byte) ≡ false → ends_at byte (first ∷ xs) ≡ true → ends_at byte xs ≡ true
last_of byte first [] other_byte h = absurd (false≢true (sym other_byte ∙ h))
last_of byte first (y ∷ xs) other_byte h = h

open_to : (byte : ℕ) (l : Lexeme) → IsRead byte l → (123 == byte) ≡ false → (text : List ℕ) → (is_open text && ends_at byte text) ≡ true
    → (ls : List Lexeme) × ((lex between text ≡ token begin_object ∷ (ls ++ l ∷ [])) × (no_lexeme_opens ls ≡ true))
open_to byte l read differs [] h = absurd (false≢true h)
open_to byte l read differs (first ∷ xs) h =
    let p = and_parts (is_open (first ∷ xs)) (ends_at byte (first ∷ xs)) h in
    let o = opened first xs p.0 in
    let found = ended_by byte l read Between xs o.plains o.closed (last_of byte first xs (ap (λ b. b == byte) o.brace ∙ differs) p.1) in
    (found.0, (lex_brace first xs o.brace ∙ ap (λ ls. token begin_object ∷ ls) found.1.0, found.1.1))

pub lex_front : (text : List ℕ) → is_front text ≡ true → (ls : List Lexeme) × ((lex between text ≡ token begin_object ∷ (ls ++ colon ∷ [])) × (no_lexeme_opens ls ≡ true))
lex_front text h = open_to 58 colon colon_read refl text h

pub lex_flat : (text : List ℕ) → (is_open text && ends_at 125 text) ≡ true → (ls : List Lexeme) × ((lex between text ≡ token begin_object ∷ (ls ++ token end_object ∷ [])) × (no_lexeme_opens ls ≡ true))
lex_flat text h = open_to 125 (token end_object) close_read refl text h
