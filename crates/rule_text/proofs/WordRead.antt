-- A word that may come is read where it is spelled.
use Rattle.std.proofs.Common.{◌≡◌, ◌==◌, ◌⊎◌, inl, inr, ℕ, ◌+◌, ◌<◌, ◌≤◌, List, [], ◌∷◌, ◌++◌, Bool, true, false, Option, Some, Ok, Err, length, refl, arith, sym, ◌∙◌, ap, subst, cond, nat_lt, length-append, append_assoc, append-nil, ◌&&◌, take, drop, length-take-le}
use Rattle.std.specs.List.{list_all, list_any, find, fold}
use Rattle.std.specs.Str.{str_to_ascii_lowercase}
use Rattle.std.specs.Char.{to_ascii_lowercase}
use Rattle.std.proofs.lemmas.Bool.{eqb-true, eq-eqb, leb-true, le-leb, ltb-true, ltb-false, lt-ltb, and_parts, and_from, or_cases, or_left, or_right, cases_Bool, false_from_ne_true}
use Rattle.std.proofs.lemmas.List.{take-append-drop, length-map}
use Rattle.std.proofs.lemmas.Bool.Decides.{nat_tests}
use Rattle.payload_records.specs.Name.{is_name, is_name_byte}
use Rattle.payload_records.specs.declared.TheConstants.{NAME_LIMIT}
use Rattle.rule_conditions.specs.Tokens.{is_word_byte, is_end_of_word, SpellsNamed}
use Rattle.rule_text.proofs.Choosing.{yes_cond, no_cond}
use Rattle.rule_text.proofs.Letters.{field_name_is_name}
use Rattle.rule_text.proofs.Taking.{fixed_whole, fixed_spells, lower_append, begins_named, is_whole_named, named_parts, named_lower}
use Rattle.rule_conditions.specs.Lexing.{is_begun, is_field_name}
use Rattle.rule_text.specs.Lexing.{word_at, word_split, word_token, ended_word, found_word, is_whole, begins_word, begins_any, is_named, spelled}
use Rattle.rule_text.specs.Outline.{takes_word}
use Rattle.rule_text.specs.declared.outline.Outline.{Outline}
use Rattle.rule_text.specs.declared.tokens.Word.{Word}
use Rattle.rule_text.specs.declared.tokens.Word.TheVariants as words
use Rattle.rule_text.specs.declared.words.TheConstants.{WORDS}

-- the sums of the letters tell the words apart
abbrev sum_word : ℕ → Word
sum_word n = cond (n == 225) words.Or (cond (n == 307) words.And (cond (n == 337) words.Not (cond (n == 220) words.Is (cond (n == 421) words.Like (cond (n == 443) words.Null (cond (n == 1255) words.Priority (cond (n == 1000) words.Corr (cond (n == 1355) words.Cell words.Prop))))))))

abbrev word_of : List ℕ → Word
word_of text = sum_word (fold (λ sum letter. sum + letter) 0 text)

word_of_spelled : (w : Word) → word_of (spelled w) ≡ w
word_of_spelled words.Or = refl
word_of_spelled words.And = refl
word_of_spelled words.Not = refl
word_of_spelled words.Is = refl
word_of_spelled words.Like = refl
word_of_spelled words.Null = refl
word_of_spelled words.Priority = refl
word_of_spelled words.Corr = refl
word_of_spelled words.Cell = refl
word_of_spelled words.Prop = refl

same_spelled : (v w : Word) → spelled v ≡ spelled w → v ≡ w
same_spelled v w e = sym (word_of_spelled v) ∙ ap word_of e ∙ word_of_spelled w

short_spelled : (w : Word) → is_named w ≡ false → length (spelled w) ≤ 12
short_spelled words.Or e = omega arith
short_spelled words.And e = omega arith
short_spelled words.Not e = omega arith
short_spelled words.Is e = omega arith
short_spelled words.Like e = omega arith
short_spelled words.Null e = omega arith
short_spelled words.Priority e = omega arith
short_spelled words.Corr e = omega arith
short_spelled words.Cell e = cc
short_spelled words.Prop e = cc

named_spells : (w : Word) (head : List ℕ) → is_named w ≡ true → is_whole w head ≡ true → (14 < length head) × (str_to_ascii_lowercase (take 14 head) ≡ spelled w)
named_spells words.Or head e h = cc
named_spells words.And head e h = cc
named_spells words.Not head e h = cc
named_spells words.Is head e h = cc
named_spells words.Like head e h = cc
named_spells words.Null head e h = cc
named_spells words.Priority head e h = cc
named_spells words.Corr head e h = cc
named_spells words.Cell head e h = ((named_parts (spelled words.Cell) head h).0, named_lower (spelled words.Cell) head refl h)
named_spells words.Prop head e h = ((named_parts (spelled words.Prop) head h).0, named_lower (spelled words.Prop) head refl h)

short_whole : (w : Word) (head : List ℕ) → is_named w ≡ false → is_whole w head ≡ true → length head ≤ 12
short_whole w head e h =
    let len = (fixed_whole w head e h).0 in
    let short = short_spelled w e in
    omega arith

-- a text is one word at most
unique : (v w : Word) (head : List ℕ) → is_whole v head ≡ true → is_whole w head ≡ true → v ≡ w
unique v w head g h =
    elim (cases_Bool (is_named v)) [
      | inl a ↦ elim (cases_Bool (is_named w)) [
        | inl b ↦ same_spelled v w (sym (named_spells v head a g).1 ∙ (named_spells w head b h).1)
        | inr b ↦ let long = (named_spells v head a g).0 in let short = short_whole w head b h in absurd (omega arith)
      ]
      | inr a ↦ elim (cases_Bool (is_named w)) [
        | inl b ↦ let long = (named_spells w head b h).0 in let short = short_whole v head a g in absurd (omega arith)
        | inr b ↦ same_spelled v w (sym (fixed_spells v head a g) ∙ fixed_spells w head b h)
      ]
    ]

abbrev IsListed : Word → List Word → Type 0
IsListed w [] = ⊥
IsListed w (x ∷ ws) = (x ≡ w) ⊎ IsListed w ws

listed : (w : Word) → IsListed w WORDS
listed words.Or = inl refl
listed words.And = inr (inl refl)
listed words.Not = inr (inr (inl refl))
listed words.Is = inr (inr (inr (inl refl)))
listed words.Like = inr (inr (inr (inr (inl refl))))
listed words.Null = inr (inr (inr (inr (inr (inl refl)))))
listed words.Priority = inr (inr (inr (inr (inr (inr (inl refl))))))
listed words.Corr = inr (inr (inr (inr (inr (inr (inr (inl refl)))))))
listed words.Cell = inr (inr (inr (inr (inr (inr (inr (inr (inl refl))))))))
listed words.Prop = inr (inr (inr (inr (inr (inr (inr (inr (inr (inl refl)))))))))

any_listed : (f : Word → Bool) (ws : List Word) (w : Word) → IsListed w ws → f w ≡ true → list_any f ws ≡ true
any_listed f [] w l h = absurd l
any_listed f (x ∷ ws) w (inl e) h = or_left (f x) (list_any f ws) (ap f e ∙ h)
any_listed f (x ∷ ws) w (inr l) h = or_right (f x) (list_any f ws) (any_listed f ws w l h)

any_of : (f : Word → Bool) (w : Word) → f w ≡ true → list_any f WORDS ≡ true
any_of f w h = any_listed f WORDS w (listed w) h

pub any_witness : (f : Word → Bool) (ws : List Word) → list_any f ws ≡ true → (w : Word) × (f w ≡ true)
any_witness f [] h = cc
any_witness f (w ∷ ws) h = elim (or_cases _ _ h) [ inl a ↦ (w, a) | inr b ↦ any_witness f ws b ]

found_if_any : (f : Word → Bool) (ws : List Word) → list_any f ws ≡ true → (w : Word) × (find f ws ≡ Some w) × (f w ≡ true)
found_if_any f [] h = cc
found_if_any f (w ∷ ws) h =
    elim (cases_Bool (f w)) [
      | inl a ↦ (w, yes_cond (f w) (Some w) (find f ws) a, a)
      | inr b ↦
          let more : list_any f ws ≡ true = elim (or_cases _ _ h) [ inl a ↦ cc | inr c ↦ c ] in
          let r = found_if_any f ws more in
          (r.0, no_cond (f w) (Some w) (find f ws) b ∙ r.1, r.2)
    ]

found_is : (s : Outline) (w : Word) (head : List ℕ) → takes_word s w ≡ true → is_whole w head ≡ true → found_word s head ≡ Some w
unfolding found_word
found_is s w head t h =
    let test : Word → Bool = λ word. takes_word s word && is_whole word head in
    let r = found_if_any test WORDS (any_of test w (and_from _ _ t h)) in
    let same = unique r.0 w head (and_parts _ _ r.2).1 h in
    r.1 ∙ ap (λ (v : Word). let o : Option Word = Some v in o) same

any_begins : (s : Outline) (w : Word) (head : List ℕ) → takes_word s w ≡ true → begins_word w head ≡ true → begins_any s head ≡ true
unfolding begins_any
any_begins s w head t h = any_of (λ word. takes_word s word && begins_word word head) w (and_from _ _ t h)

-- the bytes of words

small_word_byte : (b l : ℕ) → to_ascii_lowercase b ≡ l → is_word_byte l ≡ true → is_word_byte b ≡ true
small_word_byte b l e h = grind (arith, nat_tests)

name_word_byte : (b : ℕ) → is_name_byte (to_ascii_lowercase b) ≡ true → is_word_byte b ≡ true
name_word_byte b h = grind (arith, nat_tests)

begun_bytes : (letters head : List ℕ) → list_all is_word_byte letters ≡ true → is_begun letters head ≡ true → list_all is_word_byte head ≡ true
begun_bytes letters [] a h = refl
begun_bytes [] (b ∷ head) a h = cc
begun_bytes (l ∷ letters) (b ∷ head) a h =
    let both = and_parts _ _ h in
    let all = and_parts _ _ a in
    and_from _ _ (small_word_byte b l (eqb-true (to_ascii_lowercase b) l both.0) all.0) (begun_bytes letters head all.1 both.1)

named_bytes : (text : List ℕ) → list_all (λ b. is_name_byte (to_ascii_lowercase b)) text ≡ true → list_all is_word_byte text ≡ true
named_bytes [] h = refl
named_bytes (b ∷ text) h = let both = and_parts _ _ h in and_from _ _ (name_word_byte b both.0) (named_bytes text both.1)

field_bytes : (text : List ℕ) → is_field_name text ≡ true → list_all is_word_byte text ≡ true
field_bytes [] h = refl
field_bytes (b ∷ text) h = named_bytes (b ∷ text) (and_parts _ _ (and_parts _ _ h).0).1

all_joined : (xs ys : List ℕ) → list_all is_word_byte xs ≡ true → list_all is_word_byte ys ≡ true → list_all is_word_byte (xs ++ ys) ≡ true
all_joined [] ys a b = b
all_joined (x ∷ xs) ys a b = let both = and_parts _ _ a in and_from _ _ both.0 (all_joined xs ys both.1 b)

spelled_bytes : (w : Word) → list_all is_word_byte (spelled w) ≡ true
spelled_bytes words.Or = refl
spelled_bytes words.And = refl
spelled_bytes words.Not = refl
spelled_bytes words.Is = refl
spelled_bytes words.Like = refl
spelled_bytes words.Null = refl
spelled_bytes words.Priority = refl
spelled_bytes words.Corr = refl
spelled_bytes words.Cell = refl
spelled_bytes words.Prop = refl

pub begins_bytes : (w : Word) (head : List ℕ) → begins_word w head ≡ true → list_all is_word_byte head ≡ true
begins_bytes w head h =
    let len = length (spelled w) in
    elim (cases_Bool (is_named w && nat_lt len (length head))) [
      | inl a ↦
          let both = and_parts _ _ (sym (yes_cond _ (is_begun (spelled w) (take len head) && is_field_name (drop len head)) (is_begun (spelled w) head) a) ∙ h) in
          let whole : take len head ++ drop len head ≡ head = take-append-drop len head in
          subst (λ (x : List ℕ). list_all is_word_byte x ≡ true) whole (all_joined (take len head) (drop len head) (begun_bytes (spelled w) (take len head) (spelled_bytes w) both.0) (field_bytes (drop len head) both.1))
      | inr b ↦ begun_bytes (spelled w) head (spelled_bytes w) (sym (no_cond _ (is_begun (spelled w) (take len head) && is_field_name (drop len head)) (is_begun (spelled w) head) b) ∙ h)
    ]

last_byte : (xs : List ℕ) (b : ℕ) → list_all is_word_byte (xs ++ b ∷ []) ≡ true → is_word_byte b ≡ true
last_byte [] b h = (and_parts _ _ h).0
last_byte (x ∷ xs) b h = last_byte xs b (and_parts _ _ h).1

any_last : (s : Outline) (head : List ℕ) (b : ℕ) → begins_any s (head ++ b ∷ []) ≡ true → is_word_byte b ≡ true
unfolding begins_any
any_last s head b h =
    let w = any_witness (λ word. takes_word s word && begins_word word (head ++ b ∷ [])) WORDS h in
    last_byte head b (begins_bytes w.0 (head ++ b ∷ []) (and_parts _ _ w.1).1)

-- a word is split from what follows it
split_reads : (s : Outline) (head text rest : List ℕ) → ((p q : List ℕ) → text ≡ p ++ q → 0 < length p → begins_any s (head ++ p) ≡ true) → is_end_of_word rest ≡ true → word_split s head (text ++ rest) ≡ (head ++ text, rest)
split_reads s head [] [] begins ends = ap (λ (x : List ℕ). let o : List ℕ × List ℕ = (x, []) in o) (sym (append-nil head))
split_reads s head [] (b ∷ rest) begins ends =
    let stops : begins_any s (head ++ b ∷ []) ≡ false = false_from_ne_true _ (λ h. let byte = any_last s head b h in cc) in
    no_cond (begins_any s (head ++ b ∷ [])) (word_split s (head ++ b ∷ []) rest) (head, b ∷ rest) stops
    ∙ ap (λ (x : List ℕ). let o : List ℕ × List ℕ = (x, b ∷ rest) in o) (sym (append-nil head))
split_reads s head (c ∷ text) rest begins ends =
    let on = begins (c ∷ []) text refl (omega arith) in
    let more = split_reads s (head ++ c ∷ []) text rest (λ p q e l. subst (λ (x : List ℕ). begins_any s x ≡ true) (sym (append_assoc head (c ∷ []) p)) (begins (c ∷ p) q (ap (λ (x : List ℕ). c ∷ x) e) (omega arith))) ends in
    yes_cond (begins_any s (head ++ c ∷ [])) (word_split s (head ++ c ∷ []) (text ++ rest)) (head, c ∷ (text ++ rest)) on
    ∙ more ∙ ap (λ (x : List ℕ). let o : List ℕ × List ℕ = (x, rest) in o) (append_assoc head (c ∷ []) text)

-- the text is the word whole, and each of its fronts begins it
pub record IsWordText (w : Word) (text : List ℕ) : Type 0 where
  pub whole : is_whole w text ≡ true
  pub fronts : (p q : List ℕ) → text ≡ p ++ q → begins_word w p ≡ true
  pub some : 0 < length text

pub word_reads : (s : Outline) (w : Word) (text rest : List ℕ) → takes_word s w ≡ true → IsWordText w text → is_end_of_word rest ≡ true → word_at s (text ++ rest) ≡ Ok (word_token w text, rest)
word_reads s w text rest t is ends =
    let split = split_reads s [] text rest (λ p q e l. any_begins s w p t (is.fronts p q e)) ends in
    ap (λ (x : List ℕ × List ℕ). ended_word (found_word s x.0) x.0 x.1) split
    ∙ ap (λ (o : Option Word). ended_word o text rest) (found_is s w text t is.whole)
    ∙ yes_cond (is_end_of_word rest) (Ok (word_token w text, rest)) (Err rest) ends

-- spellings of words

begun_front : (letters more front back : List ℕ) → str_to_ascii_lowercase (front ++ back) ≡ letters ++ more → length front ≤ length letters → is_begun letters front ≡ true
begun_front [] more [] back e l = refl
begun_front (x ∷ letters) more [] back e l = refl
begun_front [] more (b ∷ front) back e l = absurd (omega arith)
begun_front (x ∷ letters) more (b ∷ front) back e l =
    let first : to_ascii_lowercase b ≡ x = cc in
    let others : str_to_ascii_lowercase (front ++ back) ≡ letters ++ more = cc in
    and_from _ _ (eq-eqb (to_ascii_lowercase b) x first) (begun_front letters more front back others (omega arith))

lower_len : (text : List ℕ) → length (str_to_ascii_lowercase text) ≡ length text
lower_len text = length-map text to_ascii_lowercase

fixed_front : (w : Word) (front back : List ℕ) → is_named w ≡ false → str_to_ascii_lowercase (front ++ back) ≡ spelled w → begins_word w front ≡ true
fixed_front w front back e h =
    let len = length (spelled w) in
    let short : length front ≤ length (spelled w) = omega (arith, ap length h, lower_len (front ++ back), length-append front back) in
    let test : (is_named w && nat_lt len (length front)) ≡ false = rw e refl in
    no_cond (is_named w && nat_lt len (length front)) (is_begun (spelled w) (take len front) && is_field_name (drop len front)) (is_begun (spelled w) front) test
    ∙ begun_front (spelled w) [] front back (h ∙ sym (append-nil (spelled w))) short

some_spelled : (w : Word) → 0 < length (spelled w)
some_spelled words.Or = omega arith
some_spelled words.And = omega arith
some_spelled words.Not = omega arith
some_spelled words.Is = omega arith
some_spelled words.Like = omega arith
some_spelled words.Null = omega arith
some_spelled words.Priority = omega arith
some_spelled words.Corr = omega arith
some_spelled words.Cell = omega arith
some_spelled words.Prop = omega arith

pub fixed_text : (w : Word) (text : List ℕ) → is_named w ≡ false → str_to_ascii_lowercase text ≡ spelled w → IsWordText w text
fixed_text w text e h =
    let len : length text ≡ length (spelled w) = sym (lower_len text) ∙ ap length h in
    let some = some_spelled w in
    record {
      whole = and_from _ _ (no_cond (is_named w) (nat_lt (length (spelled w)) (length text)) (length text == length (spelled w)) e ∙ eq-eqb (length text) (length (spelled w)) len)
          (fixed_front w text [] e (ap str_to_ascii_lowercase (append-nil text) ∙ h));
      fronts = λ p q f. fixed_front w p q e (ap str_to_ascii_lowercase (sym f) ∙ h);
      some = omega arith;
    }

-- fields and properties

cancel : (a b x y : List ℕ) → a ++ x ≡ b ++ y → length a ≡ length b → x ≡ y
cancel [] [] x y e l = e
cancel [] (c ∷ b) x y e l = absurd (omega arith)
cancel (c ∷ a) [] x y e l = absurd (omega arith)
cancel (c ∷ a) (d ∷ b) x y e l = let others : a ++ x ≡ b ++ y = cc in cancel a b x y others (omega arith)

all_front : (p : ℕ → Bool) (xs ys : List ℕ) → list_all p (xs ++ ys) ≡ true → list_all p xs ≡ true
all_front p [] ys h = refl
all_front p (x ∷ xs) ys h = let both = and_parts _ _ h in and_from _ _ both.0 (all_front p xs ys both.1)

name_front : (xs ys : List ℕ) → 0 < length xs → is_name (xs ++ ys) ≡ true → is_name xs ≡ true
name_front [] ys l h = absurd (omega arith)
name_front (x ∷ xs) ys l h =
    let both = and_parts _ _ h in
    let bytes = and_parts _ _ both.0 in
    let most : length (x ∷ (xs ++ ys)) ≤ NAME_LIMIT = leb-true (length (x ∷ (xs ++ ys))) NAME_LIMIT both.1 in
    let fits : length (x ∷ xs) ≤ NAME_LIMIT = omega (arith, length-append xs ys) in
    and_from _ _ (and_from _ _ bytes.0 (all_front is_name_byte (x ∷ xs) ys bytes.1)) (le-leb (length (x ∷ xs)) NAME_LIMIT fits)

-- a front that is longer than what stands before the name
long_front : (letters front back name : List ℕ) → length letters ≡ 14 → is_name name ≡ true → str_to_ascii_lowercase (front ++ back) ≡ letters ++ name → 14 < length front → (is_begun letters (take 14 front) && is_field_name (drop 14 front)) ≡ true
long_front letters front back name fourteen n e l =
    let a = take 14 front in
    let b = drop 14 front in
    let whole : a ++ b ≡ front = take-append-drop 14 front in
    let len : length a ≡ 14 = length-take-le 14 front (omega arith) in
    let split : str_to_ascii_lowercase (a ++ (b ++ back)) ≡ letters ++ name = ap str_to_ascii_lowercase (sym (append_assoc a b back) ∙ ap (λ (x : List ℕ). x ++ back) whole) ∙ e in
    let small_len : length (str_to_ascii_lowercase a) ≡ 14 = lower_len a ∙ len in
    let behind : str_to_ascii_lowercase b ++ str_to_ascii_lowercase back ≡ name =
    sym (lower_append b back) ∙ cancel (str_to_ascii_lowercase a) letters (str_to_ascii_lowercase (b ++ back)) name (sym (lower_append a (b ++ back)) ∙ split) (small_len ∙ sym fourteen) in
    let some : 0 < length (str_to_ascii_lowercase b) = omega (arith, lower_len b, ap length whole, length-append a b) in
    let named : is_name (str_to_ascii_lowercase b) ≡ true = name_front (str_to_ascii_lowercase b) (str_to_ascii_lowercase back) some (ap is_name behind ∙ n) in
    and_from _ _ (begun_front letters name a (b ++ back) split (omega arith)) (field_name_is_name b ∙ named)

named_front : (letters front back name : List ℕ) → length letters ≡ 14 → is_name name ≡ true → str_to_ascii_lowercase (front ++ back) ≡ letters ++ name → begins_named letters front ≡ true
named_front letters front back name fourteen n e =
    elim (cases_Bool (nat_lt 14 (length front))) [
      | inl a ↦
          yes_cond (nat_lt 14 (length front)) (is_begun letters (take 14 front) && is_field_name (drop 14 front)) (is_begun letters front) a
          ∙ long_front letters front back name fourteen n e (ltb-true 14 (length front) a)
      | inr b ↦
          let short = ltb-false 14 (length front) b in
          no_cond (nat_lt 14 (length front)) (is_begun letters (take 14 front) && is_field_name (drop 14 front)) (is_begun letters front) b
          ∙ begun_front letters name front back e (omega arith)
    ]

some_name : (name : List ℕ) → is_name name ≡ true → 0 < length name
some_name [] h = cc
some_name (x ∷ name) h = omega arith

named_long : (letters name text : List ℕ) → length letters ≡ 14 → SpellsNamed letters name text → 14 < length text
named_long letters name text fourteen f = let some = some_name name f.is_name in omega (arith, lower_len text, ap length f.spelled, length-append letters name)

named_whole : (letters name text : List ℕ) → length letters ≡ 14 → SpellsNamed letters name text → is_whole_named letters text ≡ true
named_whole letters name text fourteen f =
    and_from _ _ (lt-ltb 14 (length text) (named_long letters name text fourteen f)) (named_front letters text [] name fourteen f.is_name (ap str_to_ascii_lowercase (append-nil text) ∙ f.spelled))

pub field_text : (name text : List ℕ) → SpellsNamed (spelled words.Cell) name text → IsWordText words.Cell text
field_text name text f =
    let long = named_long (spelled words.Cell) name text refl f in
    record {
      whole = named_whole (spelled words.Cell) name text refl f;
      fronts = λ p q e. named_front (spelled words.Cell) p q name refl f.is_name (ap str_to_ascii_lowercase (sym e) ∙ f.spelled);
      some = omega arith;
    }

pub prop_text : (name text : List ℕ) → SpellsNamed (spelled words.Prop) name text → IsWordText words.Prop text
prop_text name text f =
    let long = named_long (spelled words.Prop) name text refl f in
    record {
      whole = named_whole (spelled words.Prop) name text refl f;
      fronts = λ p q e. named_front (spelled words.Prop) p q name refl f.is_name (ap str_to_ascii_lowercase (sym e) ∙ f.spelled);
      some = omega arith;
    }

named_token : (letters name text : List ℕ) → length letters ≡ 14 → SpellsNamed letters name text → str_to_ascii_lowercase (drop 14 text) ≡ name
named_token letters name text fourteen f =
    let long = named_long letters name text fourteen f in
    let whole : take 14 text ++ drop 14 text ≡ text = take-append-drop 14 text in
    let len : length (take 14 text) ≡ 14 = length-take-le 14 text (omega arith) in
    let small_len : length (str_to_ascii_lowercase (take 14 text)) ≡ 14 = lower_len (take 14 text) ∙ len in
    cancel (str_to_ascii_lowercase (take 14 text)) letters (str_to_ascii_lowercase (drop 14 text)) name
    (sym (lower_append (take 14 text) (drop 14 text)) ∙ ap str_to_ascii_lowercase whole ∙ f.spelled) (small_len ∙ sym fourteen)

pub field_token : (name text : List ℕ) → SpellsNamed (spelled words.Cell) name text → str_to_ascii_lowercase (drop 14 text) ≡ name
field_token name text f = named_token (spelled words.Cell) name text refl f

pub prop_token : (name text : List ℕ) → SpellsNamed (spelled words.Prop) name text → str_to_ascii_lowercase (drop 14 text) ≡ name
prop_token name text f = named_token (spelled words.Prop) name text refl f

-- first letters

letter : (b l : ℕ) → 96 < l → to_ascii_lowercase b ≡ l → 64 < b
letter b l h e = grind (arith, nat_tests)

first_letter : (w : Word) (b : ℕ) → begins_word w (b ∷ []) ≡ true → 64 < b
first_letter words.Or b h = letter b 111 (omega arith) (eqb-true _ _ (and_parts _ _ h).0)
first_letter words.And b h = letter b 97 (omega arith) (eqb-true _ _ (and_parts _ _ h).0)
first_letter words.Not b h = letter b 110 (omega arith) (eqb-true _ _ (and_parts _ _ h).0)
first_letter words.Is b h = letter b 105 (omega arith) (eqb-true _ _ (and_parts _ _ h).0)
first_letter words.Like b h = letter b 108 (omega arith) (eqb-true _ _ (and_parts _ _ h).0)
first_letter words.Null b h = letter b 110 (omega arith) (eqb-true _ _ (and_parts _ _ h).0)
first_letter words.Priority b h = letter b 116 (omega arith) (eqb-true _ _ (and_parts _ _ h).0)
first_letter words.Corr b h = letter b 116 (omega arith) (eqb-true _ _ (and_parts _ _ h).0)
first_letter words.Cell b h = letter b 116 (omega arith) (eqb-true _ _ (and_parts _ _ h).0)
first_letter words.Prop b h = letter b 116 (omega arith) (eqb-true _ _ (and_parts _ _ h).0)

pub word_first : (w : Word) (text : List ℕ) → IsWordText w text → (b : ℕ) × (others : List ℕ) × (text ≡ b ∷ others) × (64 < b)
word_first w [] is = let some = is.some in absurd (omega arith)
word_first w (b ∷ others) is = (b, others, refl, first_letter w b (is.fronts (b ∷ []) others refl))
