-- A token that is begun where it may come has an end.
use Rattle.std.proofs.Common.{◌≡◌, ◌==◌, ◌⊎◌, inl, inr, ℕ, ◌+◌, ◌-◌, ◌*◌, ◌<◌, ◌≤◌, ℤ, List, [], ◌∷◌, ◌++◌, Bool, true, false, Option, Some, None, Result, Ok, Err, length, take, drop, refl, arith, sym, ◌∙◌, ap, subst, cond, append_assoc, append-nil, length-append, get_or, ◌&&◌, nat_le, nat_lt}
use Rattle.std.specs.List.{list_all}
use Rattle.std.specs.Str.{IsUtf8, IsCharBoundary}
use Rattle.std.specs.Char.{to_ascii_lowercase}
use Rattle.std.proofs.lemmas.Bool.{eqb-true, eq-eqb, leb-true, lt-ltb, and_parts, and_from, or_parts, or_cases, cases_Bool}
use Rattle.std.proofs.lemmas.Bool.Decides.{nat_tests}
use Rattle.std.proofs.lemmas.List.{take_at, drop_at, get_or_at}
use Rattle.std.proofs.lemmas.Str.{IsUtf8-take, IsUtf8-append}
use Rattle.rule_conditions.specs.Print.{doubled}
use Rattle.rule_conditions.specs.Tokens as grammar
use Rattle.rule_conditions.specs.Tokens.{is_digit, is_word_byte, is_end_of_word, digits_value, Spells, SpellsNumber, SpellsText}
use Rattle.rule_conditions.specs.declared.condition.Atom.TheVariants as atoms
use Rattle.rule_conditions.specs.declared.condition.Cmp.TheVariants as cmps
use Rattle.rule_text.proofs.Ahead.{ended_left}
use Rattle.rule_text.proofs.Choice.{chosen}
use Rattle.rule_text.proofs.Choosing.{yes_cond, no_cond}
use Rattle.rule_text.proofs.Content.{pending, cut_before, cut_behind}
use Rattle.rule_text.proofs.Cuts.{cut_first}
use Rattle.rule_text.proofs.Digits.{more_digits, value_of, fits_signed, digit_within}
use Rattle.rule_text.proofs.Doubling.{doubled_append, doubled_other, quoted_bytes}
use Rattle.rule_text.proofs.NumberRead.{begins_number}
use Rattle.rule_text.proofs.Room.{goes_on, FitsFrom, fits_more, room_fits, content_within}
use Rattle.rule_text.proofs.Steppable.{word_some, number_some, text_step_some, comparison_step_some}
use Rattle.rule_text.proofs.Taking.{split_same, whole_word, begins_named, is_whole_named}
use Rattle.rule_text.proofs.WordRead.{any_witness}
use Rattle.rule_conditions.specs.Lexing.{limit, signed, signed_at, digits_at, unsigned_at, number_at, content_at, has_room, as_token, comparison_at, comparison_token, behind_bang, is_comparison_byte, is_begun, is_field_name, symbol_or}
use Rattle.rule_text.specs.Lexing.{word_at, word_split, found_word, word_token, begins_any, begins_word, is_whole, is_named, spelled, symbol, token_at}
use Rattle.rule_text.specs.Outline.{takes_text, takes_atom, takes_test, takes_word, step}
use Rattle.rule_text.specs.declared.outline.Outline.{Outline}
use Rattle.rule_text.specs.declared.tokens.Word.{Word}
use Rattle.rule_text.specs.declared.tokens.Word.TheVariants as words
use Rattle.rule_text.specs.declared.words.TheConstants.{WORDS}

-- numbers

record DigitsBegun (negative : Bool) (n : ℕ) (text rest : List ℕ) : Type 0 where
  pub digits : List ℕ
  pub is : text ≡ digits ++ rest
  pub are_digits : list_all is_digit digits ≡ true
  pub within : n ≤ limit negative → more_digits n digits ≤ limit negative

digits_stay : (negative : Bool) (n : ℕ) (text rest : List ℕ) → text ≡ rest → DigitsBegun negative n text rest
digits_stay negative n text rest e = record { digits = []; is = e; are_digits = refl; within = λ h. h }

digits_begun : (negative : Bool) (n : ℕ) (text rest : List ℕ) → digits_at negative n text ≡ Err rest → DigitsBegun negative n text rest
digits_begun negative n [] rest e = cc
digits_begun negative n (b ∷ text) rest e =
    elim (chosen (is_digit b) _ _ _ e) [
      | inl p ↦ elim (chosen (nat_le (n * 10 + (b - 48)) (limit negative)) _ _ _ p.1) [
        | inl q ↦
            let more = digits_begun negative (n * 10 + (b - 48)) text rest q.1 in
            let fits_so : n * 10 + (b - 48) ≤ limit negative = leb-true _ _ q.0 in
            record { digits = b ∷ more.digits; is = ap (λ (x : List ℕ). b ∷ x) more.is; are_digits = and_from _ _ p.0 more.are_digits; within = λ h. more.within fits_so }
        | inr q ↦ digits_stay negative n (b ∷ text) rest cc
      ]
      | inr p ↦ elim (chosen (is_word_byte b) _ _ _ p.1) [
        | inl q ↦ digits_stay negative n (b ∷ text) rest cc
        | inr q ↦ cc
      ]
    ]

signed_stop : (negative : Bool) (r : Result (ℕ × List ℕ) (List ℕ)) (rest : List ℕ) → signed_at negative r ≡ Err rest → r ≡ Err rest
signed_stop negative (Ok x) rest e = cc
signed_stop negative (Err r) rest e = let is : r ≡ rest = cc in ap (λ (x : List ℕ). let o : Result (ℕ × List ℕ) (List ℕ) = Err x in o) is

record NumberBegun (text rest : List ℕ) : Type 0 where
  pub front : List ℕ
  pub is : text ≡ front ++ rest
  pub some : 0 < length front
  pub more : List ℕ
  pub number : ℤ
  pub spells : SpellsNumber number (front ++ more)

plain_spelled : (b : ℕ) (digits : List ℕ) → list_all is_digit (b ∷ digits) ≡ true → digits_value (b ∷ digits) ≤ limit false → SpellsNumber (signed false (digits_value (b ∷ digits))) (b ∷ digits)
plain_spelled b digits d w = record { digits = b ∷ digits; are_digits = d; at_least_one = omega arith; spelled = inl (refl, refl); within = fits_signed false (digits_value (b ∷ digits)) w }

signed_spelled : (b : ℕ) (digits : List ℕ) → list_all is_digit (b ∷ digits) ≡ true → digits_value (b ∷ digits) ≤ limit true → SpellsNumber (signed true (digits_value (b ∷ digits))) (45 ∷ b ∷ digits)
signed_spelled b digits d w = record { digits = b ∷ digits; are_digits = d; at_least_one = omega arith; spelled = inr (refl, refl); within = fits_signed true (digits_value (b ∷ digits)) w }

value_within : (negative : Bool) (b : ℕ) (text rest : List ℕ) → is_digit b ≡ true → (d : DigitsBegun negative (b - 48) text rest) → digits_value (b ∷ d.digits) ≤ limit negative
value_within negative b text rest h d = subst (λ (n : ℕ). n ≤ limit negative) (value_of b d.digits) (d.within (digit_within negative b h))

abbrev minus_word : List ℕ → List ℕ
minus_word digits = 45 ∷ digits

negative_begun : (text rest : List ℕ) → unsigned_at true text ≡ Err rest → NumberBegun (45 ∷ text) rest
negative_begun [] rest e =
    let is : [] ≡ rest = cc in
    record { front = 45 ∷ []; is = ap minus_word is; some = omega arith; more = 48 ∷ []; number = signed true 0; spells = signed_spelled 48 [] refl (omega arith) }
negative_begun (b ∷ text) rest e =
    elim (chosen (is_digit b) _ _ _ e) [
      | inl p ↦
          let d = digits_begun true (b - 48) text rest (signed_stop true (digits_at true (b - 48) text) rest p.1) in
          let front = 45 ∷ b ∷ d.digits in
          record {
            front = front;
            is = ap (λ (x : List ℕ). 45 ∷ b ∷ x) d.is;
            some = omega arith;
            more = [];
            number = signed true (digits_value (b ∷ d.digits));
            spells = subst (λ (x : List ℕ). SpellsNumber (signed true (digits_value (b ∷ d.digits))) x) (sym (append-nil front)) (signed_spelled b d.digits (and_from _ _ p.0 d.are_digits) (value_within true b text rest p.0 d));
          }
      | inr p ↦
          let is : b ∷ text ≡ rest = cc in
          record { front = 45 ∷ []; is = ap minus_word is; some = omega arith; more = 48 ∷ []; number = signed true 0; spells = signed_spelled 48 [] refl (omega arith) }
    ]

plain_begun : (b : ℕ) (text rest : List ℕ) → is_digit b ≡ true → unsigned_at false (b ∷ text) ≡ Err rest → NumberBegun (b ∷ text) rest
plain_begun b text rest h e =
    elim (chosen (is_digit b) _ _ _ e) [
      | inl p ↦
          let d = digits_begun false (b - 48) text rest (signed_stop false (digits_at false (b - 48) text) rest p.1) in
          let front = b ∷ d.digits in
          record {
            front = front;
            is = ap (λ (x : List ℕ). b ∷ x) d.is;
            some = omega arith;
            more = [];
            number = signed false (digits_value (b ∷ d.digits));
            spells = subst (λ (x : List ℕ). SpellsNumber (signed false (digits_value (b ∷ d.digits))) x) (sym (append-nil front)) (plain_spelled b d.digits (and_from _ _ p.0 d.are_digits) (value_within false b text rest p.0 d));
          }
      | inr p ↦ let no : true ≡ false = sym h ∙ p.0 in cc
    ]

number_begun : (b : ℕ) (text rest : List ℕ) → begins_number b ≡ true → number_at (b ∷ text) ≡ Err rest → NumberBegun (b ∷ text) rest
number_begun b text rest h e =
    elim (chosen (b == 45) _ _ _ e) [
      | inl p ↦ subst (λ (x : ℕ). NumberBegun (x ∷ text) rest) (sym (eqb-true b 45 p.0)) (negative_begun text rest p.1)
      | inr p ↦
          let digit : is_digit b ≡ true = elim (or_cases (is_digit b) (b == 45) h) [ inl a ↦ a | inr a ↦ let no : true ≡ false = sym a ∙ p.0 in cc ] in
          plain_begun b text rest digit p.1
    ]

-- texts

leads_on : (b : ℕ) → goes_on b ≡ false → 128 ≤ b → 192 ≤ b
leads_on b h l = grind (arith, nat_tests)

cut_at : (front : List ℕ) (b : ℕ) (rest : List ℕ) → goes_on b ≡ false → IsUtf8 (front ++ b ∷ rest) → IsUtf8 front
cut_at front b rest h u =
    let at : get_or (front ++ b ∷ rest) (length front) 0 ≡ b = get_or_at front b rest 0 (length front) refl in
    let within : length front ≤ length (front ++ b ∷ rest) = omega (arith, length-append front (b ∷ rest)) in
    let boundary : IsCharBoundary (front ++ b ∷ rest) (length front) = (within, λ l. subst (λ (x : ℕ). 128 ≤ x → 192 ≤ x) (sym at) (leads_on b h)) in
    subst (λ (x : List ℕ). IsUtf8 x) (take_at front (b ∷ rest) (length front) refl) (IsUtf8-take (front ++ b ∷ rest) (length front) u boundary)

record TextBegun (from : List ℕ) (rest : List ℕ) : Type 0 where
  pub content : List ℕ
  pub closed : Bool
  pub is : from ≡ doubled content ++ pending closed rest
  pub fits : FitsFrom 0 content
  pub utf8 : IsUtf8 content

text_from : (from other rest : List ℕ) → from ≡ other → TextBegun other rest → TextBegun from rest
text_from from other rest e t = record { content = t.content; closed = t.closed; is = e ∙ t.is; fits = t.fits; utf8 = t.utf8 }

content_begun : (text content : List ℕ) (closed : Bool) (rest : List ℕ) → FitsFrom 0 content → IsUtf8 (content ++ pending closed text) → content_at content closed text ≡ Err rest → TextBegun (doubled content ++ pending closed text) rest
content_begun [] content false rest f u e =
    let is : [] ≡ rest = cc in
    record { content = content; closed = false; is = ap (λ (x : List ℕ). doubled content ++ x) is; fits = f; utf8 = subst (λ (x : List ℕ). IsUtf8 x) (append-nil content) u }
content_begun [] content true rest f u e = cc
content_begun (b ∷ text) content false rest f u e =
    elim (chosen (b == 39) _ _ _ e) [
      | inl p ↦
          let same = eqb-true b 39 p.0 in
          text_from (doubled content ++ b ∷ text) (doubled content ++ 39 ∷ text) rest (ap (λ (x : ℕ). doubled content ++ x ∷ text) same)
          (content_begun text content true rest f (subst (λ (x : ℕ). IsUtf8 (content ++ x ∷ text)) same u) p.1)
      | inr p ↦ elim (chosen (has_room content b) _ _ _ p.1) [
        | inl q ↦
            let step_ : doubled (content ++ b ∷ []) ≡ doubled content ++ b ∷ [] = doubled_append content (b ∷ []) ∙ ap (λ (x : List ℕ). doubled content ++ x) (doubled_other b p.0) in
            text_from (doubled content ++ b ∷ text) (doubled (content ++ b ∷ []) ++ text) rest (sym (append_assoc (doubled content) (b ∷ []) text) ∙ ap (λ (x : List ℕ). x ++ text) (sym step_))
            (content_begun text (content ++ b ∷ []) false rest (fits_more 0 content b f (room_fits content b q.0)) (rw append_assoc u) q.1)
        | inr q ↦
            let is : b ∷ text ≡ rest = cc in
            record { content = content; closed = false; is = ap (λ (x : List ℕ). doubled content ++ x) is; fits = f; utf8 = cut_at content b text (or_parts _ _ q.0).0 u }
      ]
    ]
content_begun (b ∷ text) content true rest f u e =
    elim (chosen (b == 39) _ _ _ e) [
      | inl p ↦ elim (chosen (has_room content b) _ _ _ p.1) [
        | inl q ↦
            let is = eqb-true b 39 p.0 in
            let step_ : doubled (content ++ b ∷ []) ≡ doubled content ++ 39 ∷ 39 ∷ [] = doubled_append content (b ∷ []) ∙ ap (λ (x : ℕ). doubled content ++ doubled (x ∷ [])) is in
            let behind = cut_behind content 39 (b ∷ text) (omega arith) u in
            let last = cut_behind [] b text (omega arith) behind.1 in
            let utf8 : IsUtf8 ((content ++ b ∷ []) ++ text) = IsUtf8-append (content ++ b ∷ []) text (subst (λ (x : ℕ). IsUtf8 (content ++ x ∷ [])) (sym is) behind.0) last.1 in
            text_from (doubled content ++ 39 ∷ b ∷ text) (doubled (content ++ b ∷ []) ++ text) rest
            (ap (λ (x : ℕ). doubled content ++ 39 ∷ x ∷ text) is ∙ sym (append_assoc (doubled content) (39 ∷ 39 ∷ []) text) ∙ ap (λ (x : List ℕ). x ++ text) (sym step_))
            (content_begun text (content ++ b ∷ []) false rest (fits_more 0 content b f (room_fits content b q.0)) utf8 q.1)
        | inr q ↦
            let is : b ∷ text ≡ rest = cc in
            record { content = content; closed = true; is = ap (λ (x : List ℕ). doubled content ++ 39 ∷ x) is; fits = f; utf8 = cut_before content 39 (b ∷ text) (omega arith) u }
      ]
      | inr p ↦ cc
    ]

-- a token begun at the front of a text, and how it may end
pub record Begun (s : Outline) (text rest : List ℕ) : Type 0 where
  pub front : List ℕ
  pub is : text ≡ front ++ rest
  pub some : 0 < length front
  pub more : List ℕ
  pub token : grammar.Token
  pub next : Outline
  pub spells : Spells token (front ++ more)
  pub steps : step s token ≡ Some next

spelled_text : (content : List ℕ) → IsUtf8 content → FitsFrom 0 content → SpellsText content (39 ∷ (doubled content ++ 39 ∷ []))
spelled_text content u f = record { utf8 = u; within = content_within content u f; spelled = quoted_bytes content u }

text_begun : (s : Outline) (text rest content : List ℕ) (closed : Bool) → takes_text s.phase ≡ true → text ≡ doubled content ++ pending closed rest → FitsFrom 0 content → IsUtf8 content → Begun s (39 ∷ text) rest
text_begun s text rest content false t e f u =
    let steps = text_step_some s content t in
    record { front = 39 ∷ doubled content; is = ap (λ (x : List ℕ). 39 ∷ x) e; some = omega arith; more = 39 ∷ []; token = grammar.Operand (atoms.Text content); next = steps.0; spells = spelled_text content u f; steps = steps.1 }
text_begun s text rest content true t e f u =
    let steps = text_step_some s content t in
    let front = 39 ∷ (doubled content ++ 39 ∷ []) in
    record {
      front = front;
      is = ap (λ (x : List ℕ). 39 ∷ x) (e ∙ sym (append_assoc (doubled content) (39 ∷ []) rest));
      some = omega arith;
      more = [];
      token = grammar.Operand (atoms.Text content);
      next = steps.0;
      spells = subst (λ (x : List ℕ). SpellsText content x) (sym (append-nil front)) (spelled_text content u f);
      steps = steps.1;
    }

-- comparisons

bang_stop : (text rest : List ℕ) → behind_bang text ≡ Err rest → text ≡ rest
bang_stop [] rest e = cc
bang_stop (b ∷ text) rest e = elim (chosen (b == 61) _ _ _ e) [ inl p ↦ cc | inr p ↦ cc ]

comparison_stop : (b : ℕ) (text rest : List ℕ) → comparison_at b text ≡ Err rest → (b ≡ 33) × (text ≡ rest)
comparison_stop b text rest e =
    elim (chosen (b == 60) _ _ _ e) [
      | inl p ↦ cc
      | inr p ↦ elim (chosen (b == 62) _ _ _ p.1) [
        | inl q ↦ cc
        | inr q ↦ elim (chosen (b == 33) _ _ _ q.1) [
          | inl r ↦ (eqb-true b 33 r.0, bang_stop text rest r.1)
          | inr r ↦ cc
        ]
      ]
    ]

comparison_begun : (s : Outline) (b : ℕ) (text rest : List ℕ) → takes_test s.phase ≡ true → comparison_at b text ≡ Err rest → Begun s (b ∷ text) rest
comparison_begun s b text rest t e =
    let stop = comparison_stop b text rest e in
    let steps = comparison_step_some s cmps.Unequal t in
    record {
      front = b ∷ [];
      is = ap (λ (x : List ℕ). b ∷ x) stop.1;
      some = omega arith;
      more = 61 ∷ [];
      token = grammar.Compared cmps.Unequal;
      next = steps.0;
      spells = inr (ap (λ (x : ℕ). x ∷ 61 ∷ []) stop.0);
      steps = steps.1;
    }

-- words

are_small : (w : Word) → list_all (λ l. to_ascii_lowercase l == l) (spelled w) ≡ true
are_small words.Or = refl
are_small words.And = refl
are_small words.Not = refl
are_small words.Is = refl
are_small words.Like = refl
are_small words.Null = refl
are_small words.Priority = refl
are_small words.Corr = refl
are_small words.Cell = refl
are_small words.Prop = refl

begun_itself : (letters : List ℕ) → list_all (λ l. to_ascii_lowercase l == l) letters ≡ true → is_begun letters letters ≡ true
begun_itself [] h = refl
begun_itself (l ∷ letters) h = let both = and_parts _ _ h in and_from _ _ both.0 (begun_itself letters both.1)

begun_rest : (letters head : List ℕ) → list_all (λ l. to_ascii_lowercase l == l) letters ≡ true → is_begun letters head ≡ true → (more : List ℕ) × (is_begun letters (head ++ more) ≡ true) × (length (head ++ more) ≡ length letters)
begun_rest letters [] small h = (letters, begun_itself letters small, refl)
begun_rest [] (b ∷ head) small h = cc
begun_rest (l ∷ letters) (b ∷ head) small h =
    let both = and_parts _ _ h in
    let others : list_all (λ x. to_ascii_lowercase x == x) letters ≡ true = (and_parts (to_ascii_lowercase l == l) (list_all (λ x. to_ascii_lowercase x == x) letters) small).1 in
    let r = begun_rest letters head others both.1 in
    let len : length (head ++ r.0) ≡ length letters = r.2 in
    (r.0, and_from _ _ both.0 r.1, omega arith)

fixed_begins : (w : Word) (head : List ℕ) → is_named w ≡ false → begins_word w head ≡ is_begun (spelled w) head
fixed_begins w head e =
    let len = length (spelled w) in
    let test : (is_named w && nat_lt len (length head)) ≡ false = rw e refl in
    no_cond (is_named w && nat_lt len (length head)) (is_begun (spelled w) (take len head) && is_field_name (drop len head)) (is_begun (spelled w) head) test

fixed_ends : (w : Word) (head : List ℕ) → is_named w ≡ false → begins_word w head ≡ true → (more : List ℕ) × (is_whole w (head ++ more) ≡ true)
fixed_ends w head e h =
    let r = begun_rest (spelled w) head (are_small w) (sym (fixed_begins w head e) ∙ h) in
    let whole = head ++ r.0 in
    (r.0, and_from _ _ (no_cond (is_named w) (nat_lt (length (spelled w)) (length whole)) (length whole == length (spelled w)) e ∙ eq-eqb (length whole) (length (spelled w)) r.2) (fixed_begins w whole e ∙ r.1))

named_ends : (letters head : List ℕ) → length letters ≡ 14 → list_all (λ l. to_ascii_lowercase l == l) letters ≡ true → begins_named letters head ≡ true → (more : List ℕ) × (is_whole_named letters (head ++ more) ≡ true)
named_ends letters head fourteen small h =
    elim (cases_Bool (nat_lt 14 (length head))) [
      | inl a ↦ ([], subst (λ (x : List ℕ). is_whole_named letters x ≡ true) (sym (append-nil head)) (and_from _ _ a h))
      | inr a ↦
          let begun : is_begun letters head ≡ true = sym (no_cond (nat_lt 14 (length head)) (is_begun letters (take 14 head) && is_field_name (drop 14 head)) (is_begun letters head) a) ∙ h in
          let r = begun_rest letters head small begun in
          let front = head ++ r.0 in
          let len : length front ≡ 14 = r.2 ∙ fourteen in
          let whole = front ++ 97 ∷ [] in
          let longer : 14 < length whole = omega (arith, length-append front (97 ∷ [])) in
          let first : is_begun letters (take 14 whole) ≡ true = ap (is_begun letters) (take_at front (97 ∷ []) 14 len) ∙ r.1 in
          let name : is_field_name (drop 14 whole) ≡ true = ap is_field_name (drop_at front (97 ∷ []) 14 len) in
          let test = lt-ltb 14 (length whole) longer in
          let begins : begins_named letters whole ≡ true = yes_cond (nat_lt 14 (length whole)) (is_begun letters (take 14 whole) && is_field_name (drop 14 whole)) (is_begun letters whole) test ∙ and_from _ _ first name in
          (r.0 ++ 97 ∷ [], subst (λ (x : List ℕ). is_whole_named letters x ≡ true) (append_assoc head r.0 (97 ∷ [])) (and_from _ _ test begins))
    ]

word_ends : (w : Word) (head : List ℕ) → begins_word w head ≡ true → (more : List ℕ) × (is_whole w (head ++ more) ≡ true)
word_ends words.Or head h = fixed_ends words.Or head refl h
word_ends words.And head h = fixed_ends words.And head refl h
word_ends words.Not head h = fixed_ends words.Not head refl h
word_ends words.Is head h = fixed_ends words.Is head refl h
word_ends words.Like head h = fixed_ends words.Like head refl h
word_ends words.Null head h = fixed_ends words.Null head refl h
word_ends words.Priority head h = fixed_ends words.Priority head refl h
word_ends words.Corr head h = fixed_ends words.Corr head refl h
word_ends words.Cell head h = named_ends (spelled words.Cell) head refl (are_small words.Cell) h
word_ends words.Prop head h = named_ends (spelled words.Prop) head refl (are_small words.Prop) h

split_begins : (s : Outline) (head text : List ℕ) (out : List ℕ × List ℕ) → (head ≡ []) ⊎ (begins_any s head ≡ true) → word_split s head text ≡ out → (out.0 ≡ []) ⊎ (begins_any s out.0 ≡ true)
split_begins s head [] out h e = subst (λ (x : List ℕ). (x ≡ []) ⊎ (begins_any s x ≡ true)) (ap (λ (o : List ℕ × List ℕ). o.0) e) h
split_begins s head (b ∷ text) out h e =
    elim (chosen (begins_any s (head ++ b ∷ [])) _ _ _ e) [
      | inl p ↦ split_begins s (head ++ b ∷ []) text out (inr p.0) p.1
      | inr p ↦ subst (λ (x : List ℕ). (x ≡ []) ⊎ (begins_any s x ≡ true)) (ap (λ (o : List ℕ × List ℕ). o.0) p.1) h
    ]

record WordBegun (s : Outline) (head : List ℕ) : Type 0 where
  pub word : Word
  pub takes : takes_word s word ≡ true
  pub begins : begins_word word head ≡ true

begun_word : (s : Outline) (head : List ℕ) → begins_any s head ≡ true → WordBegun s head
unfolding begins_any
begun_word s head h =
    let w = any_witness (λ word. takes_word s word && begins_word word head) WORDS h in
    let both = and_parts _ _ w.1 in
    record { word = w.0; takes = both.0; begins = both.1 }

some_head : (head : List ℕ) (s : Outline) (text rest : List ℕ) → text ≡ head ++ rest → WordBegun s head → (text ≡ rest) ⊎ Begun s text rest
some_head [] s text rest e w = inl e
some_head (b ∷ head) s text rest e w =
    let ends = word_ends w.word (b ∷ head) w.begins in
    let whole = whole_word w.word ((b ∷ head) ++ ends.0) ends.1 in
    let token = word_token w.word ((b ∷ head) ++ ends.0) in
    let steps = word_some s w.word ((b ∷ head) ++ ends.0) w.takes in
    inr record { front = b ∷ head; is = e; some = omega arith; more = ends.0; token = token; next = steps.0; spells = whole.spells; steps = steps.1 }

word_begun : (s : Outline) (text rest : List ℕ) → word_at s text ≡ Err rest → (text ≡ rest) ⊎ Begun s text rest
word_begun s text rest e =
    let split = word_split s [] text in
    let left : split.1 ≡ rest = ended_left (found_word s split.0) split.0 split.1 rest None e in
    let same : text ≡ split.0 ++ rest = split_same s [] text split refl ∙ ap (λ (x : List ℕ). split.0 ++ x) left in
    elim (split_begins s [] text split (inl refl) refl) [
      | inl h ↦ inl (same ∙ ap (λ (x : List ℕ). x ++ rest) h)
      | inr h ↦ some_head split.0 s text rest same (begun_word s split.0 h)
    ]

-- tokens

as_token_stop : {X : Type 0} (token : X → grammar.Token) (r : Result (X × List ℕ) (List ℕ)) (rest : List ℕ) → as_token token r ≡ Err rest → r ≡ Err rest
as_token_stop token (Ok x) rest e = cc
as_token_stop {X = X} token (Err r) rest e = let is : r ≡ rest = cc in ap (λ (x : List ℕ). let o : Result (X × List ℕ) (List ℕ) = Err x in o) is

other_begun : (s : Outline) (b : ℕ) (text rest : List ℕ) (sign : Option grammar.Token) → symbol_or sign text (cond (takes_test s.phase && is_comparison_byte b) (comparison_token b text) (word_at s (b ∷ text))) ≡ Err rest → (b ∷ text ≡ rest) ⊎ Begun s (b ∷ text) rest
other_begun s b text rest (Some token) e = cc
other_begun s b text rest None e =
    elim (chosen (takes_test s.phase && is_comparison_byte b) _ _ _ e) [
      | inl p ↦ inr (comparison_begun s b text rest (and_parts _ _ p.0).0 (as_token_stop (λ how. grammar.Compared how) (comparison_at b text) rest p.1))
      | inr p ↦ word_begun s (b ∷ text) rest p.1
    ]

pub token_begun : (s : Outline) (text rest : List ℕ) → IsUtf8 text → token_at s text ≡ Err rest → (text ≡ rest) ⊎ Begun s text rest
token_begun s [] rest u e = inl cc
token_begun s (b ∷ text) rest u e =
    elim (chosen (b == 39 && takes_text s.phase) _ _ _ e) [
      | inl p ↦
          let both = and_parts _ _ p.0 in
          let is = eqb-true b 39 both.0 in
          let utf8 = cut_first 39 text (omega arith) (subst (λ (x : ℕ). IsUtf8 (x ∷ text)) is u) in
          let t = content_begun text [] false rest tt utf8 (as_token_stop (λ content. grammar.Operand (atoms.Text content)) (content_at [] false text) rest p.1) in
          inr (subst (λ (x : ℕ). Begun s (x ∷ text) rest) (sym is) (text_begun s text rest t.content t.closed both.1 t.is t.fits t.utf8))
      | inr p ↦ elim (chosen (begins_number b && takes_atom s.phase) _ _ _ p.1) [
        | inl q ↦
            let both = and_parts _ _ q.0 in
            let n = number_begun b text rest both.0 (as_token_stop (λ z. grammar.Operand (atoms.Number z)) (number_at (b ∷ text)) rest q.1) in
            let steps = number_some s (atoms.Number n.number) both.1 in
            inr record { front = n.front; is = n.is; some = n.some; more = n.more; token = grammar.Operand (atoms.Number n.number); next = steps.0; spells = n.spells; steps = steps.1 }
        | inr q ↦ other_begun s b text rest (symbol s b) q.1
      ]
    ]
