-- What is read of a text does not depend on what stands behind the byte where it stops.
use Rattle.std.proofs.Common.{◌≡◌, ◌==◌, inl, inr, ℕ, ◌+◌, ◌-◌, ◌*◌, ℤ, List, [], ◌∷◌, ◌++◌, Bool, true, false, Option, Some, None, Result, Ok, Err, refl, sym, ◌∙◌, ap, subst, cond, ◌&&◌, ◌||◌, nat_le}
use Rattle.rule_conditions.specs.Tokens as grammar
use Rattle.rule_conditions.specs.Tokens.{is_digit, is_word_byte, is_end_of_word, is_space}
use Rattle.rule_conditions.specs.declared.condition.Atom.TheVariants as atoms
use Rattle.rule_conditions.specs.declared.condition.Cmp.{Cmp}
use Rattle.rule_conditions.specs.declared.condition.Cmp.TheVariants as cmps
use Rattle.rule_text.proofs.Choice.{chosen}
use Rattle.rule_text.proofs.Choosing.{yes_cond, no_cond}
use Rattle.rule_conditions.specs.Lexing.{limit, signed, signed_at, digits_at, unsigned_at, number_at, number_token, content_at, has_room, quoted_at, as_token, comparison_at, comparison_token, behind_less, behind_greater, behind_bang, is_comparison_byte, symbol_or}
use Rattle.rule_text.specs.Lexing.{word_at, word_split, ended_word, found_word, word_token, begins_any, symbol, other_at, token_at}
use Rattle.rule_text.specs.Outline.{takes_text, takes_atom, takes_test}
use Rattle.rule_text.specs.declared.outline.Outline.{Outline}
use Rattle.rule_text.specs.declared.tokens.Word.{Word}

-- what was read, if anything, and what is left
abbrev pub left_with : {X : Type 0} → Option X → List ℕ → Result (X × List ℕ) (List ℕ)
left_with None rest = Err rest
left_with (Some x) rest = Ok (x, rest)

-- the text up to where this byte is left, whatever stands behind it
pub record Again {X : Type 0} (read : List ℕ → Result (X × List ℕ) (List ℕ)) (k : Option X) (text : List ℕ) (c : ℕ) (r : List ℕ) : Type 0 where
  pub front : List ℕ
  pub is : text ≡ front ++ c ∷ r
  pub again : (other : List ℕ) → read (front ++ c ∷ other) ≡ left_with k (c ∷ other)

nothing_left : {X : Type 0} (k : Option X) (x : X) (c : ℕ) (r : List ℕ) → Ok (x, []) ≡ left_with k (c ∷ r) → ⊥
nothing_left None x c r e = cc
nothing_left {X = X} (Some y) x c r e = let p : (x, []) ≡ (y, c ∷ r) = cc in let q : [] ≡ c ∷ r = ap (λ (z : X × List ℕ). z.1) p in cc

none_left : {X : Type 0} (k : Option X) (c : ℕ) (r : List ℕ) → Err [] ≡ left_with k (c ∷ r) → ⊥
none_left None c r e = cc
none_left (Some y) c r e = cc

ok_left : {X : Type 0} (k : Option X) (x : X) (rest left : List ℕ) → Ok (x, rest) ≡ left_with k left → (k ≡ Some x) × (rest ≡ left)
ok_left None x rest left e = cc
ok_left {X = X} (Some y) x rest left e =
    let p : (x, rest) ≡ (y, left) = cc in
    (ap (λ (z : X × List ℕ). let o : Option X = Some z.0 in o) (sym p), ap (λ (z : X × List ℕ). z.1) p)

err_left : {X : Type 0} (k : Option X) (rest left : List ℕ) → Err rest ≡ left_with k left → (k ≡ None) × (rest ≡ left)
err_left None rest left e = (refl, cc)
err_left (Some y) rest left e = cc

-- it stops at once
here : {X : Type 0} (read : List ℕ → Result (X × List ℕ) (List ℕ)) (k : Option X) (b c : ℕ) (text r : List ℕ) → b ∷ text ≡ c ∷ r → ((other : List ℕ) → read (b ∷ other) ≡ left_with k (b ∷ other)) → Again read k (b ∷ text) c r
here read k b c text r e h =
    let same : b ≡ c = cc in
    record { front = []; is = e; again = λ other. subst (λ (x : ℕ). read (x ∷ other) ≡ left_with k (x ∷ other)) same (h other) }

here_ok : {X : Type 0} (read : List ℕ → Result (X × List ℕ) (List ℕ)) (k : Option X) (x : X) (b c : ℕ) (text r : List ℕ) → Ok (x, b ∷ text) ≡ left_with k (c ∷ r) → ((other : List ℕ) → read (b ∷ other) ≡ Ok (x, b ∷ other)) → Again read k (b ∷ text) c r
here_ok {X = X} read k x b c text r e h =
    let l = ok_left k x (b ∷ text) (c ∷ r) e in
    here read k b c text r l.1 (λ other. h other ∙ ap (λ (o : Option X). left_with o (b ∷ other)) (sym l.0))

here_err : {X : Type 0} (read : List ℕ → Result (X × List ℕ) (List ℕ)) (k : Option X) (b c : ℕ) (text r : List ℕ) → Err (b ∷ text) ≡ left_with k (c ∷ r) → ((other : List ℕ) → read (b ∷ other) ≡ Err (b ∷ other)) → Again read k (b ∷ text) c r
here_err {X = X} read k b c text r e h =
    let l = err_left k (b ∷ text) (c ∷ r) e in
    here read k b c text r l.1 (λ other. h other ∙ ap (λ (o : Option X). left_with o (b ∷ other)) (sym l.0))

-- it goes on behind the first byte
further : {X Y : Type 0} (read : List ℕ → Result (X × List ℕ) (List ℕ)) (more : List ℕ → Result (Y × List ℕ) (List ℕ)) (k : Option X) (j : Option Y) (b c : ℕ) (text r : List ℕ) → Again more j text c r →
    ((front other : List ℕ) → more (front ++ c ∷ other) ≡ left_with j (c ∷ other) → read (b ∷ (front ++ c ∷ other)) ≡ left_with k (c ∷ other)) → Again read k (b ∷ text) c r
further read more k j b c text r a h = record {
  front = b ∷ a.front;
  is = ap (λ (x : List ℕ). b ∷ x) a.is;
  again = λ other. h a.front other (a.again other);
}

-- what is read with the same first byte is the same
same_head : (front : List ℕ) (b c : ℕ) (text r other : List ℕ) → b ∷ text ≡ front ++ c ∷ r → (tail : List ℕ) × (front ++ c ∷ other ≡ b ∷ tail)
same_head [] b c text r other e = let same : c ≡ b = cc in (other, ap (λ (x : ℕ). x ∷ other) same)
same_head (a ∷ front) b c text r other e = let same : a ≡ b = cc in (front ++ c ∷ other, ap (λ (x : ℕ). x ∷ (front ++ c ∷ other)) same)

otherwise : {X Y : Type 0} (read : List ℕ → Result (X × List ℕ) (List ℕ)) (more : List ℕ → Result (Y × List ℕ) (List ℕ)) (k : Option X) (j : Option Y) (b c : ℕ) (text r : List ℕ) → Again more j (b ∷ text) c r →
    ((tail rest : List ℕ) → more (b ∷ tail) ≡ left_with j rest → read (b ∷ tail) ≡ left_with k rest) → Again read k (b ∷ text) c r
otherwise read more k j b c text r a h = record {
  front = a.front;
  is = a.is;
  again = λ other.
      let s = same_head a.front b c text r other a.is in
      ap read s.1 ∙ h s.0 (c ∷ other) (ap more (sym s.1) ∙ a.again other);
}

-- numbers

digits_again : (negative : Bool) (n : ℕ) (text : List ℕ) (k : Option ℕ) (c : ℕ) (r : List ℕ) → digits_at negative n text ≡ left_with k (c ∷ r) → Again (digits_at negative n) k text c r
digits_again negative n [] k c r e = absurd (nothing_left k n c r e)
digits_again negative n (b ∷ text) k c r e =
    let next = n * 10 + (b - 48) in
    let within : List ℕ → Result (ℕ × List ℕ) (List ℕ) = λ x. cond (nat_le next (limit negative)) (digits_at negative next x) (Err (b ∷ x)) in
    let behind : List ℕ → Result (ℕ × List ℕ) (List ℕ) = λ x. cond (is_word_byte b) (Err (b ∷ x)) (Ok (n, b ∷ x)) in
    elim (chosen (is_digit b) _ _ _ e) [
      | inl p ↦ elim (chosen (nat_le next (limit negative)) _ _ _ p.1) [
        | inl q ↦ further (digits_at negative n) (digits_at negative next) k k b c text r (digits_again negative next text k c r q.1)
            (λ front other a. yes_cond (is_digit b) (within (front ++ c ∷ other)) (behind (front ++ c ∷ other)) p.0 ∙ yes_cond (nat_le next (limit negative)) (digits_at negative next (front ++ c ∷ other)) (Err (b ∷ (front ++ c ∷ other))) q.0 ∙ a)
        | inr q ↦ here_err (digits_at negative n) k b c text r q.1
            (λ other. yes_cond (is_digit b) (within other) (behind other) p.0 ∙ no_cond (nat_le next (limit negative)) (digits_at negative next other) (Err (b ∷ other)) q.0)
      ]
      | inr p ↦ elim (chosen (is_word_byte b) _ _ _ p.1) [
        | inl q ↦ here_err (digits_at negative n) k b c text r q.1 (λ other. no_cond (is_digit b) (within other) (behind other) p.0 ∙ yes_cond (is_word_byte b) (Err (b ∷ other)) (Ok (n, b ∷ other)) q.0)
        | inr q ↦ here_ok (digits_at negative n) k n b c text r q.1 (λ other. no_cond (is_digit b) (within other) (behind other) p.0 ∙ no_cond (is_word_byte b) (Err (b ∷ other)) (Ok (n, b ∷ other)) q.0)
      ]
    ]

-- what a reading made of another was made of
pub record Made {X Y : Type 0} (make : Result (Y × List ℕ) (List ℕ) → Result (X × List ℕ) (List ℕ)) (from : Result (Y × List ℕ) (List ℕ)) (k : Option X) (left : List ℕ) : Type 0 where
  pub of : Option Y
  pub is : from ≡ left_with of left
  pub again : (other : List ℕ) → make (left_with of other) ≡ left_with k other

signed_made : (negative : Bool) (from : Result (ℕ × List ℕ) (List ℕ)) (k : Option ℤ) (left : List ℕ) → signed_at negative from ≡ left_with k left → Made (signed_at negative) from k left
signed_made negative (Ok x) k left e =
    let l = ok_left k (signed negative x.0) x.1 left e in
    record { of = Some x.0; is = ap (λ (rest : List ℕ). let o : Result (ℕ × List ℕ) (List ℕ) = Ok (x.0, rest) in o) l.1; again = λ other. ap (λ (o : Option ℤ). left_with o other) (sym l.0) }
signed_made negative (Err rest) k left e =
    let l = err_left k rest left e in
    record { of = None; is = ap (λ (x : List ℕ). let o : Result (ℕ × List ℕ) (List ℕ) = Err x in o) l.1; again = λ other. ap (λ (o : Option ℤ). left_with o other) (sym l.0) }

token_made : {Y : Type 0} (token : Y → grammar.Token) (from : Result (Y × List ℕ) (List ℕ)) (k : Option grammar.Token) (left : List ℕ) → as_token token from ≡ left_with k left → Made (as_token token) from k left
token_made {Y = Y} token (Ok x) k left e =
    let l = ok_left k (token x.0) x.1 left e in
    record { of = Some x.0; is = ap (λ (rest : List ℕ). let o : Result (Y × List ℕ) (List ℕ) = Ok (x.0, rest) in o) l.1; again = λ other. ap (λ (o : Option grammar.Token). left_with o other) (sym l.0) }
token_made {Y = Y} token (Err rest) k left e =
    let l = err_left k rest left e in
    record { of = None; is = ap (λ (x : List ℕ). let o : Result (Y × List ℕ) (List ℕ) = Err x in o) l.1; again = λ other. ap (λ (o : Option grammar.Token). left_with o other) (sym l.0) }

unsigned_again : (negative : Bool) (text : List ℕ) (k : Option ℤ) (c : ℕ) (r : List ℕ) → unsigned_at negative text ≡ left_with k (c ∷ r) → Again (unsigned_at negative) k text c r
unsigned_again negative [] k c r e = absurd (none_left k c r e)
unsigned_again negative (b ∷ text) k c r e =
    let digits : List ℕ → Result (ℤ × List ℕ) (List ℕ) = λ x. signed_at negative (digits_at negative (b - 48) x) in
    elim (chosen (is_digit b) _ _ _ e) [
      | inl p ↦
          let m = signed_made negative (digits_at negative (b - 48) text) k (c ∷ r) p.1 in
          further (unsigned_at negative) (digits_at negative (b - 48)) k m.of b c text r (digits_again negative (b - 48) text m.of c r m.is)
          (λ front other a. yes_cond (is_digit b) (digits (front ++ c ∷ other)) (Err (b ∷ (front ++ c ∷ other))) p.0 ∙ ap (signed_at negative) a ∙ m.again (c ∷ other))
      | inr p ↦ here_err (unsigned_at negative) k b c text r p.1 (λ other. no_cond (is_digit b) (digits other) (Err (b ∷ other)) p.0)
    ]

number_again : (text : List ℕ) (k : Option ℤ) (c : ℕ) (r : List ℕ) → number_at text ≡ left_with k (c ∷ r) → Again number_at k text c r
number_again [] k c r e = absurd (none_left k c r e)
number_again (b ∷ text) k c r e =
    elim (chosen (b == 45) _ _ _ e) [
      | inl p ↦ further number_at (unsigned_at true) k k b c text r (unsigned_again true text k c r p.1)
          (λ front other a. yes_cond (b == 45) (unsigned_at true (front ++ c ∷ other)) (unsigned_at false (b ∷ (front ++ c ∷ other))) p.0 ∙ a)
      | inr p ↦ otherwise number_at (unsigned_at false) k k b c text r (unsigned_again false (b ∷ text) k c r p.1)
          (λ tail rest a. no_cond (b == 45) (unsigned_at true tail) (unsigned_at false (b ∷ tail)) p.0 ∙ a)
    ]

-- texts

content_again : (text content : List ℕ) (closed : Bool) (k : Option (List ℕ)) (c : ℕ) (r : List ℕ) → content_at content closed text ≡ left_with k (c ∷ r) → Again (content_at content closed) k text c r
content_again [] content false k c r e = absurd (none_left k c r e)
content_again [] content true k c r e = absurd (nothing_left k content c r e)
content_again (b ∷ text) content false k c r e =
    let more : List ℕ → Result (List ℕ × List ℕ) (List ℕ) = λ x. cond (has_room content b) (content_at (content ++ b ∷ []) false x) (Err (b ∷ x)) in
    elim (chosen (b == 39) _ _ _ e) [
      | inl p ↦ further (content_at content false) (content_at content true) k k b c text r (content_again text content true k c r p.1)
          (λ front other a. yes_cond (b == 39) (content_at content true (front ++ c ∷ other)) (more (front ++ c ∷ other)) p.0 ∙ a)
      | inr p ↦ elim (chosen (has_room content b) _ _ _ p.1) [
        | inl q ↦ further (content_at content false) (content_at (content ++ b ∷ []) false) k k b c text r (content_again text (content ++ b ∷ []) false k c r q.1)
            (λ front other a. no_cond (b == 39) (content_at content true (front ++ c ∷ other)) (more (front ++ c ∷ other)) p.0 ∙ yes_cond (has_room content b) (content_at (content ++ b ∷ []) false (front ++ c ∷ other)) (Err (b ∷ (front ++ c ∷ other))) q.0 ∙ a)
        | inr q ↦ here_err (content_at content false) k b c text r q.1
            (λ other. no_cond (b == 39) (content_at content true other) (more other) p.0 ∙ no_cond (has_room content b) (content_at (content ++ b ∷ []) false other) (Err (b ∷ other)) q.0)
      ]
    ]
content_again (b ∷ text) content true k c r e =
    let more : List ℕ → Result (List ℕ × List ℕ) (List ℕ) = λ x. cond (has_room content b) (content_at (content ++ b ∷ []) false x) (Err (b ∷ x)) in
    elim (chosen (b == 39) _ _ _ e) [
      | inl p ↦ elim (chosen (has_room content b) _ _ _ p.1) [
        | inl q ↦ further (content_at content true) (content_at (content ++ b ∷ []) false) k k b c text r (content_again text (content ++ b ∷ []) false k c r q.1)
            (λ front other a. yes_cond (b == 39) (more (front ++ c ∷ other)) (Ok (content, b ∷ (front ++ c ∷ other))) p.0 ∙ yes_cond (has_room content b) (content_at (content ++ b ∷ []) false (front ++ c ∷ other)) (Err (b ∷ (front ++ c ∷ other))) q.0 ∙ a)
        | inr q ↦ here_err (content_at content true) k b c text r q.1
            (λ other. yes_cond (b == 39) (more other) (Ok (content, b ∷ other)) p.0 ∙ no_cond (has_room content b) (content_at (content ++ b ∷ []) false other) (Err (b ∷ other)) q.0)
      ]
      | inr p ↦ here_ok (content_at content true) k content b c text r p.1 (λ other. no_cond (b == 39) (more other) (Ok (content, b ∷ other)) p.0)
    ]

-- comparisons

abbrev Compared : Type 0
Compared = Result (Cmp × List ℕ) (List ℕ)

abbrev found : Cmp → List ℕ → Compared
found how rest = Ok (how, rest)

abbrev told : Cmp × List ℕ → Compared
told x = Ok x

behind_one : (read : List ℕ → Compared) (k : Option Cmp) (how : Cmp) (b c : ℕ) (text r : List ℕ) → found how text ≡ left_with k (c ∷ r) → ((other : List ℕ) → read (b ∷ other) ≡ found how other) → Again read k (b ∷ text) c r
behind_one read k how b c text r e h =
    let l = ok_left k how text (c ∷ r) e in
    record { front = b ∷ []; is = ap (λ (x : List ℕ). b ∷ x) l.1; again = λ other. h (c ∷ other) ∙ ap (λ (o : Option Cmp). left_with o (c ∷ other)) (sym l.0) }

less_again : (text : List ℕ) (k : Option Cmp) (c : ℕ) (r : List ℕ) → told (behind_less text) ≡ left_with k (c ∷ r) → Again (λ x. told (behind_less x)) k text c r
less_again [] k c r e = absurd (nothing_left k cmps.Less c r e)
less_again (b ∷ text) k c r e =
    let unequal : List ℕ → Cmp × List ℕ = λ x. cond (b == 62) (cmps.Unequal, x) (cmps.Less, b ∷ x) in
    elim (chosen (b == 61) _ _ (behind_less (b ∷ text)) refl) [
      | inl p ↦ behind_one (λ x. told (behind_less x)) k cmps.LessEqual b c text r (ap told p.1 ∙ e) (λ other. ap told (yes_cond (b == 61) (cmps.LessEqual, other) (unequal other) p.0))
      | inr p ↦ elim (chosen (b == 62) _ _ (behind_less (b ∷ text)) p.1) [
        | inl q ↦ behind_one (λ x. told (behind_less x)) k cmps.Unequal b c text r (ap told q.1 ∙ e) (λ other. ap told (no_cond (b == 61) (cmps.LessEqual, other) (unequal other) p.0 ∙ yes_cond (b == 62) (cmps.Unequal, other) (cmps.Less, b ∷ other) q.0))
        | inr q ↦ here_ok (λ x. told (behind_less x)) k cmps.Less b c text r (ap told q.1 ∙ e) (λ other. ap told (no_cond (b == 61) (cmps.LessEqual, other) (unequal other) p.0 ∙ no_cond (b == 62) (cmps.Unequal, other) (cmps.Less, b ∷ other) q.0))
      ]
    ]

greater_again : (text : List ℕ) (k : Option Cmp) (c : ℕ) (r : List ℕ) → told (behind_greater text) ≡ left_with k (c ∷ r) → Again (λ x. told (behind_greater x)) k text c r
greater_again [] k c r e = absurd (nothing_left k cmps.Greater c r e)
greater_again (b ∷ text) k c r e =
    elim (chosen (b == 61) _ _ (behind_greater (b ∷ text)) refl) [
      | inl p ↦ behind_one (λ x. told (behind_greater x)) k cmps.GreaterEqual b c text r (ap told p.1 ∙ e) (λ other. ap told (yes_cond (b == 61) (cmps.GreaterEqual, other) (cmps.Greater, b ∷ other) p.0))
      | inr p ↦ here_ok (λ x. told (behind_greater x)) k cmps.Greater b c text r (ap told p.1 ∙ e) (λ other. ap told (no_cond (b == 61) (cmps.GreaterEqual, other) (cmps.Greater, b ∷ other) p.0))
    ]

bang_again : (text : List ℕ) (k : Option Cmp) (c : ℕ) (r : List ℕ) → behind_bang text ≡ left_with k (c ∷ r) → Again behind_bang k text c r
bang_again [] k c r e = absurd (none_left k c r e)
bang_again (b ∷ text) k c r e =
    elim (chosen (b == 61) _ _ _ e) [
      | inl p ↦ behind_one behind_bang k cmps.Unequal b c text r p.1 (λ other. yes_cond (b == 61) (Ok (cmps.Unequal, other)) (Err (b ∷ other)) p.0)
      | inr p ↦ here_err behind_bang k b c text r p.1 (λ other. no_cond (b == 61) (Ok (cmps.Unequal, other)) (Err (b ∷ other)) p.0)
    ]

comparison_again : (b : ℕ) (text : List ℕ) (k : Option Cmp) (c : ℕ) (r : List ℕ) → comparison_at b text ≡ left_with k (c ∷ r) → Again (comparison_at b) k text c r
comparison_again b text k c r e =
    let bang : List ℕ → Compared = λ x. cond (b == 33) (behind_bang x) (found cmps.Equal x) in
    let greater : List ℕ → Compared = λ x. cond (b == 62) (told (behind_greater x)) (bang x) in
    elim (chosen (b == 60) _ _ _ e) [
      | inl p ↦
          let a = less_again text k c r p.1 in
          record { front = a.front; is = a.is; again = λ other. yes_cond (b == 60) (told (behind_less (a.front ++ c ∷ other))) (greater (a.front ++ c ∷ other)) p.0 ∙ a.again other }
      | inr p ↦ elim (chosen (b == 62) _ _ _ p.1) [
        | inl q ↦
            let a = greater_again text k c r q.1 in
            record { front = a.front; is = a.is; again = λ other. no_cond (b == 60) (told (behind_less (a.front ++ c ∷ other))) (greater (a.front ++ c ∷ other)) p.0 ∙ yes_cond (b == 62) (told (behind_greater (a.front ++ c ∷ other))) (bang (a.front ++ c ∷ other)) q.0 ∙ a.again other }
        | inr q ↦ elim (chosen (b == 33) _ _ _ q.1) [
          | inl s ↦
              let a = bang_again text k c r s.1 in
              record {
                front = a.front;
                is = a.is;
                again = λ other. no_cond (b == 60) (told (behind_less (a.front ++ c ∷ other))) (greater (a.front ++ c ∷ other)) p.0 ∙ no_cond (b == 62) (told (behind_greater (a.front ++ c ∷ other))) (bang (a.front ++ c ∷ other)) q.0
                    ∙ yes_cond (b == 33) (behind_bang (a.front ++ c ∷ other)) (found cmps.Equal (a.front ++ c ∷ other)) s.0 ∙ a.again other;
              }
          | inr s ↦
              let l = ok_left k cmps.Equal text (c ∷ r) s.1 in
              record {
                front = [];
                is = l.1;
                again = λ other. no_cond (b == 60) (told (behind_less (c ∷ other))) (greater (c ∷ other)) p.0 ∙ no_cond (b == 62) (told (behind_greater (c ∷ other))) (bang (c ∷ other)) q.0
                    ∙ no_cond (b == 33) (behind_bang (c ∷ other)) (found cmps.Equal (c ∷ other)) s.0 ∙ ap (λ (o : Option Cmp). left_with o (c ∷ other)) (sym l.0);
              }
        ]
      ]
    ]

-- words

pub record SplitAgain (s : Outline) (head whole text : List ℕ) (c : ℕ) (r : List ℕ) : Type 0 where
  pub front : List ℕ
  pub is : text ≡ front ++ c ∷ r
  pub again : (other : List ℕ) → word_split s head (front ++ c ∷ other) ≡ (whole, c ∷ other)

split_again : (s : Outline) (head text whole : List ℕ) (c : ℕ) (r : List ℕ) → word_split s head text ≡ (whole, c ∷ r) → SplitAgain s head whole text c r
split_again s head [] whole c r e = let no : [] ≡ c ∷ r = ap (λ (x : List ℕ × List ℕ). x.1) e in cc
split_again s head (b ∷ text) whole c r e =
    elim (chosen (begins_any s (head ++ b ∷ [])) _ _ _ e) [
      | inl p ↦
          let a = split_again s (head ++ b ∷ []) text whole c r p.1 in
          record {
            front = b ∷ a.front;
            is = ap (λ (x : List ℕ). b ∷ x) a.is;
            again = λ other. yes_cond (begins_any s (head ++ b ∷ [])) (word_split s (head ++ b ∷ []) (a.front ++ c ∷ other)) (head, b ∷ (a.front ++ c ∷ other)) p.0 ∙ a.again other;
          }
      | inr p ↦
          let first : head ≡ whole = ap (λ (x : List ℕ × List ℕ). x.0) p.1 in
          let rest : b ∷ text ≡ c ∷ r = ap (λ (x : List ℕ × List ℕ). x.1) p.1 in
          let same : b ≡ c = cc in
          let stays : (other : List ℕ) → word_split s head (b ∷ other) ≡ (whole, b ∷ other) =
          λ other. no_cond (begins_any s (head ++ b ∷ [])) (word_split s (head ++ b ∷ []) other) (head, b ∷ other) p.0 ∙ ap (λ (x : List ℕ). let o : List ℕ × List ℕ = (x, b ∷ other) in o) first in
          record { front = []; is = rest; again = λ other. subst (λ (x : ℕ). word_split s head (x ∷ other) ≡ (whole, x ∷ other)) same (stays other) }
    ]

pub ended_left : (found : Option Word) (head rest left : List ℕ) (k : Option grammar.Token) → ended_word found head rest ≡ left_with k left → rest ≡ left
ended_left None head rest left k e = (err_left k rest left e).1
ended_left (Some w) head rest left k e =
    elim (chosen (is_end_of_word rest) _ _ _ e) [
      | inl p ↦ (ok_left k (word_token w head) rest left p.1).1
      | inr p ↦ (err_left k rest left p.1).1
    ]

ended_again : (found : Option Word) (head r other : List ℕ) (c : ℕ) (k : Option grammar.Token) → ended_word found head (c ∷ r) ≡ left_with k (c ∷ r) → ended_word found head (c ∷ other) ≡ left_with k (c ∷ other)
ended_again None head r other c k e = ap (λ (o : Option grammar.Token). left_with o (c ∷ other)) (sym (err_left k (c ∷ r) (c ∷ r) e).0)
ended_again (Some w) head r other c k e =
    elim (chosen (is_end_of_word (c ∷ r)) _ _ _ e) [
      | inl p ↦ yes_cond (is_end_of_word (c ∷ other)) (Ok (word_token w head, c ∷ other)) (Err (c ∷ other)) p.0 ∙ ap (λ (o : Option grammar.Token). left_with o (c ∷ other)) (sym (ok_left k (word_token w head) (c ∷ r) (c ∷ r) p.1).0)
      | inr p ↦ no_cond (is_end_of_word (c ∷ other)) (Ok (word_token w head, c ∷ other)) (Err (c ∷ other)) p.0 ∙ ap (λ (o : Option grammar.Token). left_with o (c ∷ other)) (sym (err_left k (c ∷ r) (c ∷ r) p.1).0)
    ]

word_again : (s : Outline) (text : List ℕ) (k : Option grammar.Token) (c : ℕ) (r : List ℕ) → word_at s text ≡ left_with k (c ∷ r) → Again (word_at s) k text c r
word_again s text k c r e =
    let split = word_split s [] text in
    let rest : split.1 ≡ c ∷ r = ended_left (found_word s split.0) split.0 split.1 (c ∷ r) k e in
    let a = split_again s [] text split.0 c r (ap (λ (x : List ℕ). let o : List ℕ × List ℕ = (split.0, x) in o) rest) in
    let ended : ended_word (found_word s split.0) split.0 (c ∷ r) ≡ left_with k (c ∷ r) = ap (λ (x : List ℕ). ended_word (found_word s split.0) split.0 x) (sym rest) ∙ e in
    record {
      front = a.front;
      is = a.is;
      again = λ other. ap (λ (x : List ℕ × List ℕ). ended_word (found_word s x.0) x.0 x.1) (a.again other) ∙ ended_again (found_word s split.0) split.0 r other c k ended;
    }

-- tokens

other_again : (s : Outline) (b : ℕ) (text : List ℕ) (k : Option grammar.Token) (c : ℕ) (r : List ℕ) (sign : Option grammar.Token) → symbol s b ≡ sign →
    symbol_or sign text (cond (takes_test s.phase && is_comparison_byte b) (comparison_token b text) (word_at s (b ∷ text))) ≡ left_with k (c ∷ r) →
    (front : List ℕ) × (b ∷ text ≡ front ++ c ∷ r) × ((other tail : List ℕ) → front ++ c ∷ other ≡ b ∷ tail → other_at s b tail ≡ left_with k (c ∷ other))
other_again s b text k c r (Some token) f e =
    let l = ok_left k token text (c ∷ r) e in (
      b ∷ [],
      ap (λ (x : List ℕ). b ∷ x) l.1,
      λ other tail g.
          let rest : c ∷ other ≡ tail = cc in
          ap (λ (o : Option grammar.Token). symbol_or o tail (cond (takes_test s.phase && is_comparison_byte b) (comparison_token b tail) (word_at s (b ∷ tail)))) f
          ∙ ap (λ (o : Option grammar.Token). left_with o tail) (sym l.0) ∙ ap (left_with k) (sym rest),
    )
other_again s b text k c r None f e =
    let rest_of : List ℕ → Result (grammar.Token × List ℕ) (List ℕ) = λ x. cond (takes_test s.phase && is_comparison_byte b) (comparison_token b x) (word_at s (b ∷ x)) in
    elim (chosen (takes_test s.phase && is_comparison_byte b) _ _ _ e) [
      | inl p ↦
          let m = token_made (λ how. grammar.Compared how) (comparison_at b text) k (c ∷ r) p.1 in
          let a = comparison_again b text m.of c r m.is in (
            b ∷ a.front,
            ap (λ (x : List ℕ). b ∷ x) a.is,
            λ other tail g.
                let rest : a.front ++ c ∷ other ≡ tail = cc in
                ap (λ (o : Option grammar.Token). symbol_or o tail (rest_of tail)) f
                ∙ yes_cond (takes_test s.phase && is_comparison_byte b) (comparison_token b tail) (word_at s (b ∷ tail)) p.0
                ∙ ap (comparison_token b) (sym rest) ∙ ap (as_token (λ how. grammar.Compared how)) (a.again other) ∙ m.again (c ∷ other),
          )
      | inr p ↦
          let a = word_again s (b ∷ text) k c r p.1 in (
            a.front,
            a.is,
            λ other tail g.
                ap (λ (o : Option grammar.Token). symbol_or o tail (rest_of tail)) f
                ∙ no_cond (takes_test s.phase && is_comparison_byte b) (comparison_token b tail) (word_at s (b ∷ tail)) p.0
                ∙ ap (word_at s) (sym g) ∙ a.again other,
          )
    ]

pub token_again : (s : Outline) (text : List ℕ) (k : Option grammar.Token) (c : ℕ) (r : List ℕ) → token_at s text ≡ left_with k (c ∷ r) → Again (token_at s) k text c r
token_again s [] k c r e = absurd (none_left k c r e)
token_again s (b ∷ text) k c r e =
    let number : List ℕ → Result (grammar.Token × List ℕ) (List ℕ) = λ x. cond ((is_digit b || b == 45) && takes_atom s.phase) (number_token (b ∷ x)) (other_at s b x) in
    elim (chosen (b == 39 && takes_text s.phase) _ _ _ e) [
      | inl p ↦
          let m = token_made (λ content. grammar.Operand (atoms.Text content)) (content_at [] false text) k (c ∷ r) p.1 in
          further (token_at s) (content_at [] false) k m.of b c text r (content_again text [] false m.of c r m.is)
          (λ front other a. yes_cond (b == 39 && takes_text s.phase) (quoted_at (front ++ c ∷ other)) (number (front ++ c ∷ other)) p.0 ∙ ap (as_token (λ content. grammar.Operand (atoms.Text content))) a ∙ m.again (c ∷ other))
      | inr p ↦ elim (chosen ((is_digit b || b == 45) && takes_atom s.phase) _ _ _ p.1) [
        | inl q ↦
            let m = token_made (λ z. grammar.Operand (atoms.Number z)) (number_at (b ∷ text)) k (c ∷ r) q.1 in
            otherwise (token_at s) number_at k m.of b c text r (number_again (b ∷ text) m.of c r m.is)
            (λ tail rest a. no_cond (b == 39 && takes_text s.phase) (quoted_at tail) (number tail) p.0 ∙ yes_cond ((is_digit b || b == 45) && takes_atom s.phase) (number_token (b ∷ tail)) (other_at s b tail) q.0 ∙ ap (as_token (λ z. grammar.Operand (atoms.Number z))) a ∙ m.again rest)
        | inr q ↦
            let a = other_again s b text k c r (symbol s b) refl q.1 in
            record {
              front = a.0;
              is = a.1;
              again = λ other.
                  let h = same_head a.0 b c text r other a.1 in
                  ap (token_at s) h.1 ∙ no_cond (b == 39 && takes_text s.phase) (quoted_at h.0) (number h.0) p.0 ∙ no_cond ((is_digit b || b == 45) && takes_atom s.phase) (number_token (b ∷ h.0)) (other_at s b h.0) q.0 ∙ a.2 other h.0 h.1;
            }
      ]
    ]
