-- A text that is read is spelled with its apostrophes doubled, and its content is within the limit.
use Rattle.std.proofs.Common.{◌≡◌, ◌==◌, inl, inr, ℕ, ◌<◌, List, [], ◌∷◌, ◌++◌, Bool, true, false, Ok, length, refl, arith, sym, ◌∙◌, ap, subst, cond, get_or, append_assoc, append-nil, suc}
use Rattle.std.specs.Str.{IsUtf8, chars}
use lib.Utf8.{encode, encodes}
use Rattle.std.proofs.lemmas.Bool.{eqb-true, eqb-false}
use Rattle.std.proofs.lemmas.Str.{inside_one, encodes-append, encodes-chars}
use Rattle.rule_conditions.specs.Print.{doubled, quoted}
use Rattle.rule_text.proofs.Choice.{chosen}
use Rattle.rule_text.proofs.Content.{pending}
use Rattle.rule_conditions.specs.Lexing.{content_at, has_room}

pub doubled_append : (xs ys : List ℕ) → doubled (xs ++ ys) ≡ doubled xs ++ doubled ys
doubled_append [] ys = refl
doubled_append (x ∷ xs) ys =
    let more = doubled_append xs ys in
    elim (x == 39) as (λ t. cond t (x ∷ x ∷ doubled (xs ++ ys)) (x ∷ doubled (xs ++ ys)) ≡ cond t (x ∷ x ∷ doubled xs) (x ∷ doubled xs) ++ doubled ys) [
      | true ↦ ap (λ (z : List ℕ). x ∷ x ∷ z) more
      | false ↦ ap (λ (z : List ℕ). x ∷ z) more
    ]

pub doubled_other : (b : ℕ) → (b == 39) ≡ false → doubled (b ∷ []) ≡ b ∷ []
doubled_other b e = rw e refl

-- what is doubled so far, with the rest as it stands
pub content_split : (text content : List ℕ) (closed : Bool) (out : List ℕ × List ℕ) → content_at content closed text ≡ Ok out → doubled content ++ pending closed text ≡ doubled out.0 ++ 39 ∷ out.1
content_split [] content false out e = cc
content_split [] content true out e =
    let same : (content, []) ≡ out = cc in
    ap (λ (o : List ℕ × List ℕ). doubled o.0 ++ 39 ∷ o.1) same
content_split (b ∷ text) content false out e =
    elim (chosen (b == 39) _ _ _ e) [
      | inl p ↦ ap (λ (x : ℕ). doubled content ++ x ∷ text) (eqb-true b 39 p.0) ∙ content_split text content true out p.1
      | inr p ↦ elim (chosen (has_room content b) _ _ _ p.1) [
        | inl q ↦
            let step : doubled (content ++ b ∷ []) ≡ doubled content ++ b ∷ [] = doubled_append content (b ∷ []) ∙ ap (λ (x : List ℕ). doubled content ++ x) (doubled_other b p.0) in
            sym (append_assoc (doubled content) (b ∷ []) text) ∙ ap (λ (x : List ℕ). x ++ text) (sym step) ∙ content_split text (content ++ b ∷ []) false out q.1
        | inr q ↦ cc
      ]
    ]
content_split (b ∷ text) content true out e =
    elim (chosen (b == 39) _ _ _ e) [
      | inl p ↦ elim (chosen (has_room content b) _ _ _ p.1) [
        | inl q ↦
            let is = eqb-true b 39 p.0 in
            let step : doubled (content ++ b ∷ []) ≡ doubled content ++ 39 ∷ 39 ∷ [] = doubled_append content (b ∷ []) ∙ ap (λ (x : ℕ). doubled content ++ doubled (x ∷ [])) is in
            ap (λ (x : ℕ). doubled content ++ 39 ∷ x ∷ text) is ∙ sym (append_assoc (doubled content) (39 ∷ 39 ∷ []) text) ∙ ap (λ (x : List ℕ). x ++ text) (sym step) ∙ content_split text (content ++ b ∷ []) false out q.1
        | inr q ↦ cc
      ]
      | inr p ↦
          let same : (content, b ∷ text) ≡ out = cc in
          ap (λ (o : List ℕ × List ℕ). doubled o.0 ++ 39 ∷ o.1) same
    ]

-- bytes and characters

doubled_none : (xs : List ℕ) → ((k : ℕ) → k < length xs → get_or xs k 0 ≡ 39 → ⊥) → doubled xs ≡ xs
doubled_none [] h = refl
doubled_none (x ∷ xs) h =
    let not_first : (x == 39) ≡ true → ⊥ = λ e. h 0 (omega arith) (eqb-true x 39 e) in
    let more : doubled xs ≡ xs = doubled_none xs (λ k less. h (suc k) (omega arith)) in
    elim (chosen (x == 39) (x ∷ x ∷ doubled xs) (x ∷ doubled xs) _ refl) [
      | inl p ↦ absurd (not_first p.0)
      | inr p ↦ sym p.1 ∙ ap (λ (z : List ℕ). x ∷ z) more
    ]

doubled_encode : (c : ℕ) → doubled (encode c) ≡ encodes (doubled (c ∷ []))
unfolding encode
doubled_encode c =
    elim (chosen (c == 39) (c ∷ c ∷ []) (c ∷ []) _ refl) [
      | inl p ↦ subst (λ (x : ℕ). doubled (encode x) ≡ encodes (doubled (x ∷ []))) (sym (eqb-true c 39 p.0)) refl
      | inr p ↦
          doubled_none (encode c) (λ k less e. eqb-false c 39 p.0 (inside_one c [] (encode c) k (sym (append-nil (encode c))) less (subst (λ (x : ℕ). x < 128) (sym e) (omega arith)) ∙ e))
          ∙ sym (append-nil (encode c)) ∙ ap encodes p.1
    ]

pub doubled_encodes : (cs : List ℕ) → doubled (encodes cs) ≡ encodes (doubled cs)
doubled_encodes [] = refl
doubled_encodes (c ∷ cs) =
    doubled_append (encode c) (encodes cs)
    ∙ ap (λ (x : List ℕ). x ++ doubled (encodes cs)) (doubled_encode c)
    ∙ ap (λ (x : List ℕ). encodes (doubled (c ∷ [])) ++ x) (doubled_encodes cs)
    ∙ sym (encodes-append (doubled (c ∷ [])) (doubled cs))
    ∙ ap encodes (sym (doubled_append (c ∷ []) cs))

pub quoted_bytes : (content : List ℕ) → IsUtf8 content → 39 ∷ (doubled content ++ 39 ∷ []) ≡ quoted content
quoted_bytes content u =
    ap (λ (x : List ℕ). 39 ∷ (doubled x ++ 39 ∷ [])) (sym (encodes-chars content u))
    ∙ ap (λ (x : List ℕ). 39 ∷ (x ++ 39 ∷ [])) (doubled_encodes (chars content))
