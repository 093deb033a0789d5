-- The content of a text is a text, and so is what is left behind it.
use Rattle.std.proofs.Common.{◌≡◌, ◌==◌, inl, inr, ℕ, ◌+◌, ◌<◌, List, [], ◌∷◌, ◌++◌, Bool, true, false, Ok, length, take, drop, refl, get_or, arith, sym, ◌∙◌, ap, subst, append_assoc, length-append}
use Rattle.std.specs.Str.{IsUtf8}
use Rattle.std.proofs.lemmas.Bool.{eqb-true}
use Rattle.std.proofs.lemmas.List.{take_at, drop_at, get_or_at}
use Rattle.std.proofs.lemmas.Str.{IsUtf8-nil, IsUtf8-take, IsUtf8-drop, IsUtf8-append, IsCharBoundary-before_ascii, IsCharBoundary-after_ascii}
use Rattle.rule_text.proofs.Choice.{chosen}
use Rattle.rule_conditions.specs.Lexing.{content_at, has_room}

-- a text may be cut before and behind an ASCII byte
pub cut_before : (front : List ℕ) (b : ℕ) (rest : List ℕ) → b < 128 → IsUtf8 (front ++ b ∷ rest) → IsUtf8 front
cut_before front b rest small u =
    let at : get_or (front ++ b ∷ rest) (length front) 0 < 128 = rw (get_or_at front b rest 0 (length front) refl) small in
    let within : length front < length (front ++ b ∷ rest) = omega (arith, length-append front (b ∷ rest)) in
    subst (λ (x : List ℕ). IsUtf8 x) (take_at front (b ∷ rest) (length front) refl)
    (IsUtf8-take (front ++ b ∷ rest) (length front) u (IsCharBoundary-before_ascii (front ++ b ∷ rest) (length front) within at))

pub cut_behind : (front : List ℕ) (b : ℕ) (rest : List ℕ) → b < 128 → IsUtf8 (front ++ b ∷ rest) → IsUtf8 (front ++ b ∷ []) × IsUtf8 rest
cut_behind front b rest small u =
    let at : get_or (front ++ b ∷ rest) (length front) 0 < 128 = rw (get_or_at front b rest 0 (length front) refl) small in
    let within : length front < length (front ++ b ∷ rest) = omega (arith, length-append front (b ∷ rest)) in
    let boundary = IsCharBoundary-after_ascii (front ++ b ∷ rest) (length front) u within at in
    let same : front ++ b ∷ rest ≡ (front ++ b ∷ []) ++ rest = sym (append_assoc front (b ∷ []) rest) in
    let len : length (front ++ b ∷ []) ≡ length front + 1 = omega (arith, length-append front (b ∷ [])) in (
      subst (λ (x : List ℕ). IsUtf8 x) (ap (λ (x : List ℕ). take (length front + 1) x) same ∙ take_at (front ++ b ∷ []) rest (length front + 1) len)
          (IsUtf8-take (front ++ b ∷ rest) (length front + 1) u boundary),
      subst (λ (x : List ℕ). IsUtf8 x) (ap (λ (x : List ℕ). drop (length front + 1) x) same ∙ drop_at (front ++ b ∷ []) rest (length front + 1) len)
          (IsUtf8-drop (front ++ b ∷ rest) (length front + 1) u boundary),
    )

-- what is left, with the apostrophe that was read last
abbrev pub pending : Bool → List ℕ → List ℕ
pending false rest = rest
pending true rest = 39 ∷ rest

pub content_and_rest : (rest content : List ℕ) (closed : Bool) (out : List ℕ × List ℕ) → IsUtf8 (content ++ pending closed rest) → content_at content closed rest ≡ Ok out → IsUtf8 out.0 × IsUtf8 out.1
content_and_rest [] content false out u e = cc
content_and_rest [] content true out u e =
    let same : (content, []) ≡ out = cc in
    subst (λ (x : List ℕ × List ℕ). IsUtf8 x.0 × IsUtf8 x.1) same (cut_before content 39 [] (omega arith) u, IsUtf8-nil)
content_and_rest (b ∷ rest) content false out u e =
    elim (chosen (b == 39) _ _ _ e) [
      | inl p ↦ content_and_rest rest content true out (subst (λ (x : ℕ). IsUtf8 (content ++ x ∷ rest)) (eqb-true b 39 p.0) u) p.1
      | inr p ↦ elim (chosen (has_room content b) _ _ _ p.1) [
        | inl q ↦ content_and_rest rest (content ++ b ∷ []) false out (rw append_assoc u) q.1
        | inr q ↦ cc
      ]
    ]
content_and_rest (b ∷ rest) content true out u e =
    let behind = cut_behind content 39 (b ∷ rest) (omega arith) u in
    elim (chosen (b == 39) _ _ _ e) [
      | inl p ↦ elim (chosen (has_room content b) _ _ _ p.1) [
        | inl q ↦
            let is = eqb-true b 39 p.0 in
            let last = cut_behind [] b rest (omega arith) behind.1 in
            content_and_rest rest (content ++ b ∷ []) false out
            (IsUtf8-append (content ++ b ∷ []) rest (subst (λ (x : ℕ). IsUtf8 (content ++ x ∷ [])) (sym is) behind.0) last.1) q.1
        | inr q ↦ cc
      ]
      | inr p ↦
          let same : (content, b ∷ rest) ≡ out = cc in
          subst (λ (x : List ℕ × List ℕ). IsUtf8 x.0 × IsUtf8 x.1) same (cut_before content 39 (b ∷ rest) (omega arith) u, behind.1)
    ]

pub content_is_utf8 : (rest content after : List ℕ) → IsUtf8 rest → content_at [] false rest ≡ Ok (content, after) → IsUtf8 content
content_is_utf8 rest content after u e = (content_and_rest rest [] false (content, after) u e).0

pub after_content_is_utf8 : (rest content after : List ℕ) → IsUtf8 rest → content_at [] false rest ≡ Ok (content, after) → IsUtf8 after
after_content_is_utf8 rest content after u e = (content_and_rest rest [] false (content, after) u e).1

pub behind_apostrophe : (b : ℕ) (rest : List ℕ) → b ≡ 39 → IsUtf8 (b ∷ rest) → IsUtf8 rest
behind_apostrophe b rest e u = (cut_behind [] b rest (omega arith) u).1
