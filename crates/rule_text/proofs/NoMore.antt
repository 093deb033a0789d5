-- Where reading stops, no text goes on.
use Rattle.std.proofs.Common.{◌≡◌, ◌≢◌, inl, inr, ℕ, ◌+◌, ◌-◌, ◌<◌, ◌≤◌, List, [], ◌∷◌, ◌++◌, false, Some, None, Result, Ok, Err, length, take, drop, refl, arith, sym, ◌∙◌, ap, subst, append_assoc, length-append, length-take-le}
use Rattle.std.proofs.lemmas.List.{take-append-drop}
use Rattle.rule_conditions.specs.Tokens as grammar
use Rattle.rule_conditions.specs.Tokens.{is_space}
use Rattle.rule_conditions.specs.Grammar.{IsTextOf, BeginsText}
use Rattle.rule_conditions.specs.declared.condition.Cond.{Cond}
use Rattle.rule_text.proofs.Ahead.{left_with, token_again}
use Rattle.rule_text.proofs.Choice.{chosen}
use Rattle.rule_text.proofs.Choosing.{no_cond}
use Rattle.rule_text.proofs.Complete.{behind_blank, refused_is_none}
use Rattle.rule_text.proofs.Sound.{spaced}
use Rattle.rule_conditions.specs.Lexing.{behind_space}
use Rattle.rule_text.specs.Lexing.{token_at}
use Rattle.rule_text.specs.Outline.{start}
use Rattle.rule_text.specs.Reading.{Reads, Ends, Short, Steps, Fails}
use Rattle.rule_text.specs.declared.outline.Outline.{Outline}

not_nil : (front : List ℕ) (c : ℕ) (other : List ℕ) → (front ++ c ∷ other) ≢ []
not_nil [] c other e = cc
not_nil (a ∷ front) c other e = cc

-- its first byte, and the rest of it
record Headed (front : List ℕ) (c : ℕ) : Type 0 where
  pub first : ℕ
  pub rest : List ℕ → List ℕ
  pub is : (other : List ℕ) → front ++ c ∷ other ≡ first ∷ rest other

headed : (front : List ℕ) (c : ℕ) → Headed front c
headed [] c = record { first = c; rest = λ other. other; is = λ other. refl }
headed (a ∷ front) c = record { first = a; rest = λ other. front ++ c ∷ other; is = λ other. refl }

-- reading stops at this byte, whatever stands behind it
record StopsAgain (s : Outline) (text : List ℕ) (c : ℕ) (r : List ℕ) : Type 0 where
  pub front : List ℕ
  pub is : text ≡ front ++ c ∷ r
  pub again : (other : List ℕ) → Reads s (front ++ c ∷ other) (Err (c ∷ other))

first_is_no_space : (text : List ℕ) (d : ℕ) (t : List ℕ) → behind_space text ≡ d ∷ t → is_space d ≡ false
first_is_no_space [] d t e = cc
first_is_no_space (b ∷ text) d t e =
    elim (chosen (is_space b) _ _ _ e) [
      | inl p ↦ first_is_no_space text d t p.1
      | inr p ↦ let first : b ≡ d = let q : b ∷ text ≡ d ∷ t = p.1 in cc in ap is_space (sym first) ∙ p.0
    ]

-- the same before the space at the front is left out
record StopsBehind (s : Outline) (text : List ℕ) (c : ℕ) (r : List ℕ) : Type 0 where
  pub front : List ℕ
  pub is : text ≡ front ++ c ∷ r
  pub again : (other : List ℕ) → Reads s (behind_space (front ++ c ∷ other)) (Err (c ∷ other))

stops_behind : (s : Outline) (text : List ℕ) (c : ℕ) (r : List ℕ) → StopsAgain s (behind_space text) c r → StopsBehind s text c r
stops_behind s text c r a =
    let sp = spaced text in
    let h = headed a.front c in
    let no_space = first_is_no_space text h.first (h.rest r) (a.is ∙ h.is r) in
    let stays : (other : List ℕ) → behind_space (a.front ++ c ∷ other) ≡ a.front ++ c ∷ other =
    λ other. ap behind_space (h.is other) ∙ no_cond (is_space h.first) (behind_space (h.rest other)) (h.first ∷ h.rest other) no_space ∙ sym (h.is other) in
    let same : (other : List ℕ) → behind_space ((sp.0 ++ a.front) ++ c ∷ other) ≡ a.front ++ c ∷ other =
    λ other. ap behind_space (append_assoc sp.0 a.front (c ∷ other)) ∙ behind_blank sp.0 (a.front ++ c ∷ other) sp.2 ∙ stays other in
    record {
      front = sp.0 ++ a.front;
      is = sp.1 ∙ ap (λ (x : List ℕ). sp.0 ++ x) a.is ∙ sym (append_assoc sp.0 a.front (c ∷ r));
      again = λ other. subst (λ (x : List ℕ). Reads s x (Err (c ∷ other))) (sym (same other)) (a.again other);
    }

reads_again : (s : Outline) (text : List ℕ) (out : Result Cond (List ℕ)) (c : ℕ) (r : List ℕ) → Reads s text out → out ≡ Err (c ∷ r) → StopsAgain s text c r
reads_again _ _ _ c r (Ends s condition f) e = cc
reads_again _ _ _ c r (Short s f) e = let no : [] ≡ c ∷ r = cc in cc
reads_again _ _ _ c r (Steps s next text rest token out f h q) e =
    let more = stops_behind next rest c r (reads_again next (behind_space rest) out c r q e) in
    let d = headed more.front c in
    let at : token_at s text ≡ left_with (Some token) (d.first ∷ d.rest r) = f ∙ ap (λ (x : List ℕ). left_with (Some token) x) (more.is ∙ d.is r) in
    let a = token_again s text (Some token) d.first (d.rest r) at in
    let same : (other : List ℕ) → a.front ++ d.first ∷ d.rest other ≡ (a.front ++ more.front) ++ c ∷ other =
    λ other. ap (λ (x : List ℕ). a.front ++ x) (sym (d.is other)) ∙ sym (append_assoc a.front more.front (c ∷ other)) in
    record {
      front = a.front ++ more.front;
      is = a.is ∙ same r;
      again = λ other.
          let taken : token_at s (a.front ++ d.first ∷ d.rest other) ≡ Ok (token, more.front ++ c ∷ other) = a.again (d.rest other) ∙ ap (λ (x : List ℕ). left_with (Some token) x) (sym (d.is other)) in
          subst (λ (x : List ℕ). Reads s x (Err (c ∷ other))) (same other) (Steps s next (a.front ++ d.first ∷ d.rest other) (more.front ++ c ∷ other) token (Err (c ∷ other)) taken h (more.again other));
    }
reads_again _ _ _ c r (Fails s text rest n f) e =
    let is : rest ≡ c ∷ r = cc in
    let at : token_at s text ≡ left_with None (c ∷ r) = f ∙ ap (λ (x : List ℕ). let o : Result (grammar.Token × List ℕ) (List ℕ) = Err x in o) is in
    let a = token_again s text None c r at in
    record { front = a.front; is = a.is; again = λ other. Fails s (a.front ++ c ∷ other) (c ∷ other) (not_nil a.front c other) (a.again other) }

longer_front : (xs ys front : List ℕ) (c : ℕ) (r : List ℕ) → xs ++ ys ≡ front ++ c ∷ r → length front < length xs → (other : List ℕ) × (xs ≡ front ++ c ∷ other)
longer_front [] ys front c r e l = absurd (omega arith)
longer_front (x ∷ xs) ys [] c r e l = let first : x ≡ c = cc in (xs, ap (λ (z : ℕ). z ∷ xs) first)
longer_front (x ∷ xs) ys (a ∷ front) c r e l =
    let first : x ≡ a = cc in
    let others : xs ++ ys ≡ front ++ c ∷ r = cc in
    let more = longer_front xs ys front c r others (omega arith) in
    (more.0, ap (λ (z : ℕ). z ∷ xs) first ∙ ap (λ (z : List ℕ). a ∷ z) more.1)

pub no_more : (text rest : List ℕ) (n : ℕ) → Reads start (behind_space text) (Err rest) → length text - length rest < n → n ≤ length text → BeginsText (take n text) → ⊥
no_more text [] n reads l m b = absurd (omega arith)
no_more text (c ∷ r) n reads l m (continued, condition, is) =
    let a = stops_behind start text c r (reads_again start (behind_space text) (Err (c ∷ r)) c r reads refl) in
    let len : length (take n text) ≡ n = length-take-le n text m in
    let total : length text ≡ length a.front + length (c ∷ r) = ap length a.is ∙ length-append a.front (c ∷ r) in
    let longer : length a.front < length (take n text) = omega arith in
    let f = longer_front (take n text) (drop n text) a.front c r (take-append-drop n text ∙ a.is) longer in
    let same : take n text ++ continued ≡ a.front ++ c ∷ (f.0 ++ continued) = ap (λ (x : List ℕ). x ++ continued) f.1 ∙ append_assoc a.front (c ∷ f.0) continued in
    refused_is_none (a.front ++ c ∷ (f.0 ++ continued)) (c ∷ (f.0 ++ continued)) condition (a.again (f.0 ++ continued)) (subst (λ (x : List ℕ). IsTextOf x condition) same is)
