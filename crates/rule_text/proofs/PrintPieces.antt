-- Pieces of a print, one put behind another.
use Rattle.std.proofs.Common.{◌≡◌, ◌==◌, ℕ, List, [], ◌∷◌, ◌++◌, Bool, true, false, cond, refl, sym, ◌∙◌, append_assoc, append-nil}
use Rattle.std.specs.Str.{encode_utf8_all}
use Rattle.std.proofs.lemmas.Str.{encodes-append}
use Rattle.rule_conditions.specs.Print.{doubled, followed, Form, Alternatives, Together, Single, bracketed_in_any, bracketed_in_all, Printed, in_any, in_all}
use Rattle.rule_text.specs.Printing.{opening_in_any, closing_in_any, opening_in_all, closing_in_all}

-- the texts with these words between them, and other words before the first
abbrev pub led : List ℕ → List ℕ → List (List ℕ) → List ℕ
led before words [] = []
led before words (first ∷ others) = before ++ (first ++ followed words others)

doubled-cond : (b : Bool) (c : ℕ) (xs ys : List ℕ) → cond b (c ∷ c ∷ (xs ++ ys)) (c ∷ (xs ++ ys)) ≡ cond b (c ∷ c ∷ xs) (c ∷ xs) ++ ys
doubled-cond true c xs ys = refl
doubled-cond false c xs ys = refl

pub doubled-append : (xs ys : List ℕ) → doubled (xs ++ ys) ≡ doubled xs ++ doubled ys
doubled-append [] ys = refl
doubled-append (c ∷ xs) ys = rw (doubled-append xs ys) (doubled-cond (c == 39) c (doubled xs) (doubled ys))

pub one_doubled : (xs : List ℕ) (c : ℕ) → encode_utf8_all (doubled (xs ++ c ∷ [])) ≡ encode_utf8_all (doubled xs) ++ encode_utf8_all (doubled (c ∷ []))
one_doubled xs c = rw (doubled-append xs (c ∷ [])) (encodes-append (doubled xs) (doubled (c ∷ [])))

pub led_other : (words : List ℕ) (texts : List (List ℕ)) → led words words texts ≡ followed words texts
led_other words [] = refl
led_other words (first ∷ others) = refl

pub around_any : (form : Form) (text : List ℕ) → bracketed_in_any form text ≡ opening_in_any form ++ (text ++ closing_in_any form)
around_any Alternatives text = refl
around_any Together text = sym (append-nil text)
around_any Single text = sym (append-nil text)

pub around_all : (form : Form) (text : List ℕ) → bracketed_in_all form text ≡ opening_in_all form ++ (text ++ closing_in_all form)
around_all Alternatives text = refl
around_all Together text = refl
around_all Single text = sym (append-nil text)

-- one more text put in
pub led_step : (words before whole out text after : List ℕ) (others : List (List ℕ))
    → out ++ led before words (text ∷ others) ≡ whole → after ≡ (out ++ before) ++ text → after ++ led words words others ≡ whole
led_step words before whole out text after others so_far put =
    rw (put, led_other words others) (simp append_assoc so_far)

-- no text is left
pub led_end : (words before whole out : List ℕ) → out ++ led before words [] ≡ whole → out ≡ whole
led_end words before whole out h = sym (append-nil out) ∙ h

pub put_around_any : (p : Printed) (opening closing out opened told closed : List ℕ)
    → opening ≡ opening_in_any p.form → closing ≡ closing_in_any p.form
    → opened ≡ out ++ opening → told ≡ opened ++ p.text → closed ≡ told ++ closing → closed ≡ out ++ in_any p
put_around_any p opening closing out opened told closed o c a b d =
    rw (d, b, a, o, c, around_any p.form p.text) (simp append_assoc)

pub put_around_all : (p : Printed) (opening closing out opened told closed : List ℕ)
    → opening ≡ opening_in_all p.form → closing ≡ closing_in_all p.form
    → opened ≡ out ++ opening → told ≡ opened ++ p.text → closed ≡ told ++ closing → closed ≡ out ++ in_all p
put_around_all p opening closing out opened told closed o c a b d =
    rw (d, b, a, o, c, around_all p.form p.text) (simp append_assoc)
