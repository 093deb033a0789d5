-- Texts that spell tokens, one behind another.
use Rattle.std.proofs.Common.{◌≡◌, ℕ, List, [], ◌∷◌, ◌++◌, Bool, true, false, ◌||◌, not, refl, ap, sym, subst, append_assoc, append-nil, nat_lt, ltb-true}
use Rattle.std.specs.Bool.{IsTrue}
use Rattle.std.specs.List.{list_all}
use Rattle.std.specs.Str.{IsUtf8, IsAscii}
use Rattle.std.proofs.lemmas.Bool.{and_parts}
use Rattle.std.proofs.lemmas.Str.{IsUtf8-append, IsUtf8-nil, IsUtf8-from_ascii}
use Rattle.std.proofs.lemmas.Str.Ascii.{IsAscii-nil, IsAscii-cons}
use Rattle.rule_conditions.specs.Tokens.{Token, Open, Close, Spells, is_word, is_end_of_word, HasTokens}

-- a text of bytes below 128, which a test computes
is_ascii : (text : List ℕ) → IsTrue (list_all (λ byte. nat_lt byte 128) text) → IsAscii text
is_ascii [] h = IsAscii-nil
is_ascii (byte ∷ text) h =
    let both = and_parts (nat_lt byte 128) (list_all (λ b. nat_lt b 128) text) h in
    IsAscii-cons byte text (ltb-true byte 128 both.0) (is_ascii text both.1)

pub ascii : (text : List ℕ) → IsTrue (list_all (λ byte. nat_lt byte 128) text) → IsUtf8 text
ascii text h = IsUtf8-from_ascii text (is_ascii text h)

-- the text spells these tokens wherever no letter, digit, `_` or `.` follows it
pub record Ends (tokens : List Token) (text : List ℕ) : Type 0 where
  pub utf8 : IsUtf8 text
  pub before : (after : List Token) (rest : List ℕ) → IsTrue (is_end_of_word rest) → HasTokens after rest → HasTokens (tokens ++ after) (text ++ rest)

-- and it may stand directly behind a word
pub record Behind (tokens : List Token) (text : List ℕ) : Type 0 where
  pub ends : Ends tokens text
  pub apart : (rest : List ℕ) → IsTrue (is_end_of_word rest) → IsTrue (is_end_of_word (text ++ rest))

-- the text spells these tokens whatever follows it
pub record Leads (tokens : List Token) (text : List ℕ) : Type 0 where
  pub utf8 : IsUtf8 text
  pub before : (after : List Token) (rest : List ℕ) → HasTokens after rest → HasTokens (tokens ++ after) (text ++ rest)

-- and it may stand directly behind a word
pub record Gap (tokens : List Token) (text : List ℕ) : Type 0 where
  pub leads : Leads tokens text
  pub apart : (rest : List ℕ) → IsTrue (is_end_of_word (text ++ rest))

has_along : (ts us : List Token) (a b : List ℕ) → ts ≡ us → a ≡ b → HasTokens ts a → HasTokens us b
has_along ts us a b e f h = subst (λ x. HasTokens us x) f (subst (λ x. HasTokens x a) e h)

or_right : (a b : Bool) → IsTrue b → IsTrue (a || b)
or_right true b h = refl
or_right false b h = h

-- a space more
spaced : (tokens : List Token) (text : List ℕ) → HasTokens tokens text → HasTokens tokens (32 ∷ text)
spaced [] text h = h
spaced (token ∷ tokens) text h = (32 ∷ h.0, h.1, h.2, ap (λ x. 32 ∷ x) h.3, h.4, h.5, h.6, h.7)

pub one_ends : (token : Token) (word : List ℕ) → IsUtf8 word → Spells token word → Ends (token ∷ []) word
one_ends token word utf8 spells = record {
  utf8 = utf8;
  before = λ after rest end has. ([], word, rest, refl, refl, spells, or_right (not (is_word token)) (is_end_of_word rest) end, has);
}

pub one_leads : (token : Token) (word : List ℕ) → IsUtf8 word → Spells token word → Leads (token ∷ []) (word ++ 32 ∷ [])
one_leads token word utf8 spells = record {
  utf8 = IsUtf8-append word (32 ∷ []) utf8 (ascii (32 ∷ []) refl);
  before = λ after rest has. ([], word, 32 ∷ rest, append_assoc word (32 ∷ []) rest, refl, spells, or_right (not (is_word token)) true refl, spaced after rest has);
}

pub one_gap : (token : Token) (word : List ℕ) → IsUtf8 word → Spells token word → Gap (token ∷ []) (32 ∷ (word ++ 32 ∷ []))
one_gap token word utf8 spells = record {
  leads = record {
    utf8 = IsUtf8-append (32 ∷ []) (word ++ 32 ∷ []) (ascii (32 ∷ []) refl) (IsUtf8-append word (32 ∷ []) utf8 (ascii (32 ∷ []) refl));
    before = λ after rest has. (32 ∷ [], word, 32 ∷ rest, ap (λ x. 32 ∷ x) (append_assoc word (32 ∷ []) rest), refl, spells, or_right (not (is_word token)) true refl, spaced after rest has);
  };
  apart = λ rest. refl;
}

pub nothing_behind : Behind [] []
nothing_behind = record { ends = record { utf8 = IsUtf8-nil; before = λ after rest end has. has }; apart = λ rest end. end }

-- two texts, one behind the other
module _ (ts us : List Token) (a b : List ℕ) where
  pub lead : Leads ts a → Ends us b → Ends (ts ++ us) (a ++ b)
  lead l e = record {
    utf8 = IsUtf8-append a b l.utf8 e.utf8;
    before = λ after rest end has. has_along _ _ _ _ (sym (append_assoc ts us after)) (sym (append_assoc a b rest)) (l.before (us ++ after) (b ++ rest) (e.before after rest end has));
  }

  pub gap_then : Gap ts a → Ends us b → Behind (ts ++ us) (a ++ b)
  gap_then g e = record {
    ends = lead g.leads e;
    apart = λ rest end. subst (λ x. IsTrue (is_end_of_word x)) (sym (append_assoc a b rest)) (g.apart (b ++ rest));
  }

  pub trail : Ends ts a → Behind us b → Ends (ts ++ us) (a ++ b)
  trail e l = record {
    utf8 = IsUtf8-append a b e.utf8 l.ends.utf8;
    before = λ after rest end has. has_along _ _ _ _ (sym (append_assoc ts us after)) (sym (append_assoc a b rest)) (e.before (us ++ after) (b ++ rest) (l.apart rest end) (l.ends.before after rest end has));
  }

-- in parentheses
pub enclosed : (tokens : List Token) (text : List ℕ) → Ends tokens text → Ends (Open ∷ (tokens ++ Close ∷ [])) (40 ∷ (text ++ 41 ∷ []))
enclosed tokens text e =
    lead (Open ∷ []) (tokens ++ Close ∷ []) (40 ∷ []) (text ++ 41 ∷ [])
    (record { utf8 = (ascii (40 ∷ []) refl); before = λ after rest has. ([], 40 ∷ [], rest, refl, refl, refl, refl, has) })
    (trail tokens (Close ∷ []) text (41 ∷ []) e
    (record {
      ends = record { utf8 = (ascii (41 ∷ []) refl); before = λ after rest end has. ([], 41 ∷ [], rest, refl, refl, refl, refl, has) };
      apart = λ rest end. refl;
    }))

-- a text that spells tokens has them
pub has_tokens : (tokens : List Token) (text : List ℕ) → Ends tokens text → HasTokens tokens text
has_tokens tokens text e = has_along _ _ _ _ (append-nil tokens) (append-nil text) (e.before [] [] refl refl)
