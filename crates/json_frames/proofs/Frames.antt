-- From one object that stands in a frame to all.
use Rattle.std.proofs.Common.{◌≡◌, ℕ, ◌≤◌, List, [], ◌∷◌, ◌++◌, Bool, true, false, cond, ◌&&◌, ◌==◌, Option, Some, None, inl, inr, IsUtf8, refl, sym, ap, ◌∙◌, arith, append_assoc}
use Rattle.std.specs.Prelude.{fold, is_some, option_map}
use Rattle.std.specs.List.{list_all}
use Rattle.std.specs.Str.{is_utf8}
use Rattle.std.proofs.lemmas.Bool.{and_parts, and_from, eqb-true, false≢true}
use Rattle.std.proofs.lemmas.Str.{IsUtf8-append, IsUtf8-from_is_utf8, is_utf8-from_IsUtf8}
use Rattle.json.specs.Token.{Token}
use Rattle.json.specs.Lex.{Lexeme, token, colon, between, lex, fresh, after_value, punctuate, tokens}
use Rattle.json.specs.Json as json
use Rattle.json.specs.Json.{Json, value, if_last}
use Rattle.json.specs.Tree.{json_tokens, depth}
use Rattle.json.proofs.Found.{not_found}
use Rattle.serde_json.specs.Data.{Data, object, Members, no_members}
use Rattle.serde_json.specs.Read.{of_json, of_members, read}
use Rattle.json_frames.specs.Frame.{step, is_between, is_plain, opens_plain, is_open, ends_at, is_front, is_flat, json_of, is_around, fill, IsFrame}
use Rattle.json_frames.specs.declared.mode.Mode.{Mode}
use Rattle.json_frames.specs.declared.mode.Mode.TheVariants.{Between, InWord, InString}
use Rattle.json_frames.proofs.Flat.{none_opens, no_lexeme_opens}
use Rattle.json_frames.proofs.Holes.{never_bad, fill_json, opened, flat_depth, filled}
use Rattle.json_frames.proofs.Lexing.{lex-joined, lex_front, lex_flat}
use Rattle.json_frames.proofs.Punctuating.{front_tokens, inner_tokens}
use Rattle.json_frames.proofs.Reading.{reads, reads_back, opens_with}
use Rattle.json_frames.proofs.Unclosed.{never_unclosed, not_in_word}

-- the last lexeme of an object
nothing_more : punctuate after_value [] ≡ []
unfolding punctuate
nothing_more = refl

abbrev is_begin : Token → Bool
is_begin Token.begin_object = true
is_begin Token.end_object = false
is_begin Token.begin_array = false
is_begin Token.end_array = false
is_begin (Token.key s) = false
is_begin (Token.string s) = false
is_begin (Token.number s) = false
is_begin (Token.boolean b) = false
is_begin Token.null = false
is_begin Token.bad = false

abbrev begins : List Token → Bool
begins [] = false
begins (t ∷ ts) = is_begin t

-- a tree whose tokens begin an object is one
object_of : (j : Json) (ts : List Token) → json_tokens j ≡ Token.begin_object ∷ ts → (m : json.Members) × (j ≡ json.object m)
object_of json.null ts e = absurd (false≢true (ap begins e))
object_of (json.boolean b) ts e = absurd (false≢true (ap begins e))
object_of (json.number s) ts e = absurd (false≢true (ap begins e))
object_of (json.string s) ts e = absurd (false≢true (ap begins e))
object_of (json.array js) ts e = absurd (false≢true (ap begins e))
object_of (json.object m) ts e = (m, refl)

-- ---- a flat object

record Flat (inner : List ℕ) (d : Data) : Type 0 where
  opens : is_open inner ≡ true
  members : json.Members
  meant : of_json (json.object members) ≡ Some d
  shallow : depth (json.object members) ≤ 1
  within : (behind : List Lexeme) → punctuate fresh (lex between inner ++ behind) ≡ json_tokens (json.object members) ++ punctuate after_value behind

-- what reads goes on in no string and no word at its end
flat_is_open : (inner : List ℕ) (d : Data) → is_flat inner ≡ true → read inner ≡ Some d → (is_open inner && ends_at 125 inner) ≡ true
flat_is_open [] d is e = absurd (false≢true is)
flat_is_open (byte ∷ []) d is e =
    let parts = and_parts (opens_plain (byte ∷ [])) _ is in
    absurd (false≢true (sym (ap (λ b. b == 125) (eqb-true byte 123 (and_parts (byte == 123) true parts.0).0)) ∙ parts.1))
flat_is_open (byte ∷ next ∷ rest) d is e =
    let parts = and_parts (opens_plain (byte ∷ next ∷ rest)) (ends_at 125 (next ∷ rest)) is in
    let plain = and_parts (byte == 123) (list_all is_plain (next ∷ rest)) parts.0 in
    let first : byte ≡ 123 = eqb-true byte 123 plain.0 in
    by plain.1 parts.0 parts.1 (ap (λ b. read (b ∷ next ∷ rest)) (sym first) ∙ e) (fold step Between (next ∷ rest)) refl
  where
    by : list_all is_plain (next ∷ rest) ≡ true → opens_plain (byte ∷ next ∷ rest) ≡ true → ends_at 125 (next ∷ rest) ≡ true → read (123 ∷ next ∷ rest) ≡ Some d
        → (m : Mode) → fold step Between (next ∷ rest) ≡ m → (is_open (byte ∷ next ∷ rest) && ends_at 125 (byte ∷ next ∷ rest)) ≡ true
    by plain opens ends said Between m = and_from (is_open (byte ∷ next ∷ rest)) (ends_at 125 (next ∷ rest)) (and_from (opens_plain (byte ∷ next ∷ rest)) _ opens (ap is_between m)) ends
    by plain opens ends said InWord m = absurd (not_in_word (next ∷ rest) Between ends m)
    by plain opens ends said InString m = absurd (never_unclosed (next ∷ rest) d plain said m)

flat : (inner : List ℕ) (d : Data) → is_flat inner ≡ true → read inner ≡ Some d → Flat inner d
flat inner d is e =
    let r = reads inner d e in
    let open_to_end = flat_is_open inner d is e in
    let l = lex_flat inner open_to_end in
    let p = inner_tokens l.0 l.1.1 in
    let spelt : json_tokens r.tree ≡ Token.begin_object ∷ punctuate fresh (l.0 ++ token Token.end_object ∷ []) = sym r.spelt ∙ ap (punctuate fresh) l.1.0 ∙ opens_with _ in
    elim p.1.1 [
      | inr faulty ↦ absurd (never_bad r.tree (Token.begin_object ∷ p.0) (spelt ∙ ap (λ ts. Token.begin_object ∷ ts) (faulty [])))
      | inl goes ↦
          let whole : json_tokens r.tree ≡ Token.begin_object ∷ (p.0 ++ Token.end_object ∷ []) =
          spelt ∙ ap (λ ts. Token.begin_object ∷ ts) (goes [] ∙ ap (λ ts. p.0 ++ Token.end_object ∷ ts) nothing_more) in
          let o = object_of r.tree _ whole in
          let own : json_tokens (json.object o.0) ≡ Token.begin_object ∷ (p.0 ++ Token.end_object ∷ []) = ap json_tokens (sym o.1) ∙ whole in
          record {
            opens = (and_parts (is_open inner) _ open_to_end).0;
            members = o.0;
            meant = ap of_json (sym o.1) ∙ r.meant;
            shallow = flat_depth p.0 o.0 p.1.0 own;
            within = λ behind.
                ap (λ ls. punctuate fresh (ls ++ behind)) l.1.0 ∙ opens_with _
                ∙ ap (λ ls. Token.begin_object ∷ punctuate fresh ls) (append_assoc l.0 (token Token.end_object ∷ []) behind)
                ∙ ap (λ ts. Token.begin_object ∷ ts) (goes behind ∙ sym (append_assoc p.0 (Token.end_object ∷ []) (punctuate after_value behind)))
                ∙ ap (λ ts. ts ++ punctuate after_value behind) (sym own);
          }
    ]

empty_reads : read (123 ∷ 125 ∷ []) ≡ Some (object no_members)
unfolding lex punctuate value json.members
empty_reads = refl

-- ---- the whole

some_of : {A : Type 0} (o : Option A) → is_some o ≡ true → (a : A) × (o ≡ Some a)
some_of None e = absurd (false≢true e)
some_of (Some a) e = (a, refl)

mapped : (o : Option Members) (d : Data) → option_map object o ≡ Some d → (m : Members) × (o ≡ Some m)
mapped None d e = not_found d e
mapped (Some m) d e = (m, refl)

chosen : (b : Bool) (o : Option Data) (d : Data) → cond b o None ≡ Some d → (b ≡ true) × (o ≡ Some d)
chosen true o d e = (refl, e)
chosen false o d e = not_found d e

valued : (text : List ℕ) (d : Data) → IsUtf8 text → read text ≡ Some d → json_of text ≡ Some d
valued text d u e = ap (λ b. cond b (read text) None) (is_utf8-from_IsUtf8 text u) ∙ e

module _ (front back : List ℕ) (is : is_front front ≡ true) (u : IsUtf8 front) (v : IsUtf8 back) where
  lexed : (ls : List Lexeme) × ((lex between front ≡ token Token.begin_object ∷ (ls ++ colon ∷ [])) × (no_lexeme_opens ls ≡ true))
  lexed = lex_front front is

  behind_front : (rest : List ℕ) → tokens (front ++ rest) ≡ Token.begin_object ∷ punctuate fresh (lexed.0 ++ colon ∷ lex between rest)
  behind_front rest =
      ap (punctuate fresh) (lex-joined front rest (and_parts (is_open front) _ is).0 ∙ ap (λ ls. ls ++ lex between rest) lexed.1.0) ∙ opens_with _
      ∙ ap (λ ls. Token.begin_object ∷ punctuate fresh ls) (append_assoc lexed.0 (colon ∷ []) (lex between rest))

  module _ (ts : List Token) (goes : (rest : List Lexeme) → punctuate fresh (lexed.0 ++ colon ∷ rest) ≡ ts ++ punctuate fresh rest) where
    around : (inner : List ℕ) (d : Data) → is_flat inner ≡ true → (f : Flat inner d)
        → tokens (front ++ (inner ++ back)) ≡ Token.begin_object ∷ (ts ++ (json_tokens (json.object f.members) ++ punctuate after_value (lex between back)))
    around inner d flat_is f =
        behind_front (inner ++ back) ∙ ap (λ l. Token.begin_object ∷ l) (goes (lex between (inner ++ back)))
        ∙ ap (λ ls. Token.begin_object ∷ (ts ++ punctuate fresh ls)) (lex-joined inner back f.opens)
        ∙ ap (λ l. Token.begin_object ∷ (ts ++ l)) (f.within (lex between back))

    framed : none_opens ts ≡ true → (whole : Data) → read (front ++ ((123 ∷ 125 ∷ []) ++ back)) ≡ Some whole → IsFrame front back
    unfolding IsFrame
    framed plain whole e =
        let r = reads _ whole e in
        let sample = flat (123 ∷ 125 ∷ []) (object no_members) refl empty_reads in
        let spelt = sym r.spelt ∙ around (123 ∷ 125 ∷ []) (object no_members) refl sample in
        let o = object_of r.tree _ spelt in
        let h = opened ts (punctuate after_value (lex between back)) o.0 sample.members plain (ap json_tokens (sym o.1) ∙ spelt) in
        let m = mapped (of_members (fill_json h.0 (json.object sample.members)) no_members) whole (ap (λ x. of_json (json.object x)) (sym h.1.0) ∙ ap of_json (sym o.1) ∙ r.meant) in
        let s = filled h.0 (json.object sample.members) m.0 (object no_members) sample.meant m.1 in (
          s.0,
          λ inner d flat_is said.
              (let known = chosen (is_utf8 inner) (read inner) d said in
              let f = flat inner d flat_is known.1 in
              let tree = json.object (fill_json h.0 (json.object f.members)) in
              let deep : depth tree ≤ 127 = omega (arith, r.nested, ap depth o.1, h.1.1.1 (json.object f.members) 126 (omega (arith, r.nested, ap depth o.1)) (omega (arith, f.shallow))) in
              valued (front ++ (inner ++ back)) (object (fill s.0 d)) (IsUtf8-append front (inner ++ back) u (IsUtf8-append inner back (IsUtf8-from_is_utf8 inner known.0) v))
              (reads_back (front ++ (inner ++ back)) tree (object (fill s.0 d)) (around inner d flat_is f ∙ sym (h.1.1.0 (json.object f.members))) deep
              (ap (option_map object) (s.1.1 (json.object f.members) d f.meant)))),
        )

  pub from_sample : is_some (read (front ++ ((123 ∷ 125 ∷ []) ++ back))) ≡ true → IsFrame front back
  from_sample e =
      let w = some_of (read (front ++ ((123 ∷ 125 ∷ []) ++ back))) e in
      let p = front_tokens lexed.0 lexed.1.1 in
      elim p.1.1 [
        | inl goes ↦ framed p.0 goes p.1.0 w.0 w.1
        | inr faulty ↦
            let r = reads _ w.0 w.1 in
            absurd (never_bad r.tree (Token.begin_object ∷ p.0) (sym r.spelt ∙ behind_front _ ∙ ap (λ l. Token.begin_object ∷ l) (faulty _)))
      ]

read_of : (text : List ℕ) → is_some (json_of text) ≡ true → is_some (read text) ≡ true
read_of text e = by (is_utf8 text) e
  where
    by : (b : Bool) → is_some (cond b (read text) None) ≡ true → is_some (read text) ≡ true
    by true s = s
    by false s = absurd (false≢true s)

pub from_around : (front back : List ℕ) → is_around front back ≡ true → IsFrame front back
from_around front back is =
    let whole = and_parts _ _ is in
    let both = and_parts _ _ whole.0 in
    let one = and_parts _ _ both.0 in
    from_sample front back one.0 (IsUtf8-from_is_utf8 front one.1) (IsUtf8-from_is_utf8 back both.1) (read_of _ whole.1)
