-- What was read where reading stops begins a text.
use Rattle.std.proofs.Common.{◌≡◌, inl, inr, ℕ, ◌-◌, ◌<◌, ◌≤◌, ℤ, List, [], ◌∷◌, ◌++◌, Bool, true, false, Option, Some, Result, Err, length, take, refl, arith, sym, ◌∙◌, ap, subst, append_assoc, append-nil, length-append, nat_lt, codes, option_map}
use Rattle.std.specs.List.{list_all, AllByRecursion}
use Rattle.std.specs.Str.{IsUtf8}
use Rattle.std.proofs.lemmas.Bool.{and_parts, and_from, ltb-true}
use Rattle.std.proofs.lemmas.Bool.Decides.{nat_tests}
use Rattle.std.proofs.lemmas.List.{take_at}
use Rattle.std.proofs.lemmas.Str.{IsUtf8-append, IsUtf8-nil, IsUtf8-from_ascii}
use Rattle.std.proofs.lemmas.Str.Ascii.{IsAscii-from_all}
use Rattle.std.proofs.lemmas.List.Elements.{All-from_recursion}
use Rattle.rule_conditions.specs.Tokens.{Token, OrWord, AndWord, NotWord, IsWord, LikeWord, Operand, Compared, Plus, Minus, Times, Open, Close, HasTokens, Spells, SpellsNumber, is_space, is_digit, is_word_byte, is_end_of_word, may_end}
use Rattle.rule_conditions.specs.Grammar.{IsAnyOf, IsUnit, IsTextOf, EndsAt}
use Rattle.rule_conditions.specs.declared.condition.Atom.{Atom}
use Rattle.rule_conditions.specs.declared.condition.Atom.TheVariants as atoms
use Rattle.rule_conditions.specs.declared.condition.Cmp.{Cmp}
use Rattle.rule_conditions.specs.declared.condition.Cmp.TheVariants as cmps
use Rattle.rule_conditions.specs.declared.condition.Cond.{Cond, roll-Cond}
use Rattle.rule_conditions.specs.declared.condition.Cond.TheOpen as conds
use Rattle.rule_text.proofs.Begun.{Begun, token_begun}
use Rattle.rule_text.proofs.Complete.{refused_is_none}
use Rattle.rule_text.proofs.Cuts.{space_utf8}
use Rattle.rule_text.proofs.Doubling.{quoted_bytes}
use Rattle.rule_text.proofs.NoMore.{no_more}
use Rattle.rule_text.proofs.PrintAtoms.{quoted_utf8}
use Rattle.rule_text.proofs.Running.{Runs, runs_append, seen}
use Rattle.rule_text.proofs.Sound.{Good, good_start, good_step, good_finish, spaced}
use Rattle.rule_text.proofs.Taking.{ends_so}
use Rattle.rule_text.proofs.Tokenwise.{token_taken}
use Rattle.rule_text.proofs.WordRead.{IsWordText, fixed_text, field_text, prop_text, begins_bytes}
use Rattle.rule_conditions.specs.Lexing.{behind_space}
use Rattle.rule_text.specs.Lexing.{token_at}
use Rattle.rule_conditions.specs.Outline.{group}
use Rattle.rule_text.specs.Outline.{closed, read_unit, wrapped, whole_unit, no_partial, with_atom, step, finish, start}
use Rattle.rule_text.specs.Reading.{Reads, Ends, Short, Steps, Fails, FaultTells}
use Rattle.rule_text.specs.declared.fault.ReadFault.TheVariants as faults
use Rattle.rule_text.specs.declared.outline.Outline.{Outline}
use Rattle.rule_text.specs.declared.outline.Partial.{Partial}
use Rattle.rule_text.specs.declared.outline.Frame.{Frame}
use Rattle.rule_text.specs.declared.outline.Frame.TheVariants as frames
use Rattle.rule_text.specs.declared.outline.Phase.{Phase}
use Rattle.rule_text.specs.declared.outline.Phase.TheVariants as phases
use Rattle.rule_text.specs.declared.outline.Side.{Side}
use Rattle.rule_text.specs.declared.outline.Side.TheVariants as sides
use Rattle.rule_text.specs.declared.tokens.Word.{Word}
use Rattle.rule_text.specs.declared.tokens.Word.TheVariants as words

-- tokens with space before each

record Spelled (ts : List Token) : Type 0 where
  pub text : List ℕ
  pub has : HasTokens ts text
  pub free : is_end_of_word text ≡ true

spelled_none : Spelled []
spelled_none = record { text = []; has = refl; free = refl }

spelled_more : (token : Token) (word : List ℕ) (ts : List Token) → Spells token word → Spelled ts → Spelled (token ∷ ts)
spelled_more token word ts spells s = record {
  text = 32 ∷ (word ++ s.text);
  has = (32 ∷ [], word, s.text, refl, refl, spells, ends_so token s.text s.free, s.has);
  free = refl;
}

null_more : (ts : List Token) → Spelled ts → Spelled (Operand atoms.Null ∷ ts)
null_more ts s = spelled_more (Operand atoms.Null) (codes "null") ts refl s

is_more : (ts : List Token) → Spelled ts → Spelled (IsWord ∷ ts)
is_more ts s = spelled_more IsWord (codes "is") ts refl s

like_more : (ts : List Token) → Spelled ts → Spelled (LikeWord ∷ ts)
like_more ts s = spelled_more LikeWord (codes "like") ts refl s

close_more : (ts : List Token) → Spelled ts → Spelled (Close ∷ ts)
close_more ts s = spelled_more Close (codes ")") ts refl s

empty_more : (ts : List Token) → Spelled ts → Spelled (Operand (atoms.Text []) ∷ ts)
empty_more ts s = spelled_more (Operand (atoms.Text [])) (codes "''") ts (record { utf8 = IsUtf8-nil; within = omega arith; spelled = quoted_bytes [] IsUtf8-nil }) s

-- an end of the unit

record UnitEnds (alternatives parts : List Cond) (fs : List Frame) (phase : Phase) : Type 0 where
  pub tokens : List Token
  pub last : Phase
  pub unit : Cond
  pub runs : Runs (seen alternatives parts fs phase) tokens (seen alternatives parts fs last)
  pub reads : read_unit last ≡ Some unit
  pub spell : (ts : List Token) → Spelled ts → Spelled (tokens ++ ts)

null_ends : (alternatives parts : List Cond) (fs : List Frame) (q : Partial) → UnitEnds alternatives parts fs (phases.Operated sides.Left q)
null_ends alternatives parts fs q =
    let unit = roll-Cond (conds.IsNull (closed q) false) in
    record {
      tokens = IsWord ∷ Operand atoms.Null ∷ [];
      last = phases.Done unit;
      unit = unit;
      runs = (seen alternatives parts fs (phases.Is (closed q)), refl, (seen alternatives parts fs (phases.Done unit), refl, refl));
      reads = refl;
      spell = λ ts s. is_more (Operand atoms.Null ∷ ts) (null_more ts s);
    }

operated_ends : (alternatives parts : List Cond) (fs : List Frame) (side : Side) (q : Partial) → UnitEnds alternatives parts fs (phases.Operated side q)
operated_ends alternatives parts fs sides.Left q = null_ends alternatives parts fs q
operated_ends alternatives parts fs (sides.Right sum how) q = record {
  tokens = [];
  last = phases.Operated (sides.Right sum how) q;
  unit = roll-Cond (conds.Compare sum how (closed q));
  runs = refl;
  reads = refl;
  spell = λ ts s. s;
}

-- an operand, where the unit ends behind it
operand_ends : (alternatives parts : List Cond) (fs : List Frame) (phase next : Phase) → step (seen alternatives parts fs phase) (Operand atoms.Null) ≡ Some (seen alternatives parts fs next) → UnitEnds alternatives parts fs next → UnitEnds alternatives parts fs phase
operand_ends alternatives parts fs phase next h u = record {
  tokens = Operand atoms.Null ∷ u.tokens;
  last = u.last;
  unit = u.unit;
  runs = (seen alternatives parts fs next, h, u.runs);
  reads = u.reads;
  spell = λ ts s. null_more (u.tokens ++ ts) (u.spell ts s);
}

done_ends : (alternatives parts : List Cond) (fs : List Frame) (unit : Cond) → UnitEnds alternatives parts fs (phases.Done unit)
done_ends alternatives parts fs unit = record { tokens = []; last = phases.Done unit; unit = unit; runs = refl; reads = refl; spell = λ ts s. s }

unit_ends : (alternatives parts : List Cond) (fs : List Frame) (phase : Phase) → UnitEnds alternatives parts fs phase
unit_ends alternatives parts fs phases.Unit =
    operand_ends alternatives parts fs phases.Unit (phases.Operated sides.Left (with_atom no_partial atoms.Null)) refl (operated_ends alternatives parts fs sides.Left (with_atom no_partial atoms.Null))
unit_ends alternatives parts fs (phases.Factor side q) =
    operand_ends alternatives parts fs (phases.Factor side q) (phases.Operated side (with_atom q atoms.Null)) refl (operated_ends alternatives parts fs side (with_atom q atoms.Null))
unit_ends alternatives parts fs (phases.Operated side q) = operated_ends alternatives parts fs side q
unit_ends alternatives parts fs (phases.Is sum) =
    operand_ends alternatives parts fs (phases.Is sum) (phases.Done (roll-Cond (conds.IsNull sum false))) refl (done_ends alternatives parts fs (roll-Cond (conds.IsNull sum false)))
unit_ends alternatives parts fs (phases.IsNot sum) =
    operand_ends alternatives parts fs (phases.IsNot sum) (phases.Done (roll-Cond (conds.IsNull sum true))) refl (done_ends alternatives parts fs (roll-Cond (conds.IsNull sum true)))
unit_ends alternatives parts fs (phases.NotLike sum) =
    let unit = roll-Cond (conds.Like sum [] true) in
    record {
      tokens = LikeWord ∷ Operand (atoms.Text []) ∷ [];
      last = phases.Done unit;
      unit = unit;
      runs = (seen alternatives parts fs (phases.Like sum true), refl, (seen alternatives parts fs (phases.Done unit), refl, refl));
      reads = refl;
      spell = λ ts s. like_more (Operand (atoms.Text []) ∷ ts) (empty_more ts s);
    }
unit_ends alternatives parts fs (phases.Like sum negated) =
    let unit = roll-Cond (conds.Like sum [] negated) in
    record {
      tokens = Operand (atoms.Text []) ∷ [];
      last = phases.Done unit;
      unit = unit;
      runs = (seen alternatives parts fs (phases.Done unit), refl, refl);
      reads = refl;
      spell = λ ts s. empty_more ts s;
    }
unit_ends alternatives parts fs (phases.Done unit) = done_ends alternatives parts fs unit

-- an end of the whole

record OutlineEnds (s : Outline) : Type 0 where
  pub tokens : List Token
  pub last : Outline
  pub runs : Runs s tokens last
  pub condition : Cond
  pub ends : finish last ≡ Some condition
  pub spelled : Spelled tokens

ends_whole : (s : Outline) (unit : Cond) → whole_unit s ≡ Some (unit, []) → finish s ≡ Some (group s.alternatives s.parts unit)
ends_whole s unit e = rw e refl

closes : (s : Outline) (others rest : List Cond) (fs : List Frame) (unit : Cond) → whole_unit s ≡ Some (unit, frames.Open others rest ∷ fs) → step s Close ≡ Some (seen others rest fs (phases.Done (group s.alternatives s.parts unit)))
closes s others rest fs unit e = rw e refl

frames_end : (fs : List Frame) (s : Outline) (unit : Cond) → whole_unit s ≡ Some (wrapped unit fs) → OutlineEnds s
frames_end [] s unit e = record { tokens = []; last = s; runs = refl; condition = group s.alternatives s.parts unit; ends = ends_whole s unit e; spelled = spelled_none }
frames_end (frames.Not ∷ outer) s unit e = frames_end outer s (roll-Cond (conds.Not unit)) e
frames_end (frames.Open others rest ∷ outer) s unit e =
    let inside = group s.alternatives s.parts unit in
    let next = seen others rest outer (phases.Done inside) in
    let more = frames_end outer next inside refl in
    record {
      tokens = Close ∷ more.tokens;
      last = more.last;
      runs = (next, closes s others rest outer unit e, more.runs);
      condition = more.condition;
      ends = more.ends;
      spelled = close_more more.tokens more.spelled;
    }

outline_ends : (s : Outline) → OutlineEnds s
outline_ends s =
    let u = unit_ends s.alternatives s.parts s.frames s.phase in
    let mid = seen s.alternatives s.parts s.frames u.last in
    let f = frames_end s.frames mid u.unit (ap (λ (o : Option Cond). option_map (λ c. wrapped c s.frames) o) u.reads) in
    record {
      tokens = u.tokens ++ f.tokens;
      last = f.last;
      runs = runs_append u.tokens f.tokens s mid f.last u.runs f.runs;
      condition = f.condition;
      ends = f.ends;
      spelled = u.spell f.tokens f.spelled;
    }

-- what has tokens is a text

ascii_text : (text : List ℕ) → AllByRecursion (λ b. b < 128) text → IsUtf8 text
ascii_text text h = IsUtf8-from_ascii text (IsAscii-from_all text (All-from_recursion (λ b. b < 128) text h))

space_small : (b : ℕ) → is_space b ≡ true → b < 128
space_small b h = grind (arith, nat_tests)

digit_small : (b : ℕ) → is_digit b ≡ true → b < 128
digit_small b h = grind (arith, nat_tests)

word_small : (b : ℕ) → is_word_byte b ≡ true → b < 128
word_small b h = grind (arith, nat_tests)

all_small : (p : ℕ → Bool) → ((b : ℕ) → p b ≡ true → b < 128) → (text : List ℕ) → list_all p text ≡ true → AllByRecursion (λ b. b < 128) text
all_small p small [] h = tt
all_small p small (b ∷ text) h = let both = and_parts (p b) (list_all p text) h in (small b both.0, all_small p small text both.1)

word_utf8 : (w : Word) (text : List ℕ) → IsWordText w text → IsUtf8 text
word_utf8 w text is =
    ascii_text text (all_small is_word_byte word_small text (begins_bytes w text (is.fronts text [] (sym (append-nil text)))))

number_utf8 : (z : ℤ) (text : List ℕ) → SpellsNumber z text → IsUtf8 text
number_utf8 z text s =
    let digits = all_small is_digit digit_small s.digits s.are_digits in
    elim s.spelled [
      | inl p ↦ subst (λ (x : List ℕ). IsUtf8 x) (sym p.0) (ascii_text s.digits digits)
      | inr p ↦ subst (λ (x : List ℕ). IsUtf8 x) (sym p.0) (ascii_text (45 ∷ s.digits) (omega arith, digits))
    ]

literal_utf8 : (text word : List ℕ) → text ≡ word → list_all (λ b. nat_lt b 128) word ≡ true → IsUtf8 text
literal_utf8 text word e h = subst (λ (x : List ℕ). IsUtf8 x) (sym e) (ascii_text word (all_small (λ b. nat_lt b 128) (λ b l. ltb-true b 128 l) word h))

how_utf8 : (how : Cmp) (word : List ℕ) → Spells (Compared how) word → IsUtf8 word
how_utf8 cmps.Equal word e = literal_utf8 word (codes "=") e refl
how_utf8 cmps.Unequal word (inl e) = literal_utf8 word (codes "<>") e refl
how_utf8 cmps.Unequal word (inr e) = literal_utf8 word (codes "!=") e refl
how_utf8 cmps.Less word e = literal_utf8 word (codes "<") e refl
how_utf8 cmps.LessEqual word e = literal_utf8 word (codes "<=") e refl
how_utf8 cmps.Greater word e = literal_utf8 word (codes ">") e refl
how_utf8 cmps.GreaterEqual word e = literal_utf8 word (codes ">=") e refl

atom_utf8 : (atom : Atom) (word : List ℕ) → Spells (Operand atom) word → IsUtf8 word
atom_utf8 (atoms.Number z) word s = number_utf8 z word s
atom_utf8 (atoms.Text content) word s = subst (λ (x : List ℕ). IsUtf8 x) (sym s.spelled) (quoted_utf8 content s.utf8)
atom_utf8 atoms.Null word s = word_utf8 words.Null word (fixed_text words.Null word refl s)
atom_utf8 atoms.Priority word s = word_utf8 words.Priority word (fixed_text words.Priority word refl s)
atom_utf8 atoms.Corr word s = word_utf8 words.Corr word (fixed_text words.Corr word refl s)
atom_utf8 (atoms.Cell name) word s = word_utf8 words.Cell word (field_text name word s)
atom_utf8 (atoms.Prop name) word s = word_utf8 words.Prop word (prop_text name word s)

spelled_utf8 : (token : Token) (word : List ℕ) → Spells token word → IsUtf8 word
spelled_utf8 OrWord word s = word_utf8 words.Or word (fixed_text words.Or word refl s)
spelled_utf8 AndWord word s = word_utf8 words.And word (fixed_text words.And word refl s)
spelled_utf8 NotWord word s = word_utf8 words.Not word (fixed_text words.Not word refl s)
spelled_utf8 IsWord word s = word_utf8 words.Is word (fixed_text words.Is word refl s)
spelled_utf8 LikeWord word s = word_utf8 words.Like word (fixed_text words.Like word refl s)
spelled_utf8 (Operand atom) word s = atom_utf8 atom word s
spelled_utf8 (Compared how) word s = how_utf8 how word s
spelled_utf8 Plus word s = literal_utf8 word (codes "+") s refl
spelled_utf8 Minus word s = literal_utf8 word (codes "-") s refl
spelled_utf8 Times word s = literal_utf8 word (codes "*") s refl
spelled_utf8 Open word s = literal_utf8 word (codes "(") s refl
spelled_utf8 Close word s = literal_utf8 word (codes ")") s refl

tokens_utf8 : (tokens : List Token) (text : List ℕ) → HasTokens tokens text → IsUtf8 text
tokens_utf8 [] text blank = ascii_text text (all_small is_space space_small text blank)
tokens_utf8 (token ∷ tokens) text (space, word, rest, e, blank, spells, ends, more) =
    subst (λ (x : List ℕ). IsUtf8 x) (sym e)
    (IsUtf8-append space (word ++ rest) (ascii_text space (all_small is_space space_small space blank)) (IsUtf8-append word rest (spelled_utf8 token word spells) (tokens_utf8 tokens rest more)))

-- what was read, and how it may go on

good_runs : (tokens : List Token) (s last : Outline) (ts : List Token) → Good s ts → Runs s tokens last → Good last (ts ++ tokens)
good_runs [] s last ts g r = subst (λ (o : Outline). Good o (ts ++ [])) r (subst (λ (z : List Token). Good s z) (sym (append-nil ts)) g)
good_runs (token ∷ tokens) s last ts g (next, h, r) = subst (λ (z : List Token). Good last z) (append_assoc ts (token ∷ []) tokens) (good_runs tokens next last (ts ++ token ∷ []) (good_step s next ts token g h) r)

-- these first bytes go on as these tokens
record GoesOn (text rest : List ℕ) (ts : List Token) : Type 0 where
  pub front : List ℕ
  pub is : text ≡ front ++ rest
  pub more : List ℕ
  pub tokens : List Token
  pub has : HasTokens tokens (front ++ more)
  pub condition : Cond
  pub ends : IsAnyOf (IsUnit 64) condition (ts ++ tokens)
  pub free : front ≡ [] → is_end_of_word more ≡ true

outline_goes_on : (s : Outline) (text rest : List ℕ) (ts : List Token) → Good s ts → text ≡ rest → GoesOn text rest ts
outline_goes_on s text rest ts g e =
    let o = outline_ends s in
    record {
      front = [];
      is = e;
      more = o.spelled.text;
      tokens = o.tokens;
      has = o.spelled.has;
      condition = o.condition;
      ends = good_finish o.last (ts ++ o.tokens) o.condition (good_runs o.tokens s o.last ts g o.runs) o.ends;
      free = λ h. o.spelled.free;
    }

not_empty : (xs : List ℕ) → 0 < length xs → xs ≡ [] → ⊥
not_empty xs l e = let none : length xs ≡ 0 = ap length e in omega arith

token_goes_on : (s : Outline) (text rest : List ℕ) (ts : List Token) → Good s ts → Begun s text rest → GoesOn text rest ts
token_goes_on s text rest ts g b =
    let o = outline_ends b.next in
    let good = good_step s b.next ts b.token g b.steps in
    record {
      front = b.front;
      is = b.is;
      more = b.more ++ o.spelled.text;
      tokens = b.token ∷ o.tokens;
      has = ([], b.front ++ b.more, o.spelled.text, sym (append_assoc b.front b.more o.spelled.text), refl, b.spells, ends_so b.token o.spelled.text o.spelled.free, o.spelled.has);
      condition = o.condition;
      ends = subst (λ (z : List Token). IsAnyOf (IsUnit 64) o.condition z) (append_assoc ts (b.token ∷ []) o.tokens)
          (good_finish o.last ((ts ++ b.token ∷ []) ++ o.tokens) o.condition (good_runs o.tokens b.next o.last (ts ++ b.token ∷ []) good o.runs) o.ends);
      free = λ h. absurd (not_empty b.front b.some h);
    }

may_end_so : (token : Token) (space front more rest : List ℕ) → may_end token (space ++ (front ++ rest)) ≡ true → (front ≡ [] → is_end_of_word more ≡ true) → may_end token (space ++ (front ++ more)) ≡ true
may_end_so token [] [] more rest h free = ends_so token more (free refl)
may_end_so token [] (a ∷ front) more rest h free = h
may_end_so token (a ∷ space) front more rest h free = h

all_blank : (xs ys : List ℕ) → list_all is_space xs ≡ true → list_all is_space ys ≡ true → list_all is_space (xs ++ ys) ≡ true
all_blank [] ys a b = b
all_blank (x ∷ xs) ys a b = let both = and_parts _ _ a in and_from _ _ both.0 (all_blank xs ys both.1 b)

spaced_tokens : (tokens : List Token) (before text : List ℕ) → list_all is_space before ≡ true → HasTokens tokens text → HasTokens tokens (before ++ text)
spaced_tokens [] before text blank h = all_blank before text blank h
spaced_tokens (token ∷ tokens) before text blank (space, word, rest, e, inner, spells, ends, more) =
    (before ++ space, word, rest, ap (λ (x : List ℕ). before ++ x) e ∙ sym (append_assoc before space (word ++ rest)), all_blank before space blank inner, spells, ends, more)

longer : (xs ys : List ℕ) → 0 < length xs → 0 < length (xs ++ ys)
longer xs ys h = omega (arith, length-append xs ys)

reads_go_on : (s : Outline) (text : List ℕ) (ts : List Token) (out : Result Cond (List ℕ)) (rest : List ℕ) → Reads s text out → out ≡ Err rest → IsUtf8 text → Good s ts → GoesOn text rest ts
reads_go_on _ _ ts _ rest (Ends s found f) e u g = cc
reads_go_on _ _ ts _ rest (Short s f) e u g = outline_goes_on s [] rest ts g cc
reads_go_on _ _ ts _ rest (Steps s next text left token out f h r) e u g =
    let takes = token_taken s text (token, left) u f in
    let more = reads_go_on next (behind_space left) (ts ++ token ∷ []) out rest r e (space_utf8 left (takes.utf8 u)) (good_step s next ts token g h) in
    let sp = spaced left in
    let is_left : left ≡ sp.0 ++ (more.front ++ rest) = sp.1 ∙ ap (λ (x : List ℕ). sp.0 ++ x) more.is in
    let front = takes.word ++ (sp.0 ++ more.front) in
    let ends : may_end token (sp.0 ++ (more.front ++ more.more)) ≡ true = may_end_so token sp.0 more.front more.more rest (ap (may_end token) (sym is_left) ∙ takes.ends) more.free in
    record {
      front = front;
      is = takes.split ∙ ap (λ (x : List ℕ). takes.word ++ x) (is_left ∙ sym (append_assoc sp.0 more.front rest)) ∙ sym (append_assoc takes.word (sp.0 ++ more.front) rest);
      more = more.more;
      tokens = token ∷ more.tokens;
      has = (
        [],
        takes.word,
        sp.0 ++ (more.front ++ more.more),
        append_assoc takes.word (sp.0 ++ more.front) more.more ∙ ap (λ (x : List ℕ). takes.word ++ x) (append_assoc sp.0 more.front more.more),
        refl,
        takes.spells,
        ends,
        spaced_tokens more.tokens sp.0 (more.front ++ more.more) sp.2 more.has,
      );
      condition = more.condition;
      ends = subst (λ (z : List Token). IsAnyOf (IsUnit 64) more.condition z) (append_assoc ts (token ∷ []) more.tokens) more.ends;
      free = λ h. absurd (not_empty front (longer takes.word (sp.0 ++ more.front) takes.some) h);
    }
reads_go_on _ _ ts _ rest (Fails s text left n f) e u g =
    let is : left ≡ rest = cc in
    let at : token_at s text ≡ Err rest = f ∙ ap (λ (x : List ℕ). let o : Result (Token × List ℕ) (List ℕ) = Err x in o) is in
    elim (token_begun s text rest u at) [
      | inl same ↦ outline_goes_on s text rest ts g same
      | inr b ↦ token_goes_on s text rest ts g b
    ]

-- the place where reading stops is the last that begins a text
pub ends_there : (text rest : List ℕ) → IsUtf8 text → Reads start (behind_space text) (Err rest) → EndsAt text (length text - length rest)
ends_there text rest u r =
    let more = reads_go_on start (behind_space text) [] (Err rest) rest r refl (space_utf8 text u) good_start in
    let sp = spaced text in
    let front = sp.0 ++ more.front in
    let is : text ≡ front ++ rest = sp.1 ∙ ap (λ (x : List ℕ). sp.0 ++ x) more.is ∙ sym (append_assoc sp.0 more.front rest) in
    let at : length text - length rest ≡ length front = omega (arith, ap length is, length-append front rest) in
    let taken : take (length text - length rest) text ≡ front = ap (λ (n : ℕ). take n text) at ∙ ap (take (length front)) is ∙ take_at front rest (length front) refl in
    let has : HasTokens more.tokens (front ++ more.more) =
    subst (λ (x : List ℕ). HasTokens more.tokens x) (sym (append_assoc sp.0 more.front more.more)) (spaced_tokens more.tokens sp.0 (more.front ++ more.more) sp.2 more.has) in
    let whole : IsTextOf (front ++ more.more) more.condition = (tokens_utf8 more.tokens (front ++ more.more) has, (more.tokens, has, more.ends)) in
    record {
      within = omega arith;
      begins = (more.more, more.condition, subst (λ (x : List ℕ). IsTextOf (x ++ more.more) more.condition) (sym taken) whole);
      no_more = λ n l m b. no_more text rest n r l m b;
    }

-- what is left is no longer than the text
pub left_within : (text rest : List ℕ) → IsUtf8 text → Reads start (behind_space text) (Err rest) → length rest ≤ length text
left_within text rest u r =
    let more = reads_go_on start (behind_space text) [] (Err rest) rest r refl (space_utf8 text u) good_start in
    let sp = spaced text in
    omega (arith, ap length sp.1, length-append sp.0 (behind_space text), ap length more.is, length-append more.front rest)

pub refused_there : (text rest : List ℕ) (at : ℕ) → IsUtf8 text → Reads start (behind_space text) (Err rest) → at ≡ length text - length rest → FaultTells (faults.Bad at) text
refused_there text rest at u r e = (λ condition is. refused_is_none text rest condition r is, subst (λ (n : ℕ). EndsAt text n) (sym e) (ends_there text rest u r))
