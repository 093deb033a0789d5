-- Each text of the grammar is read as its condition, and reading gives one answer.
use Rattle.std.proofs.Common.{◌≡◌, ◌==◌, ◌⊎◌, inl, ℕ, List, [], ◌∷◌, ◌++◌, true, Option, Some, None, Result, Ok, Err, IsTrue, refl, arith, sym, ◌∙◌, ap, subst, ◌||◌, option_map}
use Rattle.std.specs.List.{list_all}
use Rattle.std.proofs.lemmas.Bool.{and_parts, false_from_ne_true}
use Rattle.std.proofs.lemmas.Bool.Decides.{nat_tests}
use Rattle.rule_conditions.specs.Tokens as grammar
use Rattle.rule_conditions.specs.Tokens.{HasTokens, Spells, is_space}
use Rattle.rule_conditions.specs.Grammar.{IsTextOf}
use Rattle.rule_conditions.specs.declared.condition.Atom.TheVariants as atoms
use Rattle.rule_conditions.specs.declared.condition.Cmp.{Cmp}
use Rattle.rule_conditions.specs.declared.condition.Cond.{Cond}
use Rattle.rule_conditions.specs.Print.{print}
use Rattle.rule_text.proofs.Choosing.{yes_cond, no_cond}
use Rattle.rule_text.proofs.MayCome.{behind_text, behind_comparison}
use Rattle.rule_text.proofs.PrintReadable.{readable_prints}
use Rattle.rule_text.proofs.Running.{Runs, condition_runs}
use Rattle.rule_text.proofs.Sound.{mapped}
use Rattle.rule_text.proofs.TextRead.{begins_quote}
use Rattle.rule_text.proofs.TokenRead.{begins_second, Clear, first_byte, token_read}
use Rattle.rule_conditions.specs.Lexing.{behind_space}
use Rattle.rule_text.specs.Lexing.{token_at}
use Rattle.rule_text.specs.Outline.{step, finish, start, with_phase, after_atom, after_comparison}
use Rattle.rule_text.specs.PrintReadable.{is_readable}
use Rattle.rule_text.specs.Reading.{Reads, Ends, Short, Steps, Fails}
use Rattle.rule_text.specs.declared.fault.ReadFault.{ReadFault}
use Rattle.rule_text.specs.declared.fault.ReadFault.TheVariants as faults
use Rattle.rule_text.specs.declared.outline.Outline.{Outline}
use Rattle.rule_text.specs.declared.outline.Phase.{Phase}

-- what stands first behind a token

space_no_quote : (b : ℕ) → is_space b ≡ true → (b == 39) ≡ true → ⊥
space_no_quote b h e = grind (arith, nat_tests)

space_no_second : (b : ℕ) → is_space b ≡ true → (b == 61 || b == 62) ≡ true → ⊥
space_no_second b h e = grind (arith, nat_tests)

blank_no_quote : (rest : List ℕ) → list_all is_space rest ≡ true → begins_quote rest ≡ true → ⊥
blank_no_quote [] h q = cc
blank_no_quote (b ∷ rest) h q = space_no_quote b (and_parts _ _ h).0 q

blank_no_second : (rest : List ℕ) → list_all is_space rest ≡ true → begins_second rest ≡ true → ⊥
blank_no_second [] h q = cc
blank_no_second (b ∷ rest) h q = space_no_second b (and_parts _ _ h).0 q

quote_ahead : (token : grammar.Token) (space word rest : List ℕ) → list_all is_space space ≡ true → Spells token word → begins_quote (space ++ (word ++ rest)) ≡ true → (content : List ℕ) × (token ≡ grammar.Operand (atoms.Text content))
quote_ahead token [] word rest blank spells q =
    let f = first_byte token word spells in
    f.quote (ap (λ (x : List ℕ). begins_quote (x ++ rest)) (sym f.is) ∙ q)
quote_ahead token (b ∷ space) word rest blank spells q = absurd (space_no_quote b (and_parts _ _ blank).0 q)

second_ahead : (token : grammar.Token) (space word rest : List ℕ) → list_all is_space space ≡ true → Spells token word → begins_second (space ++ (word ++ rest)) ≡ true → (how : Cmp) × (token ≡ grammar.Compared how)
second_ahead token [] word rest blank spells q =
    let f = first_byte token word spells in
    f.second (ap (λ (x : List ℕ). begins_second (x ++ rest)) (sym f.is) ∙ q)
second_ahead token (b ∷ space) word rest blank spells q = absurd (space_no_second b (and_parts _ _ blank).0 q)

stepped_phase : (s next : Outline) (token : grammar.Token) (o : Option Phase) → option_map (with_phase s) o ≡ Some next → (ph : Phase) × (o ≡ Some ph) × (next.phase ≡ ph)
stepped_phase s next token o h = let m = mapped (with_phase s) o next h in (m.0, m.1, ap (λ (x : Outline). x.phase) (sym m.2))

no_quote_behind : (s next last : Outline) (content rest : List ℕ) (tokens : List grammar.Token) → step s (grammar.Operand (atoms.Text content)) ≡ Some next → HasTokens tokens rest → Runs next tokens last → begins_quote rest ≡ true → ⊥
no_quote_behind s next last content rest [] h blank r q = blank_no_quote rest blank q
no_quote_behind s next last content rest (token ∷ tokens) h (space, word, after, e, blank, spells, ends, more) (then, g, r) q =
    let ahead = quote_ahead token space word after blank spells (ap begins_quote (sym e) ∙ q) in
    let m = stepped_phase s next (grammar.Operand (atoms.Text content)) (after_atom s.phase (atoms.Text content)) h in
    let again : step next (grammar.Operand (atoms.Text ahead.0)) ≡ Some then = ap (step next) (sym ahead.1) ∙ g in
    let n = stepped_phase next then (grammar.Operand (atoms.Text ahead.0)) (after_atom next.phase (atoms.Text ahead.0)) again in
    behind_text s.phase m.0 n.0 content ahead.0 m.1 (ap (λ (p : Phase). after_atom p (atoms.Text ahead.0)) (sym m.2) ∙ n.1)

no_second_behind : (s next last : Outline) (how : Cmp) (rest : List ℕ) (tokens : List grammar.Token) → step s (grammar.Compared how) ≡ Some next → HasTokens tokens rest → Runs next tokens last → begins_second rest ≡ true → ⊥
no_second_behind s next last how rest [] h blank r q = blank_no_second rest blank q
no_second_behind s next last how rest (token ∷ tokens) h (space, word, after, e, blank, spells, ends, more) (then, g, r) q =
    let ahead = second_ahead token space word after blank spells (ap begins_second (sym e) ∙ q) in
    let m = stepped_phase s next (grammar.Compared how) (after_comparison s.phase how) h in
    let again : step next (grammar.Compared ahead.0) ≡ Some then = ap (step next) (sym ahead.1) ∙ g in
    let n = stepped_phase next then (grammar.Compared ahead.0) (after_comparison next.phase ahead.0) again in
    behind_comparison s.phase m.0 n.0 how ahead.0 m.1 (ap (λ (p : Phase). after_comparison p ahead.0) (sym m.2) ∙ n.1)

clear_behind : (s next last : Outline) (token : grammar.Token) (rest : List ℕ) (tokens : List grammar.Token) → step s token ≡ Some next → HasTokens tokens rest → Runs next tokens last → Clear token rest
clear_behind s next last token rest tokens h has r = record {
  quote = λ content e. false_from_ne_true _ (no_quote_behind s next last content rest tokens (ap (step s) (sym e) ∙ h) has r);
  second = λ how e. false_from_ne_true _ (no_second_behind s next last how rest tokens (ap (step s) (sym e) ∙ h) has r);
}

-- texts

all_blank : (text : List ℕ) → list_all is_space text ≡ true → behind_space text ≡ []
all_blank [] h = refl
all_blank (b ∷ text) h = let both = and_parts _ _ h in yes_cond (is_space b) (behind_space text) (b ∷ text) both.0 ∙ all_blank text both.1

pub behind_blank : (space text : List ℕ) → list_all is_space space ≡ true → behind_space (space ++ text) ≡ behind_space text
behind_blank [] text h = refl
behind_blank (b ∷ space) text h = let both = and_parts _ _ h in yes_cond (is_space b) (behind_space (space ++ text)) (b ∷ (space ++ text)) both.0 ∙ behind_blank space text both.1

no_blank : (token : grammar.Token) (word rest : List ℕ) → Spells token word → behind_space (word ++ rest) ≡ word ++ rest
no_blank token word rest spells =
    let f = first_byte token word spells in
    subst (λ (x : List ℕ). behind_space (x ++ rest) ≡ x ++ rest) (sym f.is) (no_cond (is_space f.byte) (behind_space (f.others ++ rest)) (f.byte ∷ (f.others ++ rest)) f.no_space)

tokens_read : (tokens : List grammar.Token) (s last : Outline) (text : List ℕ) (condition : Cond) → HasTokens tokens text → Runs s tokens last → finish last ≡ Some condition → Reads s (behind_space text) (Ok condition)
tokens_read [] s last text condition blank r f =
    subst (λ (x : List ℕ). Reads s x (Ok condition)) (sym (all_blank text blank)) (Ends s condition (ap finish r ∙ f))
tokens_read (token ∷ tokens) s last text condition (space, word, rest, e, blank, spells, ends, more) (next, h, r) f =
    let same : behind_space text ≡ word ++ rest = ap behind_space e ∙ behind_blank space (word ++ rest) blank ∙ no_blank token word rest spells in
    let clear = clear_behind s next last token rest tokens h more r in
    let at = token_read s next token word rest spells ends clear h in
    subst (λ (x : List ℕ). Reads s x (Ok condition)) (sym same) (Steps s next (word ++ rest) rest token (Ok condition) at h (tokens_read tokens next last rest condition more r f))

pub text_is_read : (text : List ℕ) (condition : Cond) → IsTextOf text condition → Reads start (behind_space text) (Ok condition)
text_is_read text condition (u, (tokens, has, any)) =
    let r = condition_runs condition tokens any in
    tokens_read tokens start r.0 text condition has r.1 r.2

-- one answer

abbrev Answer : Type 0
Answer = Result Cond (List ℕ)

ok_same : {X Y : Type 0} (r : Result X Y) (x y : X) → r ≡ Ok x → r ≡ Ok y → x ≡ y
ok_same (Ok z) x y e f = cc
ok_same (Err z) x y e f = cc

err_same : {X Y : Type 0} (r : Result X Y) (x y : Y) → r ≡ Err x → r ≡ Err y → x ≡ y
err_same (Ok z) x y e f = cc
err_same (Err z) x y e f = cc

nothing_at : (s : Outline) (text : List ℕ) (x : grammar.Token × List ℕ) → [] ≡ text → token_at s text ≡ Ok x → ⊥
nothing_at s text x e h = let g : token_at s [] ≡ Ok x = ap (token_at s) e ∙ h in cc

same_found : (s other : Outline) (c d : Cond) → s ≡ other → finish s ≡ Some c → finish other ≡ Some d → c ≡ d
same_found s other c d e f g = let h : Some c ≡ Some d = sym f ∙ ap finish e ∙ g in cc

found_or_not : (s other : Outline) (c : Cond) → s ≡ other → finish s ≡ Some c → finish other ≡ None → ⊥
found_or_not s other c e f g = let h : Some c ≡ None = sym f ∙ ap finish e ∙ g in cc

same_at : (s other : Outline) (text copy : List ℕ) → s ≡ other → text ≡ copy → token_at s text ≡ token_at other copy
same_at s other text copy e t = ap (λ (o : Outline). token_at o text) e ∙ ap (token_at other) t

same_token : (s other : Outline) (text copy : List ℕ) (x y : grammar.Token × List ℕ) → s ≡ other → text ≡ copy → token_at s text ≡ Ok x → token_at other copy ≡ Ok y → x ≡ y
same_token s other text copy x y e t f g =
    ok_same (token_at s text) x y f (same_at s other text copy e t ∙ g)

token_or_not : (s other : Outline) (text copy rest : List ℕ) (x : grammar.Token × List ℕ) → s ≡ other → text ≡ copy → token_at s text ≡ Ok x → token_at other copy ≡ Err rest → ⊥
token_or_not s other text copy rest x e t f g =
    let h : Ok x ≡ Err rest = sym f ∙ same_at s other text copy e t ∙ g in cc

same_step : (s other : Outline) (x y : grammar.Token × List ℕ) → s ≡ other → x ≡ y → step s x.0 ≡ step other y.0
same_step s other x y e t = ap (λ (o : Outline). step o x.0) e ∙ ap (λ (z : grammar.Token × List ℕ). step other z.0) t

pub one_answer : (s other : Outline) (text copy : List ℕ) (out answer : Answer) → Reads s text out → Reads other copy answer → s ≡ other → text ≡ copy → out ≡ answer
one_answer _ _ _ _ _ _ (Ends s c f) (Ends o d g) e t = ap (λ (x : Cond). let r : Answer = Ok x in r) (same_found s o c d e f g)
one_answer _ _ _ _ _ _ (Ends s c f) (Short o g) e t = absurd (found_or_not s o c e f g)
one_answer _ _ _ _ _ _ (Ends s c f) (Steps o next text rest token out g h r) e t = absurd (nothing_at o text (token, rest) t g)
one_answer _ _ _ _ _ _ (Ends s c f) (Fails o text rest n g) e t = absurd (n (sym t))
one_answer _ _ _ _ _ _ (Short s f) (Ends o d g) e t = absurd (found_or_not o s d (sym e) g f)
one_answer _ _ _ _ _ _ (Short s f) (Short o g) e t = refl
one_answer _ _ _ _ _ _ (Short s f) (Steps o next text rest token out g h r) e t = absurd (nothing_at o text (token, rest) t g)
one_answer _ _ _ _ _ _ (Short s f) (Fails o text rest n g) e t = absurd (n (sym t))
one_answer _ _ _ _ _ _ (Steps s next text rest token out f h r) (Ends o d g) e t = absurd (nothing_at s text (token, rest) (sym t) f)
one_answer _ _ _ _ _ _ (Steps s next text rest token out f h r) (Short o g) e t = absurd (nothing_at s text (token, rest) (sym t) f)
one_answer _ _ _ _ _ _ (Steps s next text rest token out f h r) (Steps o then copy after other answer g i q) e t =
    let same = same_token s o text copy (token, rest) (other, after) e t f g in
    let nexts : Some next ≡ Some then = sym h ∙ same_step s o (token, rest) (other, after) e same ∙ i in
    let on : next ≡ then = cc in
    one_answer next then (behind_space rest) (behind_space after) out answer r q on (ap (λ (z : grammar.Token × List ℕ). behind_space z.1) same)
one_answer _ _ _ _ _ _ (Steps s next text rest token out f h r) (Fails o copy after n g) e t = absurd (token_or_not s o text copy after (token, rest) e t f g)
one_answer _ _ _ _ _ _ (Fails s text rest n f) (Ends o d g) e t = absurd (n t)
one_answer _ _ _ _ _ _ (Fails s text rest n f) (Short o g) e t = absurd (n t)
one_answer _ _ _ _ _ _ (Fails s text rest n f) (Steps o then copy after other answer g i q) e t = absurd (token_or_not o s copy text rest (other, after) (sym e) (sym t) g f)
one_answer _ _ _ _ _ _ (Fails s text rest n f) (Fails o copy after m g) e t =
    let same = err_same (token_at s text) rest after f (same_at s o text copy e t ∙ g) in ap (λ (x : List ℕ). let r : Answer = Err x in r) same

-- what is read is the only condition of a text, and what is refused is the text of none

pub read_is_only : (text : List ℕ) (found condition : Cond) → Reads start (behind_space text) (Ok found) → IsTextOf text condition → found ≡ condition
read_is_only text found condition r is =
    let answer : Answer = Ok found in
    let same : answer ≡ Ok condition = one_answer start start (behind_space text) (behind_space text) (Ok found) (Ok condition) r (text_is_read text condition is) refl refl in ok_same answer found condition refl same

pub refused_is_none : (text rest : List ℕ) (condition : Cond) → Reads start (behind_space text) (Err rest) → IsTextOf text condition → ⊥
refused_is_none text rest condition r is =
    let same : Err rest ≡ Ok condition = one_answer start start (behind_space text) (behind_space text) (Err rest) (Ok condition) r (text_is_read text condition is) refl refl in cc

-- what reading answers

abbrev pub Outcome : Type 0
Outcome = Result Cond ReadFault

abbrev pub IsTheOne : Outcome → Cond → Type 0
IsTheOne result condition = (result ≡ Ok condition) ⊎ (result ≡ Err faults.Memory)

pub found_is_the_one : (text : List ℕ) (found condition : Cond) → Reads start (behind_space text) (Ok found) → IsTextOf text condition → IsTheOne (Ok found) condition
found_is_the_one text found condition r is = inl (ap (λ (c : Cond). let o : Outcome = Ok c in o) (read_is_only text found condition r is))

pub bad_is_none : (text rest : List ℕ) (at : ℕ) (condition : Cond) → Reads start (behind_space text) (Err rest) → IsTextOf text condition → IsTheOne (Err (faults.Bad at)) condition
bad_is_none text rest at condition r is = absurd (refused_is_none text rest condition r is)

printed_text : (text : List ℕ) (condition : Cond) → IsTrue (is_readable condition) → text ≡ print condition → IsTextOf text condition
printed_text text condition readable e = subst (λ (x : List ℕ). IsTextOf x condition) (sym e) (readable_prints condition readable)

pub printed_is_found : (text : List ℕ) (found condition : Cond) → Reads start (behind_space text) (Ok found) → IsTrue (is_readable condition) → text ≡ print condition → IsTheOne (Ok found) condition
printed_is_found text found condition r readable e = found_is_the_one text found condition r (printed_text text condition readable e)

pub bad_is_none_printed : (text rest : List ℕ) (at : ℕ) (condition : Cond) → Reads start (behind_space text) (Err rest) → IsTrue (is_readable condition) → text ≡ print condition → IsTheOne (Err (faults.Bad at)) condition
bad_is_none_printed text rest at condition r readable e = bad_is_none text rest at condition r (printed_text text condition readable e)

pub one_condition : (text : List ℕ) (condition other : Cond) → IsTextOf text condition → IsTextOf text other → condition ≡ other
one_condition text condition other is = read_is_only text condition other (text_is_read text condition is)
