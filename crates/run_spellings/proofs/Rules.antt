-- A rule that is read from a text is what its print is read as.
use Rattle.std.proofs.Common.{◌≡◌, ℕ, zero, suc, List, [], ◌∷◌, length, true, refl, sym, ap, ◌∙◌, subst, Option, Some, None, Result, Ok, Err}
use Rattle.std.specs.Prelude.{option_map}
use Rattle.std.specs.Option.{IfSome}
use Rattle.std.specs.Str.{IsUtf8, is_utf8}
use Rattle.std.proofs.lemmas.Str.{IsUtf8-from_is_utf8}
use Rattle.payload_records.specs.declared.kind.Field.{Field}
use Rattle.rule_conditions.specs.Check.{cond_fault}
use Rattle.rule_conditions.specs.Grammar.{IsTextOf}
use Rattle.rule_conditions.specs.Lexing.{Piece, behind_space}
use Rattle.rule_conditions.specs.Outline as told
use Rattle.rule_conditions.specs.Print.{print}
use Rattle.rule_conditions.specs.Reading.{ended, behind_token, behind_piece, read_on, read_all, told_at, condition_of}
use Rattle.rule_conditions.specs.Tokens as grammar
use Rattle.rule_conditions.specs.declared.condition.Cond.{Cond}
use Rattle.rule_conditions.specs.declared.fault.CondFault.{CondFault}
use Rattle.rule_text.proofs.Complete.{text_is_read}
use Rattle.rule_text.proofs.Computed.{condition_is}
use Rattle.rule_text.proofs.Lexed.{lexed_same}
use Rattle.rule_text.proofs.Outlined.{outline_of, step_same, finish_same}
use Rattle.rule_text.proofs.PrintHasText.{print_is_text}
use Rattle.rule_text.proofs.Sound.{read_is_text}
use Rattle.rule_text.specs.Lexing.{token_at}
use Rattle.rule_text.specs.Outline.{start, step, finish}
use Rattle.rule_text.specs.Reading.{Reads, Ends, Steps}
use Rattle.rule_text.specs.declared.outline.Outline.{Outline}
use Rattle.queue_rows.specs.Conditions.{unless_fault, checked, condition_for, some_condition, optional_condition}
use Rattle.queue_rows.specs.Within.{if_some}
use Rattle.queue_rows.specs.declared.reply.ConditionFault.{ConditionFault}
use Rattle.run_spellings.proofs.Each.{same_ok, not_both}

abbrev Answer : Type 0
Answer = Result Cond (List ℕ)

-- ---- what is computed is read so

ends_so : (s : Outline) (c : Cond) (o : Option Cond) → finish s ≡ o → ended o ≡ Ok c → Reads s [] (Ok c)
ends_so s c None e h = not_both (ended None) c [] h refl
ends_so s c (Some found) e h = Ends s c (e ∙ ap Some (same_ok (ended (Some found)) found c refl h))

-- reading goes on from what follows in so many tokens
abbrev GoesOn : ℕ → Cond → Type 0
GoesOn n c = (next : Outline) (rest : List ℕ) → read_on n (outline_of next) rest ≡ Ok c → Reads next rest (Ok c)

token_so : (n : ℕ) (s : Outline) (text : List ℕ) (c : Cond) → GoesOn n c → (x : grammar.Token × List ℕ) → token_at s text ≡ Ok x → (o : Option Outline) → step s x.0 ≡ o
    → behind_token (read_on n) (option_map outline_of o) x.1 ≡ Ok c → Reads s text (Ok c)
token_so n s text c more x e None f h = not_both (behind_token (read_on n) None x.1) c x.1 h refl
token_so n s text c more x e (Some next) f h = Steps s next text x.1 x.0 (Ok c) e f (more next (behind_space x.1) h)

piece_so : (n : ℕ) (s : Outline) (text : List ℕ) (c : Cond) → GoesOn n c → (p : Piece grammar.Token) → token_at s text ≡ p → behind_piece (read_on n) (outline_of s) p ≡ Ok c → Reads s text (Ok c)
piece_so n s text c more (Err rest) e h = not_both (behind_piece (read_on n) (outline_of s) (Err rest)) c rest h refl
piece_so n s text c more (Ok x) e h = token_so n s text c more x e (step s x.0) refl (ap (λ (o : Option told.Outline). behind_token (read_on n) o x.1) (sym (step_same s x.0)) ∙ h)

reads_so : (n : ℕ) (s : Outline) (text : List ℕ) (c : Cond) → read_on n (outline_of s) text ≡ Ok c → Reads s text (Ok c)
reads_so n s [] c h = ends_so s c (finish s) refl (ap ended (sym (finish_same s)) ∙ h)
reads_so zero s (b ∷ rest) c h = not_both (read_on zero (outline_of s) (b ∷ rest)) c (b ∷ rest) h refl
reads_so (suc n) s (b ∷ rest) c h = piece_so n s (b ∷ rest) c (λ next text k. reads_so n next text c k) (token_at s (b ∷ rest)) refl (ap (behind_piece (read_on n) (outline_of s)) (sym (lexed_same s (b ∷ rest))) ∙ h)

told_so : (n : ℕ) (r : Answer) (c : Cond) → told_at n r ≡ Ok c → r ≡ Ok c
told_so n (Ok found) c h = ap (λ (x : Cond). let a : Answer = Ok x in a) (same_ok (told_at n (Ok found)) found c refl h)
told_so n (Err rest) c h = not_both (told_at n (Err rest)) c _ h refl

text_of : (text : List ℕ) (c : Cond) → IsUtf8 text → condition_of text ≡ Ok c → IsTextOf text c
unfolding condition_of
text_of text c u h = read_is_text text c u (reads_so (length text) start (behind_space text) c (told_so (length text) (read_all text) c h))

pub rule_is_read_again : (text : List ℕ) (c : Cond) → IsUtf8 text → condition_of text ≡ Ok c → IsTextOf text c × (condition_of (print c) ≡ Ok c)
rule_is_read_again text c u h =
    let is = text_of text c u h in
    let printed = print_is_text text c is in
    (is, condition_is (print c) c printed.0 (text_is_read (print c) c printed))

-- ---- the rule that a statement gives

unless_so : (o : Option CondFault) (c found : Cond) → unless_fault o c ≡ Ok found → c ≡ found
unless_so None c found h = same_ok (unless_fault None c) c found refl h
unless_so (Some fault) c found h = not_both (unless_fault (Some fault) c) found _ h refl

checked_so : (fields : List Field) (r : Result Cond ℕ) (found : Cond) → checked fields r ≡ Ok found → r ≡ Ok found
checked_so fields (Err at) found h = not_both (checked fields (Err at)) found _ h refl
checked_so fields (Ok c) found h = ap (λ (x : Cond). let a : Result Cond ℕ = Ok x in a) (unless_so (cond_fault fields c) c found h)

abbrev IsReadAgain : Option Cond → Type 0
IsReadAgain o = IfSome o (λ c. condition_of (print c) ≡ Ok c)

some_so : (fields : List Field) (text : List ℕ) (r : Result Cond ConditionFault) (o : Option Cond) → condition_for fields text ≡ r → IsUtf8 text → some_condition r ≡ Ok o → IsReadAgain o
some_so fields text (Err fault) o e u h = not_both (some_condition (Err fault)) o fault h refl
some_so fields text (Ok c) o e u h =
    subst IsReadAgain (same_ok (some_condition (Ok c)) (Some c) o refl h) (rule_is_read_again text c u (checked_so fields (condition_of text) c e)).1

pub rule_given : (fields : List Field) (rule : Option (List ℕ)) (o : Option Cond) → if_some is_utf8 rule ≡ true → optional_condition fields rule ≡ Ok o → IsReadAgain o
unfolding optional_condition
rule_given fields None o u h = subst IsReadAgain (same_ok (optional_condition fields None) None o refl h) tt
rule_given fields (Some text) o u h = some_so fields text (condition_for fields text) o refl (IsUtf8-from_is_utf8 text u) h
