-- What reading gives is computed.
use Rattle.std.proofs.Common.{◌≡◌, ◌<◌, ◌≤◌, ℕ, zero, suc, ◌-◌, List, [], ◌∷◌, Option, Some, option_map, Result, Ok, Err, length, length-append, refl, ◌∙◌, ap, arith}
use Rattle.std.specs.Str.{IsUtf8}
use Rattle.rule_conditions.specs.Lexing.{behind_space}
use Rattle.rule_conditions.specs.Outline as told
use Rattle.rule_conditions.specs.Reading.{ended, behind_token, behind_piece, read_on, told_at, condition_of}
use Rattle.rule_conditions.specs.Tokens as grammar
use Rattle.rule_conditions.specs.declared.condition.Cond.{Cond}
use Rattle.rule_text.proofs.Cuts.{space_utf8, space_shorter}
use Rattle.rule_text.proofs.Lexed.{lexed_same}
use Rattle.rule_text.proofs.Outlined.{outline_of, step_same, finish_same}
use Rattle.rule_text.proofs.Taking.{Takes}
use Rattle.rule_text.proofs.Tokenwise.{token_taken}
use Rattle.rule_text.specs.Lexing.{token_at}
use Rattle.rule_text.specs.Outline.{start, step}
use Rattle.rule_text.specs.Reading.{Reads, Ends, Short, Steps, Fails}
use Rattle.rule_text.specs.declared.outline.Outline.{Outline}

abbrev Answer : Type 0
Answer = Result Cond (List ℕ)

-- a token is read and put to the outline, and reading goes on
goes_on : (s next : Outline) (text rest : List ℕ) (token : grammar.Token) (out : Answer) → token_at s text ≡ Ok (token, rest) → step s token ≡ Some next → Takes token text rest
    → ((m : ℕ) → length (behind_space rest) ≤ m → read_on m (outline_of next) (behind_space rest) ≡ out)
    → (n : ℕ) → length text ≤ n → read_on n (outline_of s) text ≡ out
goes_on s next [] rest token out read stepped takes others n within = cc
goes_on s next (b ∷ text) rest token out read stepped takes others zero within = absurd (omega arith)
goes_on s next (b ∷ text) rest token out read stepped takes others (suc n) within =
    let less : length rest < length (b ∷ text) = omega (arith, takes.some, ap length takes.split, length-append takes.word rest) in
    let shorter = space_shorter rest in
    ap (behind_piece (read_on n) (outline_of s)) (lexed_same s (b ∷ text) ∙ read)
    ∙ ap (λ (o : Option told.Outline). behind_token (read_on n) o rest) (step_same s token ∙ ap (option_map outline_of) stepped)
    ∙ others n (omega arith)

-- no token is read
stops_here : (s : Outline) (text rest : List ℕ) → (text ≡ [] → ⊥) → token_at s text ≡ Err rest → (n : ℕ) → length text ≤ n → read_on n (outline_of s) text ≡ Err rest
stops_here s [] rest some stops n within = absurd (some refl)
stops_here s (b ∷ text) rest some stops zero within = absurd (omega arith)
stops_here s (b ∷ text) rest some stops (suc n) within = ap (behind_piece (read_on n) (outline_of s)) (lexed_same s (b ∷ text) ∙ stops)

computed : (s : Outline) (text : List ℕ) (out : Answer) → Reads s text out → IsUtf8 text → (n : ℕ) → length text ≤ n → read_on n (outline_of s) text ≡ out
computed _ _ _ (Ends s condition e) u n within = ap ended (finish_same s ∙ e)
computed _ _ _ (Short s e) u n within = ap ended (finish_same s ∙ e)
computed _ _ _ (Steps s next text rest token out read stepped r) u n within =
    let takes = token_taken s text (token, rest) u read in
    goes_on s next text rest token out read stepped takes (λ m fits. computed next (behind_space rest) out r (space_utf8 rest (takes.utf8 u)) m fits) n within
computed _ _ _ (Fails s text rest some stops) u n within = stops_here s text rest some stops n within

all_computed : (text : List ℕ) (out : Answer) → IsUtf8 text → Reads start (behind_space text) out → read_on (length text) told.start (behind_space text) ≡ out
all_computed text out u r = computed start (behind_space text) out r (space_utf8 text u) (length text) (space_shorter text)

pub condition_is : (text : List ℕ) (condition : Cond) → IsUtf8 text → Reads start (behind_space text) (Ok condition) → condition_of text ≡ Ok condition
unfolding condition_of
condition_is text condition u r = ap (told_at (length text)) (all_computed text (Ok condition) u r)

pub place_is : (text rest : List ℕ) → IsUtf8 text → Reads start (behind_space text) (Err rest) → condition_of text ≡ Err (length text - length rest)
unfolding condition_of
place_is text rest u r = ap (told_at (length text)) (all_computed text (Err rest) u r)
