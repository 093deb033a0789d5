-- A token that is taken may come.
use Rattle.std.proofs.Common.{◌≡◌, ◌==◌, ◌⊎◌, inl, inr, ℕ, List, [], ◌∷◌, ◌++◌, Bool, true, false, Option, Some, None, Ok, refl, sym, ◌∙◌, ap, subst, cond, ◌&&◌, ◌||◌, drop, option_map, option_and_then}
use Rattle.std.specs.List.{list_any}
use Rattle.std.specs.Str.{str_to_ascii_lowercase}
use Rattle.std.proofs.lemmas.Bool.{and_parts, or_cases}
use Rattle.rule_conditions.specs.Tokens as grammar
use Rattle.rule_conditions.specs.Tokens.{is_digit, is_end_of_word}
use Rattle.rule_conditions.specs.declared.condition.Atom.{Atom}
use Rattle.rule_conditions.specs.declared.condition.Atom.TheVariants as atoms
use Rattle.rule_conditions.specs.declared.condition.Cmp.{Cmp}
use Rattle.rule_conditions.specs.declared.condition.Cond.{Cond, roll-Cond}
use Rattle.rule_conditions.specs.declared.condition.Cond.TheOpen as conds
use Rattle.rule_text.proofs.Choice.{chosen}
use Rattle.rule_text.proofs.Choosing.{yes_cond, no_cond}
use Rattle.rule_text.proofs.Taking.{as_token_ok, found_passes}
use Rattle.rule_conditions.specs.Lexing.{symbol_or, comparison_token, comparison_at, is_comparison_byte, number_at, content_at}
use Rattle.rule_text.specs.Lexing.{word_token, token_at, word_at, word_split, ended_word, found_word, is_whole, symbol}
use Rattle.rule_conditions.specs.Outline.{group, together}
use Rattle.rule_text.specs.Outline.{read_unit, wrapped, whole_unit, with_phase, no_partial, with_atom, with_sign, closed, is_open, after_atom, after_is, after_like, after_comparison, after_sign, after_times, after_not_inside, tested_sum, left_sum, phase_after, after_not, after_open, after_and, after_or, after_close, left, deeper, opened, has_room, is_unit, step, takes_atom, takes_text, takes_sign, takes_test, takes_end, takes_open, takes_close, takes_word, is_is, is_is_not, is_not_like, is_left}
use Rattle.rule_text.specs.declared.outline.Outline.{Outline}
use Rattle.rule_text.specs.declared.outline.Partial.{Partial}
use Rattle.rule_text.specs.declared.outline.Frame.{Frame}
use Rattle.rule_text.specs.declared.outline.Frame.TheVariants as frames
use Rattle.rule_text.specs.declared.outline.Phase.{Phase}
use Rattle.rule_text.specs.declared.outline.Phase.TheVariants as phases
use Rattle.rule_text.specs.declared.outline.Side.{Side}
use Rattle.rule_text.specs.declared.outline.Side.TheVariants as sides
use Rattle.rule_text.specs.declared.tokens.Word.{Word}
use Rattle.rule_text.specs.declared.tokens.Word.TheVariants as words
use Rattle.rule_text.specs.declared.words.TheConstants.{WORDS}

abbrev pub IsSome : {X : Type 0} → Option X → Type 0
IsSome {X = X} o = (x : X) × (o ≡ Some x)

mapped_some : {X Y : Type 0} (f : X → Y) (o : Option X) → IsSome o → IsSome (option_map f o)
mapped_some {X = X} f o (x, e) = (f x, ap (λ (z : Option X). option_map f z) e)

pub atom_some : (phase : Phase) (atom : Atom) → takes_atom phase ≡ true → IsSome (after_atom phase atom)
atom_some phases.Unit atom h = (phases.Operated sides.Left (with_atom no_partial atom), refl)
atom_some (phases.Factor side q) atom h = (phases.Operated side (with_atom q atom), refl)
atom_some (phases.Operated side q) atom h = cc
atom_some (phases.Is sum) atom h = cc
atom_some (phases.IsNot sum) atom h = cc
atom_some (phases.NotLike sum) atom h = cc
atom_some (phases.Like sum negated) atom h = cc
atom_some (phases.Done unit) atom h = cc

null_some : (phase : Phase) → (takes_atom phase || is_is phase || is_is_not phase) ≡ true → IsSome (after_atom phase atoms.Null)
null_some phases.Unit h = (phases.Operated sides.Left (with_atom no_partial atoms.Null), refl)
null_some (phases.Factor side q) h = (phases.Operated side (with_atom q atoms.Null), refl)
null_some (phases.Operated side q) h = cc
null_some (phases.Is sum) h = (phases.Done (roll-Cond (conds.IsNull sum false)), refl)
null_some (phases.IsNot sum) h = (phases.Done (roll-Cond (conds.IsNull sum true)), refl)
null_some (phases.NotLike sum) h = cc
null_some (phases.Like sum negated) h = cc
null_some (phases.Done unit) h = cc

pub text_some : (phase : Phase) (content : List ℕ) → takes_text phase ≡ true → IsSome (after_atom phase (atoms.Text content))
text_some phases.Unit content h = (phases.Operated sides.Left (with_atom no_partial (atoms.Text content)), refl)
text_some (phases.Factor side q) content h = (phases.Operated side (with_atom q (atoms.Text content)), refl)
text_some (phases.Operated side q) content h = cc
text_some (phases.Is sum) content h = cc
text_some (phases.IsNot sum) content h = cc
text_some (phases.NotLike sum) content h = cc
text_some (phases.Like sum negated) content h = (phases.Done (roll-Cond (conds.Like sum content negated)), refl)
text_some (phases.Done unit) content h = cc

left_some : (side : Side) (q : Partial) → is_left side ≡ true → IsSome (left_sum side q)
left_some sides.Left q h = (closed q, refl)
left_some (sides.Right sum how) q h = cc

tested_some : (phase : Phase) → takes_test phase ≡ true → IsSome (tested_sum phase)
tested_some phases.Unit h = cc
tested_some (phases.Factor side q) h = cc
tested_some (phases.Operated side q) h = left_some side q h
tested_some (phases.Is other) h = cc
tested_some (phases.IsNot other) h = cc
tested_some (phases.NotLike other) h = cc
tested_some (phases.Like other negated) h = cc
tested_some (phases.Done unit) h = cc

is_some : (phase : Phase) → takes_test phase ≡ true → IsSome (after_is phase)
is_some phase h = mapped_some (λ sum. phases.Is sum) (tested_sum phase) (tested_some phase h)

pub comparison_some : (phase : Phase) (how : Cmp) → takes_test phase ≡ true → IsSome (after_comparison phase how)
comparison_some phase how h = mapped_some (λ sum. phases.Factor (sides.Right sum how) no_partial) (tested_sum phase) (tested_some phase h)

like_some : (phase : Phase) → (takes_test phase || is_not_like phase) ≡ true → IsSome (after_like phase)
like_some phases.Unit h = cc
like_some (phases.Factor side q) h = cc
like_some (phases.Operated side q) h =
    let is : is_left side ≡ true = elim (or_cases (is_left side) false h) [ inl a ↦ a | inr b ↦ cc ] in
    mapped_some (λ sum. phases.Like sum false) (left_sum side q) (left_some side q is)
like_some (phases.Is sum) h = cc
like_some (phases.IsNot sum) h = cc
like_some (phases.NotLike sum) h = (phases.Like sum true, refl)
like_some (phases.Like sum negated) h = cc
like_some (phases.Done unit) h = cc

pub sign_some : (phase : Phase) (minus : Bool) → takes_sign phase ≡ true → IsSome (after_sign phase minus)
sign_some phases.Unit minus h = cc
sign_some (phases.Factor side q) minus h = cc
sign_some (phases.Operated side q) minus h = (phases.Factor side (with_sign q minus), refl)
sign_some (phases.Is sum) minus h = cc
sign_some (phases.IsNot sum) minus h = cc
sign_some (phases.NotLike sum) minus h = cc
sign_some (phases.Like sum negated) minus h = cc
sign_some (phases.Done unit) minus h = cc

times_some : (phase : Phase) → takes_sign phase ≡ true → IsSome (after_times phase)
times_some phases.Unit h = cc
times_some (phases.Factor side q) h = cc
times_some (phases.Operated side q) h = (phases.Factor side q, refl)
times_some (phases.Is sum) h = cc
times_some (phases.IsNot sum) h = cc
times_some (phases.NotLike sum) h = cc
times_some (phases.Like sum negated) h = cc
times_some (phases.Done unit) h = cc

unit_some : (phase : Phase) → takes_end phase ≡ true → IsSome (read_unit phase)
unit_some phases.Unit h = cc
unit_some (phases.Factor side q) h = cc
unit_some (phases.Operated sides.Left q) h = cc
unit_some (phases.Operated (sides.Right sum how) q) h = (roll-Cond (conds.Compare sum how (closed q)), refl)
unit_some (phases.Is sum) h = cc
unit_some (phases.IsNot sum) h = cc
unit_some (phases.NotLike sum) h = cc
unit_some (phases.Like sum negated) h = cc
unit_some (phases.Done unit) h = (unit, refl)

whole_some : (s : Outline) → takes_end s.phase ≡ true → IsSome (whole_unit s)
whole_some s h = mapped_some (λ unit. wrapped unit s.frames) (read_unit s.phase) (unit_some s.phase h)

and_some : (s : Outline) → takes_end s.phase ≡ true → IsSome (after_and s)
and_some s h = mapped_some (λ w. let o : Outline = record { alternatives = s.alternatives; parts = s.parts ++ w.0 ∷ []; frames = w.1; phase = phases.Unit } in o) (whole_unit s) (whole_some s h)

or_some : (s : Outline) → takes_end s.phase ≡ true → IsSome (after_or s)
or_some s h = mapped_some (λ w. let o : Outline = record { alternatives = s.alternatives ++ together (λ cs. roll-Cond (conds.All cs)) s.parts w.0 ∷ []; parts = []; frames = w.1; phase = phases.Unit } in o) (whole_unit s) (whole_some s h)

inside_some : (phase : Phase) → (takes_test phase ≡ true) ⊎ (is_is phase ≡ true) → (is_unit phase ≡ false) × IsSome (after_not_inside phase)
inside_some phases.Unit (inl h) = cc
inside_some phases.Unit (inr h) = cc
inside_some (phases.Factor side q) (inl h) = cc
inside_some (phases.Factor side q) (inr h) = cc
inside_some (phases.Operated side q) (inl h) = (refl, mapped_some (λ sum. phases.NotLike sum) (left_sum side q) (left_some side q h))
inside_some (phases.Operated side q) (inr h) = cc
inside_some (phases.Is sum) h = (refl, (phases.IsNot sum, refl))
inside_some (phases.IsNot sum) (inl h) = cc
inside_some (phases.IsNot sum) (inr h) = cc
inside_some (phases.NotLike sum) (inl h) = cc
inside_some (phases.NotLike sum) (inr h) = cc
inside_some (phases.Like sum negated) (inl h) = cc
inside_some (phases.Like sum negated) (inr h) = cc
inside_some (phases.Done unit) (inl h) = cc
inside_some (phases.Done unit) (inr h) = cc

not_inside_some : (s : Outline) → (takes_test s.phase ≡ true) ⊎ (is_is s.phase ≡ true) → IsSome (after_not s)
not_inside_some s h =
    let i = inside_some s.phase h in
    let m = mapped_some (with_phase s) (after_not_inside s.phase) i.1 in
    (m.0, no_cond (is_unit s.phase) (deeper s) (option_map (with_phase s) (after_not_inside s.phase)) i.0 ∙ m.1)

deeper_some : (s : Outline) → takes_open s ≡ true → IsSome (after_not s)
deeper_some s h =
    let both = and_parts _ _ h in
    let inner : Outline = record { alternatives = s.alternatives; parts = s.parts; frames = frames.Not ∷ s.frames; phase = phases.Unit } in
    (inner, yes_cond (is_unit s.phase) (deeper s) (option_map (with_phase s) (after_not_inside s.phase)) both.0 ∙ yes_cond (has_room s) (Some inner) None both.1)

not_some : (s : Outline) → (takes_open s || takes_test s.phase || is_is s.phase) ≡ true → IsSome (after_not s)
not_some s h =
    elim (or_cases (takes_open s || takes_test s.phase) (is_is s.phase) h) [
      | inl a ↦ elim (or_cases (takes_open s) (takes_test s.phase) a) [
        | inl b ↦ deeper_some s b
        | inr b ↦ not_inside_some s (inl b)
      ]
      | inr a ↦ not_inside_some s (inr a)
    ]

pub open_some : (s : Outline) → takes_open s ≡ true → IsSome (after_open s)
open_some s h =
    let both = and_parts _ _ h in
    let inner : Outline = record { alternatives = []; parts = []; frames = frames.Open s.alternatives s.parts ∷ s.frames; phase = phases.Unit } in
    (inner, yes_cond (is_unit s.phase) (opened s) None both.0 ∙ yes_cond (has_room s) (Some inner) None both.1)

wrapped_left : (unit : Cond) (fs : List Frame) → list_any is_open fs ≡ true → (alternatives : List Cond) × (parts : List Cond) × (outer : List Frame) × ((wrapped unit fs).1 ≡ frames.Open alternatives parts ∷ outer)
wrapped_left unit [] h = cc
wrapped_left unit (frames.Not ∷ outer) h = wrapped_left (roll-Cond (conds.Not unit)) outer h
wrapped_left unit (frames.Open alternatives parts ∷ outer) h = (alternatives, parts, outer, refl)

pub close_some : (s : Outline) → takes_close s ≡ true → IsSome (after_close s)
close_some s h =
    let both = and_parts _ _ h in
    let u = unit_some s.phase both.0 in
    let w = wrapped_left u.0 s.frames both.1 in
    let whole = wrapped u.0 s.frames in
    let unit = group s.alternatives s.parts whole.0 in
    let next : Outline = record { alternatives = w.0; parts = w.1; frames = w.2; phase = phases.Done unit } in
    (next, ap (λ (o : Option Cond). option_and_then (λ x. left (group s.alternatives s.parts x.0) x.1) (option_map (λ c. wrapped c s.frames) o)) u.1 ∙ ap (λ (fs : List Frame). left unit fs) w.3)

pub inner_some : (s : Outline) (token : grammar.Token) → IsSome (phase_after s.phase token) → IsSome (option_map (with_phase s) (phase_after s.phase token))
inner_some s token h = mapped_some (with_phase s) (phase_after s.phase token) h

-- where a word may come, its token may
pub word_some : (s : Outline) (w : Word) (head : List ℕ) → takes_word s w ≡ true → IsSome (step s (word_token w head))
word_some s words.Or head h = or_some s h
word_some s words.And head h = and_some s h
word_some s words.Not head h = not_some s h
word_some s words.Is head h = inner_some s grammar.IsWord (is_some s.phase h)
word_some s words.Like head h = inner_some s grammar.LikeWord (like_some s.phase h)
word_some s words.Null head h = inner_some s (grammar.Operand atoms.Null) (null_some s.phase h)
word_some s words.Priority head h = inner_some s (grammar.Operand atoms.Priority) (atom_some s.phase atoms.Priority h)
word_some s words.Corr head h = inner_some s (grammar.Operand atoms.Corr) (atom_some s.phase atoms.Corr h)
word_some s words.Cell head h = inner_some s (word_token words.Cell head) (atom_some s.phase (atoms.Cell (str_to_ascii_lowercase (drop 14 head))) h)
word_some s words.Prop head h = inner_some s (word_token words.Prop head) (atom_some s.phase (atoms.Prop (str_to_ascii_lowercase (drop 14 head))) h)

pub number_some : (s : Outline) (atom : Atom) → takes_atom s.phase ≡ true → IsSome (step s (grammar.Operand atom))
number_some s atom h = inner_some s (grammar.Operand atom) (atom_some s.phase atom h)

pub text_step_some : (s : Outline) (content : List ℕ) → takes_text s.phase ≡ true → IsSome (step s (grammar.Operand (atoms.Text content)))
text_step_some s content h = inner_some s (grammar.Operand (atoms.Text content)) (text_some s.phase content h)

pub comparison_step_some : (s : Outline) (how : Cmp) → takes_test s.phase ≡ true → IsSome (step s (grammar.Compared how))
comparison_step_some s how h = inner_some s (grammar.Compared how) (comparison_some s.phase how h)

pub plus_some : (s : Outline) → takes_sign s.phase ≡ true → IsSome (step s grammar.Plus)
plus_some s h = inner_some s grammar.Plus (sign_some s.phase false h)

pub minus_some : (s : Outline) → takes_sign s.phase ≡ true → IsSome (step s grammar.Minus)
minus_some s h = inner_some s grammar.Minus (sign_some s.phase true h)

pub times_step_some : (s : Outline) → takes_sign s.phase ≡ true → IsSome (step s grammar.Times)
times_step_some s h = inner_some s grammar.Times (times_some s.phase h)

-- what is taken may come

symbol_steps : (s : Outline) (b : ℕ) (token : grammar.Token) → symbol s b ≡ Some token → IsSome (step s token)
symbol_steps s b token e =
    let P : grammar.Token → Type 0 = λ t. IsSome (step s t) in
    elim (chosen (b == 42 && takes_sign s.phase) _ _ _ e) [
      | inl p ↦ let is : grammar.Times ≡ token = cc in subst P is (times_step_some s (and_parts _ _ p.0).1)
      | inr p ↦ elim (chosen (b == 43 && takes_sign s.phase) _ _ _ p.1) [
        | inl p ↦ let is : grammar.Plus ≡ token = cc in subst P is (plus_some s (and_parts _ _ p.0).1)
        | inr p ↦ elim (chosen (b == 45 && takes_sign s.phase) _ _ _ p.1) [
          | inl p ↦ let is : grammar.Minus ≡ token = cc in subst P is (minus_some s (and_parts _ _ p.0).1)
          | inr p ↦ elim (chosen (b == 40 && takes_open s) _ _ _ p.1) [
            | inl p ↦ let is : grammar.Open ≡ token = cc in subst P is (open_some s (and_parts _ _ p.0).1)
            | inr p ↦ elim (chosen (b == 41 && takes_close s) _ _ _ p.1) [
              | inl p ↦ let is : grammar.Close ≡ token = cc in subst P is (close_some s (and_parts _ _ p.0).1)
              | inr p ↦ cc
            ]
          ]
        ]
      ]
    ]

pub found_takes : (s : Outline) (head : List ℕ) (w : Word) → found_word s head ≡ Some w → takes_word s w ≡ true
unfolding found_word
found_takes s head w e = (and_parts _ _ (found_passes (λ word. takes_word s word && is_whole word head) WORDS w e)).0

ended_steps : (s : Outline) (found : Option Word) (head rest : List ℕ) (out : grammar.Token × List ℕ) → ((w : Word) → found ≡ Some w → takes_word s w ≡ true) → ended_word found head rest ≡ Ok out → IsSome (step s out.0)
ended_steps s None head rest out takes e = cc
ended_steps s (Some w) head rest out takes e =
    elim (chosen (is_end_of_word rest) _ _ _ e) [
      | inl p ↦ let same : (word_token w head, rest) ≡ out = cc in subst (λ (o : grammar.Token × List ℕ). IsSome (step s o.0)) same (word_some s w head (takes w refl))
      | inr p ↦ cc
    ]

other_steps : (s : Outline) (b : ℕ) (rest : List ℕ) (out : grammar.Token × List ℕ) (found : Option grammar.Token) → symbol s b ≡ found → symbol_or found rest (cond (takes_test s.phase && is_comparison_byte b) (comparison_token b rest) (word_at s (b ∷ rest))) ≡ Ok out → IsSome (step s out.0)
other_steps s b rest out (Some token) f e =
    let same : (token, rest) ≡ out = cc in
    subst (λ (o : grammar.Token × List ℕ). IsSome (step s o.0)) same (symbol_steps s b token f)
other_steps s b rest out None f e =
    elim (chosen (takes_test s.phase && is_comparison_byte b) _ _ _ e) [
      | inl p ↦
          let found = as_token_ok (λ how. grammar.Compared how) (comparison_at b rest) out p.1 in
          subst (λ (o : grammar.Token × List ℕ). IsSome (step s o.0)) (sym found.2) (comparison_step_some s found.0.0 (and_parts _ _ p.0).0)
      | inr p ↦
          let split = word_split s [] (b ∷ rest) in
          ended_steps s (found_word s split.0) split.0 split.1 out (found_takes s split.0) p.1
    ]

pub taken_steps : (s : Outline) (text : List ℕ) (out : grammar.Token × List ℕ) → token_at s text ≡ Ok out → IsSome (step s out.0)
taken_steps s [] out e = cc
taken_steps s (b ∷ rest) out e =
    let P : grammar.Token × List ℕ → Type 0 = λ o. IsSome (step s o.0) in
    elim (chosen (b == 39 && takes_text s.phase) _ _ _ e) [
      | inl p ↦
          let found = as_token_ok (λ content. grammar.Operand (atoms.Text content)) (content_at [] false rest) out p.1 in
          subst P (sym found.2) (text_step_some s found.0.0 (and_parts _ _ p.0).1)
      | inr p ↦ elim (chosen ((is_digit b || b == 45) && takes_atom s.phase) _ _ _ p.1) [
        | inl q ↦
            let found = as_token_ok (λ z. grammar.Operand (atoms.Number z)) (number_at (b ∷ rest)) out q.1 in
            subst P (sym found.2) (number_some s (atoms.Number found.0.0) (and_parts _ _ q.0).1)
        | inr q ↦ other_steps s b rest out (symbol s b) refl q.1
      ]
    ]

pub never_refused : (s : Outline) (text rest : List ℕ) (token : grammar.Token) → token_at s text ≡ Ok (token, rest) → step s token ≡ None → ⊥
never_refused s text rest token e h = let n = taken_steps s text (token, rest) e in let no : None ≡ Some n.0 = sym h ∙ n.1 in cc
