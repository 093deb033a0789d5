-- What a token that may come says of the outline.
use Rattle.std.proofs.Common.{◌≡◌, ◌⊎◌, inl, inr, ℕ, List, [], ◌∷◌, ◌++◌, Bool, true, false, Some, None, refl, ◌∙◌, ap, ◌||◌}
use Rattle.std.specs.List.{list_any}
use Rattle.std.proofs.lemmas.Bool.{and_from, or_left, or_right}
use Rattle.rule_conditions.specs.declared.condition.Atom.{Atom}
use Rattle.rule_conditions.specs.declared.condition.Atom.TheVariants as atoms
use Rattle.rule_conditions.specs.declared.condition.Cmp.{Cmp}
use Rattle.rule_conditions.specs.declared.condition.Cond.{Cond, roll-Cond}
use Rattle.rule_conditions.specs.declared.condition.Cond.TheOpen as conds
use Rattle.rule_conditions.specs.declared.condition.Sum.{Sum}
use Rattle.rule_text.proofs.Choice.{chosen}
use Rattle.rule_text.proofs.Sound.{mapped, bound}
use Rattle.rule_conditions.specs.Outline.{group, together}
use Rattle.rule_text.specs.Outline.{read_unit, wrapped, whole_unit, with_phase, no_partial, with_atom, is_open, null_test, like_test, after_atom, after_is, after_like, after_comparison, after_sign, after_times, after_not_inside, tested_sum, left_sum, after_not, after_open, after_and, after_or, after_close, left, has_room, is_unit, takes_atom, takes_text, takes_sign, takes_test, takes_end, takes_open, takes_close, is_is, is_is_not, is_not_like, is_left}
use Rattle.rule_text.specs.declared.outline.Outline.{Outline}
use Rattle.rule_text.specs.declared.outline.Partial.{Partial}
use Rattle.rule_text.specs.declared.outline.Frame.{Frame}
use Rattle.rule_text.specs.declared.outline.Frame.TheVariants as frames
use Rattle.rule_text.specs.declared.outline.Phase.{Phase}
use Rattle.rule_text.specs.declared.outline.Phase.TheVariants as phases
use Rattle.rule_text.specs.declared.outline.Side.{Side}
use Rattle.rule_text.specs.declared.outline.Side.TheVariants as sides

-- neither NULL nor a text
abbrev pub is_plain : Atom → Bool
is_plain (atoms.Number z) = true
is_plain (atoms.Text content) = false
is_plain atoms.Null = false
is_plain atoms.Priority = true
is_plain atoms.Corr = true
is_plain (atoms.Cell name) = true
is_plain (atoms.Prop name) = true

plain_null : (sum : Sum) (negated : Bool) (atom : Atom) (ph : Phase) → is_plain atom ≡ true → null_test sum negated atom ≡ Some ph → ⊥
plain_null sum negated (atoms.Number z) ph p h = cc
plain_null sum negated (atoms.Text content) ph p h = cc
plain_null sum negated atoms.Null ph p h = cc
plain_null sum negated atoms.Priority ph p h = cc
plain_null sum negated atoms.Corr ph p h = cc
plain_null sum negated (atoms.Cell name) ph p h = cc
plain_null sum negated (atoms.Prop name) ph p h = cc

plain_like : (sum : Sum) (negated : Bool) (atom : Atom) (ph : Phase) → is_plain atom ≡ true → like_test sum negated atom ≡ Some ph → ⊥
plain_like sum negated (atoms.Number z) ph p h = cc
plain_like sum negated (atoms.Text content) ph p h = cc
plain_like sum negated atoms.Null ph p h = cc
plain_like sum negated atoms.Priority ph p h = cc
plain_like sum negated atoms.Corr ph p h = cc
plain_like sum negated (atoms.Cell name) ph p h = cc
plain_like sum negated (atoms.Prop name) ph p h = cc

pub plain_may : (phase ph : Phase) (atom : Atom) → is_plain atom ≡ true → after_atom phase atom ≡ Some ph → takes_atom phase ≡ true
plain_may phases.Unit ph atom p h = refl
plain_may (phases.Factor side q) ph atom p h = refl
plain_may (phases.Operated side q) ph atom p h = cc
plain_may (phases.Is sum) ph atom p h = absurd (plain_null sum false atom ph p h)
plain_may (phases.IsNot sum) ph atom p h = absurd (plain_null sum true atom ph p h)
plain_may (phases.NotLike sum) ph atom p h = cc
plain_may (phases.Like sum negated) ph atom p h = absurd (plain_like sum negated atom ph p h)
plain_may (phases.Done unit) ph atom p h = cc

pub null_may : (phase ph : Phase) → after_atom phase atoms.Null ≡ Some ph → (takes_atom phase || is_is phase || is_is_not phase) ≡ true
null_may phases.Unit ph h = refl
null_may (phases.Factor side q) ph h = refl
null_may (phases.Operated side q) ph h = cc
null_may (phases.Is sum) ph h = refl
null_may (phases.IsNot sum) ph h = refl
null_may (phases.NotLike sum) ph h = cc
null_may (phases.Like sum negated) ph h = cc
null_may (phases.Done unit) ph h = cc

pub text_may : (phase ph : Phase) (content : List ℕ) → after_atom phase (atoms.Text content) ≡ Some ph → takes_text phase ≡ true
text_may phases.Unit ph content h = refl
text_may (phases.Factor side q) ph content h = refl
text_may (phases.Operated side q) ph content h = cc
text_may (phases.Is sum) ph content h = cc
text_may (phases.IsNot sum) ph content h = cc
text_may (phases.NotLike sum) ph content h = cc
text_may (phases.Like sum negated) ph content h = refl
text_may (phases.Done unit) ph content h = cc

no_text : (phase ph next : Phase) (other : List ℕ) → phase ≡ ph → after_atom phase (atoms.Text other) ≡ None → after_atom ph (atoms.Text other) ≡ Some next → ⊥
no_text phase ph next other is e g = let same : after_atom phase (atoms.Text other) ≡ Some next = ap (λ (p : Phase). after_atom p (atoms.Text other)) is ∙ g in cc

-- behind a text no text comes
pub behind_text : (phase ph next : Phase) (content other : List ℕ) → after_atom phase (atoms.Text content) ≡ Some ph → after_atom ph (atoms.Text other) ≡ Some next → ⊥
behind_text phases.Unit ph next content other h g = let is : phases.Operated sides.Left (with_atom no_partial (atoms.Text content)) ≡ ph = cc in
    absurd (no_text (phases.Operated sides.Left (with_atom no_partial (atoms.Text content))) ph next other is refl g)
behind_text (phases.Factor side q) ph next content other h g = let is : phases.Operated side (with_atom q (atoms.Text content)) ≡ ph = cc in
    absurd (no_text (phases.Operated side (with_atom q (atoms.Text content))) ph next other is refl g)
behind_text (phases.Operated side q) ph next content other h g = cc
behind_text (phases.Is sum) ph next content other h g = cc
behind_text (phases.IsNot sum) ph next content other h g = cc
behind_text (phases.NotLike sum) ph next content other h g = cc
behind_text (phases.Like sum negated) ph next content other h g = let is : phases.Done (roll-Cond (conds.Like sum content negated)) ≡ ph = cc in
    absurd (no_text (phases.Done (roll-Cond (conds.Like sum content negated))) ph next other is refl g)
behind_text (phases.Done unit) ph next content other h g = cc

left_may : (side : Side) (q : Partial) (sum : Sum) → left_sum side q ≡ Some sum → is_left side ≡ true
left_may sides.Left q sum h = refl
left_may (sides.Right left how) q sum h = cc

tested_may : (phase : Phase) (sum : Sum) → tested_sum phase ≡ Some sum → takes_test phase ≡ true
tested_may phases.Unit sum h = cc
tested_may (phases.Factor side q) sum h = cc
tested_may (phases.Operated side q) sum h = left_may side q sum h
tested_may (phases.Is other) sum h = cc
tested_may (phases.IsNot other) sum h = cc
tested_may (phases.NotLike other) sum h = cc
tested_may (phases.Like other negated) sum h = cc
tested_may (phases.Done unit) sum h = cc

pub is_may : (phase ph : Phase) → after_is phase ≡ Some ph → takes_test phase ≡ true
is_may phase ph h = let m = mapped (λ sum. phases.Is sum) (tested_sum phase) ph h in tested_may phase m.0 m.1

pub comparison_may : (phase ph : Phase) (how : Cmp) → after_comparison phase how ≡ Some ph → takes_test phase ≡ true
comparison_may phase ph how h = let m = mapped (λ sum. phases.Factor (sides.Right sum how) no_partial) (tested_sum phase) ph h in tested_may phase m.0 m.1

-- behind a comparison no comparison comes
pub behind_comparison : (phase ph next : Phase) (how other : Cmp) → after_comparison phase how ≡ Some ph → after_comparison ph other ≡ Some next → ⊥
behind_comparison phase ph next how other h g =
    let m = mapped (λ sum. phases.Factor (sides.Right sum how) no_partial) (tested_sum phase) ph h in
    let same : after_comparison (phases.Factor (sides.Right m.0 how) no_partial) other ≡ Some next = ap (λ (p : Phase). after_comparison p other) m.2 ∙ g in
    cc

pub like_may : (phase ph : Phase) → after_like phase ≡ Some ph → (takes_test phase || is_not_like phase) ≡ true
like_may phases.Unit ph h = cc
like_may (phases.Factor side q) ph h = cc
like_may (phases.Operated side q) ph h =
    let m = mapped (λ sum. phases.Like sum false) (left_sum side q) ph h in
    or_left (is_left side) false (left_may side q m.0 m.1)
like_may (phases.Is sum) ph h = cc
like_may (phases.IsNot sum) ph h = cc
like_may (phases.NotLike sum) ph h = refl
like_may (phases.Like sum negated) ph h = cc
like_may (phases.Done unit) ph h = cc

pub sign_may : (phase ph : Phase) (minus : Bool) → after_sign phase minus ≡ Some ph → (takes_sign phase ≡ true) × (takes_atom phase ≡ false)
sign_may phases.Unit ph minus h = cc
sign_may (phases.Factor side q) ph minus h = cc
sign_may (phases.Operated side q) ph minus h = (refl, refl)
sign_may (phases.Is sum) ph minus h = cc
sign_may (phases.IsNot sum) ph minus h = cc
sign_may (phases.NotLike sum) ph minus h = cc
sign_may (phases.Like sum negated) ph minus h = cc
sign_may (phases.Done unit) ph minus h = cc

pub times_may : (phase ph : Phase) → after_times phase ≡ Some ph → takes_sign phase ≡ true
times_may phases.Unit ph h = cc
times_may (phases.Factor side q) ph h = cc
times_may (phases.Operated side q) ph h = refl
times_may (phases.Is sum) ph h = cc
times_may (phases.IsNot sum) ph h = cc
times_may (phases.NotLike sum) ph h = cc
times_may (phases.Like sum negated) ph h = cc
times_may (phases.Done unit) ph h = cc

not_inside_may : (phase ph : Phase) → after_not_inside phase ≡ Some ph → (takes_test phase ≡ true) ⊎ (is_is phase ≡ true)
not_inside_may phases.Unit ph h = cc
not_inside_may (phases.Factor side q) ph h = cc
not_inside_may (phases.Operated side q) ph h =
    let m = mapped (λ sum. phases.NotLike sum) (left_sum side q) ph h in
    inl (left_may side q m.0 m.1)
not_inside_may (phases.Is sum) ph h = inr refl
not_inside_may (phases.IsNot sum) ph h = cc
not_inside_may (phases.NotLike sum) ph h = cc
not_inside_may (phases.Like sum negated) ph h = cc
not_inside_may (phases.Done unit) ph h = cc

pub not_may : (s next : Outline) → after_not s ≡ Some next → (takes_open s || takes_test s.phase || is_is s.phase) ≡ true
not_may s next h =
    elim (chosen (is_unit s.phase) _ _ _ h) [
      | inl p ↦ elim (chosen (has_room s) _ _ _ p.1) [
        | inl q ↦ or_left (takes_open s || takes_test s.phase) (is_is s.phase) (or_left (takes_open s) (takes_test s.phase) (and_from _ _ p.0 q.0))
        | inr q ↦ cc
      ]
      | inr p ↦
          let m = mapped (with_phase s) (after_not_inside s.phase) next p.1 in
          elim (not_inside_may s.phase m.0 m.1) [
            | inl t ↦ or_left (takes_open s || takes_test s.phase) (is_is s.phase) (or_right (takes_open s) (takes_test s.phase) t)
            | inr t ↦ or_right (takes_open s || takes_test s.phase) (is_is s.phase) t
          ]
    ]

pub open_may : (s next : Outline) → after_open s ≡ Some next → takes_open s ≡ true
open_may s next h =
    elim (chosen (is_unit s.phase) _ _ _ h) [
      | inl p ↦ elim (chosen (has_room s) _ _ _ p.1) [ inl q ↦ and_from _ _ p.0 q.0 | inr q ↦ cc ]
      | inr p ↦ cc
    ]

unit_may : (phase : Phase) (unit : Cond) → read_unit phase ≡ Some unit → takes_end phase ≡ true
unit_may phases.Unit unit h = cc
unit_may (phases.Factor side q) unit h = cc
unit_may (phases.Operated sides.Left q) unit h = cc
unit_may (phases.Operated (sides.Right left how) q) unit h = refl
unit_may (phases.Is sum) unit h = cc
unit_may (phases.IsNot sum) unit h = cc
unit_may (phases.NotLike sum) unit h = cc
unit_may (phases.Like sum negated) unit h = cc
unit_may (phases.Done other) unit h = refl

whole_may : (s : Outline) (w : Cond × List Frame) → whole_unit s ≡ Some w → takes_end s.phase ≡ true
whole_may s w h = let m = mapped (λ unit. wrapped unit s.frames) (read_unit s.phase) w h in unit_may s.phase m.0 m.1

pub and_may : (s next : Outline) → after_and s ≡ Some next → takes_end s.phase ≡ true
and_may s next h =
    let m = mapped (λ w. let o : Outline = record { alternatives = s.alternatives; parts = s.parts ++ w.0 ∷ []; frames = w.1; phase = phases.Unit } in o) (whole_unit s) next h in
    whole_may s m.0 m.1

pub or_may : (s next : Outline) → after_or s ≡ Some next → takes_end s.phase ≡ true
or_may s next h =
    let m = mapped (λ w. let o : Outline = record { alternatives = s.alternatives ++ together (λ cs. roll-Cond (conds.All cs)) s.parts w.0 ∷ []; parts = []; frames = w.1; phase = phases.Unit } in o) (whole_unit s) next h in
    whole_may s m.0 m.1

wrapped_open : (unit group : Cond) (fs : List Frame) (next : Outline) → left group (wrapped unit fs).1 ≡ Some next → list_any is_open fs ≡ true
wrapped_open unit group [] next h = cc
wrapped_open unit group (frames.Not ∷ outer) next h = wrapped_open (roll-Cond (conds.Not unit)) group outer next h
wrapped_open unit group (frames.Open alternatives parts ∷ outer) next h = refl

pub close_may : (s next : Outline) → after_close s ≡ Some next → takes_close s ≡ true
close_may s next h =
    let m = bound (whole_unit s) (λ w. left (group s.alternatives s.parts w.0) w.1) next h in
    let u = mapped (λ unit. wrapped unit s.frames) (read_unit s.phase) m.0 m.1 in
    let goes : left (group s.alternatives s.parts m.0.0) (wrapped u.0 s.frames).1 ≡ Some next =
    ap (λ (w : Cond × List Frame). left (group s.alternatives s.parts m.0.0) w.1) u.2 ∙ m.2 in
    and_from _ _ (unit_may s.phase u.0 u.1) (wrapped_open u.0 (group s.alternatives s.parts m.0.0) s.frames next goes)
