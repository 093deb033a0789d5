-- What the code asks of its outline before it reads a token is whether the token may come.
use Rattle.std.proofs.Common.{◌≡◌, ℕ, ℤ, List, [], ◌∷◌, Bool, true, false, cond, Option, Some, None, option_map, option_and_then, is_some, ◌&&◌, ◌||◌, refl, ◌∙◌, ap}
use Rattle.std.specs.List.{list_any}
use Rattle.rule_conditions.specs.Outline as told
use Rattle.rule_conditions.specs.Outline.{group}
use Rattle.rule_conditions.specs.Tokens as grammar
use Rattle.rule_conditions.specs.declared.condition.Atom.{Atom}
use Rattle.rule_conditions.specs.declared.condition.Atom.TheVariants as atoms
use Rattle.rule_conditions.specs.declared.condition.Cmp.{Cmp}
use Rattle.rule_conditions.specs.declared.condition.Cond.{Cond, roll-Cond}
use Rattle.rule_conditions.specs.declared.condition.Cond.TheOpen.{Not}
use Rattle.rule_conditions.specs.declared.condition.Sum.{Sum}
use Rattle.rule_text.proofs.Outlined.{outline_of, may_same}
use Rattle.rule_text.specs.Outline.{read_unit, wrapped, whole_unit, null_test, like_test, after_atom, after_is, after_like, after_comparison, after_sign, after_times, is_unit, is_is, is_is_not, is_not_like, is_open, has_room, deeper, opened, after_not_inside, left, close_behind, with_phase, takes_atom, takes_text, takes_sign, takes_test, takes_end, takes_open, takes_close, step}
use Rattle.rule_text.specs.declared.outline.Outline.{Outline}
use Rattle.rule_text.specs.declared.outline.Frame.{Frame}
use Rattle.rule_text.specs.declared.outline.Frame.TheVariants as frames
use Rattle.rule_text.specs.declared.outline.Phase.{Phase}
use Rattle.rule_text.specs.declared.outline.Phase.TheVariants as phases
use Rattle.rule_text.specs.declared.outline.Side.TheVariants as sides

some_inside : (s : Outline) (o : Option Phase) → is_some (option_map (with_phase s) o) ≡ is_some o
some_inside s None = refl
some_inside s (Some phase) = refl

plain_some : (phase : Phase) (atom : Atom) → ((sum : Sum) (n : Bool) → null_test sum n atom ≡ None) → ((sum : Sum) (n : Bool) → like_test sum n atom ≡ None) → is_some (after_atom phase atom) ≡ takes_atom phase
plain_some phases.Unit atom no_null no_like = refl
plain_some (phases.Factor side p) atom no_null no_like = refl
plain_some (phases.Operated side p) atom no_null no_like = refl
plain_some (phases.Is sum) atom no_null no_like = ap is_some (no_null sum false)
plain_some (phases.IsNot sum) atom no_null no_like = ap is_some (no_null sum true)
plain_some (phases.NotLike sum) atom no_null no_like = refl
plain_some (phases.Like sum n) atom no_null no_like = ap is_some (no_like sum n)
plain_some (phases.Done unit) atom no_null no_like = refl

text_some : (phase : Phase) (text : List ℕ) → is_some (after_atom phase (atoms.Text text)) ≡ takes_text phase
text_some phases.Unit text = refl
text_some (phases.Factor side p) text = refl
text_some (phases.Operated side p) text = refl
text_some (phases.Is sum) text = refl
text_some (phases.IsNot sum) text = refl
text_some (phases.NotLike sum) text = refl
text_some (phases.Like sum n) text = refl
text_some (phases.Done unit) text = refl

null_some : (phase : Phase) → is_some (after_atom phase atoms.Null) ≡ (takes_atom phase || is_is phase || is_is_not phase)
null_some phases.Unit = refl
null_some (phases.Factor side p) = refl
null_some (phases.Operated side p) = refl
null_some (phases.Is sum) = refl
null_some (phases.IsNot sum) = refl
null_some (phases.NotLike sum) = refl
null_some (phases.Like sum n) = refl
null_some (phases.Done unit) = refl

sign_some : (phase : Phase) (minus : Bool) → is_some (after_sign phase minus) ≡ takes_sign phase
sign_some phases.Unit minus = refl
sign_some (phases.Factor side p) minus = refl
sign_some (phases.Operated side p) minus = refl
sign_some (phases.Is sum) minus = refl
sign_some (phases.IsNot sum) minus = refl
sign_some (phases.NotLike sum) minus = refl
sign_some (phases.Like sum n) minus = refl
sign_some (phases.Done unit) minus = refl

times_some : (phase : Phase) → is_some (after_times phase) ≡ takes_sign phase
times_some phases.Unit = refl
times_some (phases.Factor side p) = refl
times_some (phases.Operated side p) = refl
times_some (phases.Is sum) = refl
times_some (phases.IsNot sum) = refl
times_some (phases.NotLike sum) = refl
times_some (phases.Like sum n) = refl
times_some (phases.Done unit) = refl

comparison_some : (phase : Phase) (how : Cmp) → is_some (after_comparison phase how) ≡ takes_test phase
comparison_some phases.Unit how = refl
comparison_some (phases.Factor side p) how = refl
comparison_some (phases.Operated sides.Left p) how = refl
comparison_some (phases.Operated (sides.Right left sign) p) how = refl
comparison_some (phases.Is sum) how = refl
comparison_some (phases.IsNot sum) how = refl
comparison_some (phases.NotLike sum) how = refl
comparison_some (phases.Like sum n) how = refl
comparison_some (phases.Done unit) how = refl

is_some_is : (phase : Phase) → is_some (after_is phase) ≡ takes_test phase
is_some_is phases.Unit = refl
is_some_is (phases.Factor side p) = refl
is_some_is (phases.Operated sides.Left p) = refl
is_some_is (phases.Operated (sides.Right left how) p) = refl
is_some_is (phases.Is sum) = refl
is_some_is (phases.IsNot sum) = refl
is_some_is (phases.NotLike sum) = refl
is_some_is (phases.Like sum n) = refl
is_some_is (phases.Done unit) = refl

like_some : (phase : Phase) → is_some (after_like phase) ≡ (takes_test phase || is_not_like phase)
like_some phases.Unit = refl
like_some (phases.Factor side p) = refl
like_some (phases.Operated sides.Left p) = refl
like_some (phases.Operated (sides.Right left how) p) = refl
like_some (phases.Is sum) = refl
like_some (phases.IsNot sum) = refl
like_some (phases.NotLike sum) = refl
like_some (phases.Like sum n) = refl
like_some (phases.Done unit) = refl

end_some : {X Y : Type 0} (f : Cond → X) (g : X → Y) (phase : Phase) → is_some (option_map g (option_map f (read_unit phase))) ≡ takes_end phase
end_some f g phases.Unit = refl
end_some f g (phases.Factor side p) = refl
end_some f g (phases.Operated sides.Left p) = refl
end_some f g (phases.Operated (sides.Right left how) p) = refl
end_some f g (phases.Is sum) = refl
end_some f g (phases.IsNot sum) = refl
end_some f g (phases.NotLike sum) = refl
end_some f g (phases.Like sum n) = refl
end_some f g (phases.Done unit) = refl

some_under : (b : Bool) (s : Outline) → is_some (cond b (Some s) None) ≡ b
some_under true s = refl
some_under false s = refl

or_nothing : (b : Bool) → b ≡ (b || false || false)
or_nothing true = refl
or_nothing false = refl

not_some : (s : Outline) (phase : Phase) → is_some (cond (is_unit phase) (deeper s) (option_map (with_phase s) (after_not_inside phase))) ≡ ((is_unit phase && has_room s) || takes_test phase || is_is phase)
not_some s phases.Unit = some_under (has_room s) _ ∙ or_nothing (has_room s)
not_some s (phases.Factor side p) = refl
not_some s (phases.Operated sides.Left p) = refl
not_some s (phases.Operated (sides.Right left how) p) = refl
not_some s (phases.Is sum) = refl
not_some s (phases.IsNot sum) = refl
not_some s (phases.NotLike sum) = refl
not_some s (phases.Like sum n) = refl
not_some s (phases.Done unit) = refl

open_some : (s : Outline) (phase : Phase) → is_some (cond (is_unit phase) (opened s) None) ≡ (is_unit phase && has_room s)
open_some s phases.Unit = some_under (has_room s) _
open_some s (phases.Factor side p) = refl
open_some s (phases.Operated side p) = refl
open_some s (phases.Is sum) = refl
open_some s (phases.IsNot sum) = refl
open_some s (phases.NotLike sum) = refl
open_some s (phases.Like sum n) = refl
open_some s (phases.Done unit) = refl

left_some : (f : Cond → Cond) (unit : Cond) (fs : List Frame) → is_some (left (f (wrapped unit fs).0) (wrapped unit fs).1) ≡ list_any is_open fs
left_some f unit [] = refl
left_some f unit (frames.Not ∷ outer) = left_some f (roll-Cond (Not unit)) outer
left_some f unit (frames.Open alternatives parts ∷ outer) = refl

close_some : (s : Outline) (phase : Phase) → is_some (option_and_then (close_behind s) (option_map (λ (unit : Cond). wrapped unit s.frames) (read_unit phase))) ≡ (takes_end phase && list_any is_open s.frames)
close_some s phases.Unit = refl
close_some s (phases.Factor side p) = refl
close_some s (phases.Operated sides.Left p) = refl
close_some s (phases.Operated (sides.Right left how) p) = left_some (group s.alternatives s.parts) _ s.frames
close_some s (phases.Is sum) = refl
close_some s (phases.IsNot sum) = refl
close_some s (phases.NotLike sum) = refl
close_some s (phases.Like sum n) = refl
close_some s (phases.Done unit) = left_some (group s.alternatives s.parts) unit s.frames

-- each token

pub number_may : (s : Outline) (z : ℤ) → told.may_come (outline_of s) (grammar.Operand (atoms.Number z)) ≡ takes_atom s.phase
number_may s z = may_same s (grammar.Operand (atoms.Number z)) ∙ some_inside s (after_atom s.phase (atoms.Number z)) ∙ plain_some s.phase (atoms.Number z) (λ sum n. refl) (λ sum n. refl)

pub text_may : (s : Outline) (text : List ℕ) → told.may_come (outline_of s) (grammar.Operand (atoms.Text text)) ≡ takes_text s.phase
text_may s text = may_same s (grammar.Operand (atoms.Text text)) ∙ some_inside s (after_atom s.phase (atoms.Text text)) ∙ text_some s.phase text

pub null_may : (s : Outline) → told.may_come (outline_of s) (grammar.Operand atoms.Null) ≡ (takes_atom s.phase || is_is s.phase || is_is_not s.phase)
null_may s = may_same s (grammar.Operand atoms.Null) ∙ some_inside s (after_atom s.phase atoms.Null) ∙ null_some s.phase

pub priority_may : (s : Outline) → told.may_come (outline_of s) (grammar.Operand atoms.Priority) ≡ takes_atom s.phase
priority_may s = may_same s (grammar.Operand atoms.Priority) ∙ some_inside s (after_atom s.phase atoms.Priority) ∙ plain_some s.phase atoms.Priority (λ sum n. refl) (λ sum n. refl)

pub corr_may : (s : Outline) → told.may_come (outline_of s) (grammar.Operand atoms.Corr) ≡ takes_atom s.phase
corr_may s = may_same s (grammar.Operand atoms.Corr) ∙ some_inside s (after_atom s.phase atoms.Corr) ∙ plain_some s.phase atoms.Corr (λ sum n. refl) (λ sum n. refl)

pub cell_may : (s : Outline) (name : List ℕ) → told.may_come (outline_of s) (grammar.Operand (atoms.Cell name)) ≡ takes_atom s.phase
cell_may s name = may_same s (grammar.Operand (atoms.Cell name)) ∙ some_inside s (after_atom s.phase (atoms.Cell name)) ∙ plain_some s.phase (atoms.Cell name) (λ sum n. refl) (λ sum n. refl)

pub prop_may : (s : Outline) (name : List ℕ) → told.may_come (outline_of s) (grammar.Operand (atoms.Prop name)) ≡ takes_atom s.phase
prop_may s name = may_same s (grammar.Operand (atoms.Prop name)) ∙ some_inside s (after_atom s.phase (atoms.Prop name)) ∙ plain_some s.phase (atoms.Prop name) (λ sum n. refl) (λ sum n. refl)

pub plus_may : (s : Outline) → told.may_come (outline_of s) grammar.Plus ≡ takes_sign s.phase
plus_may s = may_same s grammar.Plus ∙ some_inside s (after_sign s.phase false) ∙ sign_some s.phase false

pub minus_may : (s : Outline) → told.may_come (outline_of s) grammar.Minus ≡ takes_sign s.phase
minus_may s = may_same s grammar.Minus ∙ some_inside s (after_sign s.phase true) ∙ sign_some s.phase true

pub times_may : (s : Outline) → told.may_come (outline_of s) grammar.Times ≡ takes_sign s.phase
times_may s = may_same s grammar.Times ∙ some_inside s (after_times s.phase) ∙ times_some s.phase

pub comparison_may : (s : Outline) (how : Cmp) → told.may_come (outline_of s) (grammar.Compared how) ≡ takes_test s.phase
comparison_may s how = may_same s (grammar.Compared how) ∙ some_inside s (after_comparison s.phase how) ∙ comparison_some s.phase how

pub is_may : (s : Outline) → told.may_come (outline_of s) grammar.IsWord ≡ takes_test s.phase
is_may s = may_same s grammar.IsWord ∙ some_inside s (after_is s.phase) ∙ is_some_is s.phase

pub like_may : (s : Outline) → told.may_come (outline_of s) grammar.LikeWord ≡ (takes_test s.phase || is_not_like s.phase)
like_may s = may_same s grammar.LikeWord ∙ some_inside s (after_like s.phase) ∙ like_some s.phase

pub or_may : (s : Outline) → told.may_come (outline_of s) grammar.OrWord ≡ takes_end s.phase
or_may s = may_same s grammar.OrWord ∙ end_some _ _ s.phase

pub and_may : (s : Outline) → told.may_come (outline_of s) grammar.AndWord ≡ takes_end s.phase
and_may s = may_same s grammar.AndWord ∙ end_some _ _ s.phase

pub not_may : (s : Outline) → told.may_come (outline_of s) grammar.NotWord ≡ (takes_open s || takes_test s.phase || is_is s.phase)
not_may s = may_same s grammar.NotWord ∙ not_some s s.phase

pub open_may : (s : Outline) → told.may_come (outline_of s) grammar.Open ≡ takes_open s
open_may s = may_same s grammar.Open ∙ open_some s s.phase

pub close_may : (s : Outline) → told.may_come (outline_of s) grammar.Close ≡ takes_close s
close_may s = may_same s grammar.Close ∙ close_some s s.phase
