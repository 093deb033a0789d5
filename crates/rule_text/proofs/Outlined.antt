-- The outline that the code keeps is one of the definitions, and grows as it does.
use Rattle.std.proofs.Common.{◌≡◌, ℕ, List, [], ◌∷◌, map, length, Bool, true, false, cond, Option, Some, None, option_map, option_and_then, is_some, nat_lt, refl, ◌∙◌, ap}
use Rattle.std.proofs.lemmas.List.{length-map}
use Rattle.rule_conditions.specs.Outline as told
use Rattle.rule_conditions.specs.Outline.{group}
use Rattle.rule_conditions.specs.Tokens as grammar
use Rattle.rule_conditions.specs.declared.TheConstants.{DEPTH_LIMIT}
use Rattle.rule_conditions.specs.declared.condition.Atom.{Atom}
use Rattle.rule_conditions.specs.declared.condition.Atom.TheVariants as atoms
use Rattle.rule_conditions.specs.declared.condition.Cmp.{Cmp}
use Rattle.rule_conditions.specs.declared.condition.Cond.{Cond, roll-Cond}
use Rattle.rule_conditions.specs.declared.condition.Cond.TheOpen.{Not}
use Rattle.rule_conditions.specs.declared.condition.Sum.{Sum}
use Rattle.rule_text.specs.Outline.{read_unit, wrapped, whole_unit, closed, null_test, like_test, after_atom, left_sum, tested_sum, after_is, after_like, after_comparison, after_sign, after_times, is_unit, has_room, deeper, opened, after_not_inside, after_not, after_open, after_and, after_or, after_close, and_behind, or_behind, close_behind, end_behind, left, with_phase, inner_step, step, ended, finish}
use Rattle.rule_text.specs.declared.outline.Outline.{Outline}
use Rattle.rule_text.specs.declared.outline.Partial.{Partial}
use Rattle.rule_text.specs.declared.outline.Frame.{Frame}
use Rattle.rule_text.specs.declared.outline.Frame.TheVariants as frames
use Rattle.rule_text.specs.declared.outline.Phase.{Phase}
use Rattle.rule_text.specs.declared.outline.Phase.TheVariants as phases
use Rattle.rule_text.specs.declared.outline.Side.{Side}
use Rattle.rule_text.specs.declared.outline.Side.TheVariants as sides

abbrev pub side_of : Side → told.Side
side_of sides.Left = told.Left
side_of (sides.Right left how) = told.Right left how

abbrev pub partial_of : Partial → told.Partial
partial_of p = record { terms = p.terms; minus = p.minus; atoms = p.atoms }

abbrev pub phase_of : Phase → told.Phase
phase_of phases.Unit = told.Empty
phase_of (phases.Factor side p) = told.Factor (side_of side) (partial_of p)
phase_of (phases.Operated side p) = told.Operated (side_of side) (partial_of p)
phase_of (phases.Is sum) = told.BehindIs sum
phase_of (phases.IsNot sum) = told.BehindIsNot sum
phase_of (phases.NotLike sum) = told.BehindNot sum
phase_of (phases.Like sum n) = told.BehindLike sum n
phase_of (phases.Done unit) = told.Done unit

abbrev pub frame_of : Frame → told.Frame
frame_of frames.Not = told.Negation
frame_of (frames.Open alternatives parts) = told.Parenthesis alternatives parts

abbrev pub outline_of : Outline → told.Outline
outline_of s = record { alternatives = s.alternatives; parts = s.parts; frames = map frame_of s.frames; phase = phase_of s.phase }

-- a unit and what it stands in
abbrev lifted : Cond × List Frame → Cond × List told.Frame
lifted w = (w.0, map frame_of w.1)

-- units

unit_same : (phase : Phase) → told.read_unit (phase_of phase) ≡ read_unit phase
unit_same phases.Unit = refl
unit_same (phases.Factor side p) = refl
unit_same (phases.Operated sides.Left p) = refl
unit_same (phases.Operated (sides.Right left how) p) = refl
unit_same (phases.Is sum) = refl
unit_same (phases.IsNot sum) = refl
unit_same (phases.NotLike sum) = refl
unit_same (phases.Like sum n) = refl
unit_same (phases.Done unit) = refl

wrapped_same : (unit : Cond) (fs : List Frame) → told.wrapped unit (map frame_of fs) ≡ lifted (wrapped unit fs)
wrapped_same unit [] = refl
wrapped_same unit (frames.Not ∷ outer) = wrapped_same (roll-Cond (Not unit)) outer
wrapped_same unit (frames.Open alternatives parts ∷ outer) = refl

all_wrapped : (fs : List Frame) (o : Option Cond) → option_map (λ (unit : Cond). told.wrapped unit (map frame_of fs)) o ≡ option_map lifted (option_map (λ (unit : Cond). wrapped unit fs) o)
all_wrapped fs None = refl
all_wrapped fs (Some unit) = ap Some (wrapped_same unit fs)

whole_same : (s : Outline) → told.whole_unit (outline_of s) ≡ option_map lifted (whole_unit s)
whole_same s = ap (option_map (λ (unit : Cond). told.wrapped unit (map frame_of s.frames))) (unit_same s.phase) ∙ all_wrapped s.frames (read_unit s.phase)

-- tokens inside a unit

null_same : (sum : Sum) (n : Bool) (atom : Atom) → told.null_test sum n atom ≡ option_map phase_of (null_test sum n atom)
null_same sum n (atoms.Number z) = refl
null_same sum n (atoms.Text text) = refl
null_same sum n atoms.Null = refl
null_same sum n atoms.Priority = refl
null_same sum n atoms.Corr = refl
null_same sum n (atoms.Cell name) = refl
null_same sum n (atoms.Prop name) = refl

like_same : (sum : Sum) (n : Bool) (atom : Atom) → told.like_test sum n atom ≡ option_map phase_of (like_test sum n atom)
like_same sum n (atoms.Number z) = refl
like_same sum n (atoms.Text text) = refl
like_same sum n atoms.Null = refl
like_same sum n atoms.Priority = refl
like_same sum n atoms.Corr = refl
like_same sum n (atoms.Cell name) = refl
like_same sum n (atoms.Prop name) = refl

atom_same : (phase : Phase) (atom : Atom) → told.after_atom (phase_of phase) atom ≡ option_map phase_of (after_atom phase atom)
atom_same phases.Unit atom = refl
atom_same (phases.Factor side p) atom = refl
atom_same (phases.Operated side p) atom = refl
atom_same (phases.Is sum) atom = null_same sum false atom
atom_same (phases.IsNot sum) atom = null_same sum true atom
atom_same (phases.NotLike sum) atom = refl
atom_same (phases.Like sum n) atom = like_same sum n atom
atom_same (phases.Done unit) atom = refl

is_same : (phase : Phase) → told.after_is (phase_of phase) ≡ option_map phase_of (after_is phase)
is_same phases.Unit = refl
is_same (phases.Factor side p) = refl
is_same (phases.Operated sides.Left p) = refl
is_same (phases.Operated (sides.Right left how) p) = refl
is_same (phases.Is sum) = refl
is_same (phases.IsNot sum) = refl
is_same (phases.NotLike sum) = refl
is_same (phases.Like sum n) = refl
is_same (phases.Done unit) = refl

likes_same : (phase : Phase) → told.after_like (phase_of phase) ≡ option_map phase_of (after_like phase)
likes_same phases.Unit = refl
likes_same (phases.Factor side p) = refl
likes_same (phases.Operated sides.Left p) = refl
likes_same (phases.Operated (sides.Right left how) p) = refl
likes_same (phases.Is sum) = refl
likes_same (phases.IsNot sum) = refl
likes_same (phases.NotLike sum) = refl
likes_same (phases.Like sum n) = refl
likes_same (phases.Done unit) = refl

comparison_same : (phase : Phase) (how : Cmp) → told.after_comparison (phase_of phase) how ≡ option_map phase_of (after_comparison phase how)
comparison_same phases.Unit how = refl
comparison_same (phases.Factor side p) how = refl
comparison_same (phases.Operated sides.Left p) how = refl
comparison_same (phases.Operated (sides.Right left sign) p) how = refl
comparison_same (phases.Is sum) how = refl
comparison_same (phases.IsNot sum) how = refl
comparison_same (phases.NotLike sum) how = refl
comparison_same (phases.Like sum n) how = refl
comparison_same (phases.Done unit) how = refl

sign_same : (phase : Phase) (minus : Bool) → told.after_sign (phase_of phase) minus ≡ option_map phase_of (after_sign phase minus)
sign_same phases.Unit minus = refl
sign_same (phases.Factor side p) minus = refl
sign_same (phases.Operated side p) minus = refl
sign_same (phases.Is sum) minus = refl
sign_same (phases.IsNot sum) minus = refl
sign_same (phases.NotLike sum) minus = refl
sign_same (phases.Like sum n) minus = refl
sign_same (phases.Done unit) minus = refl

times_same : (phase : Phase) → told.after_times (phase_of phase) ≡ option_map phase_of (after_times phase)
times_same phases.Unit = refl
times_same (phases.Factor side p) = refl
times_same (phases.Operated side p) = refl
times_same (phases.Is sum) = refl
times_same (phases.IsNot sum) = refl
times_same (phases.NotLike sum) = refl
times_same (phases.Like sum n) = refl
times_same (phases.Done unit) = refl

inside_same : (s : Outline) (t : Option told.Phase) (o : Option Phase) → t ≡ option_map phase_of o → told.inside (outline_of s) t ≡ option_map outline_of (option_map (with_phase s) o)
inside_same s t None e = ap (told.inside (outline_of s)) e
inside_same s t (Some phase) e = ap (told.inside (outline_of s)) e

-- tokens between units

or_same : (s : Outline) (o : Option (Cond × List Frame)) → option_map (told.or_behind (outline_of s)) (option_map lifted o) ≡ option_map outline_of (option_map (or_behind s) o)
or_same s None = refl
or_same s (Some w) = refl

and_same : (s : Outline) (o : Option (Cond × List Frame)) → option_map (told.and_behind (outline_of s)) (option_map lifted o) ≡ option_map outline_of (option_map (and_behind s) o)
and_same s None = refl
and_same s (Some w) = refl

left_same : (unit : Cond) (fs : List Frame) → told.left_group unit (map frame_of fs) ≡ option_map outline_of (left unit fs)
left_same unit [] = refl
left_same unit (frames.Not ∷ outer) = refl
left_same unit (frames.Open alternatives parts ∷ outer) = refl

close_same : (s : Outline) (o : Option (Cond × List Frame)) → option_and_then (told.close_behind (outline_of s)) (option_map lifted o) ≡ option_map outline_of (option_and_then (close_behind s) o)
close_same s None = refl
close_same s (Some w) = left_same (group s.alternatives s.parts w.0) w.1

end_same : (unit : Cond) (fs : List Frame) → told.outermost unit (map frame_of fs) ≡ ended unit fs
end_same unit [] = refl
end_same unit (frame ∷ outer) = refl

ends_same : (s : Outline) (o : Option (Cond × List Frame)) → option_and_then (told.end_behind (outline_of s)) (option_map lifted o) ≡ option_and_then (end_behind s) o
ends_same s None = refl
ends_same s (Some w) = end_same (group s.alternatives s.parts w.0) w.1

under : (b c : Bool) (new : told.Outline) (old : Outline) → b ≡ c → new ≡ outline_of old → cond b (Some new) None ≡ option_map outline_of (cond c (Some old) None)
under b true new old e same = ap {B = Option told.Outline} (λ x. cond x (Some new) None) e ∙ ap Some same
under b false new old e same = ap {B = Option told.Outline} (λ x. cond x (Some new) None) e

room_same : (s : Outline) → nat_lt (length (map frame_of s.frames)) DEPTH_LIMIT ≡ has_room s
room_same s = ap (λ n. nat_lt n DEPTH_LIMIT) (length-map s.frames frame_of)

not_same : (s : Outline) (phase : Phase) → told.after_not (outline_of s) (phase_of phase) ≡ option_map outline_of (cond (is_unit phase) (deeper s) (option_map (with_phase s) (after_not_inside phase)))
not_same s phases.Unit = under _ _ _ _ (room_same s) refl
not_same s (phases.Factor side p) = refl
not_same s (phases.Operated sides.Left p) = refl
not_same s (phases.Operated (sides.Right left how) p) = refl
not_same s (phases.Is sum) = refl
not_same s (phases.IsNot sum) = refl
not_same s (phases.NotLike sum) = refl
not_same s (phases.Like sum n) = refl
not_same s (phases.Done unit) = refl

open_same : (s : Outline) (phase : Phase) → told.after_open (outline_of s) (phase_of phase) ≡ option_map outline_of (cond (is_unit phase) (opened s) None)
open_same s phases.Unit = under _ _ _ _ (room_same s) refl
open_same s (phases.Factor side p) = refl
open_same s (phases.Operated side p) = refl
open_same s (phases.Is sum) = refl
open_same s (phases.IsNot sum) = refl
open_same s (phases.NotLike sum) = refl
open_same s (phases.Like sum n) = refl
open_same s (phases.Done unit) = refl

-- with one more token they still agree
pub step_same : (s : Outline) (token : grammar.Token) → told.step (outline_of s) token ≡ option_map outline_of (step s token)
step_same s grammar.OrWord = ap (option_map (told.or_behind (outline_of s))) (whole_same s) ∙ or_same s (whole_unit s)
step_same s grammar.AndWord = ap (option_map (told.and_behind (outline_of s))) (whole_same s) ∙ and_same s (whole_unit s)
step_same s grammar.NotWord = not_same s s.phase
step_same s grammar.IsWord = inside_same s _ (after_is s.phase) (is_same s.phase)
step_same s grammar.LikeWord = inside_same s _ (after_like s.phase) (likes_same s.phase)
step_same s (grammar.Operand atom) = inside_same s _ (after_atom s.phase atom) (atom_same s.phase atom)
step_same s (grammar.Compared how) = inside_same s _ (after_comparison s.phase how) (comparison_same s.phase how)
step_same s grammar.Plus = inside_same s _ (after_sign s.phase false) (sign_same s.phase false)
step_same s grammar.Minus = inside_same s _ (after_sign s.phase true) (sign_same s.phase true)
step_same s grammar.Times = inside_same s _ (after_times s.phase) (times_same s.phase)
step_same s grammar.Open = open_same s s.phase
step_same s grammar.Close = ap (option_and_then (told.close_behind (outline_of s))) (whole_same s) ∙ close_same s (whole_unit s)

pub finish_same : (s : Outline) → told.finish (outline_of s) ≡ finish s
finish_same s = ap (option_and_then (told.end_behind (outline_of s))) (whole_same s) ∙ ends_same s (whole_unit s)

still_some : (o : Option Outline) → is_some (option_map outline_of o) ≡ is_some o
still_some None = refl
still_some (Some s) = refl

-- a token may come where there is a step by it
pub may_same : (s : Outline) (token : grammar.Token) → told.may_come (outline_of s) token ≡ is_some (step s token)
may_same s token = ap is_some (step_same s token) ∙ still_some (step s token)
