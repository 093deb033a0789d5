-- How an outline of a condition grows by a token.
use Rattle.std.specs.Prelude.{nat_lt, ◌&&◌, ◌||◌, List, [], ◌∷◌, ◌++◌, length, Bool, true, false, not, Option, Some, None, option_map, option_and_then, if◌then◌else◌}
use Rattle.std.specs.List.{list_any}
use Rattle.rule_conditions.specs.Outline.{all_together, group}
use Rattle.rule_conditions.specs.Tokens as grammar
use Rattle.rule_conditions.specs.declared.TheConstants.{DEPTH_LIMIT}
use Rattle.rule_conditions.specs.declared.condition.Atom.{Atom}
use Rattle.rule_conditions.specs.declared.condition.Atom.TheVariants as atoms
use Rattle.rule_conditions.specs.declared.condition.Cmp.{Cmp}
use Rattle.rule_conditions.specs.declared.condition.Cond.{Cond, roll-Cond}
use Rattle.rule_conditions.specs.declared.condition.Cond.TheOpen.{Any, All, Not, Compare, IsNull, Like}
use Rattle.rule_conditions.specs.declared.condition.Sum.{Sum}
use Rattle.rule_text.specs.declared.outline.Outline.{Outline}
use Rattle.rule_text.specs.declared.outline.Partial.{Partial}
use Rattle.rule_text.specs.declared.outline.Frame.{Frame}
use Rattle.rule_text.specs.declared.outline.Frame.TheVariants as frames
use Rattle.rule_text.specs.declared.outline.Phase.{Phase}
use Rattle.rule_text.specs.declared.outline.Phase.TheVariants as phases
use Rattle.rule_text.specs.declared.outline.Side.{Side}
use Rattle.rule_text.specs.declared.outline.Side.TheVariants as sides
use Rattle.rule_text.specs.declared.tokens.Word.{Word}
use Rattle.rule_text.specs.declared.tokens.Word.TheVariants as words
use Rattle.rule_text.specs.declared.tokens.Token.{Token}
use Rattle.rule_text.specs.declared.tokens.Token.TheVariants as tokens

-- a token of the code as one of the grammar
abbrev pub meant : Token → grammar.Token
meant tokens.Or = grammar.OrWord
meant tokens.And = grammar.AndWord
meant tokens.Not = grammar.NotWord
meant tokens.Is = grammar.IsWord
meant tokens.Like = grammar.LikeWord
meant (tokens.Operand atom) = grammar.Operand atom
meant (tokens.Compared how) = grammar.Compared how
meant tokens.Plus = grammar.Plus
meant tokens.Minus = grammar.Minus
meant tokens.Times = grammar.Times
meant tokens.Open = grammar.Open
meant tokens.Close = grammar.Close

abbrev pub closed : Partial → Sum
closed p = record { terms = p.terms ++ record { minus = p.minus; product = record { atoms = p.atoms } } ∷ [] }

-- the unit, where it may end here
abbrev pub read_unit : Phase → Option Cond
read_unit phases.Unit = None
read_unit (phases.Factor side p) = None
read_unit (phases.Operated sides.Left p) = None
read_unit (phases.Operated (sides.Right left how) p) = Some (roll-Cond (Compare left how (closed p)))
read_unit (phases.Is sum) = None
read_unit (phases.IsNot sum) = None
read_unit (phases.NotLike sum) = None
read_unit (phases.Like sum negated) = None
read_unit (phases.Done unit) = Some unit

-- a unit with the NOT directly before it, and what these stand in
abbrev pub wrapped : Cond → List Frame → Cond × List Frame
wrapped unit [] = (unit, [])
wrapped unit (frames.Not ∷ outer) = wrapped (roll-Cond (Not unit)) outer
wrapped unit (frames.Open alternatives parts ∷ outer) = (unit, frames.Open alternatives parts ∷ outer)

abbrev pub is_open : Frame → Bool
is_open frames.Not = false
is_open (frames.Open alternatives parts) = true

-- the unit that may end here with the NOT before it, and what these stand in
abbrev pub whole_unit : Outline → Option (Cond × List Frame)
whole_unit s = option_map (λ unit. wrapped unit s.frames) (read_unit s.phase)

abbrev pub with_phase : Outline → Phase → Outline
with_phase s phase = record { alternatives = s.alternatives; parts = s.parts; frames = s.frames; phase = phase }

abbrev pub no_partial : Partial
no_partial = record { terms = []; minus = false; atoms = [] }

abbrev pub with_atom : Partial → Atom → Partial
with_atom p atom = record { terms = p.terms; minus = p.minus; atoms = p.atoms ++ atom ∷ [] }

abbrev pub with_sign : Partial → Bool → Partial
with_sign p minus = record { terms = (closed p).terms; minus = minus; atoms = [] }

-- behind IS or IS NOT
abbrev pub null_test : Sum → Bool → Atom → Option Phase
null_test sum negated (atoms.Number z) = None
null_test sum negated (atoms.Text text) = None
null_test sum negated atoms.Null = Some (phases.Done (roll-Cond (IsNull sum negated)))
null_test sum negated atoms.Priority = None
null_test sum negated atoms.Corr = None
null_test sum negated (atoms.Cell name) = None
null_test sum negated (atoms.Prop name) = None

-- behind LIKE or NOT LIKE
abbrev pub like_test : Sum → Bool → Atom → Option Phase
like_test sum negated (atoms.Number z) = None
like_test sum negated (atoms.Text text) = Some (phases.Done (roll-Cond (Like sum text negated)))
like_test sum negated atoms.Null = None
like_test sum negated atoms.Priority = None
like_test sum negated atoms.Corr = None
like_test sum negated (atoms.Cell name) = None
like_test sum negated (atoms.Prop name) = None

abbrev pub after_atom : Phase → Atom → Option Phase
after_atom phases.Unit atom = Some (phases.Operated sides.Left (with_atom no_partial atom))
after_atom (phases.Factor side p) atom = Some (phases.Operated side (with_atom p atom))
after_atom (phases.Operated side p) atom = None
after_atom (phases.Is sum) atom = null_test sum false atom
after_atom (phases.IsNot sum) atom = null_test sum true atom
after_atom (phases.NotLike sum) atom = None
after_atom (phases.Like sum negated) atom = like_test sum negated atom
after_atom (phases.Done unit) atom = None

-- a sum that may stand before a test
abbrev pub left_sum : Side → Partial → Option Sum
left_sum sides.Left p = Some (closed p)
left_sum (sides.Right left how) p = None

abbrev pub tested_sum : Phase → Option Sum
tested_sum phases.Unit = None
tested_sum (phases.Factor side p) = None
tested_sum (phases.Operated side p) = left_sum side p
tested_sum (phases.Is sum) = None
tested_sum (phases.IsNot sum) = None
tested_sum (phases.NotLike sum) = None
tested_sum (phases.Like sum negated) = None
tested_sum (phases.Done unit) = None

abbrev pub after_is : Phase → Option Phase
after_is phase = option_map (λ sum. phases.Is sum) (tested_sum phase)

abbrev pub after_like : Phase → Option Phase
after_like phases.Unit = None
after_like (phases.Factor side p) = None
after_like (phases.Operated side p) = option_map (λ sum. phases.Like sum false) (left_sum side p)
after_like (phases.Is sum) = None
after_like (phases.IsNot sum) = None
after_like (phases.NotLike sum) = Some (phases.Like sum true)
after_like (phases.Like sum negated) = None
after_like (phases.Done unit) = None

abbrev pub after_comparison : Phase → Cmp → Option Phase
after_comparison phase how = option_map (λ sum. phases.Factor (sides.Right sum how) no_partial) (tested_sum phase)

abbrev pub after_sign : Phase → Bool → Option Phase
after_sign phases.Unit minus = None
after_sign (phases.Factor side p) minus = None
after_sign (phases.Operated side p) minus = Some (phases.Factor side (with_sign p minus))
after_sign (phases.Is sum) minus = None
after_sign (phases.IsNot sum) minus = None
after_sign (phases.NotLike sum) minus = None
after_sign (phases.Like sum negated) minus = None
after_sign (phases.Done unit) minus = None

abbrev pub after_times : Phase → Option Phase
after_times phases.Unit = None
after_times (phases.Factor side p) = None
after_times (phases.Operated side p) = Some (phases.Factor side p)
after_times (phases.Is sum) = None
after_times (phases.IsNot sum) = None
after_times (phases.NotLike sum) = None
after_times (phases.Like sum negated) = None
after_times (phases.Done unit) = None

abbrev pub is_unit : Phase → Bool
is_unit phases.Unit = true
is_unit (phases.Factor side p) = false
is_unit (phases.Operated side p) = false
is_unit (phases.Is sum) = false
is_unit (phases.IsNot sum) = false
is_unit (phases.NotLike sum) = false
is_unit (phases.Like sum negated) = false
is_unit (phases.Done unit) = false

abbrev pub has_room : Outline → Bool
has_room s = nat_lt (length s.frames) DEPTH_LIMIT

-- NOT before a unit
abbrev pub deeper : Outline → Option Outline
deeper s = if has_room s then Some (record { alternatives = s.alternatives; parts = s.parts; frames = frames.Not ∷ s.frames; phase = phases.Unit }) else None

-- NOT inside a test
abbrev pub after_not_inside : Phase → Option Phase
after_not_inside phases.Unit = None
after_not_inside (phases.Factor side p) = None
after_not_inside (phases.Operated side p) = option_map (λ sum. phases.NotLike sum) (left_sum side p)
after_not_inside (phases.Is sum) = Some (phases.IsNot sum)
after_not_inside (phases.IsNot sum) = None
after_not_inside (phases.NotLike sum) = None
after_not_inside (phases.Like sum negated) = None
after_not_inside (phases.Done unit) = None

abbrev pub opened : Outline → Option Outline
opened s = if has_room s then Some (record { alternatives = []; parts = []; frames = frames.Open s.alternatives s.parts ∷ s.frames; phase = phases.Unit }) else None

abbrev pub after_not : Outline → Option Outline
after_not s = if is_unit s.phase then deeper s else option_map (with_phase s) (after_not_inside s.phase)

abbrev pub after_open : Outline → Option Outline
after_open s = if is_unit s.phase then opened s else None

-- behind AND, where this is the whole unit before it
abbrev pub and_behind : Outline → Cond × List Frame → Outline
and_behind s w = record { alternatives = s.alternatives; parts = s.parts ++ w.0 ∷ []; frames = w.1; phase = phases.Unit }

abbrev pub after_and : Outline → Option Outline
after_and s = option_map (and_behind s) (whole_unit s)

-- and behind OR
abbrev pub or_behind : Outline → Cond × List Frame → Outline
or_behind s w = record { alternatives = s.alternatives ++ all_together s.parts w.0 ∷ []; parts = []; frames = w.1; phase = phases.Unit }

abbrev pub after_or : Outline → Option Outline
after_or s = option_map (or_behind s) (whole_unit s)

-- behind a group in what it stands in
abbrev pub left : Cond → List Frame → Option Outline
left unit [] = None
left unit (frames.Not ∷ outer) = None
left unit (frames.Open alternatives parts ∷ outer) = Some (record { alternatives = alternatives; parts = parts; frames = outer; phase = phases.Done unit })

-- and behind a closing parenthesis
abbrev pub close_behind : Outline → Cond × List Frame → Option Outline
close_behind s w = left (group s.alternatives s.parts w.0) w.1

abbrev pub after_close : Outline → Option Outline
after_close s = option_and_then (close_behind s) (whole_unit s)

-- what a token changes of the unit alone
abbrev pub phase_after : Phase → grammar.Token → Option Phase
phase_after phase grammar.OrWord = None
phase_after phase grammar.AndWord = None
phase_after phase grammar.NotWord = None
phase_after phase grammar.IsWord = after_is phase
phase_after phase grammar.LikeWord = after_like phase
phase_after phase (grammar.Operand atom) = after_atom phase atom
phase_after phase (grammar.Compared how) = after_comparison phase how
phase_after phase grammar.Plus = after_sign phase false
phase_after phase grammar.Minus = after_sign phase true
phase_after phase grammar.Times = after_times phase
phase_after phase grammar.Open = None
phase_after phase grammar.Close = None

abbrev pub inner_step : Outline → grammar.Token → Option Outline
inner_step s token = option_map (with_phase s) (phase_after s.phase token)

-- the outline after one more token, and None where the token may not come
abbrev pub step : Outline → grammar.Token → Option Outline
step s grammar.OrWord = after_or s
step s grammar.AndWord = after_and s
step s grammar.NotWord = after_not s
step s grammar.IsWord = inner_step s grammar.IsWord
step s grammar.LikeWord = inner_step s grammar.LikeWord
step s (grammar.Operand atom) = inner_step s (grammar.Operand atom)
step s (grammar.Compared how) = inner_step s (grammar.Compared how)
step s grammar.Plus = inner_step s grammar.Plus
step s grammar.Minus = inner_step s grammar.Minus
step s grammar.Times = inner_step s grammar.Times
step s grammar.Open = after_open s
step s grammar.Close = after_close s

-- the condition, where it may end
abbrev pub ended : Cond → List Frame → Option Cond
ended condition [] = Some condition
ended condition (frame ∷ outer) = None

-- the condition, where this is its last whole unit
abbrev pub end_behind : Outline → Cond × List Frame → Option Cond
end_behind s w = ended (group s.alternatives s.parts w.0) w.1

abbrev pub finish : Outline → Option Cond
finish s = option_and_then (end_behind s) (whole_unit s)

abbrev pub start : Outline
start = record { alternatives = []; parts = []; frames = []; phase = phases.Unit }

-- an atom may come, be it none but a text or NULL behind LIKE or IS
abbrev pub takes_atom : Phase → Bool
takes_atom phases.Unit = true
takes_atom (phases.Factor side p) = true
takes_atom (phases.Operated side p) = false
takes_atom (phases.Is sum) = false
takes_atom (phases.IsNot sum) = false
takes_atom (phases.NotLike sum) = false
takes_atom (phases.Like sum negated) = false
takes_atom (phases.Done unit) = false

abbrev pub takes_text : Phase → Bool
takes_text phases.Unit = true
takes_text (phases.Factor side p) = true
takes_text (phases.Operated side p) = false
takes_text (phases.Is sum) = false
takes_text (phases.IsNot sum) = false
takes_text (phases.NotLike sum) = false
takes_text (phases.Like sum negated) = true
takes_text (phases.Done unit) = false

-- `+`, `-` or `*`
abbrev pub takes_sign : Phase → Bool
takes_sign phases.Unit = false
takes_sign (phases.Factor side p) = false
takes_sign (phases.Operated side p) = true
takes_sign (phases.Is sum) = false
takes_sign (phases.IsNot sum) = false
takes_sign (phases.NotLike sum) = false
takes_sign (phases.Like sum negated) = false
takes_sign (phases.Done unit) = false

abbrev pub is_left : Side → Bool
is_left sides.Left = true
is_left (sides.Right left how) = false

-- what makes a test of a sum
abbrev pub takes_test : Phase → Bool
takes_test phases.Unit = false
takes_test (phases.Factor side p) = false
takes_test (phases.Operated side p) = is_left side
takes_test (phases.Is sum) = false
takes_test (phases.IsNot sum) = false
takes_test (phases.NotLike sum) = false
takes_test (phases.Like sum negated) = false
takes_test (phases.Done unit) = false

-- the unit may end
abbrev pub takes_end : Phase → Bool
takes_end phases.Unit = false
takes_end (phases.Factor side p) = false
takes_end (phases.Operated side p) = not (is_left side)
takes_end (phases.Is sum) = false
takes_end (phases.IsNot sum) = false
takes_end (phases.NotLike sum) = false
takes_end (phases.Like sum negated) = false
takes_end (phases.Done unit) = true

abbrev pub is_is : Phase → Bool
is_is phases.Unit = false
is_is (phases.Factor side p) = false
is_is (phases.Operated side p) = false
is_is (phases.Is sum) = true
is_is (phases.IsNot sum) = false
is_is (phases.NotLike sum) = false
is_is (phases.Like sum negated) = false
is_is (phases.Done unit) = false

abbrev pub is_is_not : Phase → Bool
is_is_not phases.Unit = false
is_is_not (phases.Factor side p) = false
is_is_not (phases.Operated side p) = false
is_is_not (phases.Is sum) = false
is_is_not (phases.IsNot sum) = true
is_is_not (phases.NotLike sum) = false
is_is_not (phases.Like sum negated) = false
is_is_not (phases.Done unit) = false

abbrev pub is_not_like : Phase → Bool
is_not_like phases.Unit = false
is_not_like (phases.Factor side p) = false
is_not_like (phases.Operated side p) = false
is_not_like (phases.Is sum) = false
is_not_like (phases.IsNot sum) = false
is_not_like (phases.NotLike sum) = true
is_not_like (phases.Like sum negated) = false
is_not_like (phases.Done unit) = false

-- a parenthesis or a NOT may come where a unit is expected
abbrev pub takes_open : Outline → Bool
takes_open s = is_unit s.phase && has_room s

abbrev pub takes_close : Outline → Bool
takes_close s = takes_end s.phase && list_any is_open s.frames

abbrev pub takes_word : Outline → Word → Bool
takes_word s words.Or = takes_end s.phase
takes_word s words.And = takes_end s.phase
takes_word s words.Not = takes_open s || takes_test s.phase || is_is s.phase
takes_word s words.Is = takes_test s.phase
takes_word s words.Like = takes_test s.phase || is_not_like s.phase
takes_word s words.Null = takes_atom s.phase || is_is s.phase || is_is_not s.phase
takes_word s words.Priority = takes_atom s.phase
takes_word s words.Corr = takes_atom s.phase
takes_word s words.Cell = takes_atom s.phase
takes_word s words.Prop = takes_atom s.phase
