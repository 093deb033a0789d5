-- How far a condition is read, and how that grows by a token.
use Rattle.std.specs.Prelude.{nat_lt, List, [], ◌∷◌, ◌++◌, length, Bool, true, false, Option, Some, None, is_some, option_map, option_and_then, if◌then◌else◌}
use Rattle.rule_conditions.specs.Tokens.{Token, OrWord, AndWord, NotWord, IsWord, LikeWord, Operand, Compared, Plus, Minus, Times, Open, Close}
use Rattle.rule_conditions.specs.declared.TheConstants.{DEPTH_LIMIT}
use Rattle.rule_conditions.specs.declared.condition.Atom.{Atom}
use Rattle.rule_conditions.specs.declared.condition.Atom.TheVariants as atoms
use Rattle.rule_conditions.specs.declared.condition.Cmp.{Cmp}
use Rattle.rule_conditions.specs.declared.condition.Cond.{Cond, roll-Cond}
use Rattle.rule_conditions.specs.declared.condition.Cond.TheOpen.{Any, All, Not, Compare, IsNull, Like}
use Rattle.rule_conditions.specs.declared.condition.Sum.{Sum}
use Rattle.rule_conditions.specs.declared.condition.Term.{Term}

-- a sum that may go on: the terms before the last sign, whether the last term is subtracted, and its atoms
pub record Partial : Type 0 where
  pub terms : List Term
  pub minus : Bool
  pub atoms : List Atom

-- on which side of a comparison a sum stands: it may stand before any test, or it stands behind this sum and this sign
pub data Side : Type 0 where
  Left : Side
  Right : Sum → Cmp → Side

-- How far a unit is read: nothing of it; a sum, up to where an atom has to follow; a sum, up to an atom; a sum and IS; a sum
-- and IS NOT; a sum and NOT; a sum and LIKE, or NOT LIKE where the flag is set; all of it.
pub data Phase : Type 0 where
  Empty : Phase
  Factor : Side → Partial → Phase
  Operated : Side → Partial → Phase
  BehindIs : Sum → Phase
  BehindIsNot : Sum → Phase
  BehindNot : Sum → Phase
  BehindLike : Sum → Bool → Phase
  Done : Cond → Phase

-- what a unit stands in: behind NOT, or in parentheses behind these operands of OR and these of AND
pub data Frame : Type 0 where
  Negation : Frame
  Parenthesis : List Cond → List Cond → Frame

-- what is read of a condition: the operands of OR and of AND before the unit, in the innermost open parentheses; what the
-- unit stands in, the innermost first; and how far it is read
pub record Outline : Type 0 where
  pub alternatives : List Cond
  pub parts : List Cond
  pub frames : List Frame
  pub phase : Phase

abbrev pub start : Outline
start = record { alternatives = []; parts = []; frames = []; phase = Empty }

abbrev pub with_phase : Outline → Phase → Outline
with_phase s phase = record s { phase = phase }

-- ---- sums

abbrev pub no_partial : Partial
no_partial = record { terms = []; minus = false; atoms = [] }

abbrev pub with_atom : Partial → Atom → Partial
with_atom p atom = record p { atoms = p.atoms ++ atom ∷ [] }

abbrev pub closed : Partial → Sum
closed p = record { terms = p.terms ++ record { minus = p.minus; product = record { atoms = p.atoms } } ∷ [] }

abbrev pub with_sign : Partial → Bool → Partial
with_sign p minus = record { terms = (closed p).terms; minus = minus; atoms = [] }

-- ---- tests

-- behind IS or IS NOT only NULL
abbrev pub null_test : Sum → Bool → Atom → Option Phase
null_test sum negated atoms.Null = Some (Done (roll-Cond (IsNull sum negated)))
null_test sum negated _ = None

-- behind LIKE or NOT LIKE only a text
abbrev pub like_test : Sum → Bool → Atom → Option Phase
like_test sum negated (atoms.Text text) = Some (Done (roll-Cond (Like sum text negated)))
like_test sum negated _ = None

abbrev pub after_atom : Phase → Atom → Option Phase
after_atom Empty atom = Some (Operated Left (with_atom no_partial atom))
after_atom (Factor side p) atom = Some (Operated side (with_atom p atom))
after_atom (BehindIs sum) atom = null_test sum false atom
after_atom (BehindIsNot sum) atom = null_test sum true atom
after_atom (BehindLike sum negated) atom = like_test sum negated atom
after_atom _ atom = None

-- the sum that a test may follow
abbrev pub tested_sum : Phase → Option Sum
tested_sum (Operated Left p) = Some (closed p)
tested_sum _ = None

abbrev pub after_is : Phase → Option Phase
after_is phase = option_map BehindIs (tested_sum phase)

abbrev pub after_like : Phase → Option Phase
after_like (BehindNot sum) = Some (BehindLike sum true)
after_like phase = option_map (λ sum. BehindLike sum false) (tested_sum phase)

abbrev pub after_comparison : Phase → Cmp → Option Phase
after_comparison phase how = option_map (λ sum. Factor (Right sum how) no_partial) (tested_sum phase)

abbrev pub after_sign : Phase → Bool → Option Phase
after_sign (Operated side p) minus = Some (Factor side (with_sign p minus))
after_sign _ minus = None

abbrev pub after_times : Phase → Option Phase
after_times (Operated side p) = Some (Factor side p)
after_times _ = None

-- NOT inside a test
abbrev pub after_inner_not : Phase → Option Phase
after_inner_not (BehindIs sum) = Some (BehindIsNot sum)
after_inner_not phase = option_map BehindNot (tested_sum phase)

-- the unit, where it may end here
abbrev pub read_unit : Phase → Option Cond
read_unit (Operated (Right left how) p) = Some (roll-Cond (Compare left how (closed p)))
read_unit (Done unit) = Some unit
read_unit _ = None

-- ---- what units stand in

-- a unit with the NOT directly before it, and what these stand in
abbrev pub wrapped : Cond → List Frame → Cond × List Frame
wrapped unit [] = (unit, [])
wrapped unit (Negation ∷ outer) = wrapped (roll-Cond (Not unit)) outer
wrapped unit (Parenthesis alternatives parts ∷ outer) = (unit, Parenthesis alternatives parts ∷ outer)

-- the unit that may end here with the NOT before it, and what these stand in
abbrev pub whole_unit : Outline → Option (Cond × List Frame)
whole_unit s = option_map (λ unit. wrapped unit s.frames) (read_unit s.phase)

-- the last operand alone, or all of them as one list
abbrev pub together : (List Cond → Cond) → List Cond → Cond → Cond
together many [] last = last
together many (first ∷ others) last = many ((first ∷ others) ++ last ∷ [])

abbrev pub all_together : List Cond → Cond → Cond
all_together parts unit = together (λ cs. roll-Cond (All cs)) parts unit

-- what stands between parentheses, where it ends behind this unit
abbrev pub group : List Cond → List Cond → Cond → Cond
group alternatives parts unit = together (λ cs. roll-Cond (Any cs)) alternatives (all_together parts unit)

-- a NOT or a parenthesis goes one level deeper
abbrev pub deeper : Outline → Frame → List Cond → List Cond → Option Outline
deeper s frame alternatives parts =
    if nat_lt (length s.frames) DEPTH_LIMIT then Some (record { alternatives = alternatives; parts = parts; frames = frame ∷ s.frames; phase = Empty }) else None

-- behind a group in what it stands in
abbrev pub left_group : Cond → List Frame → Option Outline
left_group unit (Parenthesis alternatives parts ∷ outer) = Some (record { alternatives = alternatives; parts = parts; frames = outer; phase = Done unit })
left_group unit _ = None

-- ---- tokens

-- behind OR, where this is the whole unit before it
abbrev pub or_behind : Outline → Cond × List Frame → Outline
or_behind s w = record { alternatives = s.alternatives ++ all_together s.parts w.0 ∷ []; parts = []; frames = w.1; phase = Empty }

abbrev pub after_or : Outline → Option Outline
after_or s = option_map (or_behind s) (whole_unit s)

-- and behind AND
abbrev pub and_behind : Outline → Cond × List Frame → Outline
and_behind s w = record { alternatives = s.alternatives; parts = s.parts ++ w.0 ∷ []; frames = w.1; phase = Empty }

abbrev pub after_and : Outline → Option Outline
after_and s = option_map (and_behind s) (whole_unit s)

-- before a unit, or inside a test
abbrev pub after_not : Outline → Phase → Option Outline
after_not s Empty = deeper s Negation s.alternatives s.parts
after_not s phase = option_map (with_phase s) (after_inner_not phase)

-- only before a unit
abbrev pub after_open : Outline → Phase → Option Outline
after_open s Empty = deeper s (Parenthesis s.alternatives s.parts) [] []
after_open s phase = None

-- and behind a closing parenthesis
abbrev pub close_behind : Outline → Cond × List Frame → Option Outline
close_behind s w = left_group (group s.alternatives s.parts w.0) w.1

abbrev pub after_close : Outline → Option Outline
after_close s = option_and_then (close_behind s) (whole_unit s)

abbrev pub inside : Outline → Option Phase → Option Outline
inside s phase = option_map (with_phase s) phase

-- what is read with one more token, and None where the token may not come
abbrev pub step : Outline → Token → Option Outline
step s OrWord = after_or s
step s AndWord = after_and s
step s NotWord = after_not s s.phase
step s IsWord = inside s (after_is s.phase)
step s LikeWord = inside s (after_like s.phase)
step s (Operand atom) = inside s (after_atom s.phase atom)
step s (Compared how) = inside s (after_comparison s.phase how)
step s Plus = inside s (after_sign s.phase false)
step s Minus = inside s (after_sign s.phase true)
step s Times = inside s (after_times s.phase)
step s Open = after_open s s.phase
step s Close = after_close s

abbrev pub may_come : Outline → Token → Bool
may_come s token = is_some (step s token)

-- the condition, where it stands in nothing
abbrev pub outermost : Cond → List Frame → Option Cond
outermost condition [] = Some condition
outermost condition (frame ∷ outer) = None

-- the condition, where this is its last whole unit
abbrev pub end_behind : Outline → Cond × List Frame → Option Cond
end_behind s w = outermost (group s.alternatives s.parts w.0) w.1

-- the condition that is read, where it may end here
abbrev pub finish : Outline → Option Cond
finish s = option_and_then (end_behind s) (whole_unit s)
