-- Which conditions have a text in the grammar, told by the condition alone.
use Rattle.std.specs.Prelude.{ℕ, suc, ◌&&◌, nat_le, List, [], ◌∷◌, length, map, max, Bool, true, false, not}
use Rattle.std.specs.List.{list_all}
use Rattle.std.specs.Str.{is_utf8}
use Rattle.payload_records.specs.Name.{is_name}
use Rattle.rule_conditions.specs.Print.{Form, Alternatives, Together, Single}
use Rattle.rule_conditions.specs.Values.{fits}
use Rattle.rule_conditions.specs.declared.TheConstants.{DEPTH_LIMIT, TEXT_LIMIT}
use Rattle.rule_conditions.specs.declared.condition.Atom.{Atom}
use Rattle.rule_conditions.specs.declared.condition.Atom.TheVariants as atoms
use Rattle.rule_conditions.specs.declared.condition.Cond.{Cond, fold-Cond}
use Rattle.rule_conditions.specs.declared.condition.Cond.TheOpen.{Cond-F, Any, All, Not, Compare, IsNull, Like}
use Rattle.rule_conditions.specs.declared.condition.Term.{Term}

-- a text that may stand between apostrophes
abbrev pub is_content : List ℕ → Bool
is_content text = is_utf8 text && nat_le (length text) TEXT_LIMIT

-- some word spells the atom
abbrev pub is_spelled : Atom → Bool
is_spelled (atoms.Number z) = fits z
is_spelled (atoms.Text content) = is_content content
is_spelled atoms.Null = true
is_spelled atoms.Priority = true
is_spelled atoms.Corr = true
is_spelled (atoms.Cell name) = is_name name
is_spelled (atoms.Prop name) = is_name name

-- at least one atom, each of them spelled
abbrev pub is_readable_product : List Atom → Bool
is_readable_product [] = false
is_readable_product (first ∷ others) = list_all is_spelled (first ∷ others)

abbrev pub is_readable_term : Term → Bool
is_readable_term term = is_readable_product term.product.atoms

-- at least one term, the first without a sign
abbrev pub is_readable_sum : List Term → Bool
is_readable_sum [] = false
is_readable_sum (first ∷ others) = not first.minus && list_all is_readable_term (first ∷ others)

-- how a condition is printed, how many levels of NOT and parentheses that takes, and whether all
-- of its lists and atoms are such as texts have
pub record Shape : Type 0 where
  pub form : Form
  pub depth : ℕ
  pub sound : Bool

-- inside OR
abbrev pub deeper_in_any : Form → ℕ → ℕ
deeper_in_any Alternatives depth = suc depth
deeper_in_any Together depth = depth
deeper_in_any Single depth = depth

-- inside AND and behind NOT
abbrev pub deeper_in_all : Form → ℕ → ℕ
deeper_in_all Alternatives depth = suc depth
deeper_in_all Together depth = suc depth
deeper_in_all Single depth = depth

abbrev pub depth_in_any : Shape → ℕ
depth_in_any s = deeper_in_any s.form s.depth

abbrev pub depth_in_all : Shape → ℕ
depth_in_all s = deeper_in_all s.form s.depth

abbrev pub largest : List ℕ → ℕ
largest [] = 0
largest (first ∷ others) = max first (largest others)

-- two parts and more, each of them sound
abbrev pub are_sound : List Shape → Bool
are_sound parts = nat_le 2 (length parts) && list_all (λ p. p.sound) parts

abbrev pub shape_step : Cond-F Shape → Shape
shape_step (Any parts) = record { form = Alternatives; depth = largest (map depth_in_any parts); sound = are_sound parts }
shape_step (All parts) = record { form = Together; depth = largest (map depth_in_all parts); sound = are_sound parts }
shape_step (Not part) = record { form = Single; depth = suc (depth_in_all part); sound = part.sound }
shape_step (Compare left how right) = record { form = Single; depth = 0; sound = is_readable_sum left.terms && is_readable_sum right.terms }
shape_step (IsNull sum not_null) = record { form = Single; depth = 0; sound = is_readable_sum sum.terms }
shape_step (Like sum pattern not_like) = record { form = Single; depth = 0; sound = is_readable_sum sum.terms && is_content pattern }

abbrev pub shape : Cond → Shape
shape c = fold-Cond Shape shape_step c

abbrev pub is_readable : Cond → Bool
is_readable c = (shape c).sound && nat_le (shape c).depth DEPTH_LIMIT
