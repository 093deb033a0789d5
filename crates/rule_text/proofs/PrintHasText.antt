-- A condition that has a text is readable, and no deeper than the text.
use Rattle.std.proofs.Common.{◌≡◌, ◌≤◌, ◌&&◌, ℕ, zero, suc, nat_le, List, [], ◌∷◌, ◌++◌, Bool, true, false, not, map, length, refl, ap, sym, ◌∙◌, subst, inl, inr, arith, leb-true, le-leb}
use Rattle.std.specs.Bool.{IsTrue}
use Rattle.std.specs.List.{list_all}
use Rattle.std.proofs.lemmas.Bool.{and_parts, and_from}
use Rattle.std.proofs.lemmas.List.{length-map}
use Rattle.rule_conditions.specs.Grammar.{IsSeparated, IsAtom, IsProduct, AreTermsAfter, AreTerms, IsComparison, IsNullTest, IsLikeTest, IsTest, not_if, IsUnit, IsAllOf, IsAnyOf, IsTextOf}
use Rattle.rule_conditions.specs.Print.{Form, Alternatives, Together, Single, print}
use Rattle.rule_conditions.specs.Tokens.{Token, OrWord, AndWord, IsWord, LikeWord, Operand, Compared, Times, Close, Spells, HasTokens}
use Rattle.rule_conditions.specs.declared.TheConstants.{DEPTH_LIMIT}
use Rattle.rule_conditions.specs.declared.condition.Atom.{Atom}
use Rattle.rule_conditions.specs.declared.condition.Atom.TheVariants as atoms
use Rattle.rule_conditions.specs.declared.condition.Cond.{Cond, roll-Cond}
use Rattle.rule_conditions.specs.declared.condition.Cond.TheOpen.{Cond-F, Any, All, Not, Compare, IsNull, Like}
use Rattle.rule_conditions.specs.declared.condition.Cond.TheFolds.{fold-roll-Cond}
use Rattle.rule_conditions.specs.declared.condition.Term.{Term}
use Rattle.rule_text.specs.PrintReadable.{is_content, is_spelled, is_readable_product, is_readable_term, is_readable_sum, Shape, deeper_in_any, deeper_in_all, depth_in_any, depth_in_all, largest, are_sound, shape_step, shape, is_readable}
use Rattle.rule_text.proofs.PrintAtoms.{is_spelled-from}
use Rattle.rule_text.proofs.PrintReadable.{readable_prints}

-- something spells each token
abbrev AllSpelled : List Token → Type 0
AllSpelled [] = Unit {0}
AllSpelled (token ∷ tokens) = ((word : List ℕ) × Spells token word) × AllSpelled tokens

all_spelled : (tokens : List Token) (text : List ℕ) → HasTokens tokens text → AllSpelled tokens
all_spelled [] text h = tt
all_spelled (token ∷ tokens) text h = ((h.1, h.5), all_spelled tokens h.2 h.7)

spelled_parts : (xs ys : List Token) → AllSpelled (xs ++ ys) → AllSpelled xs × AllSpelled ys
spelled_parts [] ys h = (tt, h)
spelled_parts (x ∷ xs) ys h = let parts = spelled_parts xs ys h.1 in ((h.0, parts.0), parts.1)

-- items that stand between tokens, each with a test that its own tokens show
module _ {X : Type 0} (IsItem : X → List Token → Type 0) (good : X → Bool) (between : Token)
    (each : (x : X) (tokens : List Token) → IsItem x tokens → AllSpelled tokens → IsTrue (good x)) where
  all_good : (items : List X) (tokens : List Token) → IsSeparated IsItem between items tokens → AllSpelled tokens → IsTrue (list_all good items)
  all_good [] tokens h s = absurd h
  all_good (only ∷ []) tokens h s = and_from (good only) true (each only tokens h s) refl
  all_good (item ∷ next ∷ items) tokens h s =
      let parts = spelled_parts h.0 (between ∷ h.1) (subst AllSpelled h.2 s) in
      and_from (good item) (list_all good (next ∷ items)) (each item h.0 h.3 parts.0) (all_good (next ∷ items) h.1 h.4 parts.1.1)

atom : (a : Atom) (tokens : List Token) → IsAtom a tokens → AllSpelled tokens → IsTrue (is_spelled a)
atom a tokens is s = let spelled = subst AllSpelled is s in is_spelled-from a spelled.0.0 spelled.0.1

product : (factors : List Atom) (tokens : List Token) → IsProduct factors tokens → AllSpelled tokens → IsTrue (is_readable_product factors)
product [] tokens h s = absurd h
product (first ∷ others) tokens h s = all_good IsAtom is_spelled Times atom (first ∷ others) tokens h s

after_first : (terms : List Term) (tokens : List Token) → AreTermsAfter terms tokens → AllSpelled tokens → IsTrue (list_all is_readable_term terms)
after_first [] tokens h s = refl
after_first (term ∷ terms) tokens h s =
    let spelled = subst AllSpelled h.2 s in
    let parts = spelled_parts h.0 h.1 spelled.1 in
    and_from (is_readable_term term) (list_all is_readable_term terms) (product term.product.atoms h.0 h.3 parts.0) (after_first terms h.1 h.4 parts.1)

all_terms : (terms : List Term) (tokens : List Token) → AreTerms terms tokens → AllSpelled tokens → IsTrue (is_readable_sum terms)
all_terms [] tokens h s = absurd h
all_terms (term ∷ terms) tokens h s =
    let parts = spelled_parts h.0 h.1 (subst AllSpelled h.2 s) in
    and_from (not term.minus) (list_all is_readable_term (term ∷ terms)) (ap not h.3)
    (and_from (is_readable_term term) (list_all is_readable_term terms) (product term.product.atoms h.0 h.4 parts.0) (after_first terms h.1 h.5 parts.1))

-- sound, and so deep at most in some place
record Within (depth : Shape → ℕ) (levels : ℕ) (c : Cond) : Type 0 where
  sound : IsTrue (shape c).sound
  bound : depth (shape c) ≤ levels

within_as : (depth : Shape → ℕ) (levels : ℕ) (c : Cond) (s : Shape) → shape c ≡ s → IsTrue s.sound → depth s ≤ levels → Within depth levels c
within_as depth levels c s is sound bound = record {
  sound = ap (λ (z : Shape). z.sound) is ∙ sound;
  bound = subst (λ (z : Shape). depth z ≤ levels) (sym is) bound;
}

-- the shape of a condition that is made of these parts
shape_of : (c : Cond) (x : Cond-F Cond) (s : Shape) → c ≡ roll-Cond x → shape (roll-Cond x) ≡ s → shape c ≡ s
shape_of c x s is h = ap shape is ∙ h

comparison : (levels : ℕ) (c : Cond) (tokens : List Token) → IsComparison c tokens → AllSpelled tokens → Within depth_in_all levels c
comparison levels c tokens h s =
    let x : Cond-F Cond = Compare h.0 h.1 h.2 in
    let parts = spelled_parts h.3 (Compared h.1 ∷ h.4) (subst AllSpelled h.6 s) in
    within_as depth_in_all levels c _ (shape_of c x _ h.5 (fold-roll-Cond Shape shape_step x))
    (and_from (is_readable_sum h.0.terms) (is_readable_sum h.2.terms) (all_terms h.0.terms h.3 h.7 parts.0) (all_terms h.2.terms h.4 h.8 parts.1.1)) (omega arith)

null_test : (levels : ℕ) (c : Cond) (tokens : List Token) → IsNullTest c tokens → AllSpelled tokens → Within depth_in_all levels c
null_test levels c tokens h s =
    let x : Cond-F Cond = IsNull h.0 h.1 in
    let parts = spelled_parts h.2 (IsWord ∷ not_if h.1 (Operand atoms.Null ∷ [])) (subst AllSpelled h.4 s) in
    within_as depth_in_all levels c _ (shape_of c x _ h.3 (fold-roll-Cond Shape shape_step x)) (all_terms h.0.terms h.2 h.5 parts.0) (omega arith)

pattern_content : (not_like : Bool) (pattern : List ℕ) → AllSpelled (not_if not_like (LikeWord ∷ Operand (atoms.Text pattern) ∷ [])) → IsTrue (is_content pattern)
pattern_content true pattern s = is_spelled-from (atoms.Text pattern) s.1.1.0.0 s.1.1.0.1
pattern_content false pattern s = is_spelled-from (atoms.Text pattern) s.1.0.0 s.1.0.1

like_test : (levels : ℕ) (c : Cond) (tokens : List Token) → IsLikeTest c tokens → AllSpelled tokens → Within depth_in_all levels c
like_test levels c tokens h s =
    let x : Cond-F Cond = Like h.0 h.1 h.2 in
    let parts = spelled_parts h.3 (not_if h.2 (LikeWord ∷ Operand (atoms.Text h.1) ∷ [])) (subst AllSpelled h.5 s) in
    within_as depth_in_all levels c _ (shape_of c x _ h.4 (fold-roll-Cond Shape shape_step x))
    (and_from (is_readable_sum h.0.terms) (is_content h.1) (all_terms h.0.terms h.3 h.6 parts.0) (pattern_content h.2 h.1 parts.1)) (omega arith)

test : (levels : ℕ) (c : Cond) (tokens : List Token) → IsTest c tokens → AllSpelled tokens → Within depth_in_all levels c
test levels c tokens (inl h) s = comparison levels c tokens h s
test levels c tokens (inr (inl h)) s = null_test levels c tokens h s
test levels c tokens (inr (inr h)) s = like_test levels c tokens h s

any_below_all : (form : Form) (n : ℕ) → deeper_in_any form n ≤ deeper_in_all form n
any_below_all Alternatives n = omega arith
any_below_all Together n = omega arith
any_below_all Single n = omega arith

bare_below_any : (form : Form) (n : ℕ) → n ≤ deeper_in_any form n
bare_below_any Alternatives n = omega arith
bare_below_any Together n = omega arith
bare_below_any Single n = omega arith

all_by_one : (form : Form) (n : ℕ) → deeper_in_all form n ≤ suc n
all_by_one Alternatives n = omega arith
all_by_one Together n = omega arith
all_by_one Single n = omega arith

abbrev is_within : (Shape → ℕ) → ℕ → Cond → Bool
is_within depth levels c = (shape c).sound && nat_le (depth (shape c)) levels

within_test : (depth : Shape → ℕ) (levels : ℕ) (c : Cond) → Within depth levels c → IsTrue (is_within depth levels c)
within_test depth levels c w = and_from (shape c).sound (nat_le (depth (shape c)) levels) w.sound (le-leb _ _ w.bound)

-- what is so of each part is so of all
all_sound : (depth : Shape → ℕ) (levels : ℕ) (parts : List Cond) → IsTrue (list_all (is_within depth levels) parts) → IsTrue (list_all (λ (p : Shape). p.sound) (map shape parts))
all_sound depth levels [] h = refl
all_sound depth levels (part ∷ parts) h =
    let tests = and_parts (is_within depth levels part) (list_all (is_within depth levels) parts) h in
    and_from (shape part).sound (list_all (λ (p : Shape). p.sound) (map shape parts))
    (and_parts (shape part).sound (nat_le (depth (shape part)) levels) tests.0).0 (all_sound depth levels parts tests.1)

all_bound : (depth : Shape → ℕ) (levels : ℕ) (parts : List Cond) → IsTrue (list_all (is_within depth levels) parts) → largest (map depth (map shape parts)) ≤ levels
all_bound depth levels [] h = omega arith
all_bound depth levels (part ∷ parts) h =
    let tests = and_parts (is_within depth levels part) (list_all (is_within depth levels) parts) h in
    let one : depth (shape part) ≤ levels = leb-true _ _ (and_parts (shape part).sound (nat_le (depth (shape part)) levels) tests.0).1 in
    let others : largest (map depth (map shape parts)) ≤ levels = all_bound depth levels parts tests.1 in
    omega arith

all_are_sound : (depth : Shape → ℕ) (levels : ℕ) (parts : List Cond) → 2 ≤ length parts → IsTrue (list_all (is_within depth levels) parts) → IsTrue (are_sound (map shape parts))
all_are_sound depth levels parts two h =
    and_from (nat_le 2 (length (map shape parts))) (list_all (λ (p : Shape). p.sound) (map shape parts))
    (le-leb 2 (length (map shape parts)) (subst (λ n. 2 ≤ n) (sym (length-map parts shape)) two)) (all_sound depth levels parts h)

module _ (levels : ℕ) (units : (c : Cond) (tokens : List Token) → IsUnit levels c tokens → AllSpelled tokens → Within depth_in_all levels c) where
  all_within : (c : Cond) (tokens : List Token) → IsAllOf (IsUnit levels) c tokens → AllSpelled tokens → Within depth_in_any levels c
  all_within c tokens (inl h) s =
      let w = units c tokens h s in
      let below = any_below_all (shape c).form (shape c).depth in
      record { sound = w.sound; bound = omega (arith, below, w.bound) }
  all_within c tokens (inr h) s =
      let x : Cond-F Cond = All h.0 in
      let good = all_good (IsUnit levels) (is_within depth_in_all levels) AndWord (λ c tokens h s. within_test depth_in_all levels c (units c tokens h s)) h.0 tokens h.3 s in
      within_as depth_in_any levels c _ (shape_of c x _ h.2 (fold-roll-Cond Shape shape_step x)) (all_are_sound depth_in_all levels h.0 h.1 good) (all_bound depth_in_all levels h.0 good)

  any_within : (c : Cond) (tokens : List Token) → IsAnyOf (IsUnit levels) c tokens → AllSpelled tokens → Within (λ s. s.depth) levels c
  any_within c tokens (inl h) s =
      let w = all_within c tokens h s in
      let below = bare_below_any (shape c).form (shape c).depth in
      record { sound = w.sound; bound = omega (arith, below, w.bound) }
  any_within c tokens (inr h) s =
      let x : Cond-F Cond = Any h.0 in
      let good = all_good (IsAllOf (IsUnit levels)) (is_within depth_in_any levels) OrWord (λ c tokens h s. within_test depth_in_any levels c (all_within c tokens h s)) h.0 tokens h.3 s in
      within_as (λ s. s.depth) levels c _ (shape_of c x _ h.2 (fold-roll-Cond Shape shape_step x)) (all_are_sound depth_in_any levels h.0 h.1 good) (all_bound depth_in_any levels h.0 good)

negation : (levels : ℕ) (c part : Cond) → c ≡ roll-Cond (Not part) → Within depth_in_all levels part → Within depth_in_all (suc levels) c
negation levels c part is w =
    let x : Cond-F Cond = Not part in
    within_as depth_in_all (suc levels) c _ (shape_of c x _ is (fold-roll-Cond Shape shape_step x)) w.sound (omega (arith, w.bound))

enclosed : (levels : ℕ) (c : Cond) → Within (λ s. s.depth) levels c → Within depth_in_all (suc levels) c
enclosed levels c w =
    let below = all_by_one (shape c).form (shape c).depth in
    record { sound = w.sound; bound = omega (arith, below, w.bound) }

unit : (levels : ℕ) (c : Cond) (tokens : List Token) → IsUnit levels c tokens → AllSpelled tokens → Within depth_in_all levels c
unit zero c tokens h s = test zero c tokens h s
unit (suc levels) c tokens (inl h) s = test (suc levels) c tokens h s
unit (suc levels) c tokens (inr (inl h)) s = negation levels c h.0 h.2 (unit levels h.0 h.1 h.4 (subst AllSpelled h.3 s).1)
unit (suc levels) c tokens (inr (inr h)) s =
    let parts = spelled_parts h.0 (Close ∷ []) (subst AllSpelled h.1 s).1 in
    enclosed levels c (any_within levels (unit levels) c h.0 h.2 parts.0)

whole : (levels : ℕ) (c : Cond) (tokens : List Token) → IsAnyOf (IsUnit levels) c tokens → AllSpelled tokens → Within (λ s. s.depth) levels c
whole levels = any_within levels (unit levels)

pub text_is_readable : (text : List ℕ) (c : Cond) → IsTextOf text c → IsTrue (is_readable c)
text_is_readable text c h =
    within_test (λ s. s.depth) DEPTH_LIMIT c (whole DEPTH_LIMIT c h.1.0 h.1.2 (all_spelled h.1.0 text h.1.1))

-- where a condition has a text, its print is a text of it
pub print_is_text : (text : List ℕ) (c : Cond) → IsTextOf text c → IsTextOf (print c) c
print_is_text text c h = readable_prints c (text_is_readable text c h)
