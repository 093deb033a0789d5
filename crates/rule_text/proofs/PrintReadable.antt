-- Where a condition is readable, its print is a text of it.
use Rattle.std.proofs.Common.{◌≡◌, ◌≤◌, ◌&&◌, ℕ, zero, suc, nat_le, List, [], ◌∷◌, ◌++◌, Bool, map, length, refl, ap, sym, ◌∙◌, subst, inl, inr, codes, arith, leb-true, le-leb}
use Rattle.std.specs.Bool.{IsTrue}
use Rattle.std.specs.List.{list_all}
use Rattle.std.proofs.lemmas.Bool.{and_parts, and_from}
use Rattle.std.proofs.lemmas.List.{length-map}
use Rattle.rule_conditions.specs.Grammar.{IsTest, IsUnit, IsAllOf, IsAnyOf, IsTextOf}
use Rattle.rule_conditions.specs.Print.{joined, Form, Alternatives, Together, Single, Printed, bracketed, bracketed_in_any, bracketed_in_all, print_step, printed, print, in_any, in_all}
use Rattle.rule_conditions.specs.Tokens.{OrWord, AndWord, NotWord, Open, Close}
use Rattle.rule_conditions.specs.declared.TheConstants.{DEPTH_LIMIT}
use Rattle.rule_conditions.specs.declared.condition.Cond.{Cond, roll-Cond, map-Cond}
use Rattle.rule_conditions.specs.declared.condition.Cond.TheOpen.{Cond-F, Any, All, Not, Compare, IsNull, Like}
use Rattle.rule_conditions.specs.declared.condition.Cond.TheFolds.{fold-roll-Cond, ind-Cond}
use Rattle.rule_text.specs.PrintReadable.{Shape, deeper_in_any, deeper_in_all, depth_in_any, depth_in_all, largest, are_sound, shape_step, shape, is_readable}
use Rattle.rule_text.proofs.PrintSpelling.{Ends, ascii, one_leads, one_gap, lead, enclosed, has_tokens}
use Rattle.rule_text.proofs.PrintTests.{Reprint, separated, comparison, null_test, like_test}

same_form_rolled : (x : Cond-F Cond) → (shape_step (map-Cond Cond Shape shape x)).form ≡ (print_step (map-Cond Cond Printed printed x)).form
same_form_rolled (Any parts) = refl
same_form_rolled (All parts) = refl
same_form_rolled (Not part) = refl
same_form_rolled (Compare left how right) = refl
same_form_rolled (IsNull sum not_null) = refl
same_form_rolled (Like sum pattern not_like) = refl

same_form : (c : Cond) → (shape c).form ≡ (printed c).form
same_form = ind-Cond (λ c. (shape c).form ≡ (printed c).form) (λ x y is.
    ap (λ (s : Shape). s.form) (fold-roll-Cond Shape shape_step x) ∙ (same_form_rolled x ∙ sym (ap (λ (p : Printed). p.form) (fold-roll-Cond Printed print_step x))))

-- a condition of some form with that text, so deep at most
abbrev AtForm : Form → ℕ → Cond → List ℕ → Type 0
AtForm Alternatives levels c text = Reprint (IsAnyOf (IsUnit levels)) c text
AtForm Together levels c text = Reprint (IsAllOf (IsUnit levels)) c text
AtForm Single levels c text = Reprint (IsUnit levels) c text

abbrev IsReprinted : Cond → Type 0
IsReprinted c = (levels : ℕ) → IsTrue (shape c).sound → (shape c).depth ≤ levels → AtForm (shape c).form levels c (print c)

-- the same, where the two folds are known
folded : (c : Cond) (s : Shape) (text : List ℕ) → shape c ≡ s → print c ≡ text
    → ((levels : ℕ) → IsTrue s.sound → s.depth ≤ levels → AtForm s.form levels c text) → IsReprinted c
folded c s text a b f =
    subst (λ (z : List ℕ). (levels : ℕ) → IsTrue (shape c).sound → (shape c).depth ≤ levels → AtForm (shape c).form levels c z) (sym b)
    (subst (λ (z : Shape). (levels : ℕ) → IsTrue z.sound → z.depth ≤ levels → AtForm z.form levels c text) (sym a) f)

test_at : (levels : ℕ) (c : Cond) (text : List ℕ) → Reprint IsTest c text → Reprint (IsUnit levels) c text
test_at zero c text r = record { tokens = r.tokens; is = r.is; ends = r.ends }
test_at (suc levels) c text r = record { tokens = r.tokens; is = inl r.is; ends = r.ends }

in_brackets : (levels : ℕ) (c : Cond) (text : List ℕ) → Reprint (IsAnyOf (IsUnit levels)) c text → Reprint (IsUnit (suc levels)) c (bracketed text)
in_brackets levels c text r = record { tokens = Open ∷ (r.tokens ++ Close ∷ []); is = inr (inr (r.tokens, refl, r.is)); ends = enclosed r.tokens text r.ends }

as_all : (levels : ℕ) (c : Cond) (text : List ℕ) → Reprint (IsUnit levels) c text → Reprint (IsAllOf (IsUnit levels)) c text
as_all levels c text r = record { tokens = r.tokens; is = inl r.is; ends = r.ends }

as_any : (levels : ℕ) (c : Cond) (text : List ℕ) → Reprint (IsAllOf (IsUnit levels)) c text → Reprint (IsAnyOf (IsUnit levels)) c text
as_any levels c text r = record { tokens = r.tokens; is = inl r.is; ends = r.ends }

module _ (c : Cond) (depth : ℕ) (text : List ℕ) where
  unit_at : (form : Form) (levels : ℕ) → ((n : ℕ) → depth ≤ n → AtForm form n c text) → deeper_in_all form depth ≤ levels
      → Reprint (IsUnit levels) c (bracketed_in_all form text)
  unit_at Alternatives zero f h = absurd (omega arith)
  unit_at Alternatives (suc levels) f h = in_brackets levels c text (f levels (omega arith))
  unit_at Together zero f h = absurd (omega arith)
  unit_at Together (suc levels) f h = in_brackets levels c text (as_any levels c text (f levels (omega arith)))
  unit_at Single levels f h = f levels h

  all_at : (form : Form) (levels : ℕ) → ((n : ℕ) → depth ≤ n → AtForm form n c text) → deeper_in_any form depth ≤ levels
      → Reprint (IsAllOf (IsUnit levels)) c (bracketed_in_any form text)
  all_at Alternatives zero f h = absurd (omega arith)
  all_at Alternatives (suc levels) f h = as_all (suc levels) c (bracketed text) (in_brackets levels c text (f levels (omega arith)))
  all_at Together levels f h = f levels h
  all_at Single levels f h = as_all levels c text (f levels h)

  any_at : (form : Form) (levels : ℕ) → AtForm form levels c text → Reprint (IsAnyOf (IsUnit levels)) c text
  any_at Alternatives levels r = r
  any_at Together levels r = as_any levels c text r
  any_at Single levels r = as_any levels c text (as_all levels c text r)

-- a part of a condition, as the induction has it
abbrev Part : Type 0
Part = (c : Cond) × IsReprinted c

abbrev is_good : (Shape → ℕ) → ℕ → Part → Bool
is_good depth levels e = (shape e.0).sound && nat_le (depth (shape e.0)) levels

unit_part : (levels : ℕ) (e : Part) → IsTrue (is_good depth_in_all levels e) → Reprint (IsUnit levels) e.0 (in_all (printed e.0))
unit_part levels e h =
    let c = e.0 in
    let tests = and_parts (shape c).sound (nat_le (depth_in_all (shape c)) levels) h in
    subst (λ (f : Form). Reprint (IsUnit levels) c (bracketed_in_all f (print c))) (same_form c)
    (unit_at c (shape c).depth (print c) (shape c).form levels (λ n k. e.1 n tests.0 k) (leb-true _ _ tests.1))

all_part : (levels : ℕ) (e : Part) → IsTrue (is_good depth_in_any levels e) → Reprint (IsAllOf (IsUnit levels)) e.0 (in_any (printed e.0))
all_part levels e h =
    let c = e.0 in
    let tests = and_parts (shape c).sound (nat_le (depth_in_any (shape c)) levels) h in
    subst (λ (f : Form). Reprint (IsAllOf (IsUnit levels)) c (bracketed_in_any f (print c))) (same_form c)
    (all_at c (shape c).depth (print c) (shape c).form levels (λ n k. e.1 n tests.0 k) (leb-true _ _ tests.1))

abbrev conditions : List Part → List Cond
conditions es = map (λ (e : Part). e.0) es

are_good : (depth : Shape → ℕ) (levels : ℕ) (es : List Part) → IsTrue (list_all (λ (p : Shape). p.sound) (map shape (conditions es))) → largest (map depth (map shape (conditions es))) ≤ levels
    → IsTrue (list_all (is_good depth levels) es)
are_good depth levels [] sound h = refl
are_good depth levels (e ∷ es) sound h =
    let tests = and_parts (shape e.0).sound (list_all (λ (p : Shape). p.sound) (map shape (conditions es))) sound in
    and_from (is_good depth levels e) (list_all (is_good depth levels) es)
    (and_from (shape e.0).sound (nat_le (depth (shape e.0)) levels) tests.0 (le-leb _ _ (omega arith)))
    (are_good depth levels es tests.1 (omega arith))

map-map : (g : Printed → List ℕ) (parts : List Cond) → map (λ (c : Cond). g (printed c)) parts ≡ map g (map printed parts)
map-map g [] = refl
map-map g (part ∷ parts) = ap (λ x. g (printed part) ∷ x) (map-map g parts)

several : (cs : List Cond) → IsTrue (nat_le 2 (length (map shape cs))) → 2 ≤ length cs
several cs h = subst (λ n. 2 ≤ n) (length-map cs shape) (leb-true 2 (length (map shape cs)) h)

all_of_parts : (es : List Part) (levels : ℕ) → IsTrue (are_sound (map shape (conditions es))) → largest (map depth_in_all (map shape (conditions es))) ≤ levels
    → Reprint (IsAllOf (IsUnit levels)) (roll-Cond (All (conditions es))) (joined (codes " AND ") (map in_all (map printed (conditions es))))
all_of_parts [] levels sound h = cc
all_of_parts (e ∷ es) levels sound h =
    let tests = and_parts (nat_le 2 (length (map shape (conditions (e ∷ es))))) (list_all (λ (p : Shape). p.sound) (map shape (conditions (e ∷ es)))) sound in
    let r = separated (λ (e : Part). e.0) (IsUnit levels) (λ (c : Cond). in_all (printed c)) (is_good depth_in_all levels) AndWord (codes " AND ") (one_gap AndWord (codes "AND") (ascii _ refl) refl)
    (unit_part levels) e es (are_good depth_in_all levels (e ∷ es) tests.1 h) in
    record {
      tokens = r.tokens;
      is = inr (conditions (e ∷ es), several (conditions (e ∷ es)) tests.0, refl, r.is);
      ends = subst (λ (x : List (List ℕ)). Ends r.tokens (joined (codes " AND ") x)) (map-map in_all (conditions (e ∷ es))) r.ends;
    }

any_of_parts : (es : List Part) (levels : ℕ) → IsTrue (are_sound (map shape (conditions es))) → largest (map depth_in_any (map shape (conditions es))) ≤ levels
    → Reprint (IsAnyOf (IsUnit levels)) (roll-Cond (Any (conditions es))) (joined (codes " OR ") (map in_any (map printed (conditions es))))
any_of_parts [] levels sound h = cc
any_of_parts (e ∷ es) levels sound h =
    let tests = and_parts (nat_le 2 (length (map shape (conditions (e ∷ es))))) (list_all (λ (p : Shape). p.sound) (map shape (conditions (e ∷ es)))) sound in
    let r = separated (λ (e : Part). e.0) (IsAllOf (IsUnit levels)) (λ (c : Cond). in_any (printed c)) (is_good depth_in_any levels) OrWord (codes " OR ") (one_gap OrWord (codes "OR") (ascii _ refl) refl)
    (all_part levels) e es (are_good depth_in_any levels (e ∷ es) tests.1 h) in
    record {
      tokens = r.tokens;
      is = inr (conditions (e ∷ es), several (conditions (e ∷ es)) tests.0, refl, r.is);
      ends = subst (λ (x : List (List ℕ)). Ends r.tokens (joined (codes " OR ") x)) (map-map in_any (conditions (e ∷ es))) r.ends;
    }

not_of_part : (e : Part) (levels : ℕ) → IsTrue (shape e.0).sound → suc (depth_in_all (shape e.0)) ≤ levels
    → Reprint (IsUnit levels) (roll-Cond (Not e.0)) (codes "NOT " ++ in_all (printed e.0))
not_of_part e zero sound h = absurd (omega arith)
not_of_part e (suc levels) sound h =
    let r = unit_part levels e (and_from (shape e.0).sound (nat_le (depth_in_all (shape e.0)) levels) sound (le-leb _ _ (omega arith))) in
    record {
      tokens = NotWord ∷ r.tokens;
      is = inr (inl (e.0, r.tokens, refl, refl, r.is));
      ends = lead (NotWord ∷ []) r.tokens (codes "NOT ") (in_all (printed e.0)) (one_leads NotWord (codes "NOT") (ascii _ refl) refl) r.ends;
    }

-- one layer of a condition, above parts that are reprinted
abbrev IsLayer : Cond-F Part → Type 0
IsLayer y =
    let x = map-Cond Part Cond (λ (e : Part). e.0) y in
    let s = shape_step (map-Cond Cond Shape shape x) in
    (levels : ℕ) → IsTrue s.sound → s.depth ≤ levels → AtForm s.form levels (roll-Cond x) (print_step (map-Cond Cond Printed printed x)).text

layer : (y : Cond-F Part) → IsLayer y
layer (Any es) = any_of_parts es
layer (All es) = all_of_parts es
layer (Not e) = not_of_part e
layer (Compare left how right) = λ levels sound h. test_at levels _ _ (comparison left how right sound)
layer (IsNull sum not_null) = λ levels sound h. test_at levels _ _ (null_test sum not_null sound)
layer (Like sum pattern not_like) = λ levels sound h. test_at levels _ _ (like_test sum pattern not_like sound)

rolled : (y : Cond-F Part) → IsReprinted (roll-Cond (map-Cond Part Cond (λ (e : Part). e.0) y))
rolled y =
    let x = map-Cond Part Cond (λ (e : Part). e.0) y in
    folded (roll-Cond x) (shape_step (map-Cond Cond Shape shape x)) (print_step (map-Cond Cond Printed printed x)).text
    (fold-roll-Cond Shape shape_step x) (ap (λ (p : Printed). p.text) (fold-roll-Cond Printed print_step x)) (layer y)

reprinted : (c : Cond) → IsReprinted c
reprinted = ind-Cond IsReprinted (λ x y is. subst (λ (z : Cond-F Cond). IsReprinted (roll-Cond z)) is (rolled y))

whole : (levels : ℕ) (c : Cond) → IsTrue (shape c).sound → (shape c).depth ≤ levels → Reprint (IsAnyOf (IsUnit levels)) c (print c)
whole levels c sound h = any_at c (shape c).depth (print c) (shape c).form levels (reprinted c levels sound h)

pub readable_prints : (c : Cond) → IsTrue (is_readable c) → IsTextOf (print c) c
readable_prints c h =
    let tests = and_parts (shape c).sound (nat_le (shape c).depth DEPTH_LIMIT) h in
    let r = whole DEPTH_LIMIT c tests.0 (leb-true (shape c).depth DEPTH_LIMIT tests.1) in
    (r.ends.utf8, (r.tokens, has_tokens r.tokens (print c) r.ends, r.is))
