-- What is read is in the grammar.
use Rattle.std.proofs.Common.{◌≡◌, inl, inr, ℕ, ◌+◌, ◌<◌, List, [], ◌∷◌, ◌++◌, Bool, true, false, Option, Some, None, Result, Ok, length, refl, arith, sym, ◌∙◌, ap, subst, append_assoc, append-nil, suc, zero, option_map, option_and_then}
use Rattle.std.specs.List.{list_all}
use Rattle.std.specs.Str.{IsUtf8}
use Rattle.std.proofs.lemmas.Bool.{ltb-true, and_parts, and_from}
use Rattle.rule_conditions.specs.Tokens.{Token, OrWord, AndWord, NotWord, IsWord, LikeWord, Operand, Compared, Plus, Minus, Times, Open, Close, HasTokens, is_space}
use Rattle.rule_conditions.specs.Grammar.{IsAtom, IsProduct, AreTerms, sign, IsSum, not_if, IsAnyOf, IsUnit, IsTextOf}
use Rattle.rule_conditions.specs.declared.condition.Atom.{Atom}
use Rattle.rule_conditions.specs.declared.condition.Atom.TheVariants as atoms
use Rattle.rule_conditions.specs.declared.condition.Cmp.{Cmp}
use Rattle.rule_conditions.specs.declared.condition.Cond.{Cond, roll-Cond}
use Rattle.rule_conditions.specs.declared.condition.Cond.TheOpen as conds
use Rattle.rule_conditions.specs.declared.condition.Sum.{Sum}
use Rattle.rule_conditions.specs.declared.condition.Term.{Term}
use Rattle.rule_text.proofs.Choice.{chosen}
use Rattle.rule_text.proofs.Cuts.{space_utf8}
use Rattle.rule_text.proofs.Grown.{AreBefore, separated_last, Before, group_whole, levels, before_and, before_or, Wraps, wraps, TermsBefore, OperatedRead, sum_read, SideRead, Part, test_unit, unit_read}
use Rattle.rule_text.proofs.Tokenwise.{token_taken}
use Rattle.rule_conditions.specs.Lexing.{behind_space}
use Rattle.rule_conditions.specs.Outline.{together, group}
use Rattle.rule_text.specs.Outline.{closed, with_sign, read_unit, wrapped, whole_unit, no_partial, with_atom, with_phase, null_test, like_test, after_atom, after_is, after_like, after_comparison, after_sign, after_times, after_not_inside, tested_sum, left_sum, phase_after, inner_step, after_not, after_open, after_and, after_or, after_close, left, has_room, is_unit, step, finish, ended, start}
use Rattle.rule_text.specs.Reading.{Reads, Ends, Short, Steps, Fails}
use Rattle.rule_text.specs.declared.outline.Outline.{Outline}
use Rattle.rule_text.specs.declared.outline.Partial.{Partial}
use Rattle.rule_text.specs.declared.outline.Frame.{Frame}
use Rattle.rule_text.specs.declared.outline.Frame.TheVariants as frames
use Rattle.rule_text.specs.declared.outline.Phase.{Phase}
use Rattle.rule_text.specs.declared.outline.Phase.TheVariants as phases
use Rattle.rule_text.specs.declared.outline.Side.{Side}
use Rattle.rule_text.specs.declared.outline.Side.TheVariants as sides

pub mapped : {X Y : Type 0} (f : X → Y) (o : Option X) (y : Y) → option_map f o ≡ Some y → (x : X) × (o ≡ Some x) × (f x ≡ y)
mapped f None y e = cc
mapped f (Some x) y e = (x, refl, cc)

pub bound : {X Y : Type 0} (o : Option X) (f : X → Option Y) (y : Y) → option_and_then f o ≡ Some y → (x : X) × (o ≡ Some x) × (f x ≡ Some y)
bound None f y e = cc
bound (Some x) f y e = (x, refl, e)

null_part : (n : ℕ) (sum : Sum) (negated : Bool) (atom : Atom) (ph : Phase) (t u : List Token) → u ≡ t ++ IsWord ∷ not_if negated (Operand atoms.Null ∷ []) → IsSum sum t → null_test sum negated atom ≡ Some ph → (atom ≡ atoms.Null) × ((atom ≡ atoms.Null) → Part n ph u)
null_part n sum negated (atoms.Number z) ph t u e s h = cc
null_part n sum negated (atoms.Text text) ph t u e s h = cc
null_part n sum negated atoms.Null ph t u e s h =
    let is : phases.Done (roll-Cond (conds.IsNull sum negated)) ≡ ph = cc in
    (refl, λ _. subst (λ (p : Phase). Part n p u) is (test_unit n (roll-Cond (conds.IsNull sum negated)) u (inr (inl (sum, negated, t, refl, e, s)))))
null_part n sum negated atoms.Priority ph t u e s h = cc
null_part n sum negated atoms.Corr ph t u e s h = cc
null_part n sum negated (atoms.Cell name) ph t u e s h = cc
null_part n sum negated (atoms.Prop name) ph t u e s h = cc

like_part : (n : ℕ) (sum : Sum) (negated : Bool) (atom : Atom) (ph : Phase) (t u : List Token) → u ≡ t ++ not_if negated (LikeWord ∷ []) → IsSum sum t → like_test sum negated atom ≡ Some ph → Part n ph (u ++ Operand atom ∷ [])
like_part n sum negated (atoms.Number z) ph t u e s h = cc
like_part n sum true (atoms.Text text) ph t u e s h =
    let is : phases.Done (roll-Cond (conds.Like sum text true)) ≡ ph = cc in
    let same = ap (λ (z : List Token). z ++ Operand (atoms.Text text) ∷ []) e ∙ append_assoc t (NotWord ∷ LikeWord ∷ []) (Operand (atoms.Text text) ∷ []) in
    subst (λ (p : Phase). Part n p (u ++ Operand (atoms.Text text) ∷ [])) is (test_unit n (roll-Cond (conds.Like sum text true)) (u ++ Operand (atoms.Text text) ∷ []) (inr (inr (sum, text, true, t, refl, same, s))))
like_part n sum false (atoms.Text text) ph t u e s h =
    let is : phases.Done (roll-Cond (conds.Like sum text false)) ≡ ph = cc in
    let same = ap (λ (z : List Token). z ++ Operand (atoms.Text text) ∷ []) e ∙ append_assoc t (LikeWord ∷ []) (Operand (atoms.Text text) ∷ []) in
    subst (λ (p : Phase). Part n p (u ++ Operand (atoms.Text text) ∷ [])) is (test_unit n (roll-Cond (conds.Like sum text false)) (u ++ Operand (atoms.Text text) ∷ []) (inr (inr (sum, text, false, t, refl, same, s))))
like_part n sum negated atoms.Null ph t u e s h = cc
like_part n sum negated atoms.Priority ph t u e s h = cc
like_part n sum negated atoms.Corr ph t u e s h = cc
like_part n sum negated (atoms.Cell name) ph t u e s h = cc
like_part n sum negated (atoms.Prop name) ph t u e s h = cc

is_null_part : (n : ℕ) (sum : Sum) (negated : Bool) (atom : Atom) (ph : Phase) (t u : List Token) → u ++ Operand atoms.Null ∷ [] ≡ t ++ IsWord ∷ not_if negated (Operand atoms.Null ∷ []) → IsSum sum t → null_test sum negated atom ≡ Some ph → Part n ph (u ++ Operand atom ∷ [])
is_null_part n sum negated atom ph t u e s h =
    let r = null_part n sum negated atom ph t (u ++ Operand atoms.Null ∷ []) e s h in
    subst (λ (a : Atom). Part n ph (u ++ Operand a ∷ [])) (sym r.0) (r.1 r.0)

atom_part : (n : ℕ) (phase ph : Phase) (atom : Atom) (u : List Token) → Part n phase u → after_atom phase atom ≡ Some ph → Part n ph (u ++ Operand atom ∷ [])
atom_part n phases.Unit ph atom u p h =
    let is : phases.Operated sides.Left (with_atom no_partial atom) ≡ ph = cc in
    subst (λ (q : Phase). Part n q (u ++ Operand atom ∷ [])) is ([], Operand atom ∷ [], ap (λ (z : List Token). z ++ Operand atom ∷ []) p, refl, ([], Operand atom ∷ [], refl, (refl, refl), refl))
atom_part n (phases.Factor side q) ph atom u (a, b, e, sd, (c, d, e2, terms, factors)) h =
    let is : phases.Operated side (with_atom q atom) ≡ ph = cc in
    let one = ap (λ (z : List Token). z ++ Operand atom ∷ []) e ∙ append_assoc a b (Operand atom ∷ []) in
    let two = ap (λ (z : List Token). z ++ Operand atom ∷ []) e2 ∙ append_assoc c d (Operand atom ∷ []) in
    subst (λ (x : Phase). Part n x (u ++ Operand atom ∷ [])) is (a, b ++ Operand atom ∷ [], one, sd, (c, d ++ Operand atom ∷ [], two, terms, separated_last IsAtom Times q.atoms atom d (Operand atom ∷ []) factors refl))
atom_part n (phases.Operated side q) ph atom u p h = cc
atom_part n (phases.Is sum) ph atom u (t, e, s) h =
    is_null_part n sum false atom ph t u (ap (λ (z : List Token). z ++ Operand atoms.Null ∷ []) e ∙ append_assoc t (IsWord ∷ []) (Operand atoms.Null ∷ [])) s h
atom_part n (phases.IsNot sum) ph atom u (t, e, s) h =
    is_null_part n sum true atom ph t u (ap (λ (z : List Token). z ++ Operand atoms.Null ∷ []) e ∙ append_assoc t (IsWord ∷ NotWord ∷ []) (Operand atoms.Null ∷ [])) s h
atom_part n (phases.NotLike sum) ph atom u p h = cc
atom_part n (phases.Like sum negated) ph atom u (t, e, s) h = like_part n sum negated atom ph t u e s h
atom_part n (phases.Done unit) ph atom u p h = cc

left_part : (side : Side) (q : Partial) (sum : Sum) (u a b : List Token) → u ≡ a ++ b → SideRead side a → OperatedRead q b → left_sum side q ≡ Some sum → IsSum sum u
left_part sides.Left q sum u a b e sd o h =
    let is : closed q ≡ sum = cc in
    let same : b ≡ u = sym (e ∙ ap (λ (z : List Token). z ++ b) sd) in
    subst (λ (s : Sum). IsSum s u) is (subst (λ (z : List Token). IsSum (closed q) z) same (sum_read q b o))
left_part (sides.Right left how) q sum u a b e sd o h = cc

tested : (n : ℕ) (phase : Phase) (sum : Sum) (u : List Token) → Part n phase u → tested_sum phase ≡ Some sum → IsSum sum u
tested n phases.Unit sum u p h = cc
tested n (phases.Factor side q) sum u p h = cc
tested n (phases.Operated side q) sum u (a, b, e, sd, o) h = left_part side q sum u a b e sd o h
tested n (phases.Is other) sum u p h = cc
tested n (phases.IsNot other) sum u p h = cc
tested n (phases.NotLike other) sum u p h = cc
tested n (phases.Like other negated) sum u p h = cc
tested n (phases.Done unit) sum u p h = cc

is_part : (n : ℕ) (phase ph : Phase) (u : List Token) → Part n phase u → after_is phase ≡ Some ph → Part n ph (u ++ IsWord ∷ [])
is_part n phase ph u p h =
    let m = mapped (λ sum. phases.Is sum) (tested_sum phase) ph h in
    subst (λ (q : Phase). Part n q (u ++ IsWord ∷ [])) m.2 (u, refl, tested n phase m.0 u p m.1)

like_word_part : (n : ℕ) (phase ph : Phase) (u : List Token) → Part n phase u → after_like phase ≡ Some ph → Part n ph (u ++ LikeWord ∷ [])
like_word_part n phases.Unit ph u p h = cc
like_word_part n (phases.Factor side q) ph u p h = cc
like_word_part n (phases.Operated side q) ph u (a, b, e, sd, o) h =
    let m = mapped (λ sum. phases.Like sum false) (left_sum side q) ph h in
    subst (λ (x : Phase). Part n x (u ++ LikeWord ∷ [])) m.2 (u, refl, left_part side q m.0 u a b e sd o m.1)
like_word_part n (phases.Is sum) ph u p h = cc
like_word_part n (phases.IsNot sum) ph u p h = cc
like_word_part n (phases.NotLike sum) ph u (t, e, s) h =
    let is : phases.Like sum true ≡ ph = cc in
    subst (λ (x : Phase). Part n x (u ++ LikeWord ∷ [])) is (t, ap (λ (z : List Token). z ++ LikeWord ∷ []) e ∙ append_assoc t (NotWord ∷ []) (LikeWord ∷ []), s)
like_word_part n (phases.Like sum negated) ph u p h = cc
like_word_part n (phases.Done unit) ph u p h = cc

comparison_part : (n : ℕ) (phase ph : Phase) (how : Cmp) (u : List Token) → Part n phase u → after_comparison phase how ≡ Some ph → Part n ph (u ++ Compared how ∷ [])
comparison_part n phase ph how u p h =
    let m = mapped (λ sum. phases.Factor (sides.Right sum how) no_partial) (tested_sum phase) ph h in
    subst (λ (q : Phase). Part n q (u ++ Compared how ∷ [])) m.2 (u ++ Compared how ∷ [], [], sym (append-nil (u ++ Compared how ∷ [])), (u, refl, tested n phase m.0 u p m.1), ([], [], refl, (refl, refl), refl))

some_terms : (terms : List Term) (y : Term) (minus : Bool) (ts : List Token) → AreTerms (terms ++ y ∷ []) ts → TermsBefore (terms ++ y ∷ []) minus (ts ++ sign minus ∷ [])
some_terms [] y minus ts s = (ts, refl, s)
some_terms (x ∷ terms) y minus ts s = (ts, refl, s)

sign_part : (n : ℕ) (phase ph : Phase) (minus : Bool) (u : List Token) → Part n phase u → after_sign phase minus ≡ Some ph → Part n ph (u ++ sign minus ∷ [])
sign_part n phases.Unit ph minus u p h = cc
sign_part n (phases.Factor side q) ph minus u p h = cc
sign_part n (phases.Operated side q) ph minus u (a, b, e, sd, o) h =
    let is : phases.Factor side (with_sign q minus) ≡ ph = cc in
    let same = ap (λ (z : List Token). z ++ sign minus ∷ []) e ∙ append_assoc a b (sign minus ∷ []) in
    let terms = some_terms q.terms (record { minus = q.minus; product = record { atoms = q.atoms } }) minus b (sum_read q b o) in
    subst (λ (x : Phase). Part n x (u ++ sign minus ∷ [])) is (a, b ++ sign minus ∷ [], same, sd, (b ++ sign minus ∷ [], [], sym (append-nil (b ++ sign minus ∷ [])), terms, refl))
sign_part n (phases.Is sum) ph minus u p h = cc
sign_part n (phases.IsNot sum) ph minus u p h = cc
sign_part n (phases.NotLike sum) ph minus u p h = cc
sign_part n (phases.Like sum negated) ph minus u p h = cc
sign_part n (phases.Done unit) ph minus u p h = cc

factors_before : (xs : List Atom) (b : List Token) → IsProduct xs b → AreBefore IsAtom Times xs (b ++ Times ∷ [])
factors_before [] b s = absurd s
factors_before (x ∷ xs) b s = (b, refl, s)

times_part : (n : ℕ) (phase ph : Phase) (u : List Token) → Part n phase u → after_times phase ≡ Some ph → Part n ph (u ++ Times ∷ [])
times_part n phases.Unit ph u p h = cc
times_part n (phases.Factor side q) ph u p h = cc
times_part n (phases.Operated side q) ph u (a, b, e, sd, (c, d, e2, terms, product)) h =
    let is : phases.Factor side q ≡ ph = cc in
    let one = ap (λ (z : List Token). z ++ Times ∷ []) e ∙ append_assoc a b (Times ∷ []) in
    let two = ap (λ (z : List Token). z ++ Times ∷ []) e2 ∙ append_assoc c d (Times ∷ []) in
    subst (λ (x : Phase). Part n x (u ++ Times ∷ [])) is (a, b ++ Times ∷ [], one, sd, (c, d ++ Times ∷ [], two, terms, factors_before q.atoms d product))
times_part n (phases.Is sum) ph u p h = cc
times_part n (phases.IsNot sum) ph u p h = cc
times_part n (phases.NotLike sum) ph u p h = cc
times_part n (phases.Like sum negated) ph u p h = cc
times_part n (phases.Done unit) ph u p h = cc

not_part : (n : ℕ) (phase ph : Phase) (u : List Token) → Part n phase u → after_not_inside phase ≡ Some ph → Part n ph (u ++ NotWord ∷ [])
not_part n phases.Unit ph u p h = cc
not_part n (phases.Factor side q) ph u p h = cc
not_part n (phases.Operated side q) ph u (a, b, e, sd, o) h =
    let m = mapped (λ sum. phases.NotLike sum) (left_sum side q) ph h in
    subst (λ (x : Phase). Part n x (u ++ NotWord ∷ [])) m.2 (u, refl, left_part side q m.0 u a b e sd o m.1)
not_part n (phases.Is sum) ph u (t, e, s) h =
    let is : phases.IsNot sum ≡ ph = cc in
    subst (λ (x : Phase). Part n x (u ++ NotWord ∷ [])) is (t, ap (λ (z : List Token). z ++ NotWord ∷ []) e ∙ append_assoc t (IsWord ∷ []) (NotWord ∷ []), s)
not_part n (phases.IsNot sum) ph u p h = cc
not_part n (phases.NotLike sum) ph u p h = cc
not_part n (phases.Like sum negated) ph u p h = cc
not_part n (phases.Done unit) ph u p h = cc

part_after : (n : ℕ) (phase ph : Phase) (token : Token) (u : List Token) → Part n phase u → phase_after phase token ≡ Some ph → Part n ph (u ++ token ∷ [])
part_after n phase ph OrWord u p h = cc
part_after n phase ph AndWord u p h = cc
part_after n phase ph NotWord u p h = cc
part_after n phase ph IsWord u p h = is_part n phase ph u p h
part_after n phase ph LikeWord u p h = like_word_part n phase ph u p h
part_after n phase ph (Operand atom) u p h = atom_part n phase ph atom u p h
part_after n phase ph (Compared how) u p h = comparison_part n phase ph how u p h
part_after n phase ph Plus u p h = sign_part n phase ph false u p h
part_after n phase ph Minus u p h = sign_part n phase ph true u p h
part_after n phase ph Times u p h = times_part n phase ph u p h
part_after n phase ph Open u p h = cc
part_after n phase ph Close u p h = cc

-- what an outline says of the tokens read
pub record Good (s : Outline) (ts : List Token) : Type 0 where
  pub n : ℕ
  pub front : List Token
  pub back : List Token
  pub is : ts ≡ front ++ back
  pub before : Before s.frames n s.alternatives s.parts front
  pub part : Part n s.phase back

pub good_start : Good start []
good_start = record { n = 64; front = []; back = []; is = refl; before = (refl, ([], [], refl, refl, refl)); part = refl }

good_phase : (s : Outline) (ts : List Token) (token : Token) (g : Good s ts) (ph : Phase) → Part g.n ph (g.back ++ token ∷ []) → Good (with_phase s ph) (ts ++ token ∷ [])
good_phase s ts token g ph p = record {
  n = g.n;
  front = g.front;
  back = g.back ++ token ∷ [];
  is = ap (λ (z : List Token). z ++ token ∷ []) g.is ∙ append_assoc g.front g.back (token ∷ []);
  before = g.before;
  part = p;
}

good_inner : (s next : Outline) (ts : List Token) (token : Token) → Good s ts → inner_step s token ≡ Some next → Good next (ts ++ token ∷ [])
good_inner s next ts token g h =
    let m = mapped (with_phase s) (phase_after s.phase token) next h in
    subst (λ (o : Outline). Good o (ts ++ token ∷ [])) m.2 (good_phase s ts token g m.0 (part_after g.n s.phase m.0 token g.back g.part m.1))

nothing_read : (n : ℕ) (phase : Phase) (u : List Token) → is_unit phase ≡ true → Part n phase u → u ≡ []
nothing_read n phases.Unit u h p = p
nothing_read n (phases.Factor side q) u h p = cc
nothing_read n (phases.Operated side q) u h p = cc
nothing_read n (phases.Is sum) u h p = cc
nothing_read n (phases.IsNot sum) u h p = cc
nothing_read n (phases.NotLike sum) u h p = cc
nothing_read n (phases.Like sum negated) u h p = cc
nothing_read n (phases.Done unit) u h p = cc

one_less : (n m : ℕ) → n + m ≡ 64 → m < 64 → (k : ℕ) × (n ≡ suc k)
one_less zero m e h = absurd (omega arith)
one_less (suc k) m e h = (k, refl)

-- a level deeper, where nothing of the unit was read
pub record Deep (s : Outline) (ts : List Token) : Type 0 where
  pub n : ℕ
  pub before : Before s.frames (suc n) s.alternatives s.parts ts

deep : (s : Outline) (ts : List Token) → Good s ts → is_unit s.phase ≡ true → has_room s ≡ true → Deep s ts
deep s ts g u room =
    let empty = nothing_read g.n s.phase g.back u g.part in
    let same : g.front ≡ ts = sym (g.is ∙ ap (λ (z : List Token). g.front ++ z) empty ∙ append-nil g.front) in
    let k = one_less g.n (length s.frames) (levels s.frames g.n s.alternatives s.parts g.front g.before) (ltb-true (length s.frames) 64 room) in
    let b : Before s.frames (suc k.0) s.alternatives s.parts g.front = subst (λ (n : ℕ). Before s.frames n s.alternatives s.parts g.front) k.1 g.before in
    record { n = k.0; before = subst (λ (z : List Token). Before s.frames (suc k.0) s.alternatives s.parts z) same b }

good_not : (s next : Outline) (ts : List Token) → Good s ts → after_not s ≡ Some next → Good next (ts ++ NotWord ∷ [])
good_not s next ts g h =
    elim (chosen (is_unit s.phase) _ _ _ h) [
      | inl p ↦ elim (chosen (has_room s) _ _ _ p.1) [
        | inl q ↦
            let d = deep s ts g p.0 q.0 in
            let is : record { alternatives = s.alternatives; parts = s.parts; frames = frames.Not ∷ s.frames; phase = phases.Unit } ≡ next = cc in
            subst (λ (o : Outline). Good o (ts ++ NotWord ∷ [])) is record { n = d.n; front = ts ++ NotWord ∷ []; back = []; is = sym (append-nil (ts ++ NotWord ∷ [])); before = (ts, refl, d.before); part = refl }
        | inr q ↦ cc
      ]
      | inr p ↦
          let m = mapped (with_phase s) (after_not_inside s.phase) next p.1 in
          subst (λ (o : Outline). Good o (ts ++ NotWord ∷ [])) m.2 (good_phase s ts NotWord g m.0 (not_part g.n s.phase m.0 g.back g.part m.1))
    ]

good_open : (s next : Outline) (ts : List Token) → Good s ts → after_open s ≡ Some next → Good next (ts ++ Open ∷ [])
good_open s next ts g h =
    elim (chosen (is_unit s.phase) _ _ _ h) [
      | inl p ↦ elim (chosen (has_room s) _ _ _ p.1) [
        | inl q ↦
            let d = deep s ts g p.0 q.0 in
            let is : record { alternatives = []; parts = []; frames = frames.Open s.alternatives s.parts ∷ s.frames; phase = phases.Unit } ≡ next = cc in
            subst (λ (o : Outline). Good o (ts ++ Open ∷ [])) is record { n = d.n; front = ts ++ Open ∷ []; back = []; is = sym (append-nil (ts ++ Open ∷ [])); before = (ts, [], refl, d.before, ([], [], refl, refl, refl)); part = refl }
        | inr q ↦ cc
      ]
      | inr p ↦ cc
    ]

wraps_whole : (s : Outline) (ts : List Token) (w : Cond × List Frame) → Good s ts → whole_unit s ≡ Some w → Wraps w s.alternatives s.parts ts
wraps_whole s ts w g h =
    let m = mapped (λ unit. wrapped unit s.frames) (read_unit s.phase) w h in
    let whole = wraps s.frames g.n s.alternatives s.parts m.0 g.front g.back g.before (unit_read g.n s.phase m.0 g.back g.part m.1) in
    subst (λ (x : Cond × List Frame). Wraps x s.alternatives s.parts ts) m.2 (subst (λ (z : List Token). Wraps (wrapped m.0 s.frames) s.alternatives s.parts z) (sym g.is) whole)

good_and : (s next : Outline) (ts : List Token) → Good s ts → after_and s ≡ Some next → Good next (ts ++ AndWord ∷ [])
good_and s next ts g h =
    let m = mapped (λ w. record { alternatives = s.alternatives; parts = s.parts ++ w.0 ∷ []; frames = w.1; phase = phases.Unit }) (whole_unit s) next h in
    let w = wraps_whole s ts m.0 g m.1 in
    let same : ts ++ AndWord ∷ [] ≡ (w.front ++ (w.back ++ AndWord ∷ [])) ++ [] = ap (λ (z : List Token). z ++ AndWord ∷ []) w.is ∙ simp (append_assoc, append-nil) in
    subst (λ (o : Outline). Good o (ts ++ AndWord ∷ [])) m.2 record { n = w.levels; front = w.front ++ (w.back ++ AndWord ∷ []); back = []; is = same; before = before_and m.0.1 w.levels s.alternatives s.parts m.0.0 w.front w.back w.free w.before w.unit; part = refl }

good_or : (s next : Outline) (ts : List Token) → Good s ts → after_or s ≡ Some next → Good next (ts ++ OrWord ∷ [])
good_or s next ts g h =
    let m = mapped (λ w. record { alternatives = s.alternatives ++ together (λ cs. roll-Cond (conds.All cs)) s.parts w.0 ∷ []; parts = []; frames = w.1; phase = phases.Unit }) (whole_unit s) next h in
    let w = wraps_whole s ts m.0 g m.1 in
    let same : ts ++ OrWord ∷ [] ≡ (w.front ++ (w.back ++ OrWord ∷ [])) ++ [] = ap (λ (z : List Token). z ++ OrWord ∷ []) w.is ∙ simp (append_assoc, append-nil) in
    subst (λ (o : Outline). Good o (ts ++ OrWord ∷ [])) m.2 record { n = w.levels; front = w.front ++ (w.back ++ OrWord ∷ []); back = []; is = same; before = before_or m.0.1 w.levels s.alternatives s.parts m.0.0 w.front w.back w.free w.before w.unit; part = refl }

left_group : (fs : List Frame) (n : ℕ) (alternatives parts : List Cond) (unit : Cond) (next : Outline) (ts u : List Token) → Before fs n alternatives parts ts → IsUnit n unit u → left (group alternatives parts unit) fs ≡ Some next → Good next ((ts ++ u) ++ Close ∷ [])
left_group [] n alternatives parts unit next ts u b i h = cc
left_group (frames.Not ∷ outer) n alternatives parts unit next ts u b i h = cc
left_group (frames.Open others rest ∷ outer) n alternatives parts unit next ts u (t, g, e, b, inside) i h =
    let is : record { alternatives = others; parts = rest; frames = outer; phase = phases.Done (group alternatives parts unit) } ≡ next = cc in
    let same : (ts ++ u) ++ Close ∷ [] ≡ t ++ (Open ∷ ((g ++ u) ++ Close ∷ [])) = ap (λ (z : List Token). (z ++ u) ++ Close ∷ []) e ∙ simp append_assoc in
    subst (λ (o : Outline). Good o ((ts ++ u) ++ Close ∷ [])) is record {
      n = suc n;
      front = t;
      back = Open ∷ ((g ++ u) ++ Close ∷ []);
      is = same;
      before = b;
      part = inr (inr (g ++ u, refl, group_whole n alternatives parts unit g u inside i));
    }

good_close : (s next : Outline) (ts : List Token) → Good s ts → after_close s ≡ Some next → Good next (ts ++ Close ∷ [])
good_close s next ts g h =
    let m = bound (whole_unit s) (λ w. left (group s.alternatives s.parts w.0) w.1) next h in
    let w = wraps_whole s ts m.0 g m.1 in
    subst (λ (z : List Token). Good next (z ++ Close ∷ [])) (sym w.is) (left_group m.0.1 w.levels s.alternatives s.parts m.0.0 next w.front w.back w.before w.unit m.2)

pub good_step : (s next : Outline) (ts : List Token) (token : Token) → Good s ts → step s token ≡ Some next → Good next (ts ++ token ∷ [])
good_step s next ts OrWord g h = good_or s next ts g h
good_step s next ts AndWord g h = good_and s next ts g h
good_step s next ts NotWord g h = good_not s next ts g h
good_step s next ts IsWord g h = good_inner s next ts IsWord g h
good_step s next ts LikeWord g h = good_inner s next ts LikeWord g h
good_step s next ts (Operand atom) g h = good_inner s next ts (Operand atom) g h
good_step s next ts (Compared how) g h = good_inner s next ts (Compared how) g h
good_step s next ts Plus g h = good_inner s next ts Plus g h
good_step s next ts Minus g h = good_inner s next ts Minus g h
good_step s next ts Times g h = good_inner s next ts Times g h
good_step s next ts Open g h = good_open s next ts g h
good_step s next ts Close g h = good_close s next ts g h

ended_whole : (fs : List Frame) (n : ℕ) (alternatives parts : List Cond) (unit condition : Cond) (ts u : List Token) → Before fs n alternatives parts ts → IsUnit n unit u → ended (group alternatives parts unit) fs ≡ Some condition → IsAnyOf (IsUnit 64) condition (ts ++ u)
ended_whole [] n alternatives parts unit condition ts u (e, inside) i h =
    let is : group alternatives parts unit ≡ condition = cc in
    let whole = group_whole n alternatives parts unit ts u inside i in
    subst (λ (c : Cond). IsAnyOf (IsUnit 64) c (ts ++ u)) is (subst (λ (m : ℕ). IsAnyOf (IsUnit m) (group alternatives parts unit) (ts ++ u)) e whole)
ended_whole (frame ∷ outer) n alternatives parts unit condition ts u b i h = cc

pub good_finish : (s : Outline) (ts : List Token) (condition : Cond) → Good s ts → finish s ≡ Some condition → IsAnyOf (IsUnit 64) condition ts
good_finish s ts condition g h =
    let m = bound (whole_unit s) (λ w. ended (group s.alternatives s.parts w.0) w.1) condition h in
    let w = wraps_whole s ts m.0 g m.1 in
    subst (λ (z : List Token). IsAnyOf (IsUnit 64) condition z) (sym w.is) (ended_whole m.0.1 w.levels s.alternatives s.parts m.0.0 condition w.front w.back w.before w.unit m.2)

-- space before tokens

pub spaced : (text : List ℕ) → (space : List ℕ) × (text ≡ space ++ behind_space text) × (list_all is_space space ≡ true)
spaced [] = ([], refl, refl)
spaced (b ∷ text) =
    let more = spaced text in
    let P : List ℕ → Type 0 = λ z. (space : List ℕ) × (b ∷ text ≡ space ++ z) × (list_all is_space space ≡ true) in
    elim (chosen (is_space b) (behind_space text) (b ∷ text) _ refl) [
      | inl p ↦ subst P p.1 (b ∷ more.0, ap (λ (z : List ℕ). b ∷ z) more.1, and_from _ _ p.0 more.2)
      | inr p ↦ subst P p.1 ([], refl, refl)
    ]

all_append : (xs ys : List ℕ) → list_all is_space xs ≡ true → list_all is_space ys ≡ true → list_all is_space (xs ++ ys) ≡ true
all_append [] ys a b = b
all_append (x ∷ xs) ys a b = let both = and_parts _ _ a in and_from _ _ both.0 (all_append xs ys both.1 b)

pub tokens_behind_space : (tokens : List Token) (text : List ℕ) → HasTokens tokens (behind_space text) → HasTokens tokens text
tokens_behind_space [] text h =
    let sp = spaced text in
    subst (λ (z : List ℕ). list_all is_space z ≡ true) (sym sp.1) (all_append sp.0 (behind_space text) sp.2 h)
tokens_behind_space (token ∷ tokens) text (space, word, rest, e, blank, spells, ends, more) =
    let sp = spaced text in
    (sp.0 ++ space, word, rest, sp.1 ∙ ap (λ (z : List ℕ). sp.0 ++ z) e ∙ sym (append_assoc sp.0 space (word ++ rest)), all_append sp.0 space sp.2 blank, spells, ends, more)

pub reads_tokens : (s : Outline) (text : List ℕ) (ts : List Token) (out : Result Cond (List ℕ)) (condition : Cond) → Reads s text out → out ≡ Ok condition → IsUtf8 text → Good s ts → (tokens : List Token) × HasTokens tokens text × IsAnyOf (IsUnit 64) condition (ts ++ tokens)
reads_tokens _ _ ts _ condition (Ends s found f) e u g =
    let is : found ≡ condition = cc in
    ([], refl, subst (λ (z : List Token). IsAnyOf (IsUnit 64) condition z) (sym (append-nil ts)) (subst (λ (c : Cond). IsAnyOf (IsUnit 64) c ts) is (good_finish s ts found g f)))
reads_tokens _ _ ts _ condition (Short s f) e u g = cc
reads_tokens _ _ ts _ condition (Steps s next text rest token out f h r) e u g =
    let takes = token_taken s text (token, rest) u f in
    let more = reads_tokens next (behind_space rest) (ts ++ token ∷ []) out condition r e (space_utf8 rest (takes.utf8 u)) (good_step s next ts token g h) in (
      token ∷ more.0,
      ([], takes.word, rest, takes.split, refl, takes.spells, takes.ends, tokens_behind_space more.0 rest more.1),
      subst (λ (z : List Token). IsAnyOf (IsUnit 64) condition z) (append_assoc ts (token ∷ []) more.0) more.2,
    )
reads_tokens _ _ ts _ condition (Fails s text rest n f) e u g = cc

-- what is read is a text of its condition
pub read_is_text : (text : List ℕ) (condition : Cond) → IsUtf8 text → Reads start (behind_space text) (Ok condition) → IsTextOf text condition
read_is_text text condition u r =
    let found = reads_tokens start (behind_space text) [] (Ok condition) condition r refl (space_utf8 text u) good_start in
    (u, (found.0, tokens_behind_space found.0 text found.1, found.2))
