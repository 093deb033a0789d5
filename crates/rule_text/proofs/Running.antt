-- The tokens of a condition of the grammar take an outline to its end.
use Rattle.std.proofs.Common.{◌≡◌, inl, inr, ℕ, ◌+◌, ◌<◌, ◌≤◌, List, [], ◌∷◌, ◌++◌, Bool, true, false, Option, Some, length, refl, arith, sym, ◌∙◌, ap, subst, append_assoc, append-nil, suc, zero, option_map}
use Rattle.std.proofs.lemmas.Bool.{lt-ltb}
use Rattle.rule_conditions.specs.Tokens.{Token, OrWord, AndWord, NotWord, IsWord, LikeWord, Operand, Compared, Plus, Minus, Times, Open, Close}
use Rattle.rule_conditions.specs.Grammar.{IsSeparated, IsProduct, sign, AreTermsAfter, AreTerms, IsSum, IsComparison, IsNullTest, IsLikeTest, IsTest, not_if, IsAllOf, IsAnyOf, IsUnit}
use Rattle.rule_conditions.specs.declared.condition.Atom.{Atom}
use Rattle.rule_conditions.specs.declared.condition.Atom.TheVariants as atoms
use Rattle.rule_conditions.specs.declared.condition.Cond.{Cond, roll-Cond}
use Rattle.rule_conditions.specs.declared.condition.Cond.TheOpen as conds
use Rattle.rule_conditions.specs.declared.condition.Sum.{Sum}
use Rattle.rule_conditions.specs.declared.condition.Term.{Term}
use Rattle.rule_text.proofs.Grown.{IsFree}
use Rattle.rule_conditions.specs.Outline.{together, group}
use Rattle.rule_text.specs.Outline.{closed, with_sign, read_unit, wrapped, whole_unit, no_partial, with_atom, with_phase, phase_after, step, finish, start}
use Rattle.rule_text.specs.declared.outline.Outline.{Outline}
use Rattle.rule_text.specs.declared.outline.Partial.{Partial}
use Rattle.rule_text.specs.declared.outline.Frame.{Frame}
use Rattle.rule_text.specs.declared.outline.Frame.TheVariants as frames
use Rattle.rule_text.specs.declared.outline.Phase.{Phase}
use Rattle.rule_text.specs.declared.outline.Phase.TheVariants as phases
use Rattle.rule_text.specs.declared.outline.Side.{Side}
use Rattle.rule_text.specs.declared.outline.Side.TheVariants as sides

-- the tokens lead from one outline to another
abbrev pub Runs : Outline → List Token → Outline → Type 0
Runs s [] e = s ≡ e
Runs s (t ∷ ts) e = (next : Outline) × (step s t ≡ Some next) × Runs next ts e

pub runs_append : (a b : List Token) (s m e : Outline) → Runs s a m → Runs m b e → Runs s (a ++ b) e
runs_append [] b s m e r q = subst (λ (o : Outline). Runs o b e) (sym r) q
runs_append (t ∷ a) b s m e (next, h, r) q = (next, h, runs_append a b next m e r q)

-- the same inside a unit
abbrev pub PhaseRuns : Phase → List Token → Phase → Type 0
PhaseRuns ph [] e = ph ≡ e
PhaseRuns ph (t ∷ ts) e = (next : Phase) × (phase_after ph t ≡ Some next) × PhaseRuns next ts e

phase_append : (a b : List Token) (ph m e : Phase) → PhaseRuns ph a m → PhaseRuns m b e → PhaseRuns ph (a ++ b) e
phase_append [] b ph m e r q = subst (λ (p : Phase). PhaseRuns p b e) (sym r) q
phase_append (t ∷ a) b ph m e (next, h, r) q = (next, h, phase_append a b next m e r q)

step_inner : (s : Outline) (token : Token) (ph : Phase) → phase_after s.phase token ≡ Some ph → step s token ≡ Some (with_phase s ph)
step_inner s OrWord ph h = cc
step_inner s AndWord ph h = cc
step_inner s NotWord ph h = cc
step_inner s IsWord ph h = ap (λ (o : Option Phase). option_map (with_phase s) o) h
step_inner s LikeWord ph h = ap (λ (o : Option Phase). option_map (with_phase s) o) h
step_inner s (Operand atom) ph h = ap (λ (o : Option Phase). option_map (with_phase s) o) h
step_inner s (Compared how) ph h = ap (λ (o : Option Phase). option_map (with_phase s) o) h
step_inner s Plus ph h = ap (λ (o : Option Phase). option_map (with_phase s) o) h
step_inner s Minus ph h = ap (λ (o : Option Phase). option_map (with_phase s) o) h
step_inner s Times ph h = ap (λ (o : Option Phase). option_map (with_phase s) o) h
step_inner s Open ph h = cc
step_inner s Close ph h = cc

inner_runs : (ts : List Token) (s : Outline) (e : Phase) → PhaseRuns s.phase ts e → Runs s ts (with_phase s e)
inner_runs [] s e r = ap (with_phase s) r
inner_runs (t ∷ ts) s e (next, h, r) = (with_phase s next, step_inner s t next h, inner_runs ts (with_phase s next) e r)

-- sums

abbrev with_atoms : Partial → List Atom → Partial
with_atoms p more = record { terms = p.terms; minus = p.minus; atoms = p.atoms ++ more }

product_runs : (factors : List Atom) (side : Side) (p : Partial) (ts : List Token) → IsProduct factors ts → PhaseRuns (phases.Factor side p) ts (phases.Operated side (with_atoms p factors))
product_runs [] side p ts s = absurd s
product_runs (x ∷ []) side p ts s =
    subst (λ (z : List Token). PhaseRuns (phases.Factor side p) z (phases.Operated side (with_atoms p (x ∷ [])))) (sym s) (phases.Operated side (with_atom p x), refl, refl)
product_runs (x ∷ y ∷ xs) side p ts (first, rest, e, i, s) =
    let more = product_runs (y ∷ xs) side (with_atom p x) rest s in
    let same : with_atoms (with_atom p x) (y ∷ xs) ≡ with_atoms p (x ∷ y ∷ xs) =
    ap (λ (l : List Atom). let q : Partial = record { terms = p.terms; minus = p.minus; atoms = l } in q) (append_assoc p.atoms (x ∷ []) (y ∷ xs)) in
    let whole = subst (λ (q : Partial). PhaseRuns (phases.Factor side (with_atom p x)) rest (phases.Operated side q)) same more in
    subst (λ (z : List Token). PhaseRuns (phases.Factor side p) z (phases.Operated side (with_atoms p (x ∷ y ∷ xs))))
    (sym (e ∙ ap (λ (z : List Token). z ++ Times ∷ rest) i))
    (phases.Operated side (with_atom p x), refl, (phases.Factor side (with_atom p x), refl, whole))

sign_step : (side : Side) (p : Partial) (minus : Bool) → phase_after (phases.Operated side p) (sign minus) ≡ Some (phases.Factor side (with_sign p minus))
sign_step side p true = refl
sign_step side p false = refl

abbrev sum_of : List Term → Sum
sum_of terms = record { terms = terms }

terms_run : (terms : List Term) (side : Side) (p : Partial) (ts : List Token) → AreTermsAfter terms ts → (q : Partial) × PhaseRuns (phases.Operated side p) ts (phases.Operated side q) × (closed q ≡ sum_of ((closed p).terms ++ terms))
terms_run [] side p ts e = (
  p,
  subst (λ (z : List Token). PhaseRuns (phases.Operated side p) z (phases.Operated side p)) (sym e) refl,
  ap sum_of (sym (append-nil (closed p).terms)),
)
terms_run (term ∷ terms) side p ts (product, rest, e, s, others) =
    let signed = with_sign p term.minus in
    let first = product_runs term.product.atoms side signed product s in
    let more = terms_run terms side (with_atoms signed term.product.atoms) rest others in
    let whole = phase_append product rest (phases.Factor side signed) (phases.Operated side (with_atoms signed term.product.atoms)) (phases.Operated side more.0) first more.1 in (
      more.0,
      subst (λ (z : List Token). PhaseRuns (phases.Operated side p) z (phases.Operated side more.0)) (sym e) (phases.Factor side signed, sign_step side p term.minus, whole),
      more.2 ∙ ap sum_of (append_assoc (closed p).terms (term ∷ []) terms),
    )

abbrev SumRuns : Sum → Side → Phase → List Token → Type 0
SumRuns sum side from ts = (q : Partial) × PhaseRuns from ts (phases.Operated side q) × (closed q ≡ sum)

first_term_runs : (terms : List Term) (side : Side) (ts : List Token) → AreTerms terms ts → SumRuns (sum_of terms) side (phases.Factor side no_partial) ts
first_term_runs [] side ts s = absurd s
first_term_runs (term ∷ terms) side ts (product, rest, e, m, s, others) =
    let first = product_runs term.product.atoms side no_partial product s in
    let more = terms_run terms side (with_atoms no_partial term.product.atoms) rest others in
    let whole = phase_append product rest (phases.Factor side no_partial) (phases.Operated side (with_atoms no_partial term.product.atoms)) (phases.Operated side more.0) first more.1 in (
      more.0,
      subst (λ (z : List Token). PhaseRuns (phases.Factor side no_partial) z (phases.Operated side more.0)) (sym e) whole,
      more.2 ∙ ap (λ (b : Bool). let t : Term = record { minus = b; product = term.product } in sum_of (t ∷ terms)) (sym m),
    )

sum_runs : (sum : Sum) (side : Side) (ts : List Token) → IsSum sum ts → SumRuns sum side (phases.Factor side no_partial) ts
sum_runs sum side ts s = first_term_runs sum.terms side ts s

abbrev BeginsWithAtom : List Token → Type 0
BeginsWithAtom ts = (x : Atom) × (rest : List Token) × (ts ≡ Operand x ∷ rest)

product_first : (factors : List Atom) (ts : List Token) → IsProduct factors ts → BeginsWithAtom ts
product_first [] ts s = absurd s
product_first (x ∷ []) ts s = (x, [], s)
product_first (x ∷ y ∷ xs) ts (first, rest, e, i, s) = (x, Times ∷ rest, e ∙ ap (λ (z : List Token). z ++ Times ∷ rest) i)

terms_first : (terms : List Term) (ts : List Token) → AreTerms terms ts → BeginsWithAtom ts
terms_first [] ts s = absurd s
terms_first (term ∷ terms) ts (product, rest, e, m, s, others) =
    let f = product_first term.product.atoms product s in
    (f.0, f.1 ++ rest, e ∙ ap (λ (z : List Token). z ++ rest) f.2)

left_runs : (sum : Sum) (ts : List Token) → IsSum sum ts → SumRuns sum sides.Left phases.Unit ts
left_runs sum ts s =
    let r = sum_runs sum sides.Left ts s in
    let f = terms_first sum.terms ts s in
    let from : PhaseRuns (phases.Factor sides.Left no_partial) (Operand f.0 ∷ f.1) (phases.Operated sides.Left r.0) =
    subst (λ (z : List Token). PhaseRuns (phases.Factor sides.Left no_partial) z (phases.Operated sides.Left r.0)) f.2 r.1 in
    let unit : PhaseRuns phases.Unit (Operand f.0 ∷ f.1) (phases.Operated sides.Left r.0) = from in
    (r.0, subst (λ (z : List Token). PhaseRuns phases.Unit z (phases.Operated sides.Left r.0)) (sym f.2) unit, r.2)

-- units

abbrev pub seen : List Cond → List Cond → List Frame → Phase → Outline
seen alternatives parts fs phase = record { alternatives = alternatives; parts = parts; frames = fs; phase = phase }

-- the unit, where it was read to its end; what stands before it may be NOT
pub record Ran (alternatives parts : List Cond) (fs : List Frame) (condition : Cond) (ts : List Token) : Type 0 where
  pub last : Phase
  pub inner : List Frame
  pub unit : Cond
  pub runs : Runs (seen alternatives parts fs phases.Unit) ts (seen alternatives parts inner last)
  pub reads : read_unit last ≡ Some unit
  pub same : wrapped unit inner ≡ wrapped condition fs

ran_same : (alternatives parts : List Cond) (fs : List Frame) (condition other : Cond) (ts us : List Token) → condition ≡ other → ts ≡ us → Ran alternatives parts fs condition ts → Ran alternatives parts fs other us
ran_same alternatives parts fs condition other ts us e f r =
    subst (λ (z : List Token). Ran alternatives parts fs other z) f (subst (λ (c : Cond). Ran alternatives parts fs c ts) e r)

comparison_ran : (alternatives parts : List Cond) (fs : List Frame) (condition : Cond) (ts : List Token) → IsComparison condition ts → Ran alternatives parts fs condition ts
comparison_ran alternatives parts fs condition ts (left, how, right, before, after, e, f, s, t) =
    let l = left_runs left before s in
    let side = sides.Right (closed l.0) how in
    let r = sum_runs right side after t in
    let whole = phase_append before (Compared how ∷ after) phases.Unit (phases.Operated sides.Left l.0) (phases.Operated side r.0) l.1 (phases.Factor side no_partial, refl, r.1) in
    let found = roll-Cond (conds.Compare (closed l.0) how (closed r.0)) in
    let same : found ≡ condition = ap (λ (x : Sum). roll-Cond (conds.Compare x how (closed r.0))) l.2 ∙ ap (λ (x : Sum). roll-Cond (conds.Compare left how x)) r.2 ∙ sym e in
    ran_same alternatives parts fs found condition (before ++ Compared how ∷ after) ts same (sym f) record {
      last = phases.Operated side r.0;
      inner = fs;
      unit = found;
      runs = inner_runs (before ++ Compared how ∷ after) (seen alternatives parts fs phases.Unit) (phases.Operated side r.0) whole;
      reads = refl;
      same = refl;
    }

done_ran : (alternatives parts : List Cond) (fs : List Frame) (unit : Cond) (before after : List Token) (q : Partial) → PhaseRuns phases.Unit before (phases.Operated sides.Left q) →
    Runs (seen alternatives parts fs (phases.Operated sides.Left q)) after (seen alternatives parts fs (phases.Done unit)) → Ran alternatives parts fs unit (before ++ after)
done_ran alternatives parts fs unit before after q r more = record {
  last = phases.Done unit;
  inner = fs;
  unit = unit;
  runs = runs_append before after (seen alternatives parts fs phases.Unit) (seen alternatives parts fs (phases.Operated sides.Left q)) (seen alternatives parts fs (phases.Done unit))
      (inner_runs before (seen alternatives parts fs phases.Unit) (phases.Operated sides.Left q) r) more;
  reads = refl;
  same = refl;
}

null_runs : (alternatives parts : List Cond) (fs : List Frame) (q : Partial) (negated : Bool) →
    Runs (seen alternatives parts fs (phases.Operated sides.Left q)) (IsWord ∷ not_if negated (Operand atoms.Null ∷ [])) (seen alternatives parts fs (phases.Done (roll-Cond (conds.IsNull (closed q) negated))))
null_runs alternatives parts fs q true = (
  seen alternatives parts fs (phases.Is (closed q)),
  refl,
  (
    seen alternatives parts fs (phases.IsNot (closed q)),
    refl,
    (seen alternatives parts fs (phases.Done (roll-Cond (conds.IsNull (closed q) true))), refl, refl),
  ),
)
null_runs alternatives parts fs q false = (
  seen alternatives parts fs (phases.Is (closed q)),
  refl,
  (seen alternatives parts fs (phases.Done (roll-Cond (conds.IsNull (closed q) false))), refl, refl),
)

null_ran : (alternatives parts : List Cond) (fs : List Frame) (condition : Cond) (ts : List Token) → IsNullTest condition ts → Ran alternatives parts fs condition ts
null_ran alternatives parts fs condition ts (sum, negated, before, e, f, s) =
    let l = left_runs sum before s in
    let found = roll-Cond (conds.IsNull (closed l.0) negated) in
    let after = IsWord ∷ not_if negated (Operand atoms.Null ∷ []) in
    ran_same alternatives parts fs found condition (before ++ after) ts (ap (λ (x : Sum). roll-Cond (conds.IsNull x negated)) l.2 ∙ sym e) (sym f)
    (done_ran alternatives parts fs found before after l.0 l.1 (null_runs alternatives parts fs l.0 negated))

like_runs : (alternatives parts : List Cond) (fs : List Frame) (q : Partial) (pattern : List ℕ) (negated : Bool) →
    Runs (seen alternatives parts fs (phases.Operated sides.Left q)) (not_if negated (LikeWord ∷ Operand (atoms.Text pattern) ∷ [])) (seen alternatives parts fs (phases.Done (roll-Cond (conds.Like (closed q) pattern negated))))
like_runs alternatives parts fs q pattern true = (
  seen alternatives parts fs (phases.NotLike (closed q)),
  refl,
  (
    seen alternatives parts fs (phases.Like (closed q) true),
    refl,
    (seen alternatives parts fs (phases.Done (roll-Cond (conds.Like (closed q) pattern true))), refl, refl),
  ),
)
like_runs alternatives parts fs q pattern false = (
  seen alternatives parts fs (phases.Like (closed q) false),
  refl,
  (seen alternatives parts fs (phases.Done (roll-Cond (conds.Like (closed q) pattern false))), refl, refl),
)

like_ran : (alternatives parts : List Cond) (fs : List Frame) (condition : Cond) (ts : List Token) → IsLikeTest condition ts → Ran alternatives parts fs condition ts
like_ran alternatives parts fs condition ts (sum, pattern, negated, before, e, f, s) =
    let l = left_runs sum before s in
    let found = roll-Cond (conds.Like (closed l.0) pattern negated) in
    let after = not_if negated (LikeWord ∷ Operand (atoms.Text pattern) ∷ []) in
    ran_same alternatives parts fs found condition (before ++ after) ts (ap (λ (x : Sum). roll-Cond (conds.Like x pattern negated)) l.2 ∙ sym e) (sym f)
    (done_ran alternatives parts fs found before after l.0 l.1 (like_runs alternatives parts fs l.0 pattern negated))

test_ran : (alternatives parts : List Cond) (fs : List Frame) (condition : Cond) (ts : List Token) → IsTest condition ts → Ran alternatives parts fs condition ts
test_ran alternatives parts fs condition ts (inl t) = comparison_ran alternatives parts fs condition ts t
test_ran alternatives parts fs condition ts (inr (inl t)) = null_ran alternatives parts fs condition ts t
test_ran alternatives parts fs condition ts (inr (inr t)) = like_ran alternatives parts fs condition ts t

-- units with these levels left are read
abbrev UnitsRun : ℕ → Type 0
UnitsRun n = (condition : Cond) (ts : List Token) → IsUnit n condition ts → (alternatives parts : List Cond) (fs : List Frame) → n + length fs ≡ 64 → Ran alternatives parts fs condition ts

-- groups

free_wrapped : (unit : Cond) (fs : List Frame) → IsFree fs → wrapped unit fs ≡ (unit, fs)
free_wrapped unit [] free = refl
free_wrapped unit (frames.Not ∷ outer) free = absurd free
free_wrapped unit (frames.Open alternatives parts ∷ outer) free = refl

-- parts up to the last, which was read to its end
record RanParts (alternatives before : List Cond) (fs : List Frame) (ts : List Token) (Are : List Cond → Cond → Type 0) : Type 0 where
  pub parts : List Cond
  pub last : Phase
  pub inner : List Frame
  pub unit : Cond
  pub whole : Cond
  pub runs : Runs (seen alternatives before fs phases.Unit) ts (seen alternatives parts inner last)
  pub reads : read_unit last ≡ Some unit
  pub same : wrapped unit inner ≡ (whole, fs)
  pub are : Are parts whole

pub whole_is : (alternatives parts : List Cond) (inner : List Frame) (last : Phase) (unit : Cond) (w : Cond × List Frame) → read_unit last ≡ Some unit → wrapped unit inner ≡ w → whole_unit (seen alternatives parts inner last) ≡ Some w
whole_is alternatives parts inner last unit w e f =
    ap (λ (o : Option Cond). option_map (λ u. wrapped u inner) o) e ∙ ap (λ (x : Cond × List Frame). let o : Option (Cond × List Frame) = Some x in o) f

and_step : (alternatives parts : List Cond) (inner : List Frame) (last : Phase) (w : Cond × List Frame) → whole_unit (seen alternatives parts inner last) ≡ Some w → step (seen alternatives parts inner last) AndWord ≡ Some (seen alternatives (parts ++ w.0 ∷ []) w.1 phases.Unit)
and_step alternatives parts inner last w e = ap (λ (o : Option (Cond × List Frame)). option_map (λ x. seen alternatives (parts ++ x.0 ∷ []) x.1 phases.Unit) o) e

or_step : (alternatives parts : List Cond) (inner : List Frame) (last : Phase) (w : Cond × List Frame) → whole_unit (seen alternatives parts inner last) ≡ Some w →
    step (seen alternatives parts inner last) OrWord ≡ Some (seen (alternatives ++ together (λ cs. roll-Cond (conds.All cs)) parts w.0 ∷ []) [] w.1 phases.Unit)
or_step alternatives parts inner last w e = ap (λ (o : Option (Cond × List Frame)). option_map (λ x. seen (alternatives ++ together (λ cs. roll-Cond (conds.All cs)) parts x.0 ∷ []) [] x.1 phases.Unit) o) e

units_ran : (n : ℕ) → UnitsRun n → (items : List Cond) (ts : List Token) → IsSeparated (IsUnit n) AndWord items ts → (alternatives before : List Cond) (fs : List Frame) → IsFree fs → n + length fs ≡ 64 →
    RanParts alternatives before fs ts (λ parts whole. parts ++ whole ∷ [] ≡ before ++ items)
units_ran n run [] ts s alternatives before fs free e = absurd s
units_ran n run (x ∷ []) ts s alternatives before fs free e =
    let r = run x ts s alternatives before fs e in
    record { parts = before; last = r.last; inner = r.inner; unit = r.unit; whole = x; runs = r.runs; reads = r.reads; same = r.same ∙ free_wrapped x fs free; are = refl }
units_ran n run (x ∷ y ∷ items) ts (first, rest, f, i, s) alternatives before fs free e =
    let r = run x first i alternatives before fs e in
    let more = units_ran n run (y ∷ items) rest s alternatives (before ++ x ∷ []) fs free e in
    let goes = and_step alternatives before r.inner r.last (x, fs) (whole_is alternatives before r.inner r.last r.unit (x, fs) r.reads (r.same ∙ free_wrapped x fs free)) in
    let whole = runs_append first (AndWord ∷ rest) (seen alternatives before fs phases.Unit) (seen alternatives before r.inner r.last) (seen alternatives more.parts more.inner more.last) r.runs (seen alternatives (before ++ x ∷ []) fs phases.Unit, goes, more.runs) in
    record {
      parts = more.parts;
      last = more.last;
      inner = more.inner;
      unit = more.unit;
      whole = more.whole;
      runs = subst (λ (z : List Token). Runs (seen alternatives before fs phases.Unit) z (seen alternatives more.parts more.inner more.last)) (sym f) whole;
      reads = more.reads;
      same = more.same;
      are = more.are ∙ append_assoc before (x ∷ []) (y ∷ items);
    }

together_many : (many : List Cond → Cond) (parts : List Cond) (last : Cond) (all : List Cond) → 2 ≤ length all → parts ++ last ∷ [] ≡ all → together many parts last ≡ many all
together_many many [] last all two e = absurd (omega (arith, ap length e))
together_many many (p ∷ ps) last all two e = ap many e

all_ran : (n : ℕ) → UnitsRun n → (condition : Cond) (ts : List Token) → IsAllOf (IsUnit n) condition ts → (alternatives : List Cond) (fs : List Frame) → IsFree fs → n + length fs ≡ 64 →
    RanParts alternatives [] fs ts (λ parts whole. together (λ cs. roll-Cond (conds.All cs)) parts whole ≡ condition)
all_ran n run condition ts (inl i) alternatives fs free e =
    let r = run condition ts i alternatives [] fs e in
    record { parts = []; last = r.last; inner = r.inner; unit = r.unit; whole = condition; runs = r.runs; reads = r.reads; same = r.same ∙ free_wrapped condition fs free; are = refl }
all_ran n run condition ts (inr (parts, two, is, s)) alternatives fs free e =
    let r = units_ran n run parts ts s alternatives [] fs free e in
    record {
      parts = r.parts;
      last = r.last;
      inner = r.inner;
      unit = r.unit;
      whole = r.whole;
      runs = r.runs;
      reads = r.reads;
      same = r.same;
      are = together_many (λ cs. roll-Cond (conds.All cs)) r.parts r.whole parts two r.are ∙ sym is;
    }

-- alternatives up to the last, of which the last part was read to its end
record RanGroup (before : List Cond) (fs : List Frame) (ts : List Token) (Are : List Cond → List Cond → Cond → Type 0) : Type 0 where
  pub alternatives : List Cond
  pub parts : List Cond
  pub last : Phase
  pub inner : List Frame
  pub unit : Cond
  pub whole : Cond
  pub runs : Runs (seen before [] fs phases.Unit) ts (seen alternatives parts inner last)
  pub reads : read_unit last ≡ Some unit
  pub same : wrapped unit inner ≡ (whole, fs)
  pub are : Are alternatives parts whole

alls_ran : (n : ℕ) → UnitsRun n → (items : List Cond) (ts : List Token) → IsSeparated (IsAllOf (IsUnit n)) OrWord items ts → (before : List Cond) (fs : List Frame) → IsFree fs → n + length fs ≡ 64 →
    RanGroup before fs ts (λ alternatives parts whole. alternatives ++ together (λ cs. roll-Cond (conds.All cs)) parts whole ∷ [] ≡ before ++ items)
alls_ran n run [] ts s before fs free e = absurd s
alls_ran n run (x ∷ []) ts s before fs free e =
    let r = all_ran n run x ts s before fs free e in
    record { alternatives = before; parts = r.parts; last = r.last; inner = r.inner; unit = r.unit; whole = r.whole; runs = r.runs; reads = r.reads; same = r.same; are = ap (λ (c : Cond). before ++ c ∷ []) r.are }
alls_ran n run (x ∷ y ∷ items) ts (first, rest, f, i, s) before fs free e =
    let r = all_ran n run x first i before fs free e in
    let more = alls_ran n run (y ∷ items) rest s (before ++ x ∷ []) fs free e in
    let goes = or_step before r.parts r.inner r.last (r.whole, fs) (whole_is before r.parts r.inner r.last r.unit (r.whole, fs) r.reads r.same) in
    let there : step (seen before r.parts r.inner r.last) OrWord ≡ Some (seen (before ++ x ∷ []) [] fs phases.Unit) =
    goes ∙ ap (λ (c : Cond). let o : Option Outline = Some (seen (before ++ c ∷ []) [] fs phases.Unit) in o) r.are in
    let whole = runs_append first (OrWord ∷ rest) (seen before [] fs phases.Unit) (seen before r.parts r.inner r.last) (seen more.alternatives more.parts more.inner more.last) r.runs (seen (before ++ x ∷ []) [] fs phases.Unit, there, more.runs) in
    record {
      alternatives = more.alternatives;
      parts = more.parts;
      last = more.last;
      inner = more.inner;
      unit = more.unit;
      whole = more.whole;
      runs = subst (λ (z : List Token). Runs (seen before [] fs phases.Unit) z (seen more.alternatives more.parts more.inner more.last)) (sym f) whole;
      reads = more.reads;
      same = more.same;
      are = more.are ∙ append_assoc before (x ∷ []) (y ∷ items);
    }

any_ran : (n : ℕ) → UnitsRun n → (condition : Cond) (ts : List Token) → IsAnyOf (IsUnit n) condition ts → (fs : List Frame) → IsFree fs → n + length fs ≡ 64 →
    RanGroup [] fs ts (λ alternatives parts whole. group alternatives parts whole ≡ condition)
any_ran n run condition ts (inl i) fs free e =
    let r = all_ran n run condition ts i [] fs free e in
    record { alternatives = []; parts = r.parts; last = r.last; inner = r.inner; unit = r.unit; whole = r.whole; runs = r.runs; reads = r.reads; same = r.same; are = r.are }
any_ran n run condition ts (inr (all, two, is, s)) fs free e =
    let r = alls_ran n run all ts s [] fs free e in
    record {
      alternatives = r.alternatives;
      parts = r.parts;
      last = r.last;
      inner = r.inner;
      unit = r.unit;
      whole = r.whole;
      runs = r.runs;
      reads = r.reads;
      same = r.same;
      are = together_many (λ cs. roll-Cond (conds.Any cs)) r.alternatives (together (λ cs. roll-Cond (conds.All cs)) r.parts r.whole) all two r.are ∙ sym is;
    }

not_step : (alternatives parts : List Cond) (fs : List Frame) → length fs < 64 → step (seen alternatives parts fs phases.Unit) NotWord ≡ Some (seen alternatives parts (frames.Not ∷ fs) phases.Unit)
not_step alternatives parts fs h = let room = lt-ltb (length fs) 64 h in rw room refl

open_step : (alternatives parts : List Cond) (fs : List Frame) → length fs < 64 → step (seen alternatives parts fs phases.Unit) Open ≡ Some (seen [] [] (frames.Open alternatives parts ∷ fs) phases.Unit)
open_step alternatives parts fs h = let room = lt-ltb (length fs) 64 h in rw room refl

pub close_step : (others left alternatives parts : List Cond) (fs inner : List Frame) (last : Phase) (unit : Cond) → whole_unit (seen alternatives parts inner last) ≡ Some (unit, frames.Open others left ∷ fs) →
    step (seen alternatives parts inner last) Close ≡ Some (seen others left fs (phases.Done (group alternatives parts unit)))
close_step others left alternatives parts fs inner last unit e = rw e refl

open_ran : (n : ℕ) → UnitsRun n → (condition : Cond) (inside ts : List Token) → ts ≡ Open ∷ (inside ++ Close ∷ []) → IsAnyOf (IsUnit n) condition inside → (alternatives parts : List Cond) (fs : List Frame) → suc n + length fs ≡ 64 → Ran alternatives parts fs condition ts
open_ran n run condition inside ts f a alternatives parts fs e =
    let deep = frames.Open alternatives parts ∷ fs in
    let r = any_ran n run condition inside a deep tt (omega arith) in
    let less : length fs < 64 = omega arith in
    let closes = close_step alternatives parts r.alternatives r.parts fs r.inner r.last r.whole (whole_is r.alternatives r.parts r.inner r.last r.unit (r.whole, deep) r.reads r.same) in
    let there : step (seen r.alternatives r.parts r.inner r.last) Close ≡ Some (seen alternatives parts fs (phases.Done condition)) =
    closes ∙ ap (λ (c : Cond). let o : Option Outline = Some (seen alternatives parts fs (phases.Done c)) in o) r.are in
    let whole = runs_append inside (Close ∷ []) (seen [] [] deep phases.Unit) (seen r.alternatives r.parts r.inner r.last) (seen alternatives parts fs (phases.Done condition)) r.runs (seen alternatives parts fs (phases.Done condition), there, refl) in
    record {
      last = phases.Done condition;
      inner = fs;
      unit = condition;
      runs = subst (λ (z : List Token). Runs (seen alternatives parts fs phases.Unit) z (seen alternatives parts fs (phases.Done condition))) (sym f) (seen [] [] deep phases.Unit, open_step alternatives parts fs less, whole);
      reads = refl;
      same = refl;
    }

not_ran : (n : ℕ) → UnitsRun n → (condition part : Cond) (rest ts : List Token) → condition ≡ roll-Cond (conds.Not part) → ts ≡ NotWord ∷ rest → IsUnit n part rest → (alternatives parts : List Cond) (fs : List Frame) → suc n + length fs ≡ 64 → Ran alternatives parts fs condition ts
not_ran n run condition part rest ts is f i alternatives parts fs e =
    let r = run part rest i alternatives parts (frames.Not ∷ fs) (omega arith) in
    let less : length fs < 64 = omega arith in
    record {
      last = r.last;
      inner = r.inner;
      unit = r.unit;
      runs = subst (λ (z : List Token). Runs (seen alternatives parts fs phases.Unit) z (seen alternatives parts r.inner r.last)) (sym f) (seen alternatives parts (frames.Not ∷ fs) phases.Unit, not_step alternatives parts fs less, r.runs);
      reads = r.reads;
      same = r.same ∙ ap (λ (c : Cond). wrapped c fs) (sym is);
    }

units_run : (n : ℕ) → UnitsRun n
units_run zero condition ts t alternatives parts fs e = test_ran alternatives parts fs condition ts t
units_run (suc n) condition ts (inl t) alternatives parts fs e = test_ran alternatives parts fs condition ts t
units_run (suc n) condition ts (inr (inl (part, rest, is, f, i))) alternatives parts fs e = not_ran n (units_run n) condition part rest ts is f i alternatives parts fs e
units_run (suc n) condition ts (inr (inr (inside, f, a))) alternatives parts fs e = open_ran n (units_run n) condition inside ts f a alternatives parts fs e

finishes : (alternatives parts : List Cond) (inner : List Frame) (last : Phase) (unit : Cond) → whole_unit (seen alternatives parts inner last) ≡ Some (unit, []) → finish (seen alternatives parts inner last) ≡ Some (group alternatives parts unit)
finishes alternatives parts inner last unit e = rw e refl

-- a condition of the grammar is what its tokens lead to
any_runs : (n : ℕ) (condition : Cond) (ts : List Token) → n + 0 ≡ 64 → IsAnyOf (IsUnit n) condition ts → (last : Outline) × Runs start ts last × (finish last ≡ Some condition)
any_runs n condition ts e a =
    let r = any_ran n (units_run n) condition ts a [] tt e in
    let ends = finishes r.alternatives r.parts r.inner r.last r.whole (whole_is r.alternatives r.parts r.inner r.last r.unit (r.whole, []) r.reads r.same) in
    (seen r.alternatives r.parts r.inner r.last, r.runs, ends ∙ ap (λ (c : Cond). let o : Option Cond = Some c in o) r.are)

pub condition_runs : (condition : Cond) (ts : List Token) → IsAnyOf (IsUnit 64) condition ts → (last : Outline) × Runs start ts last × (finish last ≡ Some condition)
condition_runs condition ts a = any_runs 64 condition ts (omega arith) a
