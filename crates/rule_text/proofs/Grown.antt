-- What an outline says of the tokens that were read.
use Rattle.std.proofs.Common.{◌≡◌, inl, inr, ℕ, ◌+◌, ◌≤◌, List, [], ◌∷◌, ◌++◌, Bool, false, Some, length, refl, arith, sym, ◌∙◌, ap, subst, append_assoc, append-nil, suc, zero, length-append}
use Rattle.rule_conditions.specs.Tokens.{Token, OrWord, AndWord, NotWord, IsWord, LikeWord, Compared, Times, Open}
use Rattle.rule_conditions.specs.Grammar.{IsSeparated, IsOneOrMore, IsAtom, IsProduct, sign, AreTermsAfter, AreTerms, IsSum, IsTest, not_if, IsAllOf, IsAnyOf, IsUnit}
use Rattle.rule_conditions.specs.declared.condition.Cond.{Cond, roll-Cond}
use Rattle.rule_conditions.specs.declared.condition.Cond.TheOpen as conds
use Rattle.rule_conditions.specs.declared.condition.Term.{Term}
use Rattle.rule_conditions.specs.Outline.{together, group}
use Rattle.rule_text.specs.Outline.{closed, read_unit, wrapped}
use Rattle.rule_text.specs.declared.outline.Partial.{Partial}
use Rattle.rule_text.specs.declared.outline.Frame.{Frame}
use Rattle.rule_text.specs.declared.outline.Frame.TheVariants as frames
use Rattle.rule_text.specs.declared.outline.Phase.{Phase}
use Rattle.rule_text.specs.declared.outline.Phase.TheVariants as phases
use Rattle.rule_text.specs.declared.outline.Side.{Side}
use Rattle.rule_text.specs.declared.outline.Side.TheVariants as sides

-- lists with a token behind each item

abbrev pub AreBefore : {X : Type 0} → (X → List Token → Type 0) → Token → List X → List Token → Type 0
AreBefore IsItem between [] ts = ts ≡ []
AreBefore IsItem between (x ∷ xs) ts = (t : List Token) × (ts ≡ t ++ between ∷ []) × IsSeparated IsItem between (x ∷ xs) t

separated_more : {X : Type 0} (IsItem : X → List Token → Type 0) (between : Token) (x : X) (xs : List X) (y : X) (t u : List Token) → IsSeparated IsItem between (x ∷ xs) t → IsItem y u → IsSeparated IsItem between (x ∷ xs ++ y ∷ []) (t ++ between ∷ u)
separated_more IsItem between x [] y t u s i = (t, u, refl, s, i)
separated_more IsItem between x (next ∷ xs) y t u (first, rest, e, i0, s) i =
    (first, rest ++ between ∷ u, ap (λ (z : List Token). z ++ between ∷ u) e ∙ append_assoc first (between ∷ rest) (between ∷ u), i0, separated_more IsItem between next xs y rest u s i)

pub separated_last : {X : Type 0} (IsItem : X → List Token → Type 0) (between : Token) (xs : List X) (y : X) (ts u : List Token) → AreBefore IsItem between xs ts → IsItem y u → IsSeparated IsItem between (xs ++ y ∷ []) (ts ++ u)
separated_last IsItem between [] y ts u b i = subst (λ (z : List Token). IsItem y (z ++ u)) (sym b) i
separated_last IsItem between (x ∷ xs) y ts u (t, e, s) i =
    let same : t ++ between ∷ u ≡ ts ++ u = sym (append_assoc t (between ∷ []) u) ∙ ap (λ (z : List Token). z ++ u) (sym e) in
    let P : List Token → Type 0 = λ z. IsSeparated IsItem between (x ∷ xs ++ y ∷ []) z in
    subst P same (separated_more IsItem between x xs y t u s i)

pub before_more : {X : Type 0} (IsItem : X → List Token → Type 0) (between : Token) (xs : List X) (y : X) (ts u : List Token) → AreBefore IsItem between xs ts → IsItem y u → AreBefore IsItem between (xs ++ y ∷ []) ((ts ++ u) ++ between ∷ [])
before_more IsItem between [] y ts u b i = (ts ++ u, refl, separated_last IsItem between [] y ts u b i)
before_more IsItem between (x ∷ xs) y ts u b i = (ts ++ u, refl, separated_last IsItem between (x ∷ xs) y ts u b i)

pub together_is : (IsPart : Cond → List Token → Type 0) (between : Token) (many : List Cond → Cond) (parts : List Cond) (last : Cond) (ts u : List Token) → AreBefore IsPart between parts ts → IsPart last u → IsOneOrMore IsPart between many (together many parts last) (ts ++ u)
together_is IsPart between many [] last ts u b i = inl (subst (λ (z : List Token). IsPart last (z ++ u)) (sym b) i)
together_is IsPart between many (p ∷ ps) last ts u b i =
    let two : 2 ≤ length ((p ∷ ps) ++ last ∷ []) = omega (arith, length-append ps (last ∷ [])) in
    inr ((p ∷ ps) ++ last ∷ [], two, refl, separated_last IsPart between (p ∷ ps) last ts u b i)

-- groups

abbrev pub InGroup : ℕ → List Cond → List Cond → List Token → Type 0
InGroup n alternatives parts ts =
    (a : List Token) × (b : List Token) × (ts ≡ a ++ b) × AreBefore (IsAllOf (IsUnit n)) OrWord alternatives a × AreBefore (IsUnit n) AndWord parts b

-- so many levels are left, and these tokens stand before the unit
abbrev pub Before : List Frame → ℕ → List Cond → List Cond → List Token → Type 0
Before [] n alternatives parts ts = (n ≡ 64) × InGroup n alternatives parts ts
Before (frames.Not ∷ outer) n alternatives parts ts = (t : List Token) × (ts ≡ t ++ NotWord ∷ []) × Before outer (suc n) alternatives parts t
Before (frames.Open others left ∷ outer) n alternatives parts ts =
    (t : List Token) × (g : List Token) × (ts ≡ t ++ Open ∷ g) × Before outer (suc n) others left t × InGroup n alternatives parts g

pub levels : (fs : List Frame) (n : ℕ) (alternatives parts : List Cond) (ts : List Token) → Before fs n alternatives parts ts → n + length fs ≡ 64
levels [] n alternatives parts ts b = let e = b.0 in omega arith
levels (frames.Not ∷ outer) n alternatives parts ts b = let e = levels outer (suc n) alternatives parts b.0 b.2 in omega arith
levels (frames.Open others left ∷ outer) n alternatives parts ts b = let e = levels outer (suc n) others left b.0 b.3 in omega arith

group_and : (n : ℕ) (alternatives parts : List Cond) (unit : Cond) (g u : List Token) → InGroup n alternatives parts g → IsUnit n unit u → InGroup n alternatives (parts ++ unit ∷ []) (g ++ (u ++ AndWord ∷ []))
group_and n alternatives parts unit g u (a, b, e, any, all) i =
    let same : g ++ (u ++ AndWord ∷ []) ≡ a ++ ((b ++ u) ++ AndWord ∷ []) = ap (λ (z : List Token). z ++ (u ++ AndWord ∷ [])) e ∙ simp append_assoc in
    (a, (b ++ u) ++ AndWord ∷ [], same, any, before_more (IsUnit n) AndWord parts unit b u all i)

group_or : (n : ℕ) (alternatives parts : List Cond) (unit : Cond) (g u : List Token) → InGroup n alternatives parts g → IsUnit n unit u → InGroup n (alternatives ++ together (λ cs. roll-Cond (conds.All cs)) parts unit ∷ []) [] (g ++ (u ++ OrWord ∷ []))
group_or n alternatives parts unit g u (a, b, e, any, all) i =
    let whole = together_is (IsUnit n) AndWord (λ cs. roll-Cond (conds.All cs)) parts unit b u all i in
    let same : g ++ (u ++ OrWord ∷ []) ≡ ((a ++ (b ++ u)) ++ OrWord ∷ []) ++ [] = ap (λ (z : List Token). z ++ (u ++ OrWord ∷ [])) e ∙ simp (append_assoc, append-nil) in
    ((a ++ (b ++ u)) ++ OrWord ∷ [], [], same, before_more (IsAllOf (IsUnit n)) OrWord alternatives (together (λ cs. roll-Cond (conds.All cs)) parts unit) a (b ++ u) any whole, refl)

pub group_whole : (n : ℕ) (alternatives parts : List Cond) (unit : Cond) (g u : List Token) → InGroup n alternatives parts g → IsUnit n unit u → IsAnyOf (IsUnit n) (group alternatives parts unit) (g ++ u)
group_whole n alternatives parts unit g u (a, b, e, any, all) i =
    let whole = together_is (IsUnit n) AndWord (λ cs. roll-Cond (conds.All cs)) parts unit b u all i in
    let same : a ++ (b ++ u) ≡ g ++ u = sym (append_assoc a b u) ∙ ap (λ (z : List Token). z ++ u) (sym e) in
    let P : List Token → Type 0 = λ z. IsAnyOf (IsUnit n) (group alternatives parts unit) z in
    subst P same (together_is (IsAllOf (IsUnit n)) OrWord (λ cs. roll-Cond (conds.Any cs)) alternatives (together (λ cs. roll-Cond (conds.All cs)) parts unit) a (b ++ u) any whole)

-- no NOT stands innermost
abbrev pub IsFree : List Frame → Type 0
IsFree [] = Unit {0}
IsFree (frames.Not ∷ outer) = ⊥
IsFree (frames.Open others left ∷ outer) = Unit {0}

pub before_and : (fs : List Frame) (n : ℕ) (alternatives parts : List Cond) (unit : Cond) (ts u : List Token) → IsFree fs → Before fs n alternatives parts ts → IsUnit n unit u → Before fs n alternatives (parts ++ unit ∷ []) (ts ++ (u ++ AndWord ∷ []))
before_and [] n alternatives parts unit ts u free (e, g) i = (e, group_and n alternatives parts unit ts u g i)
before_and (frames.Not ∷ outer) n alternatives parts unit ts u free b i = absurd free
before_and (frames.Open others left ∷ outer) n alternatives parts unit ts u free (t, g, e, b, inside) i =
    (t, g ++ (u ++ AndWord ∷ []), ap (λ (z : List Token). z ++ (u ++ AndWord ∷ [])) e ∙ append_assoc t (Open ∷ g) (u ++ AndWord ∷ []), b, group_and n alternatives parts unit g u inside i)

pub before_or : (fs : List Frame) (n : ℕ) (alternatives parts : List Cond) (unit : Cond) (ts u : List Token) → IsFree fs → Before fs n alternatives parts ts → IsUnit n unit u → Before fs n (alternatives ++ together (λ cs. roll-Cond (conds.All cs)) parts unit ∷ []) [] (ts ++ (u ++ OrWord ∷ []))
before_or [] n alternatives parts unit ts u free (e, g) i = (e, group_or n alternatives parts unit ts u g i)
before_or (frames.Not ∷ outer) n alternatives parts unit ts u free b i = absurd free
before_or (frames.Open others left ∷ outer) n alternatives parts unit ts u free (t, g, e, b, inside) i =
    (t, g ++ (u ++ OrWord ∷ []), ap (λ (z : List Token). z ++ (u ++ OrWord ∷ [])) e ∙ append_assoc t (Open ∷ g) (u ++ OrWord ∷ []), b, group_or n alternatives parts unit g u inside i)

-- the unit with the NOT before it, and what stands before that
pub record Wraps (w : Cond × List Frame) (alternatives parts : List Cond) (ts : List Token) : Type 0 where
  pub levels : ℕ
  pub front : List Token
  pub back : List Token
  pub is : ts ≡ front ++ back
  pub free : IsFree w.1
  pub before : Before w.1 levels alternatives parts front
  pub unit : IsUnit levels w.0 back

pub wraps : (fs : List Frame) (n : ℕ) (alternatives parts : List Cond) (unit : Cond) (ts u : List Token) → Before fs n alternatives parts ts → IsUnit n unit u → Wraps (wrapped unit fs) alternatives parts (ts ++ u)
wraps [] n alternatives parts unit ts u b i = record { levels = n; front = ts; back = u; is = refl; free = tt; before = b; unit = i }
wraps (frames.Not ∷ outer) n alternatives parts unit ts u (t, e, b) i =
    let same : t ++ (NotWord ∷ u) ≡ ts ++ u = sym (append_assoc t (NotWord ∷ []) u) ∙ ap (λ (z : List Token). z ++ u) (sym e) in
    let P : List Token → Type 0 = λ z. Wraps (wrapped (roll-Cond (conds.Not unit)) outer) alternatives parts z in
    subst P same (wraps outer (suc n) alternatives parts (roll-Cond (conds.Not unit)) t (NotWord ∷ u) b (inr (inl (unit, u, refl, refl, i))))
wraps (frames.Open others left ∷ outer) n alternatives parts unit ts u b i = record { levels = n; front = ts; back = u; is = refl; free = tt; before = b; unit = i }

-- sums

abbrev pub TermsBefore : List Term → Bool → List Token → Type 0
TermsBefore [] minus ts = (minus ≡ false) × (ts ≡ [])
TermsBefore (x ∷ xs) minus ts = (t : List Token) × (ts ≡ t ++ sign minus ∷ []) × AreTerms (x ∷ xs) t

abbrev pub FactorRead : Partial → List Token → Type 0
FactorRead p ts = (a : List Token) × (b : List Token) × (ts ≡ a ++ b) × TermsBefore p.terms p.minus a × AreBefore IsAtom Times p.atoms b

abbrev pub OperatedRead : Partial → List Token → Type 0
OperatedRead p ts = (a : List Token) × (b : List Token) × (ts ≡ a ++ b) × TermsBefore p.terms p.minus a × IsProduct p.atoms b

after_more : (xs : List Term) (y : Term) (r b : List Token) → AreTermsAfter xs r → IsProduct y.product.atoms b → AreTermsAfter (xs ++ y ∷ []) (r ++ sign y.minus ∷ b)
after_more [] y r b e p = (b, [], ap (λ (z : List Token). z ++ sign y.minus ∷ b) e ∙ ap (λ (z : List Token). sign y.minus ∷ z) (sym (append-nil b)), p, refl)
after_more (x ∷ xs) y r b (product, rest, e, p0, others) p =
    (product, rest ++ sign y.minus ∷ b, ap (λ (z : List Token). z ++ sign y.minus ∷ b) e ∙ ap (λ (z : List Token). sign x.minus ∷ z) (append_assoc product rest (sign y.minus ∷ b)), p0, after_more xs y rest b others p)

closed_by : (terms : List Term) (y : Term) (a b : List Token) → TermsBefore terms y.minus a → IsProduct y.product.atoms b → AreTerms (terms ++ y ∷ []) (a ++ b)
closed_by [] y a b (m, e) p = (b, [], ap (λ (z : List Token). z ++ b) e ∙ sym (append-nil b), m, p, refl)
closed_by (x ∷ xs) y a b (t, e, (product, rest, e2, m, p0, others)) p = (
  product,
  rest ++ sign y.minus ∷ b,
  ap (λ (z : List Token). z ++ b) e ∙ append_assoc t (sign y.minus ∷ []) b ∙ ap (λ (z : List Token). z ++ sign y.minus ∷ b) e2 ∙ append_assoc product rest (sign y.minus ∷ b),
  m,
  p0,
  after_more xs y rest b others p,
)

pub sum_read : (p : Partial) (ts : List Token) → OperatedRead p ts → IsSum (closed p) ts
sum_read p ts (a, b, e, terms, product) =
    let P : List Token → Type 0 = λ z. IsSum (closed p) z in
    subst P (sym e) (closed_by p.terms (record { minus = p.minus; product = record { atoms = p.atoms } }) a b terms product)

-- units

abbrev pub SideRead : Side → List Token → Type 0
SideRead sides.Left ts = ts ≡ []
SideRead (sides.Right sum how) ts = (t : List Token) × (ts ≡ t ++ Compared how ∷ []) × IsSum sum t

-- these tokens of the unit were read
abbrev pub Part : ℕ → Phase → List Token → Type 0
Part n phases.Unit ts = ts ≡ []
Part n (phases.Factor side p) ts = (a : List Token) × (b : List Token) × (ts ≡ a ++ b) × SideRead side a × FactorRead p b
Part n (phases.Operated side p) ts = (a : List Token) × (b : List Token) × (ts ≡ a ++ b) × SideRead side a × OperatedRead p b
Part n (phases.Is sum) ts = (t : List Token) × (ts ≡ t ++ IsWord ∷ []) × IsSum sum t
Part n (phases.IsNot sum) ts = (t : List Token) × (ts ≡ t ++ IsWord ∷ NotWord ∷ []) × IsSum sum t
Part n (phases.NotLike sum) ts = (t : List Token) × (ts ≡ t ++ NotWord ∷ []) × IsSum sum t
Part n (phases.Like sum negated) ts = (t : List Token) × (ts ≡ t ++ not_if negated (LikeWord ∷ [])) × IsSum sum t
Part n (phases.Done unit) ts = IsUnit n unit ts

pub test_unit : (n : ℕ) (condition : Cond) (ts : List Token) → IsTest condition ts → IsUnit n condition ts
test_unit zero condition ts t = t
test_unit (suc n) condition ts t = inl t

pub unit_read : (n : ℕ) (phase : Phase) (unit : Cond) (u : List Token) → Part n phase u → read_unit phase ≡ Some unit → IsUnit n unit u
unit_read n phases.Unit unit u p e = cc
unit_read n (phases.Factor side q) unit u p e = cc
unit_read n (phases.Operated sides.Left q) unit u p e = cc
unit_read n (phases.Operated (sides.Right left how) q) unit u (a, b, e0, (t, e1, s), o) e =
    let is : roll-Cond (conds.Compare left how (closed q)) ≡ unit = cc in
    let same : u ≡ t ++ Compared how ∷ b = e0 ∙ ap (λ (z : List Token). z ++ b) e1 ∙ append_assoc t (Compared how ∷ []) b in
    test_unit n unit u (inl (left, how, closed q, t, b, sym is, same, s, sum_read q b o))
unit_read n (phases.Is sum) unit u p e = cc
unit_read n (phases.IsNot sum) unit u p e = cc
unit_read n (phases.NotLike sum) unit u p e = cc
unit_read n (phases.Like sum negated) unit u p e = cc
unit_read n (phases.Done done) unit u p e = let is : done ≡ unit = cc in subst (λ (c : Cond). IsUnit n c u) is p
