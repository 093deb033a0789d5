-- Readable sums and tests are texts of the grammar as printed.
use Rattle.std.proofs.Common.{◌≡◌, ◌&&◌, ℕ, List, [], ◌∷◌, ◌++◌, Bool, true, false, not, map, refl, ap, sym, subst, append-nil, inl, inr, codes}
use Rattle.std.specs.Bool.{IsTrue}
use Rattle.std.specs.List.{list_all}
use Rattle.std.proofs.lemmas.Bool.{and_parts}
use Rattle.rule_conditions.specs.Grammar.{IsSeparated, IsAtom, IsProduct, sign, AreTermsAfter, AreTerms, IsSum, IsTest, not_if}
use Rattle.rule_conditions.specs.Print.{atom_text, joined, product_text, sign_text, terms_after, terms_text, first_text, sum_text, cmp_text, null_text, like_text, quoted}
use Rattle.rule_conditions.specs.Tokens.{Token, NotWord, IsWord, LikeWord, Operand, Compared, Plus, Minus, Times}
use Rattle.rule_conditions.specs.declared.condition.Atom.{Atom}
use Rattle.rule_conditions.specs.declared.condition.Atom.TheVariants as atoms
use Rattle.rule_conditions.specs.declared.condition.Cmp.{Cmp}
use Rattle.rule_conditions.specs.declared.condition.Cmp.TheVariants as cmps
use Rattle.rule_conditions.specs.declared.condition.Cond.{roll-Cond}
use Rattle.rule_conditions.specs.declared.condition.Cond.TheOpen.{Compare, IsNull, Like}
use Rattle.rule_conditions.specs.declared.condition.Sum.{Sum}
use Rattle.rule_conditions.specs.declared.condition.Term.{Term}
use Rattle.rule_text.specs.PrintReadable.{is_content, is_spelled, is_readable_product, is_readable_term, is_readable_sum}
use Rattle.rule_text.proofs.PrintAtoms.{spells_atom, atom_utf8}
use Rattle.rule_text.proofs.PrintSpelling.{Ends, Behind, Gap, ascii, one_ends, one_leads, one_gap, nothing_behind, lead, gap_then, trail}

-- tokens of a thing, as a text spells them
pub record Reprint {X : Type 0} (IsX : X → List Token → Type 0) (x : X) (text : List ℕ) : Type 0 where
  pub tokens : List Token
  pub is : IsX x tokens
  pub ends : Ends tokens text

-- items with a token between two
module _ {Y X : Type 0} (item : Y → X) (IsItem : X → List Token → Type 0) (text : X → List ℕ) (good : Y → Bool) (between : Token) (words : List ℕ) (gap : Gap (between ∷ []) words)
    (each : (y : Y) → IsTrue (good y) → Reprint IsItem (item y) (text (item y))) where
  pub separated : (first : Y) (others : List Y) → IsTrue (list_all good (first ∷ others))
      → Reprint (IsSeparated IsItem between) (map item (first ∷ others)) (joined words (map text (map item (first ∷ others))))
  separated first [] h =
      let r = each first (and_parts (good first) true h).0 in
      record { tokens = r.tokens; is = r.is; ends = subst (λ x. Ends r.tokens x) (sym (append-nil (text (item first)))) r.ends }
  separated first (next ∷ others) h =
      let tests = and_parts (good first) (list_all good (next ∷ others)) h in
      let r = each first tests.0 in
      let q = separated next others tests.1 in
      record {
        tokens = r.tokens ++ between ∷ q.tokens;
        is = (r.tokens, q.tokens, refl, r.is, q.is);
        ends = trail r.tokens (between ∷ q.tokens) (text (item first)) _ r.ends
            (gap_then (between ∷ []) q.tokens words (joined words (map text (map item (next ∷ others)))) gap q.ends);
      }

atom_ends : (a : Atom) → IsTrue (is_spelled a) → Ends (Operand a ∷ []) (atom_text a)
atom_ends a h = one_ends (Operand a) (atom_text a) (atom_utf8 a h) (spells_atom a h)

atom : (a : Atom) → IsTrue (is_spelled a) → Reprint IsAtom a (atom_text a)
atom a h = record { tokens = Operand a ∷ []; is = refl; ends = atom_ends a h }

map-same : (xs : List Atom) → map (λ (x : Atom). x) xs ≡ xs
map-same [] = refl
map-same (x ∷ xs) = ap (λ ys. x ∷ ys) (map-same xs)

product : (factors : List Atom) → IsTrue (is_readable_product factors) → Reprint IsProduct factors (product_text factors)
product [] h = cc
product (first ∷ others) h =
    subst (λ x. Reprint IsProduct x (product_text x)) (map-same (first ∷ others))
    (separated (λ (a : Atom). a) IsAtom atom_text is_spelled Times (codes " * ") (one_gap Times (codes "*") (ascii _ refl) refl) atom first others h)

sign_gap : (minus : Bool) → Gap (sign minus ∷ []) (sign_text minus)
sign_gap true = one_gap Minus (codes "-") (ascii _ refl) refl
sign_gap false = one_gap Plus (codes "+") (ascii _ refl) refl

record AfterFirst (terms : List Term) : Type 0 where
  tokens : List Token
  is : AreTermsAfter terms tokens
  behind : Behind tokens (terms_after terms)

after_first : (terms : List Term) → IsTrue (list_all is_readable_term terms) → AfterFirst terms
after_first [] h = record { tokens = []; is = refl; behind = nothing_behind }
after_first (term ∷ terms) h =
    let tests = and_parts (is_readable_term term) (list_all is_readable_term terms) h in
    let r = product term.product.atoms tests.0 in
    let q = after_first terms tests.1 in
    record {
      tokens = sign term.minus ∷ (r.tokens ++ q.tokens);
      is = (r.tokens, q.tokens, refl, r.is, q.is);
      behind = gap_then (sign term.minus ∷ []) (r.tokens ++ q.tokens) (sign_text term.minus) _ (sign_gap term.minus)
          (trail r.tokens q.tokens (product_text term.product.atoms) (terms_after terms) r.ends q.behind);
    }

is_false : (b : Bool) → IsTrue (not b) → b ≡ false
is_false true h = sym h
is_false false h = refl

unsigned : (term : Term) → term.minus ≡ false → first_text term ≡ product_text term.product.atoms
unsigned term h = rw h refl

all_terms : (terms : List Term) → IsTrue (is_readable_sum terms) → Reprint AreTerms terms (terms_text terms)
all_terms [] h = cc
all_terms (term ∷ terms) h =
    let tests = and_parts (not term.minus) (list_all is_readable_term (term ∷ terms)) h in
    let plain = is_false term.minus tests.0 in
    let each = and_parts (is_readable_term term) (list_all is_readable_term terms) tests.1 in
    let r = product term.product.atoms each.0 in
    let q = after_first terms each.1 in
    record {
      tokens = r.tokens ++ q.tokens;
      is = (r.tokens, q.tokens, refl, plain, r.is, q.is);
      ends = trail r.tokens q.tokens (first_text term) (terms_after terms) (subst (λ x. Ends r.tokens x) (sym (unsigned term plain)) r.ends) q.behind;
    }

sum_reprint : (s : Sum) → IsTrue (is_readable_sum s.terms) → Reprint IsSum s (sum_text s)
sum_reprint s h =
    let r = all_terms s.terms h in
    record { tokens = r.tokens; is = r.is; ends = r.ends }

cmp_gap : (how : Cmp) → Gap (Compared how ∷ []) (cmp_text how)
cmp_gap cmps.Equal = one_gap (Compared cmps.Equal) (codes "=") (ascii _ refl) refl
cmp_gap cmps.Unequal = one_gap (Compared cmps.Unequal) (codes "<>") (ascii _ refl) (inl refl)
cmp_gap cmps.Less = one_gap (Compared cmps.Less) (codes "<") (ascii _ refl) refl
cmp_gap cmps.LessEqual = one_gap (Compared cmps.LessEqual) (codes "<=") (ascii _ refl) refl
cmp_gap cmps.Greater = one_gap (Compared cmps.Greater) (codes ">") (ascii _ refl) refl
cmp_gap cmps.GreaterEqual = one_gap (Compared cmps.GreaterEqual) (codes ">=") (ascii _ refl) refl

null_word : Ends (Operand atoms.Null ∷ []) (codes "NULL")
null_word = one_ends (Operand atoms.Null) (codes "NULL") (ascii _ refl) refl

null_behind : (not_null : Bool) → Behind (IsWord ∷ not_if not_null (Operand atoms.Null ∷ [])) (null_text not_null)
null_behind true =
    gap_then (IsWord ∷ []) (NotWord ∷ Operand atoms.Null ∷ []) (codes " IS ") (codes "NOT NULL") (one_gap IsWord (codes "IS") (ascii _ refl) refl)
    (lead (NotWord ∷ []) (Operand atoms.Null ∷ []) (codes "NOT ") (codes "NULL") (one_leads NotWord (codes "NOT") (ascii _ refl) refl) null_word)
null_behind false =
    gap_then (IsWord ∷ []) (Operand atoms.Null ∷ []) (codes " IS ") (codes "NULL") (one_gap IsWord (codes "IS") (ascii _ refl) refl) null_word

like_behind : (not_like : Bool) (pattern : List ℕ) → IsTrue (is_content pattern)
    → Behind (not_if not_like (LikeWord ∷ Operand (atoms.Text pattern) ∷ [])) (like_text not_like ++ quoted pattern)
like_behind true pattern h =
    gap_then (NotWord ∷ []) (LikeWord ∷ Operand (atoms.Text pattern) ∷ []) (codes " NOT ") (codes "LIKE " ++ quoted pattern) (one_gap NotWord (codes "NOT") (ascii _ refl) refl)
    (lead (LikeWord ∷ []) (Operand (atoms.Text pattern) ∷ []) (codes "LIKE ") (quoted pattern) (one_leads LikeWord (codes "LIKE") (ascii _ refl) refl) (atom_ends (atoms.Text pattern) h))
like_behind false pattern h =
    gap_then (LikeWord ∷ []) (Operand (atoms.Text pattern) ∷ []) (codes " LIKE ") (quoted pattern) (one_gap LikeWord (codes "LIKE") (ascii _ refl) refl)
    (atom_ends (atoms.Text pattern) h)

pub comparison : (left : Sum) (how : Cmp) (right : Sum) → IsTrue (is_readable_sum left.terms && is_readable_sum right.terms)
    → Reprint IsTest (roll-Cond (Compare left how right)) (sum_text left ++ (cmp_text how ++ sum_text right))
comparison left how right h =
    let tests = and_parts (is_readable_sum left.terms) (is_readable_sum right.terms) h in
    let l = sum_reprint left tests.0 in
    let r = sum_reprint right tests.1 in
    record {
      tokens = l.tokens ++ Compared how ∷ r.tokens;
      is = inl (left, how, right, l.tokens, r.tokens, refl, refl, l.is, r.is);
      ends = trail l.tokens (Compared how ∷ r.tokens) (sum_text left) _ l.ends (gap_then (Compared how ∷ []) r.tokens (cmp_text how) (sum_text right) (cmp_gap how) r.ends);
    }

pub null_test : (operand : Sum) (not_null : Bool) → IsTrue (is_readable_sum operand.terms)
    → Reprint IsTest (roll-Cond (IsNull operand not_null)) (sum_text operand ++ null_text not_null)
null_test operand not_null h =
    let l = sum_reprint operand h in
    record {
      tokens = l.tokens ++ IsWord ∷ not_if not_null (Operand atoms.Null ∷ []);
      is = inr (inl (operand, not_null, l.tokens, refl, refl, l.is));
      ends = trail l.tokens _ (sum_text operand) (null_text not_null) l.ends (null_behind not_null);
    }

pub like_test : (operand : Sum) (pattern : List ℕ) (not_like : Bool) → IsTrue (is_readable_sum operand.terms && is_content pattern)
    → Reprint IsTest (roll-Cond (Like operand pattern not_like)) (sum_text operand ++ (like_text not_like ++ quoted pattern))
like_test operand pattern not_like h =
    let tests = and_parts (is_readable_sum operand.terms) (is_content pattern) h in
    let l = sum_reprint operand tests.0 in
    record {
      tokens = l.tokens ++ not_if not_like (LikeWord ∷ Operand (atoms.Text pattern) ∷ []);
      is = inr (inr (operand, pattern, not_like, l.tokens, refl, refl, l.is));
      ends = trail l.tokens _ (sum_text operand) (like_text not_like ++ quoted pattern) l.ends (like_behind not_like pattern tests.1);
    }
