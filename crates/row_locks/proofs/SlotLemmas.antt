-- How the index of slots follows the marks that are taken out.
use Rattle.std.proofs.Common.{◌≡◌, ℕ, ◌+◌, ◌<◌, List, [], ◌∷◌, ◌++◌, take, length, Bool, true, false, cond, ◌||◌, Option, Some, None, slice_index_or, nat_eq, refl, sym, ◌∙◌, ap}
use Rattle.std.proofs.lemmas.Bool.{and_parts, and_from, eqb-true, eq-eqb}
use Rattle.std.proofs.lemmas.List.Folds.{list_any-append}
use Rattle.std.proofs.lemmas.List.{take_more}
use Rattle.slot_marks.specs.Marks.{is_on, has_slot}
use Rattle.row_locks.specs.Entries.{is_same_slot, present}
use Rattle.row_locks.proofs.IndexLemmas.{present_push_some, present_push_none}
use Rattle.slot_marks.specs.declared.mark.Mark.{Mark}
use Rattle.row_locks.specs.declared.slots.Hold.{Hold}

pub same_key : (a b : ℕ × ℕ) → is_same_slot a b ≡ true → a ≡ b
same_key a b h = let both = and_parts (nat_eq a.0 b.0) (nat_eq a.1 b.1) h in λ i. (eqb-true a.0 b.0 both.0 i, eqb-true a.1 b.1 both.1 i)

pub key_is : (a b : ℕ × ℕ) → a ≡ b → is_same_slot a b ≡ true
key_is a b e = and_from (nat_eq a.0 b.0) (nat_eq a.1 b.1) (eq-eqb a.0 b.0 (ap (λ k. k.0) e)) (eq-eqb a.1 b.1 (ap (λ k. k.1) e))

either : {X : Type 0} (a b : Bool) (none had : X) → cond b none (cond a none had) ≡ cond (a || b) none had
either true true none had = refl
either true false none had = refl
either false true none had = refl
either false false none had = refl

-- one more mark is taken out
pub taken_next : (marks : List Mark) (n : ℕ) (mark : Mark) (i s : ℕ) (had : Option Hold) → n < length marks → mark ≡ slice_index_or marks n mark
    → cond (is_same_slot (mark.id, mark.slot) (i, s)) None (cond (has_slot i s (take n marks)) None had) ≡ cond (has_slot i s (take (n + 1) marks)) None had
taken_next marks n mark i s had within is =
    let more : take (n + 1) marks ≡ take n marks ++ mark ∷ [] = take_more marks n mark within ∙ ap (λ x. take n marks ++ x ∷ []) (sym is) in
    let any : has_slot i s (take (n + 1) marks) ≡ has_slot i s (take n marks) || (is_on i s mark || false) = ap (has_slot i s) more ∙ list_any-append (is_on i s) (take n marks) (mark ∷ []) in
    either (has_slot i s (take n marks)) (is_on i s mark) None had
    ∙ ap (λ b. cond (has_slot i s (take n marks) || b) None had) (or_false (is_on i s mark))
    ∙ ap (λ b. cond b None had) (sym any)
  where
    or_false : (b : Bool) → b ≡ b || false
    or_false true = refl
    or_false false = refl

-- one more entry is gone over, which has a mark
pub present_some : (entries : List (Option Mark)) (n : ℕ) (entry : Option Mark) (mark : Mark) (i s : ℕ) (had : Option Hold) → n < length entries → entry ≡ slice_index_or entries n entry → entry ≡ Some mark
    → cond (is_same_slot (mark.id, mark.slot) (i, s)) None (cond (has_slot i s (present (take n entries))) None had) ≡ cond (has_slot i s (present (take (n + 1) entries))) None had
present_some entries n entry mark i s had within is some =
    let more : present (take (n + 1) entries) ≡ present (take n entries) ++ mark ∷ [] = ap present (take_more entries n entry within ∙ ap (λ x. take n entries ++ x ∷ []) (sym is)) ∙ present_push_some (take n entries) entry mark some in
    let any : has_slot i s (present (take (n + 1) entries)) ≡ has_slot i s (present (take n entries)) || (is_on i s mark || false) = ap (has_slot i s) more ∙ list_any-append (is_on i s) (present (take n entries)) (mark ∷ []) in
    either (has_slot i s (present (take n entries))) (is_on i s mark) None had
    ∙ ap (λ b. cond (has_slot i s (present (take n entries)) || b) None had) (or_no (is_on i s mark))
    ∙ ap (λ b. cond b None had) (sym any)
  where
    or_no : (b : Bool) → b ≡ b || false
    or_no true = refl
    or_no false = refl

-- or none
pub present_none : (entries : List (Option Mark)) (n : ℕ) (entry : Option Mark) → n < length entries → entry ≡ slice_index_or entries n entry → entry ≡ None
    → present (take (n + 1) entries) ≡ present (take n entries)
present_none entries n entry within is none = ap present (take_more entries n entry within ∙ ap (λ x. take n entries ++ x ∷ []) (sym is)) ∙ present_push_none (take n entries) entry none
