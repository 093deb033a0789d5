-- The print of a condition by the parts that it is made of.
use Rattle.std.proofs.Common.{◌≡◌, ◌++◌, ℕ, List, Bool, map, codes, ap, sym, ◌∙◌}
use Rattle.rule_conditions.specs.Print.{Printed, print_step, printed, print, joined, in_any, in_all, sum_text, cmp_text, null_text, like_text, quoted}
use Rattle.rule_conditions.specs.declared.condition.Cmp.{Cmp}
use Rattle.rule_conditions.specs.declared.condition.Cond.{Cond}
use Rattle.rule_conditions.specs.declared.condition.Cond.TheVariants as conditions
use Rattle.rule_conditions.specs.declared.condition.Cond.TheVariants.{rolls-Any, rolls-All, rolls-Not, rolls-Compare, rolls-IsNull, rolls-Like}
use Rattle.rule_conditions.specs.declared.condition.Cond.TheOpen.{Any, All, Not, Compare, IsNull, Like}
use Rattle.rule_conditions.specs.declared.condition.Cond.TheFolds.{fold-roll-Cond}
use Rattle.rule_conditions.specs.declared.condition.Sum.{Sum}

module _ (c : Cond) where
  pub print_any : (parts : List Cond) → c ≡ conditions.Any parts → print c ≡ joined (codes " OR ") (map in_any (map printed parts))
  print_any parts is = ap print (is ∙ sym (rolls-Any parts)) ∙ ap (λ (p : Printed). p.text) (fold-roll-Cond Printed print_step (Any parts))

  pub print_all : (parts : List Cond) → c ≡ conditions.All parts → print c ≡ joined (codes " AND ") (map in_all (map printed parts))
  print_all parts is = ap print (is ∙ sym (rolls-All parts)) ∙ ap (λ (p : Printed). p.text) (fold-roll-Cond Printed print_step (All parts))

  pub print_not : (part : Cond) → c ≡ conditions.Not part → print c ≡ codes "NOT " ++ in_all (printed part)
  print_not part is = ap print (is ∙ sym (rolls-Not part)) ∙ ap (λ (p : Printed). p.text) (fold-roll-Cond Printed print_step (Not part))

  pub print_compare : (left : Sum) (how : Cmp) (right : Sum) → c ≡ conditions.Compare left how right → print c ≡ sum_text left ++ (cmp_text how ++ sum_text right)
  print_compare left how right is = ap print (is ∙ sym (rolls-Compare left how right)) ∙ ap (λ (p : Printed). p.text) (fold-roll-Cond Printed print_step (Compare left how right))

  pub print_is_null : (sum : Sum) (not_null : Bool) → c ≡ conditions.IsNull sum not_null → print c ≡ sum_text sum ++ null_text not_null
  print_is_null sum not_null is = ap print (is ∙ sym (rolls-IsNull sum not_null)) ∙ ap (λ (p : Printed). p.text) (fold-roll-Cond Printed print_step (IsNull sum not_null))

  pub print_like : (sum : Sum) (pattern : List ℕ) (not_like : Bool) → c ≡ conditions.Like sum pattern not_like → print c ≡ sum_text sum ++ (like_text not_like ++ quoted pattern)
  print_like sum pattern not_like is = ap print (is ∙ sym (rolls-Like sum pattern not_like)) ∙ ap (λ (p : Printed). p.text) (fold-roll-Cond Printed print_step (Like sum pattern not_like))
