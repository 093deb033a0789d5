-- Laws of OR and AND.
use Rattle.std.proofs.Common.{◌≡◌, refl}
use Rattle.rule_conditions.specs.Truth.{either, both}
use Rattle.rule_conditions.specs.declared.kleene.Truth.{Truth}
use Rattle.rule_conditions.specs.declared.kleene.Truth.TheVariants.{True, False, Unknown}

pub either_assoc : (a b c : Truth) → either (either a b) c ≡ either a (either b c)
either_assoc True b c = refl
either_assoc False b c = refl
either_assoc Unknown True c = refl
either_assoc Unknown False c = refl
either_assoc Unknown Unknown True = refl
either_assoc Unknown Unknown False = refl
either_assoc Unknown Unknown Unknown = refl

pub both_assoc : (a b c : Truth) → both (both a b) c ≡ both a (both b c)
both_assoc False b c = refl
both_assoc True b c = refl
both_assoc Unknown True c = refl
both_assoc Unknown False c = refl
both_assoc Unknown Unknown True = refl
both_assoc Unknown Unknown False = refl
both_assoc Unknown Unknown Unknown = refl
