-- The branch that a test chooses.
use Rattle.std.proofs.Common.{◌≡◌, Bool, true, false, cond, refl}

pub yes_cond : {X : Type 0} (b : Bool) (x y : X) → b ≡ true → cond b x y ≡ x
yes_cond true x y e = refl
yes_cond false x y e = cc

pub no_cond : {X : Type 0} (b : Bool) (x y : X) → b ≡ false → cond b x y ≡ y
no_cond true x y e = cc
no_cond false x y e = refl
