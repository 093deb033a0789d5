-- Where no fault was found, none is told.
use Rattle.std.proofs.Common.{◌≡◌, Option, None, Some, false, refl}
use Rattle.std.specs.Option.{is_some}
use Rattle.rule_conditions.specs.Faults.{fault_told}
use Rattle.rule_conditions.specs.declared.fault.Found.{Found}

pub none_told : (found : Option Found) → is_some found ≡ false → fault_told found ≡ None
none_told None h = refl
none_told (Some fault) h = cc
