-- What is told where a text is not taken as a condition.
use Rattle.std.specs.Prelude.{◌≡◌, Result, Err}
use Rattle.queue_rows.specs.declared.reply.ConditionFault.{ConditionFault}
use Rattle.rule_checks.specs.declared.fault.CheckFault.{CheckFault}
use Rattle.rule_checks.specs.declared.fault.CheckFault.TheVariants as faults

-- a refusal is the one that is meant; want of memory says nothing
abbrev pub IsToldOf : {T : Type 0} → CheckFault → Result T ConditionFault → Type 0
IsToldOf (faults.Refused fault) meant = meant ≡ Err fault
IsToldOf faults.Memory meant = Unit {0}
