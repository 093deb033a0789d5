-- Which command it is.
use Rattle.std.proofs.Common.{◌≡◌, ℕ, Bool, true, false, Option, Some, None}
use Rattle.std.specs.Prelude.{if◌then◌else◌}
use Rattle.aq_run.specs.Words.{serial_run}
use Rattle.aq_run.specs.declared.command.Command.{Command}
use Rattle.aq_run.specs.declared.command.Command.TheVariants.{Audit, Compact, Dump, Generate}

pub not_dump : {P : Type 0} (o : Option Command) → o ≡ Some Dump → o ≡ Some serial_run → P
not_dump o e f = absurd (cc)

pub not_compact : {P : Type 0} (o : Option Command) → o ≡ Some Compact → o ≡ Some serial_run → P
not_compact o e f = absurd (cc)

pub not_generate : {P : Type 0} (o : Option Command) (number sessions statements : ℕ) → o ≡ Some (Generate number sessions statements) → o ≡ Some serial_run → P
not_generate o number sessions statements e f = absurd (cc)

pub not_audit : {P : Type 0} (o : Option Command) → o ≡ Some Audit → o ≡ Some serial_run → P
not_audit o e f = absurd (cc)

pub not_none : {P : Type 0} (o : Option Command) → o ≡ None → o ≡ Some serial_run → P
not_none o e f = absurd (cc)
