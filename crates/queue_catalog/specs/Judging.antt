-- What is said of a statement that changes nothing.
use Rattle.std.specs.Prelude.{◌≡◌, Err}
use Rattle.queue_rows.specs.Catalog.{Judged}
use Rattle.queue_catalog.specs.declared.fault.CatalogFault.{CatalogFault}
use Rattle.queue_catalog.specs.declared.fault.CatalogFault.TheVariants as faults

-- the fault is the refusal of a statement that is so judged; want of memory says nothing of it
abbrev pub Refuses : Judged → CatalogFault → Type 0
Refuses judged (faults.Refused reply) = judged ≡ Err reply
Refuses judged faults.Memory = Unit {0}
