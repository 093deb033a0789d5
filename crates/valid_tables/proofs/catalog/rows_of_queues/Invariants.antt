use Rattle.std.proofs.Common.{◌≡◌, ℕ, List}
use Rattle.std.specs.Prelude.{find, option_copied}
use Rattle.std.specs.Str.{bytes_eq}
use Rattle.valid_tables.specs.Catalog.{at_name}
use Rattle.valid_tables.proofs.Lookups.{found}
use Rattle.valid_tables.proofs.catalog.rows_of_queues.Given as goal

abbrev pub invariant-loop-queue : goal.invariant-loop-queue
invariant-loop-queue l = (q : List ℕ) → found (λ r. r.name) (λ n. option_copied (at_name l.rows n)) l.queue-iterator q ≡ find (λ r. bytes_eq r.name q) l.queues
