use Rattle.std.proofs.Common.{◌≡◌, ℕ, List}
use Rattle.std.specs.Prelude.{find, option_copied}
use Rattle.std.specs.Str.{bytes_eq}
use Rattle.valid_tables.specs.Catalog.{at_name}
use Rattle.valid_tables.proofs.Lookups.{found}
use Rattle.valid_tables.proofs.catalog.rows_of_tables.Given as goal

abbrev pub invariant-loop-table : goal.invariant-loop-table
invariant-loop-table l = (q : List ℕ) → found (λ r. r.name) (λ n. option_copied (at_name l.rows n)) l.table-iterator q ≡ find (λ r. bytes_eq r.name q) l.tables
