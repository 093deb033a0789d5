use Rattle.std.proofs.Common.{◌≡◌, ◌+◌, ℕ, List, length}
use Rattle.std.specs.Prelude.{filter}
use Rattle.std.specs.Map.{count_at}
use Rattle.std.specs.Str.{bytes_eq}
use Rattle.valid_tables.specs.Catalog.{at_name}
use Rattle.valid_tables.proofs.catalog.counts_of_subs.Given as goal

abbrev pub invariant-loop-sub : goal.invariant-loop-sub
invariant-loop-sub l = (q : List ℕ) → count_at (at_name l.counts) q + length (filter (λ s. bytes_eq s.queue q) l.sub-iterator) ≡ length (filter (λ s. bytes_eq s.queue q) l.subs)
