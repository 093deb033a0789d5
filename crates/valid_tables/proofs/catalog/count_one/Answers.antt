use Rattle.valid_tables.specs.Catalog.{at_name}
use Rattle.valid_tables.proofs.Lookups.{counted}
use Rattle.valid_tables.proofs.catalog.count_one.Goals as goal

pub returns : goal.returns
returns c = λ q.
    counted (λ n. at_name c.args.counts.now n) (λ n. at_name c.insert.new.self n) c.in_ok-copied.field-0 c.args.queue.now q c.count_of.result c.in-Some.count c.in_ok-copied.ensures c.count_of.ensures
    c.in-Some.ensures.1 (c.in_ok-insert.ensures.updates.0 q)
