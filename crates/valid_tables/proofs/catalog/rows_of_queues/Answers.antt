use Rattle.std.proofs.Common.{sym, ◌∙◌}
use Rattle.valid_tables.specs.Catalog.{at_name}
use Rattle.valid_tables.proofs.Lookups.{told_by_reference}
use Rattle.valid_tables.proofs.catalog.rows_of_queues.Goals as goal

pub loop-queue-preserved-in_ok-insert : goal.loop-queue-preserved-in_ok-insert
loop-queue-preserved-in_ok-insert c = λ q.
    told_by_reference (λ r. r.name) (λ n. at_name c.loop-queue.rows n) (λ n. at_name c.insert.new.self n) c.in_ok-copied.field-0 c.in-Some.queue c.loop-queue.queue-iterator c.next.new.self q c.in_ok-copied.ensures
    c.in-Some.ensures.steps (sym c.contains_key.ensures ∙ c.if-not-contains_key.true) (c.in_ok-insert.ensures.updates.0 q)
    ∙ c.loop-queue.invariant q
