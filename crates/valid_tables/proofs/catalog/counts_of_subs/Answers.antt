use Rattle.std.specs.Map.{count_at}
use Rattle.std.specs.Str.{bytes_eq}
use Rattle.valid_tables.specs.Catalog.{at_name}
use Rattle.valid_tables.proofs.Lookups.{counted_more}
use Rattle.std.specs.Prelude.{filter, length}
use Rattle.valid_tables.proofs.catalog.counts_of_subs.Goals as goal

pub loop-sub-preserved : goal.loop-sub-preserved
loop-sub-preserved c = λ q.
    counted_more (λ s. bytes_eq s.queue q) (count_at (at_name c.loop-sub.counts) q) (count_at (at_name c.count_one.new.counts) q) (length (filter (λ s. bytes_eq s.queue q) c.args.subs.now)) c.in-Some.sub.now
    c.loop-sub.sub-iterator c.next.new.self c.in-Some.ensures.steps (c.in_ok-count_one.ensures q) (c.loop-sub.invariant q)
