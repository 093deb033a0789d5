use Rattle.std.proofs.Common.{sym}
use Rattle.std.specs.Str.{bytes_eq}
use Rattle.queue_rows.specs.Tables.{lowered_to}
use Rattle.message_store.proofs.LowLemmas.{unchanged}
use Rattle.message_store.proofs.enqueued.is_low.Goals as goal

pub returns-in-Some : goal.returns-in-Some
returns-in-Some c = λ stays tables. unchanged (λ q. bytes_eq q.name c.args.name.now) (lowered_to tables c.args.place.now) c.in-Some.queue.now (c.keeps_lowest.ensures stays tables) c.args.queues.now (sym c.in-Some.ensures)
