use Rattle.std.proofs.Common.{◌≡◌, ◌++◌}
use Rattle.std.specs.Prelude.{filter}
use Rattle.std.specs.List.{flat_map}
use Rattle.std.specs.Str.{bytes_eq}
use Rattle.queue_rows.specs.Catalog.{dropped_of, dropped_in}
use Rattle.queue_rows.specs.declared.rows.MsgRow.{MsgRow}
use Rattle.queue_catalog.proofs.removal.drop_slots_in.Given as goal

abbrev pub invariant-loop-message : goal.invariant-loop-message
invariant-loop-message l =
    let stands = λ (m : MsgRow). bytes_eq m.queue l.sub.queue in
    l.changes ++ flat_map (dropped_of l.sub l.moment) (filter stands l.message-iterator)
    ≡ l.fn.changes ++ dropped_in l.tables l.sub l.moment
