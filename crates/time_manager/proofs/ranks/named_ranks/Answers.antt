use Rattle.std.proofs.Common.{ℕ, ◌≡◌, ◌∙◌, subst, ap}
use Rattle.std.specs.Prelude.{IfSome}
use Rattle.std.specs.List.{range_with_len}
use Rattle.due_slots.specs.Named.{NamesDue}
use Rattle.time_manager.specs.Ranks.{AreDueRanks, GiveAll}
use Rattle.time_manager.specs.Watching.{watch_of}
use Rattle.time_manager.proofs.Alike.{if_ok}
use Rattle.time_manager.proofs.Naming.{places_give_all, rows_give_all}
use Rattle.time_manager.proofs.ranks.named_ranks.Goals as goal

pub returns-in-Some : goal.returns-in-Some
returns-in-Some g c =
    let w = watch_of c.args.watching.now in
    let t = g.T.MessageTables.tables c.args.store.now in
    let rows = c.in-Some.rows.now.rows in
    let names : NamesDue t rows = subst (λ o. IfSome o (λ index. NamesDue t index.now.rows)) c.in-Some.is c.due_rows.ensures in
    if_ok c.due_ranks.result (λ ranks. AreDueRanks t.messages rows w.moment ranks.items) (λ ranks. GiveAll w ranks.items)
    (λ ranks are. rows_give_all w t rows ranks.items c.requires.tables names c.requires.distinct are c.requires.moment) c.due_ranks.ensures

pub returns-in-None : goal.returns-in-None
returns-in-None g c =
    let w = watch_of c.args.watching.now in
    if_ok c.all_ranks.result (λ ranks. ranks.items ≡ range_with_len 0 c.len.result) (λ ranks. GiveAll w ranks.items)
    (λ ranks is. places_give_all w ranks.items (is ∙ ap (λ (n : ℕ). range_with_len 0 n) c.len.ensures)) c.all_ranks.ensures
