use Rattle.std.specs.Prelude.{◌≡◌, List, option_copied}
use Rattle.queue_rows.specs.Due.{watched}
use Rattle.queue_rows.specs.declared.change.Change.{Change}
use Rattle.time_manager.specs.Watching.{IsDue, IsCalmAfter, sessions_with}
use Rattle.time_manager.proofs.Alike.{if_ok, is_due, is_calm}
use Rattle.time_manager.proofs.manager.due.Goals as goal

pub returns-clause-due : goal.returns-clause-due
returns-clause-due g c =
    let t = g.T.MessageTables.tables c.args.store.now in
    let u = c.tables.result.now in
    let locks = c.args.locks.now in
    let sent = option_copied c.args.transit in
    let db = c.args.db in
    let moment = c.args.moment in
    if_ok c.watched.result (λ (cs : List Change). cs ≡ watched (record { tables = u; sessions = sessions_with db locks; db = db; sent = sent; moment = moment })) (IsDue t db locks sent moment)
    (λ cs all. is_due u t c.tables.ensures db locks sent moment cs all) c.watched.ensures

pub returns-clause-calm : goal.returns-clause-calm
returns-clause-calm g c =
    let t = g.T.MessageTables.tables c.args.store.now in
    let u = c.tables.result.now in
    let locks = c.args.locks.now in
    let sent = option_copied c.args.transit in
    let db = c.args.db in
    let moment = c.args.moment in
    if_ok c.watched.result (λ (cs : List Change). cs ≡ watched (record { tables = u; sessions = sessions_with db locks; db = db; sent = sent; moment = moment })) (IsCalmAfter t db locks sent moment)
    (λ cs all. is_calm u t c.tables.ensures db locks sent moment cs all c.nothing_due_at.ensures) c.watched.ensures
