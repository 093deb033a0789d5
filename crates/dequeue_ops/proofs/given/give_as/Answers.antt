use Rattle.std.proofs.lemmas.Result.{IfOk-weaker}
use Rattle.dequeue_ops.proofs.Meant.{does-browse, does-lock, does-lock-shown, does-remove-later, does-remove-now, does-unshown-later, does-unshown-now}
use Rattle.dequeue_ops.proofs.given.give_as.Goals as goal

pub returns-in-Browse-default : goal.returns-in-Browse-default
returns-in-Browse-default g c =
    does-browse (g.T.MessageTables.tables c.args.store.now) c.args.asked.now c.args.message.now c.args.slot c.args.delivery c.requires.reply c.showing.result c.in-Browse-default.is-0 c.showing.ensures

pub returns-in-Locked-Immediate : goal.returns-in-Locked-Immediate
returns-in-Locked-Immediate g c =
    does-lock-shown (g.T.MessageTables.tables c.args.store.now) c.args.asked.now c.args.message.now c.args.slot c.args.delivery c.requires.reply c.showing-in-Locked-Immediate.result c.in-Locked-Immediate.is-0 c.in-Locked-Immediate.is-1 c.showing-in-Locked-Immediate.ensures

pub returns-in-Locked-OnCommit : goal.returns-in-Locked-OnCommit
returns-in-Locked-OnCommit g c =
    IfOk-weaker c.locking.result _ _ (λ e same. does-lock (g.T.MessageTables.tables c.args.store.now) c.args.asked.now c.args.message.now c.args.slot c.args.delivery c.requires.reply e c.in-Locked-OnCommit.is-0 c.in-Locked-OnCommit.is-1 c.requires.free same) c.locking.ensures

pub returns-in-Remove-Immediate : goal.returns-in-Remove-Immediate
returns-in-Remove-Immediate g c =
    IfOk-weaker c.taking_at_once.result _ _ (λ e same. does-remove-now (g.T.MessageTables.tables c.args.store.now) c.args.asked.now c.args.message.now c.args.slot c.args.delivery c.requires.reply e c.in-Remove-Immediate.is-0 c.in-Remove-Immediate.is-1 same) c.taking_at_once.ensures

pub returns-in-RemoveNodata-Immediate : goal.returns-in-RemoveNodata-Immediate
returns-in-RemoveNodata-Immediate g c =
    IfOk-weaker c.taking_at_once-in-RemoveNodata-Immediate.result _ _ (λ e same. does-unshown-now (g.T.MessageTables.tables c.args.store.now) c.args.asked.now c.args.message.now c.args.slot c.args.delivery c.requires.reply e c.in-RemoveNodata-Immediate.is-0 c.in-RemoveNodata-Immediate.is-1 same) c.taking_at_once-in-RemoveNodata-Immediate.ensures

pub returns-in-Remove-OnCommit : goal.returns-in-Remove-OnCommit
returns-in-Remove-OnCommit g c =
    IfOk-weaker c.taking_later.result _ _ (λ e same. does-remove-later (g.T.MessageTables.tables c.args.store.now) c.args.asked.now c.args.message.now c.args.slot c.args.delivery c.requires.reply e c.in-Remove-OnCommit.is-0 c.in-Remove-OnCommit.is-1 c.requires.free same) c.taking_later.ensures

pub returns-in-RemoveNodata-OnCommit : goal.returns-in-RemoveNodata-OnCommit
returns-in-RemoveNodata-OnCommit g c =
    IfOk-weaker c.taking_later-in-RemoveNodata-OnCommit.result _ _ (λ e same. does-unshown-later (g.T.MessageTables.tables c.args.store.now) c.args.asked.now c.args.message.now c.args.slot c.args.delivery c.requires.reply e c.in-RemoveNodata-OnCommit.is-0 c.in-RemoveNodata-OnCommit.is-1 c.requires.free same) c.taking_later-in-RemoveNodata-OnCommit.ensures
