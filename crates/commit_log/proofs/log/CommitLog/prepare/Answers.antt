use Rattle.std.proofs.Common.{◌∙◌, ℕ, List, [], ◌∷◌, ◌++◌, subst}
use Rattle.std.specs.Prelude.{OnOk}
use Rattle.std.proofs.lemmas.Result.{on_ok_weaker}
use Rattle.queue_rows.specs.declared.tables.Tables.{Tables}
use Rattle.queue_rows.specs.declared.change.Commit.{Commit}
use Rattle.redo_journal.specs.Journaled.{Journaled}
use Rattle.commit_log.specs.Logged.{Logs}
use Rattle.commit_log.proofs.Logging.{prepared}
use Rattle.commit_log.proofs.log.CommitLog.prepare.Goals as goal

pub returns-clause-logs : goal.returns-clause-logs
returns-clause-logs g c =
    let disk = g.D.Disk in
    let new = c.prepare.new.self in
    let commit : Commit = record { moment = c.args.moment; changes = c.args.changes.now } in
    subst (λ (j : Journaled g.row.D.Denot). OnOk c.prepare.result ((opening : Tables) (commits : List Commit) (k : ℕ) → Logs disk.seen disk.is_image disk.calls opening commits k j
    → Logs disk.seen disk.is_image disk.calls opening (commits ++ commit ∷ []) k new)) c.self.view_is
    (on_ok_weaker c.prepare.result
    (λ made. prepared disk.seen disk.is_image disk.calls c.commit_leads_on.ensures commit c.deref.result.now c.self.inside.journal new (c.deref.ensures.value ∙ c.in_ok-encode_into.ensures.bytes) c.in_ok-encode_into.ensures.spelled made)
    c.prepare.ensures.ok)
