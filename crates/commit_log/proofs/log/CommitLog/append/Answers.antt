use Rattle.std.proofs.Common.{ℕ, List, length, take, subst}
use Rattle.std.specs.Prelude.{OnOk}
use Rattle.aq_disk.specs.Disk.{EachImage}
use Rattle.queue_rows.specs.declared.tables.Tables.{Tables}
use Rattle.queue_rows.specs.declared.change.Commit.{Commit}
use Rattle.redo_journal.specs.Journaled.{Journaled}
use Rattle.history_laws.specs.Made.{after_commits}
use Rattle.crash_laws.specs.Crash.{Recovers, RecoversEither}
use Rattle.commit_log.specs.Logged.{AreLoggable, Logs}
use Rattle.commit_log.proofs.Logging.{append_leaves, behind, written}
use Rattle.commit_log.proofs.log.CommitLog.append.Goals as goal

pub returns-clause-logs : goal.returns-clause-logs
returns-clause-logs g c =
    let disk = g.D.Disk in
    let new = c.append.new.self in
    subst (λ (j : Journaled g.row.D.Denot). OnOk c.append.result ((opening : Tables) (commits : List Commit) (k : ℕ) → Logs disk.seen disk.is_image disk.calls opening commits k j
    → Logs disk.seen disk.is_image disk.calls opening commits (length commits) new)) c.self.view_is
    (written disk.seen disk.is_image disk.calls c.bodies_join.ensures c.append.result c.self.inside.journal new c.append.ensures.ok c.append.ensures.tells c.append.ensures.queued c.append.ensures.nothing)

pub returns-clause-crash : goal.returns-clause-crash
returns-clause-crash g c =
    let disk = g.D.Disk in
    let new = c.append.new.self in
    subst (λ (j : Journaled g.row.D.Denot). (opening : Tables) (commits : List Commit) (k : ℕ) → Logs disk.seen disk.is_image disk.calls opening commits k j → AreLoggable opening commits
    → EachImage (disk.calls j.disk) (disk.calls new.disk) (disk.is_image new.disk) (RecoversEither (after_commits opening (take k commits)) (after_commits opening commits))) c.self.view_is
    (append_leaves disk.seen disk.is_image disk.calls c.append_recovers.ensures (disk.calls c.self.inside.journal.disk) (disk.calls new.disk) (disk.is_image new.disk) c.self.inside.journal c.append.ensures.crash)

pub returns-clause-behind : goal.returns-clause-behind
returns-clause-behind g c =
    let disk = g.D.Disk in
    let new = c.append.new.self in
    subst (λ (j : Journaled g.row.D.Denot). OnOk c.append.result ((opening : Tables) (commits : List Commit) (k : ℕ) → Logs disk.seen disk.is_image disk.calls opening commits k j → AreLoggable opening commits
    → EachImage (disk.calls new.disk) (disk.calls new.disk) (disk.is_image new.disk) (Recovers (after_commits opening commits)))) c.self.view_is
    (behind disk.seen disk.is_image disk.calls c.log_recovers.ensures c.append.result c.self.inside.journal new
    (written disk.seen disk.is_image disk.calls c.bodies_join.ensures c.append.result c.self.inside.journal new c.append.ensures.ok c.append.ensures.tells c.append.ensures.queued c.append.ensures.nothing))
