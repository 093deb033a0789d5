-- What due work looks at, as a watch of the definitions.
use Rattle.std.specs.Prelude.{◌≡◌, ℕ, List, [], true, map, Option, Some, None, option_and_then, option_copied, if◌then◌else◌}
use Rattle.aq_base.specs.declared.DbId.{DbId}
use Rattle.slot_marks.specs.Marks.{SessionMarks}
use Rattle.slot_marks.specs.declared.mark.Mark.{Mark}
use Rattle.queue_rows.specs.Rows.{table_of}
use Rattle.queue_rows.specs.Session.{Session, fresh_at}
use Rattle.queue_rows.specs.Due.{Watch, due}
use Rattle.queue_rows.specs.Valid.{is_valid}
use Rattle.queue_rows.specs.World.{committed_tables}
use Rattle.queue_rows.specs.declared.tables.Tables.{Tables}
use Rattle.queue_rows.specs.declared.rows.MsgRow.{MsgRow}
use Rattle.queue_rows.specs.declared.change.Change.{Change}
use Rattle.queue_rows.specs.declared.history.SlotRef.{SlotRef}
use Rattle.queue_rows.specs.Session.{AreMarks}
use Rattle.time_manager.specs.declared.watching.Watching.{Watching}

-- ---- the plainest sessions

abbrev pub session_with : DbId → List Mark → Session
session_with db marks = record (fresh_at db) { marks = marks }

-- sessions of the database with the marks of the locks, each under its number, and with nothing else
abbrev pub sessions_with : DbId → List SessionMarks → List Session
sessions_with db locks = map (λ s. session_with db s.marks) locks

-- what is looked at, as a watch over such sessions
abbrev pub watch_of : Watching → Watch
watch_of w = record {
  tables = w.tables.now;
  sessions = sessions_with w.db w.locks.now;
  db = w.db;
  sent = option_copied w.sent;
  moment = w.moment;
}

-- the number of the message's group, where its table is grouped
abbrev pub group_number : Tables → MsgRow → Option ℕ
group_number t m = option_and_then (λ table. if table.grouped then Some m.group else None) (table_of t m.queue)

-- ---- what is answered

-- the changes are what is due for any sessions whose marks the locks keep
abbrev pub IsDue : Tables → DbId → List SessionMarks → Option SlotRef → ℕ → List Change → Type 0
IsDue t db locks sent moment changes = (sessions : List Session) → AreMarks db sessions locks → changes ≡ due t sessions db sent moment

-- for any such sessions, where the tables are valid, nothing is due once the changes are committed
abbrev pub IsCalmAfter : Tables → DbId → List SessionMarks → Option SlotRef → ℕ → List Change → Type 0
IsCalmAfter t db locks sent moment changes = (sessions : List Session) → AreMarks db sessions locks → is_valid t ≡ true
    → due (committed_tables t changes moment) sessions db sent moment ≡ []
