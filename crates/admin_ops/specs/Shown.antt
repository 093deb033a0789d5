-- The sessions that states and marks show, and what they and a transit hinder.
use Rattle.std.specs.Prelude.{ℕ, ◌+◌, List, [], ◌∷◌, Bool, false, Option, None, option_copied}
use Rattle.std.specs.Option.{option_map_or}
use Rattle.slot_marks.specs.declared.mark.Mark.{Mark}
use Rattle.slot_marks.specs.Marks.{SessionMarks, marks_of}
use Rattle.queue_rows.specs.Session.{Session}
use Rattle.queue_rows.specs.Administration.{Affected, works_on, is_sent, is_outstanding, is_hindered}
use Rattle.queue_rows.specs.declared.tables.Tables.{Tables}
use Rattle.queue_rows.specs.declared.statement.Admin.{Admin}
use Rattle.sessions.specs.declared.state.SessionState.{SessionState}
use Rattle.admin_ops.specs.declared.outstanding.Work.{Work}

-- the session of a state and these marks, with nothing to be told
abbrev pub session_with : SessionState → List Mark → Session
session_with state marks = record {
  at = state.at;
  next = state.next;
  pending = state.pending;
  marks = marks;
  positions = state.positions;
  parked = state.parked;
  untold = None;
  live = state.live;
}

-- the sessions of these states, with the marks that the locks keep for them; number is that of the first
abbrev pub sessions_from : ℕ → List SessionMarks → List SessionState → List Session
sessions_from number locks [] = []
sessions_from number locks (state ∷ more) = session_with state (marks_of locks number) ∷ sessions_from (number + 1) locks more

-- there is a session of that number, and it works on what is asked
abbrev pub works_at : (Session → Bool) → List SessionMarks → Option SessionState → ℕ → Bool
works_at works locks state number = option_map_or (λ s. works (session_with s (marks_of locks number))) state false

-- ---- by what is under way

abbrev pub sessions_of : Work → List Session
sessions_of work = sessions_from 0 work.locks.now work.sessions.now

abbrev pub works_by : Tables → Work → Affected → Session → Bool
works_by t work affects = works_on t work.db affects

abbrev pub is_sent_by : Tables → Work → Affected → Bool
is_sent_by t work affects = is_sent t work.db affects (option_copied work.transit)

abbrev pub is_outstanding_by : Tables → Work → Affected → Bool
is_outstanding_by t work affects = is_outstanding t work.db (sessions_of work) (option_copied work.transit) affects

abbrev pub is_hindered_by : Tables → Work → Admin → Bool
is_hindered_by t work ask = is_hindered t work.db (sessions_of work) (option_copied work.transit) ask
