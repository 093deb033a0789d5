-- The sessions of a run, where one of them changes.
use Rattle.std.specs.Prelude.{◌≡◌, ◌<◌, ◌+◌, ◌++◌, ℕ, List, [], ◌∷◌, Bool, true, false, Option, Some, None, IfSome, option_map, slice_get, slice_set, filter, flat_map, fold, not}
use Rattle.aq_base.specs.declared.DbId.{DbId}
use Rattle.slot_marks.specs.Marks.{SessionMarks, spare_of, taken, released, IsFreeFor}
use Rattle.slot_marks.specs.declared.mark.Mark.{Mark}
use Rattle.queue_rows.specs.Rows.{exception_name}
use Rattle.queue_rows.specs.Session.{Session, Untold, is_same_db, is_position, without_positions}
use Rattle.queue_rows.specs.declared.change.Change.{Change}
use Rattle.queue_rows.specs.declared.change.Change.TheVariants.{DropTable, DropQueue}
use Rattle.queue_rows.specs.World.{World}
use Rattle.queue_rows.specs.declared.session.Pending.{Pending}
use Rattle.queue_rows.specs.declared.session.Position.{Position}
use Rattle.queue_rows.specs.Session.{AreMarks}
use Rattle.sessions.specs.declared.state.SessionState.{SessionState}
use Rattle.sessions.specs.declared.state.Untold as kept
use Rattle.session_registry.specs.Locks.{locks_at, marks_at}
use Rattle.session_registry.specs.declared.new_positions.NewPositions.{NewPositions}
use Rattle.session_registry.specs.declared.new_positions.NewPositions.TheVariants as changes
use Rattle.session_registry.specs.declared.locks.Locks.{Locks}

-- ---- what is kept of a session

abbrev pub untold_as : kept.Untold → Untold
untold_as u = record { number = u.number; home = u.home; away = u.away }

-- the session that keeps this, but for its marks
abbrev pub session_of : SessionState → Session
session_of s = record {
  at = s.at;
  next = s.next;
  pending = s.pending;
  marks = [];
  positions = s.positions;
  parked = s.parked;
  untold = option_map untold_as s.untold;
  live = s.live;
}

-- what is kept of a session of that database that has called nothing yet
abbrev pub fresh_state : DbId → SessionState
fresh_state at = record { at = at; next = 0; pending = []; positions = []; parked = None; untold = None; live = true }

-- ---- all of them

-- the sessions with their marks; and the locks, in which room for more marks can be made
pub record SessionsWithLocks : Type 0 where
  pub sessions : List Session
  pub locks : Locks

abbrev pub is_of : DbId → Option Session → Bool
is_of db None = false
is_of db (Some s) = is_same_db s.at db

-- there are no marks but those of a session, at its database
abbrev pub AreMarksOwned : Locks → List Session → Type 0
AreMarksOwned l sessions = (db : DbId) (i : ℕ) → is_of db (slice_get sessions i) ≡ false → marks_at db i l ≡ []

-- there is room for one more mark of that session, if there is such a one
abbrev pub HasRoom : ℕ → SessionsWithLocks → Type 0
HasRoom i v = IfSome (slice_get v.sessions i) (λ s. 0 < spare_of (locks_at s.at v.locks) i)

abbrev pub changed_in : ℕ → (Session → Session) → List Session → Option Session → List Session
changed_in i f sessions None = sessions
changed_in i f sessions (Some s) = slice_set sessions i (f s)

-- the sessions, with the one of that number changed so
abbrev pub changed_at : ℕ → (Session → Session) → List Session → List Session
changed_at i f sessions = changed_in i f sessions (slice_get sessions i)

-- of the session of that number, if there is such a one
abbrev pub OfSession : ℕ → World → (Session → Type 0) → Type 0
OfSession i w P = IfSome (slice_get w.sessions i) P

-- there is no session of that number
abbrev pub IsAbsent : ℕ → World → Type 0
IsAbsent i w = slice_get w.sessions i ≡ None

-- the positions but those in the queue for the consumer
abbrev pub elsewhere : List ℕ → Option (List ℕ) → List Position → List Position
elsewhere queue consumer positions = filter (λ p. not (is_position queue consumer p)) positions

-- the positions of a session after a call
abbrev pub positions_by : NewPositions → List Position → List Position
positions_by changes.Same positions = positions
positions_by (changes.Replaced at position) positions = slice_set positions at position
positions_by (changes.Others others) positions = others

-- ---- how one session changes

abbrev pub with_pending : Pending → Session → Session
with_pending p s = record s { pending = s.pending ++ p ∷ [] }

abbrev pub with_mark : Mark → Session → Session
with_mark mark s = record s { marks = taken s.marks mark }

abbrev pub with_released : ℕ → ℕ → Session → Session
with_released id slot s = record s { marks = released s.marks id slot }

-- nothing is pending any more, and nothing is marked
abbrev pub cleared : Session → Session
cleared s = record s { pending = []; marks = [] }

-- the next statement was called, with so many commits made at home and at away up to then
abbrev pub after_call : NewPositions → ℕ → ℕ → Session → Session
after_call positions home away s = record s {
  next = s.next + 1;
  positions = positions_by positions s.positions;
  parked = None;
  untold = Some (record { number = s.next + 1; home = home; away = away });
}

-- its next statement waits since that moment
abbrev pub after_park : ℕ → Session → Session
after_park since s = record s { parked = Some since }

-- the reply was told
abbrev pub after_reply : Session → Session
after_reply s = record s { untold = None }

-- it has ended, and what was pending is dropped
abbrev pub after_end : Session → Session
after_end s = record s { pending = []; marks = []; live = false }

-- the session without its marks
abbrev pub unmarked : Session → Session
unmarked s = record s { marks = [] }

-- nobody but that session, if there is such a one, holds the mark's slot or group at its database
abbrev pub IsFreeIn : ℕ → Mark → List Session → Type 0
IsFreeIn i mark sessions = IfSome (slice_get sessions i) (λ s. (locks : List SessionMarks) → AreMarks s.at sessions locks → IsFreeFor locks i mark)

-- ---- queues that go

-- the queue that a change takes away: with a table its default exception queue goes
abbrev pub gone_by : Change → List (List ℕ)
gone_by (DropQueue name) = name ∷ []
gone_by (DropTable name) = exception_name name ∷ []
gone_by _ = []

abbrev pub gone_in : List Change → List (List ℕ)
gone_in changes = flat_map gone_by changes

-- no session of that database stands in one of these queues
abbrev pub left_by : DbId → List (List ℕ) → List Session → List Session
left_by db queues sessions = fold (λ those queue. without_positions db queue those) sessions queues
