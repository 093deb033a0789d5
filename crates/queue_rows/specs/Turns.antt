-- What the turns of the sessions, the timer, the propagator and the closing turn do to a world.
use Rattle.std.specs.Prelude.{◌≡◌, ℕ, zero, suc, ◌++◌, min, ◌+◌, ◌&&◌, ◌==◌, List, [], ◌∷◌, Bool, true, false, not, length, Option, Some, None, is_some, is_none, slice_get, if◌then◌else◌}
use Rattle.std.specs.List.{list_any}
use Rattle.aq_base.specs.declared.DbId.{DbId}
use Rattle.aq_base.specs.declared.DbId.TheVariants.{Home, Away}
use Rattle.queue_rows.specs.Session.{Session, Untold, standing_after}
use Rattle.queue_rows.specs.Meaning.{Meaning, answers, parks}
use Rattle.queue_rows.specs.Statements.{slot_sent, meaning, next_statement}
use Rattle.queue_rows.specs.World.{World, Database, database_at, greatest_moment, read_clock, at_home, at_away, stepped, with_session}
use Rattle.queue_rows.specs.Due.{due}
use Rattle.queue_rows.specs.Sending.{Sending, next_sending, may_follow, sent, is_durable_at, taking_ids}
use Rattle.queue_rows.specs.declared.change.Change.{Change}
use Rattle.queue_rows.specs.declared.statement.Statement.{Statement}
use Rattle.queue_rows.specs.declared.reply.Reply.{Reply}
use Rattle.queue_rows.specs.declared.reply.Reply.TheVariants as replies
use Rattle.queue_rows.specs.declared.history.Step.TheVariants.{Call, Park, Timer, Told, Flush, End}

-- ---- the clock of the serial schedule

-- its k-th reading is k above the opening moment, up to the greatest moment
abbrev pub step_reading : ℕ → ℕ → ℕ
step_reading opening k = min (opening + k) greatest_moment

-- its first readings
abbrev pub step_readings : ℕ → ℕ → List ℕ
step_readings opening zero = []
step_readings opening (suc n) = step_readings opening n ++ step_reading opening (n + 1) ∷ []

-- the next one is one above the last, up to the greatest moment
abbrev pub next_reading : World → ℕ
next_reading w = step_reading w.opening (w.readings + 1)

-- ---- due work

-- what is due at a database
abbrev pub due_at : DbId → World → List Change
due_at db w = due (database_at db w).tables w.sessions db (slot_sent w) w.moment

-- work is due at one of the databases
unfoldable pub is_due : World → Bool
is_due w = not ((length (due_at Home w) == 0) && (length (due_at Away w) == 0))

-- the work that is due is done, at both databases
abbrev pub timed : ℕ → World → World
timed actor w = stepped actor w (due_at Home w) (due_at Away w) Timer

-- where work is due, it is done
unfoldable pub caught_up : ℕ → World → World
caught_up actor w = if is_due w then timed actor w else w

-- a turn takes the clock first, and then does what is due
abbrev pub begun : ℕ → ℕ → World → World
begun actor reading w = caught_up actor (read_clock reading w)

-- ---- calls

-- an accepted enqueue takes the next id
abbrev pub ids_taken : Reply → ℕ
ids_taken (replies.Enqueued id) = 1
ids_taken _ = 0

-- the call that a session has made, which is to be told
abbrev pub untold_in : World → Session → Untold
untold_in w s = record { number = s.next + 1; home = w.home.made; away = w.away.made }

-- the session after its call: with what it then holds
abbrev pub having_called : World → Session → Session → Session
having_called w s after = record s { next = s.next + 1; pending = after.pending; marks = after.marks; positions = after.positions; parked = None; untold = Some (untold_in w s) }

abbrev pub called_in : World → ℕ → Session → Session → World
called_in w i s after = with_session i (having_called w s after) w

-- no session stands in a queue of that database that has gone
abbrev pub standing : DbId → List Change → World → World
standing db cs w = record w { sessions = standing_after db cs w.sessions }

-- the session of that number calls its next statement, which is answered so
abbrev pub called : ℕ → Session → Reply → List Change → Session → World → World
called i s reply cs after w = standing s.at cs (called_in (taking_ids s.at (ids_taken reply) (stepped i w (at_home s.at cs) (at_away s.at cs) (Call (s.next + 1) reply))) i s after)

-- a session that begins to wait is noted once
abbrev pub parked : ℕ → Session → ℕ → World → World
parked i s since w = if is_some s.parked then w else with_session i (record s { parked = Some since }) (stepped i w [] [] (Park (s.next + 1)))

abbrev pub ended : ℕ → Session → World → World
ended i s w = with_session i (record s { pending = []; marks = []; live = false }) (stepped i w [] [] End)

abbrev pub turned_by : ℕ → Session → Meaning → World → World
turned_by i s (answers reply cs after) w = called i s reply cs after w
turned_by i s (parks since) w = parked i s since w

abbrev pub own_turn : ℕ → Session → Option Statement → World → World
own_turn i s None w = ended i s w
own_turn i s (Some statement) w = turned_by i s (meaning w i s statement) w

-- ---- flushing and telling

abbrev pub is_durable : World → Bool
is_durable w = is_durable_at Home w && is_durable_at Away w

abbrev pub made_durable : Database → Database
made_durable d = record d { durable = d.made; durable_seen = length d.tables.seen }

abbrev pub all_durable : World → World
all_durable w = record w { home = made_durable w.home; away = made_durable w.away }

-- where a commit isn't durable, all are made so
unfoldable pub flushed : ℕ → World → World
flushed actor w = if is_durable w then w else all_durable (stepped actor w [] [] Flush)

abbrev pub told : ℕ → Session → ℕ → World → World
told i s number w = with_session i (record s { untold = None }) (stepped i (flushed i w) [] [] (Told number))

-- ---- propagation

abbrev pub propagated_by : ℕ → Option Sending → World → World
propagated_by actor None w = w
propagated_by actor (Some sending) w = sent actor sending (if may_follow w sending then w else flushed actor w)

-- one step of propagation is made, if there is one; where a commit must be durable before it, all are made so first
unfoldable pub propagated : ℕ → World → World
propagated actor w = propagated_by actor (next_sending w) w

-- ---- turns, each with the reading that it takes

-- a session whose call is not yet told has a telling turn instead, which takes no reading
abbrev pub turn_of : ℕ → ℕ → Session → Option Untold → World → World
turn_of reading i s (Some untold) w = told i s untold.number w
turn_of reading i s None w = if s.live then own_turn i s (next_statement w i s) (begun i reading w) else w

abbrev pub turn_of_some : ℕ → ℕ → Option Session → World → World
turn_of_some reading i None w = w
turn_of_some reading i (Some s) w = turn_of reading i s s.untold w

-- the turn of the session of that number
unfoldable pub session_turn : ℕ → ℕ → World → World
session_turn reading i w = turn_of_some reading i (slice_get w.sessions i) w

abbrev pub telling_of : ℕ → Session → Option Untold → World → World
telling_of i s None w = w
telling_of i s (Some untold) w = told i s untold.number w

abbrev pub telling_of_some : ℕ → Option Session → World → World
telling_of_some i None w = w
telling_of_some i (Some s) w = telling_of i s s.untold w

-- what the session of that number called is told to it, if it was not yet
unfoldable pub telling_turn : ℕ → World → World
telling_turn i w = telling_of_some i (slice_get w.sessions i) w

abbrev pub is_live : Session → Bool
is_live s = s.live

unfoldable pub any_live : World → Bool
any_live w = list_any is_live w.sessions

-- a turn of the timer; with no session live it takes no reading, and is its last
unfoldable pub timer_turn : ℕ → World → World
timer_turn reading w = if any_live w then begun 64 reading w else w

-- a turn of the propagator, likewise
unfoldable pub propagator_turn : ℕ → World → World
propagator_turn reading w = if any_live w then propagated 65 (begun 65 reading w) else w

-- ---- the closing turn

-- what is due is done, and then one step of propagation
abbrev pub drained_once : World → World
drained_once w = propagated 66 (caught_up 66 w)

-- so many times
unfoldable pub drained : ℕ → World → World
drained zero w = w
drained (suc n) w = drained_once (drained n w)

-- nothing is due, and nothing can be sent
unfoldable pub is_still : World → Bool
is_still w = not (is_due w) && is_none (next_sending w)

-- after so many times nothing is due and nothing can be sent; more would change nothing
abbrev pub DrainsIn : World → ℕ → Type 0
DrainsIn w n = is_still (drained n w) ≡ true

-- the turn that follows when no session is live any more: with its one reading it drains so many times, and then makes
-- all durable
unfoldable pub closing_turn : ℕ → ℕ → World → World
closing_turn reading n w = flushed 66 (drained n (read_clock reading w))
