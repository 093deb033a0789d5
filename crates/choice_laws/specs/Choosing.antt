-- The choice of a dequeue, by the rows of its queue and consumer.
use Rattle.std.specs.Prelude.{ℕ, ℤ, ◌+◌, ◌==◌, ◌&&◌, pos, int_lt, Bool, false, List, [], ◌∷◌, Option, Some, None, option_and_then, find, if◌then◌else◌}
use Rattle.std.specs.Option.{option_map_or}
use Rattle.queue_rows.specs.Session.{position_in}
use Rattle.queue_rows.specs.Tables.{lane_of}
use Rattle.queue_rows.specs.Dequeueing.{Look, Choice, nothing, end_of_group, found_or, is_available, is_browse, meets}
use Rattle.queue_rows.specs.declared.rows.MsgRow.{MsgRow}
use Rattle.queue_rows.specs.declared.session.Position.{Position}
use Rattle.queue_rows.specs.declared.statement.Mode.{Mode}
use Rattle.queue_rows.specs.declared.statement.Navigation.{Navigation}
use Rattle.queue_rows.specs.declared.statement.Navigation.TheVariants as navigations
use Rattle.choice_laws.specs.Entries.{Entry, Row, message_at, rows_for, rows_past}

-- ---- the first row that passes

-- the message of the row passes the test
abbrev pub passes : List Entry → (MsgRow → Bool) → Row → Bool
passes entries test r = option_map_or test (message_at entries r.stamp) false

-- the message of the first of the rows that passes
abbrev pub first_passing : List Entry → (MsgRow → Bool) → List Row → Option MsgRow
first_passing entries test rows = option_and_then (λ r. message_at entries r.stamp) (find (passes entries test) rows)

-- how many rows are looked at until one passes, or all were
abbrev pub looks : (Row → Bool) → List Row → ℕ
looks test [] = 0
looks test (r ∷ rs) = if test r then 1 else 1 + looks test rs

-- ---- the choice

-- the dequeue may give the message
abbrev pub may_give : Look → MsgRow → Bool
may_give l m = is_available l m && meets l m

abbrev pub is_in_group : Position → MsgRow → Bool
is_in_group p m = m.group == p.group

abbrev pub is_past_group : Position → MsgRow → Bool
is_past_group p m = int_lt (pos p.group) (lane_of m.place)

-- behind all places of the position's lane, and before those of all later ones
abbrev pub lane_end : Position → List ℤ
lane_end p = pos p.group ∷ []

-- the first row that passes, from the beginning
abbrev pub first_choice : List Entry → (MsgRow → Bool) → List Row → Choice
first_choice entries test rows = found_or nothing (first_passing entries test rows)

-- the first row past the position that passes, and where there is none, from the beginning, unless it is only browsed
abbrev pub next_choice : Mode → Position → List Entry → (MsgRow → Bool) → List Row → Choice
next_choice mode p entries test rows =
    found_or (if is_browse mode then nothing else first_choice entries test rows) (first_passing entries test (rows_past p.place rows))

-- the first row past the position that passes and is of its group
abbrev pub next_in_group : Position → List Entry → (MsgRow → Bool) → List Row → Choice
next_in_group p entries test rows =
    found_or end_of_group (first_passing entries (λ m. test m && is_in_group p m) (rows_past p.place rows))

-- the first row past the position's lane that passes and is of a later lane
abbrev pub next_group : Position → List Entry → (MsgRow → Bool) → List Row → Choice
next_group p entries test rows =
    found_or nothing (first_passing entries (λ m. test m && is_past_group p m) (rows_past (lane_end p) rows))

-- what is chosen, by a navigation, from where the session stands, of the rows whose messages pass the test
abbrev pub choice_in_rows : Navigation → Option Position → (grouped : Bool) → Mode → List Entry → (MsgRow → Bool) → List Row → Choice
choice_in_rows navigations.First p grouped mode entries test rows = first_choice entries test rows
choice_in_rows navigations.Next None grouped mode entries test rows = first_choice entries test rows
choice_in_rows navigations.Next (Some p) grouped mode entries test rows =
    if grouped then next_in_group p entries test rows else next_choice mode p entries test rows
choice_in_rows navigations.NextTransaction None grouped mode entries test rows = first_choice entries test rows
choice_in_rows navigations.NextTransaction (Some p) grouped mode entries test rows = next_group p entries test rows

-- what a look chooses in the rows of its queue and consumer
abbrev pub chosen_in_rows : Look → List Entry → Choice
chosen_in_rows l entries = choice_in_rows l.ask.navigation (position_in l.session l.ask.queue l.ask.consumer) l.table.grouped l.ask.mode
    entries (may_give l) (rows_for l.queue.name l.ask.consumer entries)
