-- What each script keeps that is read.
use Rattle.std.specs.Prelude.{◌≡◌, ◌≤◌, ◌&&◌, nat_le, Bool, true, not, List, length, is_some}
use Rattle.std.specs.List.{list_all}
use Rattle.aq_base.specs.declared.limits.TheConstants.{AGENT_LIMIT, SESSION_LIMIT}
use Rattle.history_laws.specs.Ordered.{is_ordered, are_ordered}
use Rattle.queue_rows.specs.Within.{if_some, is_priority, is_time, is_span, is_id, is_agent, is_session_name, is_within, are_within}
use Rattle.queue_rows.specs.declared.history.SessionScript.{SessionScript}
use Rattle.queue_rows.specs.declared.statement.Listener.{Listener}
use Rattle.queue_rows.specs.declared.statement.Statement.{Statement}
use Rattle.script_text.specs.declared.line.Line.{Line}
use Rattle.script_text.specs.declared.line.Line.TheVariants as lines
use Rattle.script_text.specs.declared.message.Placing.{Placing}

-- ---- parts of statements

abbrev pub is_placing_within : Placing → Bool
is_placing_within p =
    is_priority p.priority && is_time p.delay && if_some is_span p.expiration && if_some is_id p.before
    && not (is_some p.before && p.top)

abbrev pub are_agents : List Listener → Bool
are_agents agents = nat_le 1 (length agents) && nat_le (length agents) AGENT_LIMIT && list_all is_agent agents

-- ---- statements and lines

-- it keeps the limits, and the fields that it names stand in order
pub record IsReadable (statement : Statement) : Type 0 where
  pub within : is_within statement ≡ true
  pub ordered : is_ordered statement ≡ true

-- so does the statement that a line asks, and the name that it declares may be a session's
abbrev pub IsReadableLine : Line → Type 0
IsReadableLine lines.Blank = Unit {0}
IsReadableLine (lines.Declared name at) = is_session_name name ≡ true
IsReadableLine (lines.Asked session asked) = IsReadable asked

-- ---- scripts

-- so does each statement of each session, and the sessions keep the limits
pub record AreReadable (scripts : List SessionScript) : Type 0 where
  pub few : length scripts ≤ SESSION_LIMIT
  pub within : are_within scripts ≡ true
  pub ordered : are_ordered scripts ≡ true
