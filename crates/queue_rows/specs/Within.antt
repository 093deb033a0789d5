-- Which statements and scripts keep the limits.
use Rattle.std.specs.Prelude.{ℕ, ◌&&◌, ◌^◌, nat_le, nat_lt, ℤ, pos, negsuc, List, [], ◌∷◌, length, map, sum, codes, Bool, true, not, Option, is_some}
use Rattle.std.specs.List.{list_any, list_all}
use Rattle.std.specs.Option.{option_map_or}
use Rattle.std.specs.Str.{bytes_eq}
use Rattle.aq_base.specs.declared.limits.TheConstants.{AGENT_LIMIT, CONDITION_LIMIT, CORRELATION_LIMIT, ID_LIMIT, MAX_RETRIES_LIMIT, MOMENT_LIMIT, RECIPIENT_LIMIT, SESSION_LIMIT, STATEMENT_LIMIT, TABLE_NAME_LIMIT, TIME_LIMIT, WAIT_LIMIT}
use Rattle.payload_records.specs.Name.{is_name}
use Rattle.payload_records.specs.Payload.{has_ascending_keys}
use Rattle.payload_records.specs.Props.{are_props}
use Rattle.payload_records.specs.declared.TheConstants.{FIELD_LIMIT, PROP_LIMIT, TEXT_LIMIT}
use Rattle.payload_records.specs.declared.kind.Field.{Field}
use Rattle.payload_records.specs.declared.props.Prop.{Prop}
use Rattle.payload_records.specs.declared.record.Datum.{Datum}
use Rattle.payload_records.specs.declared.record.Datum.TheVariants as data_of
use Rattle.queue_rows.specs.Distinct.{are_distinct}
use Rattle.queue_rows.specs.declared.history.SessionScript.{SessionScript}
use Rattle.queue_rows.specs.declared.statement.Statement.{Statement}
use Rattle.queue_rows.specs.declared.statement.Statement.TheVariants as statements
use Rattle.queue_rows.specs.declared.statement.Admin.{Admin}
use Rattle.queue_rows.specs.declared.statement.Admin.TheVariants as asks
use Rattle.queue_rows.specs.declared.statement.Enqueue.{Enqueue}
use Rattle.queue_rows.specs.declared.statement.Recipient.{Recipient}
use Rattle.queue_rows.specs.declared.statement.Dequeue.{Dequeue}
use Rattle.queue_rows.specs.declared.statement.Listen.{Listen}
use Rattle.queue_rows.specs.declared.statement.Listener.{Listener}
use Rattle.queue_rows.specs.declared.statement.MsgId.{MsgId}

-- ---- members

-- where it is there, it is so
abbrev pub if_some : {X : Type 0} → (X → Bool) → Option X → Bool
if_some is_so x = option_map_or is_so x true

abbrev pub is_table_name : List ℕ → Bool
is_table_name name = is_name name && nat_le (length name) TABLE_NAME_LIMIT

-- a text of length zero is as absent, so none is given
abbrev pub is_text : ℕ → List ℕ → Bool
is_text most text = nat_le 1 (length text) && nat_le (length text) most

-- a delay, a retry delay, a retention or a latency
abbrev pub is_time : ℕ → Bool
is_time seconds = nat_le seconds TIME_LIMIT

-- an expiration, a duration or a period
abbrev pub is_span : ℕ → Bool
is_span seconds = nat_le 1 seconds && is_time seconds

abbrev pub is_wait : ℕ → Bool
is_wait seconds = nat_le seconds WAIT_LIMIT

-- a number of 32 bits with a sign
abbrev pub is_priority : ℤ → Bool
is_priority (pos n) = nat_lt n (2 ^ 31)
is_priority (negsuc n) = nat_lt n (2 ^ 31)

abbrev pub is_id : MsgId → Bool
is_id id = nat_le 1 id.number && nat_le id.number ID_LIMIT

-- their order is that of their type
abbrev pub are_fields : List Field → Bool
are_fields fields = nat_le (length fields) FIELD_LIMIT && list_all (λ f. is_name f.name) fields

abbrev pub is_recipient : Recipient → Bool
is_recipient r = is_name r.name && if_some is_name r.address

abbrev pub are_recipients : List Recipient → Bool
are_recipients recipients = nat_le (length recipients) RECIPIENT_LIMIT && list_all is_recipient recipients

-- a number, or a text of no more bytes than a payload's
abbrev pub is_short : Datum → Bool
is_short data_of.Null = true
is_short (data_of.Num n) = true
is_short (data_of.Text text) = nat_le (length text) TEXT_LIMIT

abbrev pub is_prop_within : Prop → Bool
is_prop_within p = is_name p.name && is_short p.value

abbrev pub are_props_within : List Prop → Bool
are_props_within props = nat_le (length props) PROP_LIMIT && are_props props && list_all is_prop_within props

abbrev pub is_agent : Listener → Bool
is_agent agent = is_name agent.queue && if_some is_name agent.consumer

-- ---- statements

abbrev pub is_admin_within : Admin → Bool
is_admin_within (asks.CreateTable table fields sort multi grouped) = is_table_name table && are_fields fields
is_admin_within (asks.DropTable table) = is_table_name table
is_admin_within (asks.CreateQueue queue table kind max_retries retry_delay retention) =
    is_name queue && is_table_name table && nat_le max_retries MAX_RETRIES_LIMIT && is_time retry_delay && is_time retention
is_admin_within (asks.DropQueue queue) = is_name queue
is_admin_within (asks.StartQueue queue enqueue dequeue) = is_name queue
is_admin_within (asks.StopQueue queue enqueue dequeue) = is_name queue
is_admin_within (asks.AddSubscriber queue name address rule) = is_name queue && is_name name && if_some is_name address && if_some (is_text CONDITION_LIMIT) rule
is_admin_within (asks.RemoveSubscriber queue name) = is_name queue && is_name name
is_admin_within (asks.Schedule queue to start duration period latency) =
    is_name queue && is_name to && if_some (λ moment. nat_le moment MOMENT_LIMIT) start && if_some is_span duration && if_some is_span period && is_time latency
is_admin_within (asks.Unschedule queue to) = is_name queue && is_name to
is_admin_within (asks.EnableSchedule queue to) = is_name queue && is_name to
is_admin_within (asks.DisableSchedule queue to) = is_name queue && is_name to

-- one of `before` and `top`
abbrev pub is_enqueue_within : Enqueue → Bool
is_enqueue_within ask =
    is_name ask.queue && has_ascending_keys ask.payload && is_priority ask.priority && is_time ask.delay && if_some is_span ask.expiration
    && if_some (is_text CORRELATION_LIMIT) ask.corr && if_some are_recipients ask.recipients && if_some is_name ask.exception_queue
    && if_some is_id ask.before && not (is_some ask.before && ask.top) && are_props_within ask.props

-- the correlation of a dequeue is a pattern
abbrev pub is_dequeue_within : Dequeue → Bool
is_dequeue_within ask =
    is_name ask.queue && if_some is_name ask.consumer && is_wait ask.wait && if_some is_id ask.msgid
    && if_some (is_text CONDITION_LIMIT) ask.corr && if_some (is_text CONDITION_LIMIT) ask.condition

abbrev pub is_listen_within : Listen → Bool
is_listen_within ask = nat_le 1 (length ask.agents) && nat_le (length ask.agents) AGENT_LIMIT && list_all is_agent ask.agents && is_wait ask.wait

-- the statement keeps the limits
unfoldable pub is_within : Statement → Bool
is_within (statements.Admin ask) = is_admin_within ask
is_within (statements.Enqueue ask) = is_enqueue_within ask
is_within (statements.Dequeue ask) = is_dequeue_within ask
is_within (statements.Listen ask) = is_listen_within ask
is_within statements.Commit = true
is_within statements.Rollback = true

-- ---- scripts

-- the first words of the lines that no session prints
abbrev pub reserved : List (List ℕ)
reserved = codes "timer" ∷ codes "offer" ∷ codes "arrive" ∷ codes "confirm" ∷ []

abbrev pub is_session_name : List ℕ → Bool
is_session_name name = is_name name && not (list_any (bytes_eq name) reserved)

abbrev pub is_script_within : SessionScript → Bool
is_script_within script = is_session_name script.name && list_all is_within script.statements

abbrev pub statement_count : List SessionScript → ℕ
statement_count scripts = sum (map (λ script. length script.statements) scripts)

-- the sessions, each declared once, and their statements keep the limits
unfoldable pub are_within : List SessionScript → Bool
are_within scripts =
    nat_le (length scripts) SESSION_LIMIT && nat_le (statement_count scripts) STATEMENT_LIMIT
    && are_distinct bytes_eq (map (λ script. script.name) scripts) && list_all is_script_within scripts
