-- The text of a reply: a word, and with some words more behind it.
use Rattle.std.specs.Prelude.{◌≡◌, ℕ, ◌++◌, List, [], codes, decimal, pos, Option, Some, None, unwrap_or}
use Rattle.std.specs.Fmt.{signed_decimal}
use Rattle.payload_records.specs.declared.record.PayloadFault.{PayloadFault}
use Rattle.payload_records.specs.declared.record.PayloadFault.TheVariants as payloads
use Rattle.queue_rows.specs.declared.history.SessionScript.{SessionScript}
use Rattle.queue_rows.specs.declared.reply.Reply.{Reply}
use Rattle.queue_rows.specs.declared.reply.Reply.TheVariants as replies
use Rattle.queue_rows.specs.declared.reply.GivenMessage.{GivenMessage}
use Rattle.queue_rows.specs.declared.reply.ServedAgent.{ServedAgent}
use Rattle.queue_rows.specs.declared.reply.Shown.{Shown}
use Rattle.queue_rows.specs.declared.reply.ConditionFault.{ConditionFault}
use Rattle.queue_rows.specs.declared.reply.ConditionFault.TheVariants as conditions
use Rattle.queue_rows.specs.declared.reply.LimitName.{LimitName}
use Rattle.queue_rows.specs.declared.reply.LimitName.TheVariants as limits
use Rattle.transcript.specs.Record.{record_text, props_text}
use Rattle.transcript.specs.Text.{spaced_id_text, session_text, json_text, json_or_null}

abbrev pub reply_word : Reply → List ℕ
reply_word replies.Ok = codes "ok"
reply_word (replies.Enqueued id) = codes "ok"
reply_word (replies.Message message) = codes "message"
reply_word (replies.Agent agent) = codes "agent"
reply_word (replies.Held session) = codes "held"
reply_word (replies.Payload fault) = codes "payload"
reply_word (replies.BadCondition fault) = codes "bad-condition"
reply_word (replies.Limit name) = codes "limit"
reply_word replies.NoMessage = codes "no-message"
reply_word replies.EndOfGroup = codes "end-of-group"
reply_word replies.NoTable = codes "no-table"
reply_word replies.NoQueue = codes "no-queue"
reply_word replies.Exists = codes "exists"
reply_word replies.InUse = codes "in-use"
reply_word replies.EnqueueOff = codes "enqueue-off"
reply_word replies.DequeueOff = codes "dequeue-off"
reply_word replies.WrongKind = codes "wrong-kind"
reply_word replies.NoRecipients = codes "no-recipients"
reply_word replies.ConsumerNeeded = codes "consumer-needed"
reply_word replies.ConsumerRefused = codes "consumer-refused"
reply_word replies.NotARecipient = codes "not-a-recipient"
reply_word replies.NoSuchMessage = codes "no-such-message"
reply_word replies.NoSubscriber = codes "no-subscriber"
reply_word replies.BadExceptionQueue = codes "bad-exception-queue"
reply_word replies.BadRelative = codes "bad-relative"
reply_word replies.TooDeep = codes "too-deep"
reply_word replies.Grouped = codes "grouped"
reply_word replies.NotGrouped = codes "not-grouped"
reply_word replies.Outstanding = codes "outstanding"
reply_word replies.NoSchedule = codes "no-schedule"

-- the record behind a space, where there is one
abbrev pub payload_text : Option Shown → List ℕ
payload_text None = []
payload_text (Some shown) = codes " " ++ record_text shown

-- it says what most do: the priority that nobody gave, no retries and no correlation
abbrev pub IsUsual : GivenMessage → Type 0
IsUsual m = (m.priority ≡ pos 1) × (m.retries ≡ 0) × (m.corr ≡ None)

-- which message it is, and how it stood
abbrev pub message_start : GivenMessage → List ℕ
message_start m =
    spaced_id_text m.id.db m.id.number ++ codes " priority " ++ signed_decimal m.priority ++ codes " retries " ++ decimal m.retries

-- what a message reply says before its properties
abbrev pub message_head : GivenMessage → List ℕ
message_head m = message_start m ++ codes " corr " ++ json_or_null m.corr ++ payload_text m.payload

abbrev pub message_text : GivenMessage → List ℕ
message_text m = message_head m ++ props_text m.props

-- the agent's place in the list, its queue, and its consumer or a hyphen
abbrev pub agent_text : ServedAgent → List ℕ
agent_text agent =
    codes " " ++ decimal agent.number ++ codes " " ++ agent.queue ++ codes " " ++ unwrap_or agent.consumer (codes "-")

-- no history has a payload refused for want of memory
abbrev pub payload_fault_word : PayloadFault → List ℕ
payload_fault_word payloads.NotObject = codes "not-object"
payload_fault_word (payloads.UnknownField key) = codes "unknown-field"
payload_fault_word (payloads.WrongKind name) = codes "wrong-kind"
payload_fault_word (payloads.TooLong name) = codes "too-long"
payload_fault_word payloads.Memory = codes "memory"

-- the key or the field, behind a space
abbrev pub payload_fault_place : PayloadFault → List ℕ
payload_fault_place payloads.NotObject = []
payload_fault_place (payloads.UnknownField key) = codes " " ++ json_text key
payload_fault_place (payloads.WrongKind name) = codes " " ++ name
payload_fault_place (payloads.TooLong name) = codes " " ++ name
payload_fault_place payloads.Memory = []

abbrev pub payload_fault_text : PayloadFault → List ℕ
payload_fault_text fault = codes " " ++ payload_fault_word fault ++ payload_fault_place fault

abbrev pub condition_fault_text : ConditionFault → List ℕ
condition_fault_text (conditions.At bytes) = codes " at " ++ decimal bytes
condition_fault_text (conditions.Field name) = codes " field " ++ name
condition_fault_text conditions.Kind = codes " kind"

abbrev pub limit_text : LimitName → List ℕ
limit_text limits.Recipients = codes " recipients"
limit_text limits.Subscribers = codes " subscribers"
limit_text limits.Ids = codes " ids"

-- what stands behind the word
abbrev pub reply_details : List SessionScript → Reply → List ℕ
reply_details scripts (replies.Enqueued id) = spaced_id_text id.db id.number
reply_details scripts (replies.Message message) = message_text message
reply_details scripts (replies.Agent agent) = agent_text agent
reply_details scripts (replies.Held session) = codes " " ++ session_text scripts session
reply_details scripts (replies.Payload fault) = payload_fault_text fault
reply_details scripts (replies.BadCondition fault) = condition_fault_text fault
reply_details scripts (replies.Limit name) = limit_text name
reply_details scripts reply = []

abbrev pub reply_text : List SessionScript → Reply → List ℕ
reply_text scripts reply = reply_word reply ++ reply_details scripts reply
