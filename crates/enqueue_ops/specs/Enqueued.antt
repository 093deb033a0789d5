-- What holds of the effect of an enqueue.
use Rattle.std.specs.Prelude.{◌≡◌, ℕ, List, Option, Result}
use Rattle.aq_base.specs.declared.DbId.{DbId}
use Rattle.payload_records.specs.Record.{record_of}
use Rattle.payload_records.specs.declared.record.Record.{Record}
use Rattle.payload_records.specs.declared.record.PayloadFault.{PayloadFault}
use Rattle.queue_rows.specs.Enqueueing.{add, enqueue, enqueue_cells}
use Rattle.queue_rows.specs.Meaning.{Meaning, refused}
use Rattle.queue_rows.specs.Session.{Session}
use Rattle.queue_rows.specs.declared.tables.Tables.{Tables}
use Rattle.queue_rows.specs.declared.rows.TableRow.{TableRow}
use Rattle.queue_rows.specs.declared.rows.MsgRow.{MsgRow}
use Rattle.queue_rows.specs.declared.reply.Reply.{Reply}
use Rattle.queue_rows.specs.declared.statement.Enqueue.{Enqueue}
use Rattle.queue_rows.specs.declared.statement.Visibility.{Visibility}
use Rattle.sessions.specs.Effects.{meant}
use Rattle.sessions.specs.States.{IsStateOf}
use Rattle.sessions.specs.declared.state.Effect.{Effect}
use Rattle.sessions.specs.declared.state.SessionState.{SessionState}
use Rattle.enqueue_ops.specs.declared.addition.Stamp.{Stamp}

-- for each of these sessions, what is asked means what the effect says: it leaves the positions as they are
abbrev pub MeansFor : (Session → Type 0) → (Session → Meaning) → ℕ → Effect → Type 0
MeansFor IsOf meaning moment e =
    (s : Session) → IsOf s → (queue : List ℕ) (consumer : Option (List ℕ))
    → meaning s ≡ meant e queue consumer moment s

-- a refusal means the effect for each session
abbrev pub IsRefusal : Reply → Effect → Type 0
IsRefusal reply e = (s : Session) (queue : List ℕ) (consumer : Option (List ℕ)) (moment : ℕ)
    → refused s reply ≡ meant e queue consumer moment s

abbrev pub IsAt : DbId → Session → Type 0
IsAt db s = s.at ≡ db

-- the message is added for each session of that database
abbrev pub MeansToAdd : DbId → Visibility → Tables → MsgRow → ℕ → Effect → Type 0
MeansToAdd db visibility t m moment e = MeansFor (IsAt db) (λ s. add visibility t s m moment) moment e

-- a message is added that has these cells, or the fault of its payload is told
abbrev pub MeansToAddCells : DbId → Tables → TableRow → Enqueue → Result Record PayloadFault → Stamp → Effect → Type 0
MeansToAddCells db t table ask cells stamp e =
    MeansFor (IsAt db) (λ s. enqueue_cells t s table ask cells stamp.id stamp.moment) stamp.moment e

-- a message is added with the record that its payload is in the table
abbrev pub MeansToAddPayload : DbId → Tables → TableRow → Enqueue → Stamp → Effect → Type 0
MeansToAddPayload db t table ask stamp e =
    MeansToAddCells db t table ask (record_of table.fields ask.payload) stamp e

-- what an enqueue means for each session with that state
abbrev pub MeansToEnqueue : SessionState → Tables → Enqueue → ℕ → ℕ → Effect → Type 0
MeansToEnqueue state t ask next moment e = MeansFor (IsStateOf state) (λ s. enqueue t s ask next moment) moment e
