-- A message that is given: what is answered, and what a commit of its removal needs.
use Rattle.std.specs.Prelude.{◌≡◌, ◌<◌, ◌≤◌, ◌^◌, ℕ, List, [], Bool, All}
use Rattle.slot_marks.specs.declared.mark.Mark.{Mark}
use Rattle.queue_rows.specs.Groups.{group_of}
use Rattle.queue_rows.specs.Session.{Session}
use Rattle.queue_rows.specs.Dequeueing.{message_reply}
use Rattle.queue_rows.specs.declared.tables.Tables.{Tables}
use Rattle.queue_rows.specs.declared.rows.MsgRow.{MsgRow}
use Rattle.queue_rows.specs.declared.reply.Reply.{Reply}
use Rattle.sessions.specs.Effects.{plain_effect}
use Rattle.sessions.specs.Numbers.{IsLowest}
use Rattle.sessions.specs.declared.state.Effect.{Effect}
use Rattle.sessions.specs.declared.state.Verdict.TheVariants.{Answer}
use Rattle.dequeue_ops.specs.Asked.{look_of}
use Rattle.dequeue_ops.specs.declared.request.Asked.{Asked}
use Rattle.dequeue_ops.specs.declared.given.Delivery.{Delivery}

-- the numbers of the tables leave room for a commit at that moment
pub record MayCommit (t : Tables) (moment : ℕ) : Type 0 where
  pub moment_is : moment ≤ 2 ^ 62
  pub group : t.transaction < 2 ^ 62
  pub lowest : All (IsLowest (2 ^ 62)) t.queues

-- the session, of the database of the state that asks, is told so
abbrev pub IsReply : Asked → MsgRow → ℕ → Reply → Type 0
IsReply a m slot reply = (t : Tables) (sessions : List Session) (s : Session) → s.at ≡ a.request.now.session.now.at
    → message_reply (look_of t a sessions s) m slot ≡ reply

-- the mark on the slot, as the locks keep it
abbrev pub mark_of : Asked → Bool → MsgRow → ℕ → Mark
mark_of a removed m slot = record { id = m.id; slot = slot; removed = removed; group = group_of a.table.now m slot }

-- it is answered, and the session stands there
abbrev pub showing : Delivery → Effect
showing d = record (plain_effect (Answer d.reply) []) { position = d.position }
