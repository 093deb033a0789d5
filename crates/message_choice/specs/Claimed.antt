-- What a claim means for a dequeue that names a message.
use Rattle.std.specs.Prelude.{◌≡◌, ◌||◌, ℕ, Bool, false, not, List}
use Rattle.slot_marks.specs.Marks.{SessionMarks, IsFreeFor}
use Rattle.queue_rows.specs.Rows.{slot_of}
use Rattle.queue_rows.specs.Session.{has_removed}
use Rattle.queue_rows.specs.Groups.{group_of}
use Rattle.queue_rows.specs.Meaning.{Meaning, refused, unparked}
use Rattle.queue_rows.specs.Dequeueing.{Look, given, is_browse, is_open_slot, meets}
use Rattle.queue_rows.specs.declared.rows.MsgRow.{MsgRow}
use Rattle.queue_rows.specs.declared.reply.Reply.TheVariants as replies
use Rattle.message_choice.specs.Asking.{IsLookOf}
use Rattle.message_choice.specs.declared.asking.Asking.{Asking}
use Rattle.message_choice.specs.declared.asking.Claim.{Claim}
use Rattle.message_choice.specs.declared.asking.Claim.TheVariants as claims
use Rattle.message_choice.specs.declared.asking.Pick.{Pick}

-- the slot is given, and the session stands where it stood; or it is refused
abbrev pub claimed_by : Look → ℕ → MsgRow → Claim → Meaning
claimed_by l moment m (claims.Given slot) = given l (unparked l.session) moment m slot
claimed_by l moment m (claims.Held other) = refused l.session (replies.Held other)
claimed_by l moment m claims.NotARecipient = refused l.session replies.NotARecipient
claimed_by l moment m claims.NoSuchMessage = refused l.session replies.NoSuchMessage

-- the slot cannot be given by the message's id: it is not open, the session has removed it, or the message is not as is asked for
abbrev pub is_lost : Look → MsgRow → ℕ → Bool
is_lost l m slot = not (is_open_slot (slot_of m slot)) || has_removed l.session m.id slot || not (meets l m)

-- no other session has the slot of the message or its group, unless it is only browsed
abbrev pub IsFreeSlot : List SessionMarks → ℕ → Pick → MsgRow → ℕ → Type 0
IsFreeSlot locks actor pick m slot = is_browse pick.mode ≡ false
    → (removed : Bool) → IsFreeFor locks actor (record { id = m.id; slot = slot; removed = removed; group = group_of pick.table.now m slot })

abbrev pub IfGiven : Claim → (ℕ → Type 0) → Type 0
IfGiven (claims.Given slot) P = P slot
IfGiven (claims.Held other) P = Unit {0}
IfGiven claims.NotARecipient P = Unit {0}
IfGiven claims.NoSuchMessage P = Unit {0}

-- ---- by what is asked for as one value

-- the look asks for it, in its own tables
abbrev pub Asks : Asking → Look → Type 0
Asks a l = IsLookOf a.pick.now a.actor a.locks.now l.tables.messages l

abbrev pub IsFree : Asking → MsgRow → ℕ → Type 0
IsFree a m slot = IsFreeSlot a.locks.now a.actor a.pick.now m slot
