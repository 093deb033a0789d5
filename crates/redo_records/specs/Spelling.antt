-- How commits are spelled as bytes, in the versions 1 and 2.
use Rattle.std.specs.Prelude.{ℕ, ◌+◌, ◌*◌, ◌==◌, ℤ, pos, negsuc, List, [], ◌∷◌, ◌++◌, Bool, true, false, Option, Some, None, if◌then◌else◌}
use Rattle.std.specs.List.{flat_map}
use Rattle.payload_records.specs.declared.kind.Field.{Field}
use Rattle.payload_records.specs.declared.kind.Kind.{Kind}
use Rattle.payload_records.specs.declared.kind.Kind.TheVariants as kinds
use Rattle.payload_records.specs.declared.props.Prop.{Prop}
use Rattle.payload_records.specs.declared.record.Datum.{Datum}
use Rattle.payload_records.specs.declared.record.Datum.TheVariants as data_of
use Rattle.place_keys.specs.declared.sort_list.Column.{Column}
use Rattle.place_keys.specs.declared.sort_list.Column.TheVariants as columns
use Rattle.redo_journal.specs.Num.{num, run, listed}
use Rattle.rule_conditions.specs.Print.{print}
use Rattle.rule_conditions.specs.declared.condition.Cond.{Cond}
use Rattle.queue_rows.specs.declared.rows.TableRow.{TableRow}
use Rattle.queue_rows.specs.declared.rows.QueueKind.{QueueKind}
use Rattle.queue_rows.specs.declared.rows.QueueKind.TheVariants as queue_kinds
use Rattle.queue_rows.specs.declared.rows.QueueRow.{QueueRow}
use Rattle.queue_rows.specs.declared.rows.SubRow.{SubRow}
use Rattle.queue_rows.specs.declared.rows.ScheduleRow.{ScheduleRow}
use Rattle.queue_rows.specs.declared.rows.MsgRow.{MsgRow}
use Rattle.queue_rows.specs.declared.rows.SlotRow.{SlotRow}
use Rattle.queue_rows.specs.declared.rows.SlotState.{SlotState}
use Rattle.queue_rows.specs.declared.rows.SlotState.TheVariants as states
use Rattle.queue_rows.specs.declared.rows.SeenRow.{SeenRow}
use Rattle.queue_rows.specs.declared.change.Change.{Change}
use Rattle.queue_rows.specs.declared.change.Change.TheVariants as changes
use Rattle.queue_rows.specs.declared.change.Commit.{Commit}

-- ---- parts

-- 0, -1, 1, -2 and so on are 0, 1, 2, 3
abbrev pub zigzag : ℤ → ℕ
zigzag (pos n) = 2 * n
zigzag (negsuc n) = 2 * n + 1

abbrev pub int : ℤ → List ℕ
int z = num (zigzag z)

abbrev pub flag : Bool → List ℕ
flag true = 1 ∷ []
flag false = 0 ∷ []

-- a flag, and behind it what is there
abbrev pub optional : {A : Type 0} → (A → List ℕ) → Option A → List ℕ
optional spell None = 0 ∷ []
optional spell (Some x) = 1 ∷ spell x

abbrev pub datum : Datum → List ℕ
datum data_of.Null = 0 ∷ []
datum (data_of.Num n) = 1 ∷ int n
datum (data_of.Text text) = 2 ∷ run text

-- a rule is its printed text
abbrev pub rule : Cond → List ℕ
rule c = run (print c)

abbrev pub kind : Kind → List ℕ
kind kinds.Num = 0 ∷ []
kind kinds.Text = 1 ∷ []

abbrev pub column : Column → List ℕ
column columns.Priority = 0 ∷ []
column columns.EnqTime = 1 ∷ []
column columns.CommitTime = 2 ∷ []

abbrev pub queue_kind : QueueKind → List ℕ
queue_kind queue_kinds.Normal = 0 ∷ []
queue_kind queue_kinds.Exception = 1 ∷ []

abbrev pub state : SlotState → List ℕ
state states.Ready = 0 ∷ []
state states.Waiting = 1 ∷ []
state states.Processed = 2 ∷ []
state states.Expired = 3 ∷ []
state states.Dropped = 4 ∷ []

abbrev pub field : Field → List ℕ
field f = run f.name ++ kind f.kind

abbrev pub prop : Prop → List ℕ
prop p = run p.name ++ datum p.value

-- ---- rows

abbrev pub table_row : TableRow → List ℕ
table_row r = run r.name ++ listed field r.fields ++ listed column r.columns ++ flag r.multi ++ flag r.grouped

abbrev pub queue_row : QueueRow → List ℕ
queue_row r =
    run r.name ++ run r.table ++ queue_kind r.kind ++ flag r.enqueue ++ flag r.dequeue
    ++ num r.max_retries ++ num r.retry_delay ++ num r.retention ++ int r.lowest

abbrev pub sub_row : SubRow → List ℕ
sub_row r = run r.queue ++ run r.name ++ optional run r.address ++ optional rule r.rule

abbrev pub schedule_row : ScheduleRow → List ℕ
schedule_row r =
    run r.queue ++ run r.to ++ flag r.enabled ++ num r.start ++ optional num r.duration ++ optional num r.period
    ++ num r.latency ++ num r.failures ++ num r.next

abbrev pub slot_row : SlotRow → List ℕ
slot_row r = optional run r.name ++ optional run r.address ++ state r.state ++ num r.retries ++ num r.at ++ optional num r.expires

-- version 1 has no properties
abbrev pub props : ℕ → List Prop → List ℕ
props version ps = if version == 1 then [] else listed prop ps

-- what stands in front of a message's cells
abbrev pub msg_front : MsgRow → List ℕ
msg_front r =
    num r.id ++ run r.queue ++ listed int r.place ++ int r.facts.priority ++ optional run r.facts.corr ++ optional run r.exception

abbrev pub msg_row : ℕ → MsgRow → List ℕ
msg_row version r =
    msg_front r ++ listed datum r.facts.cells.cells ++ num r.enq ++ num r.group ++ flag r.moved ++ listed slot_row r.slots
    ++ props version r.facts.props

abbrev pub seen_row : SeenRow → List ℕ
seen_row r = num r.id ++ num r.slot ++ num r.copy

-- ---- changes

-- what names a slot and a moment
abbrev pub slot_at : ℕ → ℕ → ℕ → List ℕ
slot_at id slot at = num id ++ num slot ++ num at

-- which change it is
abbrev pub change_tag : Change → ℕ
change_tag (changes.PutTable row) = 1
change_tag (changes.DropTable name) = 2
change_tag (changes.PutQueue row) = 3
change_tag (changes.DropQueue name) = 4
change_tag (changes.PutSub row) = 5
change_tag (changes.DropSub queue name) = 6
change_tag (changes.PutSchedule row) = 7
change_tag (changes.DropSchedule queue to) = 8
change_tag (changes.Enqueued row) = 9
change_tag (changes.Retried id slot retries until at) = 10
change_tag (changes.Ready id slot at) = 11
change_tag (changes.Done id slot at) = 12
change_tag (changes.Expired id slot at) = 13
change_tag (changes.Dropped id slot at) = 14
change_tag (changes.Moved id queue at) = 15
change_tag (changes.Purged id) = 16
change_tag (changes.Seen row) = 17
change_tag (changes.Counters next transaction latest) = 18

-- what it says
abbrev pub change_fields : ℕ → Change → List ℕ
change_fields version (changes.PutTable row) = table_row row
change_fields version (changes.DropTable name) = run name
change_fields version (changes.PutQueue row) = queue_row row
change_fields version (changes.DropQueue name) = run name
change_fields version (changes.PutSub row) = sub_row row
change_fields version (changes.DropSub queue name) = run queue ++ run name
change_fields version (changes.PutSchedule row) = schedule_row row
change_fields version (changes.DropSchedule queue to) = run queue ++ run to
change_fields version (changes.Enqueued row) = msg_row version row
change_fields version (changes.Retried id slot retries until at) = num id ++ num slot ++ num retries ++ optional num until ++ num at
change_fields version (changes.Ready id slot at) = slot_at id slot at
change_fields version (changes.Done id slot at) = slot_at id slot at
change_fields version (changes.Expired id slot at) = slot_at id slot at
change_fields version (changes.Dropped id slot at) = slot_at id slot at
change_fields version (changes.Moved id queue at) = num id ++ run queue ++ num at
change_fields version (changes.Purged id) = num id
change_fields version (changes.Seen row) = seen_row row
change_fields version (changes.Counters next transaction latest) = num next ++ num transaction ++ num latest

-- a tag, and the change's fields
abbrev pub change : ℕ → Change → List ℕ
change version c = change_tag c ∷ change_fields version c

-- ---- commits

-- the moment, and then the changes
unfoldable pub spelling : ℕ → Commit → List ℕ
spelling version c = num c.moment ++ flat_map (change version) c.changes

-- commits are written in version 2
abbrev pub encode : Commit → List ℕ
encode c = spelling 2 c
