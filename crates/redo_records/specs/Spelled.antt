-- Which commits have a spelling that is read again.
use Rattle.std.specs.Prelude.{◌≡◌, ◌<◌, ◌≤◌, ℕ, ◌^◌, List, [], length, true, Ok}
use Rattle.std.specs.List.{AllByRecursion}
use Rattle.std.specs.Option.{IfSome}
use Rattle.std.specs.Str.{is_utf8}
use Rattle.payload_records.specs.Name.{is_name}
use Rattle.payload_records.specs.Order.{is_in_order}
use Rattle.payload_records.specs.declared.kind.Field.{Field}
use Rattle.payload_records.specs.declared.props.Prop.{Prop}
use Rattle.payload_records.specs.declared.record.Datum.{Datum}
use Rattle.payload_records.specs.declared.record.Datum.TheVariants as data_of
use Rattle.place_keys.specs.SortList.{IsSortList}
use Rattle.place_keys.specs.declared.sort_list.Column.{Column}
use Rattle.rule_conditions.specs.Print.{print}
use Rattle.rule_conditions.specs.Reading.{condition_of}
use Rattle.rule_conditions.specs.declared.condition.Cond.{Cond}
use Rattle.redo_records.specs.Reading.{is_not_empty}
use Rattle.redo_records.specs.Spelling.{zigzag}
use Rattle.queue_rows.specs.declared.rows.TableRow.{TableRow}
use Rattle.queue_rows.specs.declared.rows.QueueRow.{QueueRow}
use Rattle.queue_rows.specs.declared.rows.SubRow.{SubRow}
use Rattle.queue_rows.specs.declared.rows.ScheduleRow.{ScheduleRow}
use Rattle.queue_rows.specs.declared.rows.MsgRow.{MsgRow}
use Rattle.queue_rows.specs.declared.rows.SlotRow.{SlotRow}
use Rattle.queue_rows.specs.declared.rows.SeenRow.{SeenRow}
use Rattle.queue_rows.specs.declared.change.Change.{Change}
use Rattle.queue_rows.specs.declared.change.Change.TheVariants as changes
use Rattle.queue_rows.specs.declared.change.Commit.{Commit}

-- ---- parts

abbrev pub IsNumber : ℕ → Type 0
IsNumber n = n < 2 ^ 64

-- a number counts its bytes
abbrev pub IsShort : List ℕ → Type 0
IsShort bytes = IsNumber (length bytes)

abbrev pub IsName : List ℕ → Type 0
IsName name = IsShort name × (is_name name ≡ true)

abbrev pub IsText : List ℕ → Type 0
IsText text = IsShort text × (is_utf8 text ≡ true)

-- no datum is an empty text
abbrev pub IsDatum : Datum → Type 0
IsDatum data_of.Null = Unit {0}
IsDatum (data_of.Num n) = IsNumber (zigzag n)
IsDatum (data_of.Text text) = IsText text × (is_not_empty text ≡ true)

-- its print is a text that is read as it
abbrev pub IsRule : Cond → Type 0
IsRule c = IsText (print c) × (condition_of (print c) ≡ Ok c)

-- a number counts the items
abbrev pub AreListed : {A : Type 0} → (A → Type 0) → List A → Type 0
AreListed Is xs = IsNumber (length xs) × AllByRecursion Is xs

abbrev pub AreFields : List Field → Type 0
AreFields fields = AreListed (λ f. IsName f.name) fields × (is_in_order fields ≡ true)

abbrev pub AreColumns : List Column → Type 0
AreColumns columns = AreListed (λ _. Unit {0}) columns × IsSortList columns

pub record IsProp (p : Prop) : Type 0 where
  pub name : IsName p.name
  pub value : IsDatum p.value

-- version 1 has no properties
abbrev pub AreProps : ℕ → List Prop → Type 0
AreProps version props = (version ≡ 1 → props ≡ []) × AreListed IsProp props

-- ---- rows

pub record IsTableRow (r : TableRow) : Type 0 where
  pub name : IsName r.name
  pub fields : AreFields r.fields
  pub columns : AreColumns r.columns

pub record IsQueueRow (r : QueueRow) : Type 0 where
  pub name : IsName r.name
  pub table : IsName r.table
  pub max_retries : IsNumber r.max_retries
  pub retry_delay : IsNumber r.retry_delay
  pub retention : IsNumber r.retention
  pub lowest : IsNumber (zigzag r.lowest)

pub record IsSubRow (r : SubRow) : Type 0 where
  pub queue : IsName r.queue
  pub name : IsName r.name
  pub address : IfSome r.address IsName
  pub rule : IfSome r.rule IsRule

pub record IsScheduleRow (r : ScheduleRow) : Type 0 where
  pub queue : IsName r.queue
  pub to : IsName r.to
  pub start : IsNumber r.start
  pub duration : IfSome r.duration IsNumber
  pub period : IfSome r.period IsNumber
  pub latency : IsNumber r.latency
  pub failures : IsNumber r.failures
  pub next : IsNumber r.next

pub record IsSlotRow (r : SlotRow) : Type 0 where
  pub name : IfSome r.name IsName
  pub address : IfSome r.address IsName
  pub retries : IsNumber r.retries
  pub at : IsNumber r.at
  pub expires : IfSome r.expires IsNumber

-- what stands in front of the cells of a message
pub record IsMsgFront (r : MsgRow) : Type 0 where
  pub id : IsNumber r.id
  pub queue : IsName r.queue
  pub place : AreListed (λ z. IsNumber (zigzag z)) r.place
  pub priority : IsNumber (zigzag r.facts.priority)
  pub corr : IfSome r.facts.corr IsText
  pub exception : IfSome r.exception IsName

pub record IsMsgRow (version : ℕ) (r : MsgRow) : Type 0 where
  pub id : IsNumber r.id
  pub queue : IsName r.queue
  pub place : AreListed (λ z. IsNumber (zigzag z)) r.place
  pub priority : IsNumber (zigzag r.facts.priority)
  pub corr : IfSome r.facts.corr IsText
  pub exception : IfSome r.exception IsName
  pub cells : AreListed IsDatum r.facts.cells.cells
  pub enq : IsNumber r.enq
  pub group : IsNumber r.group
  pub slots : AreListed IsSlotRow r.slots
  pub props : AreProps version r.facts.props

pub record IsSeenRow (r : SeenRow) : Type 0 where
  pub id : IsNumber r.id
  pub slot : IsNumber r.slot
  pub copy : IsNumber r.copy

-- ---- changes

abbrev pub AreNumbers : ℕ → ℕ → ℕ → Type 0
AreNumbers id slot at = IsNumber id × (IsNumber slot × IsNumber at)

abbrev pub IsSpelled : ℕ → Change → Type 0
IsSpelled version (changes.PutTable row) = IsTableRow row
IsSpelled version (changes.DropTable name) = IsName name
IsSpelled version (changes.PutQueue row) = IsQueueRow row
IsSpelled version (changes.DropQueue name) = IsName name
IsSpelled version (changes.PutSub row) = IsSubRow row
IsSpelled version (changes.DropSub queue name) = IsName queue × IsName name
IsSpelled version (changes.PutSchedule row) = IsScheduleRow row
IsSpelled version (changes.DropSchedule queue to) = IsName queue × IsName to
IsSpelled version (changes.Enqueued row) = IsMsgRow version row
IsSpelled version (changes.Retried id slot retries until at) = IsNumber id × (IsNumber slot × (IsNumber retries × (IfSome until IsNumber × IsNumber at)))
IsSpelled version (changes.Ready id slot at) = AreNumbers id slot at
IsSpelled version (changes.Done id slot at) = AreNumbers id slot at
IsSpelled version (changes.Expired id slot at) = AreNumbers id slot at
IsSpelled version (changes.Dropped id slot at) = AreNumbers id slot at
IsSpelled version (changes.Moved id queue at) = IsNumber id × (IsName queue × IsNumber at)
IsSpelled version (changes.Purged id) = IsNumber id
IsSpelled version (changes.Seen row) = IsSeenRow row
IsSpelled version (changes.Counters next transaction latest) = AreNumbers next transaction latest

pub record HasSpelling (version : ℕ) (c : Commit) : Type 0 where
  pub moment : IsNumber c.moment
  pub at_least_one : 1 ≤ length c.changes
  pub changes : AllByRecursion (IsSpelled version) c.changes
