-- The script that is generated from a number, for so many sessions with so many statements each.
use Rattle.std.specs.Prelude.{ℕ, pos, zero, suc, ◌+◌, ◌%◌, ◌==◌, nat_lt, List, [], ◌∷◌, ◌++◌, codes, decimal, true, false, None, if◌then◌else◌}
use Rattle.aq_base.specs.declared.DbId.TheVariants.{Home}
use Rattle.payload_records.specs.declared.kind.Field.{Field}
use Rattle.payload_records.specs.declared.kind.Kind.TheVariants as kinds
use Rattle.payload_records.specs.declared.payload.Loose.TheVariants as loose
use Rattle.payload_records.specs.declared.payload.Payload.{Payload}
use Rattle.payload_records.specs.declared.payload.Payload.TheVariants.{Members}
use Rattle.place_keys.specs.declared.sort_list.Column.{Column}
use Rattle.place_keys.specs.declared.sort_list.Column.TheVariants.{Priority}
use Rattle.queue_rows.specs.declared.rows.QueueKind.TheVariants.{Normal}
use Rattle.queue_rows.specs.declared.history.SessionScript.{SessionScript}
use Rattle.queue_rows.specs.declared.statement.Admin.TheVariants as asks
use Rattle.queue_rows.specs.declared.statement.Mode.TheVariants.{Remove}
use Rattle.queue_rows.specs.declared.statement.Navigation.TheVariants.{Next}
use Rattle.queue_rows.specs.declared.statement.Statement.{Statement}
use Rattle.queue_rows.specs.declared.statement.Statement.TheVariants as statements
use Rattle.queue_rows.specs.declared.statement.Visibility.{Visibility}
use Rattle.queue_rows.specs.declared.statement.Visibility.TheVariants.{OnCommit, Immediate}
use Rattle.work_gen.specs.Draws.{next_number, draw_of}

-- ---- the one queue that all sessions use

abbrev pub table_name : List ℕ
table_name = codes "t"

abbrev pub queue_name : List ℕ
queue_name = codes "q"

abbrev pub field_name : List ℕ
field_name = codes "qty"

-- its messages have a quantity
abbrev pub quantity_field : List Field
quantity_field = record { name = field_name; kind = kinds.Num } ∷ []

-- they are sorted by priority
abbrev pub by_priority : List Column
by_priority = Priority ∷ []

abbrev pub create_table : Statement
create_table = statements.Admin (asks.CreateTable table_name quantity_field by_priority false false)

abbrev pub create_queue : Statement
create_queue = statements.Admin (asks.CreateQueue queue_name table_name Normal 5 0 0)

abbrev pub start_queue : Statement
start_queue = statements.Admin (asks.StartQueue queue_name None true)

-- the first session makes it
abbrev pub preparation : ℕ → List Statement
preparation zero = create_table ∷ create_queue ∷ start_queue ∷ []
preparation (suc session) = []

-- ---- statements

abbrev pub payload_of : ℕ → Payload
payload_of qty = Members (record { key = field_name; value = loose.Num (pos qty) } ∷ [])

-- an enqueue that is a transaction of its own
abbrev pub enqueue : ℕ → ℕ → Statement
enqueue priority qty = statements.Enqueue (record {
  queue = queue_name;
  payload = payload_of qty;
  priority = pos priority;
  delay = 0;
  expiration = None;
  corr = None;
  recipients = None;
  exception_queue = None;
  before = None;
  visibility = Immediate;
  top = false;
  props = [];
})

-- a dequeue of which no more is said
abbrev pub dequeue : Visibility → Statement
dequeue visibility = statements.Dequeue (record {
  queue = queue_name;
  consumer = None;
  mode = Remove;
  navigation = Next;
  visibility = visibility;
  wait = 0;
  msgid = None;
  corr = None;
  condition = None;
})

-- a statement, and the number that its last draw came from
pub record Drawn : Type 0 where
  pub statement : Statement
  pub number : ℕ

-- the priority is drawn before the quantity
abbrev pub drawn_enqueue : ℕ → Drawn
drawn_enqueue x = let y = next_number x in let z = next_number y in record {
  statement = enqueue (draw_of y % 16) (draw_of z % 1000);
  number = z;
}

-- by the remainder of the draw that x gives: four of eight are enqueues, and two dequeues commit by themselves
abbrev pub drawn_by : ℕ → ℕ → Drawn
drawn_by remainder x = if nat_lt remainder 4 then drawn_enqueue x
    else (if nat_lt remainder 6 then record { statement = dequeue Immediate; number = x }
    else (if remainder == 6 then record { statement = dequeue OnCommit; number = x }
    else record { statement = statements.Commit; number = x }))

-- the statement that is drawn next
unfoldable pub drawn : ℕ → Drawn
drawn x = let y = next_number x in drawn_by (draw_of y % 8) y

-- ---- sessions

-- the number after so many statements
unfoldable pub number_after : ℕ → ℕ → ℕ
number_after zero x = x
number_after (suc n) x = (drawn (number_after n x)).number

-- so many statements
unfoldable pub drawn_statements : ℕ → ℕ → List Statement
drawn_statements zero x = []
drawn_statements (suc n) x = drawn_statements n x ++ (drawn (number_after n x)).statement ∷ []

-- s1, s2 and so on
abbrev pub session_name : ℕ → List ℕ
session_name session = codes "s" ++ decimal (session + 1)

-- a session, counted from 0, that asks so many drawn statements
abbrev pub session_of : ℕ → ℕ → ℕ → SessionScript
session_of session count x = record {
  name = session_name session;
  at = Home;
  statements = preparation session ++ drawn_statements count x;
}

-- the number after so many sessions
unfoldable pub number_past : ℕ → ℕ → ℕ → ℕ
number_past count zero x = x
number_past count (suc session) x = number_after count (number_past count session x)

-- by the first number, so many sessions with so many statements each: their draws follow one another
unfoldable pub generated : ℕ → ℕ → ℕ → List SessionScript
generated number zero count = []
generated number (suc session) count = generated number session count ++ session_of session count (number_past count session number) ∷ []
