-- The laws of what administrative statements commit.
use Rattle.std.specs.Prelude.{◌≡◌, ◌≤◌, ℕ, List, [], ◌∷◌, length, true, None, Ok}
use Rattle.aq_base.specs.declared.limits.TheConstants.{MOMENT_LIMIT}
use Rattle.payload_records.specs.declared.TheConstants.{FIELD_LIMIT}
use Rattle.queue_rows.specs.Rows.{find_table, find_queue, exception_name}
use Rattle.queue_rows.specs.Settling.{named_by, settled}
use Rattle.queue_rows.specs.Catalog.{exception_row, judged}
use Rattle.queue_rows.specs.Valid.{is_valid}
use Rattle.queue_rows.specs.Within.{is_within}
use Rattle.queue_rows.specs.Fits.{fits}
use Rattle.queue_rows.specs.declared.tables.Tables.{Tables}
use Rattle.queue_rows.specs.declared.rows.TableRow.{TableRow}
use Rattle.queue_rows.specs.declared.change.Change.{Change}
use Rattle.queue_rows.specs.declared.change.Change.TheVariants.{PutTable, PutQueue}
use Rattle.queue_rows.specs.declared.statement.Admin.{Admin}
use Rattle.queue_rows.specs.declared.statement.Statement.TheVariants as statements
use Rattle.valid_laws.specs.ValidLaws.{Keeps}

-- one change that has what it needs, and names no message, fits by itself: what it settles is nothing
abbrev pub OneChangeFits : Type 0
OneChangeFits = (t : Tables) (moment : ℕ) (c : Change) → is_valid t ≡ true → t.latest ≤ moment → moment ≤ MOMENT_LIMIT
    → Keeps (record t { latest = moment }) c → named_by c ≡ None
    → fits t (record { moment = moment; changes = settled t (c ∷ []) }) ≡ true

-- no table has that name, and no queue that of its exception queue; and it has no more fields than it may have
pub record TableIsNew (t : Tables) (row : TableRow) : Type 0 where
  pub no_table : find_table t row.name ≡ None
  pub no_queue : find_queue t (exception_name row.name) ≡ None
  pub few : length row.fields ≤ FIELD_LIMIT

-- A new table fits together with its exception queue. Between the two the tables are not valid.
abbrev pub NewTableFits : Type 0
NewTableFits = (t : Tables) (row : TableRow) (moment : ℕ) → is_valid t ≡ true → t.latest ≤ moment → moment ≤ MOMENT_LIMIT
    → TableIsNew t row
    → fits t (record { moment = moment; changes = settled t (PutTable row ∷ PutQueue (exception_row row.name) ∷ []) }) ≡ true

-- What an administrative statement changes, where it is not refused, fits with what it settles: in valid tables, where the statement
-- keeps the limits. Whether work on what it takes away is outstanding does not matter to that.
abbrev pub JudgedFits : Type 0
JudgedFits = (t : Tables) (ask : Admin) (moment : ℕ) (cs : List Change) → is_valid t ≡ true → t.latest ≤ moment → moment ≤ MOMENT_LIMIT
    → is_within (statements.Admin ask) ≡ true → judged t ask moment ≡ Ok cs
    → fits t (record { moment = moment; changes = settled t cs }) ≡ true
