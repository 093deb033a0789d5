-- What finds the rows of tables by their names.
use Rattle.std.specs.Prelude.{◌≡◌, ℕ, List, length, Option, option_copied}
use Rattle.std.specs.BTreeMap.{BTreeMap, get}
use Rattle.std.specs.Cmp.Lexicographic.{slice_cmp}
use Rattle.std.specs.Map.{count_at}
use Rattle.std.specs.Ordering.{nat_cmp}
use denote.Ref.{Bor}
use Rattle.queue_rows.specs.Rows.{find_table, find_queue}
use Rattle.queue_rows.specs.Recipients.{subscribers_of}
use Rattle.queue_rows.specs.declared.tables.Tables.{Tables}
use Rattle.queue_rows.specs.declared.rows.TableRow.{TableRow}
use Rattle.queue_rows.specs.declared.rows.QueueRow.{QueueRow}

-- what the map has at a name
abbrev pub at_name : {X : Type 0} → BTreeMap (List ℕ) X → List ℕ → Option X
at_name m name = get (slice_cmp nat_cmp) m name

-- by name: the first table and the first queue that has it, and how many subscribers belong to the queue of that name
pub record IsCatalog (t : Tables) (tables : List ℕ → Option (Bor TableRow)) (queues : List ℕ → Option (Bor QueueRow)) (counts : List ℕ → Option ℕ) : Type 0 where
  pub tables_are : (name : List ℕ) → option_copied (tables name) ≡ find_table t name
  pub queues_are : (name : List ℕ) → option_copied (queues name) ≡ find_queue t name
  pub counts_are : (queue : List ℕ) → count_at counts queue ≡ length (subscribers_of t queue)
