-- In valid tables each message stands in a queue of a table, which has an exception queue for it.
use Rattle.std.proofs.Common.{◌≡◌, ℕ, List, Bool, true, false, refl, sym, ap, ◌∙◌, subst, Option, Some, None, ◌==◌, ◌&&◌}
use Rattle.std.specs.Prelude.{if◌then◌else◌, length, nat_le}
use Rattle.std.specs.Option.{option_map_or}
use Rattle.std.specs.Str.{bytes_eq}
use Rattle.std.proofs.lemmas.Bool.{and_parts, false≢true}
use Rattle.std.proofs.lemmas.Slice.Eq.{bytes_eq-Decides}
use Rattle.queue_rows.specs.Rows.{find_message, find_queue, find_table, exception_name}
use Rattle.queue_rows.specs.Settling.{is_exception, is_exception_of, named_or_default, exception_queue_in, exception_queue_of}
use Rattle.queue_rows.specs.Valid.{is_valid, is_valid_table, is_default_exception, is_valid_message, is_valid_message_at, is_valid_message_in}
use Rattle.payload_records.specs.declared.TheConstants.{FIELD_LIMIT}
use Rattle.queue_rows.specs.declared.tables.Tables.{Tables}
use Rattle.queue_rows.specs.declared.rows.MsgRow.{MsgRow}
use Rattle.queue_rows.specs.declared.rows.QueueRow.{QueueRow}
use Rattle.queue_rows.specs.declared.rows.TableRow.{TableRow}
use Rattle.row_laws.proofs.Finding.{found_is}
use Rattle.valid_laws.proofs.Parts.{parts_of, valid_messages, all_found}

-- ---- where a message stands

pub record HasHome (t : Tables) (m : MsgRow) : Type 0 where
  pub queue : QueueRow
  pub table : TableRow
  pub queue_is : find_queue t m.queue ≡ Some queue
  pub table_is : find_table t queue.table ≡ Some table
  pub valid : is_valid_message_in t queue (Some table) m ≡ true

home_in : (t : Tables) (m : MsgRow) (queue : QueueRow) (o : Option TableRow) → find_table t queue.table ≡ o → find_queue t m.queue ≡ Some queue → is_valid_message_in t queue o m ≡ true → HasHome t m
home_in t m queue None g e h = absurd (false≢true h)
home_in t m queue (Some table) g e h = record { queue = queue; table = table; queue_is = e; table_is = g; valid = h }

home_by : (t : Tables) (m : MsgRow) (o : Option QueueRow) → find_queue t m.queue ≡ o → is_valid_message_at t o m ≡ true → HasHome t m
home_by t m None e h = absurd (false≢true h)
home_by t m (Some queue) e h = home_in t m queue (find_table t queue.table) refl e h

pub home_if_valid : (t : Tables) (m : MsgRow) → is_valid_message t m ≡ true → HasHome t m
home_if_valid t m h = home_by t m (find_queue t m.queue) refl h

pub home_of : (t : Tables) (id : ℕ) (m : MsgRow) → is_valid t ≡ true → find_message t id ≡ Some m → HasHome t m
home_of t id m v e = home_if_valid t m (all_found (is_valid_message t) (λ r. r.id == id) t.messages m (valid_messages t v) e)

-- ---- an exception queue of its table

pub record HasExit (t : Tables) (table name : List ℕ) : Type 0 where
  pub to : QueueRow
  pub to_is : find_queue t name ≡ Some to
  pub exception : is_exception to.kind ≡ true
  pub table_is : to.table ≡ table

exit_from : (t : Tables) (table name : List ℕ) (q : QueueRow) → find_queue t name ≡ Some q → (is_exception q.kind && bytes_eq q.table table) ≡ true → HasExit t table name
exit_from t table name q e h =
    let p = and_parts (is_exception q.kind) (bytes_eq q.table table) h in record { to = q; to_is = e; exception = p.0; table_is = (bytes_eq-Decides q.table table).0 p.1 }

default_by : (t : Tables) (table name : List ℕ) (o : Option QueueRow) → find_queue t name ≡ o → option_map_or (is_default_exception table) o false ≡ true → HasExit t table name
default_by t table name None e h = absurd (false≢true h)
default_by t table name (Some q) e h = exit_from t table name q e h

named_by : (t : Tables) (table name : List ℕ) (o : Option QueueRow) → find_queue t name ≡ o → is_exception_of table o ≡ true → HasExit t table name
named_by t table name None e h = absurd (false≢true h)
named_by t table name (Some q) e h = exit_from t table name q e h

pub default_exit : (t : Tables) (name : List ℕ) (table : TableRow) → is_valid t ≡ true → find_table t name ≡ Some table → HasExit t name (exception_name name)
default_exit t name table v e =
    let same : table.name ≡ name = (bytes_eq-Decides table.name name).0 (found_is (λ r. bytes_eq r.name name) t.tables table e) in
    let h : is_valid_table t table ≡ true = all_found (is_valid_table t) (λ r. bytes_eq r.name name) t.tables table (parts_of t v).tables e in
    let p = and_parts (nat_le (length table.fields) FIELD_LIMIT) (option_map_or (is_default_exception table.name) (find_queue t (exception_name table.name)) false) h in
    subst (λ n. HasExit t n (exception_name n)) same (default_by t table.name (exception_name table.name) (find_queue t (exception_name table.name)) refl p.1)

exit_if : (t : Tables) (table name : List ℕ) (b : Bool) → is_exception_of table (find_queue t name) ≡ b → HasExit t table (exception_name table) → HasExit t table (if b then name else exception_name table)
exit_if t table name true e h = named_by t table name (find_queue t name) refl e
exit_if t table name false e h = h

named_exit : (t : Tables) (table : List ℕ) (o : Option (List ℕ)) → HasExit t table (exception_name table) → HasExit t table (named_or_default t table o)
named_exit t table None h = h
named_exit t table (Some name) h = exit_if t table name (is_exception_of table (find_queue t name)) refl h

-- a row that stands where the message stands has an exception queue to go to
pub exit_of : (t : Tables) (v : is_valid t ≡ true) (m : MsgRow) (h : HasHome t m) (r : MsgRow) → r.queue ≡ m.queue → HasExit t h.queue.table (exception_queue_of t r)
exit_of t v m h r same =
    let e : find_queue t r.queue ≡ Some h.queue = ap (find_queue t) same ∙ h.queue_is in
    subst (HasExit t h.queue.table) (sym (ap (exception_queue_in t r) e)) (named_exit t h.queue.table r.exception (default_exit t h.queue.table h.table v h.table_is))
