-- What an enqueue adds has full data.
use Rattle.std.proofs.Common.{◌≡◌, ℕ, List, [], ◌∷◌, Bool, true, false, not, length, map, refl, subst, Option, Some, None, Result, Ok, Err, ◌==◌, ◌&&◌, ◌||◌}
use Rattle.std.specs.Prelude.{find, nat_le, nat_lt, is_some, is_none, if◌then◌else◌}
use Rattle.std.specs.List.{AllByRecursion, list_all}
use Rattle.std.specs.Option.{option_map_or}
use Rattle.std.specs.Str.{bytes_eq}
use Rattle.std.proofs.lemmas.Bool.{and_parts, false≢true, true≢false}
use Rattle.aq_base.specs.declared.limits.TheConstants.{NEXT_LIMIT, RECIPIENT_LIMIT}
use Rattle.payload_records.specs.Order.{are_ascending}
use Rattle.payload_records.specs.Props.{is_value, are_props}
use Rattle.payload_records.specs.Record.{datum_of, cells_of, first_fault, record_unless, record_of}
use Rattle.payload_records.specs.declared.TheConstants.{PROP_LIMIT}
use Rattle.payload_records.specs.declared.kind.Field.{Field}
use Rattle.payload_records.specs.declared.payload.Loose.{Loose}
use Rattle.payload_records.specs.declared.payload.Loose.TheVariants as loose
use Rattle.payload_records.specs.declared.payload.Member.{Member}
use Rattle.payload_records.specs.declared.payload.Payload.{Payload}
use Rattle.payload_records.specs.declared.payload.Payload.TheVariants as payloads
use Rattle.payload_records.specs.declared.props.Prop.{Prop}
use Rattle.payload_records.specs.declared.record.Datum.{Datum}
use Rattle.payload_records.specs.declared.record.Datum.TheVariants as data_of
use Rattle.payload_records.specs.declared.record.PayloadFault.{PayloadFault}
use Rattle.payload_records.specs.declared.record.PayloadFault.TheVariants as faults
use Rattle.payload_records.specs.declared.record.Record.{Record}
use Rattle.queue_rows.specs.Rows.{find_table, find_queue}
use Rattle.queue_rows.specs.Settling.{is_exception}
use Rattle.queue_rows.specs.Recipients.{names_recipients, recipients}
use Rattle.queue_rows.specs.Session.{Session}
use Rattle.queue_rows.specs.Enqueueing as q
use Rattle.queue_rows.specs.Enqueueing.{addition}
use Rattle.queue_rows.specs.Within.{is_within, are_props_within, is_prop_within}
use Rattle.queue_rows.specs.declared.tables.Tables.{Tables}
use Rattle.queue_rows.specs.declared.rows.TableRow.{TableRow}
use Rattle.queue_rows.specs.declared.rows.QueueRow.{QueueRow}
use Rattle.queue_rows.specs.declared.rows.MsgRow.{MsgRow}
use Rattle.queue_rows.specs.declared.session.Agent.{Agent}
use Rattle.queue_rows.specs.declared.session.Pending.TheVariants.{Add}
use Rattle.queue_rows.specs.declared.change.Change.{Change}
use Rattle.queue_rows.specs.declared.reply.Reply.{Reply}
use Rattle.queue_rows.specs.declared.reply.Reply.TheVariants as replies
use Rattle.queue_rows.specs.declared.statement.Enqueue.{Enqueue}
use Rattle.queue_rows.specs.declared.statement.Statement.TheVariants as statements
use Rattle.queue_rows.specs.declared.statement.Visibility.{Visibility}
use Rattle.queue_rows.specs.declared.statement.Visibility.TheVariants.{OnCommit, Immediate}
use Rattle.statement_laws.proofs.Among.{Says, says_if}
use Rattle.redo_records.specs.Spellable.{HasFullData, IsFull}
use Rattle.run_spellings.specs.SpellableRun.{AreFullAdditions, AreSpellable, IsFullAddition}
use Rattle.run_spellings.proofs.Changing.{commit_spells}
use Rattle.run_spellings.proofs.Each.{each_last, same_ok, not_both}

-- ---- records

text_full : (text : List ℕ) (b : Bool) → (length text == 0) ≡ b → IsFull (if b then data_of.Null else data_of.Text text)
text_full text true e = tt
text_full [] false e = absurd (true≢false e)
text_full (c ∷ text) false e = refl

datum_full : (value : Loose) → IsFull (datum_of value)
datum_full loose.Null = tt
datum_full (loose.Num n) = tt
datum_full (loose.Text text) = text_full text (length text == 0) refl
datum_full loose.Other = tt

cell_full : (o : Option Member) → IsFull (option_map_or (λ m. datum_of m.value) o data_of.Null)
cell_full None = tt
cell_full (Some m) = datum_full m.value

cells_full : (fields : List Field) (members : List Member) → AllByRecursion IsFull (cells_of fields members)
cells_full [] members = tt
cells_full (f ∷ fields) members = (cell_full (find (λ m. bytes_eq m.key f.name) members), cells_full fields members)

unless_full : (o : Option PayloadFault) (cells : List Datum) (r : Record) → AllByRecursion IsFull cells → record_unless o cells ≡ Ok r → AllByRecursion IsFull r.cells
unless_full None cells r h e = let made : Record = record { cells = cells } in subst (λ x. AllByRecursion IsFull x.cells) (same_ok (record_unless None cells) made r refl e) h
unless_full (Some fault) cells r h e = not_both (record_unless (Some fault) cells) r fault e refl

record_full : (fields : List Field) (payload : Payload) (r : Record) → record_of fields payload ≡ Ok r → AllByRecursion IsFull r.cells
record_full fields payloads.NotObject r e = not_both (record_of fields payloads.NotObject) r faults.NotObject e refl
record_full fields (payloads.Members members) r e = unless_full (first_fault fields members) (cells_of fields members) r (cells_full fields members) e

-- ---- properties

given_full : (text : List ℕ) → is_value (data_of.Text text) ≡ true → IsFull (data_of.Text text)
given_full [] h = absurd (false≢true h)
given_full (c ∷ text) h = refl

value_full : (value : Datum) → is_value value ≡ true → IsFull value
value_full data_of.Null h = tt
value_full (data_of.Num n) h = tt
value_full (data_of.Text text) h = given_full text h

values_full : (props : List Prop) → list_all (λ p. is_value p.value) props ≡ true → AllByRecursion (λ p. IsFull p.value) props
values_full [] h = tt
values_full (p ∷ props) h = let x = and_parts (is_value p.value) (list_all (λ q. is_value q.value) props) h in (value_full p.value x.0, values_full props x.1)

pub props_full : (props : List Prop) → are_props props ≡ true → AllByRecursion (λ p. IsFull p.value) props
props_full props h = values_full props (and_parts (are_ascending (map (λ p. p.name) props)) (list_all (λ p. is_value p.value) props) h).1

pub given_props_full : (ask : Enqueue) → is_within (statements.Enqueue ask) ≡ true → AllByRecursion (λ p. IsFull p.value) ask.props
unfolding is_within
given_props_full ask h =
    let p : are_props_within ask.props ≡ true = (and_parts _ (are_props_within ask.props) h).1 in
    let front = and_parts (nat_le (length ask.props) PROP_LIMIT && are_props ask.props) (list_all is_prop_within ask.props) p in
    props_full ask.props (and_parts (nat_le (length ask.props) PROP_LIMIT) (are_props ask.props) front.0).1

-- ---- what a statement commits, and what its session then holds

abbrev pub SpellsAnswer : Reply → List Change → Session → Type 0
SpellsAnswer reply cs after = AreSpellable cs × AreFullAdditions after.pending

-- ---- enqueues

module _ (t : Tables) (s : Session) (ask : Enqueue) (next moment : ℕ) (held : AreFullAdditions s.pending) (props : AllByRecursion (λ p. IsFull p.value) ask.props) where
  untouched : SpellsAnswer replies.NoQueue [] s
  untouched = (tt, held)

  adds : (visibility : Visibility) (m : MsgRow) → HasFullData m → Says SpellsAnswer (q.add visibility t s m moment)
  adds OnCommit m h = (tt, each_last IsFullAddition s.pending (Add m) held h)
  adds Immediate m h = (commit_spells t moment (Add m ∷ []) (h, tt), held)

  for_spells : (table : TableRow) (cells : Record) (agents : List Agent) (relative : Option MsgRow) → AllByRecursion IsFull cells.cells → Says SpellsAnswer (q.enqueue_for t s table ask cells agents relative next moment)
  for_spells table cells agents relative h =
      says_if SpellsAnswer (names_recipients ask && not table.multi) _ _ (λ _. untouched) (λ _.
      says_if SpellsAnswer (q.names_bad_exception t table ask) _ _ (λ _. untouched) (λ _.
      says_if SpellsAnswer (table.grouped && (is_some ask.before || ask.top)) _ _ (λ _. untouched) (λ _.
      says_if SpellsAnswer (is_some ask.before && is_none relative) _ _ (λ _. untouched) (λ _.
      says_if SpellsAnswer (q.is_too_deep table relative) _ _ (λ _. untouched) (λ _.
      says_if SpellsAnswer (length agents == 0) _ _ (λ _. untouched) (λ _.
      says_if SpellsAnswer (nat_lt RECIPIENT_LIMIT (length agents)) _ _ (λ _. untouched) (λ _.
      says_if SpellsAnswer (nat_le NEXT_LIMIT next) _ _ (λ _. untouched) (λ _.
      adds ask.visibility (addition table ask cells agents relative next moment) (record { cells = h; props = props })))))))))

  cells_spell : (table : TableRow) (r : Result Record PayloadFault) → record_of table.fields ask.payload ≡ r → Says SpellsAnswer (q.enqueue_cells t s table ask r next moment)
  cells_spell table (Err fault) e = untouched
  cells_spell table (Ok cells) e = for_spells table cells (recipients t table ask cells) (q.relative_of t s.at ask) (record_full table.fields ask.payload cells e)

  typed_spells : (o : Option TableRow) → Says SpellsAnswer (q.enqueue_typed t s o ask next moment)
  typed_spells None = untouched
  typed_spells (Some table) = cells_spell table (record_of table.fields ask.payload) refl

  into_spells : (o : Option QueueRow) → Says SpellsAnswer (q.enqueue_into t s o ask next moment)
  into_spells None = untouched
  into_spells (Some queue) =
      says_if SpellsAnswer (is_exception queue.kind) _ _ (λ _. untouched) (λ _.
      says_if SpellsAnswer (not queue.enqueue) _ _ (λ _. untouched) (λ _. typed_spells (find_table t queue.table)))

  pub enqueue_spells : Says SpellsAnswer (q.enqueue t s ask next moment)
  unfolding q.enqueue
  enqueue_spells = into_spells (find_queue t ask.queue)
