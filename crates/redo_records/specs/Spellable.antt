-- What the types of a commit leave open of its spelling: the rules of subscribers, and the data of messages.
use Rattle.std.specs.Prelude.{◌≡◌, ◌≤◌, length, true, Ok}
use Rattle.std.specs.List.{AllByRecursion}
use Rattle.std.specs.Option.{IfSome}
use Rattle.payload_records.specs.declared.record.Datum.{Datum}
use Rattle.payload_records.specs.declared.record.Datum.TheVariants as data_of
use Rattle.rule_conditions.specs.Print.{print}
use Rattle.rule_conditions.specs.Reading.{condition_of}
use Rattle.redo_records.specs.Reading.{is_not_empty}
use Rattle.queue_rows.specs.declared.rows.SubRow.{SubRow}
use Rattle.queue_rows.specs.declared.rows.MsgRow.{MsgRow}
use Rattle.queue_rows.specs.declared.change.Change.{Change}
use Rattle.queue_rows.specs.declared.change.Change.TheVariants as changes
use Rattle.queue_rows.specs.declared.change.Commit.{Commit}

-- its rule, where it has one, is what the rule's print is read as
abbrev pub HasReadRule : SubRow → Type 0
HasReadRule s = IfSome s.rule (λ c. condition_of (print c) ≡ Ok c)

-- it is no empty text
abbrev pub IsFull : Datum → Type 0
IsFull data_of.Null = Unit {0}
IsFull (data_of.Num n) = Unit {0}
IsFull (data_of.Text text) = is_not_empty text ≡ true

-- none of its cells is an empty text
abbrev pub HasFullCells : MsgRow → Type 0
HasFullCells m = AllByRecursion IsFull m.facts.cells.cells

-- no cell and no property is an empty text
pub record HasFullData (m : MsgRow) : Type 0 where
  pub cells : HasFullCells m
  pub props : AllByRecursion (λ p. IsFull p.value) m.facts.props

-- A subscriber that is put has a rule that is read again, and a message that goes in has full data. Of all other changes the types say enough.
abbrev pub IsSpellable : Change → Type 0
IsSpellable (changes.PutSub row) = HasReadRule row
IsSpellable (changes.Enqueued row) = HasFullData row
IsSpellable _ = Unit {0}

-- it changes something, and each of its changes can be spelled
pub record CanBeSpelled (c : Commit) : Type 0 where
  pub at_least_one : 1 ≤ length c.changes
  pub changes : AllByRecursion IsSpellable c.changes
