-- The rows of each message are among those of all.
use Rattle.std.proofs.Common.{◌≡◌, ◌==◌, Bool, true, false, cond, List, [], ◌∷◌, Some, Result, Ok, Err, IfOk, sym, ap, ◌∙◌, subst, arith}
use Rattle.std.specs.Prelude.{find}
use Rattle.std.proofs.lemmas.Bool.{or_left, or_right}
use Rattle.std.proofs.lemmas.Option.{none-some}
use Rattle.due_index.specs.declared.row.DueRow.{DueRow}
use Rattle.queue_rows.specs.declared.tables.Tables.{Tables}
use Rattle.queue_rows.specs.declared.rows.MsgRow.{MsgRow}
use Rattle.due_slots.specs.Edits.{joined}
use Rattle.due_slots.specs.Indexed.{has}
use Rattle.due_slots.specs.Laws.{JoinedTells, RowsNameDue}
use Rattle.due_slots.specs.Named.{NamesDue}
use Rattle.due_slots.specs.Rows.{rows_of}
use Rattle.benches.specs.Kept.{rows_after}

module _ (tells : JoinedTells) (row : DueRow) where
  stays : (ms : List MsgRow) (rows : List DueRow) → has rows row ≡ true → has (rows_after rows ms) row ≡ true
  stays [] rows some = some
  stays (m ∷ ms) rows some =
      stays ms (joined rows (rows_of 0 m)) (tells rows (rows_of 0 m) row ∙ or_left (has rows row) (has (rows_of 0 m) row) some)

  comes_by : (p : MsgRow → Bool) (x m : MsgRow) (ms : List MsgRow) (rows : List DueRow) (b : Bool) → has (rows_of 0 m) row ≡ true
      → (find p ms ≡ Some m → has (rows_after (joined rows (rows_of 0 x)) ms) row ≡ true)
      → cond b (Some x) (find p ms) ≡ Some m → has (rows_after (joined rows (rows_of 0 x)) ms) row ≡ true
  comes_by p x m ms rows true own ih found =
      let same : x ≡ m = cc found in
      stays ms (joined rows (rows_of 0 x)) (tells rows (rows_of 0 x) row ∙ or_right (has rows row) (has (rows_of 0 x) row) (ap (λ (y : MsgRow). has (rows_of 0 y) row) same ∙ own))
  comes_by p x m ms rows false own ih found = ih found

  comes : (p : MsgRow → Bool) (ms : List MsgRow) (rows : List DueRow) (m : MsgRow) → find p ms ≡ Some m → has (rows_of 0 m) row ≡ true → has (rows_after rows ms) row ≡ true
  comes p [] rows m found own = absurd (none-some m found)
  comes p (x ∷ ms) rows m found own = comes_by p x m ms rows (p x) own (λ later. comes p ms (joined rows (rows_of 0 x)) m later own) found

named : JoinedTells → RowsNameDue → (t : Tables) (rows : List DueRow) → rows ≡ rows_after [] t.messages → NamesDue t rows
named tells law t rows is =
    subst (λ (all : List DueRow). NamesDue t all) (sym is)
    (law t (λ queue. 0) (rows_after [] t.messages) (λ m known. omega arith)
    (λ m row known own. comes tells row (λ x. x.id == m.id) t.messages [] m known own))

pub if_named : {A E : Type 0} (f : A → List DueRow) → JoinedTells → RowsNameDue → (t : Tables) (r : Result A E) → IfOk r (λ a. f a ≡ rows_after [] t.messages) → IfOk r (λ a. NamesDue t (f a))
if_named f tells law t (Ok a) holds = named tells law t (f a) holds
if_named f tells law t (Err e) holds = holds
