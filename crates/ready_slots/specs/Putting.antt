-- What the rows of each queue and consumer are when some of them get a row.
use Rattle.std.specs.Prelude.{◌≡◌, ℕ, Bool, cond, List, Option}
use Rattle.row_tree.specs.Order.{put_in_order}
use Rattle.queue_rows.specs.declared.rows.MsgRow.{MsgRow}
use Rattle.sort_index.specs.Ready.{is_of, key}
use Rattle.sort_index.specs.declared.group.Group.{Group}
use Rattle.choice_laws.specs.Entries.{Row, row_cmp, without_row}
use Rattle.ready_slots.specs.Shown.{is_any_offered, is_nameless}
use Rattle.ready_slots.specs.Taking.{row_at, told}

-- the rows with that one, where the flag says so
abbrev pub put_where : Bool → Row → List Row → List Row
put_where comes row rows = cond comes (put_in_order row_cmp row (without_row row rows)) rows

-- the consumer has the row of the message, and every other one has what it had
abbrev pub PutsRow : MsgRow → Option (List ℕ) → ℕ → (before after : List Group) → Type 0
PutsRow m consumer stamp before after = (q : List ℕ) (c : Option (List ℕ))
    → told q c after ≡ put_where (is_of q c (key m.queue consumer)) (row_at stamp m) (told q c before)

-- the nameless consumer has the row of the message, where it is shown the message
abbrev pub PutsNameless : MsgRow → ℕ → (before after : List Group) → Type 0
PutsNameless m stamp before after = (q : List ℕ) (c : Option (List ℕ))
    → told q c after ≡ put_where (is_nameless m q c) (row_at stamp m) (told q c before)

-- each consumer to whom a slot of the message is offered has the row of the message
abbrev pub PutsEach : MsgRow → ℕ → (before after : List Group) → Type 0
PutsEach m stamp before after = (q : List ℕ) (c : Option (List ℕ))
    → told q c after ≡ put_where (is_any_offered m.queue m.slots q c) (row_at stamp m) (told q c before)
