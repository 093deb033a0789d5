-- The rows of the index that a search goes over, and what it finds.
use Rattle.std.proofs.Common.{◌≡◌, ℕ, ◌<◌, Bool, true, false, cond, List, [], ◌∷◌, map, length, Option, Some, None, refl, sym, ap, ◌∙◌, arith}
use Rattle.std.specs.Prelude.{find, slice_get, option_map}
use Rattle.std.specs.Ordering.{is_gt}
use Rattle.row_tree.specs.Found.{kept_by}
use Rattle.row_tree.specs.Order.{IsRising}
use Rattle.queue_rows.specs.Propagating.{can_send_of}
use Rattle.queue_rows.specs.declared.rows.MsgRow.{MsgRow}
use Rattle.queue_rows.specs.declared.rows.ScheduleRow.{ScheduleRow}
use Rattle.sort_index.specs.Ready.{is_past, is_past_row, rows_of}
use Rattle.sort_index.specs.declared.group.Ready.{Ready}
use Rattle.sort_index.specs.declared.group.Group.{Group}
use Rattle.choice_laws.specs.Choosing.{first_passing}
use Rattle.choice_laws.specs.Entries.{Entry, Row, AreRising, message_at, messages_of, row_cmp}
use Rattle.choice_laws.specs.GoingLaws.{from_row, rows_behind}
use Rattle.choice_laws.proofs.Going.{rows_go_on}
use Rattle.ready_slots.specs.Indexed.{stamped}
use Rattle.ready_slots.proofs.Leading.{hit_first, missed_first}
use Rattle.remote_slots.specs.Remote.{IndexesRemote, rows_to}
use Rattle.remote_slots.specs.Searched.{first_from, rows_from, sent_first}
use Rattle.remote_slots.proofs.Searching.{first_is_sent}
use Rattle.remote_slots.proofs.Turned.{rise}

-- ---- rows that are told otherwise

module _ {T U : Type 0} (told : T → U) where
  find_told : (q : U → Bool) (xs : List T) → find q (map told xs) ≡ option_map told (find (λ x. q (told x)) xs)
  find_told q [] = refl
  find_told q (x ∷ xs) =
      let P : Bool → Type 0 = λ b. cond b (Some (told x)) (find q (map told xs)) ≡ option_map told (cond b (Some x) (find (λ y. q (told y)) xs)) in
      elim (q (told x)) as P [ true ↦ refl | false ↦ find_told q xs ]

  first_told : (xs : List T) → slice_get (map told xs) 0 ≡ option_map told (find (λ x. true) xs)
  first_told [] = refl
  first_told (x ∷ xs) = refl

one_more : (r : Row) (xs ys : List Row) → xs ≡ ys → length ys < length (r ∷ xs)
one_more r xs ys same = let lengths : length xs ≡ length ys = ap (λ (rs : List Row). length rs) same in omega arith

-- ---- from which row the rows go on

module _ (schedule : ScheduleRow) (moment : ℕ) (entries : List Entry) (groups : List Group) (rising : AreRising entries) (indexed : IndexesRemote entries groups) where
  abbrev all_rows : List Row
  all_rows = rows_to schedule.queue schedule.to entries

  abbrev index_rows : List Ready
  index_rows = rows_of schedule.queue (Some schedule.to) groups

  rows_are : map stamped index_rows ≡ all_rows
  rows_are = indexed schedule.queue schedule.to

  rows_rise : IsRising row_cmp all_rows
  rows_rise = rise schedule.queue schedule.to entries rising

  all_from_first : all_rows ≡ rows_from schedule entries (find (is_past None) index_rows)
  all_from_first =
      rows_go_on.first all_rows rows_rise
      ∙ ap (λ o. from_row o all_rows) (ap (λ rs. slice_get rs 0) (sym rows_are) ∙ first_told stamped index_rows)

  behind_from_next : (row : Ready) → rows_behind (stamped row) all_rows ≡ rows_from schedule entries (find (is_past_row (Some (row.place, row.id))) index_rows)
  behind_from_next row =
      rows_go_on.behind (stamped row) all_rows rows_rise
      ∙ ap (λ o. from_row o all_rows) (ap (find (λ r. is_gt (row_cmp r (stamped row)))) (sym rows_are) ∙ find_told stamped (λ r. is_gt (row_cmp r (stamped row))) index_rows)

  -- what the rows from the first one on lead to is sent
  pub finds_first : first_from schedule moment entries (find (is_past None) index_rows) ≡ sent_first schedule moment (messages_of entries)
  finds_first =
      ap (first_passing entries (can_send_of schedule moment)) (sym all_from_first)
      ∙ first_is_sent schedule moment entries rising

  module _ (row : Ready) where
    -- a row of whose message a slot can be sent
    pub ends_with : (m : MsgRow) → kept_by (can_send_of schedule moment) (message_at entries row.id) ≡ Some m → first_from schedule moment entries (Some row) ≡ Some m
    ends_with m hit = hit_first entries (can_send_of schedule moment) (stamped row) (rows_behind (stamped row) all_rows) m hit

    -- a row that is passed over
    pub record GoesOnWith (next : Option Ready) : Type 0 where
      pub found : first_from schedule moment entries (Some row) ≡ first_from schedule moment entries next
      pub fewer : length (rows_from schedule entries next) < length (rows_from schedule entries (Some row))

    pub goes_on_with : (next : Option Ready) → next ≡ find (is_past_row (Some (row.place, row.id))) index_rows
        → kept_by (can_send_of schedule moment) (message_at entries row.id) ≡ None → GoesOnWith next
    goes_on_with next is miss =
        let behind = rows_behind (stamped row) all_rows in
        let same : behind ≡ rows_from schedule entries next = behind_from_next row ∙ ap (rows_from schedule entries) (sym is) in
        record {
          found = missed_first entries (can_send_of schedule moment) (stamped row) behind miss ∙ ap (first_passing entries (can_send_of schedule moment)) same;
          fewer = one_more (stamped row) behind (rows_from schedule entries next) same;
        }
