-- A message that comes brings a row for the nameless consumer and for each that a slot names, where it has a ready slot for them.
use Rattle.std.proofs.Common.{◌≡◌, ℕ, ℤ, Bool, true, false, cond, not, map, filter, List, [], ◌∷◌, Option, Some, None, refl, sym, ap, ◌∙◌, subst, ◌||◌, ◌&&◌}
use Rattle.std.specs.Option.{option_map_or}
use Rattle.std.specs.Ordering.{is_eq, is_lt}
use Rattle.row_tree.specs.Order.{put_in_order}
use Rattle.queue_rows.specs.declared.rows.MsgRow.{MsgRow}
use Rattle.queue_rows.specs.declared.rows.SlotRow.{SlotRow}
use Rattle.sort_index.specs.EditLaws.{free_once_taken, own_rows}
use Rattle.sort_index.specs.Ready.{EditsRows, is_of, key, names_cmp, ready_cmp, rows_of}
use Rattle.sort_index.specs.Ready as ready
use Rattle.sort_index.specs.ReadyLaws.{names_exact}
use Rattle.sort_index.specs.declared.group.Ready.{Ready}
use Rattle.sort_index.specs.declared.group.Group.{Group}
use Rattle.choice_laws.specs.EditLaws.{IsFree}
use Rattle.choice_laws.specs.Entries.{Row, row_cmp, rows_for, shows, stands_for, with_row, without_row}
use Rattle.choice_laws.proofs.Orders.{not_kept_itself}
use Rattle.ready_slots.specs.Indexed.{stamped}
use Rattle.ready_slots.specs.Edits.{Puts, entry}
use Rattle.ready_slots.specs.Putting.{PutsEach, PutsNameless, PutsRow, put_where}
use Rattle.ready_slots.specs.Shown.{is_any_offered, is_nameless, offered_to}
use Rattle.ready_slots.specs.Taking.{row_at, taken_where, told}
use Rattle.ready_slots.proofs.Inserting.{inserted_is_free, rows_after_insert}
use Rattle.ready_slots.proofs.Standing.{is_Equal, stands_where_put}
use Rattle.ready_slots.proofs.Taking.{kept_told, kept_twice, none_gone, take_told}

-- ---- one row is put in

put_kept : (x : Ready) (xs : List Ready) → map stamped (put_in_order ready_cmp x xs) ≡ put_in_order row_cmp (stamped x) (map stamped xs)
put_kept x [] = refl
put_kept x (y ∷ ys) =
    let P : Bool → Type 0 = λ b. map stamped (cond b (y ∷ put_in_order ready_cmp x ys) (x ∷ y ∷ ys))
    ≡ cond b (stamped y ∷ put_in_order row_cmp (stamped x) (map stamped ys)) (stamped x ∷ stamped y ∷ map stamped ys) in
    elim (is_lt (ready_cmp y x)) as P [ true ↦ ap (λ rs. stamped y ∷ rs) (put_kept x ys) | false ↦ refl ]

put_told : (queue : List ℕ) (consumer : Option (List ℕ)) (place : List ℤ) (stamp : ℕ) (before after : List Group)
    → EditsRows queue consumer (ready.with_row place stamp 0) before after
    → (q : List ℕ) (c : Option (List ℕ))
    → told q c after ≡ cond (is_of q c (key queue consumer)) (put_in_order row_cmp (record { place = place; stamp = stamp }) (told q c before)) (told q c before)
put_told queue consumer place stamp before after edits q c =
    let row : Row = record { place = place; stamp = stamp } in
    let own : List Ready → List Ready = λ rs. ready.with_row place stamp 0 rs in
    let P : Bool → Type 0 = λ b. is_of q c (key queue consumer) ≡ b
    → map stamped (cond b (own (rows_of queue consumer before)) (rows_of q c before)) ≡ cond b (put_in_order row_cmp row (told q c before)) (told q c before) in
    ap (map stamped) (edits q c)
    ∙ elim (is_of q c (key queue consumer)) as P [
      | true ↦ λ e.
          let same = names_exact queue consumer q c (is_Equal (names_cmp queue consumer q c) e) in
          ap (λ x. map stamped (own (rows_of x consumer before))) same.0
          ∙ ap (λ x. map stamped (own (rows_of q x before))) same.1
          ∙ put_kept (record { place = place; id = stamp; slot = 0 }) (rows_of q c before)
      | false ↦ λ e. refl
    ] refl

then_put : (b : Bool) (row : Row) (rows middle after : List Row) → middle ≡ taken_where b row rows → after ≡ cond b (put_in_order row_cmp row middle) middle → after ≡ put_where b row rows
then_put true row rows middle after taken put = put ∙ ap (put_in_order row_cmp row) taken
then_put false row rows middle after taken put = put ∙ taken

-- a row that is taken out and put in stands there once
pub puts_told : (m : MsgRow) (consumer : Option (List ℕ)) (stamp : ℕ) (before middle after : List Group)
    → EditsRows m.queue consumer (ready.without_row m.place stamp) before middle → EditsRows m.queue consumer (ready.with_row m.place stamp 0) middle after
    → PutsRow m consumer stamp before after
puts_told m consumer stamp before middle after takes puts q c =
    then_put (is_of q c (key m.queue consumer)) (row_at stamp m) (told q c before) (told q c middle) (told q c after)
    (take_told m.queue consumer m.place stamp before middle takes q c) (put_told m.queue consumer m.place stamp middle after puts q c)

-- the same of copies of the names and the place
module _ (m : MsgRow) (consumer : Option (List ℕ)) (stamp : ℕ) (queue : List ℕ) (name : Option (List ℕ)) (place : List ℤ) (queue_is : queue ≡ m.queue) (name_is : name ≡ consumer) (place_is : place ≡ m.place)
    (before middle : List Group) (takes : EditsRows m.queue consumer (ready.without_row m.place stamp) before middle) where
  pub copies_free : ready.IsFree place stamp (rows_of queue name middle)
  copies_free =
      let own = own_rows m.queue consumer (ready.without_row m.place stamp) before middle takes in
      let free = subst (ready.IsFree m.place stamp) (sym own) (free_once_taken m.place stamp (rows_of m.queue consumer before)) in
      subst (λ (p : List ℤ). ready.IsFree p stamp (rows_of queue name middle)) (sym place_is)
      (subst (λ (q : List ℕ). ready.IsFree m.place stamp (rows_of q name middle)) (sym queue_is)
      (subst (λ (c : Option (List ℕ)). ready.IsFree m.place stamp (rows_of m.queue c middle)) (sym name_is) free))

  pub copies_put : (after : List Group) → EditsRows queue name (ready.with_row place stamp 0) middle after → PutsRow m consumer stamp before after
  copies_put after puts =
      puts_told m consumer stamp before middle after takes
      (subst (λ (p : List ℤ). EditsRows m.queue consumer (ready.with_row p stamp 0) middle after) place_is
      (subst (λ (c : Option (List ℕ)). EditsRows m.queue c (ready.with_row place stamp 0) middle after) name_is
      (subst (λ (q : List ℕ). EditsRows q name (ready.with_row place stamp 0) middle after) queue_is puts)))

-- a row that is put in place of the one that stood there
pub puts_set : (m : MsgRow) (consumer : Option (List ℕ)) (stamp : ℕ) (before after : List Group) → EditsRows m.queue consumer (ready.set_row m.place stamp 0) before after
    → PutsRow m consumer stamp before after
puts_set m consumer stamp before after edits q c =
    let row : Row = row_at stamp m in
    let own : List Ready → List Ready = λ rs. ready.set_row m.place stamp 0 rs in
    let P : Bool → Type 0 = λ b. is_of q c (key m.queue consumer) ≡ b
    → map stamped (cond b (own (rows_of m.queue consumer before)) (rows_of q c before)) ≡ put_where b row (told q c before) in
    ap (map stamped) (edits q c)
    ∙ elim (is_of q c (key m.queue consumer)) as P [
      | true ↦ λ e.
          let same = names_exact m.queue consumer q c (is_Equal (names_cmp m.queue consumer q c) e) in
          ap (λ x. map stamped (own (rows_of x consumer before))) same.0
          ∙ ap (λ x. map stamped (own (rows_of q x before))) same.1
          ∙ put_kept (record { place = m.place; id = stamp; slot = 0 }) (ready.without_row m.place stamp (rows_of q c before))
          ∙ ap (put_in_order row_cmp row) (kept_told (λ (r : Row). not (is_eq (row_cmp r row))) (rows_of q c before))
      | false ↦ λ e. refl
    ] refl

-- ---- rows are put in one by one

gone_put : (row : Row) (xs : List Row) → without_row row (put_in_order row_cmp row xs) ≡ without_row row xs
gone_put row [] = ap (λ b. cond b (row ∷ []) []) (not_kept_itself row)
gone_put row (x ∷ xs) =
    let p : Row → Bool = λ r. not (is_eq (row_cmp r row)) in
    let P : Bool → Type 0 = λ b. filter p (cond b (x ∷ put_in_order row_cmp row xs) (row ∷ x ∷ xs)) ≡ filter p (x ∷ xs) in
    elim (is_lt (row_cmp x row)) as P [
      | true ↦ ap (λ ys. cond (p x) (x ∷ ys) ys) (gone_put row xs)
      | false ↦ ap (λ b. cond b (row ∷ filter p (x ∷ xs)) (filter p (x ∷ xs))) (not_kept_itself row)
    ]

-- a row that was put in is not put in again
pub put_both : (a b : Bool) (row : Row) (rows : List Row) → put_where b row (put_where a row rows) ≡ put_where (a || b) row rows
put_both true true row rows =
    ap (put_in_order row_cmp row) (gone_put row (without_row row rows) ∙ kept_twice (λ (r : Row). not (is_eq (row_cmp r row))) rows)
put_both true false row rows = refl
put_both false true row rows = refl
put_both false false row rows = refl

new_put : (b : Bool) (row : Row) (rows : List Row) → IsFree row rows → put_where b row rows ≡ with_row b row rows
new_put true row rows free = ap (put_in_order row_cmp row) (none_gone row rows free)
new_put false row rows free = refl

-- ---- for the nameless consumer

pub put_if_shown : (shown : Bool) (m : MsgRow) (stamp : ℕ) (before after : List Group) → shown ≡ shows m None → shown ≡ true → PutsRow m None stamp before after → PutsNameless m stamp before after
put_if_shown shown m stamp before after is so puts q c =
    puts q c ∙ ap (λ b. put_where (b && is_of q c (key m.queue None)) (row_at stamp m) (told q c before)) (sym so ∙ is)

pub stays_unless_shown : (shown : Bool) (m : MsgRow) (stamp : ℕ) (groups : List Group) → shown ≡ shows m None → shown ≡ false → PutsNameless m stamp groups groups
stays_unless_shown shown m stamp groups is so q c =
    ap (λ b. put_where (b && is_of q c (key m.queue None)) (row_at stamp m) (told q c groups)) (sym so ∙ is)

-- ---- for a slot

module _ (m : MsgRow) (stamp : ℕ) (s : SlotRow) (rest : List SlotRow) (q : List ℕ) (c : Option (List ℕ)) where
  pub one_more : (name : List ℕ) (before after : List Group) → offered_to s ≡ Some name → PutsRow m (Some name) stamp before after
      → put_where (is_any_offered m.queue rest q c) (row_at stamp m) (told q c after) ≡ put_where (is_any_offered m.queue (s ∷ rest) q c) (row_at stamp m) (told q c before)
  one_more name before after offered puts =
      let row = row_at stamp m in
      let own = is_of q c (key m.queue (Some name)) in
      let others = is_any_offered m.queue rest q c in
      ap (put_where others row) (puts q c)
      ∙ put_both own others row (told q c before)
      ∙ sym (ap (λ o. put_where (option_map_or (λ n. is_of q c (key m.queue (Some n))) o false || others) row (told q c before)) offered)

  pub none_more : (groups : List Group) → offered_to s ≡ None
      → put_where (is_any_offered m.queue rest q c) (row_at stamp m) (told q c groups) ≡ put_where (is_any_offered m.queue (s ∷ rest) q c) (row_at stamp m) (told q c groups)
  none_more groups none =
      sym (ap (λ o. put_where (option_map_or (λ n. is_of q c (key m.queue (Some n))) o false || is_any_offered m.queue rest q c) (row_at stamp m) (told q c groups)) none)

-- ---- all rows of a message

pub puts : (stamp : ℕ) (m : MsgRow) (before middle after : List Group) → PutsNameless m stamp before middle → PutsEach m stamp middle after → Puts stamp m before after
puts stamp m before middle after nameless each entries at rising indexed q c =
    let row = row_at stamp m in
    let a = is_nameless m q c in
    let b = is_any_offered m.queue m.slots q c in
    each q c
    ∙ ap (put_where b row) (nameless q c)
    ∙ put_both a b row (told q c before)
    ∙ ap (λ t. put_where t row (told q c before)) (stands_where_put q m c)
    ∙ ap (put_where (stands_for q c m) row) (indexed q c)
    ∙ new_put (stands_for q c m) row (rows_for q c entries) (inserted_is_free q c entries at (entry stamp m) rising)
    ∙ sym (rows_after_insert q c entries at (entry stamp m) rising)
