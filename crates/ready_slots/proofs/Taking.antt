-- A message that goes takes its rows with it: those of the nameless consumer and of each that a slot names, where it has a ready slot for
-- them. It has no others.
use Rattle.std.proofs.Common.{◌≡◌, ◌≢◌, ℕ, ℤ, Bool, true, false, cond, not, map, filter, List, [], ◌∷◌, Option, Some, None, refl, sym, ap, ◌∙◌, ◌||◌, ◌&&◌}
use Rattle.std.proofs.lemmas.List.Elements.{All-head, All-tail}
use Rattle.std.specs.Option.{option_map_or}
use Rattle.std.specs.Ordering.{is_eq}
use Rattle.std.specs.declared.cmp.Ordering.{Ordering}
use Rattle.std.specs.declared.cmp.Ordering.TheVariants.{Less, Equal, Greater}
use Rattle.queue_rows.specs.declared.rows.MsgRow.{MsgRow}
use Rattle.queue_rows.specs.declared.rows.SlotRow.{SlotRow}
use Rattle.sort_index.specs.Ready.{EditsRows, is_of, key, names_cmp, rows_of}
use Rattle.sort_index.specs.Ready as ready
use Rattle.sort_index.specs.ReadyLaws.{names_exact}
use Rattle.sort_index.specs.declared.group.Ready.{Ready}
use Rattle.sort_index.specs.declared.group.Group.{Group}
use Rattle.choice_laws.specs.EditLaws.{IsFree}
use Rattle.choice_laws.specs.Entries.{Row, row_cmp, rows_for, shows, without_row}
use Rattle.choice_laws.proofs.Edited.{missing_row_is_free, rows_after_removal}
use Rattle.ready_slots.specs.Indexed.{stamped}
use Rattle.ready_slots.specs.Edits.{Removes, entry}
use Rattle.ready_slots.specs.Shown.{is_any_offered, is_nameless, offered_to}
use Rattle.ready_slots.specs.Taking.{TakesEach, TakesNameless, TakesRow, row_at, taken_where, told}
use Rattle.ready_slots.proofs.Standing.{is_Equal, stands_where_put}

-- ---- one row is taken out

pub kept_told : (p : Row → Bool) (xs : List Ready) → map stamped (filter (λ x. p (stamped x)) xs) ≡ filter p (map stamped xs)
kept_told p [] = refl
kept_told p (x ∷ xs) =
    let rest = filter (λ y. p (stamped y)) xs in
    let kept = filter p (map stamped xs) in
    let P : Bool → Type 0 = λ b. map stamped (cond b (x ∷ rest) rest) ≡ cond b (stamped x ∷ kept) kept in
    elim (p (stamped x)) as P [ true ↦ ap (λ rs. stamped x ∷ rs) (kept_told p xs) | false ↦ kept_told p xs ]

pub take_told : (queue : List ℕ) (consumer : Option (List ℕ)) (place : List ℤ) (stamp : ℕ) (before after : List Group)
    → EditsRows queue consumer (ready.without_row place stamp) before after → TakesRow queue consumer place stamp before after
take_told queue consumer place stamp before after edits q c =
    let row : Row = record { place = place; stamp = stamp } in
    let own : List Ready → List Ready = λ rs. ready.without_row place stamp rs in
    let P : Bool → Type 0 = λ b. is_of q c (key queue consumer) ≡ b → map stamped (cond b (own (rows_of queue consumer before)) (rows_of q c before)) ≡ taken_where b row (told q c before) in
    ap (map stamped) (edits q c)
    ∙ elim (is_of q c (key queue consumer)) as P [
      | true ↦ λ e.
          let same = names_exact queue consumer q c (is_Equal (names_cmp queue consumer q c) e) in
          ap (λ x. map stamped (own (rows_of x consumer before))) same.0
          ∙ ap (λ x. map stamped (own (rows_of q x before))) same.1
          ∙ kept_told (λ (r : Row). not (is_eq (row_cmp r row))) (rows_of q c before)
      | false ↦ λ e. refl
    ] refl

-- ---- rows are taken out one by one

pub kept_twice : {T : Type 0} (p : T → Bool) (xs : List T) → filter p (filter p xs) ≡ filter p xs
kept_twice p [] = refl
kept_twice p (x ∷ xs) =
    let P : Bool → Type 0 = λ b. p x ≡ b → filter p (cond b (x ∷ filter p xs) (filter p xs)) ≡ cond b (x ∷ filter p xs) (filter p xs) in
    elim (p x) as P [
      | true ↦ λ e. ap (λ b. cond b (x ∷ filter p (filter p xs)) (filter p (filter p xs))) e ∙ ap (λ ys. x ∷ ys) (kept_twice p xs)
      | false ↦ λ e. kept_twice p xs
    ] refl

-- a row that has gone does not go again
pub taken_both : (a b : Bool) (row : Row) (rows : List Row) → taken_where b row (taken_where a row rows) ≡ taken_where (a || b) row rows
taken_both true true row rows = kept_twice (λ (r : Row). not (is_eq (row_cmp r row))) rows
taken_both true false row rows = refl
taken_both false true row rows = refl
taken_both false false row rows = refl

-- ---- all rows of a message

kept_by_other : (o : Ordering) → o ≢ Equal → not (is_eq o) ≡ true
kept_by_other Less other = refl
kept_by_other Equal other = absurd (other refl)
kept_by_other Greater other = refl

pub none_gone : (row : Row) (rows : List Row) → IsFree row rows → without_row row rows ≡ rows
none_gone row [] free = refl
none_gone row (x ∷ xs) free =
    let others = without_row row xs in
    let first = All-head (λ r. row_cmp r row ≢ Equal) x xs free in
    let rest = All-tail (λ r. row_cmp r row ≢ Equal) x xs free in
    ap (λ b. cond b (x ∷ others) others) (kept_by_other (row_cmp x row) first) ∙ ap (λ rows. x ∷ rows) (none_gone row xs rest)

all_gone : (goes : Bool) (row : Row) (rows : List Row) → (goes ≡ false → IsFree row rows) → taken_where goes row rows ≡ without_row row rows
all_gone true row rows free = refl
all_gone false row rows free = sym (none_gone row rows (free refl))

-- ---- for the nameless consumer

pub take_if_shown : (shown : Bool) (m : MsgRow) (stamp : ℕ) (before after : List Group) → shown ≡ shows m None → shown ≡ true → TakesRow m.queue None m.place stamp before after → TakesNameless m stamp before after
take_if_shown shown m stamp before after is so takes q c =
    takes q c ∙ ap (λ b. taken_where (b && is_of q c (key m.queue None)) (row_at stamp m) (told q c before)) (sym so ∙ is)

pub keeps_unless_shown : (shown : Bool) (m : MsgRow) (stamp : ℕ) (groups : List Group) → shown ≡ shows m None → shown ≡ false → TakesNameless m stamp groups groups
keeps_unless_shown shown m stamp groups is so q c =
    ap (λ b. taken_where (b && is_of q c (key m.queue None)) (row_at stamp m) (told q c groups)) (sym so ∙ is)

-- ---- for a slot

module _ (m : MsgRow) (stamp : ℕ) (s : SlotRow) (rest : List SlotRow) (q : List ℕ) (c : Option (List ℕ)) where
  pub one_less : (name : List ℕ) (before after : List Group) → offered_to s ≡ Some name → TakesRow m.queue (Some name) m.place stamp before after
      → taken_where (is_any_offered m.queue rest q c) (row_at stamp m) (told q c after) ≡ taken_where (is_any_offered m.queue (s ∷ rest) q c) (row_at stamp m) (told q c before)
  one_less name before after offered takes =
      let row = row_at stamp m in
      let own = is_of q c (key m.queue (Some name)) in
      let others = is_any_offered m.queue rest q c in
      ap (taken_where others row) (takes q c)
      ∙ taken_both own others row (told q c before)
      ∙ sym (ap (λ o. taken_where (option_map_or (λ n. is_of q c (key m.queue (Some n))) o false || others) row (told q c before)) offered)

  pub none_less : (groups : List Group) → offered_to s ≡ None
      → taken_where (is_any_offered m.queue rest q c) (row_at stamp m) (told q c groups) ≡ taken_where (is_any_offered m.queue (s ∷ rest) q c) (row_at stamp m) (told q c groups)
  none_less groups none =
      sym (ap (λ o. taken_where (option_map_or (λ n. is_of q c (key m.queue (Some n))) o false || is_any_offered m.queue rest q c) (row_at stamp m) (told q c groups)) none)

-- ---- all rows of a message

pub removes : (stamp : ℕ) (m : MsgRow) (before middle after : List Group)
    → TakesNameless m stamp before middle → TakesEach m stamp middle after → Removes stamp m before after
removes stamp m before middle after nameless each entries at rising there indexed q c =
    let row = row_at stamp m in
    let a = is_nameless m q c in
    let b = is_any_offered m.queue m.slots q c in
    let free : (a || b) ≡ false → IsFree row (rows_for q c entries) =
    λ none. missing_row_is_free q c entries at (entry stamp m) rising there (sym (stands_where_put q m c) ∙ none) in
    each q c
    ∙ ap (taken_where b row) (nameless q c)
    ∙ taken_both a b row (told q c before)
    ∙ ap (taken_where (a || b) row) (indexed q c)
    ∙ all_gone (a || b) row (rows_for q c entries) free
    ∙ sym (rows_after_removal q c entries at (entry stamp m) rising there)
