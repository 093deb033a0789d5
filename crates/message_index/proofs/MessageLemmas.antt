-- The numbers of messages, and what is found by them.
use Rattle.std.proofs.Common.{◌≡◌, ℕ, suc, ◌+◌, ◌<◌, ◌==◌, List, [], ◌∷◌, ◌++◌, length, take, drop, Bool, cond, not, Option, Some, None, sym, ap, ◌∙◌, refl, subst}
use Rattle.std.specs.Prelude.{count_by, find, position, remove, slice_get, slice_set, IfSome}
use Rattle.std.specs.Option.{option_map_or}
use Rattle.std.specs.List.{prefix_len}
use Rattle.std.proofs.Math.Seq.{map-set_same}
use Rattle.std.proofs.lemmas.Bool.{lt-ltb}
use Rattle.std.proofs.lemmas.List.{length-map, map-append, take-map, drop-map}
use Rattle.std.proofs.lemmas.List.Folds.{fold-map}
use Rattle.std.proofs.lemmas.Option.{get_or_from_slice_get}
use Rattle.queue_rows.specs.Rows.{set_some, changed_some, changed_nth, changed_at, changed_first}
use Rattle.queue_rows.specs.Tables.{moved_to}
use Rattle.queue_rows.specs.declared.rows.MsgRow.{MsgRow}
use Rattle.row_tree.specs.Edits.{edit_at}
use Rattle.message_index.specs.Indexed.{Indexed}
use Rattle.message_index.specs.Messages.{ids_of, with_changed, KeepsId}
use Rattle.message_index.specs.Moves.{moved_within}
use Rattle.open_rows.specs.Rows.{Rows}
use Rattle.open_rows.proofs.FindLemmas.{find-at_position}

others : (id : ℕ) (ms : List MsgRow) → prefix_len (λ i. not (i == id)) (ids_of ms) ≡ prefix_len (λ m. not (m.id == id)) ms
others id [] = refl
others id (m ∷ ms) = ap (λ n. cond (not (m.id == id)) (1 + n) 0) (others id ms)

position_of_ids : (id : ℕ) (ms : List MsgRow) → position (λ i. i == id) (ids_of ms) ≡ position (λ m. m.id == id) ms
position_of_ids id ms =
    let same : prefix_len (λ i. not (i == id)) (ids_of ms) ≡ prefix_len (λ m. not (m.id == id)) ms = others id ms in
    let long : length (ids_of ms) ≡ length ms = length-map ms (λ m. m.id) in
    cc

-- the index tells the place of the first message that has a number
pub position_in_index : (id : ℕ) (ms : List MsgRow) (index : Indexed) → index.ids ≡ ids_of ms → position (λ i. i == id) index.ids ≡ position (λ m. m.id == id) ms
position_in_index id ms index is = ap (position (λ i. i == id)) is ∙ position_of_ids id ms

-- it stands there as often as there are messages that have it
pub count_of_ids : (id : ℕ) (ms : List MsgRow) → count_by (λ i. i == id) (ids_of ms) ≡ count_by (λ m. m.id == id) ms
count_of_ids id ms = fold-map (λ n i. n + cond (i == id) 1 0) (λ (m : MsgRow). m.id) 0 ms

ids_set : (ms : List MsgRow) (i : ℕ) (before now : MsgRow) → slice_get ms i ≡ Some before → now.id ≡ before.id → ids_of (slice_set ms i now) ≡ ids_of ms
ids_set ms i before now there same =
    map-set_same (λ (m : MsgRow). m.id) ms i now before (same ∙ ap (λ (m : MsgRow). m.id) (sym (get_or_from_slice_get ms i before before there)))

-- a message goes, and its number with it
pub ids_removed : (ms : List MsgRow) (i : ℕ) → remove (ids_of ms) i ≡ ids_of (remove ms i)
ids_removed ms i =
    let id_of : MsgRow → ℕ = λ m. m.id in
    ap (λ front. front ++ drop (suc i) (ids_of ms)) (take-map id_of i ms) ∙ ap (λ back. ids_of (take i ms) ++ back) (drop-map id_of (suc i) ms) ∙ sym (map-append id_of (take i ms) (drop (suc i) ms))

-- a change of the row at an index is the one of the definitions
pub edit_is_changed : {T : Type 0} (rows : List T) (i : ℕ) (change : T → T) → edit_at rows i change ≡ changed_nth change i rows
edit_is_changed {T} rows i change =
    let P : Option T → Type 0 = λ o. option_map_or (λ row. slice_set rows i (change row)) o rows ≡ set_some rows i (changed_some change o) in
    elim (slice_get rows i) as P [ None ↦ refl | Some row ↦ refl ]

-- a message that keeps its number is changed: the index is still theirs
pub ids_edited : (ms : List MsgRow) (i : ℕ) (change : MsgRow → MsgRow) → KeepsId change → ids_of (edit_at ms i change) ≡ ids_of ms
ids_edited ms i change keeps = by (slice_get ms i) refl
  where
    by : (o : Option MsgRow) → slice_get ms i ≡ o → ids_of (option_map_or (λ row. slice_set ms i (change row)) o ms) ≡ ids_of ms
    by None is = refl
    by (Some m) is = ids_set ms i m (change m) is (keeps m)

-- two changes that do the same to the first row of a kind
pub changed_alike : {T : Type 0} (p : T → Bool) (f g : T → T) (rows : List T) → IfSome (find p rows) (λ row. f row ≡ g row)
    → changed_first p f rows ≡ changed_first p g rows
changed_alike {T} p f g rows same = by (position p rows) refl
  where
    one : (i : ℕ) (o : Option T) → IfSome o (λ row. f row ≡ g row) → set_some rows i (changed_some f o) ≡ set_some rows i (changed_some g o)
    one i None e = refl
    one i (Some row) e = ap (λ (r : T). slice_set rows i r) e

    by : (o : Option ℕ) → position p rows ≡ o → changed_at f o rows ≡ changed_at g o rows
    by None is = refl
    by (Some i) is =
        let Same : Option T → Type 0 = λ o. IfSome o (λ row. f row ≡ g row) in
        one i (slice_get rows i) (subst Same (find-at_position p rows i is) same)

enough : (room : ℕ) (queue : List ℕ) (at : ℕ) (o : Option MsgRow) → IfSome o (λ m. length m.slots < room) → IfSome o (λ m. moved_within room queue at m ≡ moved_to queue at m)
enough room queue at None h = tt
enough room queue at (Some m) h = rw (lt-ltb (length m.slots) room h) refl

-- where there is memory for the slots of the first message that has a number, it is moved
pub moved_first : (room : ℕ) (queue : List ℕ) (at id : ℕ) (rows : Rows MsgRow) → IfSome (find (λ m. m.id == id) rows.items) (λ m. length m.slots < room)
    → with_changed id (moved_within room queue at) rows ≡ with_changed id (moved_to queue at) rows
moved_first room queue at id rows h =
    let change = changed_alike (λ (m : MsgRow). m.id == id) (moved_within room queue at) (moved_to queue at) rows.items (enough room queue at (find (λ m. m.id == id) rows.items) h) in
    ap (λ ms. record rows { items = ms }) change
