-- A message has a row for each slot at most, and one more.
use Rattle.std.proofs.Common.{◌≤◌, ◌+◌, ℕ, Bool, true, false, List, [], ◌∷◌, length, Option, Some, None, arith, length-append}
use Rattle.std.specs.Prelude.{flat_map, option_and_then, if◌then◌else◌}
use Rattle.std.specs.List.{range_with_len}
use Rattle.std.proofs.lemmas.List.FromFn.{length-range_with_len}
use Rattle.due_index.specs.Due.{due_row}
use Rattle.queue_rows.specs.Rows.{recipient_count, slot_of}
use Rattle.queue_rows.specs.Settling.{is_handled}
use Rattle.queue_rows.specs.Due.{slot_numbers}
use Rattle.queue_rows.specs.declared.rows.MsgRow.{MsgRow}
use Rattle.due_slots.specs.Laws.{RowsAreFew}
use Rattle.due_slots.specs.Rows.{slot_moment, row_at, slot_row, purge_moment, purge_row}

at_most_one : {X : Type 0} (b : Bool) (x : X) → length (if b then x ∷ [] else []) ≤ 1
at_most_one true x = omega arith
at_most_one false x = omega arith

one_row : (id slot : ℕ) (o : Option ℕ) → length (row_at id slot o) ≤ 1
one_row id slot None = omega arith
one_row id slot (Some moment) = omega arith

slot_rows : (m : MsgRow) (ns : List ℕ) → length (flat_map (slot_row m) ns) ≤ length ns
slot_rows m [] = omega arith
slot_rows m (n ∷ ns) =
    let both = length-append (slot_row m n) (flat_map (slot_row m) ns) in
    let one = one_row m.id n (option_and_then slot_moment (slot_of m n)) in
    let rest = slot_rows m ns in
    omega arith

numbers : (m : MsgRow) → length (slot_numbers m) ≤ recipient_count m + 1
numbers m =
    let both = length-append (range_with_len 1 (recipient_count m)) (if m.moved then 0 ∷ [] else []) in
    let all = length-range_with_len 1 (recipient_count m) in
    let one = at_most_one {X = ℕ} m.moved 0 in
    omega arith

pub few : RowsAreFew
few retention m =
    let both = length-append (flat_map (slot_row m) (slot_numbers m)) (purge_row retention m) in
    let slots = slot_rows m (slot_numbers m) in
    let all = numbers m in
    let one = at_most_one (is_handled m) (due_row (purge_moment retention m) m.id 0) in
    omega arith
