use Rattle.std.proofs.Common.{ℕ, List, [], ◌∷◌, sym, ◌∙◌, if◌then◌else◌}
use Rattle.std.specs.List.{range_with_len}
use Rattle.queue_rows.specs.Rows.{recipient_count}
use Rattle.queue_rows.specs.Propagating.{can_send_slot}
use Rattle.remote_slots.proofs.Least.{found_in_first, found_in_second}
use Rattle.remote_slots.proofs.sending.first_to_send.Goals as goal

pub returns-in-Some : goal.returns-in-Some
returns-in-Some c =
    let m = c.args.message.now in
    let rest : List ℕ = if m.moved then 0 ∷ [] else [] in
    sym (found_in_first (can_send_slot c.args.schedule.now c.args.moment m) (range_with_len 1 (recipient_count m)) rest c.in-Some.slot (sym c.in-Some.ensures))

pub returns-in-None : goal.returns-in-None
returns-in-None c =
    let m = c.args.message.now in
    let rest : List ℕ = if m.moved then 0 ∷ [] else [] in
    c.slot_zero.ensures ∙ sym (found_in_second (can_send_slot c.args.schedule.now c.args.moment m) (range_with_len 1 (recipient_count m)) rest (sym c.in-None.ensures))
