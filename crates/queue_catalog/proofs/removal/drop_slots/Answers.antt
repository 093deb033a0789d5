use Rattle.std.proofs.Common.{◌≡◌, ◌+◌, ◌++◌, Some, None, ap, sym, ◌∙◌, drop, slice_get}
use Rattle.std.specs.Prelude.{option_copied}
use Rattle.std.specs.List.{filter_map, enumerate_from}
use Rattle.queue_rows.specs.Catalog.{dropped_slot}
use Rattle.queue_catalog.proofs.Dropping.{from_next, from_none}
use Rattle.queue_catalog.proofs.removal.drop_slots.Goals as goal
use Rattle.queue_catalog.proofs.removal.drop_slots.Goals.{in-Some+in_ok-drop_slot-in-Some, in-None}

pub loop-index-preserved : goal.loop-index-preserved
loop-index-preserved c =
    let f = dropped_slot c.args.sub.now c.args.moment c.args.message.now.id in
    let slots = c.args.message.now.slots in
    let at = c.loop-index.index in
    elim c.match-get.branch [
      | in-Some+in_ok-drop_slot-in-Some w ↦
          let got : slice_get slots at ≡ Some w.in-Some.slot.now = sym c.get.ensures ∙ ap option_copied w.in-Some.is in
          ap (λ cs. cs ++ filter_map f (enumerate_from (at + 1 + 1) (drop (at + 1) slots))) (w.changes-is ∙ w.in_ok-drop_slot-in-Some.ensures)
          ∙ from_next f c.loop-index.changes slots at w.in-Some.slot.now got
          ∙ c.loop-index.invariant
      | in-None w ↦
          let none : slice_get slots at ≡ None = sym c.get.ensures ∙ ap option_copied w.in-None.is in
          ap (λ cs. cs ++ filter_map f (enumerate_from (at + 1 + 1) (drop (at + 1) slots))) w.changes-is
          ∙ from_none f c.loop-index.changes slots at none
          ∙ c.loop-index.invariant
    ]
