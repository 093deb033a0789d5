use Rattle.std.proofs.Common.{option_copied, sym, ◌∙◌, arith}
use Rattle.sort_index.specs.Ready.{rows_of, without_first_at, without_row}
use Rattle.sort_index.proofs.Groups.{edits_alike, edits_none}
use Rattle.sort_index.proofs.Places.{without_first_id, without_first_none}
use Rattle.sort_index.proofs.index.ReadyIndex.take_out.Goals as goal

pub returns-in_default-clause-rows : goal.returns-in_default-clause-rows
returns-in_default-clause-rows c =
    let queue = c.args.queue.now in
    let consumer = option_copied c.args.consumer in
    let groups = c.self.inside.groups in
    let told = sym c.first_id.ensures.id ∙ c.in_default.is in
    rw (← c.self.view_is) (edits_none queue consumer (without_first_at c.args.place.now) groups (without_first_none c.args.place.now (rows_of queue consumer groups) told))

pub invariant_of-self : goal.invariant_of-self
invariant_of-self c =
    let inv = c.self.invariant in
    (inv.0, omega (arith, c.take_row-slot.ensures.len, inv.1), inv.2, c.take_row-slot.ensures.fit c.self.inside.puts inv.3)

pub returns-clause-rows : goal.returns-clause-rows
returns-clause-rows c =
    let queue = c.args.queue.now in
    let consumer = option_copied c.args.consumer in
    let place = c.args.place.now in
    let groups = c.self.inside.groups in
    let told = sym c.first_id.ensures.id ∙ c.in-Some.is in
    let same = without_first_id place (rows_of queue consumer groups) c.in-Some.id c.first_id.ensures.rising told in
    rw (← c.self.view_is) (edits_alike queue consumer (without_row place c.in-Some.id) (without_first_at place) groups c.take_row-slot.new.groups same c.take_row-slot.ensures.rows)
