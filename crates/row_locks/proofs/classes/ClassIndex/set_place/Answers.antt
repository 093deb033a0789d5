use Rattle.std.proofs.Common.{◌≡◌, Some, false, refl, rules}
use Rattle.std.specs.HashMap.{get}
use Rattle.row_locks.specs.Entries.{is_same_slot}
use Rattle.row_locks.specs.Groups.{is_same_rank, cell_of}
use Rattle.row_locks.specs.declared.classes.ClassCell.{ClassCell}
use Rattle.row_locks.proofs.CellLemmas.{field_set, field_kept, field_or_kept}
use Rattle.row_locks.proofs.classes.ClassIndex.set_place.Goals as goal

pub returns-in-Some-clause-places : goal.returns-in-Some-clause-places
returns-in-Some-clause-places c = λ k r.
    let written : ClassCell = record { place = c.args.place; count = c.in-Some.cell.now.count; mixed = c.in-Some.cell.now.mixed } in
    let wrote = c.get_mut.follows.holds written in
    field_set (λ cell. cell.place) (is_same_rank c.args.names c.args.rank k r) written (get is_same_slot (c.get_mut.follows.lender written) (k, r)) (cell_of c.args.self.now k r) ((wrote.3 c.requires).0 (k, r))

pub returns-in-Some-clause-counts : goal.returns-in-Some-clause-counts
returns-in-Some-clause-counts c = λ k.
    let written : ClassCell = record { place = c.args.place; count = c.in-Some.cell.now.count; mixed = c.in-Some.cell.now.mixed } in
    let wrote = c.get_mut.follows.holds written in
    let is : cell_of c.args.self.now c.args.names c.args.rank ≡ Some c.in-Some.cell.now = search rules in
    field_or_kept (λ cell. cell.count) 0 (get is_same_slot (c.get_mut.follows.lender written) (k, 0)) (cell_of c.args.self.now k 0) (
    field_kept (λ cell. cell.count) (get is_same_slot c.args.self.now.cells) (get is_same_slot (c.get_mut.follows.lender written)) (c.args.names, c.args.rank) (k, 0) c.in-Some.cell.now written is refl ((wrote.3 c.requires).0 (k, 0))
    )

pub returns-in-Some-clause-mixed : goal.returns-in-Some-clause-mixed
returns-in-Some-clause-mixed c = λ k.
    let written : ClassCell = record { place = c.args.place; count = c.in-Some.cell.now.count; mixed = c.in-Some.cell.now.mixed } in
    let wrote = c.get_mut.follows.holds written in
    let is : cell_of c.args.self.now c.args.names c.args.rank ≡ Some c.in-Some.cell.now = search rules in
    field_or_kept (λ cell. cell.mixed) false (get is_same_slot (c.get_mut.follows.lender written) (k, 0)) (cell_of c.args.self.now k 0) (
    field_kept (λ cell. cell.mixed) (get is_same_slot c.args.self.now.cells) (get is_same_slot (c.get_mut.follows.lender written)) (c.args.names, c.args.rank) (k, 0) c.in-Some.cell.now written is refl ((wrote.3 c.requires).0 (k, 0))
    )
