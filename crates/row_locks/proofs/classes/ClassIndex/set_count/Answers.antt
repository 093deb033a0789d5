use Rattle.std.proofs.Common.{◌≡◌, Some, false, cond, ◌||◌, refl, sym, ◌∙◌, ap, rules}
use Rattle.std.specs.Option.{option_map_or}
use Rattle.std.specs.HashMap.{get}
use Rattle.row_locks.specs.Entries.{is_same_slot}
use Rattle.row_locks.specs.Groups.{is_same_class, cell_of, mixed_of}
use Rattle.row_locks.specs.declared.classes.ClassCell.{ClassCell}
use Rattle.row_locks.proofs.CellLemmas.{field_kept, first_set}
use Rattle.row_locks.proofs.classes.ClassIndex.set_count.Goals as goal

pub returns-in-Some-clause-places : goal.returns-in-Some-clause-places
returns-in-Some-clause-places c = λ k r.
    let written : ClassCell = record { place = c.in-Some.cell.now.place; count = c.args.count; mixed = c.in-Some.cell.now.mixed || c.args.differs } in
    let wrote = c.get_mut.follows.holds written in
    let is : cell_of c.args.self.now c.args.names 0 ≡ Some c.in-Some.cell.now = search rules in
    field_kept (λ cell. cell.place) (get is_same_slot c.args.self.now.cells) (get is_same_slot (c.get_mut.follows.lender written)) (c.args.names, 0) (k, r) c.in-Some.cell.now written is refl ((wrote.3 c.requires).0 (k, r))

pub returns-in-Some-clause-counts : goal.returns-in-Some-clause-counts
returns-in-Some-clause-counts c = λ k.
    let written : ClassCell = record { place = c.in-Some.cell.now.place; count = c.args.count; mixed = c.in-Some.cell.now.mixed || c.args.differs } in
    let wrote = c.get_mut.follows.holds written in
    first_set (λ cell. cell.count) 0 c.args.names k written (get is_same_slot (c.get_mut.follows.lender written) (k, 0)) (cell_of c.args.self.now k 0) ((wrote.3 c.requires).0 (k, 0))

pub returns-in-Some-clause-mixed : goal.returns-in-Some-clause-mixed
returns-in-Some-clause-mixed c = λ k.
    let written : ClassCell = record { place = c.in-Some.cell.now.place; count = c.args.count; mixed = c.in-Some.cell.now.mixed || c.args.differs } in
    let wrote = c.get_mut.follows.holds written in
    let is : cell_of c.args.self.now c.args.names 0 ≡ Some c.in-Some.cell.now = search rules in
    let was : mixed_of c.args.self.now c.args.names ≡ c.in-Some.cell.now.mixed = ap (λ o. option_map_or (λ cell. cell.mixed) o false) is in
    first_set (λ cell. cell.mixed) false c.args.names k written (get is_same_slot (c.get_mut.follows.lender written) (k, 0)) (cell_of c.args.self.now k 0) ((wrote.3 c.requires).0 (k, 0))
    ∙ ap (λ b. cond (is_same_class c.args.names k) (b || c.args.differs) (mixed_of c.args.self.now k)) (sym was)
