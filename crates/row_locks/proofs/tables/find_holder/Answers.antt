use Rattle.std.proofs.Common.{◌≡◌, ℕ, Some, None, false, IsTrue, sym, ◌∙◌}
use Rattle.std.specs.Option.{option_map}
use Rattle.row_locks.specs.Groups.{group_meant, class_of, place_of, mixed_of, hold_in, is_in_group_at}
use Rattle.row_locks.specs.declared.classes.Place.{Place}
use Rattle.slot_marks.specs.declared.mark.Group.{Group}
use Rattle.row_locks.proofs.GroupedLemmas.{if_none_given}
use Rattle.row_locks.proofs.HolderLemmas.{none_in_class, none_by_names, none_by_number, some_by_number, if_some_told, if_none_told}
use Rattle.row_locks.proofs.tables.find_holder.Goals as goal

pub returns-in_err-first_mark-clause-none : goal.returns-in_err-first_mark-clause-none
returns-in_err-first_mark-clause-none c =
    let group : Group = group_meant c.args.group in
    let groups = c.args.groups.now in
    let none : place_of groups.classes (class_of group) 0 ≡ None = (λ i. place_of groups.classes (sym c.group_key-key.ensures i).names 0) ∙ sym c.in_err-first_mark.ensures.place in
    if_none_given c.from_residual.result (none_in_class c.args.tables.now.items groups group c.requires.grouped c.requires.ranked none)

pub returns-then-not-has_names_at-clause-none : goal.returns-then-not-has_names_at-clause-none
returns-then-not-has_names_at-clause-none c =
    let group : Group = group_meant c.args.group in
    let groups = c.args.groups.now in
    let first_mark = c.in_ok-first_mark in
    let key = c.group_key-key.ensures in
    let at : place_of groups.classes (class_of group) 0 ≡ Some first_mark.first_mark.place = (λ i. place_of groups.classes (sym key i).names 0) ∙ sym first_mark.ensures.place in
    let pure : mixed_of groups.classes (class_of group) ≡ false = (λ i. mixed_of groups.classes (sym key i).names) ∙ sym first_mark.ensures.mixed ∙ c.if-first_mark.false in
    none_by_names c.args.tables.now.items groups group c.requires.grouped c.requires.ranked first_mark.first_mark.place at pure (sym c.has_names_at.ensures ∙ c.if-not-has_names_at.true)

pub returns-clause-some : goal.returns-clause-some
returns-clause-some c =
    let group : Group = group_meant c.args.group in
    let tables = c.args.tables.now.items in
    let groups = c.args.groups.now in
    let first_mark = c.in_ok-first_mark in
    let key = c.group_key-key.ensures in
    let at : place_of groups.classes (class_of group) 0 ≡ Some first_mark.first_mark.place = (λ i. place_of groups.classes (sym key i).names 0) ∙ sym first_mark.ensures.place in
    let pure : mixed_of groups.classes (class_of group) ≡ false = (λ i. mixed_of groups.classes (sym key i).names) ∙ sym first_mark.ensures.mixed ∙ c.if-first_mark.false in
    let P : ℕ → Type 0 = λ s. (k : ℕ) × IsTrue (is_in_group_at tables group (record { session = s; at = k })) in
    if_some_told c.session_of.result P (λ s is.
    some_by_number tables groups group c.requires.grouped c.requires.ranked first_mark.first_mark.place at pure (sym c.has_names_at.ensures ∙ c.if-not-has_names_at.false) s
    ((λ i. option_map (λ it. it.session) (hold_in groups.holds (sym key i).number (sym key i).names)) ∙ sym c.session_of.ensures ∙ is))

pub returns-clause-none : goal.returns-clause-none
returns-clause-none c =
    let group : Group = group_meant c.args.group in
    let tables = c.args.tables.now.items in
    let groups = c.args.groups.now in
    let first_mark = c.in_ok-first_mark in
    let key = c.group_key-key.ensures in
    let at : place_of groups.classes (class_of group) 0 ≡ Some first_mark.first_mark.place = (λ i. place_of groups.classes (sym key i).names 0) ∙ sym first_mark.ensures.place in
    let pure : mixed_of groups.classes (class_of group) ≡ false = (λ i. mixed_of groups.classes (sym key i).names) ∙ sym first_mark.ensures.mixed ∙ c.if-first_mark.false in
    if_none_told c.session_of.result ((p : Place) → is_in_group_at tables group p ≡ false) (λ is.
    none_by_number tables groups group c.requires.grouped c.requires.ranked first_mark.first_mark.place at pure
    ((λ i. option_map (λ it. it.session) (hold_in groups.holds (sym key i).number (sym key i).names)) ∙ sym c.session_of.ensures ∙ is))
