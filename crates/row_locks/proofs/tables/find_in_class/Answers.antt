use Rattle.std.proofs.Common.{◌≡◌, None, is_some, inl, inr, sym, ◌∙◌, ap, arith}
use Rattle.std.proofs.lemmas.Bool.{cases_lt, both_ways}
use Rattle.row_locks.specs.Groups.{group_meant, place_of, class_of}
use Rattle.slot_marks.specs.declared.mark.Group.{Group}
use Rattle.row_locks.proofs.GroupedLemmas.{if_none_given}
use Rattle.row_locks.proofs.HolderLemmas.{none_grouped}
use Rattle.row_locks.proofs.tables.find_in_class.Goals as goal

pub returns-in_err-place-clause-none : goal.returns-in_err-place-clause-none
returns-in_err-place-clause-none c =
    let group : Group = group_meant c.args.group in
    let groups = c.args.groups.now in
    let key = c.group_key-key.ensures in
    let ends : place_of groups.classes (class_of group) c.loop-rank.rank ≡ None = (λ i. place_of groups.classes (sym key i).names c.loop-rank.rank) ∙ sym c.in_err-place.ensures in
    if_none_given c.from_residual.result (
    none_grouped c.args.tables.now.items groups group c.requires.grouped c.requires.ranked
    (λ r p below stands. elim (cases_lt r c.loop-rank.rank) [
      | inl before ↦ c.loop-rank.invariant r p before ((λ i. place_of groups.classes (key i).names r) ∙ stands)
      | inr past ↦
          let there = c.requires.grouped.index.dense.below (class_of group) c.loop-rank.rank (omega arith) in
          absurd (both_ways (is_some (place_of groups.classes (class_of group) c.loop-rank.rank)) (ap is_some ends) there)
    ])
    )

pub returns-clause-none : goal.returns-clause-none
returns-clause-none c =
    let group : Group = group_meant c.args.group in
    let groups = c.args.groups.now in
    none_grouped c.args.tables.now.items groups group c.requires.grouped c.requires.ranked
    (λ r p below stands. c.loop-rank.invariant r p (omega (arith, c.len-rank-end.ensures (class_of group))) ((λ i. place_of groups.classes (c.group_key-key.ensures i).names r) ∙ stands))
