use Rattle.std.proofs.Common.{◌≡◌, ℕ, Option, Some, ◌∙◌, ap, sym, subst, arith}
use Rattle.row_locks.specs.Groups.{class_of, group_at, rank_at, place_of, count_of, number_in, DiffersAt, HasAlone}
use Rattle.slot_marks.specs.declared.mark.Group.{Group}
use Rattle.row_locks.proofs.EnteringLemmas.{put_beside, put_grouped}
use Rattle.row_locks.proofs.NumberCountLemmas.{number_count_bound}
use Rattle.row_locks.proofs.tables.enter_group.Goals as goal

pub returns-in_default-clause-grouped : goal.returns-in_default-clause-grouped
returns-in_default-clause-grouped c = λ new groups ranks.
    let F : Option Group → Type 0 = λ o. DiffersAt (group_at c.args.tables.now.items) (group_at new) c.args.place o in
    put_beside c.args.tables.now.items new c.args.groups.now c.args.place c.requires.grouped c.requires.vacant (subst F c.in_default.is groups) ranks

pub put-requires-clause-counts : goal.put-requires-clause-counts
put-requires-clause-counts c =
    let key = c.key_of_group-key.result in
    let groups = c.args.groups.now in
    omega (arith, c.requires.grouped.counts.counted key.number key.names, number_count_bound (λ r. number_in (group_at c.args.tables.now.items) (place_of groups.classes key.names r)) key.number (count_of groups.classes key.names))

pub returns-clause-grouped : goal.returns-clause-grouped
returns-clause-grouped c = λ new groups ranks.
    let tables = c.args.tables.now.items in
    let place = c.args.place in
    let group = c.get-group.result.now in
    let same : c.args.mark.now.group ≡ Some group = c.in-Some.is ∙ ap Some (sym c.get-group.ensures) in
    let key = c.key_of_group-key in
    let F : Option Group → Type 0 = λ o. DiffersAt (group_at tables) (group_at new) place o in
    let A : Option Group → Type 0 = λ o. HasAlone tables place.session o in
    let R : ℕ → Type 0 = λ n. DiffersAt (rank_at tables) (rank_at new) place (Some n) in
    let rank : c.put.result ≡ count_of c.args.groups.now.classes (class_of group) = c.put.ensures.rank ∙ ap (λ k. count_of c.args.groups.now.classes k.names) key.ensures in
    put_grouped tables new c.args.groups.now c.put.new.self group place c.differs_from_class-differs.result key.result key.ensures c.requires.grouped c.requires.vacant (subst A same c.requires.alone)
    c.differs_from_class-differs.ensures c.put.ensures.places c.put.ensures.counts c.put.ensures.mixed c.put.ensures.holds (subst F same groups) (subst R rank ranks)
