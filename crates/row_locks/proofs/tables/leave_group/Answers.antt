use Rattle.std.proofs.Common.{sym, ◌∙◌}
use Rattle.row_locks.specs.Groups.{group_at, place_of, count_of}
use Rattle.row_locks.proofs.LeavingLemmas.{same, left_none, left_below, left_alone, over_there, same_with, left_out, left_with, left_others, key_class, no_class, counted_still, left_counted}
use Rattle.row_locks.proofs.tables.leave_group.Goals as goal

pub returns-in_default-key_of_place-clause-same : goal.returns-in_default-key_of_place-clause-same
returns-in_default-key_of_place-clause-same c =
    same c.args.tables.now.items c.take_rank_at.new.tables.items (place_of c.args.groups.now.classes) (count_of c.args.groups.now.classes) c.args.place c.requires.there c.requires.within c.requires.grouped.index c.take_rank_at.ensures.rest c.take_rank_at.ensures.whole

pub returns-in_default-key_of_place-clause-grouped : goal.returns-in_default-key_of_place-clause-grouped
returns-in_default-key_of_place-clause-grouped c =
    let index =
    left_none c.args.tables.now.items c.take_rank_at.new.tables.items (place_of c.args.groups.now.classes) (count_of c.args.groups.now.classes) c.args.place c.requires.there c.requires.within c.requires.grouped.index c.take_rank_at.ensures.rest c.take_rank_at.ensures.whole
    (no_class (group_at c.take_rank_at.new.tables.items c.args.place) (sym c.key_of_place.ensures ∙ c.in_default-key_of_place.is)) in
    let same_one =
    same c.args.tables.now.items c.take_rank_at.new.tables.items (place_of c.args.groups.now.classes) (count_of c.args.groups.now.classes) c.args.place c.requires.there c.requires.within c.requires.grouped.index c.take_rank_at.ensures.rest c.take_rank_at.ensures.whole in
    record { index = index; counts = counted_still c.args.tables.now.items c.take_rank_at.new.tables.items c.args.groups.now same_one c.requires.grouped }

pub take-requires-clause-there : goal.take-requires-clause-there
take-requires-clause-there c =
    left_below c.args.tables.now.items c.take_rank_at.new.tables.items (place_of c.args.groups.now.classes) (count_of c.args.groups.now.classes) c.args.place c.requires.there c.requires.within c.requires.grouped.index c.take_rank_at.ensures.rest c.take_rank_at.ensures.whole
    c.in-Some-key_of_place.key.names c.in-Some.rank (key_class (group_at c.take_rank_at.new.tables.items c.args.place) c.in-Some-key_of_place.key (sym c.key_of_place.ensures ∙ c.in-Some-key_of_place.is)) (sym c.take_rank_at.ensures.rank ∙ c.in-Some.is)

pub set_rank_at-requires-clause-there : goal.set_rank_at-requires-clause-there
set_rank_at-requires-clause-there c =
    (over_there c.args.tables.now.items c.take_rank_at.new.tables.items (place_of c.args.groups.now.classes) (count_of c.args.groups.now.classes) c.args.place c.requires.there c.requires.within c.requires.grouped.index c.take_rank_at.ensures.rest c.take_rank_at.ensures.whole
    c.in-Some-key_of_place.key.names c.in-Some.rank (key_class (group_at c.take_rank_at.new.tables.items c.args.place) c.in-Some-key_of_place.key (sym c.key_of_place.ensures ∙ c.in-Some-key_of_place.is)) (sym c.take_rank_at.ensures.rank ∙ c.in-Some.is)
    c.take.result (place_of c.take.new.self.classes) (count_of c.take.new.self.classes) c.take.ensures.moved c.take.ensures.places c.take.ensures.counts
    c.in-Some-take.moved c.in-Some-take.is).0

pub set_rank_at-requires-clause-within : goal.set_rank_at-requires-clause-within
set_rank_at-requires-clause-within c =
    (over_there c.args.tables.now.items c.take_rank_at.new.tables.items (place_of c.args.groups.now.classes) (count_of c.args.groups.now.classes) c.args.place c.requires.there c.requires.within c.requires.grouped.index c.take_rank_at.ensures.rest c.take_rank_at.ensures.whole
    c.in-Some-key_of_place.key.names c.in-Some.rank (key_class (group_at c.take_rank_at.new.tables.items c.args.place) c.in-Some-key_of_place.key (sym c.key_of_place.ensures ∙ c.in-Some-key_of_place.is)) (sym c.take_rank_at.ensures.rank ∙ c.in-Some.is)
    c.take.result (place_of c.take.new.self.classes) (count_of c.take.new.self.classes) c.take.ensures.moved c.take.ensures.places c.take.ensures.counts
    c.in-Some-take.moved c.in-Some-take.is).1

pub returns-in_default-take-clause-same : goal.returns-in_default-take-clause-same
returns-in_default-take-clause-same c =
    same c.args.tables.now.items c.take_rank_at.new.tables.items (place_of c.args.groups.now.classes) (count_of c.args.groups.now.classes) c.args.place c.requires.there c.requires.within c.requires.grouped.index c.take_rank_at.ensures.rest c.take_rank_at.ensures.whole

pub returns-in_default-take-clause-grouped : goal.returns-in_default-take-clause-grouped
returns-in_default-take-clause-grouped c =
    let index =
    left_alone c.args.tables.now.items c.take_rank_at.new.tables.items (place_of c.args.groups.now.classes) (count_of c.args.groups.now.classes) c.args.place c.requires.there c.requires.within c.requires.grouped.index c.take_rank_at.ensures.rest c.take_rank_at.ensures.whole
    c.in-Some-key_of_place.key.names c.in-Some.rank (key_class (group_at c.take_rank_at.new.tables.items c.args.place) c.in-Some-key_of_place.key (sym c.key_of_place.ensures ∙ c.in-Some-key_of_place.is)) (sym c.take_rank_at.ensures.rank ∙ c.in-Some.is)
    c.take.result (place_of c.take.new.self.classes) (count_of c.take.new.self.classes) c.take.ensures.moved c.take.ensures.places c.take.ensures.counts
    c.in_default-take.is in
    let same_one =
    same c.args.tables.now.items c.take_rank_at.new.tables.items (place_of c.args.groups.now.classes) (count_of c.args.groups.now.classes) c.args.place c.requires.there c.requires.within c.requires.grouped.index c.take_rank_at.ensures.rest c.take_rank_at.ensures.whole in
    record {
      index = index;
      counts = left_counted c.args.tables.now.items c.take_rank_at.new.tables.items c.take_rank_at.new.tables.items c.args.groups.now c.take.new.self c.args.place c.in-Some-key_of_place.key c.in-Some.rank same_one same_one c.requires.grouped
          (sym c.key_of_place.ensures ∙ c.in-Some-key_of_place.is) (sym c.take_rank_at.ensures.rank ∙ c.in-Some.is) index.dense c.take.ensures.places c.take.ensures.counts c.take.ensures.mixed c.take.ensures.holds;
    }

pub returns-in-Some-take-clause-same : goal.returns-in-Some-take-clause-same
returns-in-Some-take-clause-same c =
    same_with c.args.tables.now.items c.take_rank_at.new.tables.items (place_of c.args.groups.now.classes) (count_of c.args.groups.now.classes) c.args.place c.requires.there c.requires.within c.requires.grouped.index c.take_rank_at.ensures.rest c.take_rank_at.ensures.whole
    c.in-Some-key_of_place.key.names c.in-Some.rank (key_class (group_at c.take_rank_at.new.tables.items c.args.place) c.in-Some-key_of_place.key (sym c.key_of_place.ensures ∙ c.in-Some-key_of_place.is)) (sym c.take_rank_at.ensures.rank ∙ c.in-Some.is)
    c.take.result (place_of c.take.new.self.classes) (count_of c.take.new.self.classes) c.take.ensures.moved c.take.ensures.places c.take.ensures.counts
    c.in-Some-take.moved c.in-Some-take.is
    c.set_rank_at.new.tables.items c.set_rank_at.ensures.rest c.set_rank_at.ensures.whole

pub returns-in-Some-take-clause-grouped : goal.returns-in-Some-take-clause-grouped
returns-in-Some-take-clause-grouped c =
    let index =
    left_with c.args.tables.now.items c.take_rank_at.new.tables.items (place_of c.args.groups.now.classes) (count_of c.args.groups.now.classes) c.args.place c.requires.there c.requires.within c.requires.grouped.index c.take_rank_at.ensures.rest c.take_rank_at.ensures.whole
    c.in-Some-key_of_place.key.names c.in-Some.rank (key_class (group_at c.take_rank_at.new.tables.items c.args.place) c.in-Some-key_of_place.key (sym c.key_of_place.ensures ∙ c.in-Some-key_of_place.is)) (sym c.take_rank_at.ensures.rank ∙ c.in-Some.is)
    c.take.result (place_of c.take.new.self.classes) (count_of c.take.new.self.classes) c.take.ensures.moved c.take.ensures.places c.take.ensures.counts
    c.in-Some-take.moved c.in-Some-take.is
    c.set_rank_at.new.tables.items c.set_rank_at.ensures.rest c.set_rank_at.ensures.whole in
    let same_one =
    same c.args.tables.now.items c.take_rank_at.new.tables.items (place_of c.args.groups.now.classes) (count_of c.args.groups.now.classes) c.args.place c.requires.there c.requires.within c.requires.grouped.index c.take_rank_at.ensures.rest c.take_rank_at.ensures.whole in
    let same_two =
    same_with c.args.tables.now.items c.take_rank_at.new.tables.items (place_of c.args.groups.now.classes) (count_of c.args.groups.now.classes) c.args.place c.requires.there c.requires.within c.requires.grouped.index c.take_rank_at.ensures.rest c.take_rank_at.ensures.whole
    c.in-Some-key_of_place.key.names c.in-Some.rank (key_class (group_at c.take_rank_at.new.tables.items c.args.place) c.in-Some-key_of_place.key (sym c.key_of_place.ensures ∙ c.in-Some-key_of_place.is)) (sym c.take_rank_at.ensures.rank ∙ c.in-Some.is)
    c.take.result (place_of c.take.new.self.classes) (count_of c.take.new.self.classes) c.take.ensures.moved c.take.ensures.places c.take.ensures.counts
    c.in-Some-take.moved c.in-Some-take.is
    c.set_rank_at.new.tables.items c.set_rank_at.ensures.rest c.set_rank_at.ensures.whole in
    record {
      index = index;
      counts = left_counted c.args.tables.now.items c.take_rank_at.new.tables.items c.set_rank_at.new.tables.items c.args.groups.now c.take.new.self c.args.place c.in-Some-key_of_place.key c.in-Some.rank same_one same_two c.requires.grouped
          (sym c.key_of_place.ensures ∙ c.in-Some-key_of_place.is) (sym c.take_rank_at.ensures.rank ∙ c.in-Some.is) index.dense c.take.ensures.places c.take.ensures.counts c.take.ensures.mixed c.take.ensures.holds;
    }

pub returns-in-Some-take-clause-out : goal.returns-in-Some-take-clause-out
returns-in-Some-take-clause-out c =
    left_out c.args.tables.now.items c.take_rank_at.new.tables.items (place_of c.args.groups.now.classes) (count_of c.args.groups.now.classes) c.args.place c.requires.there c.requires.within c.requires.grouped.index c.take_rank_at.ensures.rest c.take_rank_at.ensures.whole
    c.in-Some-key_of_place.key.names c.in-Some.rank (key_class (group_at c.take_rank_at.new.tables.items c.args.place) c.in-Some-key_of_place.key (sym c.key_of_place.ensures ∙ c.in-Some-key_of_place.is)) (sym c.take_rank_at.ensures.rank ∙ c.in-Some.is)
    c.take.result (place_of c.take.new.self.classes) (count_of c.take.new.self.classes) c.take.ensures.moved c.take.ensures.places c.take.ensures.counts
    c.in-Some-take.moved c.in-Some-take.is
    c.set_rank_at.new.tables.items c.set_rank_at.ensures.rest c.set_rank_at.ensures.whole

pub returns-in-Some-take-clause-others : goal.returns-in-Some-take-clause-others
returns-in-Some-take-clause-others c =
    left_others c.args.tables.now.items c.take_rank_at.new.tables.items (place_of c.args.groups.now.classes) (count_of c.args.groups.now.classes) c.args.place c.requires.there c.requires.within c.requires.grouped.index c.take_rank_at.ensures.rest c.take_rank_at.ensures.whole
    c.in-Some-key_of_place.key.names c.in-Some.rank (key_class (group_at c.take_rank_at.new.tables.items c.args.place) c.in-Some-key_of_place.key (sym c.key_of_place.ensures ∙ c.in-Some-key_of_place.is)) (sym c.take_rank_at.ensures.rank ∙ c.in-Some.is)
    c.take.result (place_of c.take.new.self.classes) (count_of c.take.new.self.classes) c.take.ensures.moved c.take.ensures.places c.take.ensures.counts
    c.in-Some-take.moved c.in-Some-take.is
    c.set_rank_at.new.tables.items c.set_rank_at.ensures.rest c.set_rank_at.ensures.whole
