use Rattle.std.proofs.Common.{length, map, ap, ◌∙◌}
use Rattle.named_list.specs.Places.{places_of}
use Rattle.named_list.proofs.Places.{items_counted, names_are}
use Rattle.named_list.proofs.list.NamedList.count_of.Goals as goal

pub returns-in-Some : goal.returns-in-Some
returns-in-Some g c =
    let name_of = g.T.Named.name_of in
    let name = c.args.name.now in
    let items = c.self.inside.items in
    let has = names_are c.self.inside.index c.in-Some.index (map name_of items) c.in-Some.is c.self.invariant in
    rw (← c.self.view_is) (c.count.ensures ∙ ap (λ ns. length (places_of name ns)) has ∙ items_counted name_of name 0 items)
