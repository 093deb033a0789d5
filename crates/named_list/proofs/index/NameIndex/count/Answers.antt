use Rattle.std.proofs.Common.{[], Option, ap, ◌∙◌}
use Rattle.std.specs.Option.{option_map_or}
use Rattle.named_list.specs.declared.group.Group.{Group}
use Rattle.named_list.proofs.Stamps.{places_counted}
use Rattle.named_list.proofs.index.NameIndex.count.Goals as goal

pub returns-in-Some : goal.returns-in-Some
returns-in-Some c =
    let es = c.self.inside.entries in
    let name = c.args.name.now in
    let own = ap (λ (found : Option Group). option_map_or (λ (group : Group). group.stamps) found []) c.in-Some.ensures.row in
    rw (← c.self.view_is) (c.len.ensures ∙ places_counted name es c.in-Some.group.now.stamps c.self.invariant.0 (own ∙ c.self.invariant.2 name))

pub returns-in-None : goal.returns-in-None
returns-in-None c =
    let es = c.self.inside.entries in
    let name = c.args.name.now in
    let own = ap (λ (found : Option Group). option_map_or (λ (group : Group). group.stamps) found []) c.in-None.ensures.row in
    rw (← c.self.view_is) (places_counted name es [] c.self.invariant.0 (own ∙ c.self.invariant.2 name))
