use Rattle.std.proofs.Common.{◌≡◌, List, Option, map, ap, sym, subst, ◌∙◌, ℕ}
use Rattle.std.specs.Prelude.{IfSome, remove}
use Rattle.named_list.proofs.Places.{names_follow, names_without}
use Rattle.named_list.proofs.list.NamedList.remove.Goals as goal

pub invariant_of-self : goal.invariant_of-self
invariant_of-self g c =
    let name_of = g.T.Named.name_of in
    let items = c.self.inside.items in
    let at = c.args.at in
    let names = map name_of items in
    let had = subst (λ (o : Option (List (List ℕ))). IfSome o (λ ns. ns ≡ names)) (sym c.take.ensures.value) c.self.invariant in
    let has = c.without.ensures names had in
    names_follow c.without.result (remove names at) (map name_of c.remove-item.new.self) (ap (map name_of) c.remove-item.ensures.rest ∙ sym (names_without name_of items at)) has
