use Rattle.std.proofs.Common.{map, ap, sym, ◌∙◌}
use Rattle.std.specs.Prelude.{slice_get}
use Rattle.named_list.specs.Places.{places_of}
use Rattle.named_list.proofs.Places.{names_are, no_item, nth_item}
use Rattle.named_list.proofs.list.NamedList.nth_of.Goals as goal

pub returns-in_err-nth-in-Some : goal.returns-in_err-nth-in-Some
returns-in_err-nth-in-Some g c =
    let name_of = g.T.Named.name_of in
    let name = c.args.name.now in
    let items = c.self.inside.items in
    let number = c.args.number in
    let has = names_are c.self.inside.index c.in-Some.index (map name_of items) c.in-Some.is c.self.invariant in
    let none = ap (λ ns. slice_get (places_of name ns) number) (sym has) ∙ sym c.in_err-nth-in-Some.ensures in
    rw c.from_residual.ensures (rw (← c.self.view_is) (sym (no_item name_of name items number none)))

pub returns-in_ok-nth-in-Some : goal.returns-in_ok-nth-in-Some
returns-in_ok-nth-in-Some g c =
    let name_of = g.T.Named.name_of in
    let name = c.args.name.now in
    let items = c.self.inside.items in
    let number = c.args.number in
    let has = names_are c.self.inside.index c.in-Some.index (map name_of items) c.in-Some.is c.self.invariant in
    let told = ap (λ ns. slice_get (places_of name ns) number) (sym has) ∙ sym c.in_ok-nth-in-Some.ensures in
    rw (← c.self.view_is) (c.get.ensures ∙ sym (nth_item name_of name items number c.in_ok-nth-in-Some.field-0 told))
