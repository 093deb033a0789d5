use Rattle.std.proofs.Common.{◌≡◌, List, map, ap, sym, subst, ◌∙◌}
use Rattle.std.specs.Prelude.{IfSome, slice_get}
use Rattle.named_list.proofs.Places.{names_follow, names_kept}
use Rattle.named_list.proofs.list.NamedList.edit.Goals as goal

pub invariant_of-self : goal.invariant_of-self
invariant_of-self g c =
    let name_of = g.T.Named.name_of in
    let items = c.self.inside.items in
    let change = g.E.Edit.edited c.args.edit in
    let kept = subst (λ (xs : List g.row.T.Denot). IfSome (slice_get xs c.args.at) (λ item. name_of (change item) ≡ name_of item)) (sym c.self.view_is) c.requires.name in
    names_follow c.self.inside.index (map name_of items) (map name_of c.edit.new.self) (ap (map name_of) c.edit.ensures ∙ names_kept name_of items c.args.at change kept) c.self.invariant
