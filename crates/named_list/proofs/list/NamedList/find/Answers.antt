use Rattle.std.proofs.Common.{filter, ap, ◌∙◌}
use Rattle.std.specs.List.{find}
use Rattle.std.specs.Str.{bytes_eq}
use Rattle.named_list.proofs.Places.{found_among}
use Rattle.named_list.proofs.list.NamedList.find.Goals as goal

pub returns : goal.returns
returns g c =
    let name_of = g.T.Named.name_of in
    let sought = c.args.sought.now in
    let test = g.S.Sought.is sought in
    let items = c.args.self.now in
    let own = c.of.ensures ∙ ap (λ name. filter (λ item. bytes_eq (name_of item) name) items) c.name.ensures in
    c.first_among.ensures ∙ ap (find test) own ∙ found_among name_of (g.S.Sought.wanted sought) test (g.met.S.Sought.has_name sought) items
