use Rattle.std.proofs.Common.{Bool, filter, length, map, arith, ap, sym, ◌∙◌}
use Rattle.std.specs.Prelude.{position, slice_get}
use Rattle.std.specs.Str.{bytes_eq}
use Rattle.named_list.specs.Places.{places_of}
use Rattle.named_list.proofs.Places.{few_pass, names_are, sought_at, sought_nowhere, sought_within}
use Rattle.named_list.proofs.list.NamedList.position.Goals as goal

pub place_among-requires : goal.place_among-requires
place_among-requires g c =
    let own : g.row.T.Denot → Bool = λ item. bytes_eq (g.T.Named.name_of item) c.name-name.result.now in
    omega (arith, few_pass own c.args.self.now, ap length c.of.ensures, c.len-most.ensures, c.len-most.type_inv)

pub returns-in_err-number-in-Some-clause-first : goal.returns-in_err-number-in-Some-clause-first
returns-in_err-number-in-Some-clause-first g c =
    let name_of = g.T.Named.name_of in
    let sought = c.args.sought.now in
    let test = g.S.Sought.is sought in
    let items = c.args.self.now in
    let own = c.of.ensures ∙ ap (λ name. filter (λ item. bytes_eq (name_of item) name) items) c.name-name.ensures in
    let none = ap (position test) (sym own) ∙ sym c.in_err-number-in-Some.ensures in
    rw c.from_residual.ensures (sought_nowhere name_of (g.S.Sought.wanted sought) test (g.met.S.Sought.has_name sought) items none)

pub returns-in_ok-number-in-Some-clause-first : goal.returns-in_ok-number-in-Some-clause-first
returns-in_ok-number-in-Some-clause-first g c =
    let name_of = g.T.Named.name_of in
    let sought = c.args.sought.now in
    let test = g.S.Sought.is sought in
    let items = c.args.self.now in
    let wanted = g.S.Sought.wanted sought in
    let number = c.in_ok-number-in-Some.number in
    let own = c.of.ensures ∙ ap (λ name. filter (λ item. bytes_eq (name_of item) name) items) c.name-name.ensures in
    let told = ap (position test) (sym own) ∙ sym c.in_ok-number-in-Some.ensures in
    let has = names_are c.self.inside.index c.in-Some.index (map name_of c.self.inside.items) c.in-Some.is c.self.invariant in
    let place =
    c.nth.ensures
    ∙ ap (λ name. slice_get (places_of name c.in-Some.index) number) c.name-name.ensures
    ∙ ap (λ names. slice_get (places_of wanted names) number) (has ∙ ap (map name_of) c.self.view_is) in
    sought_at name_of wanted test (g.met.S.Sought.has_name sought) items number c.nth.result told place

pub returns-in_ok-number-in-Some-clause-within : goal.returns-in_ok-number-in-Some-clause-within
returns-in_ok-number-in-Some-clause-within g c =
    let sought = c.args.sought.now in
    sought_within g.T.Named.name_of (g.S.Sought.wanted sought) (g.S.Sought.is sought) (g.met.S.Sought.has_name sought) c.args.self.now c.nth.result
    (returns-in_ok-number-in-Some-clause-first g c)
