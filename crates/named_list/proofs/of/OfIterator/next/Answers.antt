use Rattle.std.proofs.Common.{◌+◌, ◌≤◌, Bool, Option, option_copied, Bor, filter, length, arith, ap, ◌∙◌, sym}
use Rattle.std.specs.Str.{bytes_eq}
use Rattle.std.proofs.lemmas.Option.{slice_get_within}
use Rattle.named_list.proofs.Places.{few_pass, none_left, first_left}
use Rattle.named_list.proofs.of.OfIterator.next.Goals as goal

pub overflow_add-self : goal.overflow_add-self
overflow_add-self g c =
    let p : g.row.T.Denot → Bool = λ item. bytes_eq (g.T.Named.name_of item) c.self.inside.name.now in
    let list = c.self.inside.list.now in
    let some = sym c.nth_of.ensures ∙ ap (λ (o : Option (Bor g.row.T.Denot)). option_copied o) c.in-Some.is in
    let within = slice_get_within (filter p list) c.self.inside.at c.in-Some.item.now some in
    omega (arith, within, few_pass p list, c.len-most.ensures, c.len-most.type_inv)

pub invariant_of-self : goal.invariant_of-self
invariant_of-self g c =
    let p : g.row.T.Denot → Bool = λ item. bytes_eq (g.T.Named.name_of item) c.self.inside.name.now in
    let list = c.self.inside.list.now in
    let some = sym c.nth_of.ensures ∙ ap (λ (o : Option (Bor g.row.T.Denot)). option_copied o) c.in-Some.is in
    let within = slice_get_within (filter p list) c.self.inside.at c.in-Some.item.now some in
    let is : c.self.inside.at + 1 ≤ length (filter p list) = omega (arith, within) in
    is

pub returns-in-None-clause-steps : goal.returns-in-None-clause-steps
returns-in-None-clause-steps g c =
    let p : g.row.T.Denot → Bool = λ item. bytes_eq (g.T.Named.name_of item) c.self.inside.name.now in
    let none = sym c.nth_of.ensures ∙ ap (λ (o : Option (Bor g.row.T.Denot)). option_copied o) c.in-None.is in
    let all = none_left (filter p c.self.inside.list.now) c.self.inside.at none in
    (sym c.self.view_is ∙ all, sym c.self.view_is ∙ all)

pub returns-in-Some-clause-steps : goal.returns-in-Some-clause-steps
returns-in-Some-clause-steps g c =
    let p : g.row.T.Denot → Bool = λ item. bytes_eq (g.T.Named.name_of item) c.self.inside.name.now in
    let some = sym c.nth_of.ensures ∙ ap (λ (o : Option (Bor g.row.T.Denot)). option_copied o) c.in-Some.is in
    sym c.self.view_is ∙ first_left (filter p c.self.inside.list.now) c.self.inside.at c.in-Some.item.now some

pub returns-in-Some-clause-goes : goal.returns-in-Some-clause-goes
returns-in-Some-clause-goes g c =
    let less = ap length (returns-in-Some-clause-steps g c) in
    record { on = λ _. (tt, tt, omega (arith, less)); keeps = tt; rests = λ _. tt }
