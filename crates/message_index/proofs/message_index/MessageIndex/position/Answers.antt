use Rattle.std.proofs.Common.{sym, ◌∙◌, ap, subst, Some}
use Rattle.message_index.specs.Stamps.{HasStamps, stamps_of}
use Rattle.message_index.proofs.StampLemmas.{no_place, its_place, place_within, same_place}
use Rattle.message_index.proofs.message_index.MessageIndex.position.Goals as goal

pub returns-in-None-clause-first : goal.returns-in-None-clause-first
returns-in-None-clause-first c =
    let es = c.self.inside.entries in
    let none = subst (λ o. HasStamps o (stamps_of c.args.id es)) (sym c.in-None.ensures.value) (c.self.invariant.2 c.args.id) in
    rw (← c.self.view_is) (no_place c.args.id es none)

pub returns-in-Some-Alone-clause-first : goal.returns-in-Some-Alone-clause-first
returns-in-Some-Alone-clause-first c =
    let es = c.self.inside.entries in
    let told = rw c.in-Some-Alone.field-0-is at c.in-Some-Alone.ensures.value in
    let is = subst (λ o. HasStamps o (stamps_of c.args.id es)) (sym told) (c.self.invariant.2 c.args.id) in
    let counted = c.count_before.ensures in
    rw (← c.self.view_is) (ap Some counted ∙ its_place c.args.id c.in-Some-Alone.stamp es c.self.invariant.0 is)

pub returns-in-Some-Alone-clause-within : goal.returns-in-Some-Alone-clause-within
returns-in-Some-Alone-clause-within c =
    let es = c.self.inside.entries in
    let told = rw c.in-Some-Alone.field-0-is at c.in-Some-Alone.ensures.value in
    let is = subst (λ o. HasStamps o (stamps_of c.args.id es)) (sym told) (c.self.invariant.2 c.args.id) in
    let counted = c.count_before.ensures in
    rw (← c.self.view_is, counted) (place_within c.args.id c.in-Some-Alone.stamp es c.self.invariant.0 is)

pub returns-in-Some-Several-clause-first : goal.returns-in-Some-Several-clause-first
returns-in-Some-Several-clause-first c = rw (← c.self.view_is) (c.first_of.ensures ∙ same_place c.args.id c.self.inside.entries)
