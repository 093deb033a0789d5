use Rattle.std.proofs.Common.{◌<◌, length, nat_eq, arith, sym, ap, subst}
use Rattle.std.specs.HashMap.{get}
use Rattle.std.specs.Prelude.{remove}
use Rattle.std.proofs.lemmas.List.{length-map}
use Rattle.std.proofs.lemmas.List.Edits.{length-remove}
use Rattle.std.proofs.lemmas.List.Quantifiers.{all_pairs_remove}
use Rattle.std.proofs.lemmas.Option.{get_or_from_slice_get}
use Rattle.message_index.specs.Stamps.{AreRising, AreBelow, TellsStamps}
use Rattle.message_index.specs.declared.entry.Entry.{Entry}
use Rattle.message_index.proofs.StampLemmas.{are_stamps, ids_removed, removed, stamps_removed, below_removed}
use Rattle.message_index.proofs.message_index.MessageIndex.remove.Goals as goal

pub invariant_of-self : goal.invariant_of-self
invariant_of-self c =
    let i = c.self.inside in
    let es = i.entries in
    let at = c.args.at in
    let e : Entry = c.remove-spare.result.0 in
    let within : at < length es = omega (arith, c.requires, ap (λ v. length v.ids) c.self.view_is, length-map es (λ (e : Entry). e.id)) in
    let long = length-remove es at within in
    let rest = ap length c.remove-spare.ensures.rest in
    let read = sym (get_or_from_slice_get es at e e c.remove-spare.ensures.row) in
    let same = sym c.remove-spare.ensures.rest in (
      subst AreRising same (all_pairs_remove (λ earlier later. earlier.stamp < later.stamp) es at within c.self.invariant.0),
      subst (AreBelow i.next) same (below_removed i.next es at c.self.invariant.1),
      subst (TellsStamps (get nat_eq c.forget.new.places)) same (removed (get nat_eq i.places) (get nat_eq c.forget.new.places) es at e within read c.self.invariant.2 c.forget.ensures.places),
      omega arith,
      omega arith,
      omega arith,
      omega arith,
      omega arith,
      omega arith,
    )

pub returns-clause-ids : goal.returns-clause-ids
returns-clause-ids c = rw c.remove-spare.ensures.rest (rw (← c.self.view_is) (ids_removed c.self.inside.entries c.args.at))

pub returns-clause-stamps : goal.returns-clause-stamps
returns-clause-stamps c = rw c.remove-spare.ensures.rest (rw (← c.self.view_is) (stamps_removed c.self.inside.entries c.args.at))

pub returns-clause-stamped : goal.returns-clause-stamped
returns-clause-stamped c =
    let es = c.self.inside.entries in
    let at = c.args.at in
    let within : at < length es = omega (arith, c.requires, ap (λ v. length v.ids) c.self.view_is, length-map es (λ (e : Entry). e.id)) in
    rw c.remove-spare.ensures.rest (are_stamps (remove es at) (all_pairs_remove (λ earlier later. earlier.stamp < later.stamp) es at within c.self.invariant.0))
