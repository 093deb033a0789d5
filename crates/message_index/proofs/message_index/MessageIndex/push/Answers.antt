use Rattle.std.proofs.Common.{◌<◌, ◌+◌, [], ◌∷◌, ◌++◌, refl, length, length-append, nat_eq, arith, sym, ap, subst}
use Rattle.std.specs.HashMap.{get}
use Rattle.std.proofs.lemmas.List.Quantifiers.{all_pairs_push}
use Rattle.message_index.specs.Stamps.{AreRising, AreBelow, TellsStamps}
use Rattle.message_index.specs.declared.entry.Entry.{Entry}
use Rattle.message_index.proofs.StampLemmas.{are_stamps, pushed, below_pushed}
use Rattle.message_index.proofs.message_index.MessageIndex.push.Goals as goal

pub invariant_of-self : goal.invariant_of-self
invariant_of-self c =
    let i = c.self.inside in
    let es = i.entries in
    let e : Entry = record { id = c.args.id; stamp = i.next } in
    let has = ap (λ v. v.room) c.self.view_is in
    let some = c.requires in
    let long = ap length c.push.ensures in
    let same = sym c.push.ensures in (
      subst AreRising same (all_pairs_push (λ earlier later. earlier.stamp < later.stamp) es e c.self.invariant.0 c.self.invariant.1),
      subst (AreBelow (i.next + 1)) same (below_pushed i.next es e c.self.invariant.1 refl),
      subst (TellsStamps (get nat_eq c.note.new.places)) same (pushed (get nat_eq i.places) (get nat_eq c.note.new.places) es e c.self.invariant.2 c.note.ensures.places),
      omega arith,
      omega arith,
      omega (arith, length-append es (e ∷ [])),
      omega arith,
      omega (arith, length-append es (e ∷ [])),
      omega arith,
    )

pub returns-clause-stamped : goal.returns-clause-stamped
returns-clause-stamped c =
    let i = c.self.inside in
    let e : Entry = record { id = c.args.id; stamp = i.next } in
    let rising = all_pairs_push (λ earlier later. earlier.stamp < later.stamp) i.entries e c.self.invariant.0 c.self.invariant.1 in
    rw c.push.ensures (are_stamps (i.entries ++ e ∷ []) rising)
