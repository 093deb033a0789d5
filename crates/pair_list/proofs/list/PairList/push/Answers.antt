use Rattle.std.proofs.Common.{[], ◌∷◌, length, length-append, ap, arith}
use Rattle.pair_list.specs.declared.place.PairPlace.{PairPlace}
use Rattle.pair_list.proofs.Pairs.{told_more}
use Rattle.pair_list.proofs.list.PairList.push.Goals as goal

pub invariant_of-self : goal.invariant_of-self
invariant_of-self g c =
    let l = c.self.inside in
    let place : PairPlace = record { first = c.pair-first.result.0; second = c.pair-first.result.1; at = c.len-at.result } in
    let tells = told_more g.T.Paired.pair_of l.places l.items c.args.item place c.pair-first.ensures c.len-at.ensures c.self.invariant.0 in (
      rw (c.note.ensures.places, c.push.ensures) tells,
      omega (arith, c.note.ensures.len, c.self.invariant.1, ap length c.push.ensures, length-append l.items (c.args.item ∷ [])),
    )
