use Rattle.std.proofs.Common.{length, arith, ap, sym, subst}
use Rattle.message_index.specs.Stamps.{HasStamps, stamps_of}
use Rattle.message_index.proofs.StampLemmas.{stamps_counted}
use Rattle.message_index.proofs.message_index.MessageIndex.is_alone.Goals as goal

pub returns-in-None : goal.returns-in-None
returns-in-None c =
    let es = c.self.inside.entries in
    let none = subst (λ o. HasStamps o (stamps_of c.args.id es)) (sym c.in-None.ensures.value) (c.self.invariant.2 c.args.id) in
    rw (← c.self.view_is) (λ _. omega (arith, stamps_counted c.args.id es, ap length none))

pub returns-in-Some-Alone : goal.returns-in-Some-Alone
returns-in-Some-Alone c =
    let es = c.self.inside.entries in
    let told = rw c.in-Some-Alone.field-0-is at c.in-Some-Alone.ensures.value in
    let is = subst (λ o. HasStamps o (stamps_of c.args.id es)) (sym told) (c.self.invariant.2 c.args.id) in
    rw (← c.self.view_is) (λ _. omega (arith, stamps_counted c.args.id es, ap length is))
