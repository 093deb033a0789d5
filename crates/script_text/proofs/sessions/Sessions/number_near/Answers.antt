use Rattle.std.proofs.Common.{◌≡◌, true, length, slice_get, Some, refl, sym, ap, ◌∙◌, rules}
use Rattle.std.specs.Str.{bytes_eq}
use Rattle.std.proofs.lemmas.Option.{slice_get_read}
use Rattle.script_text.proofs.Growth.{guessed}
use Rattle.script_text.proofs.sessions.Sessions.number_near.Goals as goal

pub returns-in-Some-clause-number : goal.returns-in-Some-clause-number
returns-in-Some-clause-number c =
    let lent : slice_get c.deref.result.now c.args.guess ≡ Some c.in-Some.session.now = slice_get_read c.deref.result.now (length c.deref.result.now) c.args.guess c.in-Some.session.now refl c.in-Some.ensures.lookup.3.0 c.in-Some.ensures.lookup.1 in
    let found : slice_get c.self.inside.list.items c.args.guess ≡ Some c.in-Some.session.now = ap (λ xs. slice_get xs c.args.guess) (sym c.deref.ensures.value) ∙ lent in
    let same : bytes_eq c.in-Some.session.now.name c.args.name.now ≡ true = search rules in
    rw (← c.self.view_is) (sym (guessed c.self.inside.list.items c.args.guess c.in-Some.session.now c.args.name.now c.self.invariant.2 found same))
