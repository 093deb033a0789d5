use Rattle.std.proofs.Common.{rules, ◌≡◌, List, [], ◌∷◌, ◌++◌, sym, ◌∙◌}
use Rattle.std.specs.Prelude.{OnOk, OnErr}
use Rattle.std.proofs.lemmas.List.{append-nil}
use Rattle.turnstile.specs.Counting.{Pair, Adds}
use Rattle.turnstile.specs.Passes.{known}
use Rattle.turnstile.proofs.WorkerLemmas.{adds_these, on_ok, on_err}
use Rattle.turnstile.proofs.number_log.add.Goals as goal

pub returns-clause-ok : goal.returns-clause-ok
returns-clause-ok g c =
    let e = c.enter-turn.ensures in
    let log = c.enter-turn.result.value.pairs.items in
    let list = c.add-added.new.self.pairs.items in
    let mine : List Pair = (c.args.actor, c.args.number) ∷ [] in
    let added : OnOk c.add-added.result (list ≡ log ++ mine) = search rules in
    let done : OnOk c.add-added.result (Adds (known c.args.pass.now) (known c.leave.new.self.0) mine) =
    on_ok c.add-added.result _ _ (adds_these _ (known c.enter-turn.result.pass.now) _ log list mine e.value.seen e.turn.1 c.leave.ensures.knows) added in
    search (rules, done)

pub returns-clause-err : goal.returns-clause-err
returns-clause-err g c =
    let e = c.enter-turn.ensures in
    let log = c.enter-turn.result.value.pairs.items in
    let list = c.add-added.new.self.pairs.items in
    let same : OnErr c.add-added.result (list ≡ log) = search rules in
    let done : OnErr c.add-added.result (Adds (known c.args.pass.now) (known c.leave.new.self.0) []) =
    on_err c.add-added.result _ _ (λ s. adds_these _ (known c.enter-turn.result.pass.now) _ log list [] e.value.seen e.turn.1 c.leave.ensures.knows (s ∙ sym (append-nil log))) same in
    search (rules, done)
