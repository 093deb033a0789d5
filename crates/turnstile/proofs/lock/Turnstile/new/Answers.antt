use Rattle.std.proofs.Common.{rules, ◌≡◌, List, [], ◌∷◌, Some, sym, ap, subst}
use Rattle.std.specs.Prelude.{Option}
use Rattle.atomic_table.specs.Table.{opening}
use Rattle.turnstile.specs.Rule.{Kept}
use Rattle.turnstile.specs.Views.{first_view}
use Rattle.turnstile.proofs.Moves.{begins}
use Rattle.turnstile.proofs.lock.Turnstile.new.Goals as goal

pub new-requires : goal.new-requires
new-requires g c =
    let start = g.W.Grows.opening c.of.result.value in
    let items : c.push.new.self.items ≡ Some c.args.value ∷ [] = search rules in
    subst (λ (z : List (Option g.row.W.Denot)). Kept g.W.Grows.opening g.W.Grows.entries g.W.Grows.actor start (opening (0 ∷ []) z (first_view c.args.actor start))) (sym items)
    (begins _ _ _ start c.args.value c.args.actor (ap g.W.Grows.opening c.of.ensures) c.requires)
