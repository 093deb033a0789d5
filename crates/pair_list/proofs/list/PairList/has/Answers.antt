use Rattle.std.proofs.Common.{Option, ℕ, is_some, ap, ◌∙◌}
use Rattle.pair_list.specs.Places.{has_pair}
use Rattle.pair_list.proofs.Pairs.{some_passes}
use Rattle.pair_list.proofs.list.PairList.has.Goals as goal

pub returns : goal.returns
returns g c =
    let told = ap (λ (o : Option ℕ). is_some o) c.position.ensures in
    c.is_some.ensures ∙ told ∙ some_passes (λ (item : g.row.T.Denot). has_pair c.args.first c.args.second (g.T.Paired.pair_of item)) c.args.self.now
