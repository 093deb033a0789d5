use Rattle.std.proofs.Common.{Option, ap, ◌∙◌}
use Rattle.std.specs.Option.{option_map}
use Rattle.pair_list.specs.declared.place.PairPlace.{PairPlace}
use Rattle.pair_list.proofs.list.PairList.position.Goals as goal

pub returns-in_err-place : goal.returns-in_err-place
returns-in_err-place g c =
    let told = ap (λ (o : Option PairPlace). option_map (λ (p : PairPlace). p.at) o) c.in_err-place.ensures.row in
    rw c.from_residual.ensures (rw (← c.self.view_is) (told ∙ c.self.invariant.0 c.args.first c.args.second))

pub returns : goal.returns
returns g c =
    let told = ap (λ (o : Option PairPlace). option_map (λ (p : PairPlace). p.at) o) c.in_ok-place.ensures.row in
    rw (← c.self.view_is) (told ∙ c.self.invariant.0 c.args.first c.args.second)
