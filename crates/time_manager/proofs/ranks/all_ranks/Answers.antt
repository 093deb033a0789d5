use Rattle.std.proofs.Common.{◌≡◌, ◌++◌, ◌∷◌, [], ◌+◌, ◌-◌, ◌<◌, sym, ap, ◌∙◌, append_assoc}
use Rattle.std.specs.List.{range_with_len}
use Rattle.time_manager.proofs.Gathering.{next_place}
use Rattle.time_manager.proofs.ranks.all_ranks.Goals as goal

pub loop-rank-preserved : goal.loop-rank-preserved
loop-rank-preserved c =
    let n = c.loop-rank.rank in
    let count = c.args.count in
    let rest = range_with_len (n + 1) (count - (n + 1)) in
    ap (λ xs. xs ++ rest) c.in_ok-push.ensures.items
    ∙ append_assoc c.loop-rank.ranks.items (n ∷ []) rest
    ∙ sym (ap (λ xs. c.loop-rank.ranks.items ++ xs) (next_place n count c.loop-rank-test.true))
    ∙ c.loop-rank.invariant
