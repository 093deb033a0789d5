use Rattle.std.proofs.Common.{cond, Some, None, sym, ap, ◌∙◌}
use Rattle.message_index.proofs.StampLemmas.{can_be_halved, rank_told}
use Rattle.message_index.proofs.message_index.MessageIndex.rank.Goals as goal

pub seat-at-requires : goal.seat-at-requires
seat-at-requires c = can_be_halved c.args.stamp c.self.inside.entries c.self.invariant.0

pub returns-then-is_there : goal.returns-then-is_there
returns-then-is_there c =
    let at = c.seat-at.result.0 in
    let told = rank_told c.args.stamp c.self.inside.entries c.self.invariant.0 at c.seat-at.result.1 c.seat-at.ensures.rank c.seat-at.ensures.at in
    rw (← c.self.view_is) (ap (λ b. cond b (Some at) None) (sym c.if-is_there.true) ∙ told)

pub returns-else-is_there : goal.returns-else-is_there
returns-else-is_there c =
    let at = c.seat-at.result.0 in
    let told = rank_told c.args.stamp c.self.inside.entries c.self.invariant.0 at c.seat-at.result.1 c.seat-at.ensures.rank c.seat-at.ensures.at in
    rw (← c.self.view_is) (ap (λ b. cond b (Some at) None) (sym c.if-is_there.false) ∙ told)
