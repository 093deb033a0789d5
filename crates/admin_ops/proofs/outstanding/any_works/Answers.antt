use Rattle.std.proofs.Common.{◌+◌, sym, ap, ◌∙◌}
use Rattle.std.specs.Prelude.{◌||◌}
use Rattle.admin_ops.specs.Affecting.{affecting}
use Rattle.admin_ops.specs.Shown.{works_by}
use Rattle.admin_ops.proofs.Walking.{works_from, next_works}
use Rattle.admin_ops.proofs.outstanding.any_works.Goals as goal

pub returns-then-works_at : goal.returns-then-works_at
returns-then-works_at g c =
    let works = works_by (g.T.MessageTables.tables c.args.store.now) c.args.work (affecting c.args.affected) in
    let locks = c.args.work.locks.now in
    let states = c.args.work.sessions.now in
    let at = c.loop-number.number in
    sym (c.loop-number.invariant ∙ next_works works locks states at ∙ ap (λ b. b || works_from works locks states (at + 1)) (sym c.works_at.ensures ∙ c.if-works_at.true))

pub loop-number-preserved : goal.loop-number-preserved
loop-number-preserved g c =
    let works = works_by (g.T.MessageTables.tables c.args.store.now) c.args.work (affecting c.args.affected) in
    let locks = c.args.work.locks.now in
    let states = c.args.work.sessions.now in
    let at = c.loop-number.number in
    c.loop-number.invariant ∙ next_works works locks states at ∙ ap (λ b. b || works_from works locks states (at + 1)) (sym c.works_at.ensures ∙ c.if-works_at.false)
