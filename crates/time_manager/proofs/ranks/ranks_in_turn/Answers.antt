use Rattle.std.proofs.Common.{ap, sym, ◌∙◌, ◌++◌, ℕ, length, Option, Some, arith, subst}
use Rattle.std.specs.Prelude.{filter}
use Rattle.due_index.specs.Due.{due_row, is_due}
use Rattle.time_manager.specs.Ranks.{ranks_of, rows_left}
use Rattle.time_manager.proofs.Walking.{begins, goes_on, named_on, IsFirstLeft}
use Rattle.time_manager.proofs.ranks.ranks_in_turn.Goals as goal

pub loop-next-init : goal.loop-next-init
loop-next-init g c =
    let messages = (g.T.MessageTables.tables c.args.store.now).messages in
    let b = begins c.args.moment c.args.rows.now.rows c.due-next.result c.due-next.ensures.rising c.due-next.ensures.first in
    record { named = ap (λ xs. c.new-ranks.result.items ++ ranks_of messages xs) b.all ∙ ap (λ xs. xs ++ ranks_of messages (filter (is_due c.args.moment) c.args.rows.now.rows)) c.new-ranks.ensures.items; first = b.first }

pub loop-next-smaller : goal.loop-next-smaller
loop-next-smaller g c =
    let t = c.in-Some.row in
    let row = due_row t.0 t.1 t.2 in
    let rows = c.args.rows.now.rows in
    let first : IsFirstLeft c.args.moment rows (Some t) = subst (λ (o : Option (ℕ × ℕ × ℕ)). IsFirstLeft c.args.moment rows o) c.in-Some.is c.loop-next.invariant.first in
    let on = goes_on c.args.moment rows row c.after-next.result c.after-next.ensures.rising first c.after-next.ensures.first in
    let fewer = ap length (ap (rows_left c.args.moment rows) c.in-Some.is ∙ on.left) in
    omega arith

pub loop-next-preserved : goal.loop-next-preserved
loop-next-preserved g c =
    let messages = (g.T.MessageTables.tables c.args.store.now).messages in
    let t = c.in-Some.row in
    let row = due_row t.0 t.1 t.2 in
    let rows = c.args.rows.now.rows in
    let first : IsFirstLeft c.args.moment rows (Some t) = subst (λ (o : Option (ℕ × ℕ × ℕ)). IsFirstLeft c.args.moment rows o) c.in-Some.is c.loop-next.invariant.first in
    let on = goes_on c.args.moment rows row c.after-next.result c.after-next.ensures.rising first c.after-next.ensures.first in
    record {
      named = ap (λ xs. xs ++ ranks_of messages (rows_left c.args.moment rows c.after-next.result)) c.in_ok-push_rank.ensures
          ∙ named_on messages c.loop-next.ranks.items row (rows_left c.args.moment rows c.after-next.result)
          ∙ sym (ap (λ xs. c.loop-next.ranks.items ++ ranks_of messages xs) (ap (rows_left c.args.moment rows) c.in-Some.is ∙ on.left))
          ∙ c.loop-next.invariant.named;
      first = on.first;
    }
