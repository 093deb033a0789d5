use Rattle.std.proofs.Common.{rules, ◌≡◌, ℕ, Bool, Some, length, sym, ap, ◌∙◌, subst}
use Rattle.turnstile.specs.Passes.{known}
use Rattle.turnstile.specs.Workers.{AreBack, Leads, IsManned, AreCounted}
use Rattle.turnstile.proofs.WorkerLemmas.{lent_whole, gathers}
use Rattle.turnstile.proofs.number_log.workers.gathered.Goals as goal

pub join_all-all-requires-clause-workers : goal.join_all-all-requires-clause-workers
join_all-all-requires-clause-workers g c =
    let new = c.run.new.workers in
    let old = c.split_all.new.workers in
    let n : length new ≡ old.len = search rules in
    let m : length old.items ≡ old.len = search rules in
    let workers = c.split_all.ensures.workers in
    (subst (AreBack c.in-Ok.pair.0 c.args.turns) (sym (lent_whole old.len new old.items n m)) c.run.ensures, subst (IsManned (known c.split_all.new.first)) (sym workers.0) workers.2)

pub returns-then-all : goal.returns-then-all
returns-then-all g c =
    let k = known c.join_all-all.new.first in
    let j = c.join_all-all.ensures in
    let actors = c.split_all.ensures.workers.0 in
    let starts : (known c.in-Ok.pair.1).opening ≡ Some c.new.result.effort = search rules in
    let same : Some c.close-log.result.effort ≡ Some c.args.effort = sym c.close-log.ensures.opening ∙ (j.opening ∙ (c.split_all.ensures.opening ∙ (starts ∙ ap Some c.new.ensures.effort))) in
    let effort : c.close-log.result.effort ≡ c.args.effort = cc in (
      effort,
      gathers c.args.actors c.args.turns k c.close-log.result (subst (λ (n : ℕ). Leads n k) actors j.pass.1) j.all
          (subst (λ (y : ℕ × Bool). AreCounted y.0 c.args.turns y.1 k) (λ i. (actors i, c.if-all.true i)) j.counted) c.close-log.ensures,
    )
