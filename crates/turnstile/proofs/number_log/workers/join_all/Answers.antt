use Rattle.std.proofs.Common.{rules, arith, ◌≡◌, ℕ, ◌+◌, [], ◌∷◌, ◌++◌, length, sym, ap, ◌∙◌, subst}
use Rattle.std.specs.Prelude.{vec_len}
use Rattle.turnstile.specs.Passes.{known}
use Rattle.turnstile.specs.Counting.{numbered}
use Rattle.turnstile.specs.Workers.{AreBack, IsBack, IsManned}
use Rattle.turnstile.specs.declared.number_log.workers.Worker.{Worker}
use Rattle.turnstile.proofs.WorkerLemmas.{both_true, each_pop, each_last, leads_join, manned_join, counted_join, all_joined}
use Rattle.turnstile.proofs.number_log.workers.join_all.Goals as goal

pub loop-worker-preserved : goal.loop-worker-preserved
loop-worker-preserved c =
    let i = c.loop-worker.invariant in
    let w = c.in-Some.worker in
    let k = known c.loop-worker.first in
    let o = known w.pass in
    let turnstile = c.args.turnstile.now in
    let left = c.pop.new.self.items in
    let was : c.loop-worker.workers.items ≡ left ++ w ∷ [] = search rules in
    let at : ℕ → Worker → Type 0 = λ k w. IsBack turnstile c.args._turns w × (w.actor ≡ k) in
    let workers = subst (AreBack turnstile c.args._turns) was i.workers in
    let last = each_last at left w workers in
    let count : vec_len c.loop-worker.workers ≡ vec_len c.pop.new.self + 1 = search rules in
    let place : length left ≡ vec_len c.pop.new.self = search rules in
    let number = last.0.0.actor in
    let here : o.actor ≡ vec_len c.pop.new.self = number ∙ (last.1 ∙ place) in
    let few = i.few in record {
      pass = c.join.ensures.pass.0;
      leads = leads_join _ k o _ i.leads c.join.ensures.pass.1;
      opening = ap (λ z. z.opening) c.join.ensures.pass.1 ∙ i.opening;
      workers = each_pop at left w workers;
      few = omega arith;
      manned = manned_join k o _ _ _ i.manned count here c.join.ensures.pass.1;
      counted = counted_join (vec_len c.args.workers) c.args._turns c.loop-worker.all w.done _ k o _ i.counted (both_true c.loop-worker.all w.done) (omega arith) (λ t. last.0.1 t ∙ ap (λ (z : ℕ). numbered z c.args._turns) (sym number)) c.join.ensures.pass.1;
    }

pub returns-clause-all : goal.returns-clause-all
returns-clause-all c =
    let none : vec_len c.loop-worker.workers ≡ 0 = search rules in
    all_joined (known c.loop-worker.first) (subst (IsManned (known c.loop-worker.first)) none c.loop-worker.invariant.manned)
