use Rattle.std.proofs.Common.{rules, arith, ◌≡◌, ℕ, false, length, sym, ap, ◌∙◌, subst}
use Rattle.turnstile.specs.Passes.{known}
use Rattle.turnstile.specs.Workers.{AreFresh, IsFresh, IsManned}
use Rattle.turnstile.specs.declared.number_log.workers.Worker.{Worker}
use Rattle.turnstile.proofs.WorkerLemmas.{each_push, split_more, split_fresh, split_manned}
use Rattle.turnstile.proofs.number_log.workers.split_all.Goals as goal

pub split-pass-requires-clause-number : goal.split-pass-requires-clause-number
split-pass-requires-clause-number c =
    let made = c.loop-actor.invariant.made in
    let test = c.loop-actor-test.true in
    ((λ e. let a = made.actor in omega arith), split_fresh _ _ _ made)

pub loop-actor-preserved : goal.loop-actor-preserved
loop-actor-preserved c =
    let i = c.loop-actor.invariant in
    let s = c.split-pass.ensures in
    let turnstile = c.args.turnstile.now in
    let place : length c.loop-actor.workers.items ≡ c.loop-actor.actor = search rules in
    let items = c.push_reserved.ensures.items in
    let at : ℕ → Worker → Type 0 = λ k w. IsFresh turnstile w × (w.actor ≡ k) in
    let w : Worker = record { pass = c.split-pass.result; actor = c.loop-actor.actor; done = false } in
    let fresh : IsFresh turnstile w = (record { pass = s.new.0; actor = ap (λ z. z.actor) s.new.1; first = ap (λ z. z.first) s.new.1 }, ap (λ z. z.own) s.new.1) in record {
      pass = s.pass.0;
      made = split_more _ _ _ _ i.made s.pass.1;
      opening = ap (λ z. z.opening) s.pass.1 ∙ i.opening;
      count = search rules;
      room = search rules;
      workers = subst (AreFresh turnstile) (sym items) (each_push at c.loop-actor.workers.items w i.workers (fresh, sym place));
    }

pub returns-clause-workers : goal.returns-clause-workers
returns-clause-workers c =
    let i = c.loop-actor.invariant in
    let test = c.loop-actor-test.false in
    let auto = c.loop-actor.auto.actor-end in
    let all : c.loop-actor.actor ≡ c.args.actors = omega arith in
    (i.count ∙ all, i.workers, subst (IsManned (known c.loop-actor.first)) all (split_manned _ _ _ i.made))
