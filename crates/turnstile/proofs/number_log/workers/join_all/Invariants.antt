use Rattle.std.proofs.Common.{◌≡◌, ◌≤◌, vec_len}
use Rattle.turnstile.specs.Passes.{known, IsPassOf}
use Rattle.turnstile.specs.Workers.{AreBack, Leads, IsManned, AreCounted}
use Rattle.turnstile.proofs.number_log.workers.join_all.Given as goal

abbrev pub invariant-loop-worker : goal.invariant-loop-worker
invariant-loop-worker l = record {
  pass : IsPassOf l.turnstile l.first;
  leads : Leads (vec_len l.initial.workers) (known l.first);
  opening : (known l.first).opening ≡ (known l.initial.first).opening;
  workers : AreBack l.turnstile l._turns l.workers.items;
  few : vec_len l.workers ≤ vec_len l.initial.workers;
  manned : IsManned (known l.first) (vec_len l.workers);
  counted : AreCounted (vec_len l.initial.workers) l._turns l.all (known l.first);
}

abbrev pub decreases-loop-worker : goal.decreases-loop-worker
decreases-loop-worker l = vec_len l.workers
