use Rattle.std.proofs.Common.{◌≡◌, ◌≤◌, vec_len, vec_capacity}
use Rattle.turnstile.specs.Passes.{known, IsPassOf}
use Rattle.turnstile.specs.Workers.{AreFresh}
use Rattle.turnstile.proofs.WorkerLemmas.{HasSplit}
use Rattle.turnstile.proofs.number_log.workers.split_all.Given as goal

abbrev pub invariant-loop-actor : goal.invariant-loop-actor
invariant-loop-actor l = record {
  pass : IsPassOf l.turnstile l.first;
  made : HasSplit l.actors l.actor (known l.first);
  opening : (known l.first).opening ≡ (known l.initial.first).opening;
  count : vec_len l.workers ≡ l.actor;
  room : l.actors ≤ vec_capacity l.workers;
  workers : AreFresh l.turnstile l.workers.items;
}
