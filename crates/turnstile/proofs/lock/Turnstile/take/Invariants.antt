use Rattle.std.proofs.Common.{◌≡◌}
use Rattle.turnstile.proofs.lock.Turnstile.take.Given as goal

abbrev pub invariant-loop : goal.invariant-loop
invariant-loop g l = (l.pass.seat.table_id ≡ l.initial.pass.seat.table_id) × (l.pass.seat.me ≡ l.initial.pass.seat.me)
