use Rattle.std.proofs.Common.{◌≡◌, ◌++◌}
use Rattle.turnstile.specs.Passes.{known, IsPassOf}
use Rattle.turnstile.specs.Counting.{numbered}
use Rattle.turnstile.proofs.number_log.count.Given as goal

abbrev pub invariant-loop-number : goal.invariant-loop-number
invariant-loop-number g l = record {
  pass : IsPassOf l.turnstile l.pass;
  actor : (known l.pass).actor ≡ l.actor;
  first : (known l.pass).first ≡ (known l.initial.pass).first;
  made : (known l.pass).made ≡ (known l.initial.pass).made;
  joined : (known l.pass).joined ≡ (known l.initial.pass).joined;
  own : (known l.pass).own ≡ (known l.initial.pass).own ++ numbered l.actor l.number;
}
