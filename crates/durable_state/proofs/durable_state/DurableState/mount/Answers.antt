use Rattle.std.proofs.Common.{◌≡◌, inr, List, length, sym, ap, ◌∙◌, subst, arith}
use Rattle.queue_rows.specs.declared.history.Entry.{Entry}
use Rattle.run_state.specs.Promises.{promised}
use Rattle.run_state.proofs.Promises.{promised_opened}
use Rattle.durable_state.specs.Brief.{AreBrief, EndsAt}
use Rattle.durable_state.specs.Counted.{counted}
use Rattle.durable_state.specs.declared.run_logs.RunLogs.{RunLogs}
use Rattle.durable_state.proofs.Mounting.{begins, few_opened}
use Rattle.durable_state.proofs.durable_state.DurableState.mount.Goals as goal

pub invariant_of-result : goal.invariant_of-result
invariant_of-result g c =
    let none = ap length c.new.ensures in
    let no_entries = ap (λ (es : List Entry). counted es c.new.result.items) (few_opened c.in-Ok.state c.args.home.1.tables c.args.away.1.tables c.args.scripts c.in-Ok.ensures) in
    let no_promise : promised c.in-Ok.state ≡ 0 = ap promised c.in-Ok.ensures ∙ promised_opened c.args.home.1.tables c.args.away.1.tables c.args.scripts in
    record {
      few = none ∙ sym (ap length (few_opened c.in-Ok.state c.args.home.1.tables c.args.away.1.tables c.args.scripts c.in-Ok.ensures));
      room = omega (arith, none, no_promise);
      brief = record { flushes = subst AreBrief (sym no_entries) tt; present = inr (subst (EndsAt _ _) (sym no_entries) tt) };
    }

pub returns-in-Ok-clause-entries : goal.returns-in-Ok-clause-entries
returns-in-Ok-clause-entries g c =
    ap (λ (es : List Entry). counted es c.new.result.items) (few_opened c.in-Ok.state c.args.home.1.tables c.args.away.1.tables c.args.scripts c.in-Ok.ensures)

pub returns-in-Ok-clause-begun : goal.returns-in-Ok-clause-begun
returns-in-Ok-clause-begun g c =
    let logs : RunLogs _ = record { home = c.args.home.0; away = c.args.away.0; calls = c.new.result } in
    begins g.D.Disk.seen g.D.Disk.is_image g.D.Disk.calls g.D.Disk.faults c.opening_survives.ensures c.in-Ok.state logs c.args.home.1.tables c.args.away.1.tables c.args.scripts c.in-Ok.ensures c.new.ensures
