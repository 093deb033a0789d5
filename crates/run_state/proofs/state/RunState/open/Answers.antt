use Rattle.std.proofs.Common.{sym, subst}
use Rattle.std.specs.Prelude.{All}
use Rattle.std.proofs.lemmas.List.Elements.{All-nil}
use Rattle.queue_rows.specs.Tables.{empty_tables}
use Rattle.run_state.specs.Entries.{HasNoCalls}
use Rattle.run_state.proofs.Promises.{room_opened}
use Rattle.run_state.proofs.Putting.{counted_opened}
use Rattle.run_state.proofs.state.RunState.open.Goals as goal

pub invariant_of-result : goal.invariant_of-result
invariant_of-result c =
    let entries = c.in_ok-entries.entries in
    record {
      calls = subst (All HasNoCalls) (sym c.in_ok-entries.ensures) (All-nil HasNoCalls);
      counted = counted_opened c.new.result c.new-2.result empty_tables empty_tables entries.items c.new.ensures c.new-2.ensures;
      room = room_opened c.new.result c.new-2.result empty_tables empty_tables c.in_ok-registry.registry.sessions c.args.scripts entries c.new.ensures c.new-2.ensures c.in_ok-registry.ensures c.in_ok-entries.ensures;
    }
