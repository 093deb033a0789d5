use Rattle.std.proofs.Common.{sym, subst}
use Rattle.std.specs.Prelude.{All}
use Rattle.std.proofs.lemmas.List.Elements.{All-nil}
use Rattle.run_state.specs.Entries.{HasNoCalls}
use Rattle.run_state.proofs.Promises.{room_opened}
use Rattle.run_state.proofs.Putting.{counted_opened}
use Rattle.run_state.proofs.beginning.Beginning.over.Goals as goal

pub invariant_of-result : goal.invariant_of-result
invariant_of-result c =
    let entries = c.args.self.entries in
    record {
      calls = subst (All HasNoCalls) (sym c.requires.entries) (All-nil HasNoCalls);
      counted = counted_opened c.resume.result c.resume-2.result c.args.home.tables c.args.away.tables entries.items c.resume.ensures c.resume-2.ensures;
      room = room_opened c.resume.result c.resume-2.result c.args.home.tables c.args.away.tables c.args.self.registry.sessions c.args.self.scripts entries c.resume.ensures c.resume-2.ensures c.requires.sessions c.requires.entries;
    }
