use Rattle.std.proofs.Common.{◌⊎◌, List, ap, sym, ◌∙◌, length, subst}
use Rattle.queue_rows.specs.World.{World}
use Rattle.queue_rows.specs.declared.history.Entry.{Entry}
use Rattle.run_state.specs.Promises.{promised}
use Rattle.run_state.specs.Reserved.{HasPlaces}
use Rattle.run_state.proofs.Promises.{promised_read}
use Rattle.durable_state.specs.Brief.{AreBrief, EndsAt}
use Rattle.durable_state.specs.Counted.{counted}
use Rattle.durable_state.specs.Going.{Goes}
use Rattle.durable_state.specs.Held.{Held, HasFailed}
use Rattle.durable_state.proofs.Stepping.{held_of, still_goes}
use Rattle.durable_state.proofs.Worlds.{entries_read, home_read, away_read}
use Rattle.durable_state.proofs.durable_state.DurableState.read_clock.Goals as goal

pub invariant_of-self : goal.invariant_of-self
invariant_of-self g c =
    let w = c.self.inside.state in
    let same = ap (λ (v : World). v.entries) c.read_clock.ensures ∙ entries_read c.args.reading w in
    record {
      few = c.self.invariant.few ∙ sym (ap (λ (v : World). length v.entries) c.read_clock.ensures ∙ ap length (entries_read c.args.reading w));
      brief = record {
        flushes = subst AreBrief (ap (λ (es : List Entry). counted es c.self.inside.logs.calls.items) (sym same)) c.self.invariant.brief.flushes;
        present = subst (λ (es : List Entry). HasFailed (held_of w c.self.inside.logs) ⊎ EndsAt (g.D.Disk.calls c.self.inside.logs.home.disk) (g.D.Disk.calls c.self.inside.logs.away.disk) (counted es c.self.inside.logs.calls.items)) (sym same) c.self.invariant.brief.present;
      };
      room = subst (λ n. HasPlaces n c.self.inside.logs.calls) (sym (ap promised c.read_clock.ensures ∙ promised_read c.args.reading w)) c.self.invariant.room;
    }

pub returns-clause-disks : goal.returns-clause-disks
returns-clause-disks g c =
    let w = c.self.inside.state in
    let v = c.read_clock.new.self in
    subst (λ (o : Held _). Goes g.D.Disk.seen g.D.Disk.is_image g.D.Disk.calls g.D.Disk.faults o (held_of v c.self.inside.logs)) c.self.view_is
    (still_goes g.D.Disk.seen g.D.Disk.is_image g.D.Disk.calls g.D.Disk.faults w v c.self.inside.logs
    (ap (λ (u : World). u.entries) c.read_clock.ensures ∙ entries_read c.args.reading w)
    (ap (λ (u : World). u.home.opening) c.read_clock.ensures ∙ home_read c.args.reading w)
    (ap (λ (u : World). u.away.opening) c.read_clock.ensures ∙ away_read c.args.reading w))

pub returns-clause-entries : goal.returns-clause-entries
returns-clause-entries g c =
    let w = c.self.inside.state in
    ap (λ (es : List Entry). counted es c.self.inside.logs.calls.items) (ap (λ (u : World). u.entries) c.read_clock.ensures ∙ entries_read c.args.reading w)
    ∙ ap (λ (o : Held _). o.entries) c.self.view_is
