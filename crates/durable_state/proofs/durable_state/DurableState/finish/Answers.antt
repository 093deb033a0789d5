use Rattle.std.proofs.Common.{List, map, sym, ap, ◌∙◌, subst}
use Rattle.queue_rows.specs.World.{uncounted}
use Rattle.queue_rows.specs.declared.history.Entry.{Entry}
use Rattle.durable_state.specs.Brief.{AreBrief}
use Rattle.durable_state.specs.Counted.{counted}
use Rattle.durable_state.specs.Held.{Held}
use Rattle.durable_state.proofs.Counts.{uncounted_all, uncounted_counted}
use Rattle.durable_state.proofs.durable_state.DurableState.finish.Goals as goal

pub returns-clause-entries : goal.returns-clause-entries
returns-clause-entries g c =
    let own = sym (uncounted_all c.finish-history.result.entries c.finish-history.ensures.calls) ∙ c.finish-history.ensures.entries in
    c.set_all_calls.ensures ∙ ap (λ (es : List Entry). counted es c.self.inside.logs.calls.items) own ∙ ap (λ (o : Held _). o.entries) c.self.view_is

pub returns-clause-uncounted : goal.returns-clause-uncounted
returns-clause-uncounted g c =
    ap (map uncounted) c.set_all_calls.ensures
    ∙ uncounted_counted c.finish-history.result.entries c.self.inside.logs.calls.items
    ∙ c.finish-history.ensures.entries ∙ ap (λ (o : Held _). o.world.entries) c.self.view_is

pub returns-clause-brief : goal.returns-clause-brief
returns-clause-brief g c =
    let own = sym (uncounted_all c.finish-history.result.entries c.finish-history.ensures.calls) ∙ c.finish-history.ensures.entries in
    subst AreBrief (sym (c.set_all_calls.ensures ∙ ap (λ (es : List Entry). counted es c.self.inside.logs.calls.items) own)) c.self.invariant.brief.flushes
