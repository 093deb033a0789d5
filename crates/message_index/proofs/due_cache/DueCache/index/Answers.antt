use Rattle.std.proofs.Common.{Option, refl, sym, subst}
use Rattle.due_index.specs.Due.{DueRows}
use Rattle.due_slots.specs.Named.{NamesDue}
use Rattle.message_index.specs.DueKept.{IfDue, keeps_in}
use Rattle.message_index.proofs.DueLemmas.{rows_name}
use Rattle.message_index.proofs.due_cache.DueCache.index.Goals as goal

pub returns : goal.returns
returns c =
    let t = c.args.tables.now in
    let keeps = c.args.self.now.keeps in
    let due = subst (λ (o : Option DueRows). IfDue (keeps_in keeps) t.messages o) c.in-Some.is c.requires in
    subst (λ (d : DueRows). NamesDue t d.rows) (sym c.index.ensures) (rows_name t keeps c.in-Some.slots.rows c.rows_name_due.ensures (c.if-not-are_kept.ensures refl) due)
