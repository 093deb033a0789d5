use Rattle.std.proofs.Common.{List, ap, sym, subst, ◌∙◌}
use Rattle.slot_marks.specs.Marks.{marks_of}
use Rattle.queue_rows.specs.declared.rows.MsgRow.{MsgRow}
use Rattle.message_choice.specs.Asking.{AreSound, IsLookOf}
use Rattle.message_store.specs.Stored.{Stored}
use Rattle.message_index.proofs.EntryLemmas.{entries_rise, messages_are}
use Rattle.message_store.proofs.prepared_store.PreparedStoreChoosesMessages.choose.Goals as goal

pub choose-requires-clause-rising : goal.choose-requires-clause-rising
choose-requires-clause-rising g c =
    let k = c.self.inside.kept in
    entries_rise k.stamps k.tables.messages c.tables.ensures.stamped.rise

pub choose-requires-clause-sound : goal.choose-requires-clause-sound
choose-requires-clause-sound g c =
    let k = c.self.inside.kept in
    let pick = c.args.pick.now in
    let own = ap (λ (s : Stored). s.tables.messages) c.self.view_is in
    subst (λ (ms : List MsgRow). AreSound (marks_of c.args.locks.now c.args.actor) pick.queue.now pick.table.now ms)
    (sym own ∙ sym (messages_are k.stamps k.tables.messages c.tables.ensures.stamped.long)) c.requires.sound

pub returns-in-Some-clause-choice : goal.returns-in-Some-clause-choice
returns-in-Some-clause-choice g c =
    let k = c.self.inside.kept in
    let same = sym (ap (λ (s : Stored). s.tables.messages) c.self.view_is) ∙ sym (messages_are k.stamps k.tables.messages c.tables.ensures.stamped.long) in
    λ l is. c.choose.ensures.choice l (subst (λ (ms : List MsgRow). IsLookOf c.args.pick.now c.args.actor c.args.locks.now ms l) same is)

pub returns-in-Some-clause-slot : goal.returns-in-Some-clause-slot
returns-in-Some-clause-slot g c =
    let k = c.self.inside.kept in
    let same = sym (ap (λ (s : Stored). s.tables.messages) c.self.view_is) ∙ sym (messages_are k.stamps k.tables.messages c.tables.ensures.stamped.long) in
    λ l is. c.choose.ensures.slot l (subst (λ (ms : List MsgRow). IsLookOf c.args.pick.now c.args.actor c.args.locks.now ms l) same is)

pub returns-in-Some-clause-steps : goal.returns-in-Some-clause-steps
returns-in-Some-clause-steps g c =
    let k = c.self.inside.kept in
    let same = sym (ap (λ (s : Stored). s.tables.messages) c.self.view_is) ∙ sym (messages_are k.stamps k.tables.messages c.tables.ensures.stamped.long) in
    λ l is. c.choose.ensures.steps l (subst (λ (ms : List MsgRow). IsLookOf c.args.pick.now c.args.actor c.args.locks.now ms l) same is)
