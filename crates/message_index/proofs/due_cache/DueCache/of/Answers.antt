use Rattle.std.proofs.Common.{[], ◌∷◌, ◌++◌, append-nil, sym, ap, subst, ◌∙◌, List}
use Rattle.queue_rows.specs.declared.rows.MsgRow.{MsgRow}
use Rattle.message_index.specs.DueKept.{IfDue, keeps_in}
use Rattle.message_index.proofs.EntryLemmas.{split_on}
use Rattle.message_index.proofs.IndexLemmas.{due_pushed}
use Rattle.message_index.proofs.due_cache.DueCache.of.Goals as goal

pub loop-message-init : goal.loop-message-init
loop-message-init c = record {
  done = [];
  all = c.into_iter-message-iterator.ensures.into_iter_gives;
  due = tt;
}

pub loop-message-preserved : goal.loop-message-preserved
loop-message-preserved c =
    let so = c.loop-message.invariant in
    let m = c.in-Some.message.now in
    record {
      done = so.done ++ m ∷ [];
      all = split_on m so.done c.next.new.self c.loop-message.message-iterator c.args.messages.now c.in-Some.ensures.steps so.all;
      due = due_pushed so.done m c.loop-message.due.keeps c.put.new.self.keeps c.loop-message.due.slots c.put.new.self.slots c.put.ensures.keeps c.put.ensures.rows so.due;
    }

pub returns : goal.returns
returns c =
    let so = c.loop-message.invariant in
    let same = sym (append-nil so.done) ∙ ap (λ (ms : List MsgRow). so.done ++ ms) (sym c.in-None.ensures.steps.0) ∙ so.all in
    subst (λ (ms : List MsgRow). IfDue (keeps_in c.loop-message.due.keeps) ms c.loop-message.due.slots) same so.due
