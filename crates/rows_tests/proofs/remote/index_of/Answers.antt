use Rattle.std.proofs.Common.{[], ◌∷◌, ◌++◌, refl, sym, ap, subst, ◌∙◌, List}
use Rattle.std.proofs.lemmas.List.{append-nil}
use Rattle.queue_rows.specs.declared.rows.MsgRow.{MsgRow}
use Rattle.sort_index.specs.declared.group.Group.{Group}
use Rattle.remote_slots.specs.Remote.{IndexesRemote}
use Rattle.remote_slots.proofs.Changing.{nothing_indexed}
use Rattle.rows_tests.specs.Kept.{numbered_from}
use Rattle.rows_tests.proofs.Numbering.{longer, split_on}
use Rattle.rows_tests.proofs.Sending.{one_more}
use Rattle.rows_tests.proofs.remote.index_of.Goals as goal

pub loop-message-init : goal.loop-message-init
loop-message-init c = record {
  done = [];
  all = c.into_iter-message-iterator.ensures.into_iter_gives;
  stamps = refl;
  indexed = subst (λ (groups : List Group). IndexesRemote [] groups) (sym c.new-remote.ensures) nothing_indexed;
}

pub loop-message-preserved : goal.loop-message-preserved
loop-message-preserved c =
    let so = c.loop-message.invariant in
    let m = c.in-Some.message.now in
    record {
      done = so.done ++ m ∷ [];
      all = split_on m so.done c.next.new.self c.loop-message.message-iterator c.args.messages.now c.in-Some.ensures.steps so.all;
      stamps = longer c.loop-message.stamp m so.done so.stamps;
      indexed = one_more c.loop-message.stamp m so.done c.loop-message.remote c.put.new.self so.stamps c.in_ok-put.ensures so.indexed;
    }

pub returns : goal.returns
returns c =
    let so = c.loop-message.invariant in
    let same = sym (append-nil so.done) ∙ ap (λ (ms : List MsgRow). so.done ++ ms) (sym c.in-None.ensures.steps.0) ∙ so.all in
    subst (λ (ms : List MsgRow). IndexesRemote (numbered_from 0 ms) c.loop-message.remote) same so.indexed
