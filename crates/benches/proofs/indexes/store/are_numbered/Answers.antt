use Rattle.std.proofs.Common.{[], ◌∷◌, ◌++◌, refl, sym, ap, subst, ◌∙◌, List}
use Rattle.std.proofs.lemmas.List.{append-nil}
use Rattle.std.proofs.lemmas.Option.{none-some}
use Rattle.queue_rows.specs.declared.rows.MsgRow.{MsgRow}
use Rattle.benches.specs.Kept.{AreNumbered}
use Rattle.benches.proofs.Numbered.{one_more}
use Rattle.benches.proofs.Stamped.{longer, split_on}
use Rattle.benches.proofs.indexes.store.are_numbered.Goals as goal

pub loop-message-init : goal.loop-message-init
loop-message-init c = record {
  done = [];
  all = c.into_iter-message-iterator.ensures.into_iter_gives;
  count = refl;
  numbered = λ at m there. absurd (none-some m there);
}

pub loop-message-preserved : goal.loop-message-preserved
loop-message-preserved c =
    let so = c.loop-message.invariant in
    let m = c.in-Some.message.now in
    record {
      done = so.done ++ m ∷ [];
      all = split_on m so.done c.next.new.self c.loop-message.message-iterator c.args.messages.now c.in-Some.ensures.steps so.all;
      count = longer c.loop-message.at m so.done so.count;
      numbered = one_more so.done m c.loop-message.at so.count c.if-message-at.false so.numbered;
    }

pub returns : goal.returns
returns c =
    let so = c.loop-message.invariant in
    let same = sym (append-nil so.done) ∙ ap (λ (ms : List MsgRow). so.done ++ ms) (sym c.in-None.ensures.steps.0) ∙ so.all in
    λ yes. subst AreNumbered same so.numbered
