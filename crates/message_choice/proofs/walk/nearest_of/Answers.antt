use Rattle.std.proofs.Common.{List, sym, ap, ◌∙◌, All, filter, fold, subst}
use Rattle.std.proofs.lemmas.List.Elements.{All-head, All-rest}
use Rattle.std.specs.Prelude.{option_copied}
use Rattle.queue_rows.specs.Dequeueing.{nearer}
use Rattle.queue_rows.specs.declared.rows.MsgRow.{MsgRow}
use Rattle.message_choice.specs.Asking.{IsSoundFor, look_of}
use Rattle.message_choice.specs.Wanted.{message_of, passes_behind}
use Rattle.message_choice.proofs.Navigating.{walk_is_nearest}
use Rattle.message_choice.proofs.Nearing.{nearest_goes_on, nearest_stays}
use Rattle.message_choice.proofs.walk.nearest_of.Goals as goal

pub returns-clause-message : goal.returns-clause-message
returns-clause-message c =
    let l = look_of c.args.asking.now in
    let place = option_copied c.args.after in
    let test = passes_behind l c.args.filter place in
    let best = message_of c.loop-message.best in
    sym (ap (λ (ms : List MsgRow). fold nearer best (filter test ms)) c.in-None.ensures.steps.0)
    ∙ c.loop-message.invariant.nearest
    ∙ walk_is_nearest l c.args.filter place c.args.messages.now

pub hit_behind-requires : goal.hit_behind-requires
hit_behind-requires c =
    let sound = IsSoundFor c.args.asking.now in
    All-head sound c.in-Some.message.now c.next.new.self (subst (All sound) c.in-Some.ensures.steps c.loop-message.invariant.sound)

pub loop-message-preserved-in-Some-hit_behind : goal.loop-message-preserved-in-Some-hit_behind
loop-message-preserved-in-Some-hit_behind c =
    let l = look_of c.args.asking.now in
    let test = passes_behind l c.args.filter (option_copied c.args.after) in
    let m = c.in-Some.message.now in
    let rest = c.next.new.self in
    let more = c.loop-message.message-iterator in
    record {
      nearest = nearest_goes_on test (message_of c.loop-message.best) m rest more c.args.messages.now c.in-Some.ensures.steps c.in-Some-hit_behind.hit.message.now c.nearer.result.message.now
          (sym c.in-Some-hit_behind.ensures.message) c.nearer.ensures.message c.loop-message.invariant.nearest;
      slot = c.nearer.ensures.slot l c.loop-message.invariant.slot c.in-Some-hit_behind.ensures.slot;
      sound = All-rest (IsSoundFor c.args.asking.now) m rest more c.in-Some.ensures.steps c.loop-message.invariant.sound;
    }

pub loop-message-preserved : goal.loop-message-preserved
loop-message-preserved c =
    let l = look_of c.args.asking.now in
    let test = passes_behind l c.args.filter (option_copied c.args.after) in
    let m = c.in-Some.message.now in
    let rest = c.next.new.self in
    let more = c.loop-message.message-iterator in
    record {
      nearest = nearest_stays test (message_of c.loop-message.best) m rest more c.args.messages.now c.in-Some.ensures.steps (sym c.hit_behind.ensures.message ∙ ap message_of c.in_default.is) c.loop-message.invariant.nearest;
      slot = c.loop-message.invariant.slot;
      sound = All-rest (IsSoundFor c.args.asking.now) m rest more c.in-Some.ensures.steps c.loop-message.invariant.sound;
    }
