use Rattle.std.proofs.Common.{Some, sym, ◌∙◌}
use Rattle.message_choice.specs.Asking.{look_of}
use Rattle.message_choice.proofs.Navigating.{next_browsed, next_first, next_found}
use Rattle.message_choice.proofs.choosing.choose_behind.Goals as goal

pub returns-in-Some-clause-choice : goal.returns-in-Some-clause-choice
returns-in-Some-clause-choice g c =
    let l = look_of c.args.asking.now in
    let messages = g.S.Search.rows_of c.args.messages.now in
    c.found.ensures.choice ∙ next_found l messages c.args.position.now c.args.asking.now.pick.now.mode (Some c.in-Some.hit.message.now) c.in-Some.ensures.message

pub returns-in-None-clause-choice : goal.returns-in-None-clause-choice
returns-in-None-clause-choice g c =
    let l = look_of c.args.asking.now in
    let messages = g.S.Search.rows_of c.args.messages.now in
    next_browsed l messages c.args.position.now c.args.asking.now.pick.now.mode (sym c.is_browse.ensures ∙ c.if-is_browse.true) c.in-None.ensures.message

pub returns-in-None-2-clause-choice : goal.returns-in-None-2-clause-choice
returns-in-None-2-clause-choice g c =
    let l = look_of c.args.asking.now in
    let messages = g.S.Search.rows_of c.args.messages.now in
    c.choose_first.ensures.choice ∙ next_first l messages c.args.position.now c.args.asking.now.pick.now.mode (sym c.is_browse.ensures ∙ c.if-is_browse.false) c.in-None-2.ensures.message
