use Rattle.std.proofs.Common.{sym, ◌∙◌}
use Rattle.message_choice.proofs.Claiming.{held-by-none, held-by-other, held-by-own}
use Rattle.message_choice.proofs.claims.other_holder.Goals as goal

pub returns-in_err-other-clause-holder : goal.returns-in_err-other-clause-holder
returns-in_err-other-clause-holder c =
    λ l is. c.from_residual.ensures ∙ sym (held-by-none c.args.asking.now l.tables.messages l is c.args.message.now c.args.slot (sym c.is_browse.ensures ∙ c.if-is_browse.false)
    c.in_err-other.ensures.free_slot c.in_err-other.ensures.free_group)

pub returns-then-other-asking-clause-holder : goal.returns-then-other-asking-clause-holder
returns-then-other-asking-clause-holder c =
    λ l is. sym (held-by-own c.args.asking.now l.tables.messages l is c.args.message.now c.args.slot (sym c.is_browse.ensures ∙ c.if-is_browse.false)
    c.in_ok-other.other c.holder.ensures.once (c.requires.sound.groups c.requires.here c.args.slot) c.in_ok-other.ensures.some c.if-other-asking.true)

pub returns-else-other-asking-clause-holder : goal.returns-else-other-asking-clause-holder
returns-else-other-asking-clause-holder c =
    λ l is. sym (held-by-other c.args.asking.now l.tables.messages l is c.args.message.now c.args.slot (sym c.is_browse.ensures ∙ c.if-is_browse.false)
    c.in_ok-other.other c.holder.ensures.once c.in_ok-other.ensures.some c.if-other-asking.false)
