use Rattle.std.proofs.Common.{◌<◌, length, Option, ap, sym, subst, ◌∙◌}
use denote.Ref.{Bor}
use Rattle.std.specs.Prelude.{option_copied}
use Rattle.sort_index.specs.declared.group.Ready.{Ready}
use Rattle.remote_slots.specs.Searched.{first_from, rows_from}
use Rattle.remote_slots.proofs.Walking.{ends_with, goes_on_with}
use Rattle.remote_slots.proofs.rows.search_from.Goals as goal

pub returns-in-Some-sent_at : goal.returns-in-Some-sent_at
returns-in-Some-sent_at g c =
    let entries = g.M.StampedMessages.entries c.args.messages.now in
    sym (ends_with c.args.schedule.now c.args.moment entries c.args.rows.now.groups c.requires.rising c.requires.indexed c.in-Some.row.now c.in-Some-sent_at.message.now (sym c.in-Some-sent_at.ensures))
    ∙ sym (ap (λ (o : Option (Bor Ready)). first_from c.args.schedule.now c.args.moment entries (option_copied o)) c.in-Some.is) ∙ c.loop-next.invariant

pub loop-next-smaller : goal.loop-next-smaller
loop-next-smaller g c =
    let entries = g.M.StampedMessages.entries c.args.messages.now in
    let next = option_copied c.next_row-next.result in
    let goes = goes_on_with c.args.schedule.now c.args.moment entries c.args.rows.now.groups c.requires.rising c.requires.indexed c.in-Some.row.now next c.next_row-next.ensures.first (sym c.sent_at.ensures ∙ ap option_copied c.in_default-sent_at.is) in
    subst (λ (o : Option (Bor Ready)). length (rows_from c.args.schedule.now entries next) < length (rows_from c.args.schedule.now entries (option_copied o))) (sym c.in-Some.is) goes.fewer

pub loop-next-preserved : goal.loop-next-preserved
loop-next-preserved g c =
    let entries = g.M.StampedMessages.entries c.args.messages.now in
    let next = option_copied c.next_row-next.result in
    let goes = goes_on_with c.args.schedule.now c.args.moment entries c.args.rows.now.groups c.requires.rising c.requires.indexed c.in-Some.row.now next c.next_row-next.ensures.first (sym c.sent_at.ensures ∙ ap option_copied c.in_default-sent_at.is) in
    sym goes.found ∙ sym (ap (λ (o : Option (Bor Ready)). first_from c.args.schedule.now c.args.moment entries (option_copied o)) c.in-Some.is) ∙ c.loop-next.invariant
