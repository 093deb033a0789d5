use Rattle.std.proofs.Common.{List, ap, sym, ◌∙◌}
use Rattle.sort_index.specs.declared.group.Ready.{Ready}
use Rattle.message_choice.specs.Asking.{look_of}
use Rattle.message_choice.specs.Searched.{first_in, looks_in}
use Rattle.message_choice.specs.Wanted.{message_of}
use Rattle.message_choice.proofs.Walking.{ends_with, goes_on, steps_of_hit, steps_of_next}
use Rattle.message_choice.proofs.rows.search_in.Goals as goal

pub returns-in-Some-hit_at-clause-message : goal.returns-in-Some-hit_at-clause-message
returns-in-Some-hit_at-clause-message g c =
    let l = look_of c.args.asking.now in
    let entries = g.M.StampedMessages.entries c.args.messages.now in
    let ends = ends_with l c.args.filter entries c.in-Some.row.now c.next.new.self c.in-Some-hit_at.hit.message.now (sym c.in-Some-hit_at.ensures.message) in
    sym ends.found ∙ sym (ap (λ (rs : List Ready). first_in l c.args.filter entries rs) c.in-Some.ensures.some) ∙ c.loop-row.invariant.found

pub returns-in-Some-hit_at-clause-steps : goal.returns-in-Some-hit_at-clause-steps
returns-in-Some-hit_at-clause-steps g c =
    let l = look_of c.args.asking.now in
    let entries = g.M.StampedMessages.entries c.args.messages.now in
    let ends = ends_with l c.args.filter entries c.in-Some.row.now c.next.new.self c.in-Some-hit_at.hit.message.now (sym c.in-Some-hit_at.ensures.message) in
    c.in-Some.ensures.steps
    ∙ steps_of_hit c.loop-row.steps (looks_in l c.args.filter entries c.loop-row.rows) c.args.steps.now (looks_in l c.args.filter entries c.args.rows)
    c.loop-row.invariant.looked
    (ap (λ (rs : List Ready). looks_in l c.args.filter entries rs) c.in-Some.ensures.some ∙ ends.looked)

pub loop-row-preserved : goal.loop-row-preserved
loop-row-preserved g c =
    let l = look_of c.args.asking.now in
    let entries = g.M.StampedMessages.entries c.args.messages.now in
    let on = goes_on l c.args.filter entries c.in-Some.row.now c.next.new.self (sym c.hit_at.ensures.message ∙ ap message_of c.in_default-hit_at.is) in
    record {
      found = sym on.found ∙ sym (ap (λ (rs : List Ready). first_in l c.args.filter entries rs) c.in-Some.ensures.some) ∙ c.loop-row.invariant.found;
      looked = steps_of_next c.loop-row.steps (looks_in l c.args.filter entries c.loop-row.rows) c.args.steps.now (looks_in l c.args.filter entries c.args.rows) (looks_in l c.args.filter entries c.next.new.self) c.next.new.steps
          c.loop-row.invariant.looked
          (ap (λ (rs : List Ready). looks_in l c.args.filter entries rs) c.in-Some.ensures.some ∙ on.looked)
          c.in-Some.ensures.steps;
    }
