use Rattle.std.proofs.Common.{◌∷◌, true, option_map, ap, ◌∙◌}
use Rattle.script_text.specs.Script.{lines_left}
use Rattle.script_text.proofs.Cuts.{before_last_on}
use Rattle.script_text.proofs.reading.next_line.Goals as goal

pub returns-clause-some : goal.returns-clause-some
returns-clause-some c =
    let cut = c.cut_line.ensures.lines ∙ ap (λ behind. c.cut_line.result.0.now ∷ lines_left true (option_map (λ text. text.now) behind)) c.in_ok-behind.was in
    rw (c.if-is_whole.false, c.in_ok-left.was) (before_last_on c.in_ok-left.field-0.now c.cut_line.result.0.now c.in_ok-behind.field-0.now cut)
