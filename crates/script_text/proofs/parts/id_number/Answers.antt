use Rattle.std.proofs.Common.{◌≡◌, ◌≤◌, true, sym, ◌∙◌}
use Rattle.std.proofs.lemmas.Bool.{le-leb}
use Rattle.script_text.specs.Parts.{is_counting}
use Rattle.script_text.proofs.Ids.{number_is, no_number, counts}
use Rattle.script_text.proofs.parts.id_number.Goals as goal

pub returns-in_err-number-clause-number : goal.returns-in_err-number-clause-number
returns-in_err-number-clause-number c =
    let counting : is_counting c.args.digits.now ≡ true = cc in
    c.from_residual.ensures ∙ sym (no_number c.args.digits.now c.parse.result counting c.parse.ensures.value.0 (sym c.ok.ensures.value ∙ c.in_err-number.was))

pub returns-else-number-gt-ID_LIMIT-clause-least : goal.returns-else-number-gt-ID_LIMIT-clause-least
returns-else-number-gt-ID_LIMIT-clause-least c =
    let counting : is_counting c.args.digits.now ≡ true = cc in
    let one : 1 ≤ c.in_ok-number.number = rw (number_is c.args.digits.now c.parse.result c.in_ok-number.number counting c.parse.ensures.value.0 (sym c.ok.ensures.value ∙ c.in_ok-number.was)) (counts c.args.digits.now counting) in
    le-leb 1 c.in_ok-number.number one
