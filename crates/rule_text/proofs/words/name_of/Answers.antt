-- A name in letters of either case is ASCII, and in small letters it is a name.
use Rattle.std.proofs.Common.{◌≡◌, true, false, ◌∙◌, ap, Err}
use Rattle.payload_records.specs.Name.{is_name}
use Rattle.rule_text.proofs.Letters.{name_is_utf8, lowered_is_name}
use Rattle.rule_text.proofs.words.name_of.Goals as goal

pub lowered-requires : goal.lowered-requires
lowered-requires c = name_is_utf8 c.args.text.now c.requires

pub unreachable-requires : goal.unreachable-requires
unreachable-requires c =
    let bad : is_name c.as_str.result.now ≡ false = c.read.ensures.bad (c.in-Err-Bad.is ∙ ap (λ e. Err e) c.in-Err-Bad.field-0-is) in
    let good : is_name c.as_str.result.now ≡ true = ap is_name (c.as_str.ensures.value ∙ c.in_ok-lowered.ensures) ∙ lowered_is_name c.args.text.now c.requires in
    cc
