use Rattle.std.proofs.Common.{sym, ◌∙◌}
use Rattle.std.specs.Prelude.{option_copied}
use Rattle.message_choice.specs.Asking.{look_of}
use Rattle.message_choice.specs.Wanted.{is_behind, passes}
use Rattle.message_choice.proofs.Nearing.{kept_both}
use Rattle.message_choice.proofs.walk.hit_behind.Goals as goal

pub returns-then-is_behind-clause-message : goal.returns-then-is_behind-clause-message
returns-then-is_behind-clause-message c =
    let m = c.args.message.now in
    c.hit_of.ensures.message
    ∙ kept_both (passes (look_of c.args.asking.now) c.args.filter m) (is_behind (option_copied c.args.after) m) m (sym c.is_behind.ensures ∙ c.if-is_behind.true)
