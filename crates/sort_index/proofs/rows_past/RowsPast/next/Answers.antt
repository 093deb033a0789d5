use Rattle.std.proofs.Common.{Bor, [], Option, option_copied, ap, ◌∙◌, sym}
use Rattle.std.specs.Option.{unwrap_or}
use Rattle.sort_index.specs.declared.group.Ready.{Ready}
use Rattle.sort_index.proofs.Past.{none_left, first_left}
use Rattle.sort_index.proofs.rows_past.RowsPast.next.Goals as goal

pub returns-in-None-clause-none : goal.returns-in-None-clause-none
returns-in-None-clause-none g c =
    let none = sym c.row_at.ensures.row ∙ ap (λ (o : Option (Bor Ready)). option_copied o) c.in-None.is in
    let all = none_left (unwrap_or (option_copied c.self.inside.rows) []) c.self.inside.at none in
    (sym c.self.view_is ∙ all, sym c.self.view_is ∙ all)

pub returns-in-Some-clause-some : goal.returns-in-Some-clause-some
returns-in-Some-clause-some g c =
    let some = sym c.row_at.ensures.row ∙ ap (λ (o : Option (Bor Ready)). option_copied o) c.in-Some.is in
    sym c.self.view_is ∙ first_left (unwrap_or (option_copied c.self.inside.rows) []) c.self.inside.at c.in-Some.row.now some
