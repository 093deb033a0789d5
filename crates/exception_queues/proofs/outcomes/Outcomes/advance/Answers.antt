use Rattle.std.proofs.Common.{sym, ◌∙◌}
use Rattle.std.specs.Prelude.{nat_eq}
use Rattle.std.specs.HashMap.{get}
use Rattle.exception_queues.proofs.Keeping.{advances_in_list, advances_in_map}
use Rattle.exception_queues.proofs.outcomes.Outcomes.advance.Goals as goal

pub returns-in-Some-clause-outcomes : goal.returns-in-Some-clause-outcomes
returns-in-Some-clause-outcomes c =
    advances_in_list c.advance_at.result c.args.change.now c.args.self.now.few c.advance_at.new.few (λ id. get nat_eq c.args.self.now.many id) c.args.id c.in-Some.at
    (sym c.place_of.ensures ∙ c.in-Some.is) c.advance_at.ensures

pub returns-in-None-clause-outcomes : goal.returns-in-None-clause-outcomes
returns-in-None-clause-outcomes c =
    advances_in_map c.advance_in.result c.args.change.now c.args.self.now.few (λ id. get nat_eq c.args.self.now.many id) (λ id. get nat_eq c.advance_in.new.many id) c.args.id
    (sym c.place_of.ensures ∙ c.in-None.is) c.advance_in.ensures
