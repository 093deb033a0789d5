use Rattle.std.proofs.Common.{ℕ, List, subst}
use Rattle.aq_run.specs.Written.{Tells}
use Rattle.aq_run.proofs.top.no_command.Goals as goal

pub returns-clause-answers : goal.returns-clause-answers
returns-clause-answers g c =
    let none = c.unbegun.ensures.none in
    record {
      told = subst (λ (text : List ℕ). Tells g.O.Sink.taken g.O.Sink.faults c.args.out.now c.tell.new.out text) c.as_bytes.ensures.value c.tell.ensures;
      history = none.history;
      home_is = none.home_is;
      away_is = none.away_is;
    }
