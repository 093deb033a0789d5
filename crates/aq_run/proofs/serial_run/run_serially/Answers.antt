use Rattle.std.proofs.Common.{inl, inr, refl, rules, arith}
use Rattle.aq_run.proofs.Completing.{input_read}
use Rattle.aq_run.proofs.serial_run.run_serially.Goals as goal

pub returns-in-Ok-clause-answers : goal.returns-in-Ok-clause-answers
returns-in-Ok-clause-answers g c =
    inr (c.in-Ok.bytes.items, input_read g.I.Source c.args.input.now c.read_input.new.input c.in-Ok.bytes.items c.in-Ok.ensures.bytes c.in-Ok.ensures.script, c.run_bytes.ensures.answers)

pub returns-in-Err-Failed-clause-answers : goal.returns-in-Err-Failed-clause-answers
returns-in-Err-Failed-clause-answers g c =
    let none = c.unbegun.ensures.none in
    inl (record {
      status = inl c.unbegun.ensures.status;
      cause = λ _. search rules;
      nothing = refl;
      none = record { history = none.history; home_is = none.home_is; away_is = none.away_is };
    })

pub returns-in-Err-Memory-clause-answers : goal.returns-in-Err-Memory-clause-answers
returns-in-Err-Memory-clause-answers g c =
    let none = c.unbegun-in-Err-Memory.ensures.none in
    let four = c.unbegun-in-Err-Memory.ensures.status in
    inl (record {
      status = inr four;
      cause = λ three. absurd (omega (arith, four, three));
      nothing = refl;
      none = record { history = none.history; home_is = none.home_is; away_is = none.away_is };
    })
