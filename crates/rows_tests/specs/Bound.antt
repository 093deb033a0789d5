-- How many rows are looked at in the example of three messages, of which the last one waits.
use Rattle.std.specs.Prelude.{◌≡◌, [], ◌∷◌, false, None}
use Rattle.aq_base.specs.declared.DbId.TheVariants.{Home}
use Rattle.queue_rows.specs.Dequeueing.{Look, chosen, found}
use Rattle.queue_rows.specs.Session.{fresh_at}
use Rattle.queue_rows.specs.declared.statement.Mode.TheVariants as modes
use Rattle.choice_laws.specs.Examples.{example_first, example_look, example_second}
use Rattle.message_choice.specs.Wanted.{most_steps}

-- the same, where the message is taken, and another session holds the slot of the second one
abbrev pub held_look : Look
held_look = record (example_look []) {
  sessions = fresh_at Home ∷ record (fresh_at Home) { marks = record { id = 2; slot = 1; removed = false; group = None } ∷ [] } ∷ [];
  ask = record (example_look []).ask { mode = modes.Remove };
}

-- two searches look at one row each, where both ready messages may be given; and at two each, where the nearest is held
pub record StepsInExample : Type 0 where
  pub free : most_steps (example_look []) ≡ 2
  pub nearest : chosen (example_look []) ≡ found example_second.message
  pub held : most_steps held_look ≡ 4
  pub next : chosen held_look ≡ found example_first.message
