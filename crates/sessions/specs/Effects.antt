-- What the effect of a statement is for its session.
use Rattle.std.specs.Prelude.{◌++◌, ℕ, List, [], ◌∷◌, not, filter, Option, Some, None}
use Rattle.slot_marks.specs.declared.mark.Mark.{Mark}
use Rattle.slot_marks.specs.Marks.{taken}
use Rattle.queue_rows.specs.Session.{Session, is_position, positioned, without_mark}
use Rattle.queue_rows.specs.Meaning.{Meaning, answers, parks, first_look}
use Rattle.queue_rows.specs.Turns.{ids_taken}
use Rattle.queue_rows.specs.declared.change.Change.{Change}
use Rattle.queue_rows.specs.declared.session.Pending.{Pending}
use Rattle.queue_rows.specs.declared.session.Position.{Position}
use Rattle.sessions.specs.declared.state.Effect.{Effect}
use Rattle.sessions.specs.declared.state.Verdict.{Verdict}
use Rattle.sessions.specs.declared.state.Verdict.TheVariants as verdicts
use Rattle.sessions.specs.declared.state.PositionMove.{PositionMove}
use Rattle.sessions.specs.declared.state.PositionMove.TheVariants as moves

-- a statement that comes to this, and of which this is committed at once, with nothing besides
abbrev pub plain_effect : Verdict → List Change → Effect
plain_effect verdict commit = record {
  verdict = verdict;
  commit = commit;
  pend = None;
  mark = None;
  unmark = None;
  position = moves.Keep;
}

-- where a session stands that a statement moves, which asked for that queue and consumer
abbrev pub positions_after : PositionMove → List ℕ → Option (List ℕ) → List Position → List Position
positions_after moves.Keep queue consumer positions = positions
positions_after moves.Forget queue consumer positions = filter (λ p. not (is_position queue consumer p)) positions
positions_after (moves.Set p) queue consumer positions = positioned p positions

abbrev pub pending_with : Option Pending → List Pending → List Pending
pending_with None pending = pending
pending_with (Some p) pending = pending ++ p ∷ []

abbrev pub marks_with : Option Mark → List Mark → List Mark
marks_with None marks = marks
marks_with (Some mark) marks = taken marks mark

abbrev pub marks_without : Option Mark → List Mark → List Mark
marks_without None marks = marks
marks_without (Some mark) marks = without_mark mark.id mark.slot marks

-- the session with the effect, and waiting no more
abbrev pub affected : Effect → List ℕ → Option (List ℕ) → Session → Session
affected e queue consumer s = record s {
  pending = pending_with e.pend s.pending;
  marks = marks_without e.unmark (marks_with e.mark s.marks);
  positions = positions_after e.position queue consumer s.positions;
  parked = None;
}

abbrev pub meant_by : Verdict → Effect → List ℕ → Option (List ℕ) → ℕ → Session → Meaning
meant_by (verdicts.Answer reply) e queue consumer moment s = answers reply e.commit (affected e queue consumer s)
meant_by verdicts.Park e queue consumer moment s = parks (first_look s moment)

-- the meaning that the effect of a statement says for its session
abbrev pub meant : Effect → List ℕ → Option (List ℕ) → ℕ → Session → Meaning
meant e queue consumer moment s = meant_by e.verdict e queue consumer moment s

-- it is answered, and does not wait
abbrev pub IsAnswered : Verdict → Type 0
IsAnswered (verdicts.Answer reply) = Unit {0}
IsAnswered verdicts.Park = ⊥

-- how many ids the verdict takes
abbrev pub ids_of : Verdict → ℕ
ids_of (verdicts.Answer reply) = ids_taken reply
ids_of verdicts.Park = 0
