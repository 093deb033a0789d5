-- What an administrative statement means.
use Rattle.std.specs.Prelude.{◌≡◌, ℕ, List, Option}
use Rattle.std.specs.List.{AllZip}
use Rattle.aq_base.specs.declared.DbId.{DbId}
use Rattle.slot_marks.specs.Marks.{SessionMarks}
use Rattle.queue_rows.specs.Session.{Session}
use Rattle.queue_rows.specs.Administration.{administer}
use Rattle.queue_rows.specs.declared.tables.Tables.{Tables}
use Rattle.queue_rows.specs.declared.history.SlotRef.{SlotRef}
use Rattle.queue_rows.specs.declared.statement.Admin.{Admin}
use Rattle.queue_rows.specs.Meaning.{Meaning}
use Rattle.sessions.specs.Effects.{meant, plain_effect, IsAnswered, ids_of}
use Rattle.queue_rows.specs.Session.{AreMarks}
use Rattle.sessions.specs.States.{IsStateOf}
use Rattle.sessions.specs.declared.state.SessionState.{SessionState}
use Rattle.sessions.specs.declared.state.Effect.{Effect}

-- the effect has that meaning, whatever queue and consumer its session asked for, and at any moment
abbrev pub HasMeaning : (Session → Meaning) → Effect → Type 0
HasMeaning meaning e = (s : Session) (queue : List ℕ) (consumer : Option (List ℕ)) (moment : ℕ) → meaning s ≡ meant e queue consumer moment s

-- it is answered and may commit, and does nothing besides: it takes no id, and leaves marks, what is pending and positions
pub record IsPlain (e : Effect) : Type 0 where
  pub answered : IsAnswered e.verdict
  pub no_id : ids_of e.verdict ≡ 0
  pub alone : e ≡ plain_effect e.verdict e.commit

-- the effect is what the statement means for each session of the database, whatever queue and consumer it asked for, where
-- these are the states of all sessions and the locks keep the marks of those of the database
abbrev pub MeansToAdminister : Tables → DbId → List SessionMarks → List SessionState → Option SlotRef → Admin → ℕ → Effect → Type 0
MeansToAdminister t db locks states sent ask moment e =
    (sessions : List Session) → AllZip IsStateOf states sessions → AreMarks db sessions locks
    → (s : Session) → s.at ≡ db → (queue : List ℕ) (consumer : Option (List ℕ))
    → administer t sessions sent s ask moment ≡ meant e queue consumer moment s
