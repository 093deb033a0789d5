-- What an answer tells of tables after a commit of some changes, whatever valid tables it was made on, where each change named what was
-- there as it came, and where it is known whether each was local then.
use Rattle.std.specs.Prelude.{◌≡◌, ℕ, List, Bool, true}
use Rattle.queue_rows.specs.Tables.{after}
use Rattle.queue_rows.specs.Valid.{is_valid}
use Rattle.queue_rows.specs.Fits.{all_name_what_is_there, fits}
use Rattle.fit_laws.specs.FitLaws.{are_local}
use Rattle.queue_rows.specs.declared.tables.Tables.{Tables}
use Rattle.queue_rows.specs.declared.change.Change.{Change}

-- the tables are what valid ones become by a commit of the changes at that moment, each of which is local when it comes, where that is
-- said
pub record AreAfter (t : Tables) (cs : List Change) (local : Bool) (before : Tables) (moment : ℕ) : Type 0 where
  pub valid : is_valid before ≡ true
  pub named : all_name_what_is_there before cs ≡ true
  pub locality : local ≡ true → are_local before cs ≡ true
  pub made : t ≡ after before (record { moment = moment; changes = cs })

-- it tells whether they are valid
abbrev pub TellsValid : Tables → List Change → Bool → Bool → Type 0
TellsValid t cs local told = (before : Tables) (moment : ℕ) → AreAfter t cs local before moment → told ≡ is_valid t

-- and whether the commit fits the tables before
abbrev pub TellsFit : Tables → List Change → Bool → Bool → Type 0
TellsFit t cs local told =
    (before : Tables) (moment : ℕ) → AreAfter t cs local before moment → told ≡ fits before (record { moment = moment; changes = cs })
