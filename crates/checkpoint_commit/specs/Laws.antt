-- What the commit of a checkpoint leads to, and what its bytes are recovered to.
use Rattle.std.specs.Prelude.{◌≡◌, ℕ, List, [], ◌∷◌, true, Some, Ok}
use Rattle.redo_journal.specs.Crash.{StandsForEither, compacted, contents_in}
use Rattle.redo_journal.specs.Journal.{Mounted, bodies_in, written_version}
use Rattle.redo_records.specs.Recovered.{after_bodies, recovered}
use Rattle.redo_records.specs.Spelled.{HasSpelling}
use Rattle.redo_records.specs.Spelling.{encode}
use Rattle.queue_rows.specs.Fits.{fits}
use Rattle.queue_rows.specs.Tables.{after, empty_tables}
use Rattle.queue_rows.specs.Valid.{is_valid}
use Rattle.queue_rows.specs.declared.tables.Tables.{Tables}
use Rattle.database_recovery.specs.Sound.{HasSpelledRows, IsSound}
use Rattle.checkpoint_commit.specs.Checkpoint.{checkpoint_of}

-- the commit fits empty tables, and these are the tables after it
pub record LeadsTo (t : Tables) : Type 0 where
  pub fitting : fits empty_tables (checkpoint_of t) ≡ true
  pub after_is : after empty_tables (checkpoint_of t) ≡ t

-- the law: the checkpoint of valid tables leads to them
abbrev pub CheckpointLeads : Type 0
CheckpointLeads = (t : Tables) → is_valid t ≡ true → LeadsTo t

-- the law: the checkpoint of valid tables whose rows have a spelling has one
abbrev pub CheckpointIsSpelled : Type 0
CheckpointIsSpelled = (t : Tables) → is_valid t ≡ true → HasSpelledRows t → HasSpelling written_version (checkpoint_of t)

-- the law: the bytes of the checkpoint of sound tables, as the only body, lead to them
abbrev pub CheckpointRestores : Type 0
CheckpointRestores = (t : Tables) → IsSound t → after_bodies written_version empty_tables (encode (checkpoint_of t) ∷ []) ≡ Some t

-- the law: what a crash leaves of a journal that led to sound tables, as it is compacted into their checkpoint, is recovered to them
abbrev pub CompactionRecovers : Type 0
CompactionRecovers = (m : Mounted) (t : Tables) (image : List ℕ) → IsSound t → after_bodies m.version empty_tables (bodies_in m.frames) ≡ Some t
    → StandsForEither (contents_in m) (compacted (encode (checkpoint_of t))) image → recovered image ≡ Ok t
