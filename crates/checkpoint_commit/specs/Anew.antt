-- The bytes of a disk whose journal is written anew, with the one commit that leads to its tables.
use Rattle.std.specs.Prelude.{ℕ, ◌==◌, not, false, List, [], ◌∷◌, length, Bool, Result, Ok, Err, if◌then◌else◌}
use Rattle.std.specs.Option.{option_map_or}
use Rattle.checkpoint.specs.Compaction.{turned_bytes}
use Rattle.redo_journal.specs.Begun.{after_mount}
use Rattle.redo_journal.specs.Journal.{Mounted, area, frames_of, journal, version_of, written_version}
use Rattle.redo_journal.specs.declared.frame.Active.{Active}
use Rattle.redo_records.specs.Recovered.{recovered}
use Rattle.redo_records.specs.Spelling.{encode}
use Rattle.queue_rows.specs.declared.tables.Tables.{Tables}
use Rattle.checkpoint_commit.specs.Checkpoint.{checkpoint_of}

-- beside its active area the bytes get one whose only commit leads to these tables, and that one is active then
abbrev pub with_checkpoint : Active → Tables → List ℕ → List ℕ
with_checkpoint active t bytes = turned_bytes active (area (encode (checkpoint_of t) ∷ [])) bytes

-- what is no journal, or is damaged, stays
abbrev pub written_by : Result Mounted ℕ → Result Tables ℕ → List ℕ → List ℕ
written_by (Ok m) (Ok t) bytes = with_checkpoint m.active t bytes
written_by (Ok m) (Err at) bytes = bytes
written_by (Err at) led bytes = bytes

-- the journal is written anew
unfoldable pub written_anew : List ℕ → List ℕ
written_anew bytes = written_by (journal bytes) (recovered bytes) bytes

-- the journal is of another version than the one that is written, in which a journal is begun
abbrev pub is_of_old_version : List ℕ → Bool
is_of_old_version bytes = option_map_or (λ version. not (version == written_version)) (version_of bytes) false

-- what a disk reads as once its database is mounted: begun where it was not yet, and written anew where its version is an older one
unfoldable pub mounted_bytes : List ℕ → List ℕ
mounted_bytes bytes = if is_of_old_version bytes then written_anew bytes else after_mount bytes

-- how many frames its journal then has
abbrev pub frames_mounted : List ℕ → ℕ
frames_mounted bytes = length (frames_of (mounted_bytes bytes))

-- what a disk reads as once its journal is compacted
abbrev pub compacted_bytes : List ℕ → List ℕ
compacted_bytes bytes = written_anew (mounted_bytes bytes)
