-- How what a disk is recovered to follows from its frames.
use Rattle.std.specs.Prelude.{◌≡◌, ◌⊎◌, ℕ, List, [], ◌∷◌, ◌++◌, Bool, true, false, Option, Some, None, Result, Ok, Err, fold}
use Rattle.std.specs.Option.{option_map_or}
use Rattle.redo_journal.specs.Broken.{IsDamaged}
use Rattle.redo_journal.specs.Crash.{Contents, StandsFor, StandsForEither, StandsForNone, contents_in, with_bodies}
use Rattle.redo_journal.specs.Journal.{Mounted, bodies_in, is_unbegun, journal, written_version}
use Rattle.redo_journal.specs.declared.frame.Damage.{Damage}
use Rattle.redo_journal.specs.declared.frame.FrameAt.{FrameAt}
use Rattle.redo_records.specs.Spelled.{HasSpelling}
use Rattle.redo_records.specs.Spelling.{encode}
use Rattle.redo_records.specs.Recovered.{after_bodies, after_frame, after_frames, recovered, up_to_end}
use Rattle.queue_rows.specs.Fits.{fits}
use Rattle.queue_rows.specs.Tables.{after, empty_tables}
use Rattle.queue_rows.specs.declared.change.Commit.{Commit}
use Rattle.queue_rows.specs.declared.tables.Tables.{Tables}
use Rattle.database_recovery.specs.declared.fault.RecoveryFault.{RecoveryFault}
use Rattle.database_recovery.specs.declared.fault.RecoveryFault.TheVariants.{Damaged, Memory}

-- what was to be made was made and led to these tables, or it leads to none
abbrev pub Makes : Option Tables → Bool → Tables → Type 0
Makes led true new = led ≡ Some new
Makes led false new = led ≡ None

-- the frames that come behind some that led to these tables
abbrev pub frames_from : ℕ → Tables → List FrameAt → Result Tables ℕ
frames_from version t frames = fold (after_frame version) (Ok t) frames

-- damage is told where it is; want of memory says nothing
abbrev pub IsFaultOf : Result Tables ℕ → RecoveryFault → Type 0
IsFaultOf led (Damaged at) = led ≡ Err at
IsFaultOf led Memory = Unit {0}

-- what a damaged disk is recovered to: the frames in front of the damage are judged first, where there is an area
abbrev pub up_to_damage : Damage → Result Tables ℕ
up_to_damage d = option_map_or (λ version. up_to_end (after_frames version d.frames) (Err d.offset)) d.version (Err d.offset)

-- the law: a journal is recovered to what its frames lead to
abbrev pub JournalRecovers : Type 0
JournalRecovers = (bytes : List ℕ) (m : Mounted) → journal bytes ≡ Ok m → recovered bytes ≡ after_frames m.version m.frames

-- the law: what is damaged is recovered to nothing, and the damage that stands first is told
abbrev pub DamageRecovers : Type 0
DamageRecovers = (bytes : List ℕ) (d : Damage) → IsDamaged d bytes → recovered bytes ≡ up_to_damage d

-- the law: whatever stands for a version and bodies, as what a crash leaves, is recovered to what these lead to
abbrev pub ContentsRecover : Type 0
ContentsRecover = (c : Contents) (t : Tables) (image : List ℕ) → StandsFor c image → after_bodies c.version empty_tables c.bodies ≡ Some t
    → recovered image ≡ Ok t

-- the law: mounting loses nothing: what it leaves of a disk, be it begun or not, is recovered to what the disk was recovered to
abbrev pub MountRecovers : Type 0
MountRecovers = (bytes image : List ℕ) → (is_unbegun bytes ≡ false → image ≡ bytes) → (is_unbegun bytes ≡ true → StandsForNone image)
    → recovered image ≡ recovered bytes

-- the law: where frames lead to tables, so do their bodies, as one list
abbrev pub FramesLead : Type 0
FramesLead = (version : ℕ) (t : Tables) (frames : List FrameAt) → after_frames version frames ≡ Ok t
    → after_bodies version empty_tables (bodies_in frames) ≡ Some t

-- the law: bodies that lead from tables to others, and bodies that lead on from there, lead all the way
abbrev pub BodiesJoin : Type 0
BodiesJoin = (version : ℕ) (t u w : Tables) (front behind : List (List ℕ)) → after_bodies version t front ≡ Some u
    → after_bodies version u behind ≡ Some w → after_bodies version t (front ++ behind) ≡ Some w

-- the law: a commit that fits leads on, by its bytes as they are written
abbrev pub CommitLeadsOn : Type 0
CommitLeadsOn = (t u : Tables) (bodies : List (List ℕ)) (commit : Commit) → after_bodies written_version t bodies ≡ Some u
    → HasSpelling written_version commit → fits u commit ≡ true
    → after_bodies written_version t (bodies ++ encode commit ∷ []) ≡ Some (after u commit)

-- the law: what a crash leaves of an append is recovered to the tables in front of the frame, or to those behind it
abbrev pub AppendRecovers : Type 0
AppendRecovers = (m : Mounted) (queued : List (List ℕ)) (t u : Tables) (image : List ℕ)
    → StandsForEither (contents_in m) (with_bodies queued (contents_in m)) image
    → after_bodies m.version empty_tables (bodies_in m.frames) ≡ Some t → after_bodies m.version t queued ≡ Some u
    → (recovered image ≡ Ok t) ⊎ (recovered image ≡ Ok u)
