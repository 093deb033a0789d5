-- What is said of the disks of databases, as they were before a call and after it: what they are recovered to, and whether a call on one failed.
use Rattle.std.specs.Prelude.{◌≡◌, ◌⊎◌, ℕ, List, Option, Ok, Err}
use Rattle.std.specs.Option.{ForSome}
use Rattle.aq_base.specs.declared.DbId.{DbId}
use Rattle.aq_base.specs.declared.DbId.TheVariants.{Home, Away}
use Rattle.aq_disk.specs.Causes.{Rose}
use Rattle.redo_journal.specs.Runs.{CrashLeaves}
use Rattle.redo_records.specs.Recovered.{recovered}
use Rattle.queue_rows.specs.declared.tables.Tables.{Tables}
use Rattle.commit_log.specs.Logged.{RecoversSame}

-- ---- what a disk is recovered to

-- where the disk tells bytes, they are recovered to these tables
abbrev pub RecoversTo : {D : Type 0} → (D → Option (List ℕ)) → D → Tables → Type 0
RecoversTo seen disk t = ForSome (seen disk) (λ bytes. recovered bytes ≡ Ok t)

-- to some tables
abbrev pub IsRecovered : {D : Type 0} → (D → Option (List ℕ)) → D → Type 0
IsRecovered seen disk = ForSome (seen disk) (λ bytes. (t : Tables) × (recovered bytes ≡ Ok t))

-- they are damaged at this offset
abbrev pub IsDamagedAt : {D : Type 0} → (D → Option (List ℕ)) → D → ℕ → Type 0
IsDamagedAt seen disk offset = ForSome (seen disk) (λ bytes. recovered bytes ≡ Err offset)

-- home is damaged at this offset; or home is recovered, and away is damaged there
abbrev pub IsFirstDamaged : {D : Type 0} → (D → Option (List ℕ)) → D → D → DbId → ℕ → Type 0
IsFirstDamaged seen home away Home offset = IsDamagedAt seen home offset
IsFirstDamaged seen home away Away offset = IsRecovered seen home × IsDamagedAt seen away offset

-- of a settled disk, a crash at any moment leaves what is recovered as it was: tables, or a damage
abbrev pub KeepsRecovered : {D : Type 0} → (D → Option (List ℕ)) → (D → ℕ → List ℕ → Type 0) → (D → ℕ) → D → D → Type 0
KeepsRecovered seen images calls old new = CrashLeaves seen images calls old new RecoversSame

-- ---- faults

-- a call on one of the disks failed
abbrev pub FailsEither : {D : Type 0} → (D → ℕ) → D → D → D → D → Type 0
FailsEither faults home away home_after away_after = Rose (faults home) (faults home_after) ⊎ Rose (faults away) (faults away_after)

-- no call on either did
abbrev pub FailsNeither : {D : Type 0} → (D → ℕ) → D → D → D → D → Type 0
FailsNeither faults home away home_after away_after = (faults home_after ≡ faults home) × (faults away_after ≡ faults away)
