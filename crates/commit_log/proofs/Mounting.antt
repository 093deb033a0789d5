-- What a mount finds, and what a crash leaves of it.
use Rattle.std.proofs.Common.{◌≡◌, ℕ, List, [], Some, None, refl, sym, ap, ◌∙◌, subst, arith}
use Rattle.std.specs.Prelude.{Option, Result, Ok, IsSome, option_map}
use Rattle.std.specs.Option.{ForSome}
use Rattle.aq_disk.specs.Disk.{EachImage, KeepsEarlier}
use Rattle.redo_journal.specs.Crash.{contents_in}
use Rattle.redo_journal.specs.Journal.{Mounted, bodies_in, journal, written_version}
use Rattle.redo_journal.specs.Journaled.{Journaled, Rests}
use Rattle.redo_journal.specs.Mount.{mounted_as}
use Rattle.redo_journal.specs.Runs.{CrashLeaves, HasJournal, IsDiskSettled, MountRuns}
use Rattle.redo_journal.specs.declared.frame.FrameAt.{FrameAt}
use Rattle.redo_journal.proofs.Grow.{contents_same}
use Rattle.redo_journal.proofs.Moments.{each_both, each_more, settled_told, some_told}
use Rattle.redo_records.specs.Recovered.{after_bodies, after_frames, recovered}
use Rattle.queue_rows.specs.Tables.{empty_tables}
use Rattle.queue_rows.specs.declared.tables.Tables.{Tables}
use Rattle.history_laws.specs.Made.{after_commits}
use Rattle.crash_laws.specs.Crash.{Recovers}
use Rattle.database_recovery.specs.Recovering.{ContentsRecover, FramesLead, JournalRecovers, MountRecovers}
use Rattle.commit_log.specs.Logged.{Logs, RecoversSame}
use Rattle.commit_log.specs.Mounting.{HoldsTables}

pub same_ok : {T E : Type 0} (answer : Result T E) (x y : T) → answer ≡ Ok x → answer ≡ Ok y → x ≡ y
same_ok answer x y d e = cc

pub is_told : (told : Option (List ℕ)) (bytes : List ℕ) → told ≡ Some bytes → IsSome told
is_told told bytes is = rw is refl

-- what the bytes are recovered to
pub recovers : JournalRecovers → (bytes : List ℕ) (version : ℕ) (m : Mounted) (t : Result Tables ℕ) → journal bytes ≡ Ok m → m.version ≡ version → after_frames version m.frames ≡ t → recovered bytes ≡ t
recovers law bytes version m t reads is led = law bytes m reads ∙ ap (λ (v : ℕ). after_frames v m.frames) is ∙ led

module _ {D : Type 0} (seen : D → Option (List ℕ)) (images : D → ℕ → List ℕ → Type 0) (calls : D → ℕ) where
  pub mount_keeps : MountRecovers → (old new : D) → MountRuns seen images calls old new → CrashLeaves seen images calls old new RecoversSame
  mount_keeps law old new runs settled bytes told call above below image left =
      let leaves = runs settled bytes told in
      law bytes image (λ is. leaves.begun is call above below image left) (λ is. leaves.unbegun is call above below image left)

  pub holds : FramesLead → (j : Journaled D) (frames : List FrameAt) (version : ℕ) (t : Tables) → Rests seen images calls j (mounted_as j frames) → j.version ≡ version
      → after_frames version frames ≡ Ok t → HoldsTables seen images calls t j
  holds law j frames version t rests is led = record {
    m = mounted_as j frames;
    rests = rests;
    leads = law j.version t frames (ap (λ (v : ℕ). after_frames v frames) is ∙ led);
  }

  -- of a journal that is in the written version
  pub holds_logs : (t : Tables) (j : Journaled D) → HoldsTables seen images calls t j → IsSome (seen j.disk) → j.version ≡ written_version → j.queued ≡ [] → Logs seen images calls t [] 0 j
  unfolding after_commits
  holds_logs t j h told is none =
      let version : h.m.version ≡ written_version = sym h.rests.version ∙ is in
      record {
        m = h.m;
        told = told;
        rests = h.rests;
        version = version;
        within = omega arith;
        frames = λ l. ap (λ (v : ℕ). after_bodies v empty_tables (bodies_in h.m.frames)) (sym version) ∙ h.leads;
        queued = λ l. ap (λ (q : List (List ℕ)). after_bodies written_version t q) none;
      }

  -- ---- written anew

  -- what a compaction leaves of a journal that holds the tables
  pub compact_recovers : (t : Tables) (j : Journaled D) (new : D) → IsSome (seen j.disk) → HoldsTables seen images calls t j
      → ForSome (seen j.disk) (λ _. (m : Mounted) → Rests seen images calls j m → after_bodies m.version empty_tables (bodies_in m.frames) ≡ Some t
      → EachImage (calls j.disk) (calls new) (images new) (Recovers t)) → EachImage (calls j.disk) (calls new) (images new) (Recovers t)
  compact_recovers t j new is held leaves = let told = some_told (seen j.disk) is in leaves told.0 told.1 held.m held.rests held.leads

  -- what recovers the tables recovers what the bytes do
  pub recovers_same : (from mid to : ℕ) (old new : ℕ → List ℕ → Type 0) (t : Tables) (bytes : List ℕ) → recovered bytes ≡ Ok t → EachImage from mid old (RecoversSame bytes) → KeepsEarlier mid old new
      → EachImage mid to new (Recovers t) → EachImage from to new (RecoversSame bytes)
  recovers_same from mid to old new t bytes is first earlier second =
      each_both from mid to old new (RecoversSame bytes) first earlier (each_more mid to new (Recovers t) (RecoversSame bytes) (λ image r. r ∙ sym is) second)
