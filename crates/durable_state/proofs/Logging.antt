-- A run goes on with an entry whose commit is queued.
use Rattle.std.proofs.Common.{◌≡◌, ◌⊎◌, inl, inr, ◌≤◌, ◌++◌, ℕ, Bool, true, false, not, if◌then◌else◌, List, [], ◌∷◌, length, Option, Some, None, IsSome, refl, sym, ap, ◌∙◌, subst, arith}
use Rattle.std.specs.Prelude.{◌==◌, Result, Ok, Err, OnOk}
use Rattle.std.specs.List.{cons_option}
use Rattle.std.proofs.lemmas.List.{append-nil}
use Rattle.aq_base.specs.declared.DbId.{DbId}
use Rattle.history_laws.specs.Made.{changes_at, commits_of}
use Rattle.history_laws.specs.Durability.{is_flush}
use Rattle.queue_rows.specs.declared.tables.Tables.{Tables}
use Rattle.queue_rows.specs.declared.change.Change.{Change}
use Rattle.queue_rows.specs.declared.change.Commit.{Commit}
use Rattle.queue_rows.specs.declared.history.Entry.{Entry}
use Rattle.redo_journal.specs.Journaled.{Journaled}
use Rattle.redo_records.specs.Spelling.{encode}
use Rattle.crash_laws.specs.Crash.{Run, SurvivesCrash, calls_in, with_entry}
use Rattle.crash_laws.specs.CrashLaws.{EntryComes}
use Rattle.crash_laws.proofs.Splitting.{commits-append, durable_same}
use Rattle.commit_log.specs.Logged.{AreLoggable, Logs}
use Rattle.commit_log.specs.LogLaws.{LoggableSoFar}
use Rattle.durable_state.specs.Queueing.{Queues, queueing, unqueueing}
use Rattle.durable_state.specs.Survival.{AreFaults, LogsRun, Stands, SurvivesAt}
use Rattle.durable_state.proofs.Lists.{if_true, if_false, take_pushed, some_pushed}

-- ---- the commit of an entry

abbrev pub commit_of : ℕ → List Change → Commit
commit_of moment cs = record { moment = moment; changes = cs }

no_commit : (b : Bool) (c : Commit) → b ≡ true → (if b then None else Some c) ≡ None
no_commit true c h = refl
no_commit false c h = absurd (cc)

a_commit : (b : Bool) (c : Commit) → b ≡ false → (if b then None else Some c) ≡ Some c
a_commit true c h = absurd (cc)
a_commit false c h = refl

pub makes_none : (db : DbId) (e : Entry) (cs : List Change) → changes_at db e ≡ cs → (length cs == 0) ≡ true → commits_of db (e ∷ []) ≡ []
makes_none db e cs are none =
    ap (λ (o : Option Commit). cons_option o [])
    (no_commit (length (changes_at db e) == 0) (commit_of e.moment (changes_at db e)) (ap (λ (l : List Change). length l == 0) are ∙ none))

pub makes_one : (db : DbId) (e : Entry) (moment : ℕ) (cs : List Change) → changes_at db e ≡ cs → e.moment ≡ moment → (length cs == 0) ≡ false → commits_of db (e ∷ []) ≡ commit_of moment cs ∷ []
makes_one db e moment cs are at some =
    ap (λ (o : Option Commit). cons_option o [])
    (a_commit (length (changes_at db e) == 0) (commit_of e.moment (changes_at db e)) (ap (λ (l : List Change). length l == 0) are ∙ some))
    ∙ ap (λ (n : ℕ). commit_of n (changes_at db e) ∷ []) at
    ∙ ap (λ (l : List Change). commit_of moment l ∷ []) are

-- ---- one log

module _ {D : Type 0} (seen : D → Option (List ℕ)) (images : D → ℕ → List ℕ → Type 0) (calls : D → ℕ) (entry_comes : EntryComes images calls) (so_far : LoggableSoFar) (old new : Journaled D) (fresh : List Commit)
    (disk_is : new.disk ≡ old.disk) (failed_is : new.failed_at ≡ old.failed_at)
    (logs : (opening : Tables) (commits : List Commit) (k : ℕ) → Logs seen images calls opening commits k old → Logs seen images calls opening (commits ++ fresh) k new) where
  module _ (r : Run) (e : Entry) (quiet : is_flush e.step ≡ false) (at : calls_in r.db e ≡ calls old.disk) (makes : commits_of r.db (e ∷ []) ≡ fresh) where
    all : commits_of r.db (r.entries ++ e ∷ []) ≡ commits_of r.db r.entries ++ fresh
    all = commits-append r.db r.entries (e ∷ []) ∙ ap (λ (l : List Commit). commits_of r.db r.entries ++ l) makes

    logs_on : IsSome old.failed_at ⊎ LogsRun seen images calls r old → IsSome new.failed_at ⊎ LogsRun seen images calls (with_entry e r) new
    logs_on (inl failed) = inl (subst (λ (o : Option ℕ). IsSome o) (sym failed_is) failed)
    logs_on (inr l) = inr (record {
      k = l.k;
      logs = subst (λ (cs : List Commit). Logs seen images calls r.opening cs l.k new) (sym all) (logs r.opening (commits_of r.db r.entries) l.k l.logs);
      at_least = let same = durable_same r.db e r.entries quiet in omega (arith, same, l.at_least);
    })

    stands_on : Stands seen images calls r old → Stands seen images calls (with_entry e r) new
    stands_on s = record {
      survives = subst (λ (d : D). SurvivesCrash (with_entry e r) (calls d) (images d)) (sym disk_is) (entry_comes r e old.disk s.survives quiet at);
      logs = logs_on s.logs;
    }

    pub survives_on : (disk : D) → SurvivesAt seen images calls disk r old → SurvivesAt seen images calls disk (with_entry e r) new
    survives_on disk h settled bytes is loggable =
        stands_on (h settled bytes is (so_far r.opening (commits_of r.db r.entries) fresh (subst (AreLoggable r.opening) all loggable)))

module _ {D : Type 0} (seen : D → Option (List ℕ)) (images : D → ℕ → List ℕ → Type 0) (calls : D → ℕ) (entry_comes : EntryComes images calls) (so_far : LoggableSoFar) (moment : ℕ) (cs : List Change) (old new : Journaled D) where
  -- nothing is committed
  pub queues_none : (length cs == 0) ≡ true → new ≡ old → Queues seen images calls moment cs old new
  queues_none none same = record {
    is = same ∙ sym (if_true (length cs == 0) old (record old { queued = old.queued ++ encode (commit_of moment cs) ∷ [] }) none);
    comes = λ disk r e q. survives_on seen images calls entry_comes so_far old new []
        (ap (λ (j : Journaled D). j.disk) same) (ap (λ (j : Journaled D). j.failed_at) same)
        (λ opening commits k l. subst (λ (them : List Commit). Logs seen images calls opening them k new) (sym (append-nil commits)) (subst (Logs seen images calls opening commits k) (sym same) l))
        r e q.quiet q.number_is (makes_none r.db e cs q.changes none) disk;
  }

  -- a commit is queued
  queues_one : (length cs == 0) ≡ false → new ≡ record old { queued = old.queued ++ encode (commit_of moment cs) ∷ [] }
      → ((opening : Tables) (commits : List Commit) (k : ℕ) → Logs seen images calls opening commits k old → Logs seen images calls opening (commits ++ commit_of moment cs ∷ []) k new)
      → Queues seen images calls moment cs old new
  queues_one some is logs = record {
    is = is ∙ sym (if_false (length cs == 0) old (record old { queued = old.queued ++ encode (commit_of moment cs) ∷ [] }) some);
    comes = λ disk r e q. survives_on seen images calls entry_comes so_far old new (commit_of moment cs ∷ [])
        (ap (λ (j : Journaled D). j.disk) is) (ap (λ (j : Journaled D). j.failed_at) is) logs
        r e q.quiet q.number_is (makes_one r.db e moment cs q.changes q.moment_is some) disk;
  }

  pub queues_if_ok : {T E : Type 0} (r : Result T E) → (length cs == 0) ≡ false → OnOk r (new ≡ record old { queued = old.queued ++ encode (commit_of moment cs) ∷ [] })
      → OnOk r ((opening : Tables) (commits : List Commit) (k : ℕ) → Logs seen images calls opening commits k old → Logs seen images calls opening (commits ++ commit_of moment cs ∷ []) k new)
      → OnOk r (Queues seen images calls moment cs old new)
  queues_if_ok (Ok x) some is logs = queues_one some is logs
  queues_if_ok (Err e) some is logs = tt

-- ---- what was queued is taken back

taken_if : {D : Type 0} (b : Bool) (bytes : List ℕ) (j : Journaled D) → unqueueing (not b) (if b then j else record j { queued = j.queued ++ bytes ∷ [] }) ≡ j
taken_if true bytes j = refl
taken_if false bytes j = ap (λ (q : List (List ℕ)). record j { queued = q }) (take_pushed j.queued bytes)

pub unqueued : {D : Type 0} (moment : ℕ) (cs : List Change) (j : Journaled D) → unqueueing (not (length cs == 0)) (queueing moment cs j) ≡ j
unqueued moment cs j = taken_if (length cs == 0) (encode (commit_of moment cs)) j

some_if : {D : Type 0} (b : Bool) (bytes : List ℕ) (j : Journaled D) → not b ≡ true → 1 ≤ length (if b then j else record j { queued = j.queued ++ bytes ∷ [] }).queued
some_if true bytes j h = absurd (cc)
some_if false bytes j h = some_pushed j.queued bytes

pub has_queued : {D : Type 0} (moment : ℕ) (cs : List Change) (j : Journaled D) → not (length cs == 0) ≡ true → 1 ≤ length (queueing moment cs j).queued
has_queued moment cs j h = some_if (length cs == 0) (encode (commit_of moment cs)) j h

-- ---- what stays

faults_if : {D : Type 0} (faults : D → ℕ) (disk : D) (b : Bool) (q : List (List ℕ)) (j : Journaled D) → AreFaults faults disk j → AreFaults faults disk (if b then j else record j { queued = q })
faults_if faults disk true q j f = f
faults_if faults disk false q j f = record { fine = f.fine; rose = f.rose }

pub faults_queued : {D : Type 0} (faults : D → ℕ) (disk : D) (moment : ℕ) (cs : List Change) (old new : Journaled D) → new ≡ queueing moment cs old → AreFaults faults disk old → AreFaults faults disk new
faults_queued faults disk moment cs old new is f =
    subst (AreFaults faults disk) (sym is) (faults_if faults disk (length cs == 0) (old.queued ++ encode (commit_of moment cs) ∷ []) old f)

disk_if : {D : Type 0} (b : Bool) (q : List (List ℕ)) (j : Journaled D) → (if b then j else record j { queued = q }).disk ≡ j.disk
disk_if true q j = refl
disk_if false q j = refl

pub disk_queued : {D : Type 0} (moment : ℕ) (cs : List Change) (old new : Journaled D) → new ≡ queueing moment cs old → new.disk ≡ old.disk
disk_queued moment cs old new is =
    ap (λ (j : Journaled _). j.disk) is ∙ disk_if (length cs == 0) (old.queued ++ encode (commit_of moment cs) ∷ []) old

failed_if : {D : Type 0} (b : Bool) (q : List (List ℕ)) (j : Journaled D) → (if b then j else record j { queued = q }).failed_at ≡ j.failed_at
failed_if true q j = refl
failed_if false q j = refl

pub failed_queued : {D : Type 0} (moment : ℕ) (cs : List Change) (old new : Journaled D) → new ≡ queueing moment cs old → new.failed_at ≡ old.failed_at
failed_queued moment cs old new is =
    ap (λ (j : Journaled _). j.failed_at) is ∙ failed_if (length cs == 0) (old.queued ++ encode (commit_of moment cs) ∷ []) old
