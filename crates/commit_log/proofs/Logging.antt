-- What is logged, and what of it is on the disk, as commits are queued and written.
use Rattle.std.proofs.Common.{◌≡◌, ◌≤◌, ℕ, List, [], ◌∷◌, ◌++◌, length, take, Some, refl, sym, ap, ◌∙◌, subst, arith, length-append, append-nil}
use Rattle.std.specs.Prelude.{Option, Result, Ok, Err, OnOk, IsOk, IsSome, None}
use Rattle.std.specs.Option.{ForSome}
use Rattle.std.proofs.lemmas.Grind.{flat_map-append}
use Rattle.std.proofs.lemmas.List.{take-append-le, take_all}
use Rattle.aq_disk.specs.Disk.{EachImage}
use Rattle.aq_disk.proofs.Moments.{each_here}
use Rattle.redo_journal.specs.Journal.{Mounted, bodies_in, journal, written_version}
use Rattle.redo_journal.specs.Journaled.{Journaled, Rests}
use Rattle.redo_journal.specs.Crash.{AppendLeaves, StandsForEither, contents_in, with_bodies, with_frame}
use Rattle.redo_journal.specs.declared.frame.FrameAt.{FrameAt}
use Rattle.redo_journal.proofs.Grow.{contents_same}
use Rattle.redo_journal.proofs.Moments.{each_more, some_told}
use Rattle.redo_records.specs.Recovered.{after_bodies}
use Rattle.redo_records.specs.Spellable.{CanBeSpelled}
use Rattle.redo_records.specs.Spelled.{HasSpelling}
use Rattle.redo_records.specs.Spelling.{encode}
use Rattle.queue_rows.specs.Tables.{empty_tables}
use Rattle.queue_rows.specs.declared.tables.Tables.{Tables}
use Rattle.queue_rows.specs.declared.change.Commit.{Commit}
use Rattle.history_laws.specs.Made.{after_commits}
use Rattle.crash_laws.specs.Crash.{Recovers, RecoversEither}
use Rattle.database_recovery.specs.Recovering.{AppendRecovers, BodiesJoin, CommitLeadsOn, ContentsRecover}
use Rattle.commit_log.specs.Logged.{AreLoggable, Logs}
use Rattle.commit_log.specs.LogLaws.{LogRecovers}
use Rattle.commit_log.proofs.Loggable.{after_last, last_fits, last_spells, loggable_so_far}

-- all of the commits are the first so many of them
all_taken : (commits : List Commit) → take (length commits) commits ≡ commits
all_taken commits = take_all (length commits) commits (omega arith)

-- the bodies of frames with one more
bodies_more : (frames : List FrameAt) (f : FrameAt) → bodies_in (frames ++ f ∷ []) ≡ bodies_in frames ++ f.bodies
bodies_more frames f = flat_map-append (λ (x : FrameAt). x.bodies) frames (f ∷ []) ∙ ap (λ (l : List (List ℕ)). bodies_in frames ++ l) (append-nil f.bodies)

one_at_least : {A : Type 0} (xs ys : List A) (x : A) → xs ≡ x ∷ ys → 1 ≤ length xs
one_at_least xs ys x e = rw e (omega arith)

module _ {D : Type 0} (seen : D → Option (List ℕ)) (images : D → ℕ → List ℕ → Type 0) (calls : D → ℕ) where
  -- what the frames lead to, in the version of their journal
  leads : (opening : Tables) (commits : List Commit) (k : ℕ) (j : Journaled D) (logs : Logs seen images calls opening commits k j) → AreLoggable opening commits
      → after_bodies logs.m.version empty_tables (bodies_in logs.m.frames) ≡ Some (after_commits opening (take k commits))
  leads opening commits k j logs l = ap (λ (v : ℕ). after_bodies v empty_tables (bodies_in logs.m.frames)) logs.version ∙ logs.frames l

  leads_on : (opening : Tables) (commits : List Commit) (k : ℕ) (j : Journaled D) (logs : Logs seen images calls opening commits k j) → AreLoggable opening commits
      → after_bodies logs.m.version (after_commits opening (take k commits)) j.queued ≡ Some (after_commits opening commits)
  leads_on opening commits k j logs l = ap (λ (v : ℕ). after_bodies v (after_commits opening (take k commits)) j.queued) logs.version ∙ logs.queued l

  -- ---- what a crash leaves now

  pub log_recovers : ContentsRecover → LogRecovers seen images calls
  log_recovers recover opening commits k j logs l =
      let t = after_commits opening (take k commits) in
      let told = some_told (seen j.disk) logs.told in
      let at = logs.rests.disk told.0 told.1 in
      each_here (calls j.disk) (images j.disk) (Recovers t)
      (λ image left. recover (contents_in logs.m) t image (contents_same logs.m image (ap journal (at.settled image left) ∙ at.reads)) (leads opening commits k j logs l))

  -- ---- a commit is queued

  pub prepared : CommitLeadsOn → (commit : Commit) (body : List ℕ) (old new : Journaled D) → body ≡ encode commit → (CanBeSpelled commit → HasSpelling written_version commit)
      → new ≡ record old { queued = old.queued ++ body ∷ [] } → (opening : Tables) (commits : List Commit) (k : ℕ) → Logs seen images calls opening commits k old
      → Logs seen images calls opening (commits ++ commit ∷ []) k new
  prepared lead commit body old new is spells made opening commits k logs =
      let more = commits ++ commit ∷ [] in
      let t = after_commits opening (take k commits) in
      let r = logs.rests in
      let front : take k more ≡ take k commits = take-append-le k commits (commit ∷ []) logs.within in
      let so_far = λ (l : AreLoggable opening more). loggable_so_far opening commits (commit ∷ []) l in
      let queued : new.queued ≡ old.queued ++ encode commit ∷ [] = ap (λ (j : Journaled D). j.queued) made ∙ ap (λ (b : List ℕ). old.queued ++ b ∷ []) is in
      let queued_now : Logs seen images calls opening more k (record old { queued = old.queued ++ body ∷ [] }) = record {
        m = logs.m;
        told = logs.told;
        rests = record { fine = r.fine; version = r.version; active = r.active; count = r.count; disk = r.disk };
        version = logs.version;
        within = omega (arith, logs.within, length-append commits (commit ∷ []));
        frames = λ l. logs.frames (so_far l) ∙ ap (λ (cs : List Commit). Some (after_commits opening cs)) (sym front);
        queued = λ l.
            ap (λ (cs : List Commit). after_bodies written_version (after_commits opening cs) (old.queued ++ body ∷ [])) front
            ∙ ap (λ (b : List ℕ). after_bodies written_version t (old.queued ++ b ∷ [])) is
            ∙ lead t (after_commits opening commits) old.queued commit (logs.queued (so_far l)) (spells (last_spells opening commits commit l)) (last_fits opening commits commit l)
            ∙ ap Some (sym (after_last opening commits commit));
      } in
      subst (λ (j : Journaled D). Logs seen images calls opening more k j) (sym made) queued_now

  -- ---- the queued commits are written

  none_written : (opening : Tables) (commits : List Commit) (k : ℕ) (j : Journaled D) → j.queued ≡ [] → Logs seen images calls opening commits k j
      → Logs seen images calls opening commits (length commits) j
  none_written opening commits k j none logs =
      let t = after_commits opening (take k commits) in
      let taken = all_taken commits in
      let same = λ (l : AreLoggable opening commits). sym (ap (λ (q : List (List ℕ)). after_bodies written_version t q) none) ∙ logs.queued l in
      record {
        m = logs.m;
        told = logs.told;
        rests = logs.rests;
        version = logs.version;
        within = omega arith;
        frames = λ l. logs.frames l ∙ same l ∙ ap (λ (cs : List Commit). Some (after_commits opening cs)) (sym taken);
        queued = λ l.
            ap (λ (q : List (List ℕ)). after_bodies written_version (after_commits opening (take (length commits) commits)) q) none
            ∙ ap (λ (cs : List Commit). Some (after_commits opening cs)) taken;
      }

  some_written : BodiesJoin → (opening : Tables) (commits : List Commit) (k : ℕ) (old new : Journaled D) (logs : Logs seen images calls opening commits k old) → IsSome (seen new.disk)
      → new.queued ≡ [] → Rests seen images calls new (with_frame old.queued logs.m) → Logs seen images calls opening commits (length commits) new
  some_written join opening commits k old new logs told none rests =
      let t = after_commits opening (take k commits) in
      let all = after_commits opening commits in
      let taken = all_taken commits in
      record {
        m = with_frame old.queued logs.m;
        told = told;
        rests = rests;
        version = logs.version;
        within = omega arith;
        frames = λ l.
            ap (after_bodies written_version empty_tables) (bodies_more logs.m.frames (record { offset = logs.m.active.gate; bodies = old.queued }))
            ∙ join written_version empty_tables t all (bodies_in logs.m.frames) old.queued (logs.frames l) (logs.queued l)
            ∙ ap (λ (cs : List Commit). Some (after_commits opening cs)) (sym taken);
        queued = λ l.
            ap (λ (q : List (List ℕ)). after_bodies written_version (after_commits opening (take (length commits) commits)) q) none
            ∙ ap (λ (cs : List Commit). Some (after_commits opening cs)) taken;
      }

  -- what the journal says of a frame that was put behind the others
  abbrev pub RestsMore : Journaled D → Journaled D → Type 0
  RestsMore old new = ForSome (seen old.disk) (λ _. (m : Mounted) → 1 ≤ length old.queued → Rests seen images calls old m → Rests seen images calls new (with_frame old.queued m))

  by_queue : BodiesJoin → (opening : Tables) (commits : List Commit) (k : ℕ) (old new : Journaled D) (queue : List (List ℕ)) → old.queued ≡ queue → RestsMore old new
      → ForSome (seen old.disk) (λ _. IsSome (seen new.disk)) → new.queued ≡ [] → (old.queued ≡ [] → new ≡ old) → Logs seen images calls opening commits k old
      → Logs seen images calls opening commits (length commits) new
  by_queue join opening commits k old new [] is rests tells none same logs =
      subst (λ (j : Journaled D). Logs seen images calls opening commits (length commits) j) (sym (same is)) (none_written opening commits k old is logs)
  by_queue join opening commits k old new (b ∷ bs) is rests tells none same logs =
      let told = some_told (seen old.disk) logs.told in
      some_written join opening commits k old new logs (tells told.0 told.1) none (rests told.0 told.1 logs.m (one_at_least old.queued bs b is) logs.rests)

  pub written : {T E : Type 0} → BodiesJoin → (r : Result T E) (old new : Journaled D) → OnOk r (RestsMore old new) → OnOk r (ForSome (seen old.disk) (λ _. IsSome (seen new.disk)))
      → OnOk r (new.queued ≡ []) → (old.failed_at ≡ None → old.queued ≡ [] → IsOk r × (new ≡ old))
      → OnOk r ((opening : Tables) (commits : List Commit) (k : ℕ) → Logs seen images calls opening commits k old → Logs seen images calls opening commits (length commits) new)
  written join (Ok x) old new rests tells none nothing = λ opening commits k logs.
      by_queue join opening commits k old new old.queued refl rests tells none (λ e. (nothing logs.rests.fine e).1) logs
  written join (Err e) old new rests tells none nothing = tt

  -- ---- what a crash leaves of it

  pub append_leaves : AppendRecovers → (from to : ℕ) (left : ℕ → List ℕ → Type 0) (old : Journaled D)
      → ForSome (seen old.disk) (λ _. (m : Mounted) → Rests seen images calls old m → AppendLeaves m old.queued from to left)
      → (opening : Tables) (commits : List Commit) (k : ℕ) → Logs seen images calls opening commits k old → AreLoggable opening commits
      → EachImage from to left (RecoversEither (after_commits opening (take k commits)) (after_commits opening commits))
  append_leaves recover from to left old leaves opening commits k logs l =
      let t = after_commits opening (take k commits) in
      let all = after_commits opening commits in
      let told = some_told (seen old.disk) logs.told in
      each_more from to left (StandsForEither (contents_in logs.m) (with_bodies old.queued (contents_in logs.m))) (RecoversEither t all)
      (λ image stands. recover logs.m old.queued t all image stands (leads opening commits k old logs l) (leads_on opening commits k old logs l))
      (leaves told.0 told.1 logs.m logs.rests)

  -- behind what was written whole
  pub behind : {T E : Type 0} → LogRecovers seen images calls → (r : Result T E) (old new : Journaled D)
      → OnOk r ((opening : Tables) (commits : List Commit) (k : ℕ) → Logs seen images calls opening commits k old → Logs seen images calls opening commits (length commits) new)
      → OnOk r ((opening : Tables) (commits : List Commit) (k : ℕ) → Logs seen images calls opening commits k old → AreLoggable opening commits
      → EachImage (calls new.disk) (calls new.disk) (images new.disk) (Recovers (after_commits opening commits)))
  behind recover (Ok x) old new logs = λ opening commits k h l.
      subst (λ (cs : List Commit). EachImage (calls new.disk) (calls new.disk) (images new.disk) (Recovers (after_commits opening cs))) (all_taken commits)
      (recover opening commits (length commits) new (logs opening commits k h) l)
  behind recover (Err e) old new logs = tt
