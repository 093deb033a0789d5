-- What mounting leaves of the disks.
use Rattle.std.proofs.Common.{◌≡◌, ◌≤◌, inl, inr, ℕ, List, [], Option, None, Some, Result, refl, sym, ap, subst, ◌∙◌, arith}
use Rattle.std.specs.Prelude.{Ok, Err, IfErr, IsErrAnd, IsSome}
use Rattle.aq_base.specs.declared.DbId.TheVariants.{Home, Away}
use Rattle.aq_disk.specs.declared.device.Disk.{Ghosts}
use Rattle.queue_rows.specs.declared.history.SessionScript.{SessionScript}
use Rattle.queue_rows.specs.declared.tables.Tables.{Tables}
use Rattle.queue_rows.specs.World.{World, opened}
use Rattle.redo_journal.specs.Journaled.{Journaled}
use Rattle.redo_records.specs.Recovered.{recovered}
use Rattle.durable_state.specs.Compacting.{IsFresh}
use Rattle.durable_state.specs.Held.{Held, HasFailed}
use Rattle.durable_state.specs.LogFault.{LogFault}
use Rattle.durable_state.specs.LogFault.TheVariants as faults
use Rattle.durable_state.specs.LogMounting.{IsMounted, IsRead, IsRefused, IsRenewable, disk_in}
use Rattle.durable_state.specs.Mounting.{IsMountedOn}
use Rattle.durable_state.specs.Recovery.{IsRecovered}
use Rattle.aq_world.specs.Mounting.{AreMounted, HasMountCause, IsUnopened, LosesNothing, WasOnlyRead, WasRead, cause_of}
use Rattle.aq_world.specs.declared.mount.MountCause.{MountCause}
use Rattle.aq_world.specs.declared.mount.MountCause.TheVariants as causes

-- what is said of an error that is passed up
pub if_passed : {T E : Type 0} (r : Result T E) (e : E) (P : E → Type 0) → IsErrAnd r (λ x. x ≡ e) → P e → IfErr r P
if_passed (Ok x) e P is p = absurd is
if_passed (Err x) e P is p = subst P (sym is) p

pub if_err_more : {T E : Type 0} (r : Result T E) (P Q : E → Type 0) → ((x : E) → P x → Q x) → IfErr r P → IfErr r Q
if_err_more (Ok x) P Q more p = tt
if_err_more (Err x) P Q more p = more x p

home_tables : (home away : Tables) (scripts : List SessionScript) → (opened home away scripts).home.tables ≡ home
unfolding opened
home_tables home away scripts = refl

away_tables : (home away : Tables) (scripts : List SessionScript) → (opened home away scripts).away.tables ≡ away
unfolding opened
away_tables home away scripts = refl

no_ok : {T : Type 0} (answer : Result T ℕ) (x : T) (at : ℕ) {P : Type 0} → answer ≡ Ok x → answer ≡ Err at → P
no_ok answer x at is other = absurd (cc)

module _ {D : Type 0} (device : Ghosts D) where
  pub renewable : (disk : D) (t : Tables) (j : Journaled D) → IsRead device disk t j → IsRenewable t j
  renewable disk t j r = record { sound = r.sound; empty = r.empty; unfailed = r.unfailed }

  -- ---- nothing is lost

  loses_self : (disk : D) → LosesNothing device disk disk
  loses_self disk = record {
    kept = λ settled bytes told call lo hi image is.
        let same : call ≡ device.calls disk = omega (arith, lo, hi) in
        ap recovered (settled bytes told image (subst (λ (n : ℕ). device.is_image disk n image) same is));
    written = λ settled bytes told call lo hi image is _ _.
        let same : call ≡ device.calls disk = omega (arith, lo, hi) in
        settled bytes told image (subst (λ (n : ℕ). device.is_image disk n image) same is);
  }

  loses_read : (disk : D) (t : Tables) (j : Journaled D) → IsRead device disk t j → LosesNothing device disk j.disk
  loses_read disk t j r = record { kept = r.crash; written = λ settled bytes told call lo hi image is begun _. r.just.unwritten settled bytes told call lo hi image is begun }

  pub loses_mounted : (disk : D) (t : Tables) (j : Journaled D) → IsMounted device disk t j → LosesNothing device disk j.disk
  loses_mounted disk t j m = record { kept = m.crash; written = m.written }

  loses_refused : (disk : D) (e : LogFault D) → IsRefused device disk e → LosesNothing device disk (disk_in e)
  loses_refused disk e r = record { kept = r.crash; written = r.written }

  -- ---- why

  is_recovered : (disk : D) (t : Tables) (j : Journaled D) → IsRead device disk t j → IsRecovered device.seen disk
  is_recovered disk t j r bytes told = (t, r.recovers bytes told)

  was_only_read : (disk : D) (t : Tables) (j : Journaled D) → IsRead device disk t j → WasOnlyRead device disk j.disk
  was_only_read disk t j r = record { read = record { recovered = is_recovered disk t j r; fine = r.fine }; just = r.just }

  -- home was not read
  pub home_unread : (home away : D) (e : LogFault D) → IsRefused device home e → IsUnopened device (cause_of Home e) home away (disk_in e) away
  home_unread home away (faults.Fault d) r = record { cause_is = (r.fault tt, inl refl); home_disk = loses_refused home (faults.Fault d) r; away_disk = loses_self away }
  home_unread home away (faults.Damaged at d) r = record { cause_is = (r.damaged, r.no_fault (λ none. none), inl refl); home_disk = loses_refused home (faults.Damaged at d) r; away_disk = loses_self away }
  home_unread home away (faults.Memory d) r = record { cause_is = (r.no_fault (λ none. none), refl); home_disk = loses_refused home (faults.Memory d) r; away_disk = loses_self away }

  module _ (home away : D) (t : Tables) (j : Journaled D) (read : IsRead device home t j) where
    -- home was, and away was not
    away_why : (e : LogFault D) → IsRefused device away e → HasMountCause device (cause_of Away e) home away j.disk (disk_in e)
    away_why (faults.Fault d) r = (inl (was_only_read home t j read), r.fault tt)
    away_why (faults.Damaged at d) r = ((was_only_read home t j read).read, λ bytes told. was_only_read home t j read, r.damaged, r.no_fault (λ none. none))
    away_why (faults.Memory d) r = (read.fine, r.no_fault (λ none. none))

    pub away_unread : (e : LogFault D) → IsRefused device away e → IsUnopened device (cause_of Away e) home away j.disk (disk_in e)
    away_unread e r = record { cause_is = away_why e r; home_disk = loses_read home t j read; away_disk = loses_refused away e r }

    module _ (u : Tables) (k : Journaled D) (also : IsRead device away u k) where
      -- both were, and home was not written anew
      home_why : (e : LogFault D) → IsRefused device home e → HasMountCause device (cause_of Home e) home away (disk_in e) k.disk
      home_why (faults.Fault d) r = (r.fault tt, inr (was_only_read away u k also))
      home_why (faults.Damaged at d) r = (r.damaged, r.no_fault (λ none. none), inr (was_only_read away u k also))
      home_why (faults.Memory d) r = (r.no_fault (λ none. none), also.fine)

      pub home_unrenewed : (e : LogFault D) → IsRefused device home e → IsUnopened device (cause_of Home e) home away (disk_in e) k.disk
      home_unrenewed e r = record { cause_is = home_why e r; home_disk = loses_refused home e r; away_disk = loses_read away u k also }

      -- home was, and away was not
      anew_why : (v : Tables) (l : Journaled D) → IsMounted device home v l → (e : LogFault D) → IsRefused device away e → HasMountCause device (cause_of Away e) home away l.disk (disk_in e)
      anew_why v l m (faults.Fault d) r = (inr (record { recovered = is_recovered home t j read; fine = m.fine }, is_recovered away u k also), r.fault tt)
      anew_why v l m (faults.Damaged at d) r =
          (record { recovered = is_recovered home t j read; fine = m.fine }, λ bytes told. no_ok (recovered bytes) u at (also.recovers bytes told) (r.damaged bytes told), r.damaged, r.no_fault (λ none. none))
      anew_why v l m (faults.Memory d) r = (m.fine, r.no_fault (λ none. none))

      pub away_unrenewed : (v : Tables) (l : Journaled D) → IsMounted device home v l → (e : LogFault D) → IsRefused device away e → IsUnopened device (cause_of Away e) home away l.disk (disk_in e)
      away_unrenewed v l m e r = record { cause_is = anew_why v l m e r; home_disk = loses_mounted home v l m; away_disk = loses_refused away e r }

  -- both were mounted, but there was no memory for the run
  pub unopened_memory : (home away : D) (t u : Tables) (j k : Journaled D) → IsMounted device home t j → IsMounted device away u k → (first second : D) → first ≡ j.disk → second ≡ k.disk
      → IsUnopened device causes.Memory home away first second
  unopened_memory home away t u j k m n first second one two =
      subst (λ (d : D). IsUnopened device causes.Memory home away d second) (sym one)
      (subst (λ (d : D). IsUnopened device causes.Memory home away j.disk d) (sym two)
      (record { cause_is = (m.fine, n.fine); home_disk = loses_mounted home t j m; away_disk = loses_mounted away u k n }))

  -- with the cause and the disk as they are handed on
  pub unopened_so : (cause was : MountCause) (home away home_after home_was away_after away_was : D) → cause ≡ was → home_after ≡ home_was → away_after ≡ away_was
      → IsUnopened device was home away home_was away_was → IsUnopened device cause home away home_after away_after
  unopened_so cause was home away home_after home_was away_after away_was one two three is =
      subst (λ (c : MountCause). IsUnopened device c home away home_after away_after) (sym one)
      (subst (λ (d : D). IsUnopened device was home away d away_after) (sym two)
      (subst (λ (d : D). IsUnopened device was home away home_was d) (sym three) is))

  -- ---- the run

  pub mounted_on : (disk : D) (t : Tables) (j : Journaled D) → IsMounted device disk t j → IsMountedOn device.seen device.is_image device.calls device.faults disk t j
  mounted_on disk t j m = record {
    logs = m.logs;
    crash = λ settled bytes told call lo hi image is. m.crash settled bytes told call lo hi image is ∙ m.recovers bytes told;
    later = m.later;
    unfailed = m.unfailed;
    fine = m.fine;
  }

  module _ (home away : D) (t u : Tables) (j k : Journaled D) (m : IsMounted device home t j) (n : IsMounted device away u k) (v : Held D) (one : v.world.home.opening ≡ t) (two : v.world.away.opening ≡ u)
      (first : v.home ≡ j) (second : v.away ≡ k) where
    pub are_mounted : AreMounted device home away v
    are_mounted = record {
      home_log = subst (λ (x : Journaled D). IsMounted device home v.world.home.opening x) (sym first) (subst (λ (x : Tables). IsMounted device home x j) (sym one) m);
      away_log = subst (λ (x : Journaled D). IsMounted device away v.world.away.opening x) (sym second) (subst (λ (x : Tables). IsMounted device away x k) (sym two) n);
    }

    pub is_fresh : (scripts : List SessionScript) → v.world ≡ opened t u scripts → v.entries ≡ [] → IsFresh v
    is_fresh scripts opens none =
        let a = are_mounted in
        record {
          home_tables = ap (λ (w : World). w.home.tables) opens ∙ home_tables t u scripts ∙ sym one;
          away_tables = ap (λ (w : World). w.away.tables) opens ∙ away_tables t u scripts ∙ sym two;
          home_sound = a.home_log.sound;
          away_sound = a.away_log.sound;
          entries = none;
          home_queued = a.home_log.empty;
          away_queued = a.away_log.empty;
          home_fine = a.home_log.unfailed;
          away_fine = a.away_log.unfailed;
        }

none_some : (o : Option ℕ) → o ≡ None → IsSome o → ⊥
none_some None e some = absurd (cc)
none_some (Some x) e some = absurd (cc)

-- no call on a disk has failed yet
pub none_failed : {D : Type 0} (v : Held D) (h a : Journaled D) → v.home ≡ h → v.away ≡ a → h.failed_at ≡ None → a.failed_at ≡ None → HasFailed v → ⊥
none_failed {D} v h a e f p q (inl some) = none_some v.home.failed_at (ap (λ (j : Journaled D). j.failed_at) e ∙ p) some
none_failed {D} v h a e f p q (inr some) = none_some v.away.failed_at (ap (λ (j : Journaled D). j.failed_at) f ∙ q) some
