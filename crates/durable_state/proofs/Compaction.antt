-- The logs of a run in which nothing was done are compacted.
use Rattle.std.proofs.Common.{◌≡◌, refl, sym, ap, subst}
use Rattle.aq_base.specs.declared.DbId.TheVariants.{Home, Away}
use Rattle.aq_disk.specs.Causes.{Rose}
use Rattle.aq_disk.specs.declared.device.Disk.{Ghosts}
use Rattle.commit_log.specs.CompactAnswer.{IsFault, disk_in}
use Rattle.commit_log.specs.CompactFault.{CompactFault}
use Rattle.commit_log.specs.CompactFault.TheVariants as faults
use Rattle.commit_log.specs.Compacting.{IsCompacted, KeepsTables}
use Rattle.queue_rows.specs.declared.tables.Tables.{Tables}
use Rattle.redo_journal.specs.Journaled.{Journaled}
use Rattle.durable_state.specs.Compacting.{AreCompacted, HasCompactCause, KeepBoth, cause_of}
use Rattle.durable_state.specs.Held.{Held}
use Rattle.durable_state.specs.declared.compacting.CompactCause.{CompactCause}

module _ {D : Type 0} (device : Ghosts D) where
  -- ---- why

  home_why : (j away : Journaled D) (e : CompactFault D) → (IsFault e → Rose (device.faults j.disk) (device.faults (disk_in e))) → ((IsFault e → ⊥) → disk_in e ≡ j.disk)
      → HasCompactCause device (cause_of Home e) j.disk away.disk (disk_in e) away.disk
  home_why j away (faults.Fault d) fault memory = (fault tt, refl)
  home_why j away (faults.Memory d) fault memory = (ap device.faults (memory (λ none. none)), refl)

  away_why : (home j : Journaled D) (new : D) (e : CompactFault D) → device.faults new ≡ device.faults home.disk → (IsFault e → Rose (device.faults j.disk) (device.faults (disk_in e)))
      → ((IsFault e → ⊥) → disk_in e ≡ j.disk) → HasCompactCause device (cause_of Away e) home.disk j.disk new (disk_in e)
  away_why home j new (faults.Fault d) fine fault memory = (fine, fault tt)
  away_why home j new (faults.Memory d) fine fault memory = (fine, memory (λ none. none))

  -- with the cause and the disks as they are handed on
  cause_so : (cause was : CompactCause) (home away first first_was second second_was : D) → cause ≡ was → first ≡ first_was → second ≡ second_was → HasCompactCause device was home away first_was second_was
      → HasCompactCause device cause home away first second
  cause_so cause was home away first first_was second second_was one two three is =
      subst (λ (c : CompactCause). HasCompactCause device c home away first second) (sym one)
      (subst (λ (d : D). HasCompactCause device was home away d second) (sym two)
      (subst (λ (d : D). HasCompactCause device was home away first_was d) (sym three) is))

  pub home_cause : (cause : CompactCause) (j away : Journaled D) (first second : D) (e : CompactFault D) → cause ≡ cause_of Home e → first ≡ disk_in e → second ≡ away.disk
      → (IsFault e → Rose (device.faults j.disk) (device.faults (disk_in e))) → ((IsFault e → ⊥) → disk_in e ≡ j.disk) → HasCompactCause device cause j.disk away.disk first second
  home_cause cause j away first second e one two three fault memory =
      cause_so cause (cause_of Home e) j.disk away.disk first (disk_in e) second away.disk one two three (home_why j away e fault memory)

  pub away_cause : (cause : CompactCause) (home j : Journaled D) (first second : D) (e : CompactFault D) → cause ≡ cause_of Away e → second ≡ disk_in e → device.faults first ≡ device.faults home.disk
      → (IsFault e → Rose (device.faults j.disk) (device.faults (disk_in e))) → ((IsFault e → ⊥) → disk_in e ≡ j.disk) → HasCompactCause device cause home.disk j.disk first second
  away_cause cause home j first second e one two fine fault memory =
      cause_so cause (cause_of Away e) home.disk j.disk first first second (disk_in e) one refl two (away_why home j first e fine fault memory)

  -- ---- what is kept

  module _ (v : Held D) (t u : Tables) (one : t ≡ v.world.home.opening) (two : u ≡ v.world.away.opening) where
    pub keep_both : (first second home away : D) → home ≡ first → away ≡ second → KeepsTables device t v.home first → KeepsTables device u v.away second → KeepBoth device v home away
    keep_both first second home away same also k l = record {
      home_log = subst (λ (x : Tables). KeepsTables device x v.home home) one (subst (λ (d : D). KeepsTables device t v.home d) (sym same) k);
      away_log = subst (λ (x : Tables). KeepsTables device x v.away away) two (subst (λ (d : D). KeepsTables device u v.away d) (sym also) l);
    }

    pub are_compacted : (home away : D) → IsCompacted device t v.home home → IsCompacted device u v.away away → AreCompacted device v home away
    are_compacted home away k l = record {
      home_log = subst (λ (x : Tables). IsCompacted device x v.home home) one k;
      away_log = subst (λ (x : Tables). IsCompacted device x v.away away) two l;
    }
