-- The laws, of any type of disks.
use Rattle.std.proofs.Common.{ℕ, List, sym, subst, arith}
use Rattle.queue_rows.specs.declared.tables.Tables.{Tables}
use Rattle.history_laws.specs.Durability.{made}
use Rattle.crash_laws.specs.Crash.{Recovers, with_entry}
use Rattle.crash_laws.specs.CrashLaws.{OpeningSurvives, CallsPass, FlushLeaves, EntryComes, FlushComes}
use Rattle.crash_laws.proofs.Splitting.{durable_same, durable_all}
use Rattle.crash_laws.proofs.Surviving.{opening_survives, time_passes, quiet_entry_comes, entry_comes, all_made, either_is_first}

pub flush_leaves : FlushLeaves
flush_leaves r k image least most either = either_is_first r k image least most either

module _ {D : Type 0} (images : D → ℕ → List ℕ → Type 0) (calls : D → ℕ) where
  pub opening_stands : OpeningSurvives images calls
  opening_stands db opening start disk le each = opening_survives db opening start (calls disk) (images disk) le each

  pub calls_pass : CallsPass images calls
  calls_pass r old new s later earlier each = time_passes r (calls old) (calls new) (images old) (images new) s later earlier each

  pub quiet_comes : EntryComes images calls
  quiet_comes r e disk s quiet at = quiet_entry_comes r e (calls disk) (images disk) s at (durable_same r.db e r.entries quiet)

  pub flush_comes : FlushComes images calls
  flush_comes r e disk s flush at each =
      let now = with_entry e r in
      let durably = durable_all r.db e r.entries flush in
      entry_comes r e (calls disk) (images disk) s at (λ call from to image left. record {
        k = made r.db now.entries;
        at_least = omega (arith, durably);
        at_most = omega arith;
        recovers = subst (λ (t : Tables). Recovers t image) (sym (all_made now)) (each call from to image left);
      })
