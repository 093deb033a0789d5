-- A flush writes home first.
use Rattle.std.proofs.Common.{◌≡◌, ◌⊎◌, inl, inr, Bool, true, false, ℕ, List, [], Option, None, IsSome, Result, refl, sym, ap, ◌∙◌}
use Rattle.std.specs.Prelude.{Ok, Err, OnErr}
use Rattle.redo_journal.specs.Journaled.{Journaled}
use Rattle.durable_state.specs.Held.{Held, HasFailed}
use Rattle.durable_state.specs.Writing.{WritesHomeFirst}
use Rattle.durable_state.proofs.Writing.{not_failed}

pub at_err : {T E P : Type 0} (r : Result T E) → P → OnErr r P
at_err (Ok x) p = _
at_err (Err e) p = p

module _ {D : Type 0} (old_away home away : Journaled D) where
  -- home's disk failed, and away's log was left alone
  pub home_stopped : away ≡ old_away → old_away.failed_at ≡ None → WritesHomeFirst old_away home away
  home_stopped same fine = record { away_waits = λ _. same; home_done = λ some. not_failed away.failed_at (ap (λ (j : Journaled D). j.failed_at) same ∙ fine) some }

  -- all that was queued at home was written
  pub home_written : home.failed_at ≡ None → home.queued ≡ [] → WritesHomeFirst old_away home away
  home_written fine none = record { away_waits = λ some. not_failed home.failed_at fine some; home_done = λ _. (fine, none) }

-- no call has failed
pub none_stopped : {D : Type 0} (old new : Held D) → (HasFailed new → ⊥) → WritesHomeFirst old.away new.home new.away
none_stopped old new fine = record { away_waits = λ some. absurd (fine (inl some)); home_done = λ some. absurd (fine (inr some)) }
